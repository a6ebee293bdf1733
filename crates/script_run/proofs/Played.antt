-- The packets that the writes complete which a script's lines name.
use Rattle.script_run.proofs.Imports.{command_of, append-nil, flat_map-append, ◌≡◌, refl, sym, ap, subst, ◌∙◌, ℕ, zero, suc, ◌+◌, ◌*◌, ◌≤◌, Bool, true, false, nat_eq, List, [], ◌∷◌, ◌++◌, length, map, None, arith, length-append, sum, if◌then◌else◌, flat_map, range_with_len, get_or-append_seam, sum_by-cons, plays, joined, cut_of, packets_in, few_in, are_joined, are_counted, Line, Feed, Tick, CommandLine, Scripted, writes_of, named_by, named_in, named_among, ClientCommand, Batches, batch_at, played, plays_of, commands_in, commands_among, bytes_written}
use Rattle.std.proofs.lemmas.List.{append_assoc}
use Rattle.script_run.proofs.Counting.{total, total_le, total_same, total_first, sum_of, weigh_append}

-- ------ the writes that lines name

-- the writes of commands
abbrev writes_in : List ClientCommand → List ℕ
writes_in cs = flat_map (λ (c : ClientCommand). named_by c.verb) cs

all_worth : (f : ℕ → ℕ) (cs : List ClientCommand) → sum_of (λ (c : ClientCommand). sum_of f (named_by c.verb)) cs ≡ sum_of f (writes_in cs)
all_worth f [] = refl
all_worth f (c ∷ cs) = omega (arith, weigh_append f (named_by c.verb) (writes_in cs), all_worth f cs)

named_line : (client : ℕ) (batches : Batches) (l : Line) → writes_in (commands_in client batches l) ≡ named_in client l
named_line client batches (CommandLine line who target v) = go (nat_eq who client) where
  go : (b : Bool) → writes_in (if b then command_of batches line target v ∷ [] else []) ≡ (if b then named_by v else [])
  go true = append-nil (named_by v)
  go false = refl
named_line client batches (Feed n) = refl
named_line client batches (Tick n) = refl

pub writes_named : (client : ℕ) (batches : Batches) (lines : List Line) → writes_in (commands_among client batches lines) ≡ named_among client lines
writes_named client batches [] = refl
writes_named client batches (l ∷ lines) =
    flat_map-append (λ (c : ClientCommand). named_by c.verb) (commands_in client batches l) (commands_among client batches lines)
    ∙ ap (λ ws. ws ++ writes_in (commands_among client batches lines)) (named_line client batches l)
    ∙ ap (λ ws. named_in client l ++ ws) (writes_named client batches lines)

-- ------ the packets of writes

-- how many packets a write completes
abbrev pub packets_at : Batches → ℕ → ℕ
packets_at batches write = length (packets_in (batch_at batches write))

from_place : (before bs : Batches) → sum_of (packets_at (before ++ bs)) (range_with_len (length before) (length bs)) ≡ length (flat_map packets_in bs)
from_place before [] = refl
from_place before (b ∷ bs) =
    let here : packets_at (before ++ b ∷ bs) (length before) ≡ length (packets_in b) = ap (λ o. length (packets_in o)) (get_or-append_seam before b bs None) in
    let long : length (before ++ b ∷ []) ≡ length before + 1 = length-append before (b ∷ []) in
    let later : sum_of (packets_at ((before ++ b ∷ []) ++ bs)) (range_with_len (length (before ++ b ∷ [])) (length bs)) ≡ length (flat_map packets_in bs) = from_place (before ++ b ∷ []) bs in
    let behind : sum_of (packets_at (before ++ b ∷ bs)) (range_with_len (length before + 1) (length bs)) ≡ length (flat_map packets_in bs) =
    subst (λ n. sum_of (packets_at (before ++ b ∷ bs)) (range_with_len n (length bs)) ≡ length (flat_map packets_in bs)) long
    (subst (λ xs. sum_of (packets_at xs) (range_with_len (length (before ++ b ∷ [])) (length bs)) ≡ length (flat_map packets_in bs)) (append_assoc before (b ∷ []) bs) later) in
    let first : sum_of (packets_at (before ++ b ∷ bs)) (range_with_len (length before) (length (b ∷ bs)))
    ≡ packets_at (before ++ b ∷ bs) (length before) + sum_of (packets_at (before ++ b ∷ bs)) (range_with_len (length before + 1) (length bs)) = refl in
    omega (arith, first, here, behind, length-append (packets_in b) (flat_map packets_in bs))

all_played : (ws : List (List ℕ)) → sum_of (packets_at (plays ws)) (range_with_len 0 (length ws)) ≡ length (cut_of ws).packets
all_played ws =
    ap (λ n. sum_of (packets_at (plays ws)) (range_with_len 0 n)) (sym (are_counted ws)) ∙ from_place [] (plays ws) ∙ ap length (are_joined ws)

-- Where the lines of a client name its writes each once, the packets that these complete are those that the client plays.
pub named_once : (client : ℕ) (script : Scripted) → named_among client script.lines ≡ range_with_len 0 (length (writes_of client script.writes))
    → sum_of (λ (c : ClientCommand). sum_of (packets_at (plays_of client script)) (named_by c.verb)) (commands_among client (plays_of client script) script.lines) ≡ length (played client script)
named_once client script numbered =
    all_worth (packets_at (plays_of client script)) (commands_among client (plays_of client script) script.lines)
    ∙ ap (sum_of (packets_at (plays_of client script))) (writes_named client (plays_of client script) script.lines ∙ numbered) ∙ all_played (writes_of client script.writes)

-- ------ bytes

joined_long : (ws : List (List ℕ)) → length (joined ws) ≡ sum (map (λ bytes. length bytes) ws)
joined_long [] = refl
joined_long (w ∷ ws) = omega (arith, length-append w (joined ws), sum_by-cons (λ n. n) (length w) (map (λ bytes. length bytes) ws), joined_long ws)

-- how many bytes these writes have
abbrev bytes_of : List (List ℕ) → ℕ
bytes_of writes = sum (map (λ bytes. length bytes) writes)

played_few : (client : ℕ) (script : Scripted) → 188 * length (played client script) ≤ bytes_of (writes_of client script.writes)
played_few client script =
    let ws = writes_of client script.writes in
    omega (arith, few_in (joined ws), joined_long ws)

all_writes : (writes : List (List (List ℕ))) (n : ℕ) → total (λ d. bytes_of (writes_of d writes)) n ≤ sum (map bytes_of writes)
all_writes [] n = omega (arith, total_le (λ d. bytes_of (writes_of d [])) (λ d. 0) n (λ i lt. omega arith), total_same 0 n)
all_writes (w ∷ writes) zero = omega arith
all_writes (w ∷ writes) (suc n) =
    omega (arith, total_first (λ d. bytes_of (writes_of d (w ∷ writes))) n, all_writes writes n, sum_by-cons (λ k. k) (bytes_of w) (map bytes_of writes))

total_188 : (f : ℕ → ℕ) (n : ℕ) → total (λ i. 188 * f i) n ≡ 188 * total f n
total_188 f zero = omega arith
total_188 f (suc n) = let deeper = total_188 f n in omega (arith, deeper)

-- what the clients play has no more bytes than they write
pub all_few : (script : Scripted) (n : ℕ) → 188 * total (λ d. length (played d script)) n ≤ bytes_written script
all_few script n =
    omega (
      arith,
      total_188 (λ d. length (played d script)) n,
      total_le (λ d. 188 * length (played d script)) (λ d. bytes_of (writes_of d script.writes)) n (λ d lt. played_few d script),
      all_writes script.writes n,
    )
