-- A segment's bytes in two pieces: those that it has of its own, and those in the last packet.
use Rattle.section_parse.proofs.Imports.{min, ◌≡◌, ◌≢◌, ◌⊎◌, inl, inr, ℕ, ◌+◌, ◌-◌, ◌<◌, ◌≤◌, Bool, true, false, List, [], ◌++◌, length, take, drop, get_or, Option, Some, None, refl, sym, ap, ◌∙◌, arith, append_assoc, length-append, length-drop, append-nil, drop-take, take-append-drop, take-take, drop-drop, take_all, length-take, get_or_append_left, drop-append_seam, take-append_seam, cases_lt, nat_tests, section_length, has_section, option_map, IfSome, MatchOption, payload_start, carried, pointed, Assembly, is_stopped, sections_of_open, left_of_open, longer, opened, taken, Held, unread, between, Advances}
use Rattle.section_parse.proofs.Reading.{HasSection-from, has_section-from, section_length-append, stopped-none}

-- the bytes between two places, cut
pub between-drop : (from n to : ℕ) (bytes : List ℕ) → n ≤ to - from → between (from + n) to bytes ≡ drop n (between from to bytes)
between-drop from n to bytes h =
    let m : ℕ = to - (from + n) in
    let e : to - from ≡ n + m = omega arith in
    rw (e, drop-take n m (drop from bytes), drop-drop n from bytes) refl

pub between-take : (from n to : ℕ) (bytes : List ℕ) → n ≤ to - from → between from (from + n) bytes ≡ take n (between from to bytes)
between-take from n to bytes h =
    let e : from + n - from ≡ n = omega arith in
    rw (e, take-take n (to - from) (drop from bytes) h) refl

pub between-length : (from to : ℕ) (bytes : List ℕ) → length (between from to bytes) ≤ to - from
between-length from to bytes = omega (arith, length-take (to - from) (drop from bytes))

-- the first bytes of the second piece, moved to the first
pub moved : (b p : List ℕ) (n : ℕ) → (b ++ take n p) ++ drop n p ≡ b ++ p
moved b p n = append_assoc b (take n p) (drop n p) ∙ ap (λ (l : List ℕ). b ++ l) (take-append-drop n p)

-- a section that stands in the packet
pub advance-packet : (b : List ℕ) (k from to n : ℕ) (packet : List ℕ) → k ≡ 0 → n ≤ length (between from to packet) → has_section (between from to packet) ≡ true → n ≡ 3 + section_length (between from to packet)
    → Advances (Some (take k b ++ between from to packet)) (Some (between from (from + n) packet)) (Some (take k (take k b) ++ between (from + n) to packet))
advance-packet b k from to n packet e w h m =
    let fits : n ≤ to - from = omega (arith, between-length from to packet, w) in
    rw (e, between-take from n to packet fits, between-drop from n to packet fits) (h, ap (λ i. take i (between from to packet)) m, ap (λ i. Some (drop i (between from to packet))) m)

-- short of a header, or stopped: no section
pub short-none : (s : List ℕ) (n : ℕ) → 3 ≤ n → length s < n → (3 ≤ length s → n ≡ 3 + section_length s) → has_section s ≡ false
short-none s n least short same = go (has_section s) refl
  where
    go : (b : Bool) → has_section s ≡ b → b ≡ false
    go false e = refl
    go true e = let k = HasSection-from s e in let h = k.header in let w = k.whole in let m = same h in absurd (omega arith)

-- what was wanted was filled in as far as there were bytes
pub record Filled (b p : List ℕ) (wanted n : ℕ) : Type 0 where
  pub count : n ≡ min (wanted - length b) (length p)

filled-length : (b p : List ℕ) (wanted n : ℕ) → Filled b p wanted n → length (b ++ take n p) ≡ length b + n
filled-length b p wanted n f = let c = f.count in omega (arith, length-append b (take n p), length-take n p)

filled-all : (b p : List ℕ) (wanted n : ℕ) → Filled b p wanted n → length (b ++ take n p) < wanted → length (b ++ p) < wanted
filled-all b p wanted n f h = let c = f.count in omega (arith, filled-length b p wanted n f, length-append b p)

-- no header, or none that a section can follow
header-by : (b p : List ℕ) (n : ℕ) → Filled b p 3 n → (length (b ++ take n p) < 3) ⊎ (is_stopped (b ++ take n p) ≡ true) → has_section (b ++ p) ≡ false
header-by b p n f (inl h) = let s = filled-all b p 3 n f h in short-none (b ++ p) 3 (omega arith) s (λ three. absurd (omega (arith, three, s)))
header-by b p n f (inr h) = let e = stopped-none (b ++ take n p) (drop n p) h in rw (moved b p n) at e

pub header-none : (b p : List ℕ) (n : ℕ) → Filled b p 3 n → (length (b ++ take n p) < 3) ⊎ (is_stopped (b ++ take n p) ≡ true) → has_section (b ++ take n p) ≡ false
header-none b p n f (inl h) = short-none (b ++ take n p) 3 (omega arith) h (λ three. absurd (omega (arith, three, h)))
header-none b p n f (inr h) = let e = stopped-none (b ++ take n p) [] h in rw (append-nil (b ++ take n p)) at e

left-is : (b p c rest : List ℕ) (k : ℕ) → k ≡ length c → c ++ rest ≡ b ++ p → Some (take k c ++ rest) ≡ Some (b ++ p)
left-is b p c rest k e h = rw (take_all k c (omega arith)) (ap (λ (l : List ℕ). Some l) h)

-- nothing is found where the header is short or stops
pub advance-header : (b c : List ℕ) (k from to n : ℕ) (packet : List ℕ) → Filled b (between from to packet) 3 n → c ≡ b ++ take n (between from to packet) → k ≡ length c
    → (length c < 3) ⊎ (is_stopped c ≡ true) → Advances (Some (b ++ between from to packet)) None (Some (take k c ++ between (from + n) to packet))
advance-header b c k from to n packet f e l h =
    let p = between from to packet in
    let count = f.count in
    let fits : n ≤ to - from = omega (arith, between-length from to packet) in
    let g : (length (b ++ take n p) < 3) ⊎ (is_stopped (b ++ take n p) ≡ true) = rw e at h in
    (header-by b p n f g, rw (between-drop from n to packet fits) (left-is b p c (drop n p) k l (rw e (moved b p n))))

-- a header of a section, whose bytes are filled in
pub record Announced (c : List ℕ) (len : ℕ) : Type 0 where
  pub header : 3 ≤ length c
  pub length_is : len ≡ 3 + section_length c
  pub goes_on : is_stopped c ≡ false

announced-has : (c t : List ℕ) (len : ℕ) → Announced c len → len ≤ length (c ++ t) → has_section (c ++ t) ≡ true
announced-has c t len a h =
    let three = a.header in
    let is = a.length_is in
    let on = a.goes_on in
    let e = section_length-append c t three in
    let table : get_or c 0 0 ≢ 255 = grind (arith, nat_tests) in
    let most : section_length c ≤ 4093 = grind (arith, nat_tests) in
    has_section-from (c ++ t) (record {
      table = rw (get_or_append_left c t 0 0 (omega arith)) table;
      header = omega (arith, length-append c t);
      most = rw e most;
      whole = rw e (omega arith);
    })

announced-none : (c t : List ℕ) (len : ℕ) → Announced c len → length (c ++ t) < len → has_section (c ++ t) ≡ false
announced-none c t len a h = let is = a.length_is in short-none (c ++ t) len (omega arith) h (λ _. rw (section_length-append c t a.header) a.length_is)

-- bytes in which no section stands are fewer than they announce
announced-more : (b p c : List ℕ) (n len : ℕ) → has_section b ≡ false → Filled b p 3 n → c ≡ b ++ take n p → Announced c len → length c ≤ len
announced-more b p c n len d f e a = go (cases_lt len (length c))
  where
    go : (len < length c) ⊎ (length c ≤ len) → length c ≤ len
    go (inr h) = h
    go (inl h) =
        let is = a.length_is in
        let count = f.count in
        let l = ap length e in
        let m = filled-length b p 3 n f in
        let none : n ≡ 0 = omega arith in
        let same : c ≡ b = e ∙ rw none (append-nil b) in
        let has : has_section (c ++ []) ≡ true = announced-has c [] len a (omega (arith, length-append c [])) in
        absurd (let k : has_section b ≡ true = (rw (append-nil c, same) at has) in let z = sym k ∙ d in cc)

pub advance-short : (b c d : List ℕ) (k from to n m len : ℕ) (packet : List ℕ) → Filled b (between from to packet) 3 n → c ≡ b ++ take n (between from to packet)
    → Announced c len → Filled c (between (from + n) to packet) len m → d ≡ c ++ take m (between (from + n) to packet) → k ≡ length d → k < len
    → Advances (Some (b ++ between from to packet)) None (Some (take k d ++ between (from + n + m) to packet))
advance-short b c d k from to n m len packet f e a g h l s =
    let p = between from to packet in
    let q = between (from + n) to packet in
    let count = f.count in
    let more = g.count in
    let fits : n ≤ to - from = omega (arith, between-length from to packet) in
    let fits2 : m ≤ to - (from + n) = omega (arith, between-length (from + n) to packet) in
    let rest : q ≡ drop n p = between-drop from n to packet fits in
    let whole : c ++ q ≡ b ++ p = rw (e, rest) (moved b p n) in
    let short : length (c ++ take m q) < len = omega (arith, ap length h) in
    let none : has_section (c ++ q) ≡ false = announced-none c q len a (filled-all c q len m g short) in
    (rw whole at none, rw (between-drop (from + n) m to packet fits2) (left-is b p d (drop m q) k l (rw h (moved c q m ∙ whole))))

pub advance-whole : (b c d : List ℕ) (from to n m len : ℕ) (packet : List ℕ) → has_section b ≡ false → Filled b (between from to packet) 3 n → c ≡ b ++ take n (between from to packet)
    → Announced c len → Filled c (between (from + n) to packet) len m → d ≡ c ++ take m (between (from + n) to packet) → len ≤ length d
    → Advances (Some (b ++ between from to packet)) (Some d) (Some (take 0 d ++ between (from + n + m) to packet))
advance-whole b c d from to n m len packet none f e a g h s =
    let p = between from to packet in
    let q = between (from + n) to packet in
    let count = f.count in
    let more = g.count in
    let fits : n ≤ to - from = omega (arith, between-length from to packet) in
    let fits2 : m ≤ to - (from + n) = omega (arith, between-length (from + n) to packet) in
    let rest : q ≡ drop n p = between-drop from n to packet fits in
    let whole : c ++ q ≡ b ++ p = rw (e, rest) (moved b p n) in
    let all : d ++ drop m q ≡ c ++ q = rw h (moved c q m) in
    let below = announced-more b p c n len none f e a in
    let is : length d ≡ len = omega (arith, ap length h, filled-length c q len m g) in
    let has : has_section (c ++ q) ≡ true = announced-has c q len a (omega (arith, ap length all, length-append d (drop m q))) in
    let announced : 3 + section_length (c ++ q) ≡ length d = rw (section_length-append c q a.header) (sym a.length_is ∙ sym is) in
    let first : d ≡ take (length d) (d ++ drop m q) = sym (take-append_seam d (drop m q)) in
    let behind : drop m q ≡ drop (length d) (d ++ drop m q) = sym (drop-append_seam d (drop m q)) in
    let section : d ≡ take (3 + section_length (c ++ q)) (c ++ q) = rw (announced, ← all) first in
    let left : drop m q ≡ drop (3 + section_length (c ++ q)) (c ++ q) = rw (announced, ← all) behind in
    rw (← whole, between-drop (from + n) m to packet fits2) (has, section, ap (λ (l : List ℕ). Some l) left)

-- what a segment has in a packet, by where it begins and ends there
pub closed-unread : (s : Held) (p : List ℕ) → s.begun ≡ None → unread s p ≡ None
closed-unread s p e = rw e refl

pub opened-unread : (start : Option ℕ) (s : Held) (p : List ℕ) → s.begun ≡ option_map (λ n. []) start → IfSome start (λ n. s.from ≡ n) → s.to ≡ 188 → length p ≡ 188
    → MatchOption start (opened p ≡ None) (λ n. opened p ≡ Some (drop n p)) → unread s p ≡ opened p
opened-unread None s p e f g l h = rw e (sym h)
opened-unread (Some n) s p e f g l h = rw (e, f, g, take_all (188 - n) (drop n p) (omega (arith, length-drop n p))) (sym h)

pub pointed-unread : (s : Held) (o : Option (List ℕ)) (first end : ℕ) (p : List ℕ) → s.begun ≡ o → s.from ≡ first + 1 → s.to ≡ end → between (first + 1) end p ≡ pointed p
    → unread s p ≡ longer o (pointed p)
pointed-unread s o first end p e f g h = rw (e, f, g) (ap (λ (l : List ℕ). longer o l) h)

pub carried-unread : (s : Held) (o : Option (List ℕ)) (first : ℕ) (p : List ℕ) → s.begun ≡ o → s.from ≡ first → s.to ≡ 188 → first ≡ payload_start p → length p ≡ 188
    → unread s p ≡ longer o (carried p)
carried-unread s o first p e f g h l = rw (e, f, g, take_all (188 - first) (drop first p) (omega (arith, length-drop first p))) (ap (λ (n : ℕ). longer o (drop n p)) h)

abbrev pub pieces_of : ℕ → Option (List ℕ) → Option (List ℕ) → Option (List ℕ) → Assembly
pieces_of pid before closing open_now = record { pid = pid; before = before; ready = sections_of_open closing ++ sections_of_open open_now; open_now = left_of_open open_now }

pub view-taken : (pid : ℕ) (p : List ℕ) (closing open_now : Held) (c o : Option (List ℕ)) → unread closing p ≡ c → unread open_now p ≡ o
    → pieces_of pid (Some p) (unread closing p) (unread open_now p) ≡ taken pid p c o
view-taken pid p closing open_now c o e f = rw (e, f) refl
