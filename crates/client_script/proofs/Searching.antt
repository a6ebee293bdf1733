-- A search for the line `stream`, line by line.
use Rattle.client_script.proofs.Imports.{◌≡◌, ◌<◌, ◌≤◌, ◌+◌, ◌-◌, refl, sym, ap, ◌∙◌, ℕ, suc, true, false, List, [], ◌∷◌, ◌++◌, length, take, drop, get_or, append_assoc, append-nil, arith, length-append, take-add, take-append-drop, get_or-drop, length-drop, drop-drop, drop-append-le, All-append, position-Some, slice_split_at, slice_split_none, drop-append-add, ◌==◌, Option, Some, None, IfSome, is_none, option_map, position, without_last, whole_lines, is_stream, script_len, FallsInto, HasNoFeed, IsSearched, Passes}
use Rattle.client_script.proofs.Parting.{lacks, parts}
use Rattle.client_script.proofs.Splitting.{script_len-more, script_len-within}
use Rattle.client_script.proofs.Cuts.{first-line, position-None}

pub whole_lines-line : (line more : List ℕ) → HasNoFeed line → whole_lines (line ++ 10 ∷ more) ≡ line ∷ whole_lines more
whole_lines-line line more none = first-line (line ++ 10 ∷ more) line more (slice_split_at (λ (byte : ℕ). byte == 10) line 10 more none refl)

pub whole_lines-none : (line : List ℕ) → HasNoFeed line → whole_lines line ≡ []
whole_lines-none line none = ap without_last (slice_split_none (λ (byte : ℕ). byte == 10) line none)

onto_sum : (a b : ℕ) (r : Option ℕ) → option_map (λ n. a + n) (option_map (λ n. b + n) r) ≡ option_map (λ n. a + b + n) r
onto_sum a b None = refl
onto_sum a b (Some n) = ap Some (omega arith)

-- one more line was passed
pub passes-line : (count : ℕ) (bytes line behind : List ℕ) → Passes count bytes → drop count bytes ≡ line ++ 10 ∷ behind → HasNoFeed line → is_stream line ≡ false
    → drop (count + (length line + 1)) bytes ≡ behind → Passes (count + (length line + 1)) bytes
passes-line count bytes line behind passed here none other after more =
    let text : drop count bytes ++ more ≡ line ++ 10 ∷ (behind ++ more) = rw here (simp append_assoc) in
    let first : whole_lines (drop count bytes ++ more) ≡ line ∷ whole_lines (behind ++ more) = rw text (whole_lines-line line (behind ++ more) none) in
    let step : script_len (whole_lines (drop count bytes ++ more)) ≡ option_map (λ n. length line + 1 + n) (script_len (whole_lines (behind ++ more))) = rw (first, other) refl in
    passed more ∙ rw (step, after) (onto_sum count (length line + 1) (script_len (whole_lines (behind ++ more))))

-- the line `stream` was found
pub script_len-found : (count : ℕ) (bytes line behind : List ℕ) → Passes count bytes → drop count bytes ≡ line ++ 10 ∷ behind → HasNoFeed line → is_stream line ≡ true
    → script_len (whole_lines bytes) ≡ Some (count + (length line + 1))
script_len-found count bytes line behind passed here none is =
    let first : whole_lines (drop count bytes) ≡ line ∷ whole_lines behind = rw here (whole_lines-line line behind none) in
    let same : script_len (whole_lines (bytes ++ [])) ≡ option_map (λ n. count + n) (script_len (whole_lines (drop count bytes ++ []))) = passed [] in
    let plain : script_len (whole_lines bytes) ≡ option_map (λ n. count + n) (script_len (whole_lines (drop count bytes))) = rw (append-nil bytes, append-nil (drop count bytes)) at same in
    plain ∙ rw (first, is) refl

-- no line `stream` is there
pub script_len-missing : (count : ℕ) (bytes : List ℕ) → Passes count bytes → HasNoFeed (drop count bytes) → script_len (whole_lines bytes) ≡ None
script_len-missing count bytes passed none =
    let same : script_len (whole_lines (bytes ++ [])) ≡ option_map (λ n. count + n) (script_len (whole_lines (drop count bytes ++ []))) = passed [] in
    let plain : script_len (whole_lines bytes) ≡ option_map (λ n. count + n) (script_len (whole_lines (drop count bytes))) = rw (append-nil bytes, append-nil (drop count bytes)) at same in
    plain ∙ rw (whole_lines-none (drop count bytes) none) refl

-- more bytes came
pub passes-more : (count : ℕ) (bytes later : List ℕ) → count ≤ length bytes → Passes count bytes → Passes count (bytes ++ later)
passes-more count bytes later within passed more =
    let front : drop count (bytes ++ later) ≡ drop count bytes ++ later = drop-append-le count bytes later within in
    let all : (bytes ++ later) ++ more ≡ bytes ++ (later ++ more) = append_assoc bytes later more in
    let others : (drop count bytes ++ later) ++ more ≡ drop count bytes ++ (later ++ more) = append_assoc (drop count bytes) later more in
    rw (front, all, others) (passed (later ++ more))

-- ------ one after another

-- whole lines behind those that were passed are passed too
pub passes-on : (count next : ℕ) (bytes : List ℕ) → Passes count bytes → Passes next (drop count bytes) → Passes (count + next) bytes
passes-on count next bytes passed then more =
    let behind : drop (count + next) bytes ≡ drop next (drop count bytes) = sym (drop-drop next count bytes) in
    rw behind (passed more ∙ (ap (option_map (λ n. count + n)) (then more) ∙ onto_sum count next (script_len (whole_lines (drop next (drop count bytes) ++ more)))))

-- ------ where the next line feed stands

pub first_feed-none : (known : ℕ) (bytes : List ℕ) → HasNoFeed (take known bytes) → position (λ byte. byte == 10) (drop known bytes) ≡ None → HasNoFeed bytes
first_feed-none known bytes front e =
    rw (← take-append-drop known bytes) (All-append (λ (byte : ℕ). (byte == 10) ≡ false) (take known bytes) (drop known bytes) front (position-None (λ (byte : ℕ). byte == 10) (drop known bytes) e))

no_feed_before : (known place : ℕ) (bytes : List ℕ) → known ≤ length bytes → HasNoFeed (take known bytes) → HasNoFeed (take place (drop known bytes)) → HasNoFeed (take (known + place) bytes)
no_feed_before known place bytes within front more =
    rw (take-add known place bytes) (All-append (λ (byte : ℕ). (byte == 10) ≡ false) (take known bytes) (take place (drop known bytes)) front more)

pub first_feed-some : (known place : ℕ) (bytes : List ℕ) → known ≤ length bytes → HasNoFeed (take known bytes) → position (λ byte. byte == 10) (drop known bytes) ≡ Some place → FallsInto bytes (take (known + place) bytes) (drop (known + place + 1) bytes)
first_feed-some known place bytes within front e =
    let at = position-Some (λ (byte : ℕ). byte == 10) (drop known bytes) place 0 e in
    let below : place < length (drop known bytes) = at.0 in
    let inside : known + place < length bytes = omega (arith, length-drop known bytes) in
    let more : HasNoFeed (take place (drop known bytes)) = lacks (drop known bytes) place (omega arith) at.2 in
    let feed : (get_or bytes (known + place) 0 == 10) ≡ true = rw (get_or-drop known bytes place 0) at at.1 in
    (no_feed_before known place bytes within front more, parts bytes (known + place) inside feed)

-- ------ the next line

pub behind-line : (passed : ℕ) (bytes rest line behind : List ℕ) → rest ≡ drop passed bytes → FallsInto rest line behind → behind ≡ drop (passed + (length line + 1)) bytes
behind-line passed bytes rest line behind here falls =
    let all : drop (length line + 1) (drop passed bytes) ≡ drop (passed + (length line + 1)) bytes = drop-drop (length line + 1) passed bytes in
    let this : drop passed bytes ≡ line ++ 10 ∷ behind = sym here ∙ falls.1 in
    let past : drop (length line + 1) (line ++ 10 ∷ behind) ≡ behind = drop-append-add line (10 ∷ behind) 1 in
    sym (sym all ∙ (ap (drop (length line + 1)) this ∙ past))

pub front-line : (passed : ℕ) (bytes rest line behind : List ℕ) → rest ≡ drop passed bytes → passed ≤ length bytes → FallsInto rest line behind → passed + (length line + 1) ≤ length bytes
front-line passed bytes rest line behind here front falls =
    let long : length rest ≡ length bytes - passed = ap length here ∙ length-drop passed bytes in
    let sum : length rest ≡ length line + suc (length behind) = ap length falls.1 ∙ length-append line (10 ∷ behind) in
    omega arith

pub found-line : (passed : ℕ) (bytes rest line behind : List ℕ) → rest ≡ drop passed bytes → Passes passed bytes → FallsInto rest line behind → is_stream line ≡ true
    → script_len (whole_lines bytes) ≡ Some (passed + (length line + 1))
found-line passed bytes rest line behind here passes falls is = script_len-found passed bytes line behind passes (sym here ∙ falls.1) falls.0 is

pub passed-line : (passed : ℕ) (bytes rest line behind : List ℕ) → rest ≡ drop passed bytes → Passes passed bytes → FallsInto rest line behind → is_stream line ≡ false
    → Passes (passed + (length line + 1)) bytes
passed-line passed bytes rest line behind here passes falls other =
    passes-line passed bytes line behind passes (sym here ∙ falls.1) falls.0 other (sym (behind-line passed bytes rest line behind here falls))

-- ------ bytes that were searched

pub searched-on : (bytes piece new : List ℕ) (begun passed : ℕ) (end : Option ℕ) → IsSearched bytes begun end → end ≡ None → new ≡ bytes ++ piece
    → Passes passed (drop begun new) → HasNoFeed (drop passed (drop begun new)) → passed ≤ length (drop begun new) → IsSearched new (begun + passed) end
searched-on bytes piece new begun passed end s none is passes line fits =
    let more : Passes begun new = rw is (passes-more begun bytes piece s.front (s.passed none)) in
    let all : Passes (begun + passed) new = passes-on begun passed new more passes in
    let last : HasNoFeed (drop (begun + passed) new) = rw (← drop-drop passed begun new) line in
    let long : length new ≡ length bytes + length piece = ap length is ∙ length-append bytes piece in
    let front : begun ≤ length bytes = s.front in
    record {
      found = none ∙ sym (script_len-missing (begun + passed) new all last);
      front = omega (arith, length-drop begun new);
      passed = λ e. all;
      line = λ e. last;
    }

pub searched-kept : (bytes piece new : List ℕ) (begun : ℕ) (end : Option ℕ) → IsSearched bytes begun end → is_none end ≡ false → new ≡ bytes ++ piece → IsSearched new begun end
searched-kept bytes piece new begun None s some is = absurd (cc)
searched-kept bytes piece new begun (Some n) s some is =
    let long : length new ≡ length bytes + length piece = ap length is ∙ length-append bytes piece in
    let front : begun ≤ length bytes = s.front in
    record {
      found = rw is (sym (script_len-more bytes piece n (sym s.found)));
      front = omega arith;
      passed = λ e. absurd (cc);
      line = λ e. absurd (cc);
    }

pub end-within : (bytes : List ℕ) (end : Option ℕ) → end ≡ script_len (whole_lines bytes) → IfSome end (λ n. n ≤ length bytes)
end-within bytes None e = tt
end-within bytes (Some n) e = script_len-within bytes n (sym e)

pub none_by_test : (end : Option ℕ) → is_none end ≡ true → end ≡ None
none_by_test None e = refl
none_by_test (Some n) e = absurd (cc)
