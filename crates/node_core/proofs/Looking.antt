-- A section filter that is offered the packets of its PID alone selects as if it were offered all.
use Rattle.node_core.proofs.Imports.{◌≡◌, ℕ, ◌||◌, Bool, true, false, List, [], ◌∷◌, ◌++◌, Option, Some, None, refl, sym, ap, subst, ◌∙◌, if◌then◌else◌, fold, filter-append, pid_of, unit_start, is_usable, carried, ALL_PACKETS, Assembly, cleared, repeats_last, joins_last, taken, opened, longer, pointed, Choice, Selecting, Selects, Follows, SetParams, EmptySet, SectionSet, PesSet, Params, Empty, Section, Pes, params_of, pids_of, is_named, Kept, Tenure, knows_in, knows_of, choice_of, is_offered, clean, sections, items_of}
use Rattle.std.proofs.Common.{not, nat_eq}
use Rattle.std.specs.List.{filter}
use Rattle.section_parse.specs.Inside.Keeping.{after_packet, all_given, kept}
use Rattle.node_core.proofs.Offerings.{all_offered}

-- ------ the PIDs of a node

-- a section filter has one PID, its own
abbrev pub HasItsPid : Params → List ℕ → Type 0
HasItsPid (Section p) names = names ≡ p.pid ∷ []
HasItsPid _ names = Unit {0}

set_has_its_pid : (set : SetParams) → HasItsPid (params_of set) (pids_of set)
set_has_its_pid EmptySet = tt
set_has_its_pid (SectionSet p) = refl
set_has_its_pid (PesSet p pids) = tt

tenure_has_its_pid : (ended : Bool) (o : Option Tenure) → HasItsPid (knows_in ended o).facts.params (knows_in ended o).facts.pids
tenure_has_its_pid ended None = tt
tenure_has_its_pid ended (Some t) = set_has_its_pid t.params

pub has_its_pid : (kept : Kept) → HasItsPid (knows_of kept).facts.params (knows_of kept).facts.pids
has_its_pid kept = tenure_has_its_pid kept.has_ended kept.tenure

-- ------ packets of other PIDs

or-parts : (a b : Bool) → ((a || false) || (b || false)) ≡ false → b ≡ false
or-parts true b h = absurd (cc)
or-parts false true h = absurd (cc)
or-parts false false h = refl

unnamed : (pid : ℕ) (q : List ℕ) → is_named (pid ∷ []) q ≡ false → is_usable pid q ≡ false
unnamed pid q h =
    let differs : nat_eq (pid_of q) pid ≡ false = or-parts (nat_eq ALL_PACKETS pid) (nat_eq (pid_of q) pid) h in
    rw differs refl

usable-named : (pid : ℕ) (ps : List (List ℕ)) → filter (is_usable pid) (filter (is_named (pid ∷ [])) ps) ≡ filter (is_usable pid) ps
usable-named pid [] = refl
usable-named pid (q ∷ qs) = by-name (is_named (pid ∷ []) q) refl (usable-named pid qs) where
  by-name : (b : Bool) → is_named (pid ∷ []) q ≡ b → filter (is_usable pid) (filter (is_named (pid ∷ [])) qs) ≡ filter (is_usable pid) qs
      → filter (is_usable pid) (if b then q ∷ filter (is_named (pid ∷ [])) qs else filter (is_named (pid ∷ [])) qs) ≡ filter (is_usable pid) (q ∷ qs)
  by-name true yea ih = rw ih refl
  by-name false nay ih = rw (unnamed pid q nay) ih

-- ------ what an assembler keeps

pid-of-three : (a x y z : Assembly) → x.pid ≡ a.pid → y.pid ≡ a.pid → z.pid ≡ a.pid → (skips follows starts : Bool)
    → (if skips then a else if not follows then x else if starts then y else z).pid ≡ a.pid
pid-of-three a x y z hx hy hz true follows starts = refl
pid-of-three a x y z hx hy hz false false starts = hx
pid-of-three a x y z hx hy hz false true true = hy
pid-of-three a x y z hx hy hz false true false = hz

pid-stays : (a : Assembly) (packet : List ℕ) → (after_packet a packet).pid ≡ a.pid
unfolding after_packet
pid-stays a packet = pid-of-three a (taken a.pid packet None (opened packet)) (taken a.pid packet (longer a.open_now (pointed packet)) (opened packet)) (taken a.pid packet None (longer a.open_now (carried packet)))
    refl refl refl (not (is_usable a.pid packet) || repeats_last a.before packet) (joins_last a.before packet) (unit_start packet)

other-packet : (a : Assembly) (packet : List ℕ) → a.ready ≡ [] → is_usable a.pid packet ≡ false → all_given (after_packet a packet) ≡ a
unfolding after_packet
other-packet a packet given h = rw h (ap (λ r. record a { ready = r }) (sym given))

abbrev next : Assembly → List ℕ → Assembly
next a p = all_given (after_packet a p)

kept-by : (pid : ℕ) (a : Assembly) → a.pid ≡ pid → a.ready ≡ [] → (ps : List (List ℕ)) → fold next a (filter (is_usable pid) ps) ≡ fold next a ps
kept-by pid a is given [] = refl
kept-by pid a is given (q ∷ qs) = by-use (is_usable pid q) refl (kept-by pid (next a q) (pid-stays a q ∙ is) refl qs) where
  by-use : (b : Bool) → is_usable pid q ≡ b → fold next (next a q) (filter (is_usable pid) qs) ≡ fold next (next a q) qs
      → fold next a (if b then q ∷ filter (is_usable pid) qs else filter (is_usable pid) qs) ≡ fold next (next a q) qs
  by-use true yea ih = ih
  by-use false nay ih =
      let same : next a q ≡ a = other-packet a q given (rw is nay) in
      ap (λ x. fold next x (filter (is_usable pid) qs)) (sym same) ∙ ih

kept-usable : (pid : ℕ) (ps : List (List ℕ)) → kept pid (filter (is_usable pid) ps) ≡ kept pid ps
unfolding kept
kept-usable pid ps = kept-by pid (cleared pid) refl refl ps

-- ------ what a selector stands for

-- a selector of sections, where both lists have the same packets of its PID
follows-usable : (pid : ℕ) (xs ys : List (List ℕ)) → filter (is_usable pid) xs ≡ filter (is_usable pid) ys → kept pid xs ≡ kept pid ys
follows-usable pid xs ys same = sym (kept-usable pid xs) ∙ ap (kept pid) same ∙ kept-usable pid ys

sections-usable : (pid : ℕ) (xs ys : List (List ℕ)) → filter (is_usable pid) xs ≡ filter (is_usable pid) ys → sections xs pid ≡ sections ys pid
unfolding sections clean
sections-usable pid xs ys same = rw same refl

-- What a selector was offered of these packets, the named ones, stands for those that its filter takes in.
pub offered-named : (set : Params) (names : List ℕ) → HasItsPid set names → (before ps given : List (List ℕ)) (s : Selecting) → s.choice ≡ choice_of set
    → Selects (before ++ filter (is_named names) ps) given s → Selects (before ++ filter (is_offered set names) ps) given s
unfolding items_of
offered-named Empty names own before ps given s is k = record {
  so_far = rw is (rw is at k.so_far);
  follows = let P : Choice → Type 0 = λ c. Follows c (before ++ filter (is_named names) ps) given s → Follows c (before ++ filter (is_offered Empty names) ps) given s in
      subst P (sym is) (λ f. f) k.follows;
}
offered-named (Pes p) names own before ps given s is k = k
offered-named (Section p) names own before ps given s is k =
    let all : filter (is_offered (Section p) names) ps ≡ ps = all_offered ps in
    let same : filter (is_usable p.pid) (before ++ filter (is_named names) ps) ≡ filter (is_usable p.pid) (before ++ filter (is_offered (Section p) names) ps) =
    rw (all, own, filter-append (is_usable p.pid) before (filter (is_named (p.pid ∷ [])) ps), filter-append (is_usable p.pid) before ps, usable-named p.pid ps) refl in
    record {
      so_far = rw (is, ← sections-usable p.pid _ _ same) (rw is at k.so_far);
      follows = let P : Choice → Type 0 = λ c. Follows c (before ++ filter (is_named names) ps) given s → Follows c (before ++ filter (is_offered (Section p) names) ps) given s in
          subst P (sym is) (λ f. (λ e. ((f.0 e).0 ∙ follows-usable p.pid _ _ same, (f.0 e).1), f.1)) k.follows;
    }
