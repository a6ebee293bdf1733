-- A node that makes a call goes on to stand for the history with that entry.
use Rattle.node_core.proofs.Imports.{ℕ, ◌+◌, ◌≡◌, refl, sym, ◌∙◌, ap, subst, [], ◌∷◌, length, add-one, Invocation, Response, History, entry_of, demux, facts, May, demux_same, demux_keeps, Selecting, Knows, next, HasSelected, IsSound, Gives, CoreValue, StandsFor, Entry, false, goes_on, is_accepted, moved}
use Rattle.node_core.proofs.Looking.{HasItsPid}
use Rattle.node_core.proofs.Takings.{selected_none}
use Rattle.node_core.proofs.Moves.{known, Stands}
use Rattle.node_core.proofs.Cases.{granted}

-- an entry that isn't accepted changes nothing
unaccepted : (e : Entry) (h : History) (k : Knows) → is_accepted e.response ≡ false → Stands h k → Stands (e ∷ h) k
unaccepted e h k nay s =
    let same = demux_same e h nay in
    record { told = same.facts ∙ s.told; selected = λ c is. rw (same.params, same.offered, same.items) (s.selected c (sym same.capture ∙ is)) }

-- what a node knows
abbrev pub knows : CoreValue → Knows
knows c = record { facts = c.facts; selecting = c.selecting }

pub stands_on : (c c' : CoreValue) (who : ℕ) (call : Invocation) (r : Response) → IsSound (knows c) → HasItsPid c.facts.params c.facts.pids → Gives (knows c) who call r
    → knows c' ≡ next (knows c) who call r → c'.entries ≡ c.entries + 1
    → (h : History) → StandsFor c h → May demux h who call r × StandsFor c' (entry_of who call r ∷ h)
stands_on c c' who call r sound own gives after more h s =
    let same : known h c.selecting ≡ knows c = ap (λ f. record { facts = f; selecting = c.selecting }) (sym s.known) in
    let P : Knows → Type 0 = λ k. IsSound k → HasItsPid k.facts.params k.facts.pids → Gives k who call r → knows c' ≡ next k who call r → May demux h who call r × Stands (entry_of who call r ∷ h) (knows c') in
    let go = subst P same (λ sound' own' gives' after'.
    let stands : Stands h (known h c.selecting) = record { told = refl; selected = s.selected } in
    let goes = goes_on (λ k. k.facts) moved Stands demux (λ h k is. is.told) unaccepted h (known h c.selecting) who call stands (granted h c.selecting who sound' own' s.selected call) r gives' in
    (goes.0, subst (Stands (entry_of who call r ∷ h)) (sym after') goes.1)) sound own gives after in (
      go.0,
      record {
        legal = (s.legal, go.0);
        count = more ∙ (ap (λ n. n + 1) s.count ∙ add-one (length h));
        known = sym go.1.told;
        selected = go.1.selected;
      },
    )

-- before the first call there is no capture, so a selector stands for nothing
pub selected_new : (k : Selecting) → HasSelected [] k
selected_new k = selected_none [] k demux_keeps.empty
