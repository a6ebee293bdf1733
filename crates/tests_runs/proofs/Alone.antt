-- The word `steps` alone asks for the serial run, so `serial` may be called with it.
use Rattle.tests_runs.proofs.Imports.{◌≡◌, ◌≢◌, refl, sym, ap, ◌∙◌, ℕ, List, [], ◌∷◌, codes, Option, PacketSize, Of188, Command, Steps, Run}
use Rattle.std.specs.Prelude.{Some}
use Rattle.command_words.specs.Meant.{meant, command_of, steps_of, options_of, options_by, texts_by}

-- the word means batches of at most 64 packets, each of which takes up 188 bytes
pub steps_alone : meant (codes "steps" ∷ []) ≡ Some (Steps 64 Of188)
unfolding meant command_of steps_of options_of options_by texts_by
steps_alone = refl

not_run : (m : Option Command) (batch : ℕ) (packet : PacketSize) → m ≡ Some (Steps 64 Of188) → m ≢ Some (Run batch packet)
not_run m batch packet is run = absurd (let e : Some (Steps 64 Of188) ≡ Some (Run batch packet) = sym is ∙ run in cc)

-- and so words that are just this one don't ask for a run by threads
pub never_run : (words : List (List ℕ)) (batch : ℕ) (packet : PacketSize) → words ≡ codes "steps" ∷ [] → meant words ≢ Some (Run batch packet)
never_run words batch packet is = not_run (meant words) batch packet (ap meant is ∙ steps_alone)
