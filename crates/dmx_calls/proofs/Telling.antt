-- What the feeder's calls are answered, and what a report keeps of a call.
use Rattle.dmx_calls.proofs.Imports.{◌≡◌, ℕ, List, ap, sym, refl, ⊎_elim, Input, Invocation, Open, Close, SetFilter, SetPes, AddPid, RemovePid, Start, Stop, SetSize, Read, Poll, Pass, End, Attach, Detach, Response, Passed, History, Rules, May, IsFrom, filled_act, act_of, PassesGoBy, answer}

passes : (node : Rules) (h : History) (who : ℕ) (input : Input) (first : ℕ) (packets : List (List ℕ)) (now : ℕ) (r : Response) → May node h who (Pass input first packets now) r → r ≡ Passed
unfolding answer
passes node h who input first packets now r m = ⊎_elim (λ e. e) (λ e. let no = e.2 in absurd (cc no)) m

ends : (node : Rules) (h : History) (who : ℕ) (r : Response) → May node h who End r → r ≡ Passed
unfolding answer
ends node h who r m = ⊎_elim (λ e. e) (λ e. let no = e.2 in absurd (cc no)) m

pub go_by : (node : Rules) → PassesGoBy node
go_by node = record { passes = passes node; ends = ends node }

pub fills : (packets : Input → List (List ℕ)) (call : Invocation) → IsFrom packets call → filled_act packets (act_of call) ≡ call
fills packets Open of = refl
fills packets Close of = refl
fills packets (SetFilter p now) of = refl
fills packets (SetPes p now) of = refl
fills packets (AddPid pid) of = refl
fills packets (RemovePid pid) of = refl
fills packets (Start now) of = refl
fills packets Stop of = refl
fills packets (SetSize size) of = refl
fills packets (Read now count) of = refl
fills packets (Poll now) of = refl
fills packets (Pass input first brought now) of = ap (λ (ps : List (List ℕ)). Pass input first ps now) (sym of)
fills packets End of = refl
fills packets (Attach node pids) of = refl
fills packets (Detach node) of = refl
