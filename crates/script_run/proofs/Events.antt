-- What the calls of a client bring: some of the packets that it plays.
use Rattle.script_run.proofs.Imports.{refl, sym, subst, ℕ, zero, suc, ◌+◌, ◌≤◌, List, [], ◌∷◌, length, drop, Option, Some, None, add-one, arith, length-take, All, IfSome, All-head, All-tail, All-nil, IsPacket, Packets, StandsAmong, joined, are_packets, are_placed, Input, Frontend, Act, brought, IsFrom, filled_act, Scripted, writes_of, Open, ClientRequest, Own, Pass, Batches, batch_at, call_of, pass_of, played, plays_of, sources}
use Rattle.dmx_calls.specs.declared.params.Input.TheVariants.{Dvr}
use Rattle.dmx_calls.specs.declared.call.Call.TheVariants as act

-- ------ the packets

-- what passes bring are packets
pub all_packets : (script : Scripted) (stream : List (List ℕ)) → All IsPacket stream → (who : ℕ) (input : Input) → All IsPacket (sources script stream who input)
all_packets script stream are who Frontend = are
all_packets script stream are zero Dvr = All-nil IsPacket
all_packets script stream are (suc client) Dvr = are_packets (joined (writes_of client script.writes))

batch_stands : (all : List (List ℕ)) (batches : Batches) (write : ℕ) → All (λ batch. IfSome batch (StandsAmong all)) batches → IfSome (batch_at batches write) (StandsAmong all)
batch_stands all [] write stand = tt
batch_stands all (b ∷ bs) zero stand = All-head (λ batch. IfSome batch (StandsAmong all)) b bs stand
batch_stands all (b ∷ bs) (suc write) stand = batch_stands all bs write (All-tail (λ batch. IfSome batch (StandsAmong all)) b bs stand)

pass_from : (all : Input → List (List ℕ)) (o : Option Packets) (moment : ℕ) → IfSome o (StandsAmong (all Dvr)) → IsFrom all (pass_of o moment)
pass_from all None moment stands = refl
pass_from all (Some batch) moment stands = stands

-- a client's call brings some of the packets that it plays
pub from_client : (script : Scripted) (stream : List (List ℕ)) (client : ℕ) (w : ClientRequest) (moment : ℕ) → IsFrom (sources script stream (client + 1)) (call_of (plays_of client script) w moment)
from_client script stream client w moment = subst (λ n. IsFrom (sources script stream n) (call_of (plays_of client script) w moment)) (sym (add-one client)) (go w) where
  go : (w : ClientRequest) → IsFrom (sources script stream (suc client)) (call_of (plays_of client script) w moment)
  go (Pass write) =
      pass_from (sources script stream (suc client)) (batch_at (plays_of client script) write) moment
      (batch_stands (played client script) (plays_of client script) write (are_placed (writes_of client script.writes)))
  go (Own Open) = tt
  go _ = tt

-- the same with its number behind another
pub is_from : (script : Scripted) (stream : List (List ℕ)) (client : ℕ) (w : ClientRequest) (moment : ℕ) → IsFrom (sources script stream (suc client)) (call_of (plays_of client script) w moment)
is_from script stream client w moment = subst (λ n. IsFrom (sources script stream n) (call_of (plays_of client script) w moment)) (add-one client) (from_client script stream client w moment)

-- ------ how many

-- how many packets a call brings
abbrev pub count_of : Act → ℕ
count_of (act.Pass input batch now) = batch.count
count_of _ = 0

pub brings_few : (packets : Input → List (List ℕ)) (a : Act) → length (brought (filled_act packets a)) ≤ count_of a
brings_few packets (act.Pass input batch now) = omega (arith, length-take batch.count (drop batch.first (packets input)))
brings_few packets _ = omega arith
