-- What a request asks for is in the range of a client's requests, and passes no packets.
use Rattle.seats.proofs.Imports.{◌≡◌, subst, sym, IfOk-weaker, Invocation, invocation_of, act_of, own_call, PassesNone, ℕ, Want, IsRequestInRange, Own, IsWantInRange}
use Rattle.seats.proofs.answers.own_call.Goals as goal
use Rattle.client_script.specs.declared.line.Want.TheVariants as want

pub in_range : (w : Want) → IsWantInRange w → IsRequestInRange (Own w)
in_range want.Open r = tt
in_range want.Close r = tt
in_range (want.Section params) r = tt
in_range (want.Pes params) r = tt
in_range (want.Add pid) r = tt
in_range (want.Remove pid) r = tt
in_range want.Start r = tt
in_range want.Stop r = tt
in_range (want.Size size) r = tt
in_range (want.Read count) r = r
in_range want.Poll r = tt

pub no_pass : (w : Want) (moment : ℕ) → PassesNone (act_of (own_call w moment))
no_pass want.Open moment = tt
no_pass _ moment = tt

pub call_of_want-requires : goal.call_of_want-requires
call_of_want-requires c = record { range = in_range c.args.want c.requires }

pub returns-clause-bare : goal.returns-clause-bare
returns-clause-bare c = IfOk-weaker c.call_of_want.result _ _ (λ call (is : invocation_of call ≡ own_call c.args.want c.args.now). subst (λ (i : Invocation). PassesNone (act_of i)) (sym is) (no_pass c.args.want c.args.now)) c.call_of_want.ensures.call
