-- A filter that doesn't take several PIDs has one at most.
use Rattle.node_core.proofs.Imports.{ℕ, ◌≡◌, ◌≤◌, Bool, true, false, List, [], ◌∷◌, length, None, arith, not, nat_eq, nat_lt, nat_tests, TsdemuxTap, Output, Params, Empty, Section, Pes, PesParams, Facts, add_refusal, is_allocated, is_pes, state_of, refl, sym, subst, ◌||◌, if◌then◌else◌, AddPid, Option, Some, is_recording, Result, Ok, Err, OnOk, OnErr, ALL_PACKETS, Errno, Einval, takes_many, HasFewPids}
use Rattle.std.proofs.lemmas.List.Filters.{length-filter_both}
use Rattle.pid_set.specs.Pids.{with_pid, without_pid}
use Rattle.dmx_calls.specs.declared.node.NodeKind.TheVariants.{Demux}
use Rattle.node_buffer.specs.Inside.Gives.{owner_refusal}

-- one more is taken where none is there
few_added : (set : Params) (pid : ℕ) (pids : List ℕ) → add_refusal set pids pid ≡ None → HasFewPids set pids → HasFewPids set (with_pid pid pids)
unfolding with_pid
few_added set pid [] granted few one = omega arith
few_added set pid (last ∷ []) granted few one = by_test (nat_eq pid last) refl where
  by_test : (same : Bool) → nat_eq pid last ≡ same → length (with_pid pid (last ∷ [])) ≤ 1
  by_test true is =
      let below : nat_lt last pid ≡ false = grind (arith, nat_tests, is) in
      let above : nat_lt pid last ≡ false = grind (arith, nat_tests, is) in
      rw (below, above) (omega arith)
  by_test false is = let no = rw (is, one) at granted in absurd (cc no)
few_added set pid (first ∷ next ∷ rest) granted few one = let before = few one in absurd (omega (arith, before))

unrefused : (a b : Bool) (rest : Option Errno) → (if a then Some Einval else (if b then Some Einval else rest)) ≡ None → rest ≡ None
unrefused true b rest is = absurd (cc is)
unrefused false true rest is = absurd (cc is)
unrefused false false rest is = is

-- an owner's AddPid that isn't refused, whether or not the set was full
pub few_granted : {T E : Type 0} (f : Facts) (pid : ℕ) (r : Result T E) (new : List ℕ) → owner_refusal Demux f (AddPid pid) ≡ None → HasFewPids f.params f.pids
    → OnOk r (new ≡ with_pid pid f.pids) → OnErr r (new ≡ f.pids) → HasFewPids f.params new
few_granted f pid (Ok x) new granted few set same =
    let not_refused = unrefused (nat_lt ALL_PACKETS pid) (is_allocated (state_of f) || not (is_pes f.params)) (add_refusal f.params f.pids pid) granted in
    subst (HasFewPids f.params) (sym set) (few_added f.params pid f.pids not_refused few)
few_granted f pid (Err x) new granted few set same = subst (HasFewPids f.params) (sym same) few

pub few_removed : (set : Params) (pid : ℕ) (pids : List ℕ) → HasFewPids set pids → HasFewPids set (without_pid pid pids)
unfolding without_pid
few_removed set pid pids few one =
    let less = length-filter_both (λ (p : ℕ). not (nat_eq pid p)) (λ (p : ℕ). not (not (nat_eq pid p))) (λ (p : ℕ). refl) pids in
    let before = few one in
    omega (arith, less, before)

-- a filter whose packets go to the dvr node doesn't take several
pub records_one : (f : Facts) → is_recording f ≡ true → takes_many f.params ≡ false
records_one f records = by_params f.params refl where
  by_output : (p : PesParams) (output : Output) → f.params ≡ Pes p → p.output ≡ output → takes_many (Pes p) ≡ false
  by_output p TsdemuxTap set is = let no = rw (set, is) at records in absurd (cc no)
  by_output p _ set is = rw is refl

  by_params : (set : Params) → f.params ≡ set → takes_many f.params ≡ false
  by_params Empty set = rw set refl
  by_params (Section p) set = rw set refl
  by_params (Pes p) set = rw set (by_output p p.output set refl)
