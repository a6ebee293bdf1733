-- When each answer of a node comes, from what it gives.
use Rattle.node_buffer.proofs.Imports.{ℕ, ◌≡◌, refl, sym, ◌∙◌, ap, subst, Bool, true, false, Option, Some, None, arith, inl, inr, not, nat_eq, nat_tests, NodeKind, Errno, Invocation, Open, SetSize, Read, Response, Busy, Refused, NoMemory, Passed, is_accepted, if◌then◌else◌, Facts, is_done, takes_memory, refusal_to, read_response, expired_of, open_response, response_to, response_unless, answer_by, GivesBy, ReadCauses, TakesMemory, Causes}
use Rattle.node_buffer.proofs.Accepted.{read_accepted, opened}
use Rattle.node_buffer.proofs.ReadCausing.{Readable, read_cause}

-- what takes memory, where it would be done
owner_none : (o : Option ℕ) → is_done (open_response o) ≡ true → o ≡ None
owner_none None done = refl
owner_none (Some w) done = absurd (cc)

taking : (f g : Facts) (call : Invocation) → is_done (response_to f g call) ≡ true → takes_memory f call ≡ true → TakesMemory f call
taking f g Open done memory = owner_none f.owner done
taking f g (SetSize n) done memory = λ same. let k : not (nat_eq n n) ≡ true = rw (← same) at memory in absurd (grind (arith, nat_tests))
taking f g _ done memory = absurd (cc)

module _ (kind : NodeKind) (f g : Facts) (who : ℕ) (call : Invocation) (r : Response) (gives : GivesBy kind f g who call r) where
  abbrev response : Response
  response = response_to f g call

  unless : (o : Option Errno) → refusal_to kind f who call ≡ o → answer_by kind f g who call ≡ response_unless o response
  unless None is = rw is refl
  unless (Some x) is = rw is refl

  refused_to : (errno : Errno) → r ≡ Refused errno → refusal_to kind f who call ≡ Some errno
  refused_to errno is = by_refusal (refusal_to kind f who call) refl gives where
    by_refusal : (o : Option Errno) → refusal_to kind f who call ≡ o → GivesBy kind f g who call r → refusal_to kind f who call ≡ Some errno
    by_refusal o said (inr (none, done, memory)) = absurd (let n : NoMemory ≡ Refused errno = sym none ∙ is in cc)
    by_refusal (Some x) said (inl gave) = let e : Refused errno ≡ Refused x = sym is ∙ (gave ∙ unless (Some x) said) in let same : errno ≡ x = cc in said ∙ ap Some (sym same)
    by_refusal None said (inl gave) =
        let e : response ≡ Refused errno = sym (unless None said) ∙ (sym gave ∙ is) in
        let b = opened f g call (Refused errno) e refl in absurd (let n : Refused errno ≡ Busy b.0 = b.3 in cc)

  refused_by : (errno : Errno) → refusal_to kind f who call ≡ Some errno → r ≡ Refused errno
  refused_by errno said = by_case gives where
    by_case : GivesBy kind f g who call r → r ≡ Refused errno
    by_case (inl gave) = gave ∙ unless (Some errno) said
    by_case (inr (none, done, memory)) = absurd (let n : false ≡ true = rw (unless (Some errno) said) at done in cc)

  busy_to : (owner : ℕ) → r ≡ Busy owner → (call ≡ Open) × (f.owner ≡ Some owner)
  busy_to owner is = by_refusal (refusal_to kind f who call) refl gives where
    by_refusal : (o : Option Errno) → refusal_to kind f who call ≡ o → GivesBy kind f g who call r → (call ≡ Open) × (f.owner ≡ Some owner)
    by_refusal o said (inr (none, done, memory)) = absurd (let n : NoMemory ≡ Busy owner = sym none ∙ is in cc)
    by_refusal (Some x) said (inl gave) = absurd (let n : Busy owner ≡ Refused x = sym is ∙ (gave ∙ unless (Some x) said) in cc)
    by_refusal None said (inl gave) =
        let e : response ≡ Busy owner = sym (unless None said) ∙ (sym gave ∙ is) in
        let b = opened f g call (Busy owner) e refl in
        let same : owner ≡ b.0 = let w : Busy owner ≡ Busy b.0 = b.3 in cc in
        (b.1, b.2 ∙ ap Some (sym same))

  memory_to : r ≡ NoMemory → (refusal_to kind f who call ≡ None) × TakesMemory f call
  memory_to is = by_refusal (refusal_to kind f who call) refl gives where
    by_refusal : (o : Option Errno) → refusal_to kind f who call ≡ o → GivesBy kind f g who call r → (refusal_to kind f who call ≡ None) × TakesMemory f call
    by_refusal (Some x) said (inl gave) = absurd (let n : NoMemory ≡ Refused x = sym is ∙ (gave ∙ unless (Some x) said) in cc)
    by_refusal (Some x) said (inr (none, done, memory)) = absurd (let n : false ≡ true = rw (unless (Some x) said) at done in cc)
    by_refusal None said (inl gave) =
        let e : response ≡ NoMemory = sym (unless None said) ∙ (sym gave ∙ is) in
        let b = opened f g call NoMemory e refl in absurd (let n : NoMemory ≡ Busy b.0 = b.3 in cc)
    by_refusal None said (inr (none, done, memory)) =
        let d : is_done response ≡ true = rw (unless None said) at done in (said, taking f g call d memory)

-- of a Read, where the expiry with it doesn't hang on its response
reads_so : (kind : NodeKind) (f g after : Facts) (who now count : ℕ) (r : Response) → GivesBy kind f g who (Read now count) r → refusal_to kind f who (Read now count) ≡ None
    → Readable f.params f.ledger → (is_accepted r ≡ true → expired_of after.ledger ≡ expired_of g.ledger) → ReadCauses f.ledger (expired_of after.ledger) count r
reads_so kind f g after who now count r gives said known same = by_case gives where
  by_case : GivesBy kind f g who (Read now count) r → ReadCauses f.ledger (expired_of after.ledger) count r
  by_case (inr (none, done, memory)) = absurd (cc)
  by_case (inl gave) =
      let e : r ≡ read_response f f.ledger (expired_of g.ledger) count = gave ∙ unless kind f g who (Read now count) r gives None said in
      let ok : is_accepted r ≡ true = rw e (read_accepted f f.ledger (expired_of g.ledger) count) in
      let P : Response → Type 0 = ReadCauses f.ledger (expired_of g.ledger) count in
      let cause : ReadCauses f.ledger (expired_of g.ledger) count r = subst P (sym e) (read_cause f f.ledger (expired_of g.ledger) count known) in
      rw (same ok) cause

-- of an Open
busy_by : (kind : NodeKind) (f g : Facts) (who owner : ℕ) (r : Response) → f.owner ≡ Some owner → GivesBy kind f g who Open r → r ≡ Busy owner
busy_by kind f g who owner r some (inl gave) = gave ∙ ap open_response some
busy_by kind f g who owner r some (inr (none, done, memory)) = absurd (let n : false ≡ true = rw some at done in cc)

-- Of a node that knows a K, which tells it what its history says, and goes on by `moved` with an accepted call. The expiry with
-- a Read doesn't hang on its response.
module _ {K : Type 0} (says : K → Facts) (moved : K → (who : ℕ) → Invocation → Response → K) (kind : NodeKind) (k : K) (who : ℕ) (r : Response) where
  abbrev with_it : Invocation → Facts
  with_it call = says (moved k who call Passed)

  abbrev after_it : Invocation → Facts
  after_it call = says (if is_accepted r then moved k who call r else k)

  pub causes_by : (call : Invocation) → GivesBy kind (says k) (with_it call) who call r → Readable (says k).params (says k).ledger
      → ((now count : ℕ) → expired_of (says (moved k who (Read now count) r)).ledger ≡ expired_of (with_it (Read now count)).ledger) → Causes kind (says k) (after_it call) who call r
  causes_by call gives known either = record {
    refused = λ errno. (refused_to kind (says k) (with_it call) who call r gives errno, refused_by kind (says k) (with_it call) who call r gives errno);
    busy = λ owner. (
      busy_to kind (says k) (with_it call) who call r gives owner,
      λ both.
          let P : Invocation → Type 0 = λ c. GivesBy kind (says k) (with_it call) who c r in
          busy_by kind (says k) (with_it call) who owner r both.1 (subst P both.0 gives),
    );
    memory = memory_to kind (says k) (with_it call) who call r gives;
    reads = λ now count is.
        let P : Invocation → Type 0 = λ c. GivesBy kind (says k) (with_it c) who c r → refusal_to kind (says k) who c ≡ None → ReadCauses (says k).ledger (expired_of (after_it c).ledger) count r in
        subst P (sym is) (λ gives' said. reads_so kind (says k) (with_it (Read now count)) (after_it (Read now count)) who now count r gives' said known (λ ok.
        let E : Bool → Type 0 = λ b. expired_of (says (if b then moved k who (Read now count) r else k)).ledger ≡ expired_of (with_it (Read now count)).ledger in
        subst E (sym ok) (either now count))) gives;
  }
