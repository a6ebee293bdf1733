-- A node, of whichever kind, makes a call: it goes on to stand for the history with that entry.
use Rattle.node_buffer.proofs.Imports.{ℕ, ◌≡◌, refl, sym, ap, subst, Bool, true, false, ◌∷◌, Option, Some, None, inl, inr, if◌then◌else◌, Errno, Invocation, Response, Refused, NoMemory, Passed, is_accepted, Entry, History, entry_of, Rules, Facts, facts, refusal_to, response_to, answer_by, answer, May, GivesBy}
use Rattle.node_buffer.proofs.Silences.{Silent, as_passed}

-- Such a node knows a K, which tells it what its history says; it goes on by `moved` with an accepted call. `Stands` says that
-- what it knows stands for a history.
module _ {K : Type 0} (says : K → Facts) (moved : K → (who : ℕ) → Invocation → Response → K) (Stands : History → K → Type 0) where
  module _ (h : History) (k : K) (who : ℕ) (call : Invocation) where
    -- the response to it, where it isn't refused
    abbrev response : Response
    response = response_to (says k) (says (moved k who call Passed)) call

    -- by the step of an accepted call it knows what stands for the history with its entry
    abbrev Moves : Response → Type 0
    Moves r = Stands (entry_of who call r ∷ h) (moved k who call r)

    -- what is left to show of a call that isn't refused; Passed stands for any response by which it is accepted
    pub record Granted : Type 0 where
      pub told : Moves Passed
      pub moves : is_accepted response ≡ true → Moves response

  module _ (node : Rules) (told : (h : History) (k : K) → Stands h k → facts node h ≡ says k) (same : (e : Entry) (h : History) (k : K) → is_accepted e.response ≡ false → Stands h k → Stands (e ∷ h) k)
      (h : History) (k : K) (who : ℕ) (call : Invocation) (stands : Stands h k) (granted : refusal_to node.kind (says k) who call ≡ None → Granted h k who call) where
    -- the reply is the answer, and the node goes on by the step
    record Agrees (r : Response) : Type 0 where
      reply : r ≡ answer node h who call
      after : Stands (entry_of who call r ∷ h) (if is_accepted r then moved k who call r else k)

    after_any : (r : Response) → (is_accepted r ≡ true → Moves h k who call r) → Stands (entry_of who call r ∷ h) (if is_accepted r then moved k who call r else k)
    after_any r moves = by_test (is_accepted r) refl where
      by_test : (b : Bool) → is_accepted r ≡ b → Stands (entry_of who call r ∷ h) (if b then moved k who call r else k)
      by_test true ok = moves ok
      by_test false nay = same (entry_of who call r) h k nay stands

    agrees : Agrees (answer_by node.kind (says k) (says (moved k who call Passed)) who call)
    unfolding answer
    agrees = by_refusal (refusal_to node.kind (says k) who call) refl where
      by_refusal : (o : Option Errno) → refusal_to node.kind (says k) who call ≡ o → Agrees (answer_by node.kind (says k) (says (moved k who call Passed)) who call)
      by_refusal (Some x) is = rw is (record { reply = rw (told h k stands, is) refl; after = same (entry_of who call (Refused x)) h k refl stands })
      by_refusal None is =
          let g : Granted h k who call = granted is in
          rw is (record {
            reply = rw (told h k stands, is) (ap (λ f. response_to (says k) f call) (sym (told (entry_of who call Passed ∷ h) (moved k who call Passed) g.told)));
            after = after_any (response h k who call) g.moves;
          })

    -- it answers as the history allows
    pub goes_on : (r : Response) → GivesBy node.kind (says k) (says (moved k who call Passed)) who call r
        → May node h who call r × Stands (entry_of who call r ∷ h) (if is_accepted r then moved k who call r else k)
    goes_on r gives = by_case gives where
      P : Response → Type 0
      P r = May node h who call r × Stands (entry_of who call r ∷ h) (if is_accepted r then moved k who call r else k)

      by_case : GivesBy node.kind (says k) (says (moved k who call Passed)) who call r → P r
      by_case (inl is) = subst P (sym is) (inl agrees.reply, agrees.after)
      by_case (inr (none, done, memory)) =
          subst P (sym none) (inr (refl, rw (← agrees.reply) done, rw (told h k stands) memory), same (entry_of who call NoMemory) h k refl stands)

-- ------ calls that aren't refused

module _ {K : Type 0} {says : K → Facts} {moved : K → (who : ℕ) → Invocation → Response → K} {Stands : History → K → Type 0} {h : History} {k : K} {who : ℕ} {call : Invocation} where
  -- where no response plays a part
  pub whatever : ((r : Response) → is_accepted r ≡ true → Moves says moved Stands h k who call r) → Granted says moved Stands h k who call
  whatever moves = record { told = moves Passed refl; moves = moves (response says moved Stands h k who call) }

  -- where all responses answer no bytes
  pub silent : ((r : Response) → Silent r → Moves says moved Stands h k who call r) → ((f g : Facts) → Silent (response_to f g call)) → Granted says moved Stands h k who call
  silent moves shape = record {
    told = moves Passed as_passed;
    moves = λ ok. moves (response says moved Stands h k who call) (shape (says k) (says (moved k who call Passed)));
  }
