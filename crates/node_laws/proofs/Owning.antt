-- Nobody but its owner reads a node, and it stays its owner's until the owner closes it.
use Rattle.node_laws.proofs.Imports.{ℕ, ◌≡◌, refl, sym, ◌∙◌, ap, subst, Bool, true, false, [], ◌∷◌, ◌++◌, Option, Some, None, arith, inl, inr, ◌≢◌, option_map, nat_tests, Ebadf, Invocation, Open, Close, SetFilter, SetPes, AddPid, RemovePid, Start, Stop, SetSize, Read, Poll, Pass, End, Attach, Detach, Response, Busy, Refused, is_accepted, Entry, History, event, Since, entry_of, opens, closes, Rules, is_for_anybody, is_owned_by, open_response, May, IsLegalFor, is_done, OthersLeaveTheOwner, OthersDoNotRead, AreOthers, HasRead, ReadersCallBetween, tenure_refused, tenure_after, owner_after, owner_some, facts, owner}
use Rattle.std.proofs.Common.{nat_eq}
use Rattle.dmx_calls.specs.Answer.{answer}
use Rattle.node_laws.proofs.Fitting.{allowed_response}

not_owned : (other who : ℕ) (o : Option ℕ) → o ≡ Some who → other ≢ who → is_owned_by other o ≡ false
not_owned other who o is differ = rw is (grind (arith, nat_tests, differ))

module _ (node : Rules) where
  -- a call with an owner test, by another
  refused_other : (h : History) (other who : ℕ) (call : Invocation) → is_for_anybody node.kind call ≡ false → owner h ≡ Some who → other ≢ who → answer node h other call ≡ Refused Ebadf
  unfolding answer facts
  refused_other h other who call tested is differ = rw (tested, not_owned other who (owner h) is differ) refl

  may_refused : (h : History) (other who : ℕ) (call : Invocation) (r : Response) → is_for_anybody node.kind call ≡ false → owner h ≡ Some who → other ≢ who → May node h other call r → r ≡ Refused Ebadf
  may_refused h other who call r tested is differ (inl same) = same ∙ refused_other h other who call tested is differ
  may_refused h other who call r tested is differ (inr (no_memory, done, takes)) =
      absurd (let k : is_done (Refused Ebadf) ≡ true = rw (refused_other h other who call tested is differ) at done in cc)

  pub others_do_not_read : OthersDoNotRead node
  others_do_not_read h who other now count r is differ may = may_refused h other who (Read now count) r refl is differ may

  stays_refused : (e : Entry) (h : History) (who : ℕ) → owner h ≡ Some who → is_accepted e.response ≡ false → owner (e ∷ h) ≡ Some who
  unfolding owner
  stays_refused e h who is nay = ap (λ o. option_map (λ (t : Since). t.by.entry.who) o) (tenure_refused e h nay) ∙ is

  stays_held : (e : Entry) (h : History) (who : ℕ) → owner h ≡ Some who → opens (event e h) ≡ false → closes (event e h) ≡ false → (b : Bool) → is_accepted e.response ≡ b → owner (e ∷ h) ≡ Some who
  stays_held e h who is o c true ok =
      let held = owner_some h who is in
      owner_after e h held.0 held.1 (tenure_after e h held.0 ok o c held.1) ∙ is
  stays_held e h who is o c false nay = stays_refused e h who is nay

  busy : (h : History) (who other : ℕ) (r : Response) → owner h ≡ Some who → May node h other Open r → (b : Bool) → is_accepted r ≡ b → is_accepted r ≡ false
  unfolding facts
  busy h who other r is may false nay = nay
  busy h who other r is may true ok =
      let k : r ≡ Busy who = allowed_response node h other Open r may ok ∙ ap open_response is in
      absurd (let j : is_accepted (Busy who) ≡ true = rw k at ok in cc)

  stays : (h : History) (who other : ℕ) (call : Invocation) (r : Response) → May node h other call r → owner h ≡ Some who → other ≢ who → owner (entry_of other call r ∷ h) ≡ Some who
  stays h who other Open r may is differ = stays_refused (entry_of other Open r) h who is (busy h who other r is may (is_accepted r) refl)
  stays h who other Close r may is differ =
      stays_refused (entry_of other Close r) h who is (ap is_accepted (may_refused h other who Close r refl is differ may))
  stays h who other (SetFilter p now) r may is differ = stays_held (entry_of other (SetFilter p now) r) h who is refl refl (is_accepted r) refl
  stays h who other (SetPes p now) r may is differ = stays_held (entry_of other (SetPes p now) r) h who is refl refl (is_accepted r) refl
  stays h who other (AddPid n) r may is differ = stays_held (entry_of other (AddPid n) r) h who is refl refl (is_accepted r) refl
  stays h who other (RemovePid n) r may is differ = stays_held (entry_of other (RemovePid n) r) h who is refl refl (is_accepted r) refl
  stays h who other (Start now) r may is differ = stays_held (entry_of other (Start now) r) h who is refl refl (is_accepted r) refl
  stays h who other Stop r may is differ = stays_held (entry_of other Stop r) h who is refl refl (is_accepted r) refl
  stays h who other (SetSize n) r may is differ = stays_held (entry_of other (SetSize n) r) h who is refl refl (is_accepted r) refl
  stays h who other (Read now n) r may is differ = stays_held (entry_of other (Read now n) r) h who is refl refl (is_accepted r) refl
  stays h who other (Poll now) r may is differ = stays_held (entry_of other (Poll now) r) h who is refl refl (is_accepted r) refl
  stays h who other (Pass i f ps now) r may is differ = stays_held (entry_of other (Pass i f ps now) r) h who is refl refl (is_accepted r) refl
  stays h who other End r may is differ = stays_held (entry_of other End r) h who is refl refl (is_accepted r) refl
  stays h who other (Attach n ps) r may is differ = stays_held (entry_of other (Attach n ps) r) h who is refl refl (is_accepted r) refl
  stays h who other (Detach n) r may is differ = stays_held (entry_of other (Detach n) r) h who is refl refl (is_accepted r) refl

  pub others_leave_the_owner : OthersLeaveTheOwner node
  others_leave_the_owner e h who may is differ = stays h who e.who e.invocation e.response may is differ

  -- ------ along a history

  owner_until : (later h : History) (who : ℕ) → IsLegalFor node (later ++ h) → AreOthers who later → owner h ≡ Some who → owner (later ++ h) ≡ Some who
  owner_until [] h who legal others is = is
  owner_until (e ∷ later) h who legal others is = others_leave_the_owner e (later ++ h) who legal.1 (owner_until later h who legal.0 others.0 is) others.1

  free_refused : (h : History) (who : ℕ) (call : Invocation) → is_for_anybody node.kind call ≡ false → owner h ≡ None → answer node h who call ≡ Refused Ebadf
  unfolding answer facts
  free_refused h who call tested is = rw (tested, is) refl

  free_read : (h : History) (who now count : ℕ) (r : Response) → owner h ≡ None → May node h who (Read now count) r → r ≡ Refused Ebadf
  free_read h who now count r is (inl same) = same ∙ free_refused h who (Read now count) refl is
  free_read h who now count r is (inr (no_memory, done, takes)) =
      absurd (let k : is_done (Refused Ebadf) ≡ true = rw (free_refused h who (Read now count) refl is) at done in cc)

  reader_owns : (h : History) (who now count : ℕ) (r : Response) → May node h who (Read now count) r → r ≢ Refused Ebadf → (o : Option ℕ) → owner h ≡ o → owner h ≡ Some who
  reader_owns h who now count r may given None is = absurd (given (free_read h who now count r is may))
  reader_owns h who now count r may given (Some o) is = go (nat_eq who o) refl where
    go : (b : Bool) → nat_eq who o ≡ b → owner h ≡ Some who
    go true yea = let same : who ≡ o = grind (arith, nat_tests, yea) in is ∙ ap (λ n. Some n) (sym same)
    go false nay = let differ : who ≢ o = λ same. grind (arith, nat_tests, nay, same) in absurd (given (others_do_not_read h o who now count r is differ may))

  read_by : (h : History) (e : Entry) (who : ℕ) → May node h e.who e.invocation e.response → (read : HasRead who e) → May node h who (Read read.read.0 read.read.1) e.response
  read_by h e who may read = subst (λ call. May node h who call e.response) read.read.2 (subst (λ w. May node h w e.invocation e.response) read.by may)

  read_keeps : (h : History) (e : Entry) (who : ℕ) → HasRead who e → owner h ≡ Some who → owner (e ∷ h) ≡ Some who
  read_keeps h e who read is = stays_held e h who is (no_open e.who e.invocation e.response read.read.2) (no_close e.who e.invocation e.response read.read.2) (is_accepted e.response) refl where
    no_open : (w : ℕ) (call : Invocation) (r : Response) → call ≡ Read read.read.0 read.read.1 → opens (event (entry_of w call r) h) ≡ false
    no_open w call r same = rw same refl

    no_close : (w : ℕ) (call : Invocation) (r : Response) → call ≡ Read read.read.0 read.read.1 → closes (event (entry_of w call r) h) ≡ false
    no_close w call r same = rw same refl

  legal_behind : (later h : History) → IsLegalFor node (later ++ h) → IsLegalFor node h
  legal_behind [] h legal = legal
  legal_behind (e ∷ later) h legal = legal_behind later h legal.0

  pub readers_call_between : ReadersCallBetween node
  readers_call_between h between one other e f legal differ read again others =
      let may_e = read_by h e one (legal_behind between (e ∷ h) legal.0).1 read in
      let owns : owner h ≡ Some one = reader_owns h one read.read.0 read.read.1 e.response may_e read.response (owner h) refl in
      let still : owner (between ++ e ∷ h) ≡ Some one = owner_until between (e ∷ h) one legal.0 others (read_keeps h e one read owns) in
      again.response (others_do_not_read (between ++ e ∷ h) one other again.read.0 again.read.1 f.response still (λ same. differ (sym same)) (read_by (between ++ e ∷ h) f other legal.1 again))
