-- The expiry at an entry, by the ledger before it.
use Rattle.node_core.proofs.Imports.{ℕ, ◌+◌, ◌≡◌, refl, sym, ◌∙◌, ap, Bool, true, false, ◌||◌, Option, Some, None, if◌then◌else◌, not, ◌&&◌, nat_eq, nat_le, is_some, option_or, History, Params, params, timeout_of, Ledger, expired_then, expiring, expiry, expired}

-- without a timeout nothing expires
pub never : (h : History) → nat_eq (timeout_of (params h)) 0 ≡ true → expired h ≡ None
unfolding expired expiry
never h off = rw off refl

module _ (l : Ledger) (now : ℕ) (none due : Bool) where
  by_before : (off : Bool) (before : Option ℕ) → l.expired ≡ before → (off ≡ true → before ≡ None)
      → record l { expired = if off then None else option_or before (if none then (if due then Some now else None) else None) }
      ≡ (if is_some before || not (not off && (none && due)) then l else record l { expired = Some now })
  by_before true before is calm = let b : before ≡ None = calm refl in rw b (let k : l.expired ≡ None = is ∙ b in ap (λ x. record l { expired = x }) (sym k))
  by_before false (Some m) is calm = ap (λ x. record l { expired = x }) (sym is)
  by_before false None is calm = by_due none due where
    by_due : (none due : Bool) → record l { expired = if none then (if due then Some now else None) else None } ≡ (if not (none && due) then l else record l { expired = Some now })
    by_due true true = refl
    by_due true false = ap (λ x. record l { expired = x }) (sym is)
    by_due false due = ap (λ x. record l { expired = x }) (sym is)

  by_stop : (stopped off : Bool) → (off ≡ true → l.expired ≡ None)
      → record l { expired = if stopped then l.expired else (if off then None else option_or l.expired (if none then (if due then Some now else None) else None)) }
      ≡ (if stopped || (is_some l.expired || not (not off && (none && due))) then l else record l { expired = Some now })
  by_stop true off calm = refl
  by_stop false off calm = by_before off l.expired refl calm

-- at an entry of this moment
pub expiring_is : (set : Params) (l : Ledger) (now : ℕ) → (nat_eq (timeout_of set) 0 ≡ true → l.expired ≡ None)
    → record l { expired = expired_then set l false (Some now) } ≡ expiring (timeout_of set) now l
expiring_is set l now calm = by_stop l now (nat_eq l.count 0) (nat_le (l.started + timeout_of set) now) l.is_stopped (nat_eq (timeout_of set) 0) calm

-- at an entry without a moment nothing expires
pub unclocked : (set : Params) (l : Ledger) (stops : Bool) → (nat_eq (timeout_of set) 0 ≡ true → l.expired ≡ None) → expired_then set l stops None ≡ l.expired
unclocked set l stops calm = by_case (stops || l.is_stopped) (nat_eq (timeout_of set) 0) (nat_eq l.count 0) l.expired calm where
  by_case : (stopped off none : Bool) (before : Option ℕ) → (off ≡ true → before ≡ None) → (if stopped then before else (if off then None else option_or before (if none then None else None))) ≡ before
  by_case true off none before calm = refl
  by_case false true none before calm = sym (calm refl)
  by_case false false none (Some m) calm = refl
  by_case false false true None calm = refl
  by_case false false false None calm = refl
