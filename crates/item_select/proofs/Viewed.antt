-- What the fields of a selector say after a step.
use Rattle.item_select.proofs.Imports.{◌≡◌, ℕ, ◌+◌, ◌≤◌, Bool, true, false, List, [], ◌∷◌, length, filter, Option, Some, None, refl, arith, or-false, payload_of, Assembly, cleared, after_packet, all_taken, bytes_kept, SectionFilter, Wanted, NothingWanted, SectionsWanted, PacketsWanted, Give, Payload, Nothing, Sections, Packets, is_selected, Selects, section_pid, bytes_held, choice_of, selecting_of, slice_get, ◌↔◌, IsNone, sym, ◌∙◌, append-nil, sum_by-cons, not_all, items_of, Selecting, Gave, without_first, after_offer}
use Rattle.item_select.proofs.Selected.{Selects-begun, sum-selected, sum-packet, Selects-next, without_first-none}

-- ------ What giving an item leaves
-- what an answer says, an item or none
pub record Answers (s left : Selecting) (o : Option (List ℕ)) : Type 0 where
  pub item : o ≡ slice_get s.ready 0
  pub drained : IsNone o ↔ (s.ready ≡ [])
  pub none : (offered given : List (List ℕ)) → Selects offered given s → (IsNone o ↔ (items_of s.choice offered ≡ given))
  pub gave : Gave s o left

-- x is the first item that is ready
answers-first : (s left : Selecting) (x : List ℕ) (ready rest : List (List ℕ)) → s.ready ≡ ready → ready ≡ x ∷ rest → left ≡ without_first s → Answers s left (Some x)
answers-first s left x ready rest r e f = record {
  item = rw (r, e) refl;
  drained = (λ z. absurd cc, λ z. absurd cc);
  none = λ offered given h. (λ z. absurd cc, λ z. absurd (not_all (items_of s.choice offered) given rest x (h.so_far ∙ rw (r, e) refl) z));
  gave = record {
    value = f;
    drained = λ z. absurd cc;
    bytes = rw (f, r, e) (omega (arith, sum_by-cons length x rest));
    stands = λ offered given h. rw f (Selects-next offered given x rest s (r ∙ e) h);
  };
}

pub answers-some : (s left : Selecting) (x : List ℕ) (rest : List (List ℕ)) → s.ready ≡ x ∷ rest → left ≡ without_first s → Answers s left (Some x)
answers-some s left x rest e f = answers-first s left x s.ready rest refl e f

-- no item is ready
pub answers-none : (s left : Selecting) → s.ready ≡ [] → left ≡ s → Answers s left None
answers-none s left e f = record {
  item = rw e refl;
  drained = (λ z. e, λ z. refl);
  none = λ offered given h. (λ z. h.so_far ∙ rw e (append-nil given), λ z. refl);
  gave = record {
    value = f ∙ sym (without_first-none s e);
    drained = λ z. rw f e;
    bytes = rw f (omega arith);
    stands = λ offered given h. rw f h;
  };
}

-- ------ a filter that begins

pub Selects-cleared : (w : Wanted) (a : Assembly) (last : List ℕ) → a ≡ cleared (section_pid (choice_of w)) → Selects [] [] (selecting_of w a false false last)
Selects-cleared NothingWanted a last e = rw e (Selects-begun Nothing)
Selects-cleared (SectionsWanted pid f check true) a last e = rw e (Selects-begun (Sections pid f check true))
Selects-cleared (SectionsWanted pid f check false) a last e = rw e (Selects-begun (Sections pid f check false))
Selects-cleared (PacketsWanted give) a last e = rw e (Selects-begun (Packets give))

-- ------ a packet is offered

pub offer-nothing : (w : Wanted) (a : Assembly) (is_spent waits : Bool) (last p : List ℕ) → w ≡ NothingWanted → selecting_of w a is_spent waits last ≡ after_offer (selecting_of w a is_spent waits last) p
unfolding after_offer
offer-nothing w a is_spent waits last p e = rw e refl

pub offer-spent : (w : Wanted) (pid : ℕ) (f : SectionFilter) (check once : Bool) (a : Assembly) (is_spent waits : Bool) (last p : List ℕ) → w ≡ SectionsWanted pid f check once → is_spent ≡ true
    → selecting_of w a is_spent waits last ≡ after_offer (selecting_of w a is_spent waits last) p
unfolding after_offer
offer-spent w pid f check once a is_spent waits last p e t = rw (e, t) refl

pub offer-section : (w : Wanted) (pid : ℕ) (f : SectionFilter) (check once : Bool) (a b : Assembly) (is_spent waits : Bool) (last p : List ℕ) → w ≡ SectionsWanted pid f check once → is_spent ≡ false
    → b ≡ after_packet (all_taken a) p → selecting_of w b is_spent waits last ≡ after_offer (selecting_of w a is_spent waits last) p
unfolding after_offer
offer-section w pid f check once a b is_spent waits last p e t h = rw (e, t, h) refl

pub offer-packet : (w : Wanted) (give : Give) (a : Assembly) (is_spent waits : Bool) (last p : List ℕ) → w ≡ PacketsWanted give
    → selecting_of w a is_spent true p ≡ after_offer (selecting_of w a is_spent waits last) p
unfolding after_offer
offer-packet w give a is_spent waits last p e = rw e refl

-- the bytes of a section filter behind a packet
pub section-bytes : (w : Wanted) (pid : ℕ) (f : SectionFilter) (check once : Bool) (a d b : Assembly) (is_spent waits : Bool) (last : List ℕ) → w ≡ SectionsWanted pid f check once → is_spent ≡ false
    → d ≡ all_taken a → bytes_kept b ≤ bytes_kept d + 184 → bytes_held (selecting_of w b is_spent waits last) ≤ bytes_held (selecting_of w a is_spent waits last) + 188
section-bytes w pid f check once a d b is_spent waits last e t k h = let g = rw k at h in rw (e, t) (omega (arith, sum-selected once (is_selected f check) b.ready, g))

-- the bytes of a filter of packets
pub packet-bytes : (w : Wanted) (give : Give) (a : Assembly) (is_spent waits : Bool) (last p : List ℕ) → w ≡ PacketsWanted give → length p ≡ 188
    → bytes_held (selecting_of w a is_spent true p) ≤ bytes_held (selecting_of w a is_spent waits last) + 188
packet-bytes w give a is_spent waits last p e l = rw e (omega (arith, sum-packet give p l))

-- ------ an item is given

-- the section found is given
pub next-section : (w : Wanted) (pid : ℕ) (f : SectionFilter) (check once : Bool) (a b : Assembly) (is_spent waits : Bool) (last x : List ℕ) → w ≡ SectionsWanted pid f check once → is_spent ≡ false
    → filter (is_selected f check) a.ready ≡ x ∷ filter (is_selected f check) b.ready → all_taken b ≡ all_taken a
    → Answers (selecting_of w a is_spent waits last) (selecting_of w b once waits last) (Some x)
next-section w pid f check true a b is_spent waits last x e t h k = rw (e, t) (answers-some _ _ x [] (rw h refl) (rw (h, k) refl))
next-section w pid f check false a b is_spent waits last x e t h k = rw (e, t) (answers-some _ _ x (filter (is_selected f check) b.ready) h (rw (h, k) refl))

-- the payload of the last packet is given, where it has one
pub next-payload : (w : Wanted) (give : Give) (a : Assembly) (is_spent waits : Bool) (last : List ℕ) (o : Option (List ℕ)) → w ≡ PacketsWanted give → give ≡ Payload → waits ≡ true → o ≡ payload_of last
    → Answers (selecting_of w a is_spent waits last) (selecting_of w a is_spent false last) o
next-payload w give a is_spent waits last (Some x) e f t h = rw (e, f, t) (answers-some _ _ x [] (rw (← h) refl) (rw (← h, or-false is_spent) refl))
next-payload w give a is_spent waits last None e f t h = rw (e, f, t) (answers-none _ _ (rw (← h) refl) (rw (← h) refl))
