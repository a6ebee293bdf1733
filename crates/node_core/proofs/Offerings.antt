-- What a history offers to its selector, and the items that it selects.
use Rattle.node_core.proofs.Imports.{ℕ, ◌≡◌, refl, sym, ◌∙◌, ap, true, List, [], ◌∷◌, ◌++◌, None, filter_map, append-nil, filter_map-append, Output, Decoder, Tap, TsTap, TsdemuxTap, SectionParams, PesParams, Event, History, Params, Empty, Section, Pes, params, pids, packets_in, packets_of, is_named, item_of, pes_items, selected, offered, Frontend, Give, Payload, Whole, Packets, given_by, Selecting, Selects, choice_by, choice_of, offers, is_selected, items_of}
use Rattle.std.specs.List.{filter}
use Rattle.dmx_calls.specs.Items.{selects, section_items, items}

-- ------ section filters

-- a filter of no packet out leaves all
pub all_offered : (ps : List (List ℕ)) → filter (λ packet. true) ps ≡ ps
all_offered [] = refl
all_offered (p ∷ ps) = ap (λ qs. p ∷ qs) (all_offered ps)

packets_are : (p : SectionParams) (evs : List Event) → offers (Section p) evs ≡ packets_of Frontend evs
packets_are p [] = refl
packets_are p (ev ∷ evs) = rw (packets_are p evs, all_offered (packets_in Frontend ev)) refl

sections_are : (p : SectionParams) (evs : List Event) → section_items p evs ≡ items_of (choice_of (Section p)) (offers (Section p) evs)
unfolding section_items items_of selects is_selected
sections_are p evs = rw (packets_are p evs) refl

-- ------ filters of packets

module _ (out : Output) (give : Give) (same : (ps : List (List ℕ)) → filter_map (item_of out) ps ≡ filter_map (given_by give) ps) where
  packets_by : (p : PesParams) → p.output ≡ out → choice_by out ≡ Packets give → (evs : List Event) → pes_items p evs ≡ items_of (Packets give) (offers (Pes p) evs)
  unfolding items_of
  packets_by p is by [] = refl
  packets_by p is by (ev ∷ evs) =
      rw (is, packets_by p is by evs, same (filter (is_named (pids ev.before)) (packets_in p.input ev)))
      (sym (filter_map-append (given_by give) (offers (Pes p) evs) (filter (is_named (pids ev.before)) (packets_in p.input ev))))

none_picked : (out : Output) → ((p : List ℕ) → item_of out p ≡ None) → (ps : List (List ℕ)) → filter_map (item_of out) ps ≡ []
none_picked out none [] = refl
none_picked out none (p ∷ ps) = rw (none p) (none_picked out none ps)

nothing_by : (p : PesParams) (out : Output) → p.output ≡ out → ((p : List ℕ) → item_of out p ≡ None) → (evs : List Event) → pes_items p evs ≡ []
nothing_by p out is none [] = refl
nothing_by p out is none (ev ∷ evs) =
    rw (is, nothing_by p out is none evs) (none_picked out none (filter (is_named (pids ev.before)) (packets_in p.input ev)))

pes_are : (p : PesParams) (out : Output) → p.output ≡ out → (evs : List Event) → pes_items p evs ≡ items_of (choice_by out) (offers (Pes p) evs)
unfolding items_of
pes_are p Tap is evs = packets_by Tap Payload (λ ps. refl) p is refl evs
pes_are p TsdemuxTap is evs = packets_by TsdemuxTap Whole (λ ps. refl) p is refl evs
pes_are p TsTap is evs = nothing_by p TsTap is (λ p. refl) evs
pes_are p Decoder is evs = nothing_by p Decoder is (λ p. refl) evs

-- ------ any filter

selected_are : (set : Params) (evs : List Event) → selected set evs ≡ items_of (choice_of set) (offers set evs)
unfolding items_of
selected_are Empty evs = refl
selected_are (Section p) evs = sections_are p evs
selected_are (Pes p) evs = pes_are p p.output refl evs

-- The items of a history are those that its selector selects from what it is offered.
pub items_are : (h : History) → items h ≡ items_of (choice_of (params h)) (offers (params h) (offered h))
unfolding items
items_are h = selected_are (params h) (offered h)

-- so they are the ones that a selector has given which was offered that, and has none ready
pub items_given : (h : History) (given : List (List ℕ)) (s : Selecting) → s.choice ≡ choice_of (params h) → s.ready ≡ []
    → Selects (offers (params h) (offered h)) given s → items h ≡ given
items_given h given s choice ready k =
    items_are h ∙ (ap (λ c. items_of c (offers (params h) (offered h))) (sym choice) ∙ (k.so_far ∙ (ap (λ xs. given ++ xs) ready ∙ append-nil given)))
