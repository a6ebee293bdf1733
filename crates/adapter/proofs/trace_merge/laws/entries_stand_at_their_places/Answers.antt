use Rattle.adapter.proofs.Imports.{◌≡◌, ◌<◌, ◌+◌, ◌∙◌, sym, ap, subst, [], ◌∷◌, Some, length, map, get_or, nat_eq, slice_get, option_map, arith, length-append, length-map, All-permutation, IsPermutation-map, length_permutation, IsDistinct-IsPermutation, slice_get-get_or, slice_get-map, ToldEntry, told_entry, pass_act, feeder_acts, woven, AreInPlace, EndAct, woven-length, woven_nodes-at, entries_on, length_on, StandAtTheirPlaces, nat_eq_turned}
use Rattle.adapter.proofs.Standing.{ascends, in-place}
use Rattle.adapter.proofs.trace_merge.laws.entries_stand_at_their_places.Goals as goal

stand : StandAtTheirPlaces
stand feeding logs nodes merged node low names h at =
    let acts = feeder_acts feeding in
    let calls = get_or nodes node [] in
    let many = merged.many in
    let there : node < length nodes = omega (arith, many, low) in
    let own : slice_get nodes node ≡ Some calls = slice_get-get_or nodes node [] there in
    let told : slice_get (map (λ calls. map told_entry calls) nodes) node ≡ Some (map told_entry calls) = slice_get-map (λ calls. map told_entry calls) nodes node ∙ ap (option_map (λ calls. map told_entry calls)) own in
    let n : 0 + node ≡ node = omega arith in
    let woven_there = woven_nodes-at 0 acts (map (λ calls. map told_entry calls) nodes) node (map told_entry calls) told ∙ ap (λ n. Some (woven n acts (map told_entry calls))) n in
    let both : Some h ≡ Some (woven node acts (map told_entry calls)) = sym at ∙ woven_there in
    let same : h ≡ woven node acts (map told_entry calls) = cc both in
    let moved = merged.entries node calls own in
    let once = IsDistinct-IsPermutation nat_eq nat_eq_turned (map (λ (e : ToldEntry). e.place) (entries_on node logs)) (map (λ (e : ToldEntry). e.place) calls) (IsPermutation-map (λ (e : ToldEntry). e.place) (entries_on node logs) calls moved) names.once in
    let below = All-permutation (λ (e : ToldEntry). e.place < length_on node feeding logs) (entries_on node logs) calls moved names.below in
    let long = length_permutation (entries_on node logs) calls moved in
    let a = length-append (map pass_act feeding) (EndAct ∷ []) in
    let m = length-map feeding pass_act in
    let t = length-map calls told_entry in
    let w = woven-length node acts (map told_entry calls) in (
      subst (λ h. AreInPlace 0 h) (sym same) (in-place node (length_on node feeding logs) calls 0 0 acts below (ascends calls (merged.in_order node calls own) once) (omega (arith, long, a, m))),
      ap length same ∙ (omega (arith, w, t, a, m, long)),
    )

pub returns : goal.returns
returns c = stand
