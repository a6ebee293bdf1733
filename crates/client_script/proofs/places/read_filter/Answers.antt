use Rattle.client_script.proofs.Imports.{◌≡◌, ◌+◌, ◌-◌, [], refl, ◌∙◌, rules, arith, with_place-IsFilter, zeros-IsFilter, filter_in}
use Rattle.client_script.proofs.Filters.{filter_by, filter_by-full, filter_by-end, filter_by-fault, filter_by-place}
use Rattle.client_script.proofs.places.read_filter.Goals as goal

pub places-init : goal.places-init
unfolding filter_by filter_in
places-init c = rw c.empty-filter.ensures (record { read = refl; range = zeros-IsFilter })

pub returns-in_default-clause-value : goal.returns-in_default-clause-value
returns-in_default-clause-value c =
    let end : (c.places.words ≡ []) × (c.next.new.self ≡ []) = search rules in
    rw end.1 (c.places.invariant.read ∙ filter_by-end c.places.filter _ (16 - (c.places._place + 1)) c.places.least c.places.words (omega arith) end.0)

pub returns-in_default-place_named-clause-value : goal.returns-in_default-place_named-clause-value
returns-in_default-place_named-clause-value c =
    rw c.fault.ensures (c.places.invariant.read
    ∙ filter_by-fault c.places.filter _ (16 - (c.places._place + 1)) c.places.least c.places.words c.in-Some.word.now c.next.new.self (omega arith) (search rules) (search rules))

pub places-preserved : goal.places-preserved
places-preserved c =
    record {
      read = rw c.set.ensures (c.places.invariant.read
          ∙ filter_by-place c.places.filter _ (16 - (c.places._place + 1)) c.places.least c.places.words c.in-Some.word.now c.next.new.self c.in-Some-place_named.place (omega arith) (search rules) (search rules));
      range = rw c.set.ensures (with_place-IsFilter c.places.filter c.in-Some-place_named.place c.places.invariant.range (search rules));
    }

pub returns-clause-value : goal.returns-clause-value
returns-clause-value c = c.places.invariant.read ∙ filter_by-full c.places.filter _ c.places.least c.places.words (omega arith)
