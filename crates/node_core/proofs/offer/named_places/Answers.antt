use Rattle.node_core.proofs.Imports.{◌∙◌, ◌||◌, ◌∷◌, [], ap, sym, or-false, pids_of, is_named, names, named-by}
use Rattle.node_core.proofs.offer.named_places.Goals as goal

pub returns-in-Section : goal.returns-in-Section
returns-in-Section c = λ i packet at.
    c.add.ensures i packet at
    ∙ ap (λ b. b || names c.in-Section.wanted.pid packet) (c.new-places.ensures i)
    ∙ sym (or-false (names c.in-Section.wanted.pid packet))
    ∙ named-by packet (c.in-Section.wanted.pid ∷ [])
    ∙ ap (λ p. is_named (pids_of p) packet) (sym c.in-Section.is)

pub returns-in-Pes : goal.returns-in-Pes
returns-in-Pes c = λ i packet at.
    c.add_all.ensures i packet at
    ∙ ap (λ b. b || is_named c.in-Pes.pids packet) (c.new-places.ensures i)
    ∙ ap (λ p. is_named (pids_of p) packet) (sym c.in-Pes.is)
