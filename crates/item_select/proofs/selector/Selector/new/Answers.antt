use Rattle.item_select.specs.Items.{Nothing}
use Rattle.item_select.proofs.Selected.{Selects-begun}
use Rattle.item_select.proofs.selector.Selector.new.Goals as goal

pub returns-clause-stands : goal.returns-clause-stands
returns-clause-stands c = rw (c.in_ok-new.ensures.value) (Selects-begun Nothing)
