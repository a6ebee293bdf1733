use Rattle.item_select.proofs.Viewed.{Selects-cleared}
use Rattle.item_select.proofs.selector.Selector.restart.Goals as goal

pub returns-clause-stands : goal.returns-clause-stands
returns-clause-stands c = Selects-cleared c.self.inside.wanted c.clear.new.self c.self.inside.last (rw (← c.section_pid.ensures) c.clear.ensures.value)
