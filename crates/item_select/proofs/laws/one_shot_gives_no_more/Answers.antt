use Rattle.item_select.proofs.Selected.{spent-selects}
use Rattle.item_select.proofs.laws.one_shot_gives_no_more.Goals as goal

pub returns : goal.returns
returns c = spent-selects
