use Rattle.item_select.proofs.Selected.{all-selects}
use Rattle.item_select.proofs.laws.all_items_are_given.Goals as goal

pub returns : goal.returns
returns c = all-selects
