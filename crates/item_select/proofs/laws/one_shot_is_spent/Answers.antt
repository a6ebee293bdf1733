use Rattle.item_select.proofs.Selected.{once-spent}
use Rattle.item_select.proofs.laws.one_shot_is_spent.Goals as goal

pub returns : goal.returns
returns c = once-spent
