use Rattle.text_forms.proofs.Filters.{with_place-IsFilter}
use Rattle.report_read.proofs.sets.put.Goals as goal

pub returns-clause-range : goal.returns-clause-range
returns-clause-range c = rw c.set.ensures (with_place-IsFilter c.args.filter c.args.place c.requires.filter c.requires.place)
