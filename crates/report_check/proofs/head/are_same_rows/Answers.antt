-- Where `==` says whether two outcomes are the same, it says so of two lists of them.
use Rattle.report_check.proofs.Imports.{◌∙◌, sym, rules, false≢true}
use Rattle.report_check.proofs.Lists.{decided}
use Rattle.report_check.proofs.head.are_same_rows.Goals as goal

pub returns-clause-same : goal.returns-clause-same
returns-clause-same c = (decided c.args.this.now c.args.other.now c.eq.result c.eq.ensures (λ a b. (λ t. search rules, λ e. search rules))).0

pub returns-clause-differs : goal.returns-clause-differs
returns-clause-differs c other same = false≢true (sym other ∙ (decided c.args.this.now c.args.other.now c.eq.result c.eq.ensures (λ a b. (λ t. search rules, λ e. search rules))).1 same)
