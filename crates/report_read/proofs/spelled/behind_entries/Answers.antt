use Rattle.report_read.proofs.Imports.{told_entry, entry_text}
use Rattle.report_read.proofs.Compared.{gone_more}
use Rattle.report_read.proofs.spelled.behind_entries.Goals as goal

pub entries-preserved : goal.entries-preserved
entries-preserved c =
    rw (c.behind_text-left.ensures, c.deref.ensures.value, c.in_ok-add_entry.ensures.items, c.clear.ensures.items)
    (gone_more entry_text told_entry c.args.entries.now c.entries.entry-index c.entry-item.result c.args.first c.entries-test.true c.entry-item.is c.entries.invariant)
