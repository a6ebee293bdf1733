use Rattle.feed_pull.proofs.Imports.{◌≡◌, ◌+◌, ◌++◌, ℕ, List, take, Watched}
use Rattle.feed_pull.proofs.puller.watch_all.Given as goal

abbrev pub invariant-packets : goal.invariant-packets
invariant-packets l = record {
  watched : l.watch.watched ≡ l.fn.watch.watched + l.packet-index;
  stands : (before : List (List ℕ)) → Watched before l.fn.watch → Watched (before ++ take l.packet-index l.packets) l.watch;
}
