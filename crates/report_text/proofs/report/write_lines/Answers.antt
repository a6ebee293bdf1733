use Rattle.report_text.proofs.Imports.{◌≡◌, ◌++◌, List, ℕ, map, ap, codes, append_assoc, Option, flat_map, on_ok_weaker, on_err_weaker, StreamHead, told_head, Outcome, LogEntry, histories_text, tally_text, row_text, clients_text, end_text, report_of, Adds, AddsPart}
use Rattle.report_text.proofs.Pieces.{adds_both, adds_as, part_behind, part_before, part_as, none_waits, on_any_err}
use Rattle.report_text.proofs.report.write_lines.Goals as goal

-- the five parts of a report, one behind the other
module _ (head : StreamHead) (outcomes : List (List Outcome)) (histories : List (List LogEntry)) where
  abbrev first : List ℕ
  first = codes "dvbemu 1\n" ++ tally_text head.tally

  abbrev rows : List ℕ
  rows = flat_map row_text head.rows

  abbrev clients : List ℕ
  clients = clients_text 0 outcomes

  abbrev nodes : List ℕ
  nodes = histories_text 0 histories

  abbrev last : List ℕ
  last = end_text head.read_fault

  whole : first ++ (rows ++ (clients ++ (nodes ++ last))) ≡ report_of head outcomes histories
  whole = append_assoc (codes "dvbemu 1\n") (tally_text head.tally) (rows ++ (clients ++ (nodes ++ last)))

  breaks_first : {a b : Option (List ℕ)} {u : List ℕ} → AddsPart a b u first → AddsPart a b u (report_of head outcomes histories)
  breaks_first p = part_as whole (part_before first (rows ++ (clients ++ (nodes ++ last))) p)

  breaks_rows : {a b c : Option (List ℕ)} {u v : List ℕ} → Adds a b u v first → AddsPart b c v rows → AddsPart a c u (report_of head outcomes histories)
  breaks_rows p q = part_as whole (part_behind first (rows ++ (clients ++ (nodes ++ last))) p (part_before rows (clients ++ (nodes ++ last)) q))

  breaks_clients : {a b c d : Option (List ℕ)} {u v w : List ℕ} → Adds a b u v first → Adds b c v w rows → AddsPart c d w clients → AddsPart a d u (report_of head outcomes histories)
  breaks_clients p q r = part_as whole (part_behind first (rows ++ (clients ++ (nodes ++ last))) p (part_behind rows (clients ++ (nodes ++ last)) q (part_before clients (nodes ++ last) r)))

  breaks_nodes : {a b c d e : Option (List ℕ)} {u v w x : List ℕ} → Adds a b u v first → Adds b c v w rows → Adds c d w x clients → AddsPart d e x nodes → AddsPart a e u (report_of head outcomes histories)
  breaks_nodes p q r s = part_as whole (part_behind first (rows ++ (clients ++ (nodes ++ last))) p (part_behind rows (clients ++ (nodes ++ last)) q (part_behind clients (nodes ++ last) r (part_before nodes last s))))

  breaks_last : {a b c d e f : Option (List ℕ)} {u v w x y : List ℕ} → Adds a b u v first → Adds b c v w rows → Adds c d w x clients → Adds d e x y nodes → AddsPart e f y last
      → AddsPart a f u (report_of head outcomes histories)
  breaks_last p q r s t = part_as whole (part_behind first (rows ++ (clients ++ (nodes ++ last))) p (part_behind rows (clients ++ (nodes ++ last)) q (part_behind clients (nodes ++ last) r (part_behind nodes last s t))))

  adds_all : {a b c d e f : Option (List ℕ)} {u v w x y z : List ℕ} → Adds a b u v first → Adds b c v w rows → Adds c d w x clients → Adds d e x y nodes → Adds e f y z last
      → Adds a f u z (report_of head outcomes histories)
  adds_all p q r s t = adds_as whole (adds_both first (rows ++ (clients ++ (nodes ++ last))) p (adds_both rows (clients ++ (nodes ++ last)) q (adds_both clients (nodes ++ last) r (adds_both nodes last s t))))

pub returns-in_err-write_first-clause-part : goal.returns-in_err-write_first-clause-part
returns-in_err-write_first-clause-part g c =
    on_any_err c.from_residual.result (breaks_first (told_head c.args.head.now) (map (λ o. o.items) c.args.outcomes.now) c.args.histories.now c.in_err-write_first.ensures.part)

pub returns-in_err-write_rows-clause-part : goal.returns-in_err-write_rows-clause-part
returns-in_err-write_rows-clause-part g c =
    on_any_err c.from_residual-in_err-write_rows.result (breaks_rows (told_head c.args.head.now) (map (λ o. o.items) c.args.outcomes.now) c.args.histories.now
    c.in_ok-write_first.ensures.adds (part_as (ap (flat_map row_text) c.deref.ensures.value) c.in_err-write_rows.ensures.part))

pub returns-in_err-write_clients-clause-part : goal.returns-in_err-write_clients-clause-part
returns-in_err-write_clients-clause-part g c =
    on_any_err c.from_residual-in_err-write_clients.result (breaks_clients (told_head c.args.head.now) (map (λ o. o.items) c.args.outcomes.now) c.args.histories.now
    c.in_ok-write_first.ensures.adds (adds_as (ap (flat_map row_text) c.deref.ensures.value) c.in_ok-write_rows.ensures.adds) c.in_err-write_clients.ensures.part)

pub returns-in_err-write_histories-clause-part : goal.returns-in_err-write_histories-clause-part
returns-in_err-write_histories-clause-part g c =
    on_any_err c.from_residual-in_err-write_histories.result (breaks_nodes (told_head c.args.head.now) (map (λ o. o.items) c.args.outcomes.now) c.args.histories.now
    c.in_ok-write_first.ensures.adds (adds_as (ap (flat_map row_text) c.deref.ensures.value) c.in_ok-write_rows.ensures.adds) c.in_ok-write_clients.ensures.adds c.in_err-write_histories.ensures.part)

pub returns-clause-adds : goal.returns-clause-adds
returns-clause-adds g c =
    on_ok_weaker c.write_end.result
    (λ end. adds_all (told_head c.args.head.now) (map (λ o. o.items) c.args.outcomes.now) c.args.histories.now
    c.in_ok-write_first.ensures.adds (adds_as (ap (flat_map row_text) c.deref.ensures.value) c.in_ok-write_rows.ensures.adds) c.in_ok-write_clients.ensures.adds c.in_ok-write_histories.ensures.adds end)
    (none_waits _ _ _ _ _ c.write_end.result c.write_end.ensures.none c.write_end.ensures.adds)

pub returns-clause-part : goal.returns-clause-part
returns-clause-part g c =
    on_err_weaker c.write_end.result
    (λ end. breaks_last (told_head c.args.head.now) (map (λ o. o.items) c.args.outcomes.now) c.args.histories.now
    c.in_ok-write_first.ensures.adds (adds_as (ap (flat_map row_text) c.deref.ensures.value) c.in_ok-write_rows.ensures.adds) c.in_ok-write_clients.ensures.adds c.in_ok-write_histories.ensures.adds end)
    c.write_end.ensures.part
