-- A report is the text of what it tells.
use Rattle.report_check.proofs.Imports.{◌≡◌, refl, ℕ, suc, List, [], ◌∷◌, Bool, true, false, flat_map, list_any, Outcome, StreamHead, LogEntry, is_of_client, histories_text, report_of, told_node_text, text_of, shown, told_by}

shown_one : (node : ℕ) (h : List LogEntry) (hs : List (List LogEntry)) → histories_text (suc node) hs ≡ flat_map told_node_text (shown (suc node) hs)
    → (b : Bool) → list_any is_of_client h ≡ b → histories_text node (h ∷ hs) ≡ flat_map told_node_text (shown node (h ∷ hs))
shown_one node h hs later true e = rw (e, later) refl
shown_one node h hs later false e = rw (e, later) refl

shown_text : (node : ℕ) (hs : List (List LogEntry)) → histories_text node hs ≡ flat_map told_node_text (shown node hs)
shown_text node [] = refl
shown_text node (h ∷ hs) = shown_one node h hs (shown_text (suc node) hs) (list_any is_of_client h) refl

pub reports_tell : (head : StreamHead) (outcomes : List (List Outcome)) (hs : List (List LogEntry)) → report_of head outcomes hs ≡ text_of (told_by head outcomes hs)
reports_tell head outcomes hs = rw (shown_text 0 hs) refl
