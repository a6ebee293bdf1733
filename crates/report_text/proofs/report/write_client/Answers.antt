use Rattle.report_text.proofs.Imports.{◌≡◌, ◌++◌, ◌∙◌, List, ℕ, ap, subst, codes, decimal, append_assoc, flat_map, on_ok_weaker, on_err_weaker, Outcome, client_text, outcome_text, Adds, AddsPart}
use Rattle.report_text.proofs.Pieces.{adds_both, part_behind, part_before, on_any_err}
use Rattle.report_text.proofs.report.write_client.Goals as goal

abbrev line : (client : ℕ) → List ℕ
line client = codes "client " ++ (decimal client ++ codes "\n")

-- the line of the client, and what stands behind it
whole : (client : ℕ) (outcomes : List Outcome) → line client ++ flat_map outcome_text outcomes ≡ client_text client outcomes
whole client outcomes =
    append_assoc (codes "client ") (decimal client ++ codes "\n") (flat_map outcome_text outcomes) ∙ ap (λ l. codes "client " ++ l) (append_assoc (decimal client) (codes "\n") (flat_map outcome_text outcomes))

pub returns-in_err-write_client_line-clause-part : goal.returns-in_err-write_client_line-clause-part
returns-in_err-write_client_line-clause-part g c =
    on_any_err c.from_residual.result (subst (AddsPart _ _ _) (whole c.args.client c.args.outcomes.now) (part_before (line c.args.client) (flat_map outcome_text c.args.outcomes.now) c.in_err-write_client_line.ensures.part))

pub returns-clause-adds : goal.returns-clause-adds
returns-clause-adds g c =
    on_ok_weaker c.write_outcomes.result
    (λ p. subst (Adds _ _ _ _) (whole c.args.client c.args.outcomes.now) (adds_both (line c.args.client) (flat_map outcome_text c.args.outcomes.now) c.in_ok-write_client_line.ensures.adds p))
    c.write_outcomes.ensures.adds

pub returns-clause-part : goal.returns-clause-part
returns-clause-part g c =
    on_err_weaker c.write_outcomes.result
    (λ p. subst (AddsPart _ _ _) (whole c.args.client c.args.outcomes.now) (part_behind (line c.args.client) (flat_map outcome_text c.args.outcomes.now) c.in_ok-write_client_line.ensures.adds p))
    c.write_outcomes.ensures.part
