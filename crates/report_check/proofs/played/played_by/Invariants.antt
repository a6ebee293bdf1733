use Rattle.report_check.proofs.played.played_by.Given as goal

-- a ledger of its own
abbrev pub ghosts-played_with : goal.ghosts-played_with
ghosts-played_with a = record { name = a.blank.name; parts = a.blank.parts }
