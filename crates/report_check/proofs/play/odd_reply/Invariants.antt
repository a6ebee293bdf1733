use Rattle.report_check.proofs.play.odd_reply.Given as goal

-- a ledger of its own
abbrev pub ghosts-odd_with : goal.ghosts-odd_with
ghosts-odd_with a = record { name = a.blank.name; parts = a.blank.parts }
