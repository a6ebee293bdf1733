use Rattle.tests_runs.proofs.tests.locks.call.Given as goal

-- a ledger of its own
abbrev pub ghosts-call_counted : goal.ghosts-call_counted
ghosts-call_counted g a = record { name = a.blank.name; parts = a.blank.parts }
