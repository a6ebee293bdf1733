use Rattle.tests_runs.proofs.tests.locks.held.attempt.Given as goal

-- a ledger of its own
abbrev pub ghosts-try_counted : goal.ghosts-try_counted
ghosts-try_counted a = record { name = a.blank.name; parts = a.blank.parts }
