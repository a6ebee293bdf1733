use Rattle.tests_runs.proofs.tests.taps.each_tap_names_its_packets.Given as goal

-- a ledger of its own
abbrev pub ghosts-find_odd : goal.ghosts-find_odd
ghosts-find_odd g a = record { name = a.blank.name; parts = a.blank.parts }
