use Rattle.emu_top.proofs.stream.read_stream.Given as goal

-- a ledger of its own
abbrev pub ghosts-read_counted : goal.ghosts-read_counted
ghosts-read_counted g a = record { name = a.blank.name; parts = a.blank.parts }
