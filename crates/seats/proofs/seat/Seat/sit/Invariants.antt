use Rattle.seats.proofs.seat.Seat.sit.Given as goal

-- a ledger of its own
abbrev pub ghosts-sit_counted : goal.ghosts-sit_counted
ghosts-sit_counted g a = record { name = a.blank.name; parts = a.blank.parts }
