use Rattle.imap_tests.proofs.settling.a_host_ends_with_its_seats.Given as goal

abbrev pub ghosts-ended : goal.ghosts-ended
ghosts-ended g a = record { name = a.blank.name; parts = a.blank.parts }
