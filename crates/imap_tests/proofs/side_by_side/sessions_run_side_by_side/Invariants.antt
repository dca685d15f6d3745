use Rattle.imap_tests.proofs.side_by_side.sessions_run_side_by_side.Given as goal

abbrev pub ghosts-waited : goal.ghosts-waited
ghosts-waited g a = record { name = a.blank.name; parts = a.blank.parts }
