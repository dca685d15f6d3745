use Rattle.imap_tests.proofs.spoken_dialects.clients_are_spoken_to_in_the_dialect.Given as goal

abbrev pub ghosts-told_anew : goal.ghosts-told_anew
ghosts-told_anew g a = record { name = a.blank.name; parts = a.blank.parts }
