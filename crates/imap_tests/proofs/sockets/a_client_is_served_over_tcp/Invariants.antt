use Rattle.imap_tests.proofs.sockets.a_client_is_served_over_tcp.Given as goal

abbrev pub ghosts-told_anew : goal.ghosts-told_anew
ghosts-told_anew g a = record { name = a.blank.name; parts = a.blank.parts }
