use Rattle.imap_tests.proofs.peers.each_port_is_its_users.Given as goal

abbrev pub ghosts-are_seated_anew : goal.ghosts-are_seated_anew
ghosts-are_seated_anew g a = record { name = a.blank.name; parts = a.blank.parts }
