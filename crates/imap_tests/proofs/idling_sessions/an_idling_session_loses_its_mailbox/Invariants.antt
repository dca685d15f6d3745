use Rattle.imap_tests.proofs.idling_sessions.an_idling_session_loses_its_mailbox.Given as goal

abbrev pub ghosts-told : goal.ghosts-told
ghosts-told g a = record { name = a.blank.name; parts = a.blank.parts }
