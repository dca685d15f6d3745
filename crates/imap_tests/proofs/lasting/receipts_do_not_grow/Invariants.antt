use Rattle.imap_tests.proofs.lasting.receipts_do_not_grow.Given as goal

abbrev pub ghosts-kept : goal.ghosts-kept
ghosts-kept g a = record { name = a.blank.name; parts = a.blank.parts }
