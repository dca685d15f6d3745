use Rattle.imap_user_map.proofs.Entries.{IsCopying}
use Rattle.imap_user_map.proofs.user_map.copy_entries.Given as goal

abbrev pub invariant-loop-user : goal.invariant-loop-user
invariant-loop-user g l = IsCopying l.entries l.user-iterator l.copy
