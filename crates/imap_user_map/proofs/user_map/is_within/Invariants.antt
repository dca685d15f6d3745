use Rattle.imap_user_map.proofs.Within.{IsWalking}
use Rattle.imap_user_map.proofs.user_map.is_within.Given as goal

abbrev pub invariant-loop-user : goal.invariant-loop-user
invariant-loop-user g l = IsWalking g.V.Part.kept l.entries l.other.map l.user-iterator
