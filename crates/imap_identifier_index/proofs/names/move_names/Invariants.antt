use Rattle.std.proofs.Common.{drop, map}
use Rattle.imap_identifier_index.proofs.Renaming.{IsWalking}
use Rattle.imap_identifier_index.proofs.names.move_names.Given as goal

abbrev pub invariant-loop-arrival : goal.invariant-loop-arrival
invariant-loop-arrival g l =
    IsWalking l.fn.names.items l.names.items l.old l.new (map (λ e. e.0) l.run) (map (λ e. e.0) l.rest) (map (λ a. a.0) (drop l.arrival-index l.arrivals))
