use denote.Param.Send.{param_send, sendable}
use Rattle.imap_host.proofs.workers.fn.crew.scope.Goals as goal

pub start_all-requires-send-K : goal.start_all-requires-send-K
start_all-requires-send-K g c κs within = search (sendable, param_send) depth 60 fits 20000

pub start_all-requires-send-L : goal.start_all-requires-send-L
start_all-requires-send-L g c κs within = search (sendable, param_send) depth 60 fits 20000

pub start_all-requires-send-D : goal.start_all-requires-send-D
start_all-requires-send-D g c κs within = search (sendable, param_send) depth 60 fits 20000

pub start_all-requires-send-D-In : goal.start_all-requires-send-D-In
start_all-requires-send-D-In g c κs within = search (sendable, param_send) depth 60 fits 20000

pub start_all-requires-send-D-Out : goal.start_all-requires-send-D-Out
start_all-requires-send-D-Out g c κs within = search (sendable, param_send) depth 60 fits 20000

pub start_all-requires-send-T-Rule : goal.start_all-requires-send-T-Rule
start_all-requires-send-T-Rule g c κs within = search (sendable, param_send) depth 60 fits 20000
