use denote.Param.Send.{param_send, sendable}
use Rattle.imap_host.proofs.workers.fn.start.spawn.Goals as goal

pub work-requires-send-D-In : goal.work-requires-send-D-In
work-requires-send-D-In g c κs within = search (sendable, param_send) depth 60 fits 20000

pub work-requires-send-D-Out : goal.work-requires-send-D-Out
work-requires-send-D-Out g c κs within = search (sendable, param_send) depth 60 fits 20000

pub work-requires-send-T-Rule : goal.work-requires-send-T-Rule
work-requires-send-T-Rule g c κs within = search (sendable, param_send) depth 60 fits 20000
