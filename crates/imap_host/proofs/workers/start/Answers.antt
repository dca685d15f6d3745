use mathlib.Core.List.{[], ◌∷◌}
use mir.Syntax.{named}
use denote.Exit as exits
use denote.Param.{param, copied}
use denote.Param.Send.{arg_send, param_send}
use denote.Struct.Tuple.{TupleAt}
use Rattle.imap_host.specs.contracts.host.Host.{the_row as host_row}
use Rattle.imap_host.specs.contracts.seat.Seat.{the_row as seat_row}
use Rattle.imap_host.proofs.Sending.{captured_send, host_sync, pair_send, seat_send}
use Rattle.imap_host.proofs.workers.start.Lts as lts
use Rattle.imap_host.proofs.workers.start.Goals as goal

pub spawn-requires-send-F : goal.spawn-requires-send-F
spawn-requires-send-F g c κs within =
    let bounds = c.type_bounds in
    let host = host_sync (param 0 g.row.K) (param 1 g.row.L) g.K.Keeper g.L.Ledger bounds.send-K bounds.send-L in
    let post = pair_send (seat_row (param 1 g.row.L) g.L.Ledger) (param 2 g.row.D) (seat_send (param 1 g.row.L) g.L.Ledger bounds.send-L) bounds.send-D in
    let sent = captured_send (105 ∷ 109 ∷ 97 ∷ 112 ∷ 95 ∷ 104 ∷ 111 ∷ 115 ∷ 116 ∷ 58 ∷ 58 ∷ 119 ∷ 111 ∷ 114 ∷ 107 ∷ 101 ∷ 114 ∷ 115 ∷ 58 ∷ 58 ∷ 102 ∷ 110 ∷ 58 ∷ 58 ∷ 115 ∷ 116 ∷ 97 ∷ 114 ∷ 116 ∷ 58 ∷ 58 ∷ 115 ∷ 112 ∷ 97 ∷ 119 ∷ 110 ∷ 43 ∷ 83 ∷ 101 ∷ 108 ∷ 102 ∷ []) (param 5 g.row.R) (host_row (param 0 g.row.K) (param 1 g.row.L) g.K.Keeper g.L.Ledger) (TupleAt (40 ∷ 44 ∷ 41 ∷ []) (seat_row (param 1 g.row.L) g.L.Ledger ∷ param 2 g.row.D ∷ [])) (param 3 g.row.C) (param 4 g.row.G) (copied 6 g.row.T)
    record { mir = named 5; lft = κs.1.1.1.1.1.0 } record { mir = named 6; lft = κs.1.1.1.1.1.1.0 } record { mir = named 7; lft = κs.1.1.1.1.1.1.1.0 } record { mir = named 8; lft = κs.1.1.1.1.1.1.1.1.0 } record { mir = named 9; lft = κs.1.1.1.1.1.1.1.1.1.0 } record { mir = named 10; lft = κs.1.1.1.1.1.1.1.1.1.1.0 }
    tt tt tt tt tt tt bounds.sync-R host post bounds.sync-C bounds.sync-G bounds.sync-T in
    param_send 1 (lts.arg-0-1 g.row.K g.row.L g.row.D g.row.C g.row.G g.row.R g.row.T g.row.D-In g.row.D-Out g.row.T-Rule g.K.laws g.L.laws g.D.laws g.C.laws g.G.laws g.R.laws g.T.laws g.D.In.laws g.D.Out.laws g.T.Rule.laws g.T.copy g.K.Keeper g.K.Keeper-dict g.L.Ledger g.L.Ledger-dict g.D.Door g.D.Door-dict g.D.In.Read g.D.In.Read-dict g.D.Out.Write g.D.Out.Write-dict g.C.Moments g.C.Moments-dict g.G.Gate g.G.Gate-dict g.R.Threads g.R.Threads-dict g.R.Wait g.R.Wait-dict g.T.Dialect g.T.Dialect-dict g.T.Clone g.T.Clone-dict g.D.In.Destruct-dict g.D.Out.Destruct-dict g.T.Rule.Destruct-dict κs)
    (arg_send _ exits.no _ sent)
