use Rattle.std.proofs.Common.{rules, ◌≡◌, List, map}
use Rattle.imap_serve.specs.Hall.{journal_entry}
use Rattle.imap_serve.specs.Journal.{JournalEntry}
use Rattle.imap_receipts.specs.Settling.{SeatNotes}
use Rattle.imap_host.specs.Seats.{notes_of}
use Rattle.imap_host.proofs.Agreed.{agreed, settled_of}
use Rattle.imap_host.proofs.host_state.HostState.settle.Goals as goal

pub returns-clause-settled : goal.returns-clause-settled
returns-clause-settled g c =
    let before : c.before-2.result ≡ c.args.self.hall.before = search rules in
    let journal : map journal_entry c.entries.result.now ≡ c.args.self.hall.entries = search rules in
    let seats : map notes_of c.as_slice.result.now ≡ map notes_of c.args.seats.items = search rules in
    settled_of c.before-2.result c.args.self.hall.before (map journal_entry c.entries.result.now) c.args.self.hall.entries
    (map notes_of c.as_slice.result.now) (map notes_of c.args.seats.items) before journal seats
    (c.are_settled-are_settled.ensures.0 (agreed c.check_settled.result c.args.self.left c.len.result c.are_settled-are_settled.result c.check_settled.ensures.missing c.check_settled.ensures.mismatch c.in_default.not-Err))
