-- A moment that is written is read as itself.
use Rattle.std.proofs.Common.{◌≡◌, ◌∙◌, ap, sym, true, [], Some, append-nil}
use Rattle.std.specs.Option.{option_and_then}
use Rattle.imap_syntax.specs.Dates as dates
use Rattle.imap_syntax.specs.Dates.{nothing_left, date_time_read}
use Rattle.imap_syntax.specs.Moments.{Moment}
use Rattle.imap_syntax.specs.WrittenDates.{date_time_fits, date_time_text}
use Rattle.imap_syntax.proofs.Dates.{date_time_text_lawful}
use Rattle.imap_syntax.proofs.WrittenDates.{date_time_text_made}

pub moment_read : (t : Moment) → date_time_fits t ≡ true → date_time_read (date_time_text t) ≡ Some t
moment_read t fits =
    let text = date_time_text t in
    let read : dates.date_time_text.read text ≡ Some (t, []) =
    ap dates.date_time_text.read (sym (append-nil text)) ∙ date_time_text_lawful.complete t text [] (date_time_text_made t fits) tt in
    ap (option_and_then nothing_left) read
