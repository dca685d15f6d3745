use Rattle.std.proofs.Common.{rules, ◌≡◌, sym, subst}
use Rattle.std.specs.Str.{IsUtf8}
use Rattle.imap_syntax.specs.WrittenDates.{date_time_text}
use Rattle.imap_records.proofs.Texts.{date_utf8}
use Rattle.imap_records.proofs.columns.date_text.Goals as goal

pub text_of-requires : goal.text_of-requires
text_of-requires c = subst IsUtf8 (let same : _ ≡ date_time_text c.args.date = search rules in sym same) (date_utf8 c.args.date)
