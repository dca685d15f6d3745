use Rattle.std.proofs.Common.{sym, subst}
use Rattle.std.proofs.lemmas.Str.{IsUtf8-from_ascii}
use Rattle.std.specs.Str.{IsUtf8}
use Rattle.imap_records.proofs.columns.keywords_text.Goals as goal

pub text_of-requires : goal.text_of-requires
text_of-requires c = subst IsUtf8 (sym c.as_slice.ensures.value) (IsUtf8-from_ascii c.in_ok-octets.octets.items c.in_ok-octets.ensures.ascii)
