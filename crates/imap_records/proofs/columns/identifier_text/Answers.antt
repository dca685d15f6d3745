use Rattle.std.proofs.Common.{sym, subst}
use Rattle.std.specs.Str.{IsUtf8}
use Rattle.imap_records.proofs.Texts.{identifier_utf8}
use Rattle.imap_records.proofs.columns.identifier_text.Goals as goal

pub text_of-requires : goal.text_of-requires
text_of-requires c = subst IsUtf8 (sym c.as_bytes.ensures.octets) (identifier_utf8 c.args.identifier.now c.as_bytes.ensures.valid)
