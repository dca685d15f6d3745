use Rattle.std.proofs.Common.{string_bytes, sym, ◌∙◌}
use Rattle.std.specs.Prelude.{bytes_eq}
use Rattle.imap_message_tables.proofs.Pieces.{any_map}
use Rattle.imap_message_tables.proofs.keywords.is_in.Goals as goal

pub returns : goal.returns
returns c = c.has_word.ensures ∙ sym (any_map (bytes_eq c.args.word.now) string_bytes c.args.words.now)
