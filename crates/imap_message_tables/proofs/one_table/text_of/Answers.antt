use Rattle.std.proofs.Common.{◌≡◌, IfOk, ℕ, List, string_bytes, subst}
use Rattle.imap_message_tables.proofs.OneText.{joined_text}
use Rattle.imap_message_tables.proofs.one_table.text_of.Goals as goal

pub returns : goal.returns
returns c = subst (λ (text : List ℕ). IfOk c.join.result (λ t. string_bytes t ≡ text)) (joined_text c.args.words.now) c.join.ensures.ok
