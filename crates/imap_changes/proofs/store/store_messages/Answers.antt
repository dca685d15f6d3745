use Rattle.std.proofs.Common.{sym, ◌∙◌}
use Rattle.imap_changes.proofs.Told.{numbers_fit}
use Rattle.imap_changes.proofs.store.store_messages.Goals as goal

pub store_lines-lines-requires : goal.store_lines-lines-requires
store_lines-lines-requires c = numbers_fit c.args.mailbox.now c.args.messages.now c.requires.bounded (sym c.lacks_changes.ensures ∙ c.if-lacks_changes.false)
