use Rattle.std.proofs.Common.{◌∙◌, sym}
use Rattle.imap_lex.proofs.Classes.{IsTag-front}
use Rattle.imap_lex.proofs.tag.Tag.of_command.Goals as goal

pub invariant_of-result : goal.invariant_of-result
invariant_of-result c =
    rw c.in_ok-from_slice.ensures (IsTag-front _ c.args.command.now _ c.split_at.ensures.front c.leading.ensures.count (sym c.is_empty.ensures ∙ c.if-is_empty.false))
