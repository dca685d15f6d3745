use Rattle.std.proofs.Common.{reverse, subst, sym, ap, ◌∙◌}
use Rattle.std.proofs.lemmas.List.{reverse-reverse}
use Rattle.imap_message_tables.specs.Joining.{head_key}
use Rattle.imap_message_tables.specs.Up.{AreUp}
use Rattle.imap_message_tables.proofs.Ordered.{up_from}
use Rattle.imap_message_tables.proofs.order.lay_heads.Goals as goal

pub returns-clause-up : goal.returns-clause-up
returns-clause-up c =
    subst (AreUp head_key) (sym (ap reverse c.reverse.ensures.items ∙ reverse-reverse c.sort_heads.new.heads.items)) (up_from head_key c.sort_heads.new.heads.items c.sort_heads.ensures.sorted)
