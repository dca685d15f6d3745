use Rattle.std.proofs.Common.{reverse, subst, sym, ap, ◌∙◌}
use Rattle.std.proofs.lemmas.List.{reverse-reverse}
use Rattle.imap_message_tables.specs.Joining.{body_key}
use Rattle.imap_message_tables.specs.Up.{AreUp}
use Rattle.imap_message_tables.proofs.Ordered.{up_from}
use Rattle.imap_message_tables.proofs.order.lay_bodies.Goals as goal

pub returns-clause-up : goal.returns-clause-up
returns-clause-up c =
    subst (AreUp body_key) (sym (ap reverse c.reverse.ensures.items ∙ reverse-reverse c.sort_bodies.new.bodies.items)) (up_from body_key c.sort_bodies.new.bodies.items c.sort_bodies.ensures.sorted)
