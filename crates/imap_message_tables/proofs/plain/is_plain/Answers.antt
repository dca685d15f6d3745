use Rattle.std.proofs.Common.{not, IsTrue, subst}
use Rattle.imap_message_tables.specs.Split.{IsPlain}
use Rattle.imap_message_tables.proofs.Texts.{plain_by}
use Rattle.imap_message_tables.proofs.plain.is_plain.Goals as goal

pub returns-then-octets-gt0 : goal.returns-then-octets-gt0
returns-then-octets-gt0 c =
    subst (λ w. (IsTrue (not c.contains-spaced.result) → IsPlain w) × (IsPlain w → IsTrue (not c.contains-spaced.result))) c.as_bytes-octets.ensures.value
    (plain_by c.as_bytes-octets.result.now c.contains-spaced.result c.if-octets-gt0.true c.contains-spaced.ensures.value)
