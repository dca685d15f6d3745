use Rattle.std.proofs.Common.{◌∙◌, ap, ◌++◌}
use Rattle.std.specs.Prelude.{codes}
use Rattle.imap_print.specs.Pieces.{octets_of}
use Rattle.imap_rev1.specs.Rev1.{capabilities}
use Rattle.imap_rev1.proofs.Appended.{three_appended}
use Rattle.imap_rev1.proofs.telling.push_capability.Goals as goal

pub returns : goal.returns
returns c =
    three_appended (octets_of c.args.out.now) (codes "* CAPABILITY ") capabilities (codes "\r\n") _ _ _
    c.in_ok-push_octets.ensures (c.in_ok-push_octets-2.ensures ∙ ap (λ l. octets_of c.push_octets.new.self ++ l) c.as_bytes.ensures.value) c.in_ok-push_octets-3.ensures
