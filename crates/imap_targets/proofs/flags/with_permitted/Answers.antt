use Rattle.std.proofs.Common.{sym, ◌∙◌}
use Rattle.imap_rights.specs.Rights.{bits}
use Rattle.imap_targets.proofs.Permitted.{stay_many, too_many}
use Rattle.imap_targets.proofs.flags.with_permitted.Goals as goal

pub returns-then-has_too_many : goal.returns-then-has_too_many
returns-then-has_too_many c = stay_many (bits c.args.rights) c.args.flags.now c.args.shared (sym c.has_too_many.ensures ∙ c.if-has_too_many.true)

pub returns-then-has_too_many-2 : goal.returns-then-has_too_many-2
returns-then-has_too_many-2 c =
    too_many (bits c.args.rights) c.args.flags.now c.args.shared c.loop-flag.flag-index c.flag-item.result c.loop-flag.shared c.insert_permitted.new.shared
    c.loop-flag-test.true c.flag-item.is c.in_ok-insert_permitted.ensures c.loop-flag.invariant
    (sym c.has_too_many-in-loop-flag.ensures ∙ c.if-has_too_many-2.true)
