use Rattle.std.proofs.Common.{arith}
use Rattle.std.specs.Vec.{vec_len}
use Rattle.imap_message_tables.proofs.TablesJoined.{full_fit_none, none_answer, none_left, some_answer, some_left}
use Rattle.imap_message_tables.proofs.one_table.join_tables.Goals as goal

pub returns-then-not-is_empty-clause-none : goal.returns-then-not-is_empty-clause-none
returns-then-not-is_empty-clause-none c = full_fit_none c.args.stored c.args.added (some_left c.args.stored.messages.items (vec_len c.args.stored.messages) c.is_empty.result (omega (arith, c.args.stored.messages.ok.0)) c.is_empty.ensures c.if-not-is_empty.true)

pub returns-in-Ok-clause-some : goal.returns-in-Ok-clause-some
returns-in-Ok-clause-some c =
    some_answer c.args.stored c.args.added c.in-Ok.found c.with_messages.result (none_left c.args.stored.messages.items (vec_len c.args.stored.messages) c.is_empty.result (omega (arith, c.args.stored.messages.ok.0)) c.is_empty.ensures c.if-not-is_empty.false) c.in-Ok.ensures.fit
    c.with_messages.ensures

pub returns-in-Ok-clause-none : goal.returns-in-Ok-clause-none
returns-in-Ok-clause-none c = none_answer c.args.stored c.args.added c.in-Ok.found c.with_messages.result c.in-Ok.ensures.unfit c.with_messages.ensures
