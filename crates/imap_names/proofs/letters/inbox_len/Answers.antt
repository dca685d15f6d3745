use Rattle.std.proofs.Common.{sym, ◌∙◌}
use Rattle.imap_names.proofs.LetterLaws.{inbox_len, no_inbox_len}
use Rattle.imap_names.proofs.letters.inbox_len.Goals as goal

pub returns-then-spells_inbox-clause-len : goal.returns-then-spells_inbox-clause-len
returns-then-spells_inbox-clause-len c =
    (inbox_len c.args.path.now c.first_component-first.result.now c.first_component-first.ensures.0 c.first_component-first.ensures.1 (sym c.spells_inbox.ensures ∙ c.if-spells_inbox.true)).0

pub returns-then-spells_inbox-clause-within : goal.returns-then-spells_inbox-clause-within
returns-then-spells_inbox-clause-within c =
    (inbox_len c.args.path.now c.first_component-first.result.now c.first_component-first.ensures.0 c.first_component-first.ensures.1 (sym c.spells_inbox.ensures ∙ c.if-spells_inbox.true)).1

pub returns-else-spells_inbox-clause-len : goal.returns-else-spells_inbox-clause-len
returns-else-spells_inbox-clause-len c =
    no_inbox_len c.args.path.now c.first_component-first.result.now c.first_component-first.ensures.0 c.first_component-first.ensures.1 (sym c.spells_inbox.ensures ∙ c.if-spells_inbox.false)
