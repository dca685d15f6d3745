use Rattle.std.proofs.Common.{◌≡◌, ◌++◌, drop}
use Rattle.imap_syntax.specs.Writing.{further}
use Rattle.imap_syntax.proofs.spelling.push_further.Given as goal

abbrev pub invariant-loop-value : goal.invariant-loop-value
invariant-loop-value g l =
    l.out.items ++ further l.separator g.S.Spelling.writing.text (drop l.value-index l.values) ≡ l.initial.out.items ++ further l.separator g.S.Spelling.writing.text l.values
