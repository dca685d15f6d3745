use Rattle.std.proofs.Common.{ap, sym, ◌∙◌}
use Rattle.imap_utf7.specs.Spelling.{read}
use Rattle.imap_utf7.proofs.Read.{written}
use Rattle.imap_utf7.proofs.RoundTrip.{decoded-encoded, read-encoded}
use Rattle.imap_utf7.proofs.laws.spells_once.Goals as goal

pub returns-clause-reads : goal.returns-clause-reads
returns-clause-reads c = decoded-encoded

pub returns-clause-writes : goal.returns-clause-writes
returns-clause-writes c = written

pub returns-clause-apart : goal.returns-clause-apart
returns-clause-apart c one other is others e = sym (read-encoded one is) ∙ ap read e ∙ read-encoded other others
