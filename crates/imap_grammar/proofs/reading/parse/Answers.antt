use Rattle.std.proofs.Common.{◌≡◌}
use Rattle.std.proofs.lemmas.Result.{IfOk-weaker}
use Rattle.imap_commands.specs.Spells.{Spells, SpellsNoOther, request_read}
use Rattle.imap_commands.proofs.Requests.{spells_of, spells_no_other}
use Rattle.imap_grammar.proofs.reading.parse.Goals as goal

pub returns-clause-spelt : goal.returns-clause-spelt
returns-clause-spelt c = IfOk-weaker c.read_request.result (λ r. r ≡ request_read c.args.frame.now) (Spells c.args.frame.now) (spells_of c.args.frame.now) c.read_request.ensures.exact

pub returns-clause-only : goal.returns-clause-only
returns-clause-only c = IfOk-weaker c.read_request.result (λ r. r ≡ request_read c.args.frame.now) (SpellsNoOther c.args.frame.now) (spells_no_other c.args.frame.now) c.read_request.ensures.exact
