use Rattle.std.proofs.lemmas.Result.{IfOk-weaker}
use Rattle.imap_commands.proofs.WrittenRequests.{each_written, none_written, each_read}
use Rattle.imap_commands.proofs.writing.write_command.Goals as goal

pub returns-clause-spelt : goal.returns-clause-spelt
returns-clause-spelt c = IfOk-weaker c.write_request.result _ _ (λ o e. each_written c.args.request.now o e) c.write_request.ensures

pub returns-clause-none : goal.returns-clause-none
returns-clause-none c = IfOk-weaker c.write_request.result _ _ (λ o e. none_written c.args.request.now o e) c.write_request.ensures

pub returns-clause-read : goal.returns-clause-read
returns-clause-read c = IfOk-weaker c.write_request.result _ _ (λ o e. each_read c.args.request.now o e) c.write_request.ensures
