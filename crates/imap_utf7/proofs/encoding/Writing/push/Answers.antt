use Rattle.std.proofs.Common.{◌∙◌, ap, sym, ◌++◌}
use Rattle.imap_utf7.specs.Spelling.{direct}
use Rattle.imap_utf7.proofs.Pushes.{goes_on_direct}
use Rattle.imap_utf7.proofs.encoding.Writing.push.Goals as goal

pub returns : goal.returns
returns c =
    let is = sym c.is_direct.ensures ∙ c.if-not-is_direct.false in
    goes_on_direct c.args.char c.args.self.now _ _ is c.in_ok-end_run.ensures.run
    (c.in_ok-push_direct.ensures ∙ ap (λ l. l ++ direct c.args.char) c.in_ok-end_run.ensures.out)
