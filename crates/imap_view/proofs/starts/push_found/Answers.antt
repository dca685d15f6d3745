use Rattle.imap_view.proofs.Starting.{appended, on_ok}
use Rattle.imap_view.proofs.starts.push_found.Goals as goal

pub returns : goal.returns
returns c = λ lists index. on_ok c.push_names.result (c.push_names.ensures lists index) (λ pushed. appended lists c.args.text.now _ _ pushed)
