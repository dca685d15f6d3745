use Rattle.imap_login.proofs.Failing.{fails_three_times}
use Rattle.imap_login.proofs.laws.fails_three_times.Goals as goal

pub returns : goal.returns
returns c = fails_three_times
