use Rattle.imap_listing.proofs.Exact.{need_percent}
use Rattle.imap_listing.proofs.laws.levels_need_percent.Goals as goal

pub returns : goal.returns
returns c = need_percent (record { match = c.match_is_tested.ensures; percent = c.percent_is_tested.ensures })
