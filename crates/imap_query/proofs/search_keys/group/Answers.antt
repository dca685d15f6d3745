use Rattle.std.proofs.Common.{rules, ap}
use Rattle.imap_query.specs.declared.search.SearchKey.TheViews.{the_lemmas}
use Rattle.imap_query.specs.Keys.{group}
use Rattle.imap_query.proofs.Rows.{same_keys}
use Rattle.imap_query.proofs.search_keys.group.Goals as goal

pub returns : goal.returns
returns c = ap group (search (rules, the_lemmas, same_keys))
