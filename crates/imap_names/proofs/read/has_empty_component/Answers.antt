use Rattle.std.proofs.Common.{lit<, rules}
use Rattle.std.proofs.lemmas.Iterator.Search.{any_from_yields_List}
use Rattle.std.proofs.lemmas.Iterator.Splits.{YieldsList-from_str_split}
use Rattle.imap_names.specs.Name.{is_empty}
use Rattle.imap_names.proofs.read.has_empty_component.Goals as goal

pub returns : goal.returns
returns c =
    any_from_yields_List is_empty _ _ c.any.result c.any.ensures.ran
    (YieldsList-from_str_split 47 c.args.path.now (lit< tt) c.split.ensures.text c.split.ensures.has_more c.split.ensures.pattern)
    (λ x b q k. search rules)
