use Rattle.std.proofs.Common.{◌∙◌, ap, ◌++◌, flat_map, lit<, string_bytes}
use Rattle.std.proofs.lemmas.Iterator.Consumers.{YieldsList-end}
use Rattle.std.proofs.lemmas.Iterator.Splits.{YieldsList-from_str_split}
use Rattle.imap_maildir_names.specs.Levels.{level_path}
use Rattle.imap_maildir_names.proofs.folder_names.push_levels.Goals as goal

pub returns : goal.returns
returns c =
    let end = YieldsList-end (YieldsList-from_str_split 47 c.args.text.now (lit< tt) (cc) (cc) (cc)) c.loop-level.yielded _ c.loop-level.yielded_by _ _ c.in-None.is c.next.ensures.steps in
    c.loop-level.invariant ∙ ap (λ l. string_bytes c.args.path.now ++ flat_map level_path l) end.0
