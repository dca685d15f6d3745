use Rattle.std.proofs.Common.{rules}
use Rattle.std.proofs.lemmas.Map.Made.{map_same_pairs}
use Rattle.imap_user_map.proofs.Changed.{mapped}
use Rattle.imap_user_map.proofs.user_map.change_entries.Goals as goal

pub returns-clause-map : goal.returns-clause-map
returns-clause-map g c =
    mapped (g.C.Change.changed c.args.change.now) c.args.entries.now.entries c.retain.new.self.entries
    (map_same_pairs _ (g.C.Change.changed c.args.change.now) _ (λ k v b w f' t. search rules) _ _ c.retain.ensures.filtered)
