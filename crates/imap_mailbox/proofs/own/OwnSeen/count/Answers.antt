use Rattle.std.proofs.Common.{◌-◌, ap, ◌∙◌}
use Rattle.std.specs.Prelude.{min, vec_len}
use Rattle.std.specs.Vec.{vec_capacity}
use Rattle.imap_mailbox.specs.Counted.{with_count}
use Rattle.imap_mailbox.specs.Latest.{own_in}
use Rattle.imap_mailbox.specs.Summary.{uids_in}
use Rattle.imap_mailbox.proofs.SeenCounts.{seen_by_map}
use Rattle.imap_mailbox.proofs.own.OwnSeen.count.Goals as goal

pub returns : goal.returns
returns c =
    let own = own_in c.self.inside.befores.befores c.self.inside.latest.items in
    let uids = uids_in c.args.messages.now in
    let counted = c.count_seen-self-inside.ensures.count ∙ seen_by_map c.self.inside.befores.befores c.deref.result.now c.self.inside.latest.items uids c.deref.ensures.value in
    ap (λ n. record { own = own; room = min c.self.inside.befores.room (vec_capacity c.self.inside.latest - vec_len c.self.inside.latest); seen = n }) counted
    ∙ ap (with_count uids) c.self.view_is
