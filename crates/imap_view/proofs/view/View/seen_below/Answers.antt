use Rattle.std.proofs.Common.{◌∙◌}
use Rattle.imap_world.specs.Stored.{world_of}
use Rattle.imap_view.specs.Listing.{seen_among}
use Rattle.imap_view.proofs.Listings.{names_seen_below}
use Rattle.imap_view.proofs.view.View.seen_below.Goals as goal

pub returns : goal.returns
returns c =
    (λ i. seen_among ((c.new.ensures ∙ c.self.view_is) i) (c.entries_below.ensures i))
    ∙ names_seen_below c.self.inside.site.now c.self.inside.user.now (world_of c.self.inside.world.now) c.args.self.now c.self.view_is c.args.name.now c.mailboxes.result.now.map c.mailboxes.ensures
