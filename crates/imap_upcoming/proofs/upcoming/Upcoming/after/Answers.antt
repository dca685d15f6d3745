use Rattle.std.proofs.Common.{◌≡◌, Option, Some, sym, ap, ◌∙◌}
use Rattle.std.specs.Borrow.{Bor}
use Rattle.std.specs.Prelude.{option_and_then}
use Rattle.std.specs.FinMap as map
use Rattle.imap_names.specs.Name.{Name}
use Rattle.imap_view.proofs.Views.{named, site_of}
use Rattle.imap_view.specs.Seen.{owner_of}
use Rattle.imap_view.specs.View.{View}
use Rattle.imap_world.specs.declared.mailbox_entry.MailboxEntry.{MailboxEntry}
use Rattle.imap_world.specs.Effects.{after_writes}
use Rattle.imap_world.specs.Mailbox.{plain, plain_lent}
use Rattle.imap_world.specs.Stored.{world_of}
use Rattle.imap_world.specs.World.{World}
use Rattle.imap_upcoming.proofs.Reading.{readable_is}
use Rattle.imap_upcoming.proofs.Turned.{asked_turns}
use Rattle.imap_upcoming.proofs.upcoming.Upcoming.after.Goals as goal
use Rattle.imap_upcoming.specs.Changed.{mailbox_after}
use Rattle.imap_upcoming.specs.Readable.{readable_for}

found : (world : World) (name ref : Name) (o : Option (Bor MailboxEntry)) (entry : Bor MailboxEntry) → ref ≡ name → plain_lent o ≡ map.get world.mailboxes ref → o ≡ Some entry
    → map.get world.mailboxes name ≡ Some (plain entry.now)
found world name ref o entry same there is = ap (map.get world.mailboxes) (sym same) ∙ sym there ∙ ap plain_lent is

pub of_entry-requires-clause-may : goal.of_entry-requires-clause-may
of_entry-requires-clause-may c =
    let world = world_of c.args.world.now in
    let there = found world c.args.name.now c.as_ref.result c.mailbox.result c.in_ok-entry.entry c.as_ref.ensures.name c.mailbox.ensures.there c.in_ok-entry.was in
    (asked_turns c.args.user.now world c.mailbox.ensures.valid c.args.name.now (plain c.in_ok-entry.entry.now) there c.args.site.now c.args.change.now c.requires.asked).may

pub of_entry-requires-clause-kept : goal.of_entry-requires-clause-kept
of_entry-requires-clause-kept c =
    c.mailbox.ensures.kept.at c.args.name.now (plain c.in_ok-entry.entry.now)
    (found (world_of c.args.world.now) c.args.name.now c.as_ref.result c.mailbox.result c.in_ok-entry.entry c.as_ref.ensures.name c.mailbox.ensures.there c.in_ok-entry.was)

pub returns-clause-readable : goal.returns-clause-readable
returns-clause-readable c =
    let site = c.args.site.now in
    let user = c.args.user.now in
    let name = c.args.name.now in
    let world = world_of c.args.world.now in
    let m = plain c.in_ok-entry.entry.now in
    let there = found world name c.as_ref.result c.mailbox.result c.in_ok-entry.entry c.as_ref.ensures.name c.mailbox.ensures.there c.in_ok-entry.was in
    let turned = asked_turns user world c.mailbox.ensures.valid name m there site c.args.change.now c.requires.asked in
    let owner : c.owner.result.now ≡ owner_of site name = c.owner.ensures ∙ ap (λ (v : View). owner_of v.site name) c.new-view.ensures ∙ ap (λ s. owner_of s name) (site_of site user world) in
    c.of_entry.ensures.readable
    ∙ (λ i. option_and_then (readable_for user (owner i) (c.groups.ensures i)) (mailbox_after name c.args.change.now m))
    ∙ ap (option_and_then (readable_for user (owner_of site name) site.groups)) (sym turned.found)
    ∙ sym (readable_is site user (after_writes c.args.change.now world) name (named name c.as_ref.ensures.valid))
