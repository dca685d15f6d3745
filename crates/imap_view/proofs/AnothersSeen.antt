-- A user's own \Seen shows to nobody else.
use Rattle.std.proofs.Common.{◌≡◌, ℕ, Bool, true, false, cond, List, Option, Some, None, refl, sym, ap, ◌∙◌}
use Rattle.std.specs.Prelude.{◌≢◌, option_and_then}
use Rattle.std.specs.FinMap as map
use Rattle.imap_world.proofs.BatchSights.{anothers_batch_is_hidden}
use Rattle.imap_world.specs.BatchLaws.{MarksOwnSeen}
use Rattle.imap_world.specs.BatchType.{Batch}
use Rattle.imap_names.specs.Name.{Name}
use Rattle.imap_names.specs.Order.{Names}
use Rattle.imap_names.proofs.NameLaws.{is_name_at, equal_names, same_names}
use Rattle.imap_world.specs.Effective.{effective}
use Rattle.imap_world.specs.Rights.{has_any, visible_rights}
use Rattle.imap_world.specs.declared.site.Site.{Site}
use Rattle.imap_world.specs.Mailbox.{Mailbox}
use Rattle.imap_world.specs.Messages.{messages_changed}
use Rattle.imap_world.specs.World.{World}
use Rattle.imap_view.specs.MessagesAfter.{AnothersSeenIsHidden}
use Rattle.imap_view.specs.Seen.{is_root, owner_of, rights_shown, seen_at, seen_by_rights}
use Rattle.imap_view.specs.TreeAfter.{put_option}
use Rattle.imap_view.specs.View.{view_of, view_by, seen_in, may_know_name}
use Rattle.imap_view.proofs.Changing.{batched, used_still, at_each}
use Rattle.imap_view.proofs.Narrowing.{get_option, get_taken, in_use, seen_changed, seen_is}
use Rattle.imap_view.proofs.Views.{get_seen}

-- to put what is there changes nothing
put_same : {X : Type 0} (m : Names X) (k : Name) (o : Option X) → o ≡ map.get m k → put_option m k o ≡ m
put_same m k o is = same_names _ _ (λ q. get_option m k o q ∙ by q (is_name_at q k) refl)
  where
    by : (q : Name) (b : Bool) → is_name_at q k ≡ b → cond b o (map.get m q) ≡ map.get m q
    by q true at = is ∙ ap (map.get m) (sym (equal_names q k at))
    by q false at = refl

module _ (site : Site) (user : List ℕ) (m : Mailbox) (batch : Batch) (apart : user ≢ batch.user) (marks : MarksOwnSeen batch) where
  same_with : (rights : ℕ) → seen_by_rights site user rights (batched batch m) ≡ seen_by_rights site user rights m
  same_with rights = λ i. record (seen_by_rights site user rights m) {
    messages = anothers_batch_is_hidden site.limits.max_messages user (rights_shown rights) m.messages batch apart marks i;
  }

  same_at : (name : Name) → seen_at site user name (batched batch m) ≡ seen_at site user name m
  same_at name =
      let rights = effective user (owner_of site name) site.groups m.acl in
      ap (λ s. cond (is_root name) None (cond (has_any rights visible_rights) (Some s) None)) (same_with rights)

module _ (site : Site) (user : List ℕ) (world : World) (name : Name) (batch : Batch) (m : Mailbox) (there : map.get world.mailboxes name ≡ Some m) (same : seen_at site user name (batched batch m) ≡ seen_at site user name m) where
  abbrev after : World
  after = record world { mailboxes = messages_changed batch world.mailboxes name (Some m) }

  seen_there : map.get (seen_in site user world) name ≡ seen_at site user name m
  seen_there = ap (λ s. map.get s name) (sym (seen_is site user world)) ∙ get_seen site user world name ∙ ap (option_and_then (seen_at site user name)) there

  seen_still : seen_in site user after ≡ seen_in site user world
  seen_still =
      seen_changed site user world after name (Some (batched batch m)) (at_each site user world (record { name = name; batch = batch }) m there)
      ∙ put_same (seen_in site user world) name (seen_at site user name (batched batch m)) (same ∙ sym seen_there)

  used : (q : Name) → in_use (map.get after.mailboxes q) ≡ in_use (map.get world.mailboxes q)
  used q = used_still site user world (record { name = name; batch = batch }) m there q

  takens : (view_by site user (seen_in site user world) after).taken ≡ (view_by site user (seen_in site user world) world).taken
  takens = same_names _ _ (λ q. get_taken site user (seen_in site user world) after q
      ∙ (λ i. cond (may_know_name site user (seen_in site user world) q) (used q i) None)
      ∙ sym (get_taken site user (seen_in site user world) world q))

  view_still : view_of site user after ≡ view_of site user world
  unfolding view_of
  view_still =
      ap (λ s. view_by site user s after) seen_still
      ∙ λ i. record (view_by site user (seen_in site user world) world) { taken = takens i }

pub anothers_seen : AnothersSeenIsHidden
anothers_seen site user world w apart marks = by (map.get world.mailboxes w.name) refl
  where
    by : (o : Option Mailbox) → map.get world.mailboxes w.name ≡ o
        → view_of site user (record world { mailboxes = messages_changed w.write.batch world.mailboxes w.name o }) ≡ view_of site user world
    by None there = refl
    by (Some m) there = view_still site user world w.name w.write.batch m there (same_at site user m w.write.batch apart marks w.name)
