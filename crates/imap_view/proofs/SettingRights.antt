-- The view after SETACL.
use Rattle.std.proofs.Common.{◌≡◌, inl, ℕ, Bool, true, false, cond, List, Option, Some, None, Ok, Err, refl, sym, ap, ◌∙◌, true≢false}
use Rattle.std.specs.Prelude.{option_and_then}
use Rattle.std.specs.FinMap as map
use Rattle.std.proofs.lemmas.Bool.{not-true, or_right}
use Rattle.imap_world.specs.Shown.{content_of}
use Rattle.imap_world.specs.Summary.{room_of}
use Rattle.imap_names.specs.Name.{Name}
use Rattle.imap_names.proofs.NameLaws.{is_name_at, equal_names, get_put}
use Rattle.imap_world.specs.RightsChange.{RightsChange}
use Rattle.imap_world.specs.Acl.{AclMap, is_full_for, with_entry}
use Rattle.imap_world.specs.Change.{applied}
use Rattle.imap_world.specs.Effective.{entry, effective}
use Rattle.imap_world.specs.Rights.{has_any, visible_rights, administer, insert, read}
use Rattle.imap_world.specs.declared.site.Site.{Site}
use Rattle.imap_world.specs.declared.error.WorldError.TheVariants.{Limit}
use Rattle.imap_world.specs.Mailbox.{Mailbox}
use Rattle.imap_world.specs.Tree.{with_acl, mailboxes_with_list}
use Rattle.imap_world.specs.World.{World}
use Rattle.imap_view.specs.Seen.{Seen, is_root, owner_of, seen_at, seen_by_rights, seen_with, shows_messages, shows_room}
use Rattle.imap_view.specs.TreeAfter.{has_room_for, put_option, narrowed, seen_still, seen_with_entry, seen_with_rights, IsRightsChange, SettingRightsIsSeen}
use Rattle.imap_view.specs.View.{View, view_of, seen_in, shows_names_below, may_know_name, rights_of, acl_of, acl_in}
use Rattle.imap_view.proofs.Deleting.{place_seen}
use Rattle.imap_view.proofs.Narrowing.{in_use, seen_is, shows_names, below_within, put_within, get_taken, get_epochs, view_is_narrowed, seen_changed}
use Rattle.imap_view.proofs.Views.{site_of, user_of, get_seen}

-- ---- a list that is seen is the mailbox's

-- only a holder of a sees it
pub record ShowsList (site : Site) (user : List ℕ) (o : Option Seen) (root : Bool) (rights : ℕ) (m : Mailbox) (shown : AclMap) : Type 0 where
  pub same : m.acl ≡ shown
  pub named : root ≡ false
  pub administers : has_any rights administer ≡ true
  pub seen : o ≡ Some (seen_by_rights site user rights m)

module _ (site : Site) (user : List ℕ) (m : Mailbox) (shown : AclMap) where
  shown_by : (rights : ℕ) → acl_of (seen_with site user rights m) ≡ Some shown → ShowsList site user (seen_with site user rights m) false rights m shown
  shown_by rights e = by (has_any rights visible_rights) refl (has_any rights administer) refl
    where
      by : (v : Bool) → has_any rights visible_rights ≡ v → (a : Bool) → has_any rights administer ≡ a → ShowsList site user (seen_with site user rights m) false rights m shown
      by false is a at = absurd (cc (sym e ∙ ap (λ b. acl_of (cond b (Some (seen_by_rights site user rights m)) None)) is))
      by true is false at = absurd (cc (sym e ∙ ap (λ b. acl_of (cond b (Some (seen_by_rights site user rights m)) None)) is ∙ ap (λ b. cond b (Some m.acl) None) at))
      by true is true at =
          let same : Some m.acl ≡ Some shown = sym (ap (λ b. acl_of (cond b (Some (seen_by_rights site user rights m)) None)) is ∙ ap (λ b. cond b (Some m.acl) None) at) ∙ e in
          record {
            same = cc;
            named = refl;
            administers = at;
            seen = ap (λ b. cond b (Some (seen_by_rights site user rights m)) None) is;
          }

  shown_at : (name : Name) → acl_of (seen_at site user name m) ≡ Some shown → ShowsList site user (seen_at site user name m) (is_root name) (effective user (owner_of site name) site.groups m.acl) m shown
  shown_at name e = by (is_root name) refl
    where
      by : (b : Bool) → is_root name ≡ b → ShowsList site user (seen_at site user name m) (is_root name) (effective user (owner_of site name) site.groups m.acl) m shown
      by true is = absurd (cc (sym e ∙ ap (λ b. acl_of (cond b None (seen_with site user (effective user (owner_of site name) site.groups m.acl) m))) is))
      by false is =
          let at : seen_at site user name m ≡ seen_with site user (effective user (owner_of site name) site.groups m.acl) m = ap (λ b. cond b None (seen_with site user (effective user (owner_of site name) site.groups m.acl) m)) is in
          let shows = shown_by (effective user (owner_of site name) site.groups m.acl) (ap acl_of (sym at) ∙ e) in
          record {
            same = shows.same;
            named = is;
            administers = shows.administers;
            seen = at ∙ shows.seen;
          }

-- ---- who holds a sees all of it

left_over : {X : Type 0} (after before : Bool) (x : X) → before ≡ true → cond after (cond before (Some x) None) None ≡ cond after (Some x) None
left_over after before x all = ap (λ b. cond after (cond b (Some x) None) None) all

-- by other rights and another list
seen_again : (site : Site) (user : List ℕ) (before after : ℕ) (m : Mailbox) (acl : AclMap) → has_any before administer ≡ true
    → seen_with site user after (record m { acl = acl }) ≡ seen_still after acl (seen_by_rights site user before m)
seen_again site user before after m acl holds =
    let all : shows_messages before ≡ true = or_right (has_any before read) (has_any before administer) holds in
    let room : shows_room before ≡ true = or_right (has_any before read) _ (or_right (has_any before insert) (has_any before administer) holds) in
    λ i. cond (has_any after visible_rights) (Some (record {
      rights = after;
      acl = cond (has_any after administer) (Some acl) None;
      validity = sym (left_over (shows_messages after) (shows_messages before) m.validity all) i;
      messages = record {
        content = sym (left_over (shows_messages after) (shows_messages before) (content_of user m.messages) all) i;
        room = sym (left_over (shows_room after) (shows_room before) (room_of site.limits.max_messages m.messages) room) i;
      };
    })) None

-- ---- the view after it

module _ (site : Site) (user : List ℕ) (world : World) (name : Name) (m : Mailbox) (acl : AclMap) where
  module _ (there : map.get world.mailboxes name ≡ Some m) (named : is_root name ≡ false) (place : shows_names_below site user (seen_in site user world) name ≡ true) where
    after : World
    after = record world { mailboxes = map.insert world.mailboxes name (record m { acl = acl }) }

    abbrev new : Option Seen
    new = seen_with site user (effective user (owner_of site name) site.groups acl) (record m { acl = acl })

    within : (q : Name) → may_know_name site user (put_option (seen_in site user world) name new) q ≡ true → may_know_name site user (seen_in site user world) q ≡ true
    within = below_within site user (put_option (seen_in site user world) name new) (seen_in site user world) (put_within site user (seen_in site user world) name new (inl place))

    still : (q : Name) (b : Bool) → is_name_at q name ≡ b → in_use (cond b (Some (record m { acl = acl })) (map.get world.mailboxes q)) ≡ in_use (map.get world.mailboxes q)
    still q true at = sym (ap in_use (ap (map.get world.mailboxes) (equal_names q name at) ∙ there))
    still q false at = refl

    seen_by_list : seen_in site user after ≡ put_option (seen_in site user world) name new
    unfolding after
    seen_by_list =
        seen_changed site user world after name (Some (record m { acl = acl })) (get_put world.mailboxes name (record m { acl = acl }))
        ∙ ap (λ b. put_option (seen_in site user world) name (cond b None new)) named

    changed_seen : view_of site user after ≡ narrowed (record (view_of site user world) { seen = put_option (view_of site user world).seen name new })
    unfolding view_of after
    changed_seen =
        view_is_narrowed site user after (put_option (seen_in site user world) name new)
        (view_of site user world).taken (view_of site user world).epochs
        seen_by_list
        (λ q h. ap in_use (get_put world.mailboxes name (record m { acl = acl }) q) ∙ still q (is_name_at q name) refl
        ∙ sym (get_taken site user (seen_in site user world) world q ∙ ap (λ b. cond b (in_use (map.get world.mailboxes q)) None) (within q h)))
        (λ q h. sym (get_epochs site user (seen_in site user world) world q ∙ ap (λ b. cond b (map.get world.epochs q) None) (within q h)))

    pub with_acl_seen : view_of site user (with_acl world name acl) ≡ narrowed (record (view_of site user world) { seen = put_option (view_of site user world).seen name new })
    unfolding after
    with_acl_seen = ap (λ o. view_of site user (record world { mailboxes = mailboxes_with_list world.mailboxes name acl o })) there ∙ changed_seen

-- ---- all of it

has_room : (identifier : List ℕ) (change : RightsChange) (o : Option AclMap) → has_room_for identifier change o ≡ true → (acl : AclMap) × (o ≡ Some acl) × (is_full_for acl identifier (applied change (entry acl identifier)) ≡ false)
has_room identifier change None e = absurd (true≢false (sym e))
has_room identifier change (Some acl) e = (acl, refl, not-true _ e)

module _ (site : Site) (user : List ℕ) (world : World) (name : Name) (identifier : List ℕ) (change : RightsChange) where
  abbrev as_seen : Option Seen → View
  as_seen o = narrowed (record (view_of site user world) { seen = put_option (view_of site user world).seen name o })

  with_list : (m : Mailbox) (acl : AclMap) → map.get world.mailboxes name ≡ Some m
      → acl_in (view_of site user world) name ≡ Some acl → is_full_for acl identifier (applied change (entry acl identifier)) ≡ false
      → IsRightsChange site user world name identifier change
  with_list m acl there shown room =
      let at : map.get (view_of site user world).seen name ≡ seen_at site user name m = get_seen site user world name ∙ ap (option_and_then (seen_at site user name)) there in
      let shows = shown_at site user m acl name (ap acl_of (sym at) ∙ shown) in
      let held : ℕ = effective user (owner_of site name) site.groups m.acl in
      let before : Seen = seen_by_rights site user held m in
      let seen : map.get (view_of site user world).seen name ≡ Some before = at ∙ shows.seen in
      let place = ap (λ s. shows_names_below site user s name) (sym (seen_is site user world))
      ∙ place_seen site user world name (shows_names (map.get (view_of site user world).seen name) administer refl (ap (λ o. has_any (rights_of o) administer) seen ∙ shows.administers)) in
      let new : AclMap = with_entry acl identifier (applied change (entry acl identifier)) in
      let list : before.acl ≡ Some acl = ap acl_of (sym seen) ∙ shown in
      record {
        mailbox = m;
        acl = new;
        there = there;
        changed = ap (λ (a : AclMap). cond (is_full_for a identifier (applied change (entry a identifier))) (Err Limit) (Ok (with_entry a identifier (applied change (entry a identifier))))) shows.same
            ∙ ap (λ b. cond b (Err Limit) (Ok new)) room;
        seen = with_acl_seen site user world name m new there shows.named place
            ∙ ap as_seen (seen_again site user held (effective user (owner_of site name) site.groups new) m new shows.administers)
            ∙ (λ i. as_seen (seen_still (effective (sym (user_of site user world) i) (owner_of (sym (site_of site user world) i) name) (sym (site_of site user world) i).groups new) new before))
            ∙ ap (λ o. as_seen (seen_with_entry (view_of site user world) name identifier change before o)) (sym list)
            ∙ ap (λ o. as_seen (seen_with_rights (view_of site user world) name identifier change o)) (sym seen);
      }

  listed : (acl : AclMap) → acl_in (view_of site user world) name ≡ Some acl → is_full_for acl identifier (applied change (entry acl identifier)) ≡ false
      → IsRightsChange site user world name identifier change
  listed acl shown room = by (map.get world.mailboxes name) refl
    where
      by : (o : Option Mailbox) → map.get world.mailboxes name ≡ o → IsRightsChange site user world name identifier change
      by None is = absurd (cc (sym shown ∙ ap acl_of (get_seen site user world name ∙ ap (option_and_then (seen_at site user name)) is)))
      by (Some m) is = with_list m acl is shown room

pub setting_rights : SettingRightsIsSeen
setting_rights site user world name identifier change may =
    let room = has_room identifier change (acl_in (view_of site user world) name) may in
    listed site user world name identifier change room.0 room.1 room.2
