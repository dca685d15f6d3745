-- What a user may read of a mailbox, by what the user sees of it.
use Rattle.std.proofs.Common.{◌≡◌, ℕ, Bool, true, false, cond, ◌||◌, List, Option, Some, None, is_some, refl, sym, ap, ◌∙◌, true≢false}
use Rattle.std.specs.Prelude.{option_and_then}
use Rattle.std.specs.FinMap as map
use Rattle.imap_mailbox.specs.Shown.{content_of}
use Rattle.imap_names.specs.Name.{Name}
use Rattle.imap_rights.specs.Effective.{effective}
use Rattle.imap_rights.specs.Rights.{administer, has_any, read, visible_rights}
use Rattle.imap_view.proofs.Narrowing.{has_more}
use Rattle.imap_view.proofs.Views.{get_seen}
use Rattle.imap_view.specs.declared.readable.Readable.{Readable}
use Rattle.imap_view.specs.Readable.{readable_by, readable_in, readable_of}
use Rattle.imap_view.specs.Seen.{is_root, owner_of, seen_at, seen_by_rights, seen_with}
use Rattle.imap_view.specs.View.{view_of}
use Rattle.imap_world.specs.declared.site.Site.{Site}
use Rattle.imap_world.specs.Mailbox.{Mailbox}
use Rattle.imap_world.specs.World.{World}
use Rattle.imap_upcoming.specs.Readable.{messages_for, readable_for}

some_same : {A : Type 0} (x y : A) → Some x ≡ Some y → x ≡ y
some_same x y e = cc

module _ (site : Site) (user : List ℕ) where
  abbrev if_read : Bool → Mailbox → Option Readable
  if_read r m = cond r (Some (messages_for user m.validity m.messages)) None

  of_rights : (rights : ℕ) (m : Mailbox) → readable_of (seen_by_rights site user rights m) ≡ if_read (has_any rights read) m
  of_rights rights m = by (has_any rights read)
    where
      by : (r : Bool) → cond r (readable_by (cond (r || has_any rights administer) (Some m.validity) None) (cond (r || has_any rights administer) (Some (content_of user m.messages)) None)) None ≡ if_read r m
      by true = refl
      by false = refl

  if_visible : (rights : ℕ) (m : Mailbox) → option_and_then readable_of (seen_with site user rights m) ≡ if_read (has_any rights read) m
  if_visible rights m = by (has_any rights visible_rights) refl (has_any rights read) refl
    where
      by : (v : Bool) → has_any rights visible_rights ≡ v → (r : Bool) → has_any rights read ≡ r
          → option_and_then readable_of (cond v (Some (seen_by_rights site user rights m)) None) ≡ if_read (has_any rights read) m
      by true visible r is = of_rights rights m
      by false hidden false is = sym (ap (λ b. if_read b m) is)
      by false hidden true is = absurd (true≢false (sym (has_more rights read visible_rights refl is) ∙ hidden))

  readable_at : (name : Name) (m : Mailbox) → is_root name ≡ false → option_and_then readable_of (seen_at site user name m) ≡ readable_for user (owner_of site name) site.groups m
  readable_at name m named =
      ap (λ b. option_and_then readable_of (cond b None (seen_with site user (effective user (owner_of site name) site.groups m.acl) m))) named
      ∙ if_visible (effective user (owner_of site name) site.groups m.acl) m

  -- by the mailbox that is found
  pub readable_is : (world : World) (name : Name) → is_root name ≡ false → readable_in (view_of site user world) name ≡ option_and_then (readable_for user (owner_of site name) site.groups) (map.get world.mailboxes name)
  readable_is world name named = ap (option_and_then readable_of) (get_seen site user world name) ∙ by (map.get world.mailboxes name)
    where
      by : (o : Option Mailbox) → option_and_then readable_of (option_and_then (seen_at site user name) o) ≡ option_and_then (readable_for user (owner_of site name) site.groups) o
      by None = refl
      by (Some m) = readable_at name m named

  -- what the user may read is of a mailbox that is there
  pub record IsReadOf (world : World) (name : Name) (r : Readable) : Type 0 where
    pub mailbox : Mailbox
    pub there : map.get world.mailboxes name ≡ Some mailbox
    pub is : r ≡ messages_for user mailbox.validity mailbox.messages

  pub read_of : (world : World) (name : Name) (r : Readable) → readable_in (view_of site user world) name ≡ Some r → IsReadOf world name r
  read_of world name r e =
      by (map.get world.mailboxes name) refl (sym (ap (option_and_then readable_of) (get_seen site user world name)) ∙ e)
    where
      if_so : (m : Mailbox) (b : Bool) → if_read b m ≡ Some r → r ≡ messages_for user m.validity m.messages
      if_so m true e = sym (some_same (messages_for user m.validity m.messages) r e)
      if_so m false e = absurd (cc e)

      at : (m : Mailbox) (root : Bool) → option_and_then readable_of (cond root None (seen_with site user (effective user (owner_of site name) site.groups m.acl) m)) ≡ Some r → r ≡ messages_for user m.validity m.messages
      at m true e = absurd (cc e)
      at m false e =
          let rights = effective user (owner_of site name) site.groups m.acl in
          if_so m (has_any rights read) (sym (if_visible rights m) ∙ e)

      by : (o : Option Mailbox) → map.get world.mailboxes name ≡ o → option_and_then readable_of (option_and_then (seen_at site user name) o) ≡ Some r → IsReadOf world name r
      by None there e = absurd (cc e)
      by (Some m) there e = record { mailbox = m; there = there; is = at m (is_root name) e }

  pub readable_is_there : (world : World) (name : Name) (r : Readable) → readable_in (view_of site user world) name ≡ Some r → map.contains_key world.mailboxes name ≡ true
  readable_is_there world name r e = ap is_some (read_of world name r e).there
