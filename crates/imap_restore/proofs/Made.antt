-- A world that is made of parts.
use Rattle.std.proofs.Common.{◌≡◌, ◌≢◌, true, [], Option, Some, None, is_some, refl, sym, ap, subst, ◌∙◌, true≢false}
use Rattle.std.specs.Prelude.{option_map}
use Rattle.std.specs.FinMap as map
use Rattle.std.proofs.lemmas.List.Sorted.{IsPermutation-sym}
use Rattle.sqlite_rules.specs.Lists.{Has}
use Rattle.sqlite_rules.proofs.ListLemmas.{all_has}
use Rattle.imap_names.specs.Name.{Name}
use Rattle.imap_names.specs.Order.{Names, name_cmp}
use Rattle.imap_names.proofs.NameLaws.{is_name_at-same}
use Rattle.imap_names.proofs.OrderLaws.{name_antisymmetric, name_total}
use Rattle.imap_rights.specs.Acl.{IsAcl}
use Rattle.imap_world.specs.Kept.{AreKept, IsSound}
use Rattle.imap_world.specs.Mailbox.{Mailbox, plain, plain_all}
use Rattle.imap_world.specs.Parts.{AreLists, IsRowOf, StandFor}
use Rattle.imap_world.specs.World.{World}
use Rattle.imap_world.specs.declared.mailbox_entry.MailboxEntry.{MailboxEntry}
use Rattle.imap_world.specs.declared.world_parts.WorldParts.{WorldParts}
use Rattle.imap_world.proofs.Contents.{get_plain}
use Rattle.imap_restore.specs.Holding.{HasLists}
use Rattle.imap_restore.proofs.Listed.{get_entry, has_moved}
use Rattle.imap_restore.proofs.Matching.{zip_match}

module _ (parts : WorldParts) (w : World) (stand : StandFor parts w) (mailboxes : parts.mailboxes.items ≡ []) (epochs : parts.epochs.items ≡ []) where
  no_mailbox : (name : Name) (m : Mailbox) → map.get w.mailboxes name ≡ Some m → ⊥
  no_mailbox name m is =
      let o = stand.mailboxes in
      let r = (zip_match IsRowOf o.0 (map.entries w.mailboxes) o.2).from (name, m) (get_entry name_cmp name_total name_antisymmetric is_name_at-same w.mailboxes name m is) in
      subst (λ l. Has l r.0) mailboxes (has_moved o.0 parts.mailboxes.items (IsPermutation-sym parts.mailboxes.items o.0 o.1) r.0 r.1)

  no_epoch : (name : Name) (n : _) → map.get w.epochs name ≡ Some n → ⊥
  no_epoch name n is =
      subst (λ l. Has l (name, n)) epochs
      (has_moved (map.entries w.epochs) parts.epochs.items (IsPermutation-sym parts.epochs.items (map.entries w.epochs) stand.epochs) (name, n) (get_entry name_cmp name_total name_antisymmetric is_name_at-same w.epochs name n is))

  not_there : (name : Name) → map.contains_key w.mailboxes name ≡ true → ⊥
  not_there name there = by (map.get w.mailboxes name) refl
    where
      by : (o : Option Mailbox) → map.get w.mailboxes name ≡ o → ⊥
      by None is = true≢false (sym there ∙ ap is_some is)
      by (Some m) is = no_mailbox name m is

  pub empty_sound : IsSound w
  empty_sound = record {
    closed = λ name there. absurd (not_there name there);
    used = λ name m is. absurd (no_mailbox name m is);
    positive = λ name m is. absurd (no_mailbox name m is);
    counted = λ name n is. absurd (no_epoch name n is);
  }

  pub empty_kept : AreKept w.mailboxes
  empty_kept = record { at = λ name m is. absurd (no_mailbox name m is) }

-- what holds if there is a name, or if there is nothing
pub if_named : (P : Type 0) (name : Option Name) → (name ≢ None → P) → (name ≡ None → P) → P
if_named P None some none = none refl
if_named P (Some name) some none = some (λ e. cc e)

-- lists are kept as their entries are
pub lists_of : (m : Names MailboxEntry) → HasLists (map.entries m) → AreLists (plain_all m)
lists_of m all name k is = by (map.get m name) refl (sym (get_plain m name) ∙ is)
  where
    by : (o : Option MailboxEntry) → map.get m name ≡ o → option_map plain o ≡ Some k → IsAcl k.acl
    by None at e = absurd (cc e)
    by (Some entry) at e =
        subst (λ (x : Mailbox). IsAcl x.acl) (same (plain entry) k e)
        (all_has (λ (x : Name × MailboxEntry). IsAcl (x.1).acl) (map.entries m) (name, entry) all (get_entry name_cmp name_total name_antisymmetric is_name_at-same m name entry at))
      where
        same : (x y : Mailbox) → ◌≡◌ {A = Option Mailbox} (Some x) (Some y) → x ≡ y
        same x y h = cc h
