-- Parts can be read of tables that hold a world.
use Rattle.std.proofs.Common.{◌≡◌, ℕ, true, refl, sym, subst}
use Rattle.std.specs.Prelude.{string_bytes}
use Rattle.std.specs.FinMap as map
use Rattle.std.specs.Ordering.{int_eq}
use Rattle.std.specs.Str.{is_utf8}
use Rattle.sqlite.specs.Tree.{Trees}
use Rattle.sqlite_rules.specs.Lists.{Has}
use Rattle.sqlite_rules.proofs.ListLemmas.{all_from, has_filtered, test_has}
use Rattle.imap_mailbox.specs.declared.message.GoneMessage.{GoneMessage}
use Rattle.imap_mailbox.specs.declared.message.Message.{Message}
use Rattle.imap_mailbox.specs.UserChange.{UserChange}
use Rattle.imap_names.specs.Name.{Name}
use Rattle.imap_rights.specs.Acl.{is_entry}
use Rattle.imap_rights.specs.declared.acl.Entry.{Entry}
use Rattle.imap_tables.specs.declared.stored.StoredEntry.{StoredEntry}
use Rattle.imap_tables.specs.declared.stored.StoredEpoch.{StoredEpoch}
use Rattle.imap_tables.specs.declared.stored.StoredGone.{StoredGone}
use Rattle.imap_tables.specs.declared.stored.StoredMailbox.{StoredMailbox}
use Rattle.imap_tables.specs.declared.stored.StoredSeenFlag.{StoredSeenFlag}
use Rattle.imap_tables.specs.declared.stored.StoredMessage.{StoredMessage}
use Rattle.imap_tables.specs.declared.stored.StoredSubscription.{StoredSubscription}
use Rattle.imap_world.specs.Subscription.{Subscription}
use Rattle.imap_world.specs.World.{World}
use Rattle.imap_restore.specs.Holding.{Hold}
use Rattle.imap_restore.specs.Parts.{HasMailbox, HasParts, HaveMailboxes, HaveMessages, IsChangeFor, IsEntryFor, IsGoneMessageFor, IsMessageFor}
use Rattle.imap_stored_values.specs.Restored.{IsEpochFor, IsSubscriptionFor}
use Rattle.imap_stored_values.proofs.Kept.{string_utf8}
use Rattle.imap_restore.proofs.Keyed.{zip_all}
use Rattle.imap_restore.proofs.TableRows.{Rows}
use Rattle.imap_restore.proofs.UserChanges.{change_of}
use Rattle.imap_restore.proofs.Told.{entry_told, epoch_told, gone_told, known_at, mark_told, message_told, subscription_told, told}

module _ (db : Trees) (w : World) (hold : Hold db w) (b : Rows db) where
  entry_part : (x : StoredEntry) → Has b.t.entries.items x → (y : Entry) × IsEntryFor x y
  entry_part x h =
      let t = entry_told db w hold.0.stands b x h in
      let v = hold.0.values.mailboxes t.name t.mailbox t.there in
      (record { identifier = string_bytes x.identifier; rights = record { 0 = x.rights } }, (refl, test_has is_entry (map.entries t.mailbox.acl) (string_bytes x.identifier, x.rights) v.acl.entries t.listed))

  message_part : (x : StoredMessage) → Has b.t.messages.items x → (y : Message) × IsMessageFor x y
  message_part x h =
      let t = message_told db w hold.0.stands b x h in
      let v = hold.0.values.mailboxes t.name t.mailbox t.there in
      (t.message, (t.is, v.messages.messages t.message t.listed))

  gone_part : (x : StoredGone) → Has b.t.gone.items x → (y : GoneMessage) × IsGoneMessageFor x y
  gone_part x h = let t = gone_told db w hold.0.stands b x h in (t.message, t.is)

  mark_part : (x : StoredSeenFlag) → Has b.t.marks.items x → (y : UserChange) × IsChangeFor x y
  mark_part x h =
      let t = mark_told db w hold.0.stands b x h in
      (change_of t.user t.change, (t.is, subst (λ u. is_utf8 u ≡ true) (sym t.is.user) (string_utf8 x.row.user)))

  epoch_part : (x : StoredEpoch) → Has b.t.epochs.items x → (y : Name × ℕ) × IsEpochFor x y
  epoch_part x h =
      let t = epoch_told db w hold.0.stands b x h in
      ((t.name, x.greatest), (t.key, hold.0.stands.named.epochs t.name x.greatest t.there, refl))

  subscription_part : (x : StoredSubscription) → Has b.t.subscriptions.items x → (y : Subscription) × IsSubscriptionFor x y
  subscription_part x h =
      let t = subscription_told db w hold.0.stands b x h in
      (record { user = t.user; name = t.name }, (t.key, hold.0.stands.named.subscriptions t.user t.name t.there, t.same))

  have_messages : (s : StoredMailbox) → Has b.t.mailboxes.items s → HaveMessages b.t s
  have_messages s h =
      let t = told db w hold.0.stands b s h in
      record {
        shared = (t.mailbox.messages.shared, t.shared);
        messages = zip_all IsMessageFor _ (λ x k. message_part x (has_filtered (λ (r : StoredMessage). int_eq r.mailbox s.id) b.t.messages.items x k).0);
        gone = zip_all IsGoneMessageFor _ (λ x k. gone_part x (has_filtered (λ (r : StoredGone). int_eq r.mailbox s.id) b.t.gone.items x k).0);
        own = zip_all IsChangeFor _ (λ x k. mark_part x (has_filtered (λ (r : StoredSeenFlag). int_eq r.mailbox s.id) b.t.marks.items x k).0);
      }

  has_mailbox : (s : StoredMailbox) → Has b.t.mailboxes.items s → HasMailbox b.t s
  has_mailbox s h =
      let t = told db w hold.0.stands b s h in
      record {
        name = (t.name, t.key, hold.0.stands.named.mailboxes t.name t.mailbox t.there);
        acl = zip_all IsEntryFor _ (λ x k. entry_part x (has_filtered (λ (r : StoredEntry). int_eq r.mailbox s.id) b.t.entries.items x k).0);
        messages = have_messages s h;
      }

  all_known : HaveMailboxes b.t
  all_known = record {
    entries = λ x h. let t = entry_told db w hold.0.stands b x h in known_at db w hold.0.stands b t.name t.mailbox t.there x.mailbox t.id_is;
    messages = λ x h. let t = message_told db w hold.0.stands b x h in known_at db w hold.0.stands b t.name t.mailbox t.there x.mailbox t.id_is;
    gone = λ x h. let t = gone_told db w hold.0.stands b x h in known_at db w hold.0.stands b t.name t.mailbox t.there x.mailbox t.id_is;
    marks = λ x h. let t = mark_told db w hold.0.stands b x h in known_at db w hold.0.stands b t.name t.mailbox t.there x.mailbox t.id_is;
  }

  pub has_parts : HasParts b.t
  has_parts = record {
    known = all_known;
    mailboxes = all_from (HasMailbox b.t) b.t.mailboxes.items has_mailbox;
    epochs = zip_all IsEpochFor b.t.epochs.items epoch_part;
    subscriptions = zip_all IsSubscriptionFor b.t.subscriptions.items subscription_part;
  }
