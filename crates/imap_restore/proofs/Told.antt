-- What the rows of tables that hold a world tell of it.
use Rattle.std.proofs.Common.{◌≡◌, ℕ, ℤ, pos, Bool, true, false, List, [], ◌∷◌, Option, Some, refl, sym, ap, subst, ◌∙◌}
use Rattle.std.specs.Prelude.{string_bytes}
use Rattle.std.specs.FinMap as map
use Rattle.sqlite.specs.Order.{Row, column}
use Rattle.sqlite.specs.Tree.{Trees}
use Rattle.sqlite.specs.declared.types.Value.{Value}
use Rattle.sqlite.specs.declared.types.Value.TheVariants.{Null, Int, Real, Text as Words, Blob as Bytes}
use Rattle.sqlite_rules.specs.Lists.{Has}
use Rattle.imap_mailbox.specs.declared.message.GoneMessage.{GoneMessage}
use Rattle.imap_mailbox.specs.declared.message.Message.{Message}
use Rattle.imap_mailbox.specs.declared.kept_change.KeptChange.{KeptChange}
use Rattle.imap_names.specs.Name.{Name, path_of}
use Rattle.imap_records.specs.Columns.{date_text, entry_values, epoch_values, flag_bits, gone_values, keywords_text, mark_values, message_values, place_value, row_of_mailbox, subscription_values, tree_text}
use Rattle.imap_records.specs.Standing.{IsEntry as EntryOf, IsGone as GoneOf, IsMailbox as MailboxOf, IsMark as MarkOf, IsMessage as MessageOf, StandFor, entries, messages, gone, marks}
use Rattle.imap_records.proofs.Injective.{same_number}
use Rattle.imap_records.proofs.Keys.{same_text}
use Rattle.imap_tables.specs.Reading.{shown_at}
use Rattle.imap_tables.specs.Rows.{acl_row, epoch_row, flag_of, gone_row, mailbox_row, mark_row, message_row, sub_row}
use Rattle.imap_tables.specs.Stored.{IsMailbox}
use Rattle.imap_tables.specs.declared.stored.StoredEntry.{StoredEntry}
use Rattle.imap_tables.specs.declared.stored.StoredEpoch.{StoredEpoch}
use Rattle.imap_tables.specs.declared.stored.StoredGone.{StoredGone}
use Rattle.imap_tables.specs.declared.stored.StoredMailbox.{StoredMailbox}
use Rattle.imap_tables.specs.declared.stored.StoredSeenFlag.{StoredSeenFlag}
use Rattle.imap_tables.specs.declared.stored.StoredMessage.{StoredMessage}
use Rattle.imap_tables.specs.declared.stored.StoredSubscription.{StoredSubscription}
use Rattle.imap_world.specs.Mailbox.{Mailbox}
use Rattle.imap_world.specs.World.{World, subscribed_by}
use Rattle.imap_restore.specs.Parts.{IsOneOf}
use Rattle.imap_stored_values.specs.Restored.{HasKeyOf, IsGoneFor, IsMarkFor, IsRowFor}
use Rattle.imap_restore.proofs.UserChanges.{change_of}
use Rattle.imap_restore.proofs.TableRows.{Rows, entry_is, entry_rows, epoch_is, epoch_rows, gone_is, gone_rows, mailbox_is, mailbox_rows, mark_is, mark_rows, message_is, message_rows, sub_is, sub_rows}

abbrev number_in : Value → ℤ
number_in (Int n) = n
number_in Null = pos 0
number_in (Real x) = pos 0
number_in (Words t) = pos 0
number_in (Bytes b) = pos 0

pub same_int : (m n : ℤ) → Int m ≡ Int n → m ≡ n
same_int m n e = ap number_in e

abbrev octets_in : Value → List ℕ
octets_in (Bytes t) = t
octets_in Null = []
octets_in (Int n) = []
octets_in (Real x) = []
octets_in (Words b) = []

same_octets : (a b : List ℕ) → Bytes a ≡ Bytes b → a ≡ b
same_octets a b e = ap octets_in e

same_flag : (a b : Bool) → flag_of a ≡ flag_of b → a ≡ b
same_flag true true e = refl
same_flag true false e = absurd (cc e)
same_flag false true e = absurd (cc e)
same_flag false false e = refl

same_value : {X : Type 0} (x y : X) → ◌≡◌ {A = Option X} (Some x) (Some y) → x ≡ y
same_value x y e = cc e

module _ (db : Trees) (w : World) (stands : StandFor db w) (b : Rows db) where
  -- ---- mailboxes

  pub record Told (s : StoredMailbox) : Type 0 where
    pub name : Name
    pub mailbox : Mailbox
    pub there : map.get w.mailboxes name ≡ Some mailbox
    pub id_is : stands.id name ≡ s.id
    pub key : HasKeyOf s.key name
    pub validity : mailbox.validity ≡ s.validity
    pub next : mailbox.messages.next ≡ s.uidnext
    pub shared : pos mailbox.messages.shared ≡ s.shared

  told_by : (s : StoredMailbox) (row : Row) → Has (db 0) row → IsMailbox (shown_at 0 row) s → MailboxOf w stands.id row → Told s
  told_by s row h is it =
      let same : row_of_mailbox it.name it.mailbox (stands.id it.name) ≡ mailbox_row s.id (string_bytes s.key.tree) (string_bytes s.key.path) s.validity s.uidnext s.shared = sym it.shown ∙ mailbox_is db b row h s is in
      record {
        name = it.name;
        mailbox = it.mailbox;
        there = it.there;
        id_is = same_int (stands.id it.name) s.id (ap (λ (v : Row). column v 0) same);
        key = (same_text (tree_text it.name) (string_bytes s.key.tree) (ap (λ (v : Row). column v 2) same), same_text (path_of it.name) (string_bytes s.key.path) (ap (λ (v : Row). column v 3) same));
        validity = same_number it.mailbox.validity s.validity (ap (λ (v : Row). column v 4) same);
        next = same_number it.mailbox.messages.next s.uidnext (ap (λ (v : Row). column v 5) same);
        shared = same_int (pos it.mailbox.messages.shared) s.shared (ap (λ (v : Row). column v 6) same);
      }

  pub told : (s : StoredMailbox) → Has b.t.mailboxes.items s → Told s
  told s h = let r = (mailbox_rows db b).from s h in told_by s r.0 r.1 r.2 ((stands.mailboxes r.0).0 r.1)

  pub kept_at : (name : Name) (m : Mailbox) → map.get w.mailboxes name ≡ Some m → (s : StoredMailbox) × Has b.t.mailboxes.items s × (stands.id name ≡ s.id)
  kept_at name m there =
      let h = (stands.mailboxes (row_of_mailbox name m (stands.id name))).1 (record { name = name; mailbox = m; there = there; shown = refl }) in
      let s = (mailbox_rows db b).to (row_of_mailbox name m (stands.id name)) h in
      (s.0, s.1, same_int (stands.id name) s.0.id (ap (λ (v : Row). column v 0) (mailbox_is db b (row_of_mailbox name m (stands.id name)) h s.0 s.2)))

  pub known_at : (name : Name) (m : Mailbox) → map.get w.mailboxes name ≡ Some m → (i : ℤ) → stands.id name ≡ i → IsOneOf b.t.mailboxes.items i
  known_at name m there i is = let s = kept_at name m there in (s.0, s.1, sym s.2 ∙ is)

  -- the mailbox with an id
  pub one_with : (a c : Name) (m n : Mailbox) → map.get w.mailboxes a ≡ Some m → map.get w.mailboxes c ≡ Some n → stands.id a ≡ stands.id c → (a ≡ c) × (m ≡ n)
  one_with a c m n ma nc ids =
      let names = stands.apart a c m n ma nc ids in
      (names, same_value m n (sym ma ∙ ap (map.get w.mailboxes) names ∙ nc))

  -- ---- rows below them

  pub record EntryTold (x : StoredEntry) : Type 0 where
    pub name : Name
    pub mailbox : Mailbox
    pub there : map.get w.mailboxes name ≡ Some mailbox
    pub id_is : stands.id name ≡ x.mailbox
    pub listed : Has (map.entries mailbox.acl) (string_bytes x.identifier, x.rights)

  pub entry_told : (x : StoredEntry) → Has b.t.entries.items x → EntryTold x
  entry_told x h =
      let r = (entry_rows db b).from x h in
      let n = (stands.below entries).sound r.0 r.1 in
      let u = n.meant in
      let e : EntryOf u.mailbox.acl (stands.id u.name) n.values = u.shown in
      let same : Int n.rowid ∷ entry_values (stands.id u.name) e.identifier e.rights ≡ acl_row x.mailbox (string_bytes x.identifier) x.rights x.rowid = ap (λ v. Int n.rowid ∷ v) (sym e.shown) ∙ sym n.shown ∙ entry_is db b r.0 r.1 x r.2 in
      let who = same_text e.identifier (string_bytes x.identifier) (ap (λ (v : Row). column v 2) same) in
      let what = same_number e.rights x.rights (ap (λ (v : Row). column v 3) same) in
      record {
        name = u.name;
        mailbox = u.mailbox;
        there = u.there;
        id_is = same_int (stands.id u.name) x.mailbox (ap (λ (v : Row). column v 1) same);
        listed = subst (Has (map.entries u.mailbox.acl)) (λ i. (who i, what i)) e.there;
      }

  pub record MessageTold (x : StoredMessage) : Type 0 where
    pub name : Name
    pub mailbox : Mailbox
    pub there : map.get w.mailboxes name ≡ Some mailbox
    pub id_is : stands.id name ≡ x.mailbox
    pub message : Message
    pub listed : Has mailbox.messages.messages message
    pub is : IsRowFor x.row message

  pub message_told : (x : StoredMessage) → Has b.t.messages.items x → MessageTold x
  message_told x h =
      let r = (message_rows db b).from x h in
      let n = (stands.below messages).sound r.0 r.1 in
      let u = n.meant in
      let e : MessageOf u.mailbox.messages.messages (stands.id u.name) n.values = u.shown in
      let y = e.message in
      let same : Int n.rowid ∷ message_values (stands.id u.name) y ≡ message_row x.mailbox x.row.uid (string_bytes x.row.date) x.row.octets x.row.flags (string_bytes x.row.keywords) x.row.place x.rowid = ap (λ v. Int n.rowid ∷ v) (sym e.shown) ∙ sym n.shown ∙ message_is db b r.0 r.1 x r.2 in
      record {
        name = u.name;
        mailbox = u.mailbox;
        there = u.there;
        id_is = same_int (stands.id u.name) x.mailbox (ap (λ (v : Row). column v 1) same);
        message = y;
        listed = e.there;
        is = record {
          uid = same_number y.uid x.row.uid (ap (λ (v : Row). column v 2) same);
          date = same_text (date_text y.date) (string_bytes x.row.date) (ap (λ (v : Row). column v 3) same);
          octets = same_octets y.octets x.row.octets (ap (λ (v : Row). column v 4) same);
          flags = (
            same_number (flag_bits y.flags) x.row.flags (ap (λ (v : Row). column v 5) same),
            same_text (keywords_text y.flags.keywords) (string_bytes x.row.keywords) (ap (λ (v : Row). column v 6) same),
          );
          place = same_int (place_value y.place) x.row.place (ap (λ (v : Row). column v 7) same);
        };
      }

  pub record GoneTold (x : StoredGone) : Type 0 where
    pub name : Name
    pub mailbox : Mailbox
    pub there : map.get w.mailboxes name ≡ Some mailbox
    pub id_is : stands.id name ≡ x.mailbox
    pub message : GoneMessage
    pub listed : Has mailbox.messages.gone message
    pub is : IsGoneFor x.uid x.place message

  pub gone_told : (x : StoredGone) → Has b.t.gone.items x → GoneTold x
  gone_told x h =
      let r = (gone_rows db b).from x h in
      let n = (stands.below gone).sound r.0 r.1 in
      let u = n.meant in
      let e : GoneOf u.mailbox.messages.gone (stands.id u.name) n.values = u.shown in
      let y = e.message in
      let same : Int n.rowid ∷ gone_values (stands.id u.name) y ≡ gone_row x.mailbox x.uid x.place x.rowid = ap (λ v. Int n.rowid ∷ v) (sym e.shown) ∙ sym n.shown ∙ gone_is db b r.0 r.1 x r.2 in
      record {
        name = u.name;
        mailbox = u.mailbox;
        there = u.there;
        id_is = same_int (stands.id u.name) x.mailbox (ap (λ (v : Row). column v 1) same);
        message = y;
        listed = e.there;
        is = (same_number y.uid x.uid (ap (λ (v : Row). column v 2) same), same_int (place_value y.place) x.place (ap (λ (v : Row). column v 3) same));
      }

  pub record MarkTold (x : StoredSeenFlag) : Type 0 where
    pub name : Name
    pub mailbox : Mailbox
    pub there : map.get w.mailboxes name ≡ Some mailbox
    pub id_is : stands.id name ≡ x.mailbox
    pub user : List ℕ
    pub change : KeptChange
    pub listed : Has (stands.kept name user) change
    pub is : IsMarkFor x.row (change_of user change)

  pub mark_told : (x : StoredSeenFlag) → Has b.t.marks.items x → MarkTold x
  mark_told x h =
      let r = (mark_rows db b).from x h in
      let n = (stands.below marks).sound r.0 r.1 in
      let u = n.meant in
      let e : MarkOf (stands.kept u.name) (stands.id u.name) n.values = u.shown in
      let same : Int n.rowid ∷ mark_values (stands.id u.name) e.user e.change ≡ mark_row x.mailbox (string_bytes x.row.user) x.row.own x.row.before x.row.uid x.row.seen x.rowid = ap (λ v. Int n.rowid ∷ v) (sym e.shown) ∙ sym n.shown ∙ mark_is db b r.0 r.1 x r.2 in
      record {
        name = u.name;
        mailbox = u.mailbox;
        there = u.there;
        id_is = same_int (stands.id u.name) x.mailbox (ap (λ (v : Row). column v 1) same);
        user = e.user;
        change = e.change;
        listed = e.there;
        is = record {
          user = same_text e.user (string_bytes x.row.user) (ap (λ (v : Row). column v 2) same);
          place = same_int (place_value e.change.place) x.row.own (ap (λ (v : Row). column v 3) same);
          before = same_int (pos e.change.before) x.row.before (ap (λ (v : Row). column v 4) same);
          uid = same_number e.change.uid x.row.uid (ap (λ (v : Row). column v 5) same);
          seen = same_flag e.change.seen x.row.seen (same_int (flag_of e.change.seen) (flag_of x.row.seen) (ap (λ (v : Row). column v 6) same));
        };
      }

  -- ---- epochs and subscriptions

  pub record EpochTold (x : StoredEpoch) : Type 0 where
    pub name : Name
    pub there : map.get w.epochs name ≡ Some x.greatest
    pub key : HasKeyOf x.key name

  pub epoch_told : (x : StoredEpoch) → Has b.t.epochs.items x → EpochTold x
  epoch_told x h =
      let r = (epoch_rows db b).from x h in
      let n = stands.epochs.sound r.0 r.1 in
      let e = n.meant in
      let same : Int n.rowid ∷ epoch_values e.name e.greatest ≡ epoch_row (string_bytes x.key.tree) (string_bytes x.key.path) x.greatest x.rowid = ap (λ v. Int n.rowid ∷ v) (sym e.shown) ∙ sym n.shown ∙ epoch_is db b r.0 r.1 x r.2 in
      record {
        name = e.name;
        there = e.there ∙ ap Some (same_number e.greatest x.greatest (ap (λ (v : Row). column v 3) same));
        key = (same_text (tree_text e.name) (string_bytes x.key.tree) (ap (λ (v : Row). column v 1) same), same_text (path_of e.name) (string_bytes x.key.path) (ap (λ (v : Row). column v 2) same));
      }

  pub record SubscriptionTold (x : StoredSubscription) : Type 0 where
    pub user : List ℕ
    pub name : Name
    pub there : map.contains_key (subscribed_by w user) name ≡ true
    pub key : HasKeyOf x.key name
    pub same : user ≡ string_bytes x.user

  pub subscription_told : (x : StoredSubscription) → Has b.t.subscriptions.items x → SubscriptionTold x
  subscription_told x h =
      let r = (sub_rows db b).from x h in
      let n = stands.subscriptions.sound r.0 r.1 in
      let e = n.meant in
      let same : Int n.rowid ∷ subscription_values e.user e.name ≡ sub_row (string_bytes x.user) (string_bytes x.key.tree) (string_bytes x.key.path) x.rowid = ap (λ v. Int n.rowid ∷ v) (sym e.shown) ∙ sym n.shown ∙ sub_is db b r.0 r.1 x r.2 in
      record {
        user = e.user;
        name = e.name;
        there = e.there;
        key = (same_text (tree_text e.name) (string_bytes x.key.tree) (ap (λ (v : Row). column v 2) same), same_text (path_of e.name) (string_bytes x.key.path) (ap (λ (v : Row). column v 3) same));
        same = same_text e.user (string_bytes x.user) (ap (λ (v : Row). column v 1) same);
      }
