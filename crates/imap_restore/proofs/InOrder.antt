-- What is read of tables whose rows are in the order of mailboxes.
use Rattle.std.proofs.Common.{◌≡◌, ℤ, List, [], ◌∷◌, ap, filter, refl, subst, sym}
use Rattle.std.specs.Global.{Global as Memory}
use Rattle.std.specs.Prelude.{Vec}
use Rattle.std.specs.List.{AllByRecursion, AllZip}
use Rattle.std.specs.Ordering.{int_eq}
use Rattle.std.proofs.lemmas.Bool.Decides.{Decides-int_eq}
use Rattle.sqlite_rules.specs.Lists.{Has}
use Rattle.sqlite_rules.proofs.ListLemmas.{has_filtered, has_kept}
use Rattle.imap_mailbox.specs.declared.parts.MailboxParts.{MailboxParts}
use Rattle.imap_tables.specs.declared.stored.StoredEpoch.{StoredEpoch}
use Rattle.imap_tables.specs.declared.stored.StoredMailbox.{StoredMailbox}
use Rattle.imap_tables.specs.declared.stored.StoredSubscription.{StoredSubscription}
use Rattle.imap_tables.specs.declared.tables.StoredTables.{StoredTables}
use Rattle.imap_world.specs.declared.world_parts.MailboxRow.{MailboxRow}
use Rattle.imap_world.specs.declared.world_parts.WorldParts.{WorldParts}
use Rattle.imap_restore.specs.Parts.{AreBelow, AreOf, ArePartsFor, HasMailbox, HasParts, HaveGroups, HaveMailboxes, HaveMessages}
use Rattle.imap_restore.specs.Parts.{IsChangeFor, IsEntryFor, IsGoneMessageFor, IsGrouped, IsMailboxFor, IsMessageFor, IsOneOf}
use Rattle.imap_stored_values.specs.Restored.{IsEpochFor, IsSubscriptionFor}

zip_weaker : {A B : Type 0} (R S : A → B → Type 0) → ((x : A) (y : B) → R x y → S x y) → (xs : List A) (ys : List B) → AllZip R xs ys → AllZip S xs ys
zip_weaker R S weaker [] [] h = h
zip_weaker R S weaker [] (y ∷ ys) h = absurd h
zip_weaker R S weaker (x ∷ xs) [] h = absurd h
zip_weaker R S weaker (x ∷ xs) (y ∷ ys) h = (weaker x y h.0, zip_weaker R S weaker xs ys h.1)

pub all_weaker : {A : Type 0} (P Q : A → Type 0) → ((x : A) → P x → Q x) → (xs : List A) → AllByRecursion P xs → AllByRecursion Q xs
all_weaker P Q weaker [] h = tt
all_weaker P Q weaker (x ∷ xs) h = (weaker x h.0, all_weaker P Q weaker xs h.1)

-- the same rows
has_all : {R : Type 0} (m : R → ℤ) (a b : List R) → ((id : ℤ) → filter (λ r. int_eq (m r) id) a ≡ filter (λ r. int_eq (m r) id) b) → (x : R) → Has a x → Has b x
has_all {R} m a b same x h =
    let own = λ (r : R). int_eq (m r) (m x) in
    (has_filtered own b x (subst (λ l. Has l x) (same (m x)) (has_kept own a x h ((Decides-int_eq (m x) (m x)).1 refl)))).0

below_in : {R : Type 0} (m : R → ℤ) (boxes others : List StoredMailbox) (a b : List R) → boxes ≡ others
    → ((id : ℤ) → filter (λ r. int_eq (m r) id) a ≡ filter (λ r. int_eq (m r) id) b) → AreBelow m boxes a → AreBelow m others b
below_in m boxes others a b equal same below x h = subst (λ l. IsOneOf l (m x)) equal (below x (has_all m b a (λ id. sym (same id)) x h))

pub have_groups : (t g : StoredTables) → IsGrouped t g → HaveGroups g
have_groups t g is = record { entries = is.entries.0; messages = is.messages.0; gone = is.gone.0; marks = is.marks.0 }

module _ (t g : StoredTables) (is : IsGrouped t g) where
  are_of : (s : StoredMailbox) (parts : MailboxParts) → AreOf g s parts → AreOf t s parts
  are_of s parts h = record {
    next = h.next;
    shared = h.shared;
    messages = subst (λ rows. AllZip IsMessageFor rows parts.messages.items) (is.messages.1 s.id) h.messages;
    gone = subst (λ rows. AllZip IsGoneMessageFor rows parts.gone.items) (is.gone.1 s.id) h.gone;
    own = subst (λ rows. AllZip IsChangeFor rows parts.own.items) (is.marks.1 s.id) h.own;
  }

  is_mailbox : (s : StoredMailbox) (row : MailboxRow) → IsMailboxFor g s row → IsMailboxFor t s row
  is_mailbox s row h = record {
    name = h.name;
    validity = h.validity;
    acl = subst (λ rows. AllZip IsEntryFor rows row.acl.items) (is.entries.1 s.id) h.acl;
    messages = are_of s row.messages h.messages;
  }

  boxes : g.mailboxes.items ≡ t.mailboxes.items
  boxes = ap (λ (v : Vec StoredMailbox Memory). v.items) is.mailboxes

  known : HaveMailboxes g → HaveMailboxes t
  known h = record {
    entries = below_in (λ r. r.mailbox) g.mailboxes.items t.mailboxes.items g.entries.items t.entries.items boxes is.entries.1 h.entries;
    messages = below_in (λ r. r.mailbox) g.mailboxes.items t.mailboxes.items g.messages.items t.messages.items boxes is.messages.1 h.messages;
    gone = below_in (λ r. r.mailbox) g.mailboxes.items t.mailboxes.items g.gone.items t.gone.items boxes is.gone.1 h.gone;
    marks = below_in (λ r. r.mailbox) g.mailboxes.items t.mailboxes.items g.marks.items t.marks.items boxes is.marks.1 h.marks;
  }

  known_back : HaveMailboxes t → HaveMailboxes g
  known_back h = record {
    entries = below_in (λ r. r.mailbox) t.mailboxes.items g.mailboxes.items t.entries.items g.entries.items (sym boxes) (λ id. sym (is.entries.1 id)) h.entries;
    messages = below_in (λ r. r.mailbox) t.mailboxes.items g.mailboxes.items t.messages.items g.messages.items (sym boxes) (λ id. sym (is.messages.1 id)) h.messages;
    gone = below_in (λ r. r.mailbox) t.mailboxes.items g.mailboxes.items t.gone.items g.gone.items (sym boxes) (λ id. sym (is.gone.1 id)) h.gone;
    marks = below_in (λ r. r.mailbox) t.mailboxes.items g.mailboxes.items t.marks.items g.marks.items (sym boxes) (λ id. sym (is.marks.1 id)) h.marks;
  }

  pub parts_for : (parts : WorldParts) → ArePartsFor g parts → ArePartsFor t parts
  parts_for parts h = record {
    known = known h.known;
    mailboxes = subst (λ l. AllZip (IsMailboxFor t) l parts.mailboxes.items) boxes (zip_weaker (IsMailboxFor g) (IsMailboxFor t) is_mailbox g.mailboxes.items parts.mailboxes.items h.mailboxes);
    epochs = subst (λ (v : Vec StoredEpoch Memory). AllZip IsEpochFor v.items parts.epochs.items) is.epochs h.epochs;
    subscriptions = subst (λ (v : Vec StoredSubscription Memory). AllZip IsSubscriptionFor v.items parts.subscriptions.items) is.subscriptions h.subscriptions;
  }

  have_messages : (s : StoredMailbox) → HaveMessages t s → HaveMessages g s
  have_messages s h = record {
    shared = h.shared;
    messages = (h.messages.0, subst (λ rows. AllZip IsMessageFor rows h.messages.0) (sym (is.messages.1 s.id)) h.messages.1);
    gone = (h.gone.0, subst (λ rows. AllZip IsGoneMessageFor rows h.gone.0) (sym (is.gone.1 s.id)) h.gone.1);
    own = (h.own.0, subst (λ rows. AllZip IsChangeFor rows h.own.0) (sym (is.marks.1 s.id)) h.own.1);
  }

  has_mailbox : (s : StoredMailbox) → HasMailbox t s → HasMailbox g s
  has_mailbox s h = record {
    name = h.name;
    acl = (h.acl.0, subst (λ rows. AllZip IsEntryFor rows h.acl.0) (sym (is.entries.1 s.id)) h.acl.1);
    messages = have_messages s h.messages;
  }

  pub has_parts : HasParts t → HasParts g
  has_parts h = record {
    known = known_back h.known;
    mailboxes = subst (AllByRecursion (HasMailbox g)) (sym boxes) (all_weaker (HasMailbox t) (HasMailbox g) has_mailbox t.mailboxes.items h.mailboxes);
    epochs = (h.epochs.0, subst (λ (v : Vec StoredEpoch Memory). AllZip IsEpochFor v.items h.epochs.0) (sym is.epochs) h.epochs.1);
    subscriptions = (h.subscriptions.0, subst (λ (v : Vec StoredSubscription Memory). AllZip IsSubscriptionFor v.items h.subscriptions.0) (sym is.subscriptions) h.subscriptions.1);
  }
