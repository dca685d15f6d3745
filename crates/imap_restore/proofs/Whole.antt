-- The world that tables hold is made of what is read of them.
use Rattle.std.proofs.Common.{◌≡◌, ◌≤◌, ◌<◌, ◌+◌, ℕ, zero, suc, pos, Bool, true, false, cond, List, [], ◌∷◌, IsPermutation, refl, sym, ap, subst, ◌∙◌, arith, true≢false}
use Rattle.std.specs.Prelude.{bytes_eq, string_bytes}
use Rattle.std.specs.FinMap as map
use Rattle.std.specs.List.{count_by}
use Rattle.std.proofs.lemmas.Bool.{and_from, and_parts}
use Rattle.std.proofs.lemmas.Slice.Eq.{bytes_eq-Decides}
use Rattle.sqlite.specs.Order.{Row, column}
use Rattle.sqlite.specs.Tree.{Trees}
use Rattle.sqlite.specs.declared.types.Value.TheVariants.{Int}
use Rattle.sqlite_rules.specs.Lists.{Has}
use Rattle.imap_mailbox.specs.Parts.{AreOwn}
use Rattle.imap_names.specs.Name.{Name, path_of}
use Rattle.imap_names.specs.Order.{name_cmp}
use Rattle.imap_names.proofs.NameLaws.{equal_names, is_name_at, is_name_at-same}
use Rattle.imap_names.proofs.OrderLaws.{name_antisymmetric, name_total}
use Rattle.imap_records.specs.Columns.{epoch_values, subscription_values, tree_text}
use Rattle.imap_records.proofs.Injective.{same_number}
use Rattle.imap_records.proofs.Keys.{same_key, same_text}
use Rattle.imap_tables.specs.Contents.{AreAllApart}
use Rattle.imap_tables.specs.Rows.{epoch_row, sub_row}
use Rattle.imap_tables.specs.declared.stored.StoredEpoch.{StoredEpoch}
use Rattle.imap_tables.specs.declared.stored.StoredMailbox.{StoredMailbox}
use Rattle.imap_tables.specs.declared.stored.StoredSubscription.{StoredSubscription}
use Rattle.imap_world.specs.Mailbox.{Mailbox}
use Rattle.imap_world.specs.Parts.{AreMailboxes, AreSubscriptions, IsRowOf, is_subscription}
use Rattle.imap_world.specs.Subscription.{Subscription}
use Rattle.imap_world.specs.World.{World, subscribed_by}
use Rattle.imap_world.specs.declared.world_parts.MailboxRow.{MailboxRow}
use Rattle.imap_world.specs.declared.world_parts.WorldParts.{WorldParts}
use Rattle.imap_restore.specs.Holding.{Hold, IsMadeOf}
use Rattle.imap_restore.specs.Parts.{ArePartsFor, IsMailboxFor}
use Rattle.imap_stored_values.specs.Restored.{IsEpochFor, IsSubscriptionFor}
use Rattle.imap_restore.proofs.Again.{acl_again, gone_again, messages_again, own_again}
use Rattle.imap_restore.proofs.Keyed.{Apart, apart_by, apart_from, entries_apart, reorder, same_sets, zip_apart}
use Rattle.imap_restore.proofs.Listed.{entry_get, get_entry}
use Rattle.imap_restore.proofs.Matching.{Match, zip_match}
use Rattle.imap_restore.proofs.Same.{same_epoch, same_subscription}
use Rattle.imap_restore.proofs.Standing.{counted, found, more}
use Rattle.imap_restore.proofs.TableRows.{Rows, epoch_is, epoch_rows, same_id, sub_is, sub_rows}
use Rattle.imap_restore.proofs.Told.{Told, epoch_told, kept_at, one_with, subscription_told, told}

-- ---- counts

none_more : (n : ℕ) → (0 < n → ⊥) → n ≡ 0
none_more zero never = refl
none_more (suc n) never = absurd (never (omega (arith)))

-- no two that pass
at_most_one : {X K : Type 0} (f : X → K) (p : X → Bool) (xs : List X) → Apart f xs → ((x y : X) → p x ≡ true → p y ≡ true → f x ≡ f y) → count_by p xs ≤ 1
at_most_one f p [] a one = omega (arith)
at_most_one f p (x ∷ xs) a one = subst (λ n. n ≤ 1) (sym (more p x xs)) (by (p x) refl (at_most_one f p xs a.1 one))
  where
    by : (b : Bool) → p x ≡ b → count_by p xs ≤ 1 → cond b 1 0 + count_by p xs ≤ 1
    by true is rest =
        let none = none_more (count_by p xs) (λ some. let y = found p xs some in a.0 y.0 y.1 (one x y.0 is y.2)) in
        omega (arith, none)
    by false is rest = omega (arith, rest)

just_one : (n : ℕ) → 0 < n → n ≤ 1 → n ≡ 1
just_one n low high = omega (arith, low, high)

abbrev key_of : Name → List ℕ × List ℕ
key_of name = (tree_text name, path_of name)

abbrev epoch_key : StoredEpoch → List ℕ × List ℕ
epoch_key x = (string_bytes x.key.tree, string_bytes x.key.path)

abbrev mailbox_key : StoredMailbox → List ℕ × List ℕ
mailbox_key s = (string_bytes s.key.tree, string_bytes s.key.path)

abbrev subscription_key : StoredSubscription → List ℕ × List ℕ × List ℕ
subscription_key x = (string_bytes x.user, string_bytes x.key.tree, string_bytes x.key.path)

abbrev user_key : Subscription → List ℕ × List ℕ × List ℕ
user_key y = (y.user, tree_text y.name, path_of y.name)

module _ (db : Trees) (w : World) (hold : Hold db w) (b : Rows db) (distinct : AreAllApart b.t) (parts : WorldParts) (restored : ArePartsFor b.t parts) where
  -- ---- used UIDVALIDITYs

  epochs_again : IsPermutation parts.epochs.items (map.entries w.epochs)
  epochs_again = same_sets (λ (e : Name × ℕ). key_of e.0) (λ (e : Name × ℕ). e.0) parts.epochs.items (map.entries w.epochs) apart (entries_apart name_cmp is_name_at-same w.epochs) to from
    where
      apart : Apart (λ (e : Name × ℕ). key_of e.0) parts.epochs.items
      apart =
          zip_apart IsEpochFor epoch_key (λ (e : Name × ℕ). key_of e.0) (λ x e is. λ i. (sym is.0.0 i, sym is.0.1 i)) b.t.epochs.items parts.epochs.items restored.epochs
          (apart_by epoch_key (λ (x : StoredEpoch). x.rowid) b.t.epochs.items distinct.epochs
          (λ x y hx hy e. same_epoch db b x y hx hy (ap (λ (t : List ℕ × List ℕ). t.0) e) (ap (λ (t : List ℕ × List ℕ). t.1) e)))

      to : (e : Name × ℕ) → Has parts.epochs.items e → Has (map.entries w.epochs) e
      to e h =
          let x = (zip_match IsEpochFor b.t.epochs.items parts.epochs.items restored.epochs).from e h in
          let t = epoch_told db w hold.0.stands b x.0 x.1 in
          let names = same_key t.name e.0 (hold.0.stands.named.epochs t.name x.0.greatest t.there) x.2.1 (t.key.0 ∙ sym x.2.0.0) (t.key.1 ∙ sym x.2.0.1) in
          subst (Has (map.entries w.epochs)) (λ i. (names i, sym x.2.2 i)) (get_entry name_cmp name_total name_antisymmetric is_name_at-same w.epochs t.name x.0.greatest t.there)

      from : (e : Name × ℕ) → Has (map.entries w.epochs) e → Has parts.epochs.items e
      from e h =
          let there = entry_get name_cmp name_total name_antisymmetric is_name_at-same w.epochs e h in
          let row = hold.0.stands.epochs.complete (epoch_values e.0 e.1) (record { name = e.0; greatest = e.1; there = there; shown = refl }) in
          let x = (epoch_rows db b).to (Int row.0 ∷ epoch_values e.0 e.1) row.1 in
          let same : Int row.0 ∷ epoch_values e.0 e.1 ≡ epoch_row (string_bytes x.0.key.tree) (string_bytes x.0.key.path) x.0.greatest x.0.rowid = epoch_is db b (Int row.0 ∷ epoch_values e.0 e.1) row.1 x.0 x.2 in
          let y = (zip_match IsEpochFor b.t.epochs.items parts.epochs.items restored.epochs).to x.0 x.1 in
          let names = same_key y.0.0 e.0 y.2.1 (hold.0.stands.named.epochs e.0 e.1 there) (y.2.0.0 ∙ sym (same_text (tree_text e.0) (string_bytes x.0.key.tree) (ap (λ (v : Row). column v 1) same))) (y.2.0.1 ∙ sym (same_text (path_of e.0) (string_bytes x.0.key.path) (ap (λ (v : Row). column v 2) same))) in
          let greatest = same_number e.1 x.0.greatest (ap (λ (v : Row). column v 3) same) in
          subst (Has parts.epochs.items) (λ i. (names i, (y.2.2 ∙ sym greatest) i)) y.1

  -- ---- subscriptions

  one_of_user : Apart user_key parts.subscriptions.items
  one_of_user =
      zip_apart IsSubscriptionFor subscription_key user_key (λ x y is. λ i. (sym is.2 i, sym is.0.0 i, sym is.0.1 i)) b.t.subscriptions.items parts.subscriptions.items restored.subscriptions
      (apart_by subscription_key (λ (x : StoredSubscription). x.rowid) b.t.subscriptions.items distinct.subscriptions
      (λ x y hx hy e. same_subscription db b x y hx hy (ap (λ (t : List ℕ × List ℕ × List ℕ). t.0) e) (ap (λ (t : List ℕ × List ℕ × List ℕ). t.1) e) (ap (λ (t : List ℕ × List ℕ × List ℕ). t.2) e)))

  -- one that passes is of the user and has the name
  passing : (user : List ℕ) (name : Name) (y : Subscription) → is_subscription user name y ≡ true → (user ≡ y.user) × (name ≡ y.name)
  passing user name y is =
      let both = and_parts (bytes_eq user y.user) (is_name_at name y.name) is in
      ((bytes_eq-Decides user y.user).0 both.0, equal_names name y.name both.1)

  subscriptions_again : AreSubscriptions parts.subscriptions.items w
  subscriptions_again user name = by (map.contains_key (subscribed_by w user) name) refl
    where
      one : (x y : Subscription) → is_subscription user name x ≡ true → is_subscription user name y ≡ true → user_key x ≡ user_key y
      one x y px py =
          let a = passing user name x px in
          let c = passing user name y py in
          λ i. ((sym a.0 ∙ c.0) i, tree_text ((sym a.1 ∙ c.1) i), path_of ((sym a.1 ∙ c.1) i))

      listed : map.contains_key (subscribed_by w user) name ≡ true → 0 < count_by (is_subscription user name) parts.subscriptions.items
      listed there =
          let values = subscription_values user name in
          let row = hold.0.stands.subscriptions.complete values (record { user = user; name = name; there = there; shown = refl }) in
          let x = (sub_rows db b).to (Int row.0 ∷ values) row.1 in
          let same : Int row.0 ∷ values ≡ sub_row (string_bytes x.0.user) (string_bytes x.0.key.tree) (string_bytes x.0.key.path) x.0.rowid = sub_is db b (Int row.0 ∷ values) row.1 x.0 x.2 in
          let y = (zip_match IsSubscriptionFor b.t.subscriptions.items parts.subscriptions.items restored.subscriptions).to x.0 x.1 in
          let users : user ≡ y.0.user = same_text user (string_bytes x.0.user) (ap (λ (v : Row). column v 1) same) ∙ sym y.2.2 in
          let names : name ≡ y.0.name = same_key name y.0.name (hold.0.stands.named.subscriptions user name there) y.2.1
          (same_text (tree_text name) (string_bytes x.0.key.tree) (ap (λ (v : Row). column v 2) same) ∙ sym y.2.0.0)
          (same_text (path_of name) (string_bytes x.0.key.path) (ap (λ (v : Row). column v 3) same) ∙ sym y.2.0.1) in
          counted (is_subscription user name) parts.subscriptions.items y.0 y.1
          (and_from (bytes_eq user y.0.user) (is_name_at name y.0.name) ((bytes_eq-Decides user y.0.user).1 users) (subst (λ n. is_name_at name n ≡ true) names (is_name_at-same name)))

      no_other : map.contains_key (subscribed_by w user) name ≡ false → 0 < count_by (is_subscription user name) parts.subscriptions.items → ⊥
      no_other absent some =
          let y = found (is_subscription user name) parts.subscriptions.items some in
          let x = (zip_match IsSubscriptionFor b.t.subscriptions.items parts.subscriptions.items restored.subscriptions).from y.0 y.1 in
          let t = subscription_told db w hold.0.stands b x.0 x.1 in
          let a = passing user name y.0 y.2 in
          let users : t.user ≡ user = t.same ∙ sym x.2.2 ∙ sym a.0 in
          let names : t.name ≡ name = same_key t.name y.0.name (hold.0.stands.named.subscriptions t.user t.name t.there) x.2.1 (t.key.0 ∙ sym x.2.0.0) (t.key.1 ∙ sym x.2.0.1) ∙ sym a.1 in
          true≢false (sym t.there ∙ (λ i. map.contains_key (subscribed_by w (users i)) (names i)) ∙ absent)

      by : (c : Bool) → map.contains_key (subscribed_by w user) name ≡ c → count_by (is_subscription user name) parts.subscriptions.items ≡ cond (map.contains_key (subscribed_by w user) name) 1 0
      by true is =
          just_one (count_by (is_subscription user name) parts.subscriptions.items) (listed is)
          (at_most_one user_key (is_subscription user name) parts.subscriptions.items one_of_user one)
          ∙ ap (λ c. cond c 1 0) (sym is)
      by false is = none_more (count_by (is_subscription user name) parts.subscriptions.items) (no_other is) ∙ ap (λ c. cond c 1 0) (sym is)

  -- ---- mailboxes

  same_count : (m n : ℕ) → pos m ≡ pos n → m ≡ n
  same_count m n e = same_number m n (ap Int e)

  row_again : (r : MailboxRow) (s : StoredMailbox) → Has b.t.mailboxes.items s → IsMailboxFor b.t s r → (t : Told db w hold.0.stands b s) → IsRowOf r (t.name, t.mailbox)
  row_again r s h is t = record {
    name = same_key t.name r.name (hold.0.stands.named.mailboxes t.name t.mailbox t.there) is.name.1 (t.key.0 ∙ sym is.name.0.0) (t.key.1 ∙ sym is.name.0.1);
    validity = t.validity ∙ sym is.validity;
    acl = acl_again db w hold b distinct t.name t.mailbox t.there s t.id_is r.acl.items is.acl;
    messages = record {
      next = t.next ∙ sym is.messages.next;
      shared = same_count t.mailbox.messages.shared r.messages.shared (t.shared ∙ sym is.messages.shared);
      messages = messages_again db w hold b distinct t.name t.mailbox t.there s t.id_is r.messages.messages.items is.messages.messages;
      gone = gone_again db w hold b distinct t.name t.mailbox t.there s t.id_is r.messages.gone.items is.messages.gone;
      own = subst (λ n. AreOwn n r.messages.own.items t.mailbox.messages.own) (same_count t.mailbox.messages.shared r.messages.shared (t.shared ∙ sym is.messages.shared))
          (own_again db w hold b distinct t.name t.mailbox t.there s t.id_is r.messages.own.items is.messages.own);
    };
  }

  rows_match : Match IsRowOf parts.mailboxes.items (map.entries w.mailboxes)
  rows_match = record {
    to = λ r h.
        let s = (zip_match (IsMailboxFor b.t) b.t.mailboxes.items parts.mailboxes.items restored.mailboxes).from r h in
        let t = told db w hold.0.stands b s.0 s.1 in
        ((t.name, t.mailbox), get_entry name_cmp name_total name_antisymmetric is_name_at-same w.mailboxes t.name t.mailbox t.there, row_again r s.0 s.1 s.2 t);
    from = λ e h.
        let there = entry_get name_cmp name_total name_antisymmetric is_name_at-same w.mailboxes e h in
        let s = kept_at db w hold.0.stands b e.0 e.1 there in
        let t = told db w hold.0.stands b s.0 s.1 in
        let same = one_with db w hold.0.stands b t.name e.0 t.mailbox e.1 t.there there (t.id_is ∙ sym s.2) in
        let r = (zip_match (IsMailboxFor b.t) b.t.mailboxes.items parts.mailboxes.items restored.mailboxes).to s.0 s.1 in
        (r.0, r.1, subst (IsRowOf r.0) (λ i. (same.0 i, same.1 i)) (row_again r.0 s.0 s.1 r.2 t));
  }

  names_apart : Apart (λ (r : MailboxRow). r.name) parts.mailboxes.items
  names_apart =
      apart_from (λ (r : MailboxRow). r.name) key_of parts.mailboxes.items
      (zip_apart (IsMailboxFor b.t) mailbox_key (λ (r : MailboxRow). key_of r.name) (λ s r is. λ i. (sym is.name.0.0 i, sym is.name.0.1 i)) b.t.mailboxes.items parts.mailboxes.items restored.mailboxes
      (apart_by mailbox_key (λ (s : StoredMailbox). s.id) b.t.mailboxes.items distinct.mailboxes
      (λ x y hx hy e. same_id db b x y hx hy (ap (λ (t : List ℕ × List ℕ). t.0) e) (ap (λ (t : List ℕ × List ℕ). t.1) e))))

  mailboxes_again : AreMailboxes parts.mailboxes.items w.mailboxes
  mailboxes_again =
      reorder IsRowOf (λ (r : MailboxRow). r.name) (λ (e : Name × Mailbox). e.0) (λ r e is. sym is.name) (map.entries w.mailboxes) parts.mailboxes.items names_apart (entries_apart name_cmp is_name_at-same w.mailboxes) rows_match

  pub made_again : IsMadeOf parts w
  made_again = record {
    stands = record { mailboxes = mailboxes_again; epochs = epochs_again; subscriptions = subscriptions_again };
    sound = hold.0.sound;
    kept = hold.0.kept;
    lists = λ name m there. (hold.0.values.mailboxes name m there).acl;
  }
