-- The tables stand for the world that was made of them.
use Rattle.std.proofs.Common.{◌≡◌, ◌<◌, inl, inr, ℕ, pos, Bool, true, false, cond, List, [], ◌∷◌, Some, refl, sym, ap, subst, ◌∙◌, arith}
use Rattle.std.specs.Prelude.{bytes_eq, string_bytes, ◌+◌}
use Rattle.std.specs.FinMap as map
use Rattle.std.specs.List.{count_by}
use Rattle.std.proofs.lemmas.Bool.{and_from, and_parts}
use Rattle.std.proofs.lemmas.List.Sums.{sum_by-cons}
use Rattle.std.proofs.lemmas.Slice.Eq.{bytes_eq-Decides}
use Rattle.std.proofs.lemmas.List.Sorted.{IsPermutation-sym}
use Rattle.sqlite.specs.Order.{Row}
use Rattle.sqlite.specs.Tree.{Trees}
use Rattle.sqlite.specs.declared.types.Value.TheVariants.{Int, Text as Words}
use Rattle.sqlite_rules.specs.Lists.{Has}
use Rattle.imap_names.specs.Name.{Name}
use Rattle.imap_names.specs.Order.{name_cmp}
use Rattle.imap_names.proofs.NameLaws.{equal_names, is_name_at, is_name_at-same}
use Rattle.imap_names.proofs.OrderLaws.{name_antisymmetric, name_total}
use Rattle.imap_records.specs.Columns.{epoch_values, row_of_mailbox, subscription_values}
use Rattle.imap_records.specs.Standing.{AreNames, AreRows, Child, IsEpoch as EpochOf, IsMailbox as MailboxOf, IsSubscription as SubscriptionOf, IsUnder, StandFor, entries, messages, gone, marks, tree_of}
use Rattle.imap_tables.specs.Rows.{mailbox_row}
use Rattle.imap_tables.specs.declared.stored.StoredEpoch.{StoredEpoch}
use Rattle.imap_tables.specs.declared.stored.StoredSubscription.{StoredSubscription}
use Rattle.imap_world.specs.Mailbox.{Mailbox}
use Rattle.imap_world.specs.Parts.{is_subscription}
use Rattle.imap_world.specs.Subscription.{Subscription}
use Rattle.imap_world.specs.World.{World, subscribed_by}
use Rattle.imap_stored_values.specs.Restored.{IsEpochFor, IsSubscriptionFor}
use Rattle.imap_restore.proofs.Children.{entries_stand, gone_stand, messages_stand}
use Rattle.imap_restore.proofs.Listed.{entry_get, get_entry, has_moved}
use Rattle.imap_restore.proofs.Marks.{all_found, kept, marks_stand}
use Rattle.imap_restore.proofs.Matching.{Match, zip_match}
use Rattle.imap_restore.proofs.Owners.{Owner, Read, id, id_is, ids_apart, name_is, owned, owner, path_is, tree_is}
use Rattle.imap_restore.proofs.TableRows.{epoch_is, epoch_rows, mailbox_is, mailbox_rows, sub_is, sub_rows}

-- ---- counts

pub more : {X : Type 0} (p : X → Bool) (y : X) (xs : List X) → count_by p (y ∷ xs) ≡ cond (p y) 1 0 + count_by p xs
more p y xs = sum_by-cons (λ x. cond (p x) 1 0) y xs

pub counted : {X : Type 0} (p : X → Bool) (xs : List X) (x : X) → Has xs x → p x ≡ true → 0 < count_by p xs
counted p [] x h passes = absurd h
counted p (y ∷ xs) x (inl is) passes = subst (λ n. 0 < n) (sym (more p y xs ∙ ap (λ b. cond b 1 0 + count_by p xs) (ap p (sym is) ∙ passes))) (omega (arith))
counted p (y ∷ xs) x (inr h) passes = let rest = counted p xs x h passes in subst (λ n. 0 < n) (sym (more p y xs)) (omega (arith, rest))

found_by : {X : Type 0} (p : X → Bool) (y : X) (xs : List X) (b : Bool) → p y ≡ b → 0 < cond b 1 0 + count_by p xs → (0 < count_by p xs → (x : X) × Has xs x × (p x ≡ true)) → (x : X) × Has (y ∷ xs) x × (p x ≡ true)
found_by p y xs true is h later = (y, inl refl, is)
found_by p y xs false is h later = let it = later (omega (arith, h)) in (it.0, inr it.1, it.2)

pub found : {X : Type 0} (p : X → Bool) (xs : List X) → 0 < count_by p xs → (x : X) × Has xs x × (p x ≡ true)
found p [] h = absurd (omega (arith, h))
found p (y ∷ xs) h = found_by p y xs (p y) refl (subst (λ n. 0 < n) (more p y xs) h) (found p xs)

if_one : (b : Bool) → 0 < cond b 1 0 → b ≡ true
if_one true h = refl
if_one false h = absurd (omega (arith, h))

module _ (db : Trees) (w : World) (c : Read db w) where
  -- ---- mailboxes

  row_same : (name : Name) (m : Mailbox) (s : _) (there : map.get w.mailboxes name ≡ Some m) (o : Owner db w c name m s)
      → row_of_mailbox name m (id db w c name) ≡ mailbox_row s.id (string_bytes s.key.tree) (string_bytes s.key.path) s.validity s.uidnext s.shared
  row_same name m s there o =
      let validity = o.is.validity ∙ o.for_it.validity in
      let next = o.is.messages.next ∙ o.for_it.messages.next in
      let shared = ap pos o.is.messages.shared ∙ o.for_it.messages.shared in
      λ i. mailbox_row (id_is db w c name m s there o i) (tree_is db w c name m s o i) (path_is db w c name m s o i) (validity i) (next i) (shared i)

  mailboxes_to : (row : Row) → Has (db 0) row → MailboxOf w (id db w c) row
  mailboxes_to row h =
      let s = (mailbox_rows db c.rows).to row h in
      let o = owned db w c s.0 s.1 in
      record { name = o.name; mailbox = o.mailbox; there = o.there; shown = mailbox_is db c.rows row h s.0 s.2 ∙ sym (row_same o.name o.mailbox s.0 o.there o.by) }

  mailboxes_from : (row : Row) → MailboxOf w (id db w c) row → Has (db 0) row
  mailboxes_from row it =
      let o = owner db w c it.name it.mailbox it.there in
      let r = (mailbox_rows db c.rows).from o.0 o.1.listed in
      subst (Has (db 0)) (mailbox_is db c.rows r.0 r.1 o.0 r.2 ∙ sym (row_same it.name it.mailbox o.0 it.there o.1) ∙ sym it.shown) r.1

  -- ---- used UIDVALIDITYs

  pub epoch_parts : Match IsEpochFor c.rows.t.epochs.items c.parts.epochs.items
  epoch_parts = zip_match IsEpochFor c.rows.t.epochs.items c.parts.epochs.items c.restored.epochs

  pub epoch_read : (name : Name) (greatest : ℕ) → map.get w.epochs name ≡ Some greatest → (x : StoredEpoch) × Has c.rows.t.epochs.items x × IsEpochFor x (name, greatest)
  epoch_read name greatest is =
      epoch_parts.from (name, greatest) (has_moved (map.entries w.epochs) c.parts.epochs.items (IsPermutation-sym c.parts.epochs.items (map.entries w.epochs) c.stand.epochs) (name, greatest)
      (get_entry name_cmp name_total name_antisymmetric is_name_at-same w.epochs name greatest is))

  epoch_same : (x : StoredEpoch) (e : Name × ℕ) → IsEpochFor x e → epoch_values e.0 e.1 ≡ Words (string_bytes x.key.tree) ∷ Words (string_bytes x.key.path) ∷ Int (pos x.greatest) ∷ []
  epoch_same x e is = λ i. Words (is.0.0 i) ∷ Words (is.0.1 i) ∷ Int (pos (is.2 i)) ∷ []

  epochs_stand : AreRows (db 10) (EpochOf w.epochs)
  epochs_stand = record {
    sound = λ row h.
        let x = (epoch_rows db c.rows).to row h in
        let form = epoch_is db c.rows row h x.0 x.2 in
        let e = epoch_parts.to x.0 x.1 in
        record {
          rowid = x.0.rowid;
          values = epoch_values e.0.0 e.0.1;
          shown = form ∙ ap (λ v. Int x.0.rowid ∷ v) (sym (epoch_same x.0 e.0 e.2));
          meant = record {
            name = e.0.0;
            greatest = e.0.1;
            there = entry_get name_cmp name_total name_antisymmetric is_name_at-same w.epochs e.0 (has_moved c.parts.epochs.items (map.entries w.epochs) c.stand.epochs e.0 e.1);
            shown = refl;
          };
        };
    complete = λ values e.
        let x = epoch_read e.name e.greatest e.there in
        let row = (epoch_rows db c.rows).from x.0 x.1 in
        let form = epoch_is db c.rows row.0 row.1 x.0 row.2 in
        (x.0.rowid, subst (Has (db 10)) (form ∙ ap (λ v. Int x.0.rowid ∷ v) (sym (epoch_same x.0 (e.name, e.greatest) x.2) ∙ sym e.shown)) row.1);
  }

  -- ---- subscriptions

  pub sub_parts : Match IsSubscriptionFor c.rows.t.subscriptions.items c.parts.subscriptions.items
  sub_parts = zip_match IsSubscriptionFor c.rows.t.subscriptions.items c.parts.subscriptions.items c.restored.subscriptions

  pub sub_read : (user : List ℕ) (name : Name) → map.contains_key (subscribed_by w user) name ≡ true
      → (x : StoredSubscription) × Has c.rows.t.subscriptions.items x × IsSubscriptionFor x (record { user = user; name = name })
  sub_read user name there =
      let p = is_subscription user name in
      let one : 0 < count_by p c.parts.subscriptions.items = subst (λ n. 0 < n) (sym (c.stand.subscriptions user name ∙ ap (λ b. cond b 1 0) there)) (omega (arith)) in
      let y = found p c.parts.subscriptions.items one in
      let both = and_parts (bytes_eq user y.0.user) (is_name_at name y.0.name) y.2 in
      let users = (bytes_eq-Decides user y.0.user).0 both.0 in
      let names = equal_names name y.0.name both.1 in
      let same : y.0 ≡ record { user = user; name = name } = λ i. record { user = sym users i; name = sym names i } in
      let x = sub_parts.from y.0 y.1 in
      (x.0, x.1, subst (IsSubscriptionFor x.0) same x.2)

  sub_same : (x : StoredSubscription) (y : Subscription) → IsSubscriptionFor x y
      → subscription_values y.user y.name ≡ Words (string_bytes x.user) ∷ Words (string_bytes x.key.tree) ∷ Words (string_bytes x.key.path) ∷ []
  sub_same x y is = λ i. Words (is.2 i) ∷ Words (is.0.0 i) ∷ Words (is.0.1 i) ∷ []

  subscriptions_stand : AreRows (db 12) (SubscriptionOf w)
  subscriptions_stand = record {
    sound = λ row h.
        let x = (sub_rows db c.rows).to row h in
        let form = sub_is db c.rows row h x.0 x.2 in
        let y = sub_parts.to x.0 x.1 in
        let p = is_subscription y.0.user y.0.name in
        let passes : p y.0 ≡ true = and_from (bytes_eq y.0.user y.0.user) (is_name_at y.0.name y.0.name) ((bytes_eq-Decides y.0.user y.0.user).1 refl) (is_name_at-same y.0.name) in
        record {
          rowid = x.0.rowid;
          values = subscription_values y.0.user y.0.name;
          shown = form ∙ ap (λ v. Int x.0.rowid ∷ v) (sym (sub_same x.0 y.0 y.2));
          meant = record {
            user = y.0.user;
            name = y.0.name;
            there = if_one _ (subst (λ n. 0 < n) (c.stand.subscriptions y.0.user y.0.name) (counted p c.parts.subscriptions.items y.0 y.1 passes));
            shown = refl;
          };
        };
    complete = λ values e.
        let x = sub_read e.user e.name e.there in
        let row = (sub_rows db c.rows).from x.0 x.1 in
        let form = sub_is db c.rows row.0 row.1 x.0 row.2 in
        (x.0.rowid, subst (Has (db 12)) (form ∙ ap (λ v. Int x.0.rowid ∷ v) (sym (sub_same x.0 (record { user = e.user; name = e.name }) x.2) ∙ sym e.shown)) row.1);
  }

  -- ---- all

  names_are : AreNames w
  names_are = record {
    mailboxes = λ name m there. let o = owner db w c name m there in name_is db w c name m o.0 o.1;
    epochs = λ name greatest there. (epoch_read name greatest there).2.1;
    subscriptions = λ user name there. (sub_read user name there).2.1;
  }

  children_stand : (child : Child) → AreRows (db (tree_of child)) (IsUnder w (id db w c) (kept db w c) child)
  children_stand entries = entries_stand db w c (kept db w c)
  children_stand messages = messages_stand db w c (kept db w c)
  children_stand gone = gone_stand db w c (kept db w c)
  children_stand marks = marks_stand db w c

  pub tables_stand : StandFor db w
  tables_stand = record {
    id = id db w c;
    kept = kept db w c;
    apart = ids_apart db w c;
    named = names_are;
    found = all_found db w c;
    mailboxes = λ row. (mailboxes_to row, mailboxes_from row);
    below = children_stand;
    epochs = epochs_stand;
    subscriptions = subscriptions_stand;
  }
