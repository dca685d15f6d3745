-- New tables.
use Rattle.std.proofs.Common.{◌≡◌, ℕ, pos, true, List, [], Some, is_some, sym, ap, subst, ◌∙◌, true≢false}
use Rattle.std.specs.Cmp.Lexicographic.{slice_cmp}
use Rattle.std.specs.Ordering.{nat_cmp}
use Rattle.std.specs.FinMap as map
use Rattle.std.specs.FinMap.{get-empty}
use Rattle.sqlite.specs.Order.{Row}
use Rattle.sqlite_rules.specs.Lists.{Has}
use Rattle.imap_names.specs.Name.{Name}
use Rattle.imap_names.specs.Order.{Names, name_cmp}
use Rattle.imap_world.specs.Mailbox.{Mailbox}
use Rattle.imap_world.specs.World.{World, set_of, subscribed_by}
use Rattle.imap_records.specs.Laws.{NewStoresStand}
use Rattle.imap_records.specs.Standing.{AreRows, Child, IsEpoch, IsSubscription, IsUnder, tree_of}
use Rattle.imap_records.specs.Standing.{entries, messages, gone, marks}

-- a table without rows
no_rows : (rows : List Row) (P : Row → Type 0) → rows ≡ [] → ((v : Row) → P v → ⊥) → AreRows rows P
no_rows rows P none never = record {
  sound = λ row has. absurd (subst (λ (l : List Row). Has l row) none has);
  complete = λ v p. absurd (never v p);
}

none_there : {X : Type 0} (m : Names X) (q : Name) (x : X) → m ≡ map.empty → map.get m q ≡ Some x → ⊥
none_there m q x e is = cc (sym (get-empty name_cmp q) ∙ ap (λ n. map.get n q) (sym e) ∙ is)

module _ (world : World) (mailboxes : world.mailboxes ≡ map.empty) (epochs : world.epochs ≡ map.empty) (subscriptions : world.subscriptions ≡ map.empty) where
  no_mailbox : (q : Name) (m : Mailbox) → map.get world.mailboxes q ≡ Some m → ⊥
  no_mailbox q m is = none_there world.mailboxes q m mailboxes is

  no_epoch : (q : Name) (n : ℕ) → map.get world.epochs q ≡ Some n → ⊥
  no_epoch q n is = none_there world.epochs q n epochs is

  no_names : (user : List ℕ) (q : Name) → map.contains_key (subscribed_by world user) q ≡ true → ⊥
  no_names user q is =
      true≢false (sym is ∙ ap (λ s. map.contains_key (set_of (map.get s user)) q) subscriptions ∙ ap (λ o. map.contains_key (set_of o) q) (get-empty (slice_cmp nat_cmp) user) ∙ ap is_some (get-empty name_cmp q))

pub new_stores_stand : NewStoresStand
new_stores_stand db world made mailboxes epochs subscriptions =
    let none = no_mailbox world mailboxes epochs subscriptions in
    let empty = made.empty in
    record {
      id = λ q. pos 0;
      kept = λ q user. [];
      found = λ q m is. absurd (none q m is);
      apart = λ a b m n ha hb same. absurd (none a m ha);
      named = record {
        mailboxes = λ q m is. absurd (none q m is);
        epochs = λ q n is. absurd (no_epoch world mailboxes epochs subscriptions q n is);
        subscriptions = λ user q is. absurd (no_names world mailboxes epochs subscriptions user q is);
      };
      mailboxes = λ row. (λ has. absurd (subst (λ (l : List Row). Has l row) empty.0 has), λ u. absurd (none u.name u.mailbox u.there));
      below = below;
      epochs = no_rows (db 10) (IsEpoch world.epochs) empty.1.1.1.1.1.0 (λ v e. no_epoch world mailboxes epochs subscriptions e.name e.greatest e.there);
      subscriptions = no_rows (db 12) (IsSubscription world) empty.1.1.1.1.1.1.0 (λ v s. no_names world mailboxes epochs subscriptions s.user s.name s.there);
    }
  where
    under : (child : Child) (v : Row) → IsUnder world (λ q. pos 0) (λ q user. []) child v → ⊥
    under child v u = no_mailbox world mailboxes epochs subscriptions u.name u.mailbox u.there

    below : (child : Child) → AreRows (db (tree_of child)) (IsUnder world (λ q. pos 0) (λ q user. []) child)
    below entries = no_rows (db 2) (IsUnder world (λ q. pos 0) (λ q user. []) entries) made.empty.1.0 (under entries)
    below messages = no_rows (db 4) (IsUnder world (λ q. pos 0) (λ q user. []) messages) made.empty.1.1.0 (under messages)
    below gone = no_rows (db 6) (IsUnder world (λ q. pos 0) (λ q user. []) gone) made.empty.1.1.1.0 (under gone)
    below marks = no_rows (db 8) (IsUnder world (λ q. pos 0) (λ q user. []) marks) made.empty.1.1.1.1.0 (under marks)
