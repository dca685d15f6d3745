-- Rows that are taken from the end of a table, mailbox by mailbox.
use Rattle.std.proofs.Common.{◌≡◌, ◌≢◌, ◌++◌, ◌+◌, ℤ, List, [], ◌∷◌, Bool, true, false, cond, get_or, is_lt, map, append-nil, arith, ap, inl, inr, refl, subst, sym, ◌∙◌}
use Rattle.std.specs.List.{AllByRecursion, IsDistinct}
use Rattle.std.specs.List.Sorted.{IsSortedByKey}
use Rattle.std.specs.Ordering.{eq_by_cmp, int_cmp, int_eq}
use Rattle.std.proofs.lemmas.Bool.Decides.{Decides-int_eq}
use Rattle.std.proofs.lemmas.List.{get_or_append_left, length-append}
use Rattle.std.proofs.lemmas.List.Elements.{filter-append}
use Rattle.sqlite_rules.specs.Lists.{Has}
use Rattle.sqlite_rules.proofs.ListLemmas.{has_left, has_right}
use Rattle.imap_tables.specs.Contents.{AreNumbersApart}
use Rattle.imap_restore.specs.Parts.{AreGrouped, AreInGroups, AreLeft, HasMailboxOf, IsMailboxOf, LeavesOthers, below}
use Rattle.imap_restore.specs.declared.parts.MailboxWithOwn.{MailboxWithOwn}
use Rattle.imap_restore.specs.declared.parts.RowsBelow.{RowsBelow}
use Rattle.imap_world.specs.declared.world_parts.MailboxRow.{MailboxRow}
use Rattle.imap_restore.proofs.Listed.{differs}

-- ---- the last row is taken

module _ {X : Type 0} (m : X → ℤ) where
  front_sorted : (xs : List X) (x : X) → IsSortedByKey m int_cmp (xs ++ x ∷ []) → IsSortedByKey m int_cmp xs
  front_sorted xs x up k d low high =
      let after = get_or_append_left xs (x ∷ []) d (k + 1) high in
      let before = get_or_append_left xs (x ∷ []) d k (omega (arith, high)) in
      sym (ap (λ y. is_lt (int_cmp (m y) (m (get_or (xs ++ x ∷ []) k d)))) after ∙ ap (λ y. is_lt (int_cmp (m (get_or xs (k + 1) d)) (m y))) before)
      ∙ up k d low (omega (arith, high, length-append xs (x ∷ [])))

  of_another : (x : X) (id other : ℤ) → int_eq (m x) id ≡ true → other ≢ id → int_eq (m x) other ≡ false
  of_another x id other is off = by (int_eq (m x) other) refl
    where
      by : (b : Bool) → int_eq (m x) other ≡ b → int_eq (m x) other ≡ false
      by true e = absurd (off (sym ((Decides-int_eq (m x) other).0 e) ∙ (Decides-int_eq (m x) id).0 is))
      by false e = e

  others_stay : (xs : List X) (x : X) (id other : ℤ) → int_eq (m x) id ≡ true → other ≢ id → below m other xs ≡ below m other (xs ++ x ∷ [])
  others_stay xs x id other is off =
      sym (filter-append (λ r. int_eq (m r) other) xs (x ∷ []) ∙ ap (λ b. below m other xs ++ cond b (x ∷ []) []) (of_another x id other is off) ∙ append-nil (below m other xs))

  pub leaves_start : (id : ℤ) (rows : List X) → LeavesOthers m id rows rows
  leaves_start id rows = record { grouped = λ up. up; others = λ other off. refl }

  pub leaves_next : (id : ℤ) (rows old new : List X) (x : X) → old ≡ new ++ x ∷ [] → int_eq (m x) id ≡ true → LeavesOthers m id rows old → LeavesOthers m id rows new
  leaves_next id rows old new x e is h = record {
    grouped = λ up. front_sorted new x (subst (IsSortedByKey m int_cmp) e (h.grouped up));
    others = λ other off. others_stay new x id other is off ∙ ap (below m other) (sym e) ∙ h.others other off;
  }

  -- the row is the first that is left of those of its mailbox, in a table that is turned round
  pub first_below : (id : ℤ) (left rest : List X) (x : X) → left ≡ x ∷ rest → int_eq (m x) id ≡ true → below m id left ≡ x ∷ below m id rest
  first_below id left rest x e is = ap (below m id) e ∙ ap (λ b. cond b (x ∷ below m id rest) (below m id rest)) is

-- ---- mailbox by mailbox

all_front : {B : Type 0} (id : B → ℤ) (n : ℤ) (xs : List B) (x : B) → AllByRecursion (λ k. eq_by_cmp int_cmp n k ≡ false) (map id (xs ++ x ∷ [])) → AllByRecursion (λ k. eq_by_cmp int_cmp n k ≡ false) (map id xs)
all_front id n [] x h = tt
all_front id n (y ∷ ys) x h = (h.0, all_front id n ys x h.1)

front_apart : {B : Type 0} (id : B → ℤ) (xs : List B) (x : B) → AreNumbersApart (map id (xs ++ x ∷ [])) → AreNumbersApart (map id xs)
unfolding IsDistinct
front_apart id [] x h = tt
front_apart id (y ∷ ys) x h = (all_front id (id y) ys x h.0, front_apart id ys x h.1)

last_apart : {B : Type 0} (id : B → ℤ) (xs : List B) (x : B) → AreNumbersApart (map id (xs ++ x ∷ [])) → (y : B) → Has xs y → id y ≢ id x
unfolding IsDistinct
last_apart id [] x h y has e = absurd has
last_apart id (z ∷ zs) x h y (inl same) e = differs id z (zs ++ x ∷ []) x h.0 (has_right zs (x ∷ []) x (inl refl)) (ap id (sym same) ∙ e)
last_apart id (z ∷ zs) x h y (inr later) e = last_apart id zs x h.1 y later e

-- the rows of the mailboxes with these ids, of which no two are one, are left
pub record AreStillThere {X B : Type 0} (m : X → ℤ) (id : B → ℤ) (rows : List X) (boxes : List B)
    (left : List X) : Type 0 where
  pub grouped : AreGrouped m left
  pub apart : AreNumbersApart (map id boxes)
  pub same : (b : B) → Has boxes b → below m (id b) left ≡ below m (id b) rows

module _ {X B : Type 0} (m : X → ℤ) (id : B → ℤ) (rows : List X) where
  pub still_start : (boxes : List B) → AreGrouped m rows → AreNumbersApart (map id boxes) → AreStillThere m id rows boxes rows
  still_start boxes grouped apart = record { grouped = grouped; apart = apart; same = λ b has. refl }

  pub still_next : (boxes rest : List B) (b : B) (left next : List X) → boxes ≡ rest ++ b ∷ [] → LeavesOthers m (id b) left next → AreStillThere m id rows boxes left → AreStillThere m id rows rest next
  still_next boxes rest b left next e leaves h =
      let apart : AreNumbersApart (map id (rest ++ b ∷ [])) = subst (λ l. AreNumbersApart (map id l)) e h.apart in
      record {
        grouped = leaves.grouped h.grouped;
        apart = front_apart id rest b apart;
        same = λ other has. leaves.others (id other) (last_apart id rest b apart other has) ∙ h.same other (subst (λ l. Has l other) (sym e) (has_left rest (b ∷ []) other has));
      }

  pub still_of : (boxes rest : List B) (b : B) (left : List X) → boxes ≡ rest ++ b ∷ [] → AreStillThere m id rows boxes left → below m (id b) left ≡ below m (id b) rows
  still_of boxes rest b left e h = h.same b (subst (λ l. Has l b) (sym e) (has_right rest (b ∷ []) b (inl refl)))

-- ---- all rows below mailboxes

pub groups_left : (id : ℤ) (rows left : RowsBelow) → AreInGroups rows → AreLeft id rows left → AreInGroups left
groups_left id rows left groups h = record {
  entries = subst (λ v. AreGrouped (λ r. r.mailbox) v.items) (sym h.entries) groups.entries;
  messages = h.messages.grouped groups.messages;
  gone = subst (λ v. AreGrouped (λ r. r.mailbox) v.items) (sym h.gone) groups.gone;
}

module _ (rows left : RowsBelow) (it : MailboxWithOwn) (entries : left.entries ≡ rows.entries) (gone : left.gone ≡ rows.gone)
    (messages : below (λ r. r.mailbox) it.stored.id left.messages.items ≡ below (λ r. r.mailbox) it.stored.id rows.messages.items) where
  pub mailbox_of_all : (row : MailboxRow) → IsMailboxOf left it row → IsMailboxOf rows it row
  mailbox_of_all row of t h = of t (record { entries = h.entries ∙ sym entries; messages = h.messages ∙ sym messages; gone = h.gone ∙ sym gone; changes = h.changes })

  pub has_mailbox_left : HasMailboxOf rows it → HasMailboxOf left it
  has_mailbox_left h = (h.0, record { entries = h.1.entries ∙ sym entries; messages = h.1.messages ∙ sym messages; gone = h.1.gone ∙ sym gone; changes = h.1.changes }, h.2)
