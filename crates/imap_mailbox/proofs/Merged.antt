-- The own changes of a user after a change, and how many events the user sees.
use Rattle.std.proofs.Common.{◌≡◌, ◌≢◌, ℕ, ◌+◌, Bool, true, false, cond, List, [], ◌∷◌, ◌++◌, length, map, Option, Some, None, unwrap_or, option_map, refl, sym, ap, ◌∙◌}
use Rattle.std.proofs.lemmas.List.{length-map}
use Rattle.std.specs.FinMap as fin
use Rattle.std.specs.Cmp.Lexicographic.{nat_list_cmp_total}
use Rattle.std.proofs.lemmas.Map.Text.{is_eq-slice_cmp}
use Rattle.std.proofs.lemmas.Slice.Eq.{bytes_eq-Decides}
use Rattle.imap_user_map.specs.Rows.{Users}
use Rattle.imap_user_map.proofs.Changed.{get-map_values}
use Rattle.imap_user_map.proofs.Entries.{same_answers}
use Rattle.imap_mailbox.proofs.Values.{same_bytes, get_set}
use Rattle.imap_mailbox.proofs.Changes.{found_more}
use Rattle.imap_modseq.proofs.Merge.{length-merge_from}
use Rattle.imap_mailbox.specs.declared.own.SeenChange.{SeenChange}
use Rattle.imap_mailbox.specs.Rows.{Shared}
use Rattle.imap_mailbox.specs.History.{History, changes_at, changes_with, own_entry, events_of}
use Rattle.imap_mailbox.specs.Own.{Own, no_own, own_at, found_in, numbered, with_change}
use Rattle.imap_mailbox.specs.Summary.{found_of, own_with}

pub length-events_of : (history : History) (user : List ℕ) → length (events_of history user) ≡ length history.shared + length (changes_at history.own user)
length-events_of history user = length-merge_from 0 (map Shared history.shared) (map own_entry (changes_at history.own user)) ∙ (λ i. length-map history.shared Shared i + length-map (changes_at history.own user) own_entry i)

-- what a user has of a map that has another value at one name
module _ {X : Type 0} (none : X) (m : Users X) (k : List ℕ) (v : X) where
  value_same : unwrap_or (fin.get (fin.insert m k v) k) none ≡ v
  value_same = ap (λ o. unwrap_or o none) (get_set m k v)

  value_other : (user : List ℕ) → user ≢ k → unwrap_or (fin.get (fin.insert m k v) user) none ≡ unwrap_or (fin.get m user) none
  value_other user apart = ap (λ o. unwrap_or o none) (fin.get-insert nat_list_cmp_total m k v user) ∙ by (same_bytes user k) refl
    where
      by : (b : Bool) → same_bytes user k ≡ b → unwrap_or (cond b (Some v) (fin.get m user)) none ≡ unwrap_or (fin.get m user) none
      by true is = absurd (apart ((bytes_eq-Decides user k).0 (sym (is_eq-slice_cmp user k) ∙ is)))
      by false is = refl

pub changes_at-same : (own : Users (List SeenChange)) (user : List ℕ) (n uid : ℕ) (seen : Bool) → changes_at (changes_with own user n uid seen) user ≡ changes_at own user ++ record { before = n; uid = uid; seen = seen } ∷ []
changes_at-same own user n uid seen = value_same [] own user (changes_at own user ++ record { before = n; uid = uid; seen = seen } ∷ [])

pub changes_at-other : (own : Users (List SeenChange)) (user other : List ℕ) (n uid : ℕ) (seen : Bool) → user ≢ other → changes_at (changes_with own other n uid seen) user ≡ changes_at own user
changes_at-other own user other n uid seen apart = value_other [] own other (changes_at own other ++ record { before = n; uid = uid; seen = seen } ∷ []) user apart

pub own_at-put : (own : Users Own) (user : List ℕ) (o : Own) → own_at (fin.insert own user o) user ≡ o
own_at-put own user o = value_same no_own own user o

pub own_at-apart : (own : Users Own) (user other : List ℕ) (o : Own) → user ≢ other → own_at (fin.insert own other o) user ≡ own_at own user
own_at-apart own user other o apart = value_other no_own own other o user apart

pub own_at-same : (own : Users Own) (user : List ℕ) (n uid : ℕ) (seen : Bool) → own_at (own_with own user n uid seen) user ≡ with_change (record { before = n; uid = uid; seen = seen }) (own_at own user)
own_at-same own user n uid seen = own_at-put own user (with_change (record { before = n; uid = uid; seen = seen }) (own_at own user))

pub own_at-other : (own : Users Own) (user other : List ℕ) (n uid : ℕ) (seen : Bool) → user ≢ other → own_at (own_with own other n uid seen) user ≡ own_at own user
own_at-other own user other n uid seen apart = own_at-apart own user other (with_change (record { before = n; uid = uid; seen = seen }) (own_at own other)) apart

-- ---- what is found of all changes

abbrev found : List SeenChange → Own
found changes = found_in (numbered 0 changes)

pub own_at-found : (own : Users (List SeenChange)) (user : List ℕ) → own_at (found_of own) user ≡ found_in (numbered 0 (changes_at own user))
own_at-found own user = ap (λ o. unwrap_or o no_own) (get-map_values found own user) ∙ by (fin.get own user)
  where
    by : (o : Option (List SeenChange)) → unwrap_or (option_map found o) no_own ≡ found (unwrap_or o [])
    by None = refl
    by (Some l) = refl

pub found_with : (own : Users (List SeenChange)) (user : List ℕ) (n uid : ℕ) (seen : Bool) → found_of (changes_with own user n uid seen) ≡ own_with (found_of own) user n uid seen
found_with own user n uid seen = same_answers _ _ (λ q.
    get-map_values found (changes_with own user n uid seen) q
    ∙ ap (option_map found) (fin.get-insert nat_list_cmp_total own user more q)
    ∙ moved q (same_bytes q user)
    ∙ (λ i. cond (same_bytes q user) (Some (same i)) (sym (get-map_values found own q) i))
    ∙ sym (fin.get-insert nat_list_cmp_total (found_of own) user (with_change change (own_at (found_of own) user)) q))
  where
    change : SeenChange
    change = record { before = n; uid = uid; seen = seen }

    more : List SeenChange
    more = changes_at own user ++ change ∷ []

    same : found more ≡ with_change change (own_at (found_of own) user)
    same = found_more (changes_at own user) change ∙ ap (with_change change) (sym (own_at-found own user))

    moved : (q : List ℕ) (b : Bool) → option_map found (cond b (Some more) (fin.get own q)) ≡ cond b (Some (found more)) (option_map found (fin.get own q))
    moved q true = refl
    moved q false = refl

pub found_empty : found_of fin.empty ≡ fin.empty
found_empty = same_answers _ _ (λ q. get-map_values found fin.empty q ∙ ap (option_map found) (fin.get-empty _ q) ∙ sym (fin.get-empty _ q))
