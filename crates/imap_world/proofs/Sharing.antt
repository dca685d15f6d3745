-- Mailboxes that are shared, one after the other.
use Rattle.std.proofs.Common.{◌≡◌, ℕ, ◌+◌, ◌<◌, ◌≤◌, suc, Bool, true, false, cond, not, ◌||◌, List, [], ◌∷◌, ◌++◌, length, get_or, take, map as map_list, Option, Some, None, is_some, refl, sym, ap, subst, ◌∙◌, arith}
use Rattle.std.proofs.Math.Seq.{take-suc}
use Rattle.std.proofs.lemmas.List.{get_or-map, length-map, take_all}
use Rattle.std.proofs.lemmas.List.Folds.{list_any-append}
use Rattle.std.specs.List.{list_any}
use Rattle.std.specs.FinMap as map
use Rattle.std.specs.FinMap.{find}
use Rattle.imap_names.specs.Name.{Name}
use Rattle.imap_names.specs.Order.{Names, name_cmp}
use Rattle.imap_names.proofs.NameLaws.{equal_names, get_put}
use Rattle.imap_world.specs.declared.mailbox_entry.MailboxEntry.{MailboxEntry}
use Rattle.imap_world.specs.Mailbox.{AreShared, Mailbox, is_shared, plain_all}
use Rattle.imap_world.specs.Messages.{is_same_name}
use Rattle.imap_world.proofs.Contents.{entries_plain, plain_entry}

-- the name is one of the first n of the mailboxes
abbrev pub is_first : Name → ℕ → Names Mailbox → Bool
is_first q n m = list_any (λ e. is_same_name q e.0) (take n (map.entries m))

-- ---- one mailbox

pub shared_put : (m : Names MailboxEntry) (name : Name) (after : MailboxEntry) → after.messages.is_own ≡ false
    → (q : Name) → is_shared (map.get (map.insert m name after) q) ≡ (is_same_name q name || is_shared (map.get m q))
shared_put m name after shared q = ap is_shared (get_put m name after q) ∙ by (is_same_name q name)
  where
    by : (b : Bool) → is_shared (cond b (Some after) (map.get m q)) ≡ (b || is_shared (map.get m q))
    by true = ap not shared
    by false = refl

pub shared_absent : (m : Names MailboxEntry) (name : Name) → map.get m name ≡ None
    → (q : Name) → is_shared (map.get m q) ≡ (is_same_name q name || is_shared (map.get m q))
shared_absent m name absent q = by (is_same_name q name) refl
  where
    by : (b : Bool) → is_same_name q name ≡ b → is_shared (map.get m q) ≡ (b || is_shared (map.get m q))
    by true same = ap (λ n. is_shared (map.get m n)) (equal_names q name same) ∙ ap is_shared absent
    by false other = refl

-- ---- the first of them, and all

module _ (m : Names MailboxEntry) (all : Names Mailbox) (are : plain_all m ≡ all) where
  entries_are : map.entries all ≡ map_list plain_entry (map.entries m)
  entries_are = ap map.entries (sym are) ∙ entries_plain m

  name_of_entry : (i : ℕ) (d : Name × MailboxEntry) → i < length (map.entries m) → (get_or (map.entries all) i (plain_entry d)).0 ≡ (get_or (map.entries m) i d).0
  name_of_entry i d lt = ap (λ es. (get_or es i (plain_entry d)).0) entries_are ∙ ap (λ (e : Name × Mailbox). e.0) (get_or-map plain_entry (map.entries m) i d (plain_entry d) lt)

  first_next : (q : Name) (i : ℕ) (d : Name × MailboxEntry) → i < length (map.entries m)
      → is_first q (i + 1) all ≡ (is_first q i all || is_same_name q (get_or (map.entries m) i d).0)
  first_next q i d lt =
      let among : List (Name × Mailbox) → Bool = list_any (λ e. is_same_name q e.0) in
      let more : i < length (map.entries all) = subst (λ (es : List (Name × Mailbox)). i < length es) (sym entries_are) (subst (λ n. i < n) (sym (length-map (map.entries m) plain_entry)) lt) in
      let one : i + 1 ≡ suc i = omega arith in
      ap (λ n. among (take n (map.entries all))) one
      ∙ ap among (take-suc (map.entries all) i (plain_entry d) more)
      ∙ list_any-append (λ e. is_same_name q e.0) (take i (map.entries all)) (get_or (map.entries all) i (plain_entry d) ∷ [])
      ∙ ap (λ b. is_first q i all || b) (last (is_same_name q (get_or (map.entries all) i (plain_entry d)).0) ∙ ap (is_same_name q) (name_of_entry i d lt))
    where
      last : (b : Bool) → (b || false) ≡ b
      last true = refl
      last false = refl

  pub shared_next : (n : Names MailboxEntry) (i : ℕ) (d : Name × MailboxEntry) (name : Name) → i < length (map.entries m) → name ≡ (get_or (map.entries m) i d).0
      → ((q : Name) → is_first q i all ≡ true → is_shared (map.get m q) ≡ true)
      → ((q : Name) → is_shared (map.get n q) ≡ (is_same_name q name || is_shared (map.get m q)))
      → (q : Name) → is_first q (i + 1) all ≡ true → is_shared (map.get n q) ≡ true
  shared_next n i d name lt at before after q first =
      after q ∙ by (is_first q i all) (is_same_name q name) refl (sym (first_next q i d lt ∙ ap (λ x. is_first q i all || is_same_name q x) (sym at)) ∙ first)
    where
      by : (a b : Bool) → is_first q i all ≡ a → (is_first q i all || b) ≡ true → (b || is_shared (map.get m q)) ≡ true
      by a true is e = refl
      by true false is e = before q is
      by false false is e = absurd (cc (sym (ap (λ x. x || false) is) ∙ e))

  pub shared_all : (i : ℕ) → length (map.entries m) ≤ i → ((q : Name) → is_first q i all ≡ true → is_shared (map.get m q) ≡ true) → AreShared m
  shared_all i most before q = by (list_any (λ e. is_same_name q e.0) (map.entries m)) refl
    where
      names : (es : List (Name × MailboxEntry)) → list_any (λ e. is_same_name q e.0) (map_list plain_entry es) ≡ list_any (λ e. is_same_name q e.0) es
      names [] = refl
      names (e ∷ es) = ap (λ b. is_same_name q e.0 || b) (names es)

      none : (es : List (Name × MailboxEntry)) → list_any (λ e. is_same_name q e.0) es ≡ false → find name_cmp q es ≡ None
      none [] h = refl
      none (e ∷ es) h = at (is_same_name q e.0) h (none es)
        where
          at : (b : Bool) → (b || list_any (λ e. is_same_name q e.0) es) ≡ false → (list_any (λ e. is_same_name q e.0) es ≡ false → find name_cmp q es ≡ None) → cond b (Some e.1) (find name_cmp q es) ≡ None
          at true h rest = absurd (cc h)
          at false h rest = rest h

      by : (b : Bool) → list_any (λ e. is_same_name q e.0) (map.entries m) ≡ b → is_shared (map.get m q) ≡ true
      by true h =
          let enough : length (map.entries all) ≤ i = subst (λ n. n ≤ i) (sym (ap length entries_are ∙ length-map (map.entries m) plain_entry)) most in
          before q (ap (list_any (λ e. is_same_name q e.0)) (take_all i (map.entries all) enough ∙ entries_are) ∙ names (map.entries m) ∙ h)
      by false h = ap is_shared (map.get-entries m q ∙ none (map.entries m) h)
