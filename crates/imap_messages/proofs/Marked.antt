-- Marks of messages that are read, in the order of UIDs.
use Rattle.std.proofs.Common.{◌≡◌, ℕ, ◌+◌, ◌<◌, ◌≤◌, Bool, true, false, cond, ◌||◌, ◌&&◌, not, List, [], ◌∷◌, ◌++◌, filter, map, eqb, Option, Some, None, refl, sym, ap, subst, ◌∙◌, arith}
use Rattle.std.specs.List.{list_any}
use Rattle.std.proofs.lemmas.Bool.{ne_eqb, eqb-true, eq-eqb}
use Rattle.imap_batch.specs.declared.batch.FlagUpdate.{FlagUpdate}
use Rattle.imap_mailbox.specs.Lent.{row_uids}
use Rattle.imap_mailbox.specs.Rows.{Row}
use Rattle.imap_mailbox.specs.Summary.{Rises}
use Rattle.imap_mailbox.proofs.Rising.{rises_lower}
use Rattle.imap_names.specs.Name.{Name}
use Rattle.imap_messages.specs.Fetched.{Wanted}
use Rattle.imap_messages.specs.Found.{marks_named}
use Rattle.imap_targets.specs.declared.message_numbers.Numbered.{Numbered}
use Rattle.imap_targets.specs.MessageNumbers.{row_with, uids_of}
use Rattle.imap_targets.proofs.Named.{row_below}
use Rattle.imap_messages.specs.Reading.{count_after, is_set, is_unread, marks_if_there, read_effect, seen_mark, seen_marks, uid_told, uids_told}
use Rattle.imap_targets.specs.Effects.{marking_effect}

-- ---- one message that is named before others, whose UIDs are greater

turned : (a b : ℕ) → eqb a b ≡ eqb b a
turned a b = by (eqb b a) refl
  where
    by : (x : Bool) → eqb b a ≡ x → eqb a b ≡ x
    by true e = eq-eqb a b (sym (eqb-true b a e))
    by false e = ne_eqb a b (λ same. absurd (cc (sym e ∙ eq-eqb b a (sym same))))

abbrev names_uid : ℕ → List Numbered → Bool
names_uid uid messages = list_any (λ (m : Numbered). eqb m.uid uid) messages

above : (uid low high : ℕ) (messages : List Numbered) → Rises low high (uids_of messages) → names_uid uid messages ≡ true → low ≤ uid
above uid low high [] h e = absurd (cc e)
above uid low high (m ∷ messages) h e = by (eqb m.uid uid) refl e (above uid (m.uid + 1) high messages h.1)
  where
    by : (x : Bool) → eqb m.uid uid ≡ x → x || names_uid uid messages ≡ true → (names_uid uid messages ≡ true → m.uid + 1 ≤ uid) → low ≤ uid
    by true is e later = let at : low ≤ m.uid = h.0 in let same = eqb-true m.uid uid is in omega (arith, at, same)
    by false is e later = let at : low ≤ m.uid = h.0 in let rest = later e in omega (arith, at, rest)

second : (seen x : Bool) → (not seen && x) ≡ true → x ≡ true
second true x e = absurd (cc e)
second false x e = e

module _ (m : Numbered) (messages : List Numbered) where
  -- a row that isn't the message
  other : (r : Row) → eqb m.uid r.uid ≡ false → is_unread (m ∷ messages) r ≡ is_unread messages r
  other r e = ap (λ b. not r.seen && (b || names_uid r.uid messages)) e

  others : (low high : ℕ) (rows : List Row) → m.uid < low → Rises low high (row_uids rows) → filter (is_unread (m ∷ messages)) rows ≡ filter (is_unread messages) rows
  others low high [] lt h = refl
  others low high (r ∷ rows) lt h =
      let at : low ≤ r.uid = h.0 in
      let rest = others (r.uid + 1) high rows (omega (arith, at, lt)) h.1 in
      let same = other r (ne_eqb m.uid r.uid (λ e. omega (arith, e, at, lt))) in
      λ j. cond (same j) (r ∷ rest j) (rest j)

  module _ (top high : ℕ) (up : Rises (m.uid + 1) top (uids_of messages)) (r : Row) (rows : List Row) (h : Rises (r.uid + 1) high (row_uids rows)) where
    abbrev marks : Bool → List Numbered → List FlagUpdate
    marks b ms = map seen_mark (cond b (r ∷ filter (is_unread ms) rows) (filter (is_unread ms) rows))

    unnamed : m.uid ≡ r.uid → (x : Bool) → names_uid r.uid messages ≡ x → x ≡ false
    unnamed same true e = let le = above r.uid (m.uid + 1) top messages up e in absurd (omega (arith, same, le))
    unnamed same false e = refl

    here : (seen x : Bool) → x ≡ false → marks (not seen && true) messages ≡ cond (not seen) (seen_mark r ∷ []) [] ++ marks (not seen && x) messages
    here true x none = refl
    here false true none = absurd (cc none)
    here false false none = refl

    there : (b : Bool) → is_unread messages r ≡ b → seen_marks (m ∷ messages) rows ≡ marks_if_there true (row_with m.uid rows) ++ seen_marks messages rows
        → marks b (m ∷ messages) ≡ marks_if_there true (row_with m.uid rows) ++ marks b messages
    there false e later = later
    there true e later =
        let le = above r.uid (m.uid + 1) top messages up (second r.seen (names_uid r.uid messages) e) in
        let none : marks_if_there true (row_with m.uid rows) ≡ [] = ap (marks_if_there true) (row_below m.uid (r.uid + 1) high rows (omega (arith, le)) h) in
        ap (λ ms. seen_mark r ∷ ms) (later ∙ ap (λ ms. ms ++ seen_marks messages rows) none) ∙ ap (λ ms. ms ++ (seen_mark r ∷ seen_marks messages rows)) (sym none)

    by_row : (b : Bool) → eqb r.uid m.uid ≡ b → seen_marks (m ∷ messages) rows ≡ marks_if_there true (row_with m.uid rows) ++ seen_marks messages rows
        → seen_marks (m ∷ messages) (r ∷ rows) ≡ marks_if_there true (cond b (Some r) (row_with m.uid rows)) ++ seen_marks messages (r ∷ rows)
    by_row true e later =
        let same : m.uid ≡ r.uid = sym (eqb-true r.uid m.uid e) in
        let rest = others (r.uid + 1) high rows (omega (arith, same)) h in
        (λ j. map seen_mark (cond (not r.seen && (eq-eqb m.uid r.uid same j || names_uid r.uid messages)) (r ∷ rest j) (rest j)))
        ∙ here r.seen (names_uid r.uid messages) (unnamed same (names_uid r.uid messages) refl)
    by_row false e later =
        ap (λ b. marks b (m ∷ messages)) (other r (turned m.uid r.uid ∙ e)) ∙ there (is_unread messages r) refl later

  one_first : (top low high : ℕ) (rows : List Row) → Rises (m.uid + 1) top (uids_of messages) → Rises low high (row_uids rows)
      → seen_marks (m ∷ messages) rows ≡ marks_if_there true (row_with m.uid rows) ++ seen_marks messages rows
  one_first top low high [] up h = refl
  one_first top low high (r ∷ rows) up h = by_row top high up r rows h.1 (eqb r.uid m.uid) refl (one_first top (r.uid + 1) high rows up h.1)

-- ---- all messages

none_unread : (rows : List Row) → seen_marks [] rows ≡ []
none_unread [] = refl
none_unread (r ∷ rows) = by r.seen (none_unread rows)
  where
    by : (b : Bool) → seen_marks [] rows ≡ [] → map seen_mark (cond (not b && false) (r ∷ filter (is_unread []) rows) (filter (is_unread []) rows)) ≡ []
    by true e = e
    by false e = e

pub marks_are : (top low high less : ℕ) (messages : List Numbered) (rows : List Row) → Rises less top (uids_of messages) → Rises low high (row_uids rows) → marks_named true rows messages ≡ seen_marks messages rows
marks_are top low high less [] rows up h = sym (none_unread rows)
marks_are top low high less (m ∷ messages) rows up h =
    ap (λ ms. marks_if_there true (row_with m.uid rows) ++ ms) (marks_are top low high (m.uid + 1) messages rows up.1 h) ∙ sym (one_first m messages top low high rows up.1 h)

no_marks : (rows : List Row) (messages : List Numbered) → marks_named false rows messages ≡ []
no_marks rows [] = refl
no_marks rows (m ∷ messages) = ap (λ ms. ms ++ marks_named false rows messages) (by (row_with m.uid rows)) ∙ no_marks rows messages
  where
    by : (row : Option Row) → marks_if_there false row ≡ []
    by None = refl
    by (Some r) = refl

pub reading_is : (sets : Bool) (user : List ℕ) (name : Name) (top low high less : ℕ) (messages : List Numbered) (rows : List Row) → Rises less top (uids_of messages) → Rises low high (row_uids rows)
    → marking_effect user name (marks_named sets rows messages) ≡ read_effect sets user name messages rows
reading_is true user name top low high less messages rows up h = ap (marking_effect user name) (marks_are top low high less messages rows up h)
reading_is false user name top low high less messages rows up h = ap (marking_effect user name) (no_marks rows messages)

-- ---- UIDs that are told

uid_there : (uid : ℕ) (rows : List Row) (r : Row) → row_with uid rows ≡ Some r → r.uid ≡ uid
uid_there uid [] r e = absurd (cc e)
uid_there uid (x ∷ rows) r e = by (eqb x.uid uid) refl e (uid_there uid rows r)
  where
    by : (b : Bool) → eqb x.uid uid ≡ b → cond b (Some x) (row_with uid rows) ≡ Some r → (row_with uid rows ≡ Some r → r.uid ≡ uid) → r.uid ≡ uid
    by true is e later = let same : x ≡ r = cc e in ap (λ (k : Row). k.uid) (sym same) ∙ eqb-true x.uid uid is
    by false is e later = later e

pub uids_rise : (wanted : Wanted) (sets : Bool) (rows : List Row) (own low high : ℕ) (messages : List Numbered) → Rises low high (uids_of messages) → Rises low high (uids_told wanted sets rows own messages)
uids_rise wanted sets rows own low high [] h = h
uids_rise wanted sets rows own low high (m ∷ messages) h =
    by (row_with m.uid rows) refl (λ o. uids_rise wanted sets rows o (m.uid + 1) high messages h.1)
  where
    at : low ≤ m.uid
    at = h.0

    one : (r : Row) (b : Bool) (later : List ℕ) → r.uid ≡ m.uid → Rises (m.uid + 1) high later → Rises low high (cond b (r.uid ∷ []) [] ++ later)
    one r true later same rest = (subst (λ u. low ≤ u) (sym same) at, subst (λ u. Rises (u + 1) high later) (sym same) rest)
    one r false later same rest = rises_lower (m.uid + 1) low high later (omega (arith, at)) rest

    by : (row : Option Row) → row_with m.uid rows ≡ row → ((o : ℕ) → Rises (m.uid + 1) high (uids_told wanted sets rows o messages))
        → Rises low high (uid_told wanted sets own row ++ uids_told wanted sets rows (count_after sets own row own) messages)
    by None is rest = rises_lower (m.uid + 1) low high (uids_told wanted sets rows own messages) (omega (arith, at)) (rest own)
    by (Some r) is rest = one r (wanted.flags || is_set sets own r) (uids_told wanted sets rows (count_after sets own (Some r) own) messages) (uid_there m.uid rows r is) (rest (count_after sets own (Some r) own))
