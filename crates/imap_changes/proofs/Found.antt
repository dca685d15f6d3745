-- Messages that are named and are there, in the order of UIDs.
use Rattle.std.proofs.Common.{◌≡◌, ℕ, ◌+◌, ◌<◌, ◌≤◌, Bool, true, false, cond, ◌||◌, List, [], ◌∷◌, ◌++◌, append_assoc, add-one, drop, drop-cons, filter, get_or, length, map, eqb, Some, refl, sym, ap, subst, ◌∙◌, arith}
use Rattle.std.proofs.lemmas.Bool.{ne_eqb, eqb-true, eq-eqb}
use Rattle.std.proofs.lemmas.List.{append-nil}
use Rattle.imap_mailbox.specs.Lent.{row_uids}
use Rattle.imap_mailbox.specs.Rows.{Row, first_uid, is_among}
use Rattle.imap_mailbox.specs.Summary.{Rises}
use Rattle.imap_mailbox.proofs.Rising.{rises_lower}
use Rattle.imap_targets.specs.declared.message_numbers.Numbered.{Numbered}
use Rattle.imap_targets.specs.MessageNumbers.{row_with, uids_of}
use Rattle.imap_targets.proofs.Named.{row_below}
use Rattle.imap_changes.specs.declared.copies.Copies.{Copies}
use Rattle.imap_changes.specs.Copies.{copies_of, copy_of, rows_named}
use Rattle.imap_changes.specs.Finding.{AddsCopies, AreCopies, row_if_there, rows_found}

-- ---- one message that is named before others, whose UIDs are greater

turned : (a b : ℕ) → eqb a b ≡ eqb b a
turned a b = by (eqb b a) refl
  where
    by : (x : Bool) → eqb b a ≡ x → eqb a b ≡ x
    by true e = eq-eqb a b (sym (eqb-true b a e))
    by false e = ne_eqb a b (λ same. absurd (cc (sym e ∙ eq-eqb b a (sym same))))

above : (uid low high : ℕ) (uids : List ℕ) → Rises low high uids → is_among uid uids ≡ true → low ≤ uid
above uid low high [] h e = absurd (cc e)
above uid low high (u ∷ uids) h e = by (eqb u uid) refl e (above uid (u + 1) high uids h.1)
  where
    by : (x : Bool) → eqb u uid ≡ x → x || is_among uid uids ≡ true → (is_among uid uids ≡ true → u + 1 ≤ uid) → low ≤ uid
    by true is e later = let at : low ≤ u = h.0 in let same = eqb-true u uid is in omega (arith, at, same)
    by false is e later = let at : low ≤ u = h.0 in let rest = later e in omega (arith, at, rest)

module _ (m : Numbered) (messages : List Numbered) where
  -- rows of greater UIDs
  others : (low high : ℕ) (rows : List Row) → m.uid < low → Rises low high (row_uids rows) → rows_named (m ∷ messages) rows ≡ rows_named messages rows
  others low high [] lt h = refl
  others low high (r ∷ rows) lt h =
      let at : low ≤ r.uid = h.0 in
      let rest = others (r.uid + 1) high rows (omega (arith, at, lt)) h.1 in
      let other = ne_eqb m.uid r.uid (λ e. omega (arith, e, at, lt)) in
      λ j. cond (other j || is_among r.uid (uids_of messages)) (r ∷ rest j) (rest j)

  module _ (top high : ℕ) (up : Rises (m.uid + 1) top (uids_of messages)) (r : Row) (rows : List Row) (h : Rises (r.uid + 1) high (row_uids rows)) where
    unnamed : m.uid ≡ r.uid → (x : Bool) → is_among r.uid (uids_of messages) ≡ x → x ≡ false
    unnamed same true e = let le = above r.uid (m.uid + 1) top (uids_of messages) up e in absurd (omega (arith, same, le))
    unnamed same false e = refl

    abbrev kept : Bool → List Numbered → List Row
    kept b ms = cond b (r ∷ rows_named ms rows) (rows_named ms rows)

    there : (b : Bool) → is_among r.uid (uids_of messages) ≡ b → rows_named (m ∷ messages) rows ≡ row_if_there (row_with m.uid rows) ++ rows_named messages rows
        → kept b (m ∷ messages) ≡ row_if_there (row_with m.uid rows) ++ kept b messages
    there false e later = later
    there true e later =
        let le = above r.uid (m.uid + 1) top (uids_of messages) up e in
        let none : row_if_there (row_with m.uid rows) ≡ [] = ap row_if_there (row_below m.uid (r.uid + 1) high rows (omega (arith, le)) h) in
        ap (λ rs. r ∷ rs) (later ∙ ap (λ rs. rs ++ rows_named messages rows) none) ∙ ap (λ rs. rs ++ (r ∷ rows_named messages rows)) (sym none)

    by_row : (b : Bool) → eqb r.uid m.uid ≡ b → rows_named (m ∷ messages) rows ≡ row_if_there (row_with m.uid rows) ++ rows_named messages rows
        → rows_named (m ∷ messages) (r ∷ rows) ≡ row_if_there (cond b (Some r) (row_with m.uid rows)) ++ rows_named messages (r ∷ rows)
    by_row true e later =
        let same : m.uid ≡ r.uid = sym (eqb-true r.uid m.uid e) in
        let rest = others (r.uid + 1) high rows (omega (arith, same)) h in
        let none = unnamed same (is_among r.uid (uids_of messages)) refl in
        (λ j. cond (eq-eqb m.uid r.uid same j || is_among r.uid (uids_of messages)) (r ∷ rest j) (rest j))
        ∙ ap (λ b. r ∷ kept b messages) (sym none)
    by_row false e later =
        ap (λ b. kept (b || is_among r.uid (uids_of messages)) (m ∷ messages)) (turned m.uid r.uid ∙ e) ∙ there (is_among r.uid (uids_of messages)) refl later

  one_first : (top low high : ℕ) (rows : List Row) → Rises (m.uid + 1) top (uids_of messages) → Rises low high (row_uids rows)
      → rows_named (m ∷ messages) rows ≡ row_if_there (row_with m.uid rows) ++ rows_named messages rows
  one_first top low high [] up h = refl
  one_first top low high (r ∷ rows) up h = by_row top high up r rows h.1 (eqb r.uid m.uid) refl (one_first top (r.uid + 1) high rows up h.1)

-- ---- all messages

none_named : (rows : List Row) → rows_named [] rows ≡ []
none_named [] = refl
none_named (r ∷ rows) = none_named rows

pub found_is_named : (top low high less : ℕ) (messages : List Numbered) (rows : List Row) → Rises less top (uids_of messages) → Rises low high (row_uids rows) → rows_found rows messages ≡ rows_named messages rows
found_is_named top low high less [] rows up h = sym (none_named rows)
found_is_named top low high less (m ∷ messages) rows up h =
    ap (λ rs. row_if_there (row_with m.uid rows) ++ rs) (found_is_named top low high (m.uid + 1) messages rows up.1 h) ∙ sym (one_first m messages top low high rows up.1 h)

-- their UIDs rise, as those of all rows do
pub chosen_rise : (p : Row → Bool) (low high : ℕ) (rows : List Row) → Rises low high (row_uids rows) → Rises low high (row_uids (filter p rows))
chosen_rise p low high [] h = h
chosen_rise p low high (r ∷ rows) h = by (p r) (chosen_rise p (r.uid + 1) high rows h.1)
  where
    by : (b : Bool) → Rises (r.uid + 1) high (row_uids (filter p rows)) → Rises low high (row_uids (cond b (r ∷ filter p rows) (filter p rows)))
    by true rest = (h.0, rest)
    by false rest = let at : low ≤ r.uid = h.0 in rises_lower (r.uid + 1) low high (row_uids (filter p rows)) (omega (arith, at)) rest

pub copies_rise : (rights : ℕ) (messages : List Numbered) (next : ℕ) (rows : List Row) (copies : Copies) → Rises first_uid next (row_uids rows) → AreCopies rights (rows_named messages rows) copies
    → (high : ℕ) × Rises first_uid high copies.uids.items
copies_rise rights messages next rows copies h are =
    (next, subst (Rises first_uid next) (sym are.uids) (chosen_rise (λ (r : Row). is_among r.uid (uids_of messages)) first_uid next rows h))

-- ---- along the messages

map_append : {X Y : Type 0} (f : X → Y) (xs ys : List X) → map f (xs ++ ys) ≡ map f xs ++ map f ys
map_append f [] ys = refl
map_append f (x ∷ xs) ys = ap (λ zs. f x ∷ zs) (map_append f xs ys)

module _ (rights : ℕ) (rows : List Row) (messages : List Numbered) where
  -- those of the messages before the place i
  pub record AreFoundTo (i : ℕ) (copies : Copies) : Type 0 where
    pub uids : copies.uids.items ++ row_uids (rows_found rows (drop i messages)) ≡ row_uids (rows_found rows messages)
    pub made : copies.messages.items ++ copies_of rights (rows_found rows (drop i messages)) ≡ copies_of rights (rows_found rows messages)

  pub at_first : (copies : Copies) → copies.uids.items ≡ [] → copies.messages.items ≡ [] → AreFoundTo 0 copies
  at_first copies u m = record {
    uids = ap (λ us. us ++ row_uids (rows_found rows messages)) u;
    made = ap (λ ms. ms ++ copies_of rights (rows_found rows messages)) m;
  }

  pub at_last : (i : ℕ) (copies : Copies) → drop i messages ≡ [] → AreFoundTo i copies → AreCopies rights (rows_found rows messages) copies
  at_last i copies none before = record {
    uids = sym (append-nil copies.uids.items) ∙ ap (λ ms. copies.uids.items ++ row_uids (rows_found rows ms)) (sym none) ∙ before.uids;
    messages = sym (append-nil copies.messages.items) ∙ ap (λ ms. copies.messages.items ++ copies_of rights (rows_found rows ms)) (sym none) ∙ before.made;
  }

  pub added : (i : ℕ) (m : Numbered) (old new : Copies) → i < length messages → m ≡ get_or messages i m → AddsCopies rights (row_if_there (row_with m.uid rows)) old new
      → AreFoundTo i old → AreFoundTo (i + 1) new
  added i m old new within is adds before =
      let found = row_if_there (row_with m.uid rows) in
      let later = rows_found rows (drop (i + 1) messages) in
      let next : rows_found rows (drop i messages) ≡ found ++ later = ap (rows_found rows) (drop-cons messages i m within ∙ λ j. sym is j ∷ drop (sym (add-one i) j) messages) in
      record {
        uids =
            ap (λ us. us ++ row_uids later) adds.uids
            ∙ append_assoc old.uids.items (row_uids found) (row_uids later)
            ∙ ap (λ us. old.uids.items ++ us) (sym (map_append (λ (r : Row). r.uid) found later))
            ∙ ap (λ rs. old.uids.items ++ row_uids rs) (sym next)
            ∙ before.uids;
        made =
            ap (λ ms. ms ++ copies_of rights later) adds.messages
            ∙ append_assoc old.messages.items (copies_of rights found) (copies_of rights later)
            ∙ ap (λ ms. old.messages.items ++ ms) (sym (map_append (λ (r : Row). copy_of rights r) found later))
            ∙ ap (λ rs. old.messages.items ++ copies_of rights rs) (sym next)
            ∙ before.made;
      }
