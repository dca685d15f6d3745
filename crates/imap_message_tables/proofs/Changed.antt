-- What stands at one key changes.
use Rattle.std.proofs.Common.{◌≡◌, ◌≢◌, ◌⊎◌, inl, inr, ℕ, ℤ, pos, Bool, true, false, cond, not, List, [], ◌∷◌, ◌++◌, filter, Option, Some, None, refl, sym, ap, subst, ◌∙◌}
use Rattle.std.specs.Prelude.{◌↔◌, eqb}
use Rattle.std.proofs.lemmas.Bool.{both_ways, not-true}
use Rattle.std.proofs.lemmas.Bool.Decides.{Decides-eqb}
use Rattle.sqlite.specs.declared.types.Value.TheVariants.{Int}
use Rattle.sqlite.specs.Order.{Row, column}
use Rattle.sqlite.specs.Table.{Table}
use Rattle.sqlite.specs.Tree.{Trees}
use Rattle.sqlite_rules.specs.Lists.{Has}
use Rattle.sqlite_rules.proofs.ListLemmas.{has_either, has_filtered, has_kept, has_left, has_right}
use Rattle.imap_tables.specs.Edits.{IsMessageOf, KeepsOthers}
use Rattle.imap_message_tables.specs.Split.{AreOfOne, IsBody, IsHead, IsOne, IsOther, IsSplit, IsWord, Stands, Whole, body_of, head_of, one_of, word_of, words_text}
use Rattle.imap_tables.specs.Rows.{message_row}
use Rattle.imap_tables.specs.Tables.{store_tables}
use Rattle.imap_message_tables.proofs.Keys.{at_key, at_or, at_same, away, is_at, same_id, same_number, same_octets, same_text}
use Rattle.imap_message_tables.proofs.Words.{same_words}

-- a table's rows are replaced
abbrev pub with_rows : Trees → (tree : ℕ) → List Row → Trees
with_rows db tree rows t = cond (eqb t tree) rows (db t)

pub with_others : (db : Trees) (tree : ℕ) (rows : List Row) (t : ℕ) → t ≢ tree → with_rows db tree rows t ≡ db t
with_others db tree rows t off = by (eqb t tree) refl
  where
    by : (b : Bool) → eqb t tree ≡ b → cond b rows (db t) ≡ db t
    by true e = absurd (off ((Decides-eqb t tree).0 e))
    by false e = refl

-- the same rows away from a key
abbrev pub IsAway : (i : ℤ) (u : ℕ) → (old new : List Row) → Type 0
IsAway i u old new = (row : Row) → (IsMessageOf i u row → ⊥) → Has new row ↔ Has old row

-- nothing has changed but at the key
pub record IsAlike (i : ℤ) (u : ℕ) (old new : Trees) : Type 0 where
  pub empty : new 4 ≡ old 4
  pub others : (table : Table) → Has store_tables table → IsOther table.tree → new table.tree ≡ old table.tree
  pub heads : IsAway i u (old 16) (new 16)
  pub bodies : IsAway i u (old 18) (new 18)
  pub words : IsAway i u (old 20) (new 20)

-- what stands at the key is this message
pub record IsHere (db : Trees) (i : ℤ) (u : ℕ) (m : Whole) : Type 0 where
  pub stands : Stands db m
  pub mailbox : m.mailbox ≡ i
  pub uid : m.uid ≡ u
  pub heads : (row : Row) → IsMessageOf i u row → Has (db 16) row → row ≡ head_of m
  pub id : ℤ
  pub bodies : (row : Row) → IsMessageOf i u row → Has (db 18) row → row ≡ body_of m id
  pub words : (row : Row) → IsMessageOf i u row → Has (db 20) row → (w : List ℕ) × (n : ℤ) × (row ≡ word_of m w n)
  pub apart : (a b : Row) → IsMessageOf i u a → IsMessageOf i u b → Has (db 20) a → Has (db 20) b → column a 3 ≡ column b 3 → a ≡ b

abbrev pub StandsAt : Trees → (i : ℤ) (u : ℕ) → Option Whole → Type 0
StandsAt db i u (Some m) = IsHere db i u m
StandsAt db i u None = (row : Row) → IsMessageOf i u row → (Has (db 16) row → ⊥) × (Has (db 18) row → ⊥) × (Has (db 20) row → ⊥)

abbrev pub rows_of : Option Whole → List Row
rows_of None = []
rows_of (Some m) = one_of m ∷ []

pub at_whole : (i : ℤ) (u : ℕ) (m : Whole) → m.mailbox ≡ i → m.uid ≡ u → (Int m.mailbox ≡ Int i) × (Int (pos m.uid) ≡ Int (pos u))
at_whole i u m e f = (ap (λ n. Int n) e, ap (λ n. Int (pos n)) f)

-- two messages of the same head, body and words have the same row
pub same_one : (m n : Whole) (a b : ℤ) → head_of m ≡ head_of n → body_of m a ≡ body_of n b → m.words ≡ n.words → one_of m ≡ one_of n
same_one m n a b head body words = λ j.
    message_row (same_id m.mailbox n.mailbox (ap (λ (r : Row). column r 1) head) j)
    (same_number m.uid n.uid (ap (λ (r : Row). column r 2) head) j)
    (same_text m.date n.date (ap (λ (r : Row). column r 3) head) j)
    (same_octets m.octets n.octets (ap (λ (r : Row). column r 3) body) j)
    (same_number m.flags n.flags (ap (λ (r : Row). column r 4) head) j)
    (ap words_text words j)
    (same_id m.place n.place (ap (λ (r : Row). column r 5) head) j)
    (same_id m.rowid n.rowid (ap (λ (r : Row). column r 0) head) j)

-- a message that stands here has the words of the one that is here
pub here_words : (db : Trees) (m n : Whole) → Stands db m → Stands db n → m.mailbox ≡ n.mailbox → m.uid ≡ n.uid → m.words ≡ n.words
here_words db m n s t e f =
    same_words m.words n.words s.are_words.rising t.are_words.rising
    (λ w h. let (k, has) = (s.words w).0 h in (t.words w).1 (k, along2 m n e f w k has))
    (λ w h. let (k, has) = (t.words w).0 h in (s.words w).1 (k, along2 n m (sym e) (sym f) w k has))
  where
    along2 : (a b : Whole) → a.mailbox ≡ b.mailbox → a.uid ≡ b.uid → (w : List ℕ) (k : ℤ) → Has (db 20) (word_of a w k) → Has (db 20) (word_of b w k)
    along2 a b x y w k h = subst (Has (db 20)) (λ j. Int k ∷ Int (x j) ∷ Int (pos (y j)) ∷ column (word_of a w k) 3 ∷ []) h

module _ (old new one : Trees) (i : ℤ) (u : ℕ) (split : IsSplit old one) (alike : IsAlike i u old new) where
  -- a message that stands elsewhere
  to_new : (m : Whole) → (IsMessageOf i u (head_of m) → ⊥) → Stands old m → Stands new m
  to_new m off s = record {
    head = (alike.heads (head_of m) off).1 s.head;
    body = (s.body.0, (alike.bodies (body_of m s.body.0) off).1 s.body.1);
    are_words = s.are_words;
    words = λ w. (
      λ h. let (k, has) = (s.words w).0 h in (k, (alike.words (word_of m w k) off).1 has),
      λ h. (s.words w).1 (h.0, (alike.words (word_of m w h.0) off).0 h.1),
    );
  }

  to_old : (m : Whole) → (IsMessageOf i u (head_of m) → ⊥) → Stands new m → Stands old m
  to_old m off s = record {
    head = (alike.heads (head_of m) off).0 s.head;
    body = (s.body.0, (alike.bodies (body_of m s.body.0) off).0 s.body.1);
    are_words = s.are_words;
    words = λ w. (
      λ h. let (k, has) = (s.words w).0 h in (k, (alike.words (word_of m w k) off).0 has),
      λ h. (s.words w).1 (h.0, (alike.words (word_of m w h.0) off).1 h.1),
    );
  }

  abbrev pub kept : List Row
  kept = filter (λ row. not (at_key i u row)) (one 4)

  pub kept_is : (row : Row) → Has kept row → Has (one 4) row × (IsMessageOf i u row → ⊥)
  kept_is row h =
      let k = has_filtered (λ row. not (at_key i u row)) (one 4) row h in
      (k.0, λ at. both_ways _ (not-true _ k.1) (is_at i u row at))

  pub is_kept : (row : Row) → Has (one 4) row → (IsMessageOf i u row → ⊥) → Has kept row
  is_kept row h off = has_kept (λ row. not (at_key i u row)) (one 4) row h (away i u row off)

  module _ (found : Option Whole) (here : StandsAt new i u found) where
    abbrev pub next : Trees
    next = with_rows one 4 (kept ++ rows_of found)

    one_to : (row : Row) → Has (kept ++ rows_of found) row → IsOne new row
    one_to row h = by (has_either kept (rows_of found) row h)
      where
        last : (f : Option Whole) → StandsAt new i u f → Has (rows_of f) row → IsOne new row
        last None s none = absurd none
        last (Some m) s (inl e) = record { whole = m; stands = s.stands; shown = e }
        last (Some m) s (inr none) = absurd none

        by : Has kept row ⊎ Has (rows_of found) row → IsOne new row
        by (inl k) =
            let was = kept_is row k in
            let o = (split.rows row).0 was.0 in
            record { whole = o.whole; stands = to_new o.whole (λ at. was.1 (subst (IsMessageOf i u) (sym o.shown) at)) o.stands; shown = o.shown }
        by (inr l) = last found here l

    -- the message at the key is the one that is here
    it : (m : Whole) → Stands new m → IsMessageOf i u (head_of m) → (f : Option Whole) → StandsAt new i u f → Has (rows_of f) (one_of m)
    it m s at None none = absurd ((none (head_of m) at).0 s.head)
    it m s at (Some n) h = inl (same_one m n s.body.0 h.id (h.heads (head_of m) at s.head) (h.bodies (body_of m s.body.0) at s.body.1)
        (here_words new m n s h.stands (same_id m.mailbox i at.0 ∙ sym h.mailbox) (same_number m.uid u at.1 ∙ sym h.uid)))

    one_from : (row : Row) → IsOne new row → Has (kept ++ rows_of found) row
    one_from row o = subst (Has (kept ++ rows_of found)) (sym o.shown) (by (at_or i u (head_of o.whole)))
      where
        by : IsMessageOf i u (head_of o.whole) ⊎ (IsMessageOf i u (head_of o.whole) → ⊥) → Has (kept ++ rows_of found) (one_of o.whole)
        by (inl at) = has_right kept (rows_of found) (one_of o.whole) (it o.whole o.stands at found here)
        by (inr off) = has_left kept (rows_of found) (one_of o.whole)
            (is_kept (one_of o.whole) ((split.rows (one_of o.whole)).1 (record { whole = o.whole; stands = to_old o.whole off o.stands; shown = refl })) off)

    keyed_heads : (a b : Row) → Has (new 16) a → Has (new 16) b → AreOfOne a b → a ≡ b
    keyed_heads a b ha hb e = by (at_or i u a) found here
      where
        by : IsMessageOf i u a ⊎ (IsMessageOf i u a → ⊥) → (f : Option Whole) → StandsAt new i u f → a ≡ b
        by (inl at) None none = absurd ((none a at).0 ha)
        by (inl at) (Some m) h = h.heads a at ha ∙ sym (h.heads b (at_same i u a b e at) hb)
        by (inr off) f s = split.keyed.heads a b ((alike.heads a off).0 ha) ((alike.heads b (λ at. off (at_same i u b a (sym e.0, sym e.1) at))).0 hb) e

    keyed_bodies : (a b : Row) → Has (new 18) a → Has (new 18) b → AreOfOne a b → a ≡ b
    keyed_bodies a b ha hb e = by (at_or i u a) found here
      where
        by : IsMessageOf i u a ⊎ (IsMessageOf i u a → ⊥) → (f : Option Whole) → StandsAt new i u f → a ≡ b
        by (inl at) None none = absurd ((none a at).1 ha)
        by (inl at) (Some m) h = h.bodies a at ha ∙ sym (h.bodies b (at_same i u a b e at) hb)
        by (inr off) f s = split.keyed.bodies a b ((alike.bodies a off).0 ha) ((alike.bodies b (λ at. off (at_same i u b a (sym e.0, sym e.1) at))).0 hb) e

    keyed_words : (a b : Row) → Has (new 20) a → Has (new 20) b → AreOfOne a b → column a 3 ≡ column b 3 → a ≡ b
    keyed_words a b ha hb e w = by (at_or i u a) found here
      where
        by : IsMessageOf i u a ⊎ (IsMessageOf i u a → ⊥) → (f : Option Whole) → StandsAt new i u f → a ≡ b
        by (inl at) None none = absurd ((none a at).2 ha)
        by (inl at) (Some m) h = h.apart a b at (at_same i u a b e at) ha hb w
        by (inr off) f s = split.keyed.words a b ((alike.words a off).0 ha) ((alike.words b (λ at. off (at_same i u b a (sym e.0, sym e.1) at))).0 hb) e w

    no_head : (row : Row) → Has (new 16) row → IsHead new row
    no_head row h = by (at_or i u row) found here
      where
        by : IsMessageOf i u row ⊎ (IsMessageOf i u row → ⊥) → (f : Option Whole) → StandsAt new i u f → IsHead new row
        by (inl at) None none = absurd ((none row at).0 h)
        by (inl at) (Some m) k = record { whole = m; stands = k.stands; shown = k.heads row at h }
        by (inr off) f s =
            let o = split.heads row ((alike.heads row off).0 h) in
            record { whole = o.whole; stands = to_new o.whole (λ at. off (subst (IsMessageOf i u) (sym o.shown) at)) o.stands; shown = o.shown }

    no_body : (row : Row) → Has (new 18) row → IsBody new row
    no_body row h = by (at_or i u row) found here
      where
        by : IsMessageOf i u row ⊎ (IsMessageOf i u row → ⊥) → (f : Option Whole) → StandsAt new i u f → IsBody new row
        by (inl at) None none = absurd ((none row at).1 h)
        by (inl at) (Some m) k = record { whole = m; stands = k.stands; id = k.id; shown = k.bodies row at h }
        by (inr off) f s =
            let o = split.bodies row ((alike.bodies row off).0 h) in
            record { whole = o.whole; stands = to_new o.whole (λ at. off (subst (IsMessageOf i u) (sym o.shown) at)) o.stands; id = o.id; shown = o.shown }

    no_word : (row : Row) → Has (new 20) row → IsWord new row
    no_word row h = by (at_or i u row) found here
      where
        by : IsMessageOf i u row ⊎ (IsMessageOf i u row → ⊥) → (f : Option Whole) → StandsAt new i u f → IsWord new row
        by (inl at) None none = absurd ((none row at).2 h)
        by (inl at) (Some m) k = let (w, n, e) = k.words row at h in record { whole = m; stands = k.stands; word = w; id = n; shown = e }
        by (inr off) f s =
            let o = split.words row ((alike.words row off).0 h) in
            record { whole = o.whole; stands = to_new o.whole (λ at. off (subst (IsMessageOf i u) (sym o.shown) at)) o.stands; word = o.word; id = o.id; shown = o.shown }

    pub changed : IsSplit new next
    changed = record {
      empty = alike.empty ∙ split.empty;
      blank = split.blank;
      others = λ table listed o. with_others one 4 (kept ++ rows_of found) table.tree o.0 ∙ split.others table listed o ∙ sym (alike.others table listed o);
      keyed = record { heads = keyed_heads; bodies = keyed_bodies; words = keyed_words };
      rows = λ row. (one_to row, one_from row);
      heads = no_head;
      bodies = no_body;
      words = no_word;
    }

    -- the other tables of `one` stay
    pub next_others : KeepsOthers one next 4
    next_others table listed off = with_others one 4 (kept ++ rows_of found) table.tree off
