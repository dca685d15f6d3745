-- Mailboxes go with all that is below them.
use Rattle.std.proofs.Common.{◌≡◌, ◌≢◌, inl, inr, ℕ, true, List, [], ◌∷◌, filter, refl, sym, ap, subst, ◌∙◌}
use Rattle.std.specs.Prelude.{◌↔◌}
use Rattle.std.specs.List.{list_any}
use Rattle.sqlite.specs.Order.{Row, column}
use Rattle.sqlite.specs.Table.{Table}
use Rattle.sqlite.specs.Tree.{Trees}
use Rattle.sqlite_rules.specs.Lists.{Has}
use Rattle.sqlite_rules.proofs.ListLemmas.{has_filtered, has_kept, some_from, some_has}
use Rattle.imap_tables.specs.Edits.{IsNamed, IsUnder, RemovesMailboxes}
use Rattle.imap_message_tables.specs.Laws.{CascadeFits}
use Rattle.imap_message_tables.specs.Split.{IsOne, IsOther, IsSplit, Stands, Whole, body_of, head_of, word_of}
use Rattle.imap_tables.specs.Tables.{acl_table, body_table, gone_table, keyword_table, mark_table, message2_table, message_table, store_tables, tables_below}
use Rattle.imap_message_tables.proofs.Changed.{with_others, with_rows}
use Rattle.imap_message_tables.proofs.Keys.{along, at_is, at_key, id_in, is_at, natural}
use Rattle.imap_message_tables.proofs.Places.{ne}

module _ (old new one : Trees) (tree path : List ℕ) (split : IsSplit old one) (drops : RemovesMailboxes old new (IsNamed tree path)) where
  abbrev Goes : Row → Type 0
  Goes = IsUnder old new (IsNamed tree path)

  -- only the mailbox matters
  goes_same : (a b : Row) → column a 1 ≡ column b 1 → Goes a → Goes b
  goes_same a b e (parent, there, named, at) = (parent, there, named, sym e ∙ at)

  heads_left : (row : Row) → Has (new 16) row ↔ (Has (old 16) row × ¬ Goes row)
  heads_left = drops.below message2_table (inr (inr (inr (inr (inl refl)))))

  bodies_left : (row : Row) → Has (new 18) row ↔ (Has (old 18) row × ¬ Goes row)
  bodies_left = drops.below body_table (inr (inr (inr (inr (inr (inl refl))))))

  words_left : (row : Row) → Has (new 20) row ↔ (Has (old 20) row × ¬ Goes row)
  words_left = drops.below keyword_table (inr (inr (inr (inr (inr (inr (inl refl)))))))

  stands_old : (m : Whole) → Stands new m → Stands old m × ¬ Goes (head_of m)
  stands_old m s =
      let h = (heads_left (head_of m)).0 s.head in (
        record {
          head = h.0;
          body = (s.body.0, ((bodies_left (body_of m s.body.0)).0 s.body.1).0);
          are_words = s.are_words;
          words = λ w. (
            λ has. let (n, there) = (s.words w).0 has in (n, ((words_left (word_of m w n)).0 there).0),
            λ has. (s.words w).1 (has.0, (words_left (word_of m w has.0)).1 (has.1, λ g. h.1 (goes_same (word_of m w has.0) (head_of m) refl g))),
          );
        },
        h.1,
      )

  stands_new : (m : Whole) → Stands old m → ¬ Goes (head_of m) → Stands new m
  stands_new m s stays = record {
    head = (heads_left (head_of m)).1 (s.head, stays);
    body = (s.body.0, (bodies_left (body_of m s.body.0)).1 (s.body.1, λ g. stays (goes_same (body_of m s.body.0) (head_of m) refl g)));
    are_words = s.are_words;
    words = λ w. (
      λ has. let (n, there) = (s.words w).0 has in (n, (words_left (word_of m w n)).1 (there, λ g. stays (goes_same (word_of m w n) (head_of m) refl g))),
      λ has. (s.words w).1 (has.0, ((words_left (word_of m w has.0)).0 has.1).0),
    );
  }

  passes : (m : Whole) → Stands old m → list_any (at_key m.mailbox m.uid) (new 16) ≡ true → ¬ Goes (head_of m)
  passes m s e g =
      let f = some_has (at_key m.mailbox m.uid) (new 16) e in
      let at = at_is m.mailbox m.uid f.0 f.2 in
      ((heads_left f.0).0 f.1).1 (goes_same (head_of m) f.0 (sym at.0) g)

  passed : (m : Whole) → Has (new 16) (head_of m) → list_any (at_key m.mailbox m.uid) (new 16) ≡ true
  passed m h = some_from (at_key m.mailbox m.uid) (new 16) (head_of m) h (is_at m.mailbox m.uid (head_of m) (refl, refl))

  abbrev left : List Row
  left = filter (λ row. list_any (at_key (id_in (column row 1)) (natural (id_in (column row 2)))) (new 16)) (one 4)

  left_is : (row : Row) → Has left row → Has (one 4) row × ¬ Goes row
  left_is row h =
      let k = has_filtered (λ row. list_any (at_key (id_in (column row 1)) (natural (id_in (column row 2)))) (new 16)) (one 4) row h in
      let o = (split.rows row).0 k.0 in (
        k.0,
        λ g. passes o.whole o.stands (subst (λ (r : Row). list_any (at_key (id_in (column r 1)) (natural (id_in (column r 2)))) (new 16) ≡ true) o.shown k.1)
            (goes_same row (head_of o.whole) (ap (λ (r : Row). column r 1) o.shown) g),
      )

  is_left : (row : Row) → Has (one 4) row → ¬ Goes row → Has left row
  is_left row h stays =
      let o = (split.rows row).0 h in
      has_kept (λ row. list_any (at_key (id_in (column row 1)) (natural (id_in (column row 2)))) (new 16)) (one 4) row h
      (subst (λ (r : Row). list_any (at_key (id_in (column r 1)) (natural (id_in (column r 2)))) (new 16) ≡ true) (sym o.shown)
      (passed o.whole ((heads_left (head_of o.whole)).1 (o.stands.head, λ g. stays (goes_same (head_of o.whole) row (sym (ap (λ (r : Row). column r 1) o.shown)) g)))))

  -- the other tables as they are now, and the rows that are left
  abbrev next : Trees
  next = with_rows (with_rows (with_rows (with_rows new 16 []) 18 []) 20 []) 4 left

  next_is : (t : ℕ) → IsOther t → next t ≡ new t
  next_is t o =
      with_others (with_rows (with_rows (with_rows new 16 []) 18 []) 20 []) 4 left t o.0
      ∙ with_others (with_rows (with_rows new 16 []) 18 []) 20 [] t o.3
      ∙ with_others (with_rows new 16 []) 18 [] t o.2
      ∙ with_others new 16 [] t o.1

  nothing : (row : Row) → old 4 ≡ [] → (rows : List Row) → rows ≡ new 4 → Has rows row → ⊥
  nothing row empty rows e h = along (old 4) [] row empty ((drops.below message_table (inr (inl refl)) row).0 (along rows (new 4) row e h)).0

  empty_now : (rows : List Row) → rows ≡ new 4 → rows ≡ []
  empty_now [] e = refl
  empty_now (r ∷ rows) e = absurd (nothing r split.empty (r ∷ rows) e (inl refl))

  others_are : (table : Table) → Has store_tables table → IsOther table.tree → next table.tree ≡ new table.tree
  others_are table listed o = next_is table.tree o

  one_to : (row : Row) → Has left row → IsOne new row
  one_to row h =
      let k = left_is row h in
      let o = (split.rows row).0 k.0 in
      record { whole = o.whole; stands = stands_new o.whole o.stands (λ g. k.1 (goes_same (head_of o.whole) row (sym (ap (λ (r : Row). column r 1) o.shown)) g)); shown = o.shown }

  one_from : (row : Row) → IsOne new row → Has left row
  one_from row o =
      let s = stands_old o.whole o.stands in
      is_left row ((split.rows row).1 (record { whole = o.whole; stands = s.0; shown = o.shown })) (λ g. s.1 (goes_same row (head_of o.whole) (ap (λ (r : Row). column r 1) o.shown) g))

  is_split : IsSplit new next
  is_split = record {
    empty = empty_now (new 4) refl;
    blank = (refl, refl, refl);
    others = others_are;
    keyed = record {
      heads = λ a b h k e. split.keyed.heads a b ((heads_left a).0 h).0 ((heads_left b).0 k).0 e;
      bodies = λ a b h k e. split.keyed.bodies a b ((bodies_left a).0 h).0 ((bodies_left b).0 k).0 e;
      words = λ a b h k e f. split.keyed.words a b ((words_left a).0 h).0 ((words_left b).0 k).0 e f;
    };
    rows = λ row. (one_to row, one_from row);
    heads = λ row h.
        let k = (heads_left row).0 h in
        let o = split.heads row k.0 in
        record { whole = o.whole; stands = stands_new o.whole o.stands (λ g. k.1 (goes_same (head_of o.whole) row (sym (ap (λ (r : Row). column r 1) o.shown)) g)); shown = o.shown };
    bodies = λ row h.
        let k = (bodies_left row).0 h in
        let o = split.bodies row k.0 in
        record { whole = o.whole; stands = stands_new o.whole o.stands (λ g. k.1 (goes_same (head_of o.whole) row (sym (ap (λ (r : Row). column r 1) o.shown)) g)); id = o.id; shown = o.shown };
    words = λ row h.
        let k = (words_left row).0 h in
        let o = split.words row k.0 in
        record { whole = o.whole; stands = stands_new o.whole o.stands (λ g. k.1 (goes_same (head_of o.whole) row (sym (ap (λ (r : Row). column r 1) o.shown)) g)); word = o.word; id = o.id; shown = o.shown };
  }

  -- the mailboxes of `one` are the same, so the same goes
  mailboxes_are : one 0 ≡ old 0
  mailboxes_are = split.others _ (inl refl) (ne 0 4 refl, ne 0 16 refl, ne 0 18 refl, ne 0 20 refl)

  abbrev GoesOne : Row → Type 0
  GoesOne = IsUnder one next (IsNamed tree path)

  goes_one : (row : Row) → Goes row → GoesOne row
  goes_one row (parent, there, named, at) = (parent, along (old 0) (one 0) parent (sym mailboxes_are) there, named, at)

  goes_old : (row : Row) → GoesOne row → Goes row
  goes_old row (parent, there, named, at) = (parent, along (one 0) (old 0) parent mailboxes_are there, named, at)

  at_other : (child : Table) → Has tables_below child → Has store_tables child → IsOther child.tree → (row : Row) → Has (next child.tree) row ↔ (Has (one child.tree) row × ¬ GoesOne row)
  at_other child below listed o row = (
    λ h. let k = (drops.below child below row).0 (along (next child.tree) (new child.tree) row (next_is child.tree o) h) in
        (along (old child.tree) (one child.tree) row (sym (split.others child listed o)) k.0, λ g. k.1 (goes_old row g)),
    λ h. along (new child.tree) (next child.tree) row (sym (next_is child.tree o))
        ((drops.below child below row).1 (along (one child.tree) (old child.tree) row (split.others child listed o) h.0, λ g. h.1 (goes_one row g))),
  )

  at_blank : (t : ℕ) → one t ≡ [] → next t ≡ [] → (row : Row) → Has (next t) row ↔ (Has (one t) row × ¬ GoesOne row)
  at_blank t e f row = (λ h. absurd (along (next t) [] row f h), λ h. absurd (along (one t) [] row e h.0))

  off : (t : ℕ) → t ≢ 4 → t ≢ 16 → t ≢ 18 → t ≢ 20 → IsOther t
  off t a b c d = (a, b, c, d)

  below : (child : Table) → Has tables_below child → (row : Row) → Has (next child.tree) row ↔ (Has (one child.tree) row × ¬ GoesOne row)
  below child (inl e) = subst (λ (t : Table). (row : Row) → Has (next t.tree) row ↔ (Has (one t.tree) row × ¬ GoesOne row)) (sym e)
      (at_other acl_table (inl refl) (inr (inl refl)) (off 2 (ne 2 4 refl) (ne 2 16 refl) (ne 2 18 refl) (ne 2 20 refl)))
  below child (inr (inl e)) = subst (λ (t : Table). (row : Row) → Has (next t.tree) row ↔ (Has (one t.tree) row × ¬ GoesOne row)) (sym e)
      (λ row. (λ h. let k = left_is row h in (k.0, λ g. k.1 (goes_old row g)), λ h. is_left row h.0 (λ g. h.1 (goes_one row g))))
  below child (inr (inr (inl e))) = subst (λ (t : Table). (row : Row) → Has (next t.tree) row ↔ (Has (one t.tree) row × ¬ GoesOne row)) (sym e)
      (at_other gone_table (inr (inr (inl refl))) (inr (inr (inr (inl refl)))) (off 6 (ne 6 4 refl) (ne 6 16 refl) (ne 6 18 refl) (ne 6 20 refl)))
  below child (inr (inr (inr (inl e)))) = subst (λ (t : Table). (row : Row) → Has (next t.tree) row ↔ (Has (one t.tree) row × ¬ GoesOne row)) (sym e)
      (at_other mark_table (inr (inr (inr (inl refl)))) (inr (inr (inr (inr (inl refl))))) (off 8 (ne 8 4 refl) (ne 8 16 refl) (ne 8 18 refl) (ne 8 20 refl)))
  below child (inr (inr (inr (inr (inl e))))) = subst (λ (t : Table). (row : Row) → Has (next t.tree) row ↔ (Has (one t.tree) row × ¬ GoesOne row)) (sym e) (at_blank 16 split.blank.0 refl)
  below child (inr (inr (inr (inr (inr (inl e)))))) = subst (λ (t : Table). (row : Row) → Has (next t.tree) row ↔ (Has (one t.tree) row × ¬ GoesOne row)) (sym e) (at_blank 18 split.blank.1 refl)
  below child (inr (inr (inr (inr (inr (inr (inl e))))))) = subst (λ (t : Table). (row : Row) → Has (next t.tree) row ↔ (Has (one t.tree) row × ¬ GoesOne row)) (sym e) (at_blank 20 split.blank.2 refl)
  below child (inr (inr (inr (inr (inr (inr (inr none))))))) = absurd none

  pub fits : (end : Trees) × IsSplit new end × RemovesMailboxes one end (IsNamed tree path)
  fits = (
    next,
    is_split,
    record {
      left = λ row. (
        λ h. let k = (drops.left row).0 h in (along (old 0) (one 0) row (sym mailboxes_are) k.0, k.1),
        λ h. (drops.left row).1 (along (one 0) (old 0) row mailboxes_are h.0, h.1),
      );
      below = below;
      epochs = drops.epochs ∙ sym (split.others _ (inr (inr (inr (inr (inr (inl refl)))))) (off 10 (ne 10 4 refl) (ne 10 16 refl) (ne 10 18 refl) (ne 10 20 refl)));
      subs = drops.subs ∙ sym (split.others _ (inr (inr (inr (inr (inr (inr (inl refl))))))) (off 12 (ne 12 4 refl) (ne 12 16 refl) (ne 12 18 refl) (ne 12 20 refl)));
      meta = drops.meta ∙ sym (split.others _ (inr (inr (inr (inr (inr (inr (inr (inl refl)))))))) (off 14 (ne 14 4 refl) (ne 14 16 refl) (ne 14 18 refl) (ne 14 20 refl)));
    },
  )

pub cascade_fits : CascadeFits
cascade_fits old new one tree path split drops = fits old new one tree path split drops
