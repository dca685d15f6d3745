-- Another table changes.
use Rattle.std.proofs.Common.{◌≡◌, ◌≢◌, ◌⊎◌, inl, inr, ℕ, ℤ, Bool, true, false, cond, eq-eqb, refl, sym, ap, ◌∙◌}
use Rattle.std.specs.Prelude.{eqb}
use Rattle.std.proofs.lemmas.Bool.Decides.{Decides-eqb}
use Rattle.sqlite.specs.Order.{Row}
use Rattle.sqlite.specs.Table.{Table}
use Rattle.sqlite.specs.Tree.{Trees}
use Rattle.sqlite_rules.specs.Lists.{Has}
use Rattle.imap_tables.specs.Edits.{Adds, KeepsOthers, Removes, Replaces}
use Rattle.imap_message_tables.specs.Laws.{OthersFit, Passes}
use Rattle.imap_message_tables.specs.Split.{IsOther, IsSplit, Stands, Whole, body_of, head_of, word_of}
use Rattle.imap_tables.specs.Tables.{store_tables}
use Rattle.imap_message_tables.proofs.Changed.{with_others, with_rows}
use Rattle.imap_message_tables.proofs.Keys.{along}
use Rattle.imap_message_tables.proofs.Places.{ne}
use Rattle.imap_message_tables.proofs.Stays.{bodies_stay, heads_stay, message_stays, words_stay}

pub stands_along : (old new : Trees) → new 16 ≡ old 16 → new 18 ≡ old 18 → new 20 ≡ old 20 → (m : Whole) → Stands old m → Stands new m
stands_along old new e f g m s = record {
  head = along (old 16) (new 16) (head_of m) (sym e) s.head;
  body = (s.body.0, along (old 18) (new 18) (body_of m s.body.0) (sym f) s.body.1);
  are_words = s.are_words;
  words = λ w. (
    λ h. let (n, has) = (s.words w).0 h in (n, along (old 20) (new 20) (word_of m w n) (sym g) has),
    λ h. (s.words w).1 (h.0, along (new 20) (old 20) (word_of m w h.0) g h.1),
  );
}

module _ (old new one : Trees) (table : Table) (listed : Has store_tables table) (o : IsOther table.tree) (split : IsSplit old one) (keeps : KeepsOthers old new table.tree) where
  abbrev at : ℕ
  at = table.tree

  apart : (t : ℕ) → table.tree ≢ t → eqb t table.tree ≡ false
  apart t h = by (eqb t table.tree) refl
    where
      by : (b : Bool) → eqb t table.tree ≡ b → b ≡ false
      by true e = absurd (h (sym ((Decides-eqb t table.tree).0 e)))
      by false e = refl

  message_is : new 4 ≡ old 4
  message_is = message_stays old new at keeps (apart 4 o.0)

  heads_are : new 16 ≡ old 16
  heads_are = heads_stay old new at keeps (apart 16 o.1)

  bodies_are : new 18 ≡ old 18
  bodies_are = bodies_stay old new at keeps (apart 18 o.2)

  words_are : new 20 ≡ old 20
  words_are = words_stay old new at keeps (apart 20 o.3)

  abbrev next : Trees
  next = with_rows one table.tree (new table.tree)

  next_off : (t : ℕ) → t ≢ table.tree → next t ≡ one t
  next_off t h = with_others one table.tree (new table.tree) t h

  next_at : next table.tree ≡ new table.tree
  next_at = ap (λ b. cond b (new table.tree) (one table.tree)) (eq-eqb table.tree table.tree refl)

  flip : (t : ℕ) → table.tree ≢ t → t ≢ table.tree
  flip t h e = h (sym e)

  to_new : (m : Whole) → Stands old m → Stands new m
  to_new m s = stands_along old new heads_are bodies_are words_are m s

  to_old : (m : Whole) → Stands new m → Stands old m
  to_old m s = stands_along new old (sym heads_are) (sym bodies_are) (sym words_are) m s

  others_are : (other : Table) → Has store_tables other → IsOther other.tree → next other.tree ≡ new other.tree
  others_are other there p = by (eqb other.tree table.tree) refl
    where
      by : (b : Bool) → eqb other.tree table.tree ≡ b → next other.tree ≡ new other.tree
      by true e = let same : other.tree ≡ table.tree = (Decides-eqb other.tree table.tree).0 e in ap next same ∙ next_at ∙ ap new (sym same)
      by false e = let differ : other.tree ≢ table.tree = ne other.tree table.tree e in next_off other.tree differ ∙ split.others other there p ∙ sym (keeps other there differ)

  pub beside : IsSplit new next
  beside = record {
    empty = message_is ∙ split.empty;
    blank = (next_off 16 (flip 16 o.1) ∙ split.blank.0, next_off 18 (flip 18 o.2) ∙ split.blank.1, next_off 20 (flip 20 o.3) ∙ split.blank.2);
    others = others_are;
    keyed = record {
      heads = λ a b h k e. split.keyed.heads a b (along (new 16) (old 16) a heads_are h) (along (new 16) (old 16) b heads_are k) e;
      bodies = λ a b h k e. split.keyed.bodies a b (along (new 18) (old 18) a bodies_are h) (along (new 18) (old 18) b bodies_are k) e;
      words = λ a b h k e f. split.keyed.words a b (along (new 20) (old 20) a words_are h) (along (new 20) (old 20) b words_are k) e f;
    };
    rows = λ row. (
      λ h. let r = (split.rows row).0 (along (next 4) (one 4) row (next_off 4 (flip 4 o.0)) h) in record { whole = r.whole; stands = to_new r.whole r.stands; shown = r.shown },
      λ r. along (one 4) (next 4) row (sym (next_off 4 (flip 4 o.0))) ((split.rows row).1 (record { whole = r.whole; stands = to_old r.whole r.stands; shown = r.shown })),
    );
    heads = λ row h. let r = split.heads row (along (new 16) (old 16) row heads_are h) in record { whole = r.whole; stands = to_new r.whole r.stands; shown = r.shown };
    bodies = λ row h. let r = split.bodies row (along (new 18) (old 18) row bodies_are h) in record { whole = r.whole; stands = to_new r.whole r.stands; id = r.id; shown = r.shown };
    words = λ row h. let r = split.words row (along (new 20) (old 20) row words_are h) in record { whole = r.whole; stands = to_new r.whole r.stands; word = r.word; id = r.id; shown = r.shown };
  }

  pub next_keeps : KeepsOthers one next table.tree
  next_keeps other there differ = next_off other.tree differ

  was : one table.tree ≡ old table.tree
  was = split.others table listed o

  pub from_old : (row : Row) → Has (old table.tree) row → Has (one table.tree) row
  from_old row h = along (old table.tree) (one table.tree) row (sym was) h

  pub in_old : (row : Row) → Has (one table.tree) row → Has (old table.tree) row
  in_old row h = along (one table.tree) (old table.tree) row was h

  pub from_new : (row : Row) → Has (new table.tree) row → Has (next table.tree) row
  from_new row h = along (new table.tree) (next table.tree) row (sym next_at) h

  pub in_new : (row : Row) → Has (next table.tree) row → Has (new table.tree) row
  in_new row h = along (next table.tree) (new table.tree) row next_at h

module _ (old new one : Trees) (table : Table) (listed : Has store_tables table) (o : IsOther table.tree) (split : IsSplit old one) where
  pub adds_beside : (row_at : ℤ → Row) → Adds old new table.tree row_at → (end : Trees) × IsSplit new end × Adds one end table.tree row_at
  adds_beside row_at adds = (
    next old new one table listed o split adds.others,
    beside old new one table listed o split adds.others,
    record {
      id = adds.id;
      free = λ row h. adds.free row (in_old old new one table listed o split adds.others row h);
      added = from_new old new one table listed o split adds.others (row_at adds.id) adds.added;
      kept = λ row h. from_new old new one table listed o split adds.others row (adds.kept row (in_old old new one table listed o split adds.others row h));
      only = λ row h. by row (adds.only row (in_new old new one table listed o split adds.others row h));
      others = next_keeps old new one table listed o split adds.others;
    },
  )
    where
      by : (row : Row) → (row ≡ row_at adds.id) ⊎ Has (old table.tree) row → (row ≡ row_at adds.id) ⊎ Has (one table.tree) row
      by row (inl e) = inl e
      by row (inr h) = inr (from_old old new one table listed o split adds.others row h)

  pub replaces_beside : (P : Row → Type 0) (heir : Row → Row) → Replaces old new table.tree P heir → (end : Trees) × IsSplit new end × Replaces one end table.tree P heir
  replaces_beside P heir r = (
    next old new one table listed o split r.others,
    beside old new one table listed o split r.others,
    record {
      replaced = λ row h p. from_new old new one table listed o split r.others (heir row) (r.replaced row (in_old old new one table listed o split r.others row h) p);
      kept = λ row h p. from_new old new one table listed o split r.others row (r.kept row (in_old old new one table listed o split r.others row h) p);
      only = λ row h. by row (r.only row (in_new old new one table listed o split r.others row h));
      others = next_keeps old new one table listed o split r.others;
    },
  )
    where
      by : (row : Row) → (Has (old table.tree) row × ¬ P row) ⊎ ((was : Row) × Has (old table.tree) was × P was × (row ≡ heir was)) → (Has (one table.tree) row × ¬ P row) ⊎ ((was : Row) × Has (one table.tree) was × P was × (row ≡ heir was))
      by row (inl (h, p)) = inl (from_old old new one table listed o split r.others row h, p)
      by row (inr (was, h, p, e)) = inr (was, from_old old new one table listed o split r.others was h, p, e)

  pub removes_beside : (P : Row → Type 0) → Removes old new table.tree P → (end : Trees) × IsSplit new end × Removes one end table.tree P
  removes_beside P r = (
    next old new one table listed o split r.others,
    beside old new one table listed o split r.others,
    record {
      left = λ row. (
        λ h. let k = (r.left row).0 (in_new old new one table listed o split r.others row h) in (from_old old new one table listed o split r.others row k.0, k.1),
        λ h. from_new old new one table listed o split r.others row ((r.left row).1 (in_old old new one table listed o split r.others row h.0, h.1)),
      );
      others = next_keeps old new one table listed o split r.others;
    },
  )

pub others_fit : OthersFit
others_fit old new one table listed o split = (
  λ row_at adds. adds_beside old new one table listed o split row_at adds,
  λ t heir r. replaces_beside old new one table listed o split (Passes t) heir r,
  λ t r. removes_beside old new one table listed o split (Passes t) r,
)
