-- A store of the first version keeps its world where it is taken over.
use Rattle.std.proofs.Common.{◌≡◌, ◌≢◌, ◌⊎◌, inl, inr, ℤ, pos, codes, List, [], ◌∷◌, refl, sym, ap, subst, ◌∙◌, arith}
use Rattle.std.specs.Prelude.{◌↔◌}
use Rattle.sqlite.specs.Order.{Row, column}
use Rattle.sqlite.specs.Table.{Table}
use Rattle.sqlite.specs.Tree.{Trees}
use Rattle.sqlite.specs.declared.types.Value.TheVariants.{Int, Text as Words, Blob as Bytes}
use Rattle.sqlite_rules.specs.Lists.{Has}
use Rattle.imap_message_tables.specs.Adopting.{IsSameButVersion, first_of}
use Rattle.imap_message_tables.specs.Split.{IsOther, IsSplit, Whole, one_of, words_text}
use Rattle.imap_message_tables.proofs.Places.{ne}
use Rattle.imap_records.specs.Standing.{AreRows, Child, IsEpoch, IsMailbox, IsNumbered, IsSubscription, IsUnder, tree_of}
use Rattle.imap_records.specs.Standing.{entries, messages, gone, marks}
use Rattle.imap_restore.specs.Holding.{HoldFirst, HoldSplit, MetaShows, Stand}
use Rattle.imap_restore.proofs.Split.{meta_here, same_meta}
use Rattle.imap_tables.specs.Edits.{IsMetaOf, valued_row}
use Rattle.imap_tables.specs.Reading.{shown_at}
use Rattle.imap_tables.specs.Rows.{IsOrderly}
use Rattle.imap_tables.specs.Steps.{store_version}
use Rattle.imap_tables.specs.Stored.{ShowsMeta}
use Rattle.imap_tables.specs.Tables.{acl_table, epoch_table, gone_table, mailbox_table, mark_table, message_table, meta_table, store_tables, sub_table}
use Rattle.imap_world.specs.World.{World}

-- what the row of a message has after its rowid
abbrev values_in : Whole → Row
values_in m =
    Int m.mailbox ∷ Int (pos m.uid) ∷ Words m.date ∷ Bytes m.octets ∷ Int (pos m.flags) ∷ Words (words_text m.words) ∷ Int m.place ∷ []

abbrev tail_of : Row → Row
tail_of [] = []
tail_of (v ∷ values) = values

meta_listed : Has store_tables meta_table
meta_listed = inr (inr (inr (inr (inr (inr (inr (inl refl)))))))

meta_other : IsOther 14
meta_other = (ne 14 4 refl, ne 14 16 refl, ne 14 18 refl, ne 14 20 refl)

module _ (old new one : Trees) (split : IsSplit new one) (same : IsSameButVersion old one) where
  others_same : (table : Table) → Has store_tables table → IsOther table.tree → table.tree ≢ 14 → one table.tree ≡ old table.tree
  others_same table listed o off = same.2.others table listed off ∙ same.1.others table listed o

  messages_are : one 4 ≡ same.0 4
  messages_are = same.2.others message_table (inr (inr (inl refl))) (ne 4 14 refl)

  -- rows of messages that have other rowids
  messages_same : (Is : Row → Type 0) → AreRows (old 4) Is → AreRows (one 4) Is
  messages_same Is are = record { sound = sound; complete = complete }
    where
      sound : (row : Row) → Has (one 4) row → IsNumbered Is row
      sound row h =
          let x = (split.rows row).0 h in
          let values = values_in x.whole in
          let copied : Has (same.0 4) (one_of x.whole) = subst (λ (l : List Row). Has l (one_of x.whole)) messages_are (subst (λ (r : Row). Has (one 4) r) x.shown h) in
          let (n, was) = (same.1.rows values).0 (x.whole.rowid, copied) in
          let it = are.sound (Int n ∷ values) was in
          record { rowid = x.whole.rowid; values = values; shown = x.shown; meant = subst Is (sym (ap tail_of it.shown)) it.meant }

      complete : (values : Row) → Is values → (rowid : ℤ) × Has (one 4) (Int rowid ∷ values)
      complete values is =
          let (n, was) = are.complete values is in
          let (k, copied) = (same.1.rows values).1 (n, was) in
          (k, subst (λ (l : List Row). Has l (Int k ∷ values)) (sym messages_are) copied)

  rows_same : (table : Table) → Has store_tables table → IsOther table.tree → table.tree ≢ 14 → (Is : Row → Type 0) → AreRows (old table.tree) Is → AreRows (one table.tree) Is
  rows_same table listed o off Is = subst (λ (l : List Row). AreRows l Is) (sym (others_same table listed o off))

  stand_taken : (world : World) → Stand old world → Stand one world
  stand_taken world s = record {
    stands = record {
      id = s.stands.id;
      kept = s.stands.kept;
      apart = s.stands.apart;
      named = s.stands.named;
      found = s.stands.found;
      mailboxes = subst (λ (l : List Row). (row : Row) → Has l row ↔ IsMailbox world s.stands.id row) (sym (others_same mailbox_table (inl refl) (ne 0 4 refl, ne 0 16 refl, ne 0 18 refl, ne 0 20 refl) (ne 0 14 refl))) s.stands.mailboxes;
      below = below;
      epochs = rows_same epoch_table (inr (inr (inr (inr (inr (inl refl)))))) (ne 10 4 refl, ne 10 16 refl, ne 10 18 refl, ne 10 20 refl) (ne 10 14 refl) (IsEpoch world.epochs) s.stands.epochs;
      subscriptions = rows_same sub_table (inr (inr (inr (inr (inr (inr (inl refl))))))) (ne 12 4 refl, ne 12 16 refl, ne 12 18 refl, ne 12 20 refl) (ne 12 14 refl) (IsSubscription world) s.stands.subscriptions;
    };
    values = s.values;
    sound = s.sound;
    kept = s.kept;
  }
    where
      below : (child : Child) → AreRows (one (tree_of child)) (IsUnder world s.stands.id s.stands.kept child)
      below entries = rows_same acl_table (inr (inl refl)) (ne 2 4 refl, ne 2 16 refl, ne 2 18 refl, ne 2 20 refl) (ne 2 14 refl) (IsUnder world s.stands.id s.stands.kept entries) (s.stands.below entries)
      below messages = messages_same (IsUnder world s.stands.id s.stands.kept messages) (s.stands.below messages)
      below gone = rows_same gone_table (inr (inr (inr (inl refl)))) (ne 6 4 refl, ne 6 16 refl, ne 6 18 refl, ne 6 20 refl) (ne 6 14 refl) (IsUnder world s.stands.id s.stands.kept gone) (s.stands.below gone)
      below marks = rows_same mark_table (inr (inr (inr (inr (inl refl))))) (ne 8 4 refl, ne 8 16 refl, ne 8 18 refl, ne 8 20 refl) (ne 8 14 refl) (IsUnder world s.stands.id s.stands.kept marks) (s.stands.below marks)

  -- ---- what is said of the store

  meta_is : same.0 14 ≡ old 14
  meta_is = same.1.others meta_table meta_listed meta_other

  meta_taken : MetaShows old → MetaShows one
  meta_taken shows row h = by (same.2.only row h)
    where
      by : (Has (same.0 14) row × ¬ IsMetaOf (codes "version") row) ⊎ ((was : Row) × Has (same.0 14) was × IsMetaOf (codes "version") was × (row ≡ valued_row store_version was)) → ShowsMeta (shown_at 7 row)
      by (inl (was, other)) = shows row (subst (λ (l : List Row). Has l row) meta_is was)
      by (inr (was, there, version, e)) =
          let it = shows was (subst (λ (l : List Row). Has l was) meta_is there) in
          subst (λ (r : Row). ShowsMeta (shown_at 7 r)) (sym e) (record {
            rowid = it.rowid;
            key = it.key;
            value = store_version;
            texts = it.texts;
            short = omega (arith);
            shown = ap (λ (r : Row). column r 0 ∷ column r 1 ∷ Int (pos store_version) ∷ []) it.shown;
          })

  -- the row of the version has the version
  pub version_taken : (row : Row) → Has (old 14) row → IsMetaOf (codes "version") row → Has (new 14) (valued_row store_version row)
  version_taken row h is = subst (λ (l : List Row). Has l (valued_row store_version row)) (same_meta new one split) (same.2.replaced row (subst (λ (l : List Row). Has l row) (sym meta_is) h) is)

-- the tables hold the world
pub taken_holds : (db new one : Trees) → IsSplit new one → IsSameButVersion (first_of db) one → IsOrderly new → (world : World) → HoldFirst db world → HoldSplit new world
taken_holds db new one split same orderly world h = (
  (one, split, stand_taken (first_of db) new one split same world h.0),
  orderly,
  meta_here new one split (meta_taken (first_of db) new one split same h.2),
)
