-- A mailbox beside the others of a world: what steps below it make of its rows.
use Rattle.std.proofs.Common.{◌≡◌, ◌≢◌, ◌⊎◌, inl, inr, ℕ, ℤ, pos, List, [], ◌∷◌, Some, refl, sym, ap, subst, ◌∙◌}
use Rattle.std.specs.Prelude.{◌↔◌}
use Rattle.std.specs.FinMap as map
use Rattle.sqlite.specs.declared.types.Value.TheVariants.{Int, Text as Words}
use Rattle.sqlite.specs.Order.{Row, column}
use Rattle.sqlite.specs.Tree.{Trees}
use Rattle.sqlite_rules.specs.Edit.{id_in}
use Rattle.sqlite_rules.specs.Lists.{Has}
use Rattle.imap_names.specs.Name.{Name}
use Rattle.imap_world.specs.Mailbox.{Mailbox}
use Rattle.imap_world.specs.World.{World}
use Rattle.imap_tables.specs.Edits.{Adds, HasId, IsBelow, IsMarkOf, IsMessageOf, Removes, Replaces, counted_row, flagged_row}
use Rattle.imap_records.specs.Standing.{AreRows, Child, IsEpoch, IsMailbox, IsOf, IsSubscription, IsUnder, Kept}
use Rattle.imap_records.specs.Standing.{entries, messages, gone, marks}
use Rattle.imap_records.proofs.Rows.{rows_alike, same_rows, rows_added, rows_left, rows_replaced}
use Rattle.imap_records.proofs.Rows.{mailbox_stays, acl_stays, message_stays, gone_stays, mark_stays, epoch_stays, sub_stays}

-- the number of a value
pub same_id : (a b : ℤ) → Int a ≡ Int b → a ≡ b
same_id a b e = ap id_in e

-- what is below a mailbox begins with its id
pub first_of : (child : Child) (m : Mailbox) (k : Kept) (n : ℤ) (v : Row) → IsOf child m k n v → column v 0 ≡ Int n
first_of entries m k n v h = ap (λ (w : Row). column w 0) h.shown
first_of messages m k n v h = ap (λ (w : Row). column w 0) h.shown
first_of gone m k n v h = ap (λ (w : Row). column w 0) h.shown
first_of marks m k n v h = ap (λ (w : Row). column w 0) h.shown

-- the id is none of those of the world
abbrev pub IsFree : World → (id : Name → ℤ) → (i : ℤ) → Type 0
IsFree world id i = (q : Name) (k : Mailbox) → map.get world.mailboxes q ≡ Some k → id q ≢ i

-- the values are of the message with this UID
abbrev pub IsIt : (i : ℤ) (uid : ℕ) → Row → Type 0
IsIt i uid v = (column v 0 ≡ Int i) × (column v 1 ≡ Int (pos uid))

-- the values are of the user's own change at this place
abbrev pub IsMarkAt : (i : ℤ) (user : List ℕ) (place : ℤ) → Row → Type 0
IsMarkAt i user place v = (column v 0 ≡ Int i) × (column v 1 ≡ Words user) × (column v 2 ≡ Int place)

-- the values with other flags
abbrev pub with_flags : (flags : ℕ) (keywords : List ℕ) (place : ℤ) → Row → Row
with_flags flags keywords place v =
    column v 0 ∷ column v 1 ∷ column v 2 ∷ column v 3 ∷ Int (pos flags) ∷ Words keywords ∷ Int place ∷ []

module _ (B : World) (id : Name → ℤ) (kept : Name → Kept) where
  -- the rows are those of the world, and beside them one of a mailbox, and those below it
  pub record IsBeside (db : Trees) (own : Row) (E M G K : Row → Type 0) : Type 0 where
    pub mailboxes : (row : Row) → Has (db 0) row ↔ ((row ≡ own) ⊎ IsMailbox B id row)
    pub acl : AreRows (db 2) (λ v. E v ⊎ IsUnder B id kept entries v)
    pub there : AreRows (db 4) (λ v. M v ⊎ IsUnder B id kept messages v)
    pub went : AreRows (db 6) (λ v. G v ⊎ IsUnder B id kept gone v)
    pub seen : AreRows (db 8) (λ v. K v ⊎ IsUnder B id kept marks v)
    pub epochs : AreRows (db 10) (IsEpoch B.epochs)
    pub subscriptions : AreRows (db 12) (IsSubscription B)

  -- ---- said otherwise

  pub alike : (db : Trees) (own : Row) (E M G K : Row → Type 0) → IsBeside db own E M G K → (E' M' G' K' : Row → Type 0) → ((v : Row) → E v ↔ E' v) → ((v : Row) → M v ↔ M' v) → ((v : Row) → G v ↔ G' v) → ((v : Row) → K v ↔ K' v) → IsBeside db own E' M' G' K'
  alike db own E M G K b E' M' G' K' e m g k = record {
    mailboxes = b.mailboxes;
    acl = either (db 2) E E' (IsUnder B id kept entries) e b.acl;
    there = either (db 4) M M' (IsUnder B id kept messages) m b.there;
    went = either (db 6) G G' (IsUnder B id kept gone) g b.went;
    seen = either (db 8) K K' (IsUnder B id kept marks) k b.seen;
    epochs = b.epochs;
    subscriptions = b.subscriptions;
  }
    where
      either : (rows : List Row) (P Q U : Row → Type 0) → ((v : Row) → P v ↔ Q v) → AreRows rows (λ v. P v ⊎ U v) → AreRows rows (λ v. Q v ⊎ U v)
      either rows P Q U iff are = rows_alike rows (λ v. P v ⊎ U v) (λ v. Q v ⊎ U v) to from are
        where
          to : (v : Row) → P v ⊎ U v → Q v ⊎ U v
          to v (inl p) = inl ((iff v).0 p)
          to v (inr u) = inr u

          from : (v : Row) → Q v ⊎ U v → P v ⊎ U v
          from v (inl q) = inl ((iff v).1 q)
          from v (inr u) = inr u

  -- ---- one row more

  one_more : (rows : List Row) (P U : Row → Type 0) (w : Row) → AreRows rows (λ v. (P v ⊎ U v) ⊎ (v ≡ w)) → AreRows rows (λ v. (P v ⊎ (v ≡ w)) ⊎ U v)
  one_more rows P U w are = rows_alike rows (λ v. (P v ⊎ U v) ⊎ (v ≡ w)) (λ v. (P v ⊎ (v ≡ w)) ⊎ U v) to from are
    where
      to : (v : Row) → (P v ⊎ U v) ⊎ (v ≡ w) → (P v ⊎ (v ≡ w)) ⊎ U v
      to v (inl (inl p)) = inl (inl p)
      to v (inl (inr u)) = inr u
      to v (inr is) = inl (inr is)

      from : (v : Row) → (P v ⊎ (v ≡ w)) ⊎ U v → (P v ⊎ U v) ⊎ (v ≡ w)
      from v (inl (inl p)) = inl (inl p)
      from v (inl (inr is)) = inr is
      from v (inr u) = inl (inr u)

  module _ (db new : Trees) (own : Row) (E M G K : Row → Type 0) (b : IsBeside db own E M G K) where
    same_mailboxes : new 0 ≡ db 0 → (row : Row) → Has (new 0) row ↔ ((row ≡ own) ⊎ IsMailbox B id row)
    same_mailboxes e row = subst (λ (rows : List Row). Has rows row ↔ ((row ≡ own) ⊎ IsMailbox B id row)) (sym e) (b.mailboxes row)

    pub entry_added : (w : Row) → Adds db new 2 (λ (n : ℤ). Int n ∷ w) → IsBeside new own (λ v. E v ⊎ (v ≡ w)) M G K
    entry_added w adds = record {
      mailboxes = same_mailboxes (mailbox_stays db new 2 adds.others refl);
      acl = one_more (new 2) E (IsUnder B id kept entries) w (rows_added db new 2 (λ v. E v ⊎ IsUnder B id kept entries v) b.acl w adds);
      there = same_rows (db 4) (new 4) _ (message_stays db new 2 adds.others refl) b.there;
      went = same_rows (db 6) (new 6) _ (gone_stays db new 2 adds.others refl) b.went;
      seen = same_rows (db 8) (new 8) _ (mark_stays db new 2 adds.others refl) b.seen;
      epochs = same_rows (db 10) (new 10) _ (epoch_stays db new 2 adds.others refl) b.epochs;
      subscriptions = same_rows (db 12) (new 12) _ (sub_stays db new 2 adds.others refl) b.subscriptions;
    }

    pub message_added : (w : Row) → Adds db new 4 (λ (n : ℤ). Int n ∷ w) → IsBeside new own E (λ v. M v ⊎ (v ≡ w)) G K
    message_added w adds = record {
      mailboxes = same_mailboxes (mailbox_stays db new 4 adds.others refl);
      acl = same_rows (db 2) (new 2) _ (acl_stays db new 4 adds.others refl) b.acl;
      there = one_more (new 4) M (IsUnder B id kept messages) w (rows_added db new 4 (λ v. M v ⊎ IsUnder B id kept messages v) b.there w adds);
      went = same_rows (db 6) (new 6) _ (gone_stays db new 4 adds.others refl) b.went;
      seen = same_rows (db 8) (new 8) _ (mark_stays db new 4 adds.others refl) b.seen;
      epochs = same_rows (db 10) (new 10) _ (epoch_stays db new 4 adds.others refl) b.epochs;
      subscriptions = same_rows (db 12) (new 12) _ (sub_stays db new 4 adds.others refl) b.subscriptions;
    }

    pub gone_added : (w : Row) → Adds db new 6 (λ (n : ℤ). Int n ∷ w) → IsBeside new own E M (λ v. G v ⊎ (v ≡ w)) K
    gone_added w adds = record {
      mailboxes = same_mailboxes (mailbox_stays db new 6 adds.others refl);
      acl = same_rows (db 2) (new 2) _ (acl_stays db new 6 adds.others refl) b.acl;
      there = same_rows (db 4) (new 4) _ (message_stays db new 6 adds.others refl) b.there;
      went = one_more (new 6) G (IsUnder B id kept gone) w (rows_added db new 6 (λ v. G v ⊎ IsUnder B id kept gone v) b.went w adds);
      seen = same_rows (db 8) (new 8) _ (mark_stays db new 6 adds.others refl) b.seen;
      epochs = same_rows (db 10) (new 10) _ (epoch_stays db new 6 adds.others refl) b.epochs;
      subscriptions = same_rows (db 12) (new 12) _ (sub_stays db new 6 adds.others refl) b.subscriptions;
    }

    pub mark_added : (w : Row) → Adds db new 8 (λ (n : ℤ). Int n ∷ w) → IsBeside new own E M G (λ v. K v ⊎ (v ≡ w))
    mark_added w adds = record {
      mailboxes = same_mailboxes (mailbox_stays db new 8 adds.others refl);
      acl = same_rows (db 2) (new 2) _ (acl_stays db new 8 adds.others refl) b.acl;
      there = same_rows (db 4) (new 4) _ (message_stays db new 8 adds.others refl) b.there;
      went = same_rows (db 6) (new 6) _ (gone_stays db new 8 adds.others refl) b.went;
      seen = one_more (new 8) K (IsUnder B id kept marks) w (rows_added db new 8 (λ v. K v ⊎ IsUnder B id kept marks v) b.seen w adds);
      epochs = same_rows (db 10) (new 10) _ (epoch_stays db new 8 adds.others refl) b.epochs;
      subscriptions = same_rows (db 12) (new 12) _ (sub_stays db new 8 adds.others refl) b.subscriptions;
    }

    -- ---- rows that go or change

    module _ (i : ℤ) (free : IsFree B id i) where
      -- what is below the others has other ids
      elsewhere : (child : Child) (v : Row) → IsUnder B id kept child v → column v 0 ≢ Int i
      elsewhere child v u e = free u.name u.mailbox u.there (same_id (id u.name) i (sym (first_of child u.mailbox (kept u.name) (id u.name) v u.shown) ∙ e))

      pub entries_removed : ((v : Row) → E v → column v 0 ≡ Int i) → Removes db new 2 (IsBelow i) → IsBeside new own (λ v. ⊥) M G K
      entries_removed under removes = record {
        mailboxes = same_mailboxes (mailbox_stays db new 2 removes.others refl);
        acl = rows_alike (new 2) (λ v. (E v ⊎ IsUnder B id kept entries v) × ¬ (column v 0 ≡ Int i)) (λ v. ⊥ ⊎ IsUnder B id kept entries v) to from
            (rows_left db new 2 (λ v. E v ⊎ IsUnder B id kept entries v) b.acl (IsBelow i) (λ v. column v 0 ≡ Int i) (λ n v h. h) (λ n v h. h) removes);
        there = same_rows (db 4) (new 4) _ (message_stays db new 2 removes.others refl) b.there;
        went = same_rows (db 6) (new 6) _ (gone_stays db new 2 removes.others refl) b.went;
        seen = same_rows (db 8) (new 8) _ (mark_stays db new 2 removes.others refl) b.seen;
        epochs = same_rows (db 10) (new 10) _ (epoch_stays db new 2 removes.others refl) b.epochs;
        subscriptions = same_rows (db 12) (new 12) _ (sub_stays db new 2 removes.others refl) b.subscriptions;
      }
        where
          to : (v : Row) → (E v ⊎ IsUnder B id kept entries v) × ¬ (column v 0 ≡ Int i) → ⊥ ⊎ IsUnder B id kept entries v
          to v (inl e, not) = absurd (not (under v e))
          to v (inr u, not) = inr u

          from : (v : Row) → ⊥ ⊎ IsUnder B id kept entries v → (E v ⊎ IsUnder B id kept entries v) × ¬ (column v 0 ≡ Int i)
          from v (inl none) = absurd none
          from v (inr u) = (inr u, elsewhere entries v u)

      pub message_removed : (uid : ℕ) → Removes db new 4 (IsMessageOf i uid) → IsBeside new own E (λ v. M v × ¬ IsIt i uid v) G K
      message_removed uid removes = record {
        mailboxes = same_mailboxes (mailbox_stays db new 4 removes.others refl);
        acl = same_rows (db 2) (new 2) _ (acl_stays db new 4 removes.others refl) b.acl;
        there = rows_alike (new 4) (λ v. (M v ⊎ IsUnder B id kept messages v) × ¬ IsIt i uid v) (λ v. (M v × ¬ IsIt i uid v) ⊎ IsUnder B id kept messages v) to from
            (rows_left db new 4 (λ v. M v ⊎ IsUnder B id kept messages v) b.there (IsMessageOf i uid) (IsIt i uid) (λ n v h. h) (λ n v h. h) removes);
        went = same_rows (db 6) (new 6) _ (gone_stays db new 4 removes.others refl) b.went;
        seen = same_rows (db 8) (new 8) _ (mark_stays db new 4 removes.others refl) b.seen;
        epochs = same_rows (db 10) (new 10) _ (epoch_stays db new 4 removes.others refl) b.epochs;
        subscriptions = same_rows (db 12) (new 12) _ (sub_stays db new 4 removes.others refl) b.subscriptions;
      }
        where
          to : (v : Row) → (M v ⊎ IsUnder B id kept messages v) × ¬ IsIt i uid v → (M v × ¬ IsIt i uid v) ⊎ IsUnder B id kept messages v
          to v (inl m, not) = inl (m, not)
          to v (inr u, not) = inr u

          from : (v : Row) → (M v × ¬ IsIt i uid v) ⊎ IsUnder B id kept messages v → (M v ⊎ IsUnder B id kept messages v) × ¬ IsIt i uid v
          from v (inl (m, not)) = (inl m, not)
          from v (inr u) = (inr u, λ it. elsewhere messages v u it.0)

      pub mark_removed : (user : List ℕ) (place : ℤ) → Removes db new 8 (IsMarkOf i user place) → IsBeside new own E M G (λ v. K v × ¬ IsMarkAt i user place v)
      mark_removed user place removes = record {
        mailboxes = same_mailboxes (mailbox_stays db new 8 removes.others refl);
        acl = same_rows (db 2) (new 2) _ (acl_stays db new 8 removes.others refl) b.acl;
        there = same_rows (db 4) (new 4) _ (message_stays db new 8 removes.others refl) b.there;
        went = same_rows (db 6) (new 6) _ (gone_stays db new 8 removes.others refl) b.went;
        seen = rows_alike (new 8) (λ v. (K v ⊎ IsUnder B id kept marks v) × ¬ IsMarkAt i user place v) (λ v. (K v × ¬ IsMarkAt i user place v) ⊎ IsUnder B id kept marks v) to from
            (rows_left db new 8 (λ v. K v ⊎ IsUnder B id kept marks v) b.seen (IsMarkOf i user place) (IsMarkAt i user place) (λ n v h. h) (λ n v h. h) removes);
        epochs = same_rows (db 10) (new 10) _ (epoch_stays db new 8 removes.others refl) b.epochs;
        subscriptions = same_rows (db 12) (new 12) _ (sub_stays db new 8 removes.others refl) b.subscriptions;
      }
        where
          to : (v : Row) → (K v ⊎ IsUnder B id kept marks v) × ¬ IsMarkAt i user place v → (K v × ¬ IsMarkAt i user place v) ⊎ IsUnder B id kept marks v
          to v (inl k, not) = inl (k, not)
          to v (inr u, not) = inr u

          from : (v : Row) → (K v × ¬ IsMarkAt i user place v) ⊎ IsUnder B id kept marks v → (K v ⊎ IsUnder B id kept marks v) × ¬ IsMarkAt i user place v
          from v (inl (k, not)) = (inl k, not)
          from v (inr u) = (inr u, λ it. elsewhere marks v u it.0)

      pub message_flagged : (uid flags : ℕ) (keywords : List ℕ) (place : ℤ) → Replaces db new 4 (IsMessageOf i uid) (flagged_row flags keywords place)
          → IsBeside new own E (λ v. (M v × ¬ IsIt i uid v) ⊎ ((u : Row) × M u × IsIt i uid u × (v ≡ with_flags flags keywords place u))) G K
      message_flagged uid flags keywords place replaces = record {
        mailboxes = same_mailboxes (mailbox_stays db new 4 replaces.others refl);
        acl = same_rows (db 2) (new 2) _ (acl_stays db new 4 replaces.others refl) b.acl;
        there = rows_alike (new 4)
            (λ v. ((M v ⊎ IsUnder B id kept messages v) × ¬ IsIt i uid v) ⊎ ((u : Row) × (M u ⊎ IsUnder B id kept messages u) × IsIt i uid u × (v ≡ with_flags flags keywords place u)))
            (λ v. ((M v × ¬ IsIt i uid v) ⊎ ((u : Row) × M u × IsIt i uid u × (v ≡ with_flags flags keywords place u))) ⊎ IsUnder B id kept messages v) to from
            (rows_replaced db new 4 (λ v. M v ⊎ IsUnder B id kept messages v) b.there (IsMessageOf i uid) (IsIt i uid) (λ n v h. h) (λ n v h. h) (flagged_row flags keywords place) (with_flags flags keywords place) (λ n v. refl) replaces);
        went = same_rows (db 6) (new 6) _ (gone_stays db new 4 replaces.others refl) b.went;
        seen = same_rows (db 8) (new 8) _ (mark_stays db new 4 replaces.others refl) b.seen;
        epochs = same_rows (db 10) (new 10) _ (epoch_stays db new 4 replaces.others refl) b.epochs;
        subscriptions = same_rows (db 12) (new 12) _ (sub_stays db new 4 replaces.others refl) b.subscriptions;
      }
        where
          to : (v : Row) → ((M v ⊎ IsUnder B id kept messages v) × ¬ IsIt i uid v) ⊎ ((u : Row) × (M u ⊎ IsUnder B id kept messages u) × IsIt i uid u × (v ≡ with_flags flags keywords place u))
              → ((M v × ¬ IsIt i uid v) ⊎ ((u : Row) × M u × IsIt i uid u × (v ≡ with_flags flags keywords place u))) ⊎ IsUnder B id kept messages v
          to v (inl (inl m, not)) = inl (inl (m, not))
          to v (inl (inr u, not)) = inr u
          to v (inr (w, inl m, it, is)) = inl (inr (w, m, it, is))
          to v (inr (w, inr u, it, is)) = absurd (elsewhere messages w u it.0)

          from : (v : Row) → ((M v × ¬ IsIt i uid v) ⊎ ((u : Row) × M u × IsIt i uid u × (v ≡ with_flags flags keywords place u))) ⊎ IsUnder B id kept messages v
              → ((M v ⊎ IsUnder B id kept messages v) × ¬ IsIt i uid v) ⊎ ((u : Row) × (M u ⊎ IsUnder B id kept messages u) × IsIt i uid u × (v ≡ with_flags flags keywords place u))
          from v (inl (inl (m, not))) = inl (inl m, not)
          from v (inl (inr (w, m, it, is))) = inr (w, inl m, it, is)
          from v (inr u) = inl (inr u, λ it. elsewhere messages v u it.0)

      -- its numbers change
      pub mailbox_counted : column own 0 ≡ Int i → (uidnext : ℕ) (shared : ℤ) → Replaces db new 0 (HasId i) (counted_row uidnext shared)
          → IsBeside new (counted_row uidnext shared own) E M G K
      mailbox_counted has uidnext shared replaces = record {
        mailboxes = λ row. (to row, from row);
        acl = same_rows (db 2) (new 2) _ (acl_stays db new 0 replaces.others refl) b.acl;
        there = same_rows (db 4) (new 4) _ (message_stays db new 0 replaces.others refl) b.there;
        went = same_rows (db 6) (new 6) _ (gone_stays db new 0 replaces.others refl) b.went;
        seen = same_rows (db 8) (new 8) _ (mark_stays db new 0 replaces.others refl) b.seen;
        epochs = same_rows (db 10) (new 10) _ (epoch_stays db new 0 replaces.others refl) b.epochs;
        subscriptions = same_rows (db 12) (new 12) _ (sub_stays db new 0 replaces.others refl) b.subscriptions;
      }
        where
          other : (row : Row) → IsMailbox B id row → ¬ HasId i row
          other row m e = free m.name m.mailbox m.there (same_id (id m.name) i (sym (ap (λ (w : Row). column w 0) m.shown) ∙ e))

          left : (row : Row) → ¬ HasId i row → (row ≡ own) ⊎ IsMailbox B id row → (row ≡ counted_row uidnext shared own) ⊎ IsMailbox B id row
          left row not (inl is) = absurd (not (ap (λ (w : Row). column w 0) is ∙ has))
          left row not (inr m) = inr m

          changed : (row was : Row) → HasId i was → row ≡ counted_row uidnext shared was → (was ≡ own) ⊎ IsMailbox B id was → (row ≡ counted_row uidnext shared own) ⊎ IsMailbox B id row
          changed row was hit is (inl same) = inl (is ∙ ap (counted_row uidnext shared) same)
          changed row was hit is (inr m) = absurd (other was m hit)

          only : (row : Row) → (Has (db 0) row × ¬ HasId i row) ⊎ ((was : Row) × Has (db 0) was × HasId i was × (row ≡ counted_row uidnext shared was)) → (row ≡ counted_row uidnext shared own) ⊎ IsMailbox B id row
          only row (inl (was, not)) = left row not ((b.mailboxes row).0 was)
          only row (inr (was, there, hit, is)) = changed row was hit is ((b.mailboxes was).0 there)

          to : (row : Row) → Has (new 0) row → (row ≡ counted_row uidnext shared own) ⊎ IsMailbox B id row
          to row there = only row (replaces.only row there)

          from : (row : Row) → (row ≡ counted_row uidnext shared own) ⊎ IsMailbox B id row → Has (new 0) row
          from row (inl is) = subst (λ (r : Row). Has (new 0) r) (sym is) (replaces.replaced own ((b.mailboxes own).1 (inl refl)) has)
          from row (inr m) = replaces.kept row ((b.mailboxes row).1 (inr m)) (other row m)
