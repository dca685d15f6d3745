-- The rows of users' own changes are those of a world.
use Rattle.std.proofs.Common.{◌≡◌, ◌⊎◌, inl, inr, ℕ, ℤ, pos, List, [], ◌∷◌, map, Option, Some, None, refl, sym, ap, subst, ◌∙◌}
use Rattle.std.specs.Prelude.{bytes_eq, string_bytes}
use Rattle.std.specs.FinMap as fin
use Rattle.std.specs.Ordering.{int_eq}
use Rattle.std.proofs.lemmas.Slice.Eq.{bytes_eq-Decides}
use Rattle.std.proofs.lemmas.List.Sorted.{IsPermutation-sym}
use Rattle.sqlite.specs.Tree.{Trees}
use Rattle.sqlite.specs.declared.types.Value.TheVariants.{Int, Text as Words}
use Rattle.sqlite_rules.specs.Lists.{Has}
use Rattle.sqlite_rules.proofs.ListLemmas.{has_filtered, has_kept}
use Rattle.sqlite_rules.proofs.ProbeLemmas.{has_mapped, mapped_has}
use Rattle.imap_mailbox.specs.declared.kept_change.KeptChange.{KeptChange}
use Rattle.imap_mailbox.specs.KeptRows.{AreKept}
use Rattle.imap_mailbox.specs.UserChange.{UserChange, of_user, row_of, rows_of_user}
use Rattle.imap_names.specs.Name.{Name}
use Rattle.imap_records.specs.Columns.{mark_values}
use Rattle.imap_records.specs.Standing.{AreAllFound, AreFound, AreRows, IsMark as MarkOf, IsUnder, Kept, marks}
use Rattle.imap_tables.specs.Rows.{flag_of}
use Rattle.imap_tables.specs.declared.stored.StoredSeenFlag.{StoredSeenFlag}
use Rattle.imap_world.specs.Mailbox.{Mailbox}
use Rattle.imap_world.specs.World.{World}
use Rattle.imap_restore.specs.Parts.{IsChangeFor}
use Rattle.imap_restore.proofs.Children.{above, same_test, tested}
use Rattle.imap_restore.proofs.UserChanges.{change_of, mark_shown, same_own}
use Rattle.imap_restore.proofs.Owners.{Owner, Read, id, id_by, owner}
use Rattle.imap_restore.proofs.Listed.{has_moved}
use Rattle.imap_restore.proofs.Matching.{filtered_zip, zip_filtered}
use Rattle.imap_restore.proofs.TableRows.{mark_is, mark_rows}

-- one change at most is read of a row
one_change : (x : StoredSeenFlag) (y z : UserChange) → IsChangeFor x y → IsChangeFor x z → y ≡ z
one_change x y z a b = same_own (pos 0) (pos 0) y z (mark_shown x y a (pos 0) ∙ sym (mark_shown x z b (pos 0)))

same_some : {X : Type 0} (x y : X) → ◌≡◌ {A = Option X} (Some x) (Some y) → x ≡ y
same_some x y e = cc e

module _ (db : Trees) (w : World) (c : Read db w) where
  -- ---- which are kept

  abbrev kept_by : (name : Name) (o : Option Mailbox) → fin.get w.mailboxes name ≡ o → Kept
  kept_by name None is user = []
  kept_by name (Some m) is user = rows_of_user user (owner db w c name m is).1.is.messages.own.0

  abbrev pub kept : Name → Kept
  kept name = kept_by name (fin.get w.mailboxes name) refl

  pub all_found : AreAllFound w kept
  all_found name m there = by (fin.get w.mailboxes name) refl there
    where
      by : (p : Option Mailbox) (is : fin.get w.mailboxes name ≡ p) → p ≡ Some m → AreFound (kept_by name p is) m.messages
      by None is e = absurd (cc e)
      by (Some k) is e =
          let parts = (owner db w c name k is).1.is.messages in
          subst (λ (n : Mailbox). AreFound (kept_by name (Some k) is) n.messages) (same_some k m e)
          (record { order = λ user. subst (λ s. AreKept 0 0 s (rows_of_user user parts.own.0)) (sym parts.shared) (parts.own.2 user).0; found = λ user. (parts.own.2 user).1 })

  -- a row of the table is read as the change
  pub record IsReadOf (i : ℤ) (user : List ℕ) (k : KeptChange) : Type 0 where
    pub row : StoredSeenFlag
    pub listed : Has c.rows.t.marks.items row
    pub below : row.mailbox ≡ i
    pub is : IsChangeFor row (change_of user k)

  kept_to : (name : Name) (m : Mailbox) (is : fin.get w.mailboxes name ≡ Some m) (user : List ℕ) (k : KeptChange) → Has (kept_by name (Some m) is user) k → IsReadOf (id_by db w c name (Some m) is) user k
  kept_to name m is user k h =
      let o = owner db w c name m is in
      let own = o.1.is.messages.own in
      let y = has_mapped row_of (of_user user own.0) k h in
      let of = has_filtered (λ (d : UserChange). bytes_eq d.user user) own.0 y.0 y.1 in
      let there = has_moved own.0 o.1.row.messages.own.items (IsPermutation-sym o.1.row.messages.own.items own.0 own.1) y.0 of.0 in
      let x = filtered_zip IsChangeFor (λ (r : StoredSeenFlag). int_eq r.mailbox o.0.id) c.rows.t.marks.items o.1.row.messages.own.items o.1.for_it.messages.own y.0 there in
      let same : y.0 ≡ change_of user k = λ i. change_of ((bytes_eq-Decides y.0.user user).0 of.1 i) (sym y.2 i) in
      record { row = x.0; listed = x.1; below = tested x.0.mailbox o.0.id x.2; is = subst (IsChangeFor x.0) same x.3 }

  kept_from : (name : Name) (m : Mailbox) (is : fin.get w.mailboxes name ≡ Some m) (user : List ℕ) (k : KeptChange) → IsReadOf (id_by db w c name (Some m) is) user k → Has (kept_by name (Some m) is user) k
  kept_from name m is user k r =
      let o = owner db w c name m is in
      let own = o.1.is.messages.own in
      let y = zip_filtered IsChangeFor (λ (r : StoredSeenFlag). int_eq r.mailbox o.0.id) c.rows.t.marks.items o.1.row.messages.own.items o.1.for_it.messages.own r.row r.listed (same_test r.row.mailbox o.0.id r.below) in
      let same : y.0 ≡ change_of user k = one_change r.row y.0 (change_of user k) y.2 r.is in
      let there : Has own.0 (change_of user k) = subst (Has own.0) same (has_moved o.1.row.messages.own.items own.0 own.1 y.0 y.1) in
      mapped_has row_of (of_user user own.0) (change_of user k) (has_kept (λ (d : UserChange). bytes_eq d.user user) own.0 (change_of user k) there ((bytes_eq-Decides user user).1 refl))

  all_to : (name : Name) (m : Mailbox) → fin.get w.mailboxes name ≡ Some m → (user : List ℕ) (k : KeptChange) → Has (kept name user) k → IsReadOf (id db w c name) user k
  all_to name m there user k = by (fin.get w.mailboxes name) refl there
    where
      by : (p : Option Mailbox) (is : fin.get w.mailboxes name ≡ p) → p ≡ Some m → Has (kept_by name p is user) k → IsReadOf (id_by db w c name p is) user k
      by None is e h = absurd h
      by (Some n) is e h = kept_to name n is user k h

  all_from : (name : Name) (m : Mailbox) → fin.get w.mailboxes name ≡ Some m → (user : List ℕ) (k : KeptChange) → IsReadOf (id db w c name) user k → Has (kept name user) k
  all_from name m there user k = by (fin.get w.mailboxes name) refl there
    where
      by : (p : Option Mailbox) (is : fin.get w.mailboxes name ≡ p) → p ≡ Some m → IsReadOf (id_by db w c name p is) user k → Has (kept_by name p is user) k
      by None is e r = absurd (cc e)
      by (Some n) is e r = kept_from name n is user k r

  -- ---- their rows

  pub marks_stand : AreRows (db 8) (IsUnder w (id db w c) kept marks)
  marks_stand = record {
    sound = λ row h.
        let x = (mark_rows db c.rows).to row h in
        let form = mark_is db c.rows row h x.0 x.2 in
        let k = c.restored.known.marks x.0 x.1 in
        let a = above db w c x.0.mailbox k.0 k.1 k.2 in
        let y = zip_filtered IsChangeFor (λ (r : StoredSeenFlag). int_eq r.mailbox a.s.id) c.rows.t.marks.items a.it.by.row.messages.own.items a.it.by.for_it.messages.own x.0 x.1 (same_test x.0.mailbox a.s.id (sym a.same)) in
        let read : IsReadOf (id db w c a.it.name) y.0.user (row_of y.0) = record { row = x.0; listed = x.1; below = sym a.id_same; is = y.2 } in
        let shown = mark_shown x.0 y.0 y.2 (id db w c a.it.name) ∙ ap (λ n. Int n ∷ Words (string_bytes x.0.row.user) ∷ Int x.0.row.own ∷ Int x.0.row.before ∷ Int (pos x.0.row.uid) ∷ Int (flag_of x.0.row.seen) ∷ []) a.id_same in
        record {
          rowid = x.0.rowid;
          values = mark_values (id db w c a.it.name) y.0.user (row_of y.0);
          shown = form ∙ ap (λ v. Int x.0.rowid ∷ v) (sym shown);
          meant = record {
            name = a.it.name;
            mailbox = a.it.mailbox;
            there = a.it.there;
            shown = record { user = y.0.user; change = row_of y.0; there = all_from a.it.name a.it.mailbox a.it.there y.0.user (row_of y.0) read; shown = refl };
          };
        };
    complete = λ values u.
        let e : MarkOf (kept u.name) (id db w c u.name) values = u.shown in
        let r = all_to u.name u.mailbox u.there e.user e.change e.there in
        let row = (mark_rows db c.rows).from r.row r.listed in
        let form = mark_is db c.rows row.0 row.1 r.row row.2 in
        let shown = mark_shown r.row (change_of e.user e.change) r.is (id db w c u.name)
        ∙ ap (λ n. Int n ∷ Words (string_bytes r.row.row.user) ∷ Int r.row.row.own ∷ Int r.row.row.before ∷ Int (pos r.row.row.uid) ∷ Int (flag_of r.row.row.seen) ∷ []) (sym r.below) in
        (r.row.rowid, subst (Has (db 8)) (form ∙ ap (λ v. Int r.row.rowid ∷ v) (sym shown ∙ sym e.shown)) row.1);
  }
