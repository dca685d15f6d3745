-- Messages that go, one after another.
use Rattle.std.proofs.Common.{◌≡◌, ℕ, zero, suc, arith, ◌+◌, ◌<◌, Bool, true, false, cond, List, [], ◌∷◌, ◌++◌, append_assoc, add-one, drop, drop-cons, filter, get_or, length, Option, Some, None, is_some, refl, sym, ap, ◌∙◌}
use Rattle.imap_mailbox.specs.Lent.{place_in, row_uids}
use Rattle.imap_mailbox.specs.Rows.{Row, is_among}
use Rattle.imap_mailbox.proofs.Finding.{among_found, among_nowhere}

pub known_is_among : (uid : ℕ) (us : List ℕ) → is_some (place_in uid us) ≡ is_among uid us
known_is_among uid us = by (place_in uid us) refl
  where
    by : (o : Option ℕ) → place_in uid us ≡ o → is_some o ≡ is_among uid us
    by None e = sym (among_nowhere uid us e)
    by (Some i) e = sym (among_found uid us i e)

-- the row at a place
pub row_at_index : (rows : List Row) (index : ℕ) → index < length rows → (r : Row) × (r ≡ get_or rows index r)
row_at_index [] index within = absurd (omega (arith, within))
row_at_index (r ∷ rows) zero within = (r, refl)
row_at_index (r ∷ rows) (suc index) within = row_at_index rows index (omega (arith, within))

module _ (taken : Row → Bool) (rows : List Row) where
  abbrev later : ℕ → List ℕ
  later index = row_uids (filter taken (drop index rows))

  module _ (index : ℕ) (r : Row) (within : index < length rows) (is : r ≡ get_or rows index r) where
    abbrev chosen : Bool → List ℕ
    chosen b = row_uids (cond b (r ∷ filter taken (drop (index + 1) rows)) (filter taken (drop (index + 1) rows)))

    ahead : later index ≡ chosen (taken r)
    ahead =
        ap (λ rs. row_uids (filter taken rs)) (drop-cons rows index r within)
        ∙ λ j. row_uids (cond (taken (sym is j)) (sym is j ∷ filter taken (drop (sym (add-one index) j) rows)) (filter taken (drop (sym (add-one index) j) rows)))

    pub passed : (uids all : List ℕ) → taken r ≡ false → uids ++ later index ≡ all → uids ++ later (index + 1) ≡ all
    passed uids all not_taken before = ap (λ us. uids ++ us) (sym (ahead ∙ ap chosen not_taken)) ∙ before

    pub pushed : (uids new all : List ℕ) → new ≡ uids ++ r.uid ∷ [] → taken r ≡ true → uids ++ later index ≡ all → new ++ later (index + 1) ≡ all
    pushed uids new all made is_taken before =
        ap (λ us. us ++ later (index + 1)) made
        ∙ append_assoc uids (r.uid ∷ []) (later (index + 1))
        ∙ ap (λ us. uids ++ us) (sym (ahead ∙ ap chosen is_taken))
        ∙ before
