-- Several words of a message are put in or cut.
use Rattle.std.proofs.Common.{◌≡◌, ◌⊎◌, inl, inr, ℕ, ℤ, List, [], ◌∷◌, ◌++◌, map, refl, sym, ap, subst, ◌∙◌}
use Rattle.std.specs.Prelude.{◌↔◌}
use Rattle.sqlite.specs.declared.types.Value.TheVariants.{Text as Words}
use Rattle.sqlite.specs.Order.{Row, column}
use Rattle.sqlite.specs.Tree.{Trees}
use Rattle.sqlite_rules.specs.Lists.{Has}
use Rattle.imap_tables.specs.Edits.{Adds, IsMessageOf, KeepsOthers, Removes}
use Rattle.imap_message_tables.specs.Parts.{CutWord, MakesParts, Part, PutWord}
use Rattle.imap_tables.specs.Edits.{IsKeywordOf}
use Rattle.imap_tables.specs.Rows.{keyword_row}
use Rattle.imap_message_tables.specs.Split.{AreRising}
use Rattle.imap_message_tables.proofs.Keys.{same_text}
use Rattle.imap_message_tables.proofs.Stays.{keeps_then}
use Rattle.imap_message_tables.proofs.Words.{not_behind}

module _ (i : ℤ) (u : ℕ) where
  abbrev pub AreApartAt : Trees → Type 0
  AreApartAt db = (a b : Row) → IsMessageOf i u a → IsMessageOf i u b → Has (db 20) a → Has (db 20) b → column a 3 ≡ column b 3 → a ≡ b

  -- no row at the key has one of these words
  abbrev pub AreNew : List (List ℕ) → Trees → Type 0
  AreNew words db = (row : Row) (w : List ℕ) → IsMessageOf i u row → Has (db 20) row → Has words w → column row 3 ≡ Words w → ⊥

  abbrev pub IsPut : List (List ℕ) → Row → Type 0
  IsPut words row = (w : List ℕ) × (n : ℤ) × Has words w × (row ≡ keyword_row i u w n)

  pub record PutsAll (words : List (List ℕ)) (old new : Trees) : Type 0 where
    pub others : KeepsOthers old new 20
    pub kept : (row : Row) → Has (old 20) row → Has (new 20) row
    pub put : (w : List ℕ) → Has words w → (n : ℤ) × Has (new 20) (keyword_row i u w n)
    pub only : (row : Row) → Has (new 20) row → Has (old 20) row ⊎ IsPut words row
    pub apart : AreApartAt new

  -- one more word before the others
  module _ (w : List ℕ) (words : List (List ℕ)) (old mid new : Trees) (adds : Adds old mid 20 (keyword_row i u w)) (fresh : AreNew (w ∷ words) old) where
    near : AreApartAt old → (a b : Row) → IsMessageOf i u a → IsMessageOf i u b → (a ≡ keyword_row i u w adds.id) ⊎ Has (old 20) a → (b ≡ keyword_row i u w adds.id) ⊎ Has (old 20) b → column a 3 ≡ column b 3 → a ≡ b
    near apart a b at bt (inl e) (inl f) same = e ∙ sym f
    near apart a b at bt (inl e) (inr h) same = absurd (fresh b w bt h (inl refl) (sym same ∙ ap (λ (r : Row). column r 3) e))
    near apart a b at bt (inr h) (inl f) same = absurd (fresh a w at h (inl refl) (same ∙ ap (λ (r : Row). column r 3) f))
    near apart a b at bt (inr h) (inr k) same = apart a b at bt h k same

    nearer : AreApartAt old → AreApartAt mid
    nearer apart a b at bt h k same = near apart a b at bt (adds.only a h) (adds.only b k) same

    still : AreRising (w ∷ words) → AreNew words mid
    still rising row v at h there is = by (adds.only row h)
      where
        by : (row ≡ keyword_row i u w adds.id) ⊎ Has (old 20) row → ⊥
        by (inl e) = not_behind w words rising.0 (subst (Has words) (same_text v w (sym is ∙ ap (λ (r : Row). column r 3) e)) there)
        by (inr was) = fresh row v at was (inr there) is

    put_more : PutsAll words mid new → PutsAll (w ∷ words) old new
    put_more rest = record {
      others = keeps_then old mid new 20 adds.others rest.others;
      kept = λ row h. rest.kept row (adds.kept row h);
      put = put;
      only = λ row h. only row (rest.only row h);
      apart = rest.apart;
    }
      where
        put : (v : List ℕ) → Has (w ∷ words) v → (n : ℤ) × Has (new 20) (keyword_row i u v n)
        put v (inl e) = (adds.id, rest.kept (keyword_row i u v adds.id) (subst (λ x. Has (mid 20) (keyword_row i u x adds.id)) (sym e) adds.added))
        put v (inr h) = rest.put v h

        only : (row : Row) → Has (mid 20) row ⊎ IsPut words row → Has (old 20) row ⊎ IsPut (w ∷ words) row
        only row (inr (v, n, h, e)) = inr (v, n, inr h, e)
        only row (inl h) = by (adds.only row h)
          where
            by : (row ≡ keyword_row i u w adds.id) ⊎ Has (old 20) row → Has (old 20) row ⊎ IsPut (w ∷ words) row
            by (inl e) = inr (w, adds.id, inl refl, e)
            by (inr was) = inl was

  pub put_all : (words : List (List ℕ)) (old new : Trees) → MakesParts i u (map PutWord words) old new → AreRising words → AreNew words old → AreApartAt old → PutsAll words old new
  put_all [] old new made rising fresh apart = subst (PutsAll [] old) (sym made) (record {
    others = λ table listed off. refl;
    kept = λ row h. h;
    put = λ w none. absurd none;
    only = λ row h. inl h;
    apart = apart;
  })
  put_all (w ∷ words) old new (mid, adds, more) rising fresh apart =
      put_more w words old mid new adds fresh (put_all words mid new more rising.1 (still w words old mid new adds fresh rising) (nearer w words old mid new adds fresh apart))

  -- ---- cut

  pub record CutsAll (words : List (List ℕ)) (old new : Trees) : Type 0 where
    pub others : KeepsOthers old new 20
    pub left : (row : Row) → Has (new 20) row ↔ (Has (old 20) row × ((w : List ℕ) → Has words w → IsKeywordOf i u w row → ⊥))

  module _ (w : List ℕ) (words : List (List ℕ)) (old mid new : Trees) (cuts : Removes old mid 20 (IsKeywordOf i u w)) where
    cut_more : CutsAll words mid new → CutsAll (w ∷ words) old new
    cut_more rest = record {
      others = keeps_then old mid new 20 cuts.others rest.others;
      left = λ row. (to row, from row);
    }
      where
        to : (row : Row) → Has (new 20) row → Has (old 20) row × ((v : List ℕ) → Has (w ∷ words) v → IsKeywordOf i u v row → ⊥)
        to row h =
            let r = (rest.left row).0 h in
            let c = (cuts.left row).0 r.0 in
            (c.0, by r.1 c.1)
          where
            by : ((v : List ℕ) → Has words v → IsKeywordOf i u v row → ⊥) → (IsKeywordOf i u w row → ⊥) → (v : List ℕ) → Has (w ∷ words) v → IsKeywordOf i u v row → ⊥
            by later first v (inl e) it = first (subst (λ x. IsKeywordOf i u x row) e it)
            by later first v (inr k) it = later v k it

        from : (row : Row) → Has (old 20) row × ((v : List ℕ) → Has (w ∷ words) v → IsKeywordOf i u v row → ⊥) → Has (new 20) row
        from row h = (rest.left row).1 ((cuts.left row).1 (h.0, h.1 w (inl refl)), λ v k. h.1 v (inr k))

  pub cut_all : (words : List (List ℕ)) (old new : Trees) → MakesParts i u (map CutWord words) old new → CutsAll words old new
  cut_all [] old new made = subst (CutsAll [] old) (sym made) (record {
    others = λ table listed off. refl;
    left = λ row. (λ h. (h, λ w none it. absurd none), λ h. h.0);
  })
  cut_all (w ∷ words) old new (mid, cuts, more) = cut_more w words old mid new cuts (cut_all words mid new more)

  -- one part after the other
  pub parts_split : (first rest : List Part) (old new : Trees) → MakesParts i u (first ++ rest) old new
      → (mid : Trees) × MakesParts i u first old mid × MakesParts i u rest mid new
  parts_split [] rest old new h = (old, refl, h)
  parts_split (p ∷ first) rest old new (mid, one, more) =
      let (end, a, b) = parts_split first rest mid new more in
      (end, (mid, one, a), b)
