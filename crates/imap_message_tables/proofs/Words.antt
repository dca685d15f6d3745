-- Words in the order of their octets.
use Rattle.std.proofs.Common.{◌≡◌, ◌⊎◌, inl, inr, ℕ, Bool, true, false, cond, not, List, [], ◌∷◌, filter, refl, sym, ap, subst, ◌∙◌}
use Rattle.std.specs.Prelude.{bytes_eq}
use Rattle.std.specs.Cmp.Lexicographic.{nat_list_cmp_total, slice_cmp}
use Rattle.std.specs.Ordering.{nat_cmp, ordering_reverse}
use Rattle.std.specs.declared.cmp.Ordering.TheVariants.{Less}
use Rattle.std.proofs.lemmas.Bool.{cases_Bool, both_ways, not-true}
use Rattle.std.proofs.lemmas.Cmp.{tied_itself}
use Rattle.std.proofs.lemmas.Slice.Eq.{bytes_eq-Decides}
use Rattle.sqlite_rules.specs.Lists.{Has}
use Rattle.sqlite_rules.proofs.ListLemmas.{has_filtered, has_kept, some_from, some_has}
use Rattle.imap_message_tables.specs.Parts.{is_among, words_but}
use Rattle.imap_message_tables.specs.Split.{AreRising, IsBefore}

not_itself : (w : List ℕ) → slice_cmp nat_cmp w w ≡ Less → ⊥
not_itself w h = cc (sym h ∙ tied_itself nat_list_cmp_total w)

not_both : (a b : List ℕ) → slice_cmp nat_cmp a b ≡ Less → slice_cmp nat_cmp b a ≡ Less → ⊥
not_both a b h k = cc (sym k ∙ nat_list_cmp_total.antisymm b a ∙ ap ordering_reverse h)

pub before_has : (x : List ℕ) (ws : List (List ℕ)) (w : List ℕ) → IsBefore x ws → Has ws w → slice_cmp nat_cmp x w ≡ Less
before_has x [] w h none = absurd none
before_has x (y ∷ ws) w h (inl e) = subst (λ v. slice_cmp nat_cmp x v ≡ Less) (sym e) h.0
before_has x (y ∷ ws) w h (inr more) = before_has x ws w h.1 more

-- none of the words behind it is the same
pub not_behind : (x : List ℕ) (ws : List (List ℕ)) → IsBefore x ws → Has ws x → ⊥
not_behind x ws h there = not_itself x (before_has x ws x h there)

-- words that rise are known by which they are
pub same_words : (xs ys : List (List ℕ)) → AreRising xs → AreRising ys → ((w : List ℕ) → Has xs w → Has ys w) → ((w : List ℕ) → Has ys w → Has xs w) → xs ≡ ys
same_words [] [] rx ry to from = refl
same_words [] (y ∷ ys) rx ry to from = absurd (from y (inl refl))
same_words (x ∷ xs) [] rx ry to from = absurd (to x (inl refl))
same_words (x ∷ xs) (y ∷ ys) rx ry to from =
    λ i. first i ∷ same_words xs ys rx.1 ry.1 there back i
  where
    first : x ≡ y
    first = by (to x (inl refl)) (from y (inl refl))
      where
        by : Has (y ∷ ys) x → Has (x ∷ xs) y → x ≡ y
        by (inl e) k = e
        by (inr h) (inl e) = sym e
        by (inr h) (inr k) = absurd (not_both y x (before_has y ys x ry.0 h) (before_has x xs y rx.0 k))

    there : (w : List ℕ) → Has xs w → Has ys w
    there w h = by (to w (inr h))
      where
        by : Has (y ∷ ys) w → Has ys w
        by (inl e) = absurd (not_behind x xs rx.0 (subst (Has xs) (e ∙ sym first) h))
        by (inr k) = k

    back : (w : List ℕ) → Has ys w → Has xs w
    back w h = by (from w (inr h))
      where
        by : Has (x ∷ xs) w → Has xs w
        by (inl e) = absurd (not_behind y ys ry.0 (subst (Has ys) (e ∙ first) h))
        by (inr k) = k

-- ---- some of the words

before_some : (p : List ℕ → Bool) (x : List ℕ) (ws : List (List ℕ)) → IsBefore x ws → IsBefore x (filter p ws)
before_some p x [] h = h
before_some p x (w ∷ ws) h = go (p w) (before_some p x ws h.1)
  where
    go : (b : Bool) → IsBefore x (filter p ws) → IsBefore x (cond b (w ∷ filter p ws) (filter p ws))
    go true rest = (h.0, rest)
    go false rest = rest

pub rising_some : (p : List ℕ → Bool) (ws : List (List ℕ)) → AreRising ws → AreRising (filter p ws)
rising_some p [] h = h
rising_some p (w ∷ ws) h = go (p w) (rising_some p ws h.1)
  where
    go : (b : Bool) → AreRising (filter p ws) → AreRising (cond b (w ∷ filter p ws) (filter p ws))
    go true rest = (before_some p w ws h.0, rest)
    go false rest = rest

pub among_has : (ws : List (List ℕ)) (w : List ℕ) → is_among ws w ≡ true → Has ws w
among_has ws w e = let f = some_has (bytes_eq w) ws e in subst (Has ws) (sym ((bytes_eq-Decides w f.0).0 f.2)) f.1

pub has_among : (ws : List (List ℕ)) (w : List ℕ) → Has ws w → is_among ws w ≡ true
has_among ws w h = some_from (bytes_eq w) ws w h ((bytes_eq-Decides w w).1 refl)

pub among_or : (ws : List (List ℕ)) (w : List ℕ) → Has ws w ⊎ (Has ws w → ⊥)
among_or ws w = by (cases_Bool (is_among ws w))
  where
    by : (is_among ws w ≡ true) ⊎ (is_among ws w ≡ false) → Has ws w ⊎ (Has ws w → ⊥)
    by (inl e) = inl (among_has ws w e)
    by (inr e) = inr (λ h. both_ways _ e (has_among ws w h))

pub but_has : (ws others : List (List ℕ)) (w : List ℕ) → Has ws w → (Has others w → ⊥) → Has (words_but ws others) w
but_has ws others w h off = by (cases_Bool (is_among others w))
  where
    by : (is_among others w ≡ true) ⊎ (is_among others w ≡ false) → Has (words_but ws others) w
    by (inl e) = absurd (off (among_has others w e))
    by (inr e) = has_kept (λ v. not (is_among others v)) ws w h (ap not e)

pub has_but : (ws others : List (List ℕ)) (w : List ℕ) → Has (words_but ws others) w → Has ws w × (Has others w → ⊥)
has_but ws others w h =
    let k = has_filtered (λ v. not (is_among others v)) ws w h in
    (k.0, λ there. both_ways _ (not-true _ k.1) (has_among others w there))
