-- What lists have.
use Rattle.std.proofs.Common.{◌≡◌, ℕ, ◌+◌, ◌<◌, Bool, true, false, cond, List, [], ◌∷◌, ◌++◌, length, get_or, map, filter, take, refl, sym, ap, ◌∙◌, subst, inl, inr}
use Rattle.std.specs.Prelude.{◌↔◌, ◌⊎◌}
use Rattle.std.specs.List.{Contains, flat_map}
use Rattle.std.proofs.lemmas.List.{take_more}
use Rattle.std.proofs.lemmas.List.Elements.{Contains-push, Contains-push_cases, Contains-append_left, Contains-append_right, Contains-append_cases}
use Rattle.imap_listing.proofs.Order.{holds_first, holds_later, first_or_later, none_held}

pub pushed : {X : Type 0} (xs : List X) (y n : X) → Contains (xs ++ y ∷ []) n ↔ (Contains xs n ⊎ (y ≡ n))
pushed {X} xs y n = (λ h. Contains-push_cases xs y n h, λ h. by h)
  where
    by : Contains xs n ⊎ (y ≡ n) → Contains (xs ++ y ∷ []) n
    by (inl h) = Contains-append_left xs (y ∷ []) n h
    by (inr e) = subst (λ (z : X). Contains (xs ++ y ∷ []) z) e (Contains-push xs y)

pub one_more : {X : Type 0} (xs : List X) (i : ℕ) (x n : X) → i < length xs → x ≡ get_or xs i x → Contains (take (i + 1) xs) n ↔ (Contains (take i xs) n ⊎ (x ≡ n))
one_more {X} xs i x n lt is =
    subst (λ (z : List X). Contains z n ↔ (Contains (take i xs) n ⊎ (x ≡ n))) (ap (λ z. take i xs ++ z ∷ []) is ∙ sym (take_more xs i x lt)) (pushed (take i xs) x n)

module _ {X : Type 0} where
  pub appended : (xs ys : List X) (n : X) → Contains (xs ++ ys) n ↔ (Contains xs n ⊎ Contains ys n)
  appended xs ys n = (λ c. Contains-append_cases xs ys n c, λ h. by h)
    where
      by : Contains xs n ⊎ Contains ys n → Contains (xs ++ ys) n
      by (inl c) = Contains-append_left xs ys n c
      by (inr c) = Contains-append_right xs ys n c

  pub filtered : (p : X → Bool) (xs : List X) (n : X) → Contains (filter p xs) n ↔ (Contains xs n × (p n ≡ true))
  filtered p [] n = (λ c. absurd (none_held n c), λ h. h.0)
  filtered p (x ∷ xs) n = at (filtered p xs n) (p x) refl
    where
      at : (Contains (filter p xs) n ↔ (Contains xs n × (p n ≡ true))) → (b : Bool) → p x ≡ b → Contains (cond b (x ∷ filter p xs) (filter p xs)) n ↔ (Contains (x ∷ xs) n × (p n ≡ true))
      at h true e = (λ c. forth (first_or_later x (filter p xs) n c), λ k. back k.1 (first_or_later x xs n k.0))
        where
          forth : (x ≡ n) ⊎ Contains (filter p xs) n → Contains (x ∷ xs) n × (p n ≡ true)
          forth (inl q) = (subst (λ (z : X). Contains (x ∷ xs) z) q (holds_first x xs), ap p (sym q) ∙ e)
          forth (inr c) = (holds_later x xs n (h.0 c).0, (h.0 c).1)

          back : p n ≡ true → (x ≡ n) ⊎ Contains xs n → Contains (x ∷ filter p xs) n
          back t (inl q) = subst (λ (z : X). Contains (x ∷ filter p xs) z) q (holds_first x (filter p xs))
          back t (inr c) = holds_later x (filter p xs) n (h.1 (c, t))
      at h false e = (λ c. (holds_later x xs n (h.0 c).0, (h.0 c).1), λ k. back k.1 (first_or_later x xs n k.0))
        where
          back : p n ≡ true → (x ≡ n) ⊎ Contains xs n → Contains (filter p xs) n
          back t (inl q) = let no_way : true ≡ false = sym t ∙ ap p (sym q) ∙ e in cc
          back t (inr c) = h.1 (c, t)

module _ {X Y : Type 0} (f : X → Y) where
  pub mapped : (xs : List X) (n : Y) → Contains (map f xs) n ↔ ((x : X) × Contains xs x × (f x ≡ n))
  mapped [] n = (λ c. absurd (none_held n c), λ h. absurd (none_held h.0 h.1))
  mapped (x ∷ xs) n = (λ c. forth (mapped xs n).0 (first_or_later (f x) (map f xs) n c), λ h. back (mapped xs n).1 h.0 h.2 (first_or_later x xs h.0 h.1))
    where
      forth : (Contains (map f xs) n → (y : X) × Contains xs y × (f y ≡ n)) → (f x ≡ n) ⊎ Contains (map f xs) n → (y : X) × Contains (x ∷ xs) y × (f y ≡ n)
      forth later (inl e) = (x, holds_first x xs, e)
      forth later (inr c) = let h = later c in (h.0, holds_later x xs h.0 h.1, h.2)

      back : ((y : X) × Contains xs y × (f y ≡ n) → Contains (map f xs) n) → (y : X) → f y ≡ n → (x ≡ y) ⊎ Contains xs y → Contains (f x ∷ map f xs) n
      back later y e (inl q) = subst (λ (z : Y). Contains (f x ∷ map f xs) z) (ap f q ∙ e) (holds_first (f x) (map f xs))
      back later y e (inr c) = holds_later (f x) (map f xs) n (later (y, c, e))

module _ {X Y : Type 0} (f : X → List Y) where
  pub flat_mapped : (xs : List X) (n : Y) → Contains (flat_map f xs) n ↔ ((x : X) × Contains xs x × Contains (f x) n)
  flat_mapped [] n = (λ c. absurd (none_held n c), λ h. absurd (none_held h.0 h.1))
  flat_mapped (x ∷ xs) n = (λ c. forth (flat_mapped xs n).0 ((appended (f x) (flat_map f xs) n).0 c), λ h. (appended (f x) (flat_map f xs) n).1 (back (flat_mapped xs n).1 h.0 h.2 (first_or_later x xs h.0 h.1)))
    where
      forth : (Contains (flat_map f xs) n → (y : X) × Contains xs y × Contains (f y) n) → Contains (f x) n ⊎ Contains (flat_map f xs) n → (y : X) × Contains (x ∷ xs) y × Contains (f y) n
      forth later (inl c) = (x, holds_first x xs, c)
      forth later (inr c) = let h = later c in (h.0, holds_later x xs h.0 h.1, h.2)

      back : ((y : X) × Contains xs y × Contains (f y) n → Contains (flat_map f xs) n) → (y : X) → Contains (f y) n → (x ≡ y) ⊎ Contains xs y → Contains (f x) n ⊎ Contains (flat_map f xs) n
      back later y c (inl q) = inl (subst (λ (z : X). Contains (f z) n) (sym q) c)
      back later y c (inr d) = inr (later (y, d, c))
