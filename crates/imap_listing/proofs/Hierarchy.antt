-- The levels above names.
use Rattle.std.proofs.Common.{◌≡◌, ℕ, ◌+◌, ◌<◌, ◌≤◌, Bool, true, false, cond, ◌||◌, List, [], ◌∷◌, ◌++◌, length, get_or, map, take, drop, append_assoc, refl, sym, ap, ◌∙◌, subst, inl, inr}
use Rattle.std.specs.Prelude.{◌↔◌, ◌⊎◌}
use Rattle.std.specs.List.{Contains, list_any}
use Rattle.std.proofs.lemmas.Bool.{eqb-true, eq-eqb}
use Rattle.std.proofs.lemmas.List.{take_all}
use Rattle.imap_names.specs.Text.{is_delimiter}
use Rattle.imap_listing.specs.Texts.{Text, in_order, levels_above, levels, IsBelow, HasBelow}
use Rattle.imap_listing.proofs.Members.{pushed, one_more, mapped, flat_mapped}
use Rattle.imap_listing.proofs.Order.{holds_first, holds_later, first_or_later, none_held, same_in_order}

seam_found : (n rest : Text) → list_any is_delimiter (n ++ 47 ∷ rest) ≡ true
seam_found [] rest = refl
seam_found (o ∷ n) rest = ap (λ b. is_delimiter o || b) (seam_found n rest) ∙ or_true (is_delimiter o)
  where
    or_true : (b : Bool) → (b || true) ≡ true
    or_true true = refl
    or_true false = refl

seam_lacks : (n rest text : Text) → n ++ 47 ∷ rest ≡ text → list_any is_delimiter text ≡ false → ⊥
seam_lacks n rest text e h = let no_way : true ≡ false = sym (seam_found n rest) ∙ ap (list_any is_delimiter) e ∙ h in cc

-- above a text without a delimiter there is none
pub none_above : (text n : Text) → list_any is_delimiter text ≡ false → IsBelow n text → ⊥
none_above text n h b = seam_lacks n b.0 text (sym b.1) h

-- what is above a text is what stands before its last delimiter, or above that
parted : (n rest front back : Text) → n ++ 47 ∷ rest ≡ front ++ 47 ∷ back → list_any is_delimiter back ≡ false → (front ≡ n) ⊎ IsBelow n front
parted [] rest [] back e h = inl refl
parted [] rest (f ∷ front) back e h = inr (front, ap (λ z. z ∷ front) (sym (ap (λ z. get_or z 0 0) e)))
parted (m ∷ n) rest [] back e h = absurd (seam_lacks n rest back (ap (drop 1) e) h)
parted (m ∷ n) rest (f ∷ front) back e h = by (parted n rest front back (ap (drop 1) e) h)
  where
    head : m ≡ f
    head = ap (λ z. get_or z 0 0) e

    by : (front ≡ n) ⊎ IsBelow n front → (f ∷ front ≡ m ∷ n) ⊎ IsBelow (m ∷ n) (f ∷ front)
    by (inl q) = inl (λ i. sym head i ∷ q i)
    by (inr (r, q)) = inr (r, λ i. sym head i ∷ q i)

pub above_parts : (text front back n : Text) → text ≡ front ++ 47 ∷ back → list_any is_delimiter back ≡ false → IsBelow n text ↔ ((front ≡ n) ⊎ IsBelow n front)
above_parts text front back n e h = (λ b. parted n b.0 front back (sym b.1 ∙ e) h, λ k. by k)
  where
    by : (front ≡ n) ⊎ IsBelow n front → IsBelow n text
    by (inl q) = (back, e ∙ ap (λ z. z ++ 47 ∷ back) q)
    by (inr (r, q)) = (r ++ 47 ∷ back, e ∙ ap (λ z. z ++ 47 ∷ back) q ∙ append_assoc n (47 ∷ r) (47 ∷ back))

-- ---- the walk up from one name

-- the levels that are added, and what is above `rest`, are what is above the name
pub record Above (now before : List Text) (rest name : Text) : Type 0 where
  pub exact : (n : Text) → (Contains now n ⊎ IsBelow n rest) ↔ (Contains before n ⊎ IsBelow n name)

pub above_first : (before : List Text) (name : Text) → Above before before name name
above_first before name = record { exact = λ n. (λ h. h, λ h. h) }

pub above_more : (now new before : List Text) (rest front back name : Text) → Above now before rest name → rest ≡ front ++ 47 ∷ back → list_any is_delimiter back ≡ false → new ≡ now ++ front ∷ [] → Above new before front name
above_more now new before rest front back name h e lacks is = record { exact = λ n. (λ k. (h.exact n).0 (forth n k), λ k. back_to n ((h.exact n).1 k)) }
  where
    forth : (n : Text) → Contains new n ⊎ IsBelow n front → Contains now n ⊎ IsBelow n rest
    forth n (inl c) = by ((pushed now front n).0 (subst (λ (z : List Text). Contains z n) is c))
      where
        by : Contains now n ⊎ (front ≡ n) → Contains now n ⊎ IsBelow n rest
        by (inl d) = inl d
        by (inr q) = inr ((above_parts rest front back n e lacks).1 (inl q))
    forth n (inr b) = inr ((above_parts rest front back n e lacks).1 (inr b))

    back_to : (n : Text) → Contains now n ⊎ IsBelow n rest → Contains new n ⊎ IsBelow n front
    back_to n (inl c) = inl (subst (λ (z : List Text). Contains z n) (sym is) ((pushed now front n).1 (inl c)))
    back_to n (inr b) = by ((above_parts rest front back n e lacks).0 b)
      where
        by : (front ≡ n) ⊎ IsBelow n front → Contains new n ⊎ IsBelow n front
        by (inl q) = inl (subst (λ (z : List Text). Contains z n) (sym is) ((pushed now front n).1 (inr q)))
        by (inr d) = inr d

pub above_all : (now before : List Text) (rest name : Text) → Above now before rest name → list_any is_delimiter rest ≡ false → (n : Text) → Contains now n ↔ (Contains before n ⊎ IsBelow n name)
above_all now before rest name h lacks n = (λ c. (h.exact n).0 (inl c), λ k. by ((h.exact n).1 k))
  where
    by : Contains now n ⊎ IsBelow n rest → Contains now n
    by (inl c) = c
    by (inr b) = absurd (none_above rest n lacks b)

-- ---- of many names

pub record AllLevels (now walked : List Text) : Type 0 where
  pub exact : (n : Text) → Contains now n ↔ HasBelow walked n

-- the levels above a name are there
pub record HasLevelsOf (levels : List Text) (name : Text) : Type 0 where
  pub all : (n : Text) → IsBelow n name → Contains levels n

-- the empty text has none above it
pub none_of_empty : (levels : List Text) → HasLevelsOf levels []
none_of_empty levels = record { all = λ n b. absurd (none_above [] n refl b) }

-- those of a name whose levels are there already
pub no_more_levels : (now : List Text) (before name : Text) → ((n : Text) → IsBelow n before → Contains now n) → ((n : Text) → IsBelow n name ↔ IsBelow n before) → (n : Text) → Contains now n ↔ (Contains now n ⊎ IsBelow n name)
no_more_levels now before name there same n = (λ c. inl c, λ k. by k)
  where
    by : Contains now n ⊎ IsBelow n name → Contains now n
    by (inl c) = c
    by (inr b) = there n ((same n).0 b)

pub all_levels_first : (xs : List Text) → AllLevels [] (take 0 xs)
all_levels_first xs = record { exact = λ n. (λ h. absurd (none_held n h), λ (m, h, b). absurd (none_held m h)) }

pub all_levels_more : (now new xs : List Text) (i : ℕ) (x : Text) → i < length xs → x ≡ get_or xs i x → AllLevels now (take i xs) → ((n : Text) → Contains new n ↔ (Contains now n ⊎ IsBelow n x)) → AllLevels new (take (i + 1) xs)
all_levels_more now new xs i x lt is h s = record { exact = λ n. (λ k. forth n ((s n).0 k), λ k. (s n).1 (back n k)) }
  where
    forth : (n : Text) → Contains now n ⊎ IsBelow n x → HasBelow (take (i + 1) xs) n
    forth n (inl k) = let w = (h.exact n).0 k in (w.0, (one_more xs i x w.0 lt is).1 (inl w.1), w.2)
    forth n (inr b) = (x, (one_more xs i x x lt is).1 (inr refl), b)

    back : (n : Text) → HasBelow (take (i + 1) xs) n → Contains now n ⊎ IsBelow n x
    back n (m, c, b) = by ((one_more xs i x m lt is).0 c)
      where
        by : Contains (take i xs) m ⊎ (x ≡ m) → Contains now n ⊎ IsBelow n x
        by (inl d) = inl ((h.exact n).1 (m, d, b))
        by (inr e) = inr (subst (IsBelow n) (sym e) b)

pub all_levels_all : (now xs : List Text) (i : ℕ) → length xs ≤ i → AllLevels now (take i xs) → (n : Text) → Contains now n ↔ HasBelow xs n
all_levels_all now xs i le h n = subst (λ (z : List Text). Contains now n ↔ HasBelow z n) (take_all i xs le) (h.exact n)

-- ---- what the definition gives

abbrev Known : Text → Type 0
Known text = (m : Text) → Contains (levels_above text) m ↔ IsBelow m text

pub above_contained : (text n : Text) → Contains (levels_above text) n ↔ IsBelow n text
above_contained [] n = (λ c. absurd (none_held n c), λ b. absurd (nothing n b.0 b.1))
  where
    nothing : (m rest : Text) → [] ≡ m ++ 47 ∷ rest → ⊥
    nothing [] rest e = cc
    nothing (o ∷ m) rest e = cc
above_contained (octet ∷ text) n = at (λ m. above_contained text m) (is_delimiter octet) refl
  where
    deeper : List Text
    deeper = map (λ level. octet ∷ level) (levels_above text)

    from_deeper : Known text → Contains deeper n → IsBelow n (octet ∷ text)
    from_deeper known c =
        let h = (mapped (λ level. octet ∷ level) (levels_above text) n).0 c in
        let b = (known h.0).0 h.1 in
        (b.0, ap (λ z. octet ∷ z) b.1 ∙ ap (λ (z : Text). z ++ 47 ∷ b.0) h.2)

    to_deeper : Known text → (o : ℕ) (m rest : Text) → o ∷ m ≡ n → octet ∷ text ≡ (o ∷ m) ++ 47 ∷ rest → Contains deeper n
    to_deeper known o m rest is e =
        (mapped (λ level. octet ∷ level) (levels_above text) n).1
        (m, (known m).1 (rest, ap (drop 1) e), ap (λ z. z ∷ m) (ap (λ z. get_or z 0 0) e) ∙ is)

    first_level : Known text → is_delimiter octet ≡ true → ([] ≡ n) ⊎ Contains deeper n → IsBelow n (octet ∷ text)
    first_level known e (inl q) = (text, ap (λ z. z ∷ text) (eqb-true octet 47 e) ∙ ap (λ (z : Text). z ++ 47 ∷ text) q)
    first_level known e (inr c) = from_deeper known c

    with_first : Known text → (m : Text) → m ≡ n → (rest : Text) → octet ∷ text ≡ m ++ 47 ∷ rest → Contains ([] ∷ deeper) n
    with_first known [] is rest q = subst (λ (z : Text). Contains ([] ∷ deeper) z) is (holds_first [] deeper)
    with_first known (o ∷ m) is rest q = holds_later [] deeper n (to_deeper known o m rest is q)

    without_first : Known text → is_delimiter octet ≡ false → (m : Text) → m ≡ n → (rest : Text) → octet ∷ text ≡ m ++ 47 ∷ rest → Contains deeper n
    without_first known e [] is rest q = let no_way : true ≡ false = sym (eq-eqb octet 47 (ap (λ z. get_or z 0 0) q)) ∙ e in cc
    without_first known e (o ∷ m) is rest q = to_deeper known o m rest is q

    at : Known text → (b : Bool) → is_delimiter octet ≡ b → Contains (cond b ([] ∷ deeper) deeper) n ↔ IsBelow n (octet ∷ text)
    at known true e = (λ c. first_level known e (first_or_later [] deeper n c), λ b. with_first known n refl b.0 b.1)
    at known false e = (λ c. from_deeper known c, λ b. without_first known e n refl b.0 b.1)

pub levels_contained : (names : List Text) (n : Text) → Contains (levels names) n ↔ HasBelow names n
levels_contained names n = (λ c. forth c, λ h. back h)
  where
    forth : Contains (levels names) n → HasBelow names n
    forth c = let h = (flat_mapped levels_above names n).0 c in (h.0, h.1, (above_contained h.0 n).0 h.2)

    back : HasBelow names n → Contains (levels names) n
    back (m, c, b) = (flat_mapped levels_above names n).1 (m, c, (above_contained m n).1 b)

-- the levels that were found, in order
pub levels_in_order : (now names : List Text) → ((n : Text) → Contains now n ↔ HasBelow names n) → in_order now ≡ in_order (levels names)
levels_in_order now names found =
    same_in_order now (levels names) (λ n. (λ c. (levels_contained names n).1 ((found n).0 c), λ c. (found n).1 ((levels_contained names n).0 c)))
