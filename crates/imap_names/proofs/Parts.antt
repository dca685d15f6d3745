-- The parts of a text between its delimiters.
use Rattle.std.proofs.Common.{◌≡◌, ◌≢◌, ℕ, zero, suc, ◌<◌, ◌+◌, Bool, true, false, cond, List, [], ◌∷◌, ◌++◌, length, take, drop, not, get_or, refl, sym, ap, ◌∙◌, arith, suc-le-suc, zero-le, append_assoc, Option, Some, None, MatchOption, Bor, lit<}
use Rattle.std.specs.List.{list_any, onto_first, join_with_byte, before_first, after_first, position_or_len}
use Rattle.std.proofs.lemmas.Bool.{or_parts, or_from, or_right, ne_eqb, cond-false}
use Rattle.std.proofs.lemmas.List.Folds.{list_any-append}
use Rattle.std.proofs.Math.Seq.{take-append_seam, drop-append-add}
use Rattle.std.proofs.lemmas.Str.Pattern.{IsSplitOnceResult, split_parts}
use Rattle.std.proofs.lemmas.List.Splits.{join_with_byte-slice_split}
use Rattle.imap_names.specs.Name.{name_of, path_of}
use Rattle.imap_names.specs.Text.{is_delimiter, components_of}
use Rattle.imap_names.proofs.NameLaws.{components-name_of, name_of-same}

pub undelimited : (text : List ℕ) → ((i : ℕ) → i < length text → get_or text i 0 ≢ 47) → list_any is_delimiter text ≡ false
undelimited [] none = refl
undelimited (c ∷ cs) none =
    or_from (is_delimiter c) (list_any is_delimiter cs) (ne_eqb c 47 (none zero (suc-le-suc zero-le)))
    (undelimited cs (λ i l. none (suc i) (suc-le-suc l)))

pub components_of-whole : (text : List ℕ) → list_any is_delimiter text ≡ false → components_of text ≡ text ∷ []
components_of-whole [] h = refl
components_of-whole (c ∷ cs) h =
    let parts = or_parts (is_delimiter c) (list_any is_delimiter cs) h in
    cond-false _ _ _ parts.0 ∙ ap (onto_first c) (components_of-whole cs parts.1)

pub components_of-front : (front rest : List ℕ) → list_any is_delimiter front ≡ false → components_of (front ++ 47 ∷ rest) ≡ front ∷ components_of rest
components_of-front [] rest h = refl
components_of-front (c ∷ cs) rest h =
    let parts = or_parts (is_delimiter c) (list_any is_delimiter cs) h in
    cond-false _ _ _ parts.0 ∙ ap (onto_first c) (components_of-front cs rest parts.1)

onto_first-some : (c : ℕ) (x : List ℕ) (xs ys : List (List ℕ)) → onto_first c ((x ∷ xs) ++ ys) ≡ onto_first c (x ∷ xs) ++ ys
onto_first-some c x xs ys = refl

-- there is always a part
pub record HasFirst (parts : List (List ℕ)) : Type 0 where
  pub first : List ℕ
  pub more : List (List ℕ)
  pub are : parts ≡ first ∷ more

abbrev first_of_two : (b : Bool) (c : ℕ) (parts : List (List ℕ)) → HasFirst parts → HasFirst (cond b ([] ∷ parts) (onto_first c parts))
first_of_two true c parts h = record { first = []; more = parts; are = refl }
first_of_two false c parts h = record { first = c ∷ h.first; more = h.more; are = ap (onto_first c) h.are }

pub components_of-first : (text : List ℕ) → HasFirst (components_of text)
components_of-first [] = record { first = []; more = []; are = refl }
components_of-first (c ∷ cs) = first_of_two (is_delimiter c) c (components_of cs) (components_of-first cs)

joined_parts : (b : Bool) (c : ℕ) (xs ys : List (List ℕ)) → HasFirst xs → cond b ([] ∷ (xs ++ ys)) (onto_first c (xs ++ ys)) ≡ cond b ([] ∷ xs) (onto_first c xs) ++ ys
joined_parts true c xs ys h = refl
joined_parts false c xs ys h = ap (λ z. onto_first c (z ++ ys)) h.are ∙ ap (λ z. onto_first c z ++ ys) (sym h.are)

-- the parts of two texts round a delimiter
pub components_of-joined : (front rest : List ℕ) → components_of (front ++ 47 ∷ rest) ≡ components_of front ++ components_of rest
components_of-joined [] rest = refl
components_of-joined (c ∷ cs) rest =
    ap (λ z. cond (is_delimiter c) ([] ∷ z) (onto_first c z)) (components_of-joined cs rest)
    ∙ joined_parts (is_delimiter c) c (components_of cs) (components_of rest) (components_of-first cs)

-- and the text of two lists of parts
pub join-append : (x : List ℕ) (xs : List (List ℕ)) (y : List ℕ) (ys : List (List ℕ)) → join_with_byte 47 ((x ∷ xs) ++ (y ∷ ys)) ≡ join_with_byte 47 (x ∷ xs) ++ 47 ∷ join_with_byte 47 (y ∷ ys)
join-append x [] y ys = refl
join-append x (z ∷ zs) y ys =
    ap (λ t. x ++ (47 ∷ t)) (join-append z zs y ys) ∙ sym (append_assoc x (47 ∷ join_with_byte 47 (z ∷ zs)) (47 ∷ join_with_byte 47 (y ∷ ys)))

pub join-components_of : (text : List ℕ) → join_with_byte 47 (components_of text) ≡ text
join-components_of text = join_with_byte-slice_split 47 text

pub path_of-name_of : (root : List ℕ) (parts : List (List ℕ)) → path_of (name_of root parts) ≡ join_with_byte 47 parts
path_of-name_of root parts = ap (join_with_byte 47) (components-name_of root parts)

pub path_of-text : (root text : List ℕ) → path_of (name_of root (components_of text)) ≡ text
path_of-text root text = path_of-name_of root (components_of text) ∙ join-components_of text

-- a root and a path make one name
pub name_of-text : (r s p q : List ℕ) → name_of r (components_of p) ≡ name_of s (components_of q) → (r ≡ s) × (p ≡ q)
name_of-text r s p q e =
    let parts = name_of-same r s (components_of p) (components_of q) e in
    (parts.0, sym (join-components_of p) ∙ ap (join_with_byte 47) parts.1 ∙ join-components_of q)

-- ---- the first delimiter

position-front : (front rest : List ℕ) → list_any is_delimiter front ≡ false → position_or_len is_delimiter (front ++ 47 ∷ rest) ≡ length front
position-front [] rest h = refl
position-front (c ∷ cs) rest h =
    let parts = or_parts (is_delimiter c) (list_any is_delimiter cs) h in
    ap (λ b. cond (not b) (1 + position_or_len is_delimiter (cs ++ 47 ∷ rest)) 0) parts.0
    ∙ ap (λ n. 1 + n) (position-front cs rest parts.1) ∙ omega arith

pub before_first-front : (front rest : List ℕ) → list_any is_delimiter front ≡ false → before_first is_delimiter (front ++ 47 ∷ rest) ≡ front
before_first-front front rest h =
    ap (λ n. take n (front ++ 47 ∷ rest)) (position-front front rest h) ∙ take-append_seam front (47 ∷ rest)

pub after_first-front : (front rest : List ℕ) → list_any is_delimiter front ≡ false → after_first is_delimiter (front ++ 47 ∷ rest) ≡ rest
after_first-front front rest h =
    ap (λ n. drop (n + 1) (front ++ 47 ∷ rest)) (position-front front rest h) ∙ drop-append-add front (47 ∷ rest) 1

pub list_any-delimited : (front rest : List ℕ) → list_any is_delimiter (front ++ 47 ∷ rest) ≡ true
list_any-delimited front rest =
    list_any-append is_delimiter front (47 ∷ rest) ∙ or_right (list_any is_delimiter front) (list_any is_delimiter (47 ∷ rest)) refl

-- ---- the clauses of calls

pub split_first : (text : List ℕ) (r : Option (Bor (List ℕ) × Bor (List ℕ))) → IsSplitOnceResult 47 text r → MatchOption r (list_any is_delimiter text ≡ false) (λ x. (text ≡ x.0.now ++ 47 ∷ x.1.now) × (list_any is_delimiter x.0.now ≡ false))
split_first text r h = by r (split_parts 47 text r h (lit< tt))
  where
    by : (r : Option (Bor (List ℕ) × Bor (List ℕ))) → MatchOption r ((i : ℕ) → i < length text → get_or text i 0 ≢ 47) (λ x. (text ≡ x.0.now ++ (47 ∷ x.1.now)) × ((i : ℕ) → i < length x.0.now → get_or x.0.now i 0 ≢ 47)) → MatchOption r (list_any is_delimiter text ≡ false) (λ x. (text ≡ x.0.now ++ 47 ∷ x.1.now) × (list_any is_delimiter x.0.now ≡ false))
    by None none = undelimited text none
    by (Some x) parts = (parts.0, undelimited x.0.now parts.1)
