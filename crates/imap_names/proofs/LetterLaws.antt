-- The letters of a text by their places.
use Rattle.std.proofs.Common.{◌≡◌, ℕ, zero, suc, ◌+◌, ◌-◌, ◌<◌, ◌≤◌, Bool, true, false, not, cond, List, [], ◌∷◌, ◌++◌, length, get_or, take, drop, refl, sym, ap, ◌∙◌, subst, arith}
use Rattle.std.specs.Prelude.{◌&&◌, nat_le, nat_lt, nat_eq, codes}
use Rattle.std.specs.List.{list_any, onto_first, position_or_len, before_first, starts_with}
use Rattle.std.proofs.lemmas.Bool.Decides.{nat_tests}
use Rattle.std.proofs.lemmas.List.{take-append-drop, drop-drop, length-append}
use Rattle.std.proofs.Math.Seq.{drop-append_seam}
use Rattle.imap_names.specs.declared.letters.Letter.{Letter}
use Rattle.imap_names.specs.Letters.{plain, caseless, inbox_front, path_in, letters_of, lettered, blank}
use Rattle.imap_names.specs.Reading.{NameParts, other_parts}
use Rattle.imap_names.specs.declared.read.Namespace.TheVariants.{Personal, OtherUsers, Shared, Bare}
use Rattle.std.proofs.lemmas.Bool.{cond-true, cond-false}
use Rattle.imap_names.proofs.Parts.{HasFirst, components_of-first}
use Rattle.imap_names.specs.Text.{is_delimiter, components_of}
use Rattle.imap_names.specs.Valid.{is_inbox_word, is_prefix_word}

pub length-lettered : (b e : ℕ) (xs : List ℕ) → length (lettered b e xs) ≡ length xs
length-lettered b e [] = refl
length-lettered b e (x ∷ xs) = ap suc (length-lettered (b - 1) (e - 1) xs)

pub drop-lettered : (n b e : ℕ) (xs : List ℕ) → drop n (lettered b e xs) ≡ lettered (b - n) (e - n) (drop n xs)
drop-lettered zero b e xs =
    let p : b ≡ b - 0 = omega arith in
    let q : e ≡ e - 0 = omega arith in
    λ i. lettered (p i) (q i) xs
drop-lettered (suc n) b e [] = refl
drop-lettered (suc n) b e (x ∷ xs) =
    let p : b - 1 - n ≡ b - suc n = omega arith in
    let q : e - 1 - n ≡ e - suc n = omega arith in
    drop-lettered n (b - 1) (e - 1) xs ∙ (λ i. lettered (p i) (q i) (drop n xs))

further_begin : (b n : ℕ) → nat_le (b - 1) n ≡ nat_le b (suc n)
further_begin b n = grind (arith, nat_tests)

further_end : (e n : ℕ) → nat_lt n (e - 1) ≡ nat_lt (suc n) e
further_end e n = grind (arith, nat_tests)

pub at-lettered : (n b e : ℕ) (xs : List ℕ) → n < length xs → get_or (lettered b e xs) n blank ≡ record { octet = get_or xs n 0; any_case = nat_le b n && nat_lt n e }
at-lettered n b e [] lt = absurd (omega arith)
at-lettered zero b e (x ∷ xs) lt = refl
at-lettered (suc n) b e (x ∷ xs) lt =
    at-lettered n (b - 1) (e - 1) xs (omega arith)
    ∙ (λ i. record { octet = get_or xs n 0; any_case = further_begin b n i && further_end e n i })

-- ---- the parts of a text

plain_lettered : (xs : List ℕ) → plain xs ≡ lettered 0 0 xs
plain_lettered [] = refl
plain_lettered (x ∷ xs) = ap (λ z. record { octet = x; any_case = false } ∷ z) (plain_lettered xs)

caseless_lettered : (k : ℕ) (xs : List ℕ) → caseless (take k xs) ++ plain (drop k xs) ≡ lettered 0 k xs
caseless_lettered zero xs = plain_lettered xs
caseless_lettered (suc k) [] = refl
caseless_lettered (suc k) (x ∷ xs) =
    let some : true ≡ nat_lt 0 (suc k) = grind (arith, nat_tests) in
    let less : k ≡ suc k - 1 = omega arith in
    (λ i. record { octet = x; any_case = some i } ∷ caseless_lettered k xs i)
    ∙ ap (λ n. record { octet = x; any_case = nat_lt 0 (suc k) } ∷ lettered 0 n xs) less

pub parts_lettered : (b k : ℕ) (xs : List ℕ) → plain (take b xs) ++ (caseless (take k (drop b xs)) ++ plain (drop k (drop b xs))) ≡ lettered b (b + k) xs
parts_lettered zero k xs = let p : k ≡ 0 + k = omega arith in caseless_lettered k xs ∙ ap (λ n. lettered 0 n xs) p
parts_lettered (suc b) k [] = ends k
  where
    ends : (k : ℕ) → caseless (take k []) ++ plain (drop k []) ≡ []
    ends zero = refl
    ends (suc n) = refl
parts_lettered (suc b) k (x ∷ xs) =
    let none : false ≡ nat_le (suc b) 0 = grind (arith, nat_tests) in
    let p : b ≡ suc b - 1 = omega arith in
    let q : b + k ≡ suc b + k - 1 = omega arith in
    (λ i. record { octet = x; any_case = none i && nat_lt 0 (suc b + k) } ∷ parts_lettered b k xs i)
    ∙ (λ i. record { octet = x; any_case = nat_le (suc b) 0 && nat_lt 0 (suc b + k) } ∷ lettered (p i) (q i) xs)

-- ---- the path and its first component

take_part : (b : Bool) (n : ℕ) (xs : List ℕ) → take (length (cond b (take n xs) [])) xs ≡ cond b (take n xs) []
take_part false n xs = refl
take_part true n xs = by xs n
  where
    by : (ys : List ℕ) (m : ℕ) → take (length (take m ys)) ys ≡ take m ys
    by ys zero = refl
    by [] (suc m) = refl
    by (y ∷ ys) (suc m) = ap (λ z. y ∷ z) (by ys m)

pub front_is : (path : List ℕ) → take (length (inbox_front path)) path ≡ inbox_front path
front_is path = take_part (is_inbox_word (before_first is_delimiter path)) (position_or_len is_delimiter path) path

head_of : (x y : List ℕ) (xs ys : List (List ℕ)) → x ∷ xs ≡ y ∷ ys → x ≡ y
head_of x y xs ys e = cc

-- what stands before the first delimiter is the first component
first_by : (b : Bool) (c : ℕ) (cs : List ℕ) (n : ℕ) (parts : List (List ℕ)) (h : HasFirst parts) (first : List ℕ) (more : List (List ℕ)) → take n cs ≡ h.first → cond b ([] ∷ parts) (onto_first c parts) ≡ first ∷ more → take (cond (not b) (1 + n) 0) (c ∷ cs) ≡ first
first_by true c cs n parts h first more rest e = head_of [] first parts more e
first_by false c cs n parts h first more rest e =
    let same : (c ∷ h.first) ∷ h.more ≡ first ∷ more = sym (ap (onto_first c) h.are) ∙ e in
    let one : 1 + n ≡ suc n = omega arith in
    ap (λ k. take k (c ∷ cs)) one ∙ ap (λ z. c ∷ z) rest ∙ head_of (c ∷ h.first) first h.more more same

first_is : (path first : List ℕ) (more : List (List ℕ)) → components_of path ≡ first ∷ more → before_first is_delimiter path ≡ first
first_is [] first more e = head_of [] first [] more e
first_is (c ∷ cs) first more e =
    let h : HasFirst (components_of cs) = components_of-first cs in
    first_by (is_delimiter c) c cs (position_or_len is_delimiter cs) (components_of cs) h first more (first_is cs h.first h.more h.are) e

pub inbox_front-first : (path first : List ℕ) (more : List (List ℕ)) → components_of path ≡ first ∷ more → inbox_front path ≡ cond (is_inbox_word first) first []
inbox_front-first path first more e = ap (λ (z : List ℕ). cond (is_inbox_word z) z []) (first_is path first more e)

inbox_within : (path : List ℕ) → length (inbox_front path) ≤ length path
inbox_within path =
    let n : length (take (length (inbox_front path)) path) ≡ length (inbox_front path) = ap length (front_is path) in
    let m : length path ≡ length (take (length (inbox_front path)) path) + length (drop (length (inbox_front path)) path) =
    ap length (sym (take-append-drop (length (inbox_front path)) path)) ∙ length-append (take (length (inbox_front path)) path) (drop (length (inbox_front path)) path) in
    omega (arith, n, m)

pub inbox_len : (path first : List ℕ) (more : List (List ℕ)) → components_of path ≡ first ∷ more → is_inbox_word first ≡ true → (length first ≡ length (inbox_front path)) × (length first ≤ length path)
inbox_len path first more e word =
    let same : inbox_front path ≡ first = inbox_front-first path first more e ∙ cond-true _ _ _ word in
    (sym (ap length same), subst (λ (z : List ℕ). length z ≤ length path) same (inbox_within path))

pub no_inbox_len : (path first : List ℕ) (more : List (List ℕ)) → components_of path ≡ first ∷ more → is_inbox_word first ≡ false → 0 ≡ length (inbox_front path)
no_inbox_len path first more e word =
    let same : inbox_front path ≡ [] = inbox_front-first path first more e ∙ cond-false _ _ _ word in
    sym (ap length same)

pub record IsTail (tail text : List ℕ) : Type 0 where
  pub front : List ℕ
  pub are : text ≡ front ++ tail

tail_drop : (n : ℕ) (text : List ℕ) → IsTail (drop n text) text
tail_drop n text = record { front = take n text; are = sym (take-append-drop n text) }

tail_none : (text : List ℕ) → IsTail [] text
tail_none text = record { front = text; are = none text }
  where
    none : (xs : List ℕ) → xs ≡ xs ++ []
    none [] = refl
    none (x ∷ xs) = ap (λ z. x ∷ z) (none xs)

tail_tail : (n m : ℕ) (text : List ℕ) → IsTail (drop m (drop n text)) text
tail_tail n m text = subst (λ z. IsTail z text) (sym (drop-drop m n text)) (tail_drop (n + m) text)

-- the path of the parts that a test chooses
abbrev path_from : NameParts → List ℕ
path_from parts = parts.path

tail_other : (b : Bool) (n : ℕ) (text here : List ℕ) → IsTail (path_from (cond b (record { namespace = OtherUsers; owner = here; path = drop n (drop 12 text) }) (record { namespace = Bare; owner = drop 12 text; path = [] }))) text
tail_other true n text here = tail_tail 12 n text
tail_other false n text here = tail_none text

tail_by : (a b c : Bool) (text : List ℕ) → IsTail (path_from (cond a (record { namespace = Bare; owner = []; path = [] }) (cond b (record { namespace = Shared; owner = []; path = drop 7 text }) (cond c (other_parts (drop 12 text)) (record { namespace = Personal; owner = []; path = text }))))) text
tail_by true b c text = tail_none text
tail_by false true c text = tail_drop 7 text
tail_by false false true text = tail_other (list_any is_delimiter (drop 12 text)) (position_or_len is_delimiter (drop 12 text) + 1) text (before_first is_delimiter (drop 12 text))
tail_by false false false text = record { front = []; are = refl }

pub path_is_tail : (text : List ℕ) → IsTail (path_in text) text
path_is_tail text = tail_by (is_prefix_word text) (starts_with nat_eq text (codes "Shared/")) (starts_with nat_eq text (codes "Other Users/")) text

pub path_within : (text : List ℕ) → length (path_in text) ≤ length text
path_within text =
    let t = path_is_tail text in
    let n : length text ≡ length t.front + length (path_in text) = ap length t.are ∙ length-append t.front (path_in text) in
    omega (arith, n)

-- the path is what comes from its place on
path_at : (text : List ℕ) → drop (length text - length (path_in text)) text ≡ path_in text
path_at text =
    let t = path_is_tail text in
    let n : length text ≡ length t.front + length (path_in text) = ap length t.are ∙ length-append t.front (path_in text) in
    let m : length text - length (path_in text) ≡ length t.front = omega (arith, n) in
    (λ i. drop (m i) (t.are i)) ∙ drop-append_seam t.front (path_in text)

pub letters_are : (text : List ℕ) → letters_of text ≡ lettered (length text - length (path_in text)) (length text - length (path_in text) + length (inbox_front (path_in text))) text
letters_are text =
    let begin : ℕ = length text - length (path_in text) in
    let front : List ℕ = inbox_front (path_in text) in
    let path : List ℕ = path_in text in
    ap (λ z. plain (take begin text) ++ (caseless z ++ plain (drop (length front) path))) (sym (front_is path))
    ∙ ap (λ z. plain (take begin text) ++ (caseless (take (length front) z) ++ plain (drop (length front) z))) (sym (path_at text))
    ∙ parts_lettered begin (length front) text

-- ---- as the methods see them

pub view_length : (b e : ℕ) (xs : List ℕ) (ys : List Letter) → lettered b e xs ≡ ys → length xs ≡ length ys
view_length b e xs ys v = sym (length-lettered b e xs) ∙ ap length v

view_at : (n b e : ℕ) (xs : List ℕ) (ys : List Letter) → lettered b e xs ≡ ys → n < length ys → record { octet = get_or xs n 0; any_case = nat_le b n && nat_lt n e } ≡ get_or ys n blank
view_at n b e xs ys v lt =
    let l : length xs ≡ length ys = view_length b e xs ys v in
    sym (at-lettered n b e xs (omega (arith, l))) ∙ ap (λ z. get_or z n blank) v

pub at_from : (n b e : ℕ) (xs : List ℕ) (ys : List Letter) → lettered b e xs ≡ ys → n < length ys → b ≤ n → record { octet = get_or xs n 0; any_case = nat_lt n e } ≡ get_or ys n blank
at_from n b e xs ys v lt le =
    let here : true ≡ nat_le b n = grind (arith, nat_tests) in
    ap (λ t. record { octet = get_or xs n 0; any_case = t && nat_lt n e }) here ∙ view_at n b e xs ys v lt

pub at_before : (n b e : ℕ) (xs : List ℕ) (ys : List Letter) → lettered b e xs ≡ ys → n < length ys → n < b → record { octet = get_or xs n 0; any_case = nat_le b n } ≡ get_or ys n blank
at_before n b e xs ys v lt less =
    let away : nat_le b n ≡ false = grind (arith, nat_tests) in
    ap (λ t. record { octet = get_or xs n 0; any_case = t }) away
    ∙ ap (λ t. record { octet = get_or xs n 0; any_case = t && nat_lt n e }) (sym away)
    ∙ view_at n b e xs ys v lt

pub view_rest : (n b e : ℕ) (xs : List ℕ) (ys : List Letter) → lettered b e xs ≡ ys → lettered (b - n) (e - n) (drop n xs) ≡ drop n ys
view_rest n b e xs ys v = sym (drop-lettered n b e xs) ∙ ap (drop n) v
