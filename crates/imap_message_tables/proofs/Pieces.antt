-- Texts that are cut at their spaces, and joined again; and words that are among others.
use Rattle.std.proofs.Common.{◌≡◌, ◌≢◌, ◌<◌, ◌++◌, ◌||◌, inl, inr, ℕ, suc, Bool, false, List, [], ◌∷◌, length, drop, get_or, map, IsTrue, Option, None, Some, refl, sym, ap, subst, ◌∙◌, rules, arith}
use Rattle.std.specs.Prelude.{IfNone, IfSome, IsUtf8, MatchOption}
use Rattle.std.specs.Borrow.{Bor}
use Rattle.std.specs.List.{AllByRecursion, list_any}
use Rattle.std.proofs.lemmas.Bool.{both_ways}
use Rattle.std.proofs.lemmas.List.{length-append}
use Rattle.std.proofs.lemmas.Str.Pattern.{IsSplitOnceResult, split_parts}
use Rattle.std.proofs.lemmas.Str.{IsCharBoundary-before_ascii, IsUtf8-drop, IsUtf8-past_char, IsUtf8-take}
use Rattle.std.proofs.Math.Seq.{drop-append_seam, get_or-append_seam, take-append_seam}
use Rattle.sqlite_rules.specs.Lists.{Has}
use Rattle.imap_message_tables.specs.Split.{AreRising, IsPlain, IsSpaceless, words_text}
use Rattle.imap_message_tables.specs.Writing.{ArePieces, AreWordsIn}

-- a piece with a space is two
pub join_cut : (ws : List (List ℕ)) (a b : List ℕ) → words_text (ws ++ (a ++ 32 ∷ b) ∷ []) ≡ words_text ((ws ++ a ∷ []) ++ b ∷ [])
join_cut [] a b = refl
join_cut (w ∷ []) a b = refl
join_cut (w ∷ v ∷ ws) a b = ap (λ t. w ++ 32 ∷ t) (join_cut (v ∷ ws) a b)

pub split_cut : (text : List ℕ) (r : Option (Bor (List ℕ) × Bor (List ℕ))) → IsSplitOnceResult 32 text r → IfSome r (λ x. text ≡ x.0.now ++ 32 ∷ x.1.now)
split_cut text r h = by r (split_parts 32 text r h (omega arith))
  where
    by : (r : Option (Bor (List ℕ) × Bor (List ℕ))) → MatchOption r ((i : ℕ) → i < length text → get_or text i 0 ≢ 32) (λ x. (text ≡ x.0.now ++ (32 ∷ x.1.now)) × ((i : ℕ) → i < length x.0.now → get_or x.0.now i 0 ≢ 32))
        → IfSome r (λ x. text ≡ x.0.now ++ 32 ∷ x.1.now)
    by None none = search rules
    by (Some x) parts = parts.0

-- ---- the first space

no_space : (xs : List ℕ) → ((i : ℕ) → i < length xs → get_or xs i 0 ≢ 32) → IsSpaceless xs
no_space [] h there = there
no_space (x ∷ xs) h (inl e) = h 0 (omega arith) (sym e)
no_space (x ∷ xs) h (inr there) = no_space xs (λ i low. h (suc i) (omega (arith, low))) there

pub split_first : (text : List ℕ) (r : Option (Bor (List ℕ) × Bor (List ℕ))) → IsSplitOnceResult 32 text r → IfSome r (λ x. IsSpaceless x.0.now)
split_first text r h = by r (split_parts 32 text r h (omega arith))
  where
    by : (r : Option (Bor (List ℕ) × Bor (List ℕ))) → MatchOption r ((i : ℕ) → i < length text → get_or text i 0 ≢ 32) (λ x. (text ≡ x.0.now ++ (32 ∷ x.1.now)) × ((i : ℕ) → i < length x.0.now → get_or x.0.now i 0 ≢ 32))
        → IfSome r (λ x. IsSpaceless x.0.now)
    by None none = search rules
    by (Some x) parts = no_space x.0.now parts.1

pub split_none : (text : List ℕ) (r : Option (Bor (List ℕ) × Bor (List ℕ))) → IsSplitOnceResult 32 text r → IfNone r (IsSpaceless text)
split_none text r h = by r (split_parts 32 text r h (omega arith))
  where
    by : (r : Option (Bor (List ℕ) × Bor (List ℕ))) → MatchOption r ((i : ℕ) → i < length text → get_or text i 0 ≢ 32) (λ x. (text ≡ x.0.now ++ (32 ∷ x.1.now)) × ((i : ℕ) → i < length x.0.now → get_or x.0.now i 0 ≢ 32))
        → IfNone r (IsSpaceless text)
    by None none = no_space text none
    by (Some x) parts = search rules

seam : (word more : List ℕ) → get_or (word ++ 32 ∷ more) (length word) 0 ≡ 32
seam word more = get_or-append_seam word 32 more 0

within : (word more : List ℕ) → length word < length (word ++ 32 ∷ more)
within word more = omega (arith, length-append word (32 ∷ more))

-- what stands after a space is text
pub utf8_after : (word more : List ℕ) → IsUtf8 (word ++ 32 ∷ more) → IsUtf8 more
unfolding lib.Utf8.encode
utf8_after word more utf8 =
    let ascii : get_or (word ++ 32 ∷ more) (length word) 0 < 128 = omega (arith, seam word more) in
    let back : IsUtf8 (32 ∷ more) =
    subst IsUtf8 (drop-append_seam word (32 ∷ more))
    (IsUtf8-drop (word ++ 32 ∷ more) (length word) utf8 (IsCharBoundary-before_ascii (word ++ 32 ∷ more) (length word) (within word more) ascii)) in
    IsUtf8-past_char (32 ∷ more) more 32 back refl

-- and what stands before it
pub utf8_before : (word more : List ℕ) → IsUtf8 (word ++ 32 ∷ more) → IsUtf8 word
utf8_before word more utf8 =
    let ascii : get_or (word ++ 32 ∷ more) (length word) 0 < 128 = omega (arith, seam word more) in
    subst IsUtf8 (take-append_seam word (32 ∷ more))
    (IsUtf8-take (word ++ 32 ∷ more) (length word) utf8 (IsCharBoundary-before_ascii (word ++ 32 ∷ more) (length word) (within word more) ascii))

-- one more piece
pub piece_more : (ws more : List (List ℕ)) (rest word after text : List ℕ) → more ≡ ws ++ word ∷ [] → rest ≡ word ++ 32 ∷ after → words_text (ws ++ rest ∷ []) ≡ text → words_text (more ++ after ∷ []) ≡ text
piece_more ws more rest word after text added cut joined =
    ap (λ xs. words_text (xs ++ after ∷ [])) added ∙ sym (join_cut ws word after) ∙ ap (λ r. words_text (ws ++ r ∷ [])) (sym cut) ∙ joined

-- ---- a text has one list of pieces

cut_once : (x y a b : List ℕ) → IsSpaceless x → IsSpaceless y → x ++ 32 ∷ a ≡ y ++ 32 ∷ b → (x ≡ y) × (a ≡ b)
cut_once [] [] a b hx hy e = (refl, ap (drop 1) e)
cut_once [] (y ∷ ys) a b hx hy e = absurd (hy (inl (ap (λ t. get_or t 0 0) e)))
cut_once (x ∷ xs) [] a b hx hy e = absurd (hx (inl (sym (ap (λ t. get_or t 0 0) e))))
cut_once (x ∷ xs) (y ∷ ys) a b hx hy e =
    let rest = cut_once xs ys a b (λ there. hx (inr there)) (λ there. hy (inr there)) (ap (drop 1) e) in
    (λ i. ap (λ t. get_or t 0 0) e i ∷ rest.0 i, rest.1)

cut_not : (x y a : List ℕ) → IsSpaceless x → x ≡ y ++ 32 ∷ a → ⊥
cut_not x y a h e = h (subst (λ t. Has t 32) (sym e) (there y))
  where
    there : (ys : List ℕ) → Has (ys ++ 32 ∷ a) 32
    there [] = inl refl
    there (z ∷ ys) = inr (there ys)

-- neither has no piece
same_filled : (x y : List ℕ) (xs ys : List (List ℕ)) → AllByRecursion IsSpaceless (x ∷ xs) → AllByRecursion IsSpaceless (y ∷ ys) → words_text (x ∷ xs) ≡ words_text (y ∷ ys) → x ∷ xs ≡ y ∷ ys
same_filled x y [] [] hx hy e = ap (λ t. t ∷ []) e
same_filled x y [] (v ∷ ys) hx hy e = absurd (cut_not x y (words_text (v ∷ ys)) hx.0 e)
same_filled x y (u ∷ xs) [] hx hy e = absurd (cut_not y x (words_text (u ∷ xs)) hy.0 (sym e))
same_filled x y (u ∷ xs) (v ∷ ys) hx hy e =
    let cut = cut_once x y (words_text (u ∷ xs)) (words_text (v ∷ ys)) hx.0 hy.0 e in
    let rest = same_filled u v xs ys hx.1 hy.1 cut.1 in
    λ i. cut.0 i ∷ rest i

same_pieces : (text : List ℕ) (xs ys : List (List ℕ)) → ArePieces text xs → ArePieces text ys → xs ≡ ys
same_pieces text [] ys hx hy = sym (hy.none (sym hx.joined))
same_pieces text (x ∷ xs) [] hx hy = hx.none (sym hy.joined)
same_pieces text (x ∷ xs) (y ∷ ys) hx hy = same_filled x y xs ys hx.spaceless hy.spaceless (hx.joined ∙ sym hy.joined)

plain_pieces : (words : List (List ℕ)) → AllByRecursion IsPlain words → AllByRecursion IsSpaceless words
plain_pieces [] h = tt
plain_pieces (w ∷ ws) h = (h.0.spaceless, plain_pieces ws h.1)

plain_filled : (words : List (List ℕ)) → AllByRecursion IsPlain words → words_text words ≡ [] → words ≡ []
plain_filled [] h e = refl
plain_filled (w ∷ []) h e = absurd (h.0.filled e)
plain_filled (w ∷ v ∷ ws) h e = absurd (by w (words_text (v ∷ ws)) e)
  where
    by : (a b : List ℕ) → a ++ 32 ∷ b ≡ [] → ⊥
    by a b e = omega (arith, length-append a (32 ∷ b), ap length e)

-- the keywords of a text are its pieces
pub words_pieces : (text : List ℕ) (pieces words : List (List ℕ)) → ArePieces text pieces → AreWordsIn text words → words ≡ pieces
words_pieces text pieces words h k = same_pieces text words pieces (record {
  joined = k.joined;
  spaceless = plain_pieces words k.are.plain;
  none = λ e. plain_filled words k.are.plain (k.joined ∙ e);
}) h

pub unless_rising : (text : List ℕ) (pieces own : List (List ℕ)) (b : Bool) → ArePieces text pieces → own ≡ pieces → (AreRising own → IsTrue b) → b ≡ false → (words : List (List ℕ)) → AreWordsIn text words → ⊥
unless_rising text pieces own b h same is off words k = both_ways b off (is (subst AreRising (words_pieces text pieces words h k ∙ sym same) k.are.rising))

pub unless_plain : (text : List ℕ) (pieces own : List (List ℕ)) (b : Bool) → ArePieces text pieces → own ≡ pieces → (AllByRecursion IsPlain own → IsTrue b) → b ≡ false → (words : List (List ℕ)) → AreWordsIn text words → ⊥
unless_plain text pieces own b h same is off words k = both_ways b off (is (subst (AllByRecursion IsPlain) (words_pieces text pieces words h k ∙ sym same) k.are.plain))

pub spaceless_more : (ws : List (List ℕ)) (w : List ℕ) → AllByRecursion IsSpaceless ws → IsSpaceless w → AllByRecursion IsSpaceless (ws ++ w ∷ [])
spaceless_more [] w h k = (k, tt)
spaceless_more (x ∷ ws) w h k = (h.0, spaceless_more ws w h.1 k)

-- one of the values of a function passes a test
pub any_map : {X Y : Type 0} (p : Y → Bool) (f : X → Y) (xs : List X) → list_any p (map f xs) ≡ list_any (λ x. p (f x)) xs
any_map p f [] = refl
any_map p f (x ∷ xs) = ap (λ b. p (f x) || b) (any_map p f xs)
