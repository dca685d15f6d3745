-- A text up to one of its delimiters.
use Rattle.std.proofs.Common.{◌≡◌, ◌≢◌, ℕ, ◌-◌, ◌%◌, ◌<◌, Bool, true, false, cond, List, [], ◌∷◌, ◌++◌, length, drop, get_or, flat_map, ◌⊎◌, inl, inr, refl, sym, ap, subst, ◌∙◌, arith, Option, Some, None, MatchOption, Bor, lit<}
use Rattle.std.specs.Prelude.{chars, IsUtf8}
use Rattle.std.specs.List.{list_any}
use Rattle.std.specs.Str.{IsAscii, IsCharBoundary}
use Rattle.std.specs.Str.Pattern.{RFindsChar, SplitsAroundMatch}
use Rattle.std.proofs.lemmas.Bool.{cases_eq}
use Rattle.std.proofs.Math.Seq.{take-append_seam, drop-append_seam}
use Rattle.std.proofs.lemmas.List.{append_cancel_left, append-nil, take-append-drop, length-append}
use Rattle.std.proofs.lemmas.Str.{chars-append, chars-IsAscii, IsUtf8-from_ascii, IsUtf8-take, IsUtf8-drop, IsCharBoundary-before_ascii}
use Rattle.std.proofs.lemmas.Str.Ascii.{IsAscii-cons, IsAscii-nil}
use Rattle.std.proofs.lemmas.Str.Pattern.{NoCharPasses-char, drop_at_char}
use Rattle.ucd_normal.specs.Decomposition.{or_itself}
use Rattle.unicode_normalization.specs.Decompose.{decompose, table_of}
use Rattle.unicode_normalization.specs.Forms.{nfc, nfd, is_nfc, decomposed, Nfc, Nfd}
use Rattle.unicode_normalization.specs.Hangul.{is_syllable, decompose_hangul}
use Rattle.unicode_normalization.proofs.FormsLemmas.{nfc_idem, nfd-nfc, normalize-Nfd, normalize-nil, is_in_form-true, is_in_form_from, normalize-ascii_boundary}
use Rattle.unicode_normalization.proofs.HangulLemmas.{decompose_hangul-two, decompose_hangul-three}
use Rattle.unicode_normalization.proofs.OrderLemmas.{length-canonical_order}
use Rattle.imap_names.specs.Text.{is_delimiter}
use Rattle.imap_names.proofs.Parts.{undelimited}

-- ---- the last delimiter

pub split_last : (text : List ℕ) (r : Option (Bor (List ℕ) × Bor (List ℕ))) → MatchOption r (RFindsChar 47 text None) (λ x. SplitsAroundMatch (RFindsChar 47) text x.0.now x.1.now) → MatchOption r (list_any is_delimiter text ≡ false) (λ x. (text ≡ x.0.now ++ 47 ∷ x.1.now) × (list_any is_delimiter x.1.now ≡ false))
split_last text None h = undelimited text (λ i l. NoCharPasses-char 47 text i h (lit< tt) l)
split_last text (Some x) (i, j, finds, front, back, order, len, left) = (
  sym (take-append-drop i text) ∙ (λ k. sym front k ++ drop_at_char 47 text i j finds.1 (lit< tt) k) ∙ ap (λ z. x.0.now ++ 47 ∷ z) (sym back),
  ap (list_any is_delimiter) back ∙ undelimited (drop j text) (λ k l. NoCharPasses-char 47 (drop j text) k finds.0 (lit< tt) l),
)

slash_at : (front rest : List ℕ) → get_or (front ++ 47 ∷ rest) (length front) 0 ≡ 47
slash_at [] rest = refl
slash_at (c ∷ cs) rest = slash_at cs rest

boundary_at_slash : (front rest : List ℕ) → IsCharBoundary (front ++ 47 ∷ rest) (length front)
boundary_at_slash front rest =
    let within : length front < length (front ++ 47 ∷ rest) = omega (arith, length-append front (47 ∷ rest)) in
    let ascii : get_or (front ++ 47 ∷ rest) (length front) 0 < 128 = omega (arith, slash_at front rest) in
    IsCharBoundary-before_ascii (front ++ 47 ∷ rest) (length front) within ascii

pub IsUtf8-front : (front rest : List ℕ) → IsUtf8 (front ++ 47 ∷ rest) → IsUtf8 front
IsUtf8-front front rest utf8 =
    subst IsUtf8 (take-append_seam front (47 ∷ rest))
    (IsUtf8-take (front ++ 47 ∷ rest) (length front) utf8 (boundary_at_slash front rest))

pub IsUtf8-back : (front rest : List ℕ) → IsUtf8 (front ++ 47 ∷ rest) → IsUtf8 (47 ∷ rest)
IsUtf8-back front rest utf8 =
    subst IsUtf8 (drop-append_seam front (47 ∷ rest))
    (IsUtf8-drop (front ++ 47 ∷ rest) (length front) utf8 (boundary_at_slash front rest))

-- ---- NFC: a text in it is so up to a delimiter, since nothing is composed over one

itself_some : (c : ℕ) (cs : List ℕ) → 0 < length (or_itself c cs)
itself_some c [] = omega arith
itself_some c (d ∷ ds) = omega arith

decompose_some : (c : ℕ) → 0 < length (decompose Nfd c)
unfolding decompose
decompose_some c = by (is_syllable c)
  where
    syllable : 0 < length (decompose_hangul c)
    syllable = elim (cases_eq ((c - 0xAC00) % 28) 0) [
      | inl two ↦ omega (arith, ap length (decompose_hangul-two c two))
      | inr three ↦ omega (arith, ap length (decompose_hangul-three c three))
    ]

    by : (b : Bool) → 0 < length (cond b (decompose_hangul c) (or_itself c (table_of Nfd c)))
    by true = syllable
    by false = itself_some c (table_of Nfd c)

decomposed_some : (c : ℕ) (cs : List ℕ) → 0 < length (decomposed Nfd (c ∷ cs))
unfolding decomposed
decomposed_some c cs =
    omega (arith, length-canonical_order (flat_map (decompose Nfd) (c ∷ cs)), length-append (decompose Nfd c) (flat_map (decompose Nfd) cs), decompose_some c)

nfc_some : (c : ℕ) (cs : List ℕ) → nfc (c ∷ cs) ≢ []
nfc_some c cs e =
    let none : decomposed Nfd (c ∷ cs) ≡ [] = sym (normalize-Nfd (c ∷ cs)) ∙ sym (nfd-nfc (c ∷ cs)) ∙ ap nfd e ∙ normalize-nil Nfd in
    omega (arith, decomposed_some c cs, ap length none)

-- of two cuts of one list, one is not before the other
record IsLaterCut (xs ys zs ws : List ℕ) : Type 0 where
  between : List ℕ
  front : xs ≡ zs ++ between
  back : ws ≡ between ++ ys

cuts : (xs ys zs ws : List ℕ) → xs ++ ys ≡ zs ++ ws → IsLaterCut xs ys zs ws ⊎ IsLaterCut zs ws xs ys
cuts [] ys zs ws e = inr (record { between = zs; front = refl; back = e })
cuts (x ∷ xs) ys [] ws e = inl (record { between = x ∷ xs; front = refl; back = sym e })
cuts (x ∷ xs) ys (z ∷ zs) ws e =
    let same : x ≡ z = cc in
    let rest : xs ++ ys ≡ zs ++ ws = cc in
    elim (cuts xs ys zs ws rest) [
      | inl h ↦ inl (record { between = h.between; front = λ i. same i ∷ h.front i; back = h.back })
      | inr h ↦ inr (record { between = h.between; front = λ i. sym same i ∷ h.front i; back = h.back })
    ]

no_rest : (xs ys : List ℕ) → xs ≡ xs ++ ys → ys ≡ []
no_rest xs ys e = append_cancel_left xs ys [] (sym e ∙ sym (append-nil xs))

no_front : (xs ys : List ℕ) → ys ≡ xs ++ ys → xs ≡ []
no_front [] ys e = refl
no_front (x ∷ xs) ys e = absurd (omega (arith, ap length e, length-append (x ∷ xs) ys))

nfc-joined : (cs rest : List ℕ) → nfc (cs ++ 47 ∷ rest) ≡ nfc cs ++ nfc (47 ∷ rest)
nfc-joined cs rest = normalize-ascii_boundary Nfc cs 47 rest (omega arith)

nfc_to_delimiter : (cs rest : List ℕ) → nfc (cs ++ 47 ∷ rest) ≡ cs ++ 47 ∷ rest → nfc cs ≡ cs
nfc_to_delimiter cs rest same =
    elim (cuts (nfc cs) (nfc (47 ∷ rest)) cs (47 ∷ rest) (sym (nfc-joined cs rest) ∙ same)) [
      | inl h ↦ longer h.between h.front h.back
      | inr h ↦ shorter h.between h.front h.back
    ]
  where
    longer : (between : List ℕ) → nfc cs ≡ cs ++ between → 47 ∷ rest ≡ between ++ nfc (47 ∷ rest) → nfc cs ≡ cs
    longer [] front back = front ∙ append-nil cs
    longer (c ∷ more) front back =
        let slash : c ≡ 47 = cc in
        let is : nfc cs ≡ cs ++ 47 ∷ more = front ∙ ap (λ d. cs ++ d ∷ more) slash in
        absurd (nfc_some 47 more (no_rest (nfc cs) (nfc (47 ∷ more)) (sym (nfc_idem cs) ∙ ap nfc is ∙ nfc-joined cs more)))

    shorter : (between : List ℕ) → cs ≡ nfc cs ++ between → nfc (47 ∷ rest) ≡ between ++ 47 ∷ rest → nfc cs ≡ cs
    shorter [] front back = sym (front ∙ append-nil (nfc cs))
    shorter (c ∷ more) front back =
        absurd (nfc_some c more (no_front (nfc (c ∷ more)) (nfc (47 ∷ rest)) (sym (nfc_idem (47 ∷ rest)) ∙ ap nfc back ∙ nfc-joined (c ∷ more) rest)))

pub chars-joined : (front rest : List ℕ) → IsUtf8 front → chars (front ++ 47 ∷ rest) ≡ chars front ++ 47 ∷ chars rest
chars-joined front rest utf8 =
    chars-append front (47 ∷ rest) utf8
    ∙ ap (λ z. chars front ++ z) (chars-append (47 ∷ []) rest (IsUtf8-from_ascii (47 ∷ []) slash) ∙ ap (λ z. z ++ chars rest) (chars-IsAscii (47 ∷ []) slash))
  where
    slash : IsAscii (47 ∷ [])
    slash = IsAscii-cons 47 [] (omega arith) IsAscii-nil

pub is_nfc-to_delimiter : (front rest : List ℕ) → IsUtf8 front → is_nfc (chars (front ++ 47 ∷ rest)) ≡ true → is_nfc (chars front) ≡ true
is_nfc-to_delimiter front rest utf8 h =
    let text : chars (front ++ 47 ∷ rest) ≡ chars front ++ 47 ∷ chars rest = chars-joined front rest utf8 in
    is_in_form_from Nfc (chars front) (nfc_to_delimiter (chars front) (chars rest) (ap nfc (sym text) ∙ is_in_form-true Nfc _ h ∙ text))

-- what follows a delimiter may follow another text in NFC
pub is_nfc-behind : (front other rest : List ℕ) → IsUtf8 front → IsUtf8 other → is_nfc (chars front) ≡ true → is_nfc (chars other) ≡ true → is_nfc (chars (front ++ 47 ∷ rest)) ≡ true → is_nfc (chars (other ++ 47 ∷ rest)) ≡ true
is_nfc-behind front other rest utf8 utf8' nfc_front nfc_other h =
    let whole : nfc (chars front ++ 47 ∷ chars rest) ≡ chars front ++ 47 ∷ chars rest =
    ap nfc (sym (chars-joined front rest utf8)) ∙ is_in_form-true Nfc _ h ∙ chars-joined front rest utf8 in
    let back : nfc (47 ∷ chars rest) ≡ 47 ∷ chars rest =
    append_cancel_left (chars front) _ _ (
    ap (λ z. z ++ nfc (47 ∷ chars rest)) (sym (is_in_form-true Nfc (chars front) nfc_front))
    ∙ sym (nfc-joined (chars front) (chars rest)) ∙ whole
    ) in
    is_in_form_from Nfc (chars (other ++ 47 ∷ rest)) (
    ap nfc (chars-joined other rest utf8')
    ∙ nfc-joined (chars other) (chars rest)
    ∙ (λ i. is_in_form-true Nfc (chars other) nfc_other i ++ back i)
    ∙ sym (chars-joined other rest utf8')
    )
