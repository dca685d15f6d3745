-- What is written is read.
use Rattle.std.proofs.Common.{◌≡◌, ◌∙◌, ◌≤◌, ◌<◌, ap, sym, refl, ℕ, zero, suc, ◌+◌, ◌*◌, ◌/◌, ◌%◌, ◌==◌, Bool, true, false, not, List, [], ◌∷◌, ◌++◌, append_assoc, flat_map, inl, inr, ⊎_elim, arith, lit<}
use Rattle.std.specs.Prelude.{◌&&◌, ◌||◌, nat_lt, nat_le, chars, encode_utf8_all}
use Rattle.std.specs.Str.{IsUtf8}
use Rattle.std.proofs.lemmas.Str.{encode_ascii, encodes-append, encodes-chars, scalars-chars}
use Rattle.std.specs.Char.{digit_value}
use Rattle.std.proofs.lemmas.Bool.{and_parts, and_from, cases_Bool, cases_lt, lt-ltb, ltb-true, eqb-true, or_parts}
use Rattle.std.proofs.Math.Utf8.{scalar, scalars, low_scalar}
use Rattle.imap_maildir_names.specs.Levels.{digit, ending, is_marked, is_special, kept, letter, level_path, level_text, mark, max_name_octets, max_used, octets, piece, pieces, used_after, whole, written}
use Rattle.imap_maildir_names.specs.Unmarking.{unmarked}

-- ---- digits

abbrev all_below : (ℕ → Bool) → ℕ → Bool
all_below p zero = true
all_below p (suc n) = p n && all_below p n

below_at : (p : ℕ → Bool) (n i : ℕ) → all_below p n ≡ true → i < n → p i ≡ true
below_at p zero i is less = absurd (omega (arith, less))
below_at p (suc n) i is less =
    let parts = and_parts (p n) (all_below p n) is in
    ⊎_elim
    (λ low. below_at p n i parts.1 low)
    (λ high. let e : i ≡ n = omega (arith, high, less) in ap p e ∙ parts.0)
    (cases_lt i n)

-- it is a digit, and no slash
abbrev is_digit_of : ℕ → Bool
is_digit_of n = (digit_value (digit n) == n) && (not (digit n == 47) && nat_lt (digit n) 128)

digits_are : (n : ℕ) → n < 16 → is_digit_of n ≡ true
digits_are n less = below_at is_digit_of 16 n refl less

not_true : (t : Bool) → not t ≡ true → t ≡ false
not_true false is = refl
not_true true is = cc is

-- ---- what stands for a letter

read_digits : (x y h l : ℕ) (text : List ℕ) → (x == 47) ≡ false → digit_value x ≡ h → digit_value y ≡ l
    → nat_lt h 16 ≡ true → nat_lt h 8 ≡ true → nat_lt l 16 ≡ true
    → unmarked (37 ∷ x ∷ y ∷ text) ≡ (h * 16 + l) ∷ unmarked text
read_digits x y h l text n vh vl a b c = rw (n, vh, a, vh, vl, b, c) refl

read_mark : (char : ℕ) (text : List ℕ) → char < 128 → unmarked (mark char ++ text) ≡ char ∷ unmarked text
read_mark char text less =
    let h = char / 16 in
    let l = char % 16 in
    let hb : h < 16 = omega (arith, less) in
    let lb : l < 16 = omega arith in
    let hd = digits_are h hb in
    let ld = digits_are l lb in
    let h8 : h < 8 = omega (arith, less) in
    let hp = and_parts (digit_value (digit h) == h) (not (digit h == 47) && nat_lt (digit h) 128) hd in
    let hq = and_parts (not (digit h == 47)) (nat_lt (digit h) 128) hp.1 in
    let lp = and_parts (digit_value (digit l) == l) (not (digit l == 47) && nat_lt (digit l) 128) ld in
    let sum : h * 16 + l ≡ char = omega arith in
    read_digits (digit h) (digit l) h l text (not_true (digit h == 47) hq.0) (eqb-true (digit_value (digit h)) h hp.0) (eqb-true (digit_value (digit l)) l lp.0) (lt-ltb h 16 hb) (lt-ltb h 8 h8) (lt-ltb l 16 lb)
    ∙ ap (λ c. c ∷ unmarked text) sum

read_plain : (char : ℕ) (text : List ℕ) → (char == 37) ≡ false → unmarked (char ∷ text) ≡ char ∷ unmarked text
read_plain char text is = rw is refl

-- a marked letter is ASCII
marked_below : (is_first : Bool) (char : ℕ) → is_marked is_first char ≡ true → char < 128
marked_below is_first char is = elim (cases_Bool (char == 37)) [
  | inl percent ↦ let e : char ≡ 37 = eqb-true char 37 percent in omega (arith, e)
  | inr other ↦
      let more : (is_first && nat_lt char 128) ≡ true = sym (ap (λ b. b || (is_first && nat_lt char 128)) other) ∙ is in
      ltb-true char 128 (and_parts is_first (nat_lt char 128) more).1
]

pub read_letter : (is_first : Bool) (char : ℕ) (text : List ℕ) → unmarked (letter is_first char ++ text) ≡ char ∷ unmarked text
read_letter is_first char text = elim (cases_Bool (is_marked is_first char)) [
  | inl marked ↦ rw marked (read_mark char text (marked_below is_first char marked))
  | inr plain ↦ rw plain (read_plain char text (or_parts (char == 37) (is_first && nat_lt char 128) plain).0)
]

-- ---- letters

pub read_written : (is_first : Bool) (level text : List ℕ) → unmarked (written is_first level ++ text) ≡ level ++ unmarked text
read_written is_first [] text = refl
read_written is_first (char ∷ level) text =
    ap unmarked (append_assoc (letter is_first char) (written false level) text)
    ∙ read_letter is_first char (written false level ++ text)
    ∙ ap (λ l. char ∷ l) (read_written false level text)

read_ending : (used : ℕ) (text : List ℕ) → unmarked (ending used ++ text) ≡ unmarked text
read_ending used text = elim (cases_Bool (nat_lt max_used used)) [
  | inl full ↦ rw full refl
  | inr free ↦ rw free refl
]

read_piece : (used char : ℕ) (text : List ℕ) → unmarked (piece used char ++ text) ≡ char ∷ unmarked text
read_piece used char text =
    ap unmarked (append_assoc (ending used) (letter (kept used == 0) char) text)
    ∙ read_ending used (letter (kept used == 0) char ++ text)
    ∙ read_letter (kept used == 0) char text

pub read_pieces : (used : ℕ) (level text : List ℕ) → unmarked (pieces used level ++ text) ≡ level ++ unmarked text
read_pieces used [] text = refl
read_pieces used (char ∷ level) text =
    ap unmarked (append_assoc (piece used char) (pieces (used_after used char) level) text)
    ∙ read_piece used char (pieces (used_after used char) level ++ text)
    ∙ ap (λ l. char ∷ l) (read_pieces (used_after used char) level text)

pub read_level : (level text : List ℕ) → unmarked (level_text level ++ text) ≡ chars level ++ unmarked text
read_level level text = elim (cases_Bool (nat_le (octets (whole level)) max_name_octets)) [
  | inl fits ↦ rw fits (read_written (is_special level) (chars level) text)
  | inr long ↦ rw long (read_pieces 0 (chars level) text)
]

-- ---- what is written is text

pub scalars_append : (xs ys : List ℕ) → scalars xs ≡ true → scalars ys ≡ true → scalars (xs ++ ys) ≡ true
scalars_append [] ys is more = more
scalars_append (x ∷ xs) ys is more =
    let parts = and_parts (scalar x) (scalars xs) is in
    and_from (scalar x) (scalars (xs ++ ys)) parts.0 (scalars_append xs ys parts.1 more)

digit_scalar : (n : ℕ) → n < 16 → scalar (digit n) ≡ true
digit_scalar n less =
    let all = digits_are n less in
    let some = and_parts (digit_value (digit n) == n) (not (digit n == 47) && nat_lt (digit n) 128) all in
    let low : digit n < 128 = ltb-true (digit n) 128 (and_parts (not (digit n == 47)) (nat_lt (digit n) 128) some.1).1 in
    low_scalar (digit n) (omega (arith, low))

mark_scalars : (char : ℕ) → char < 128 → scalars (mark char) ≡ true
mark_scalars char less =
    let h = digit_scalar (char / 16) (omega (arith, less)) in
    let l = digit_scalar (char % 16) (omega arith) in
    and_from (scalar 37) (scalars (digit (char / 16) ∷ digit (char % 16) ∷ [])) refl
    (and_from (scalar (digit (char / 16))) (scalars (digit (char % 16) ∷ [])) h (and_from (scalar (digit (char % 16))) true l refl))

letter_scalars : (is_first : Bool) (char : ℕ) → scalar char ≡ true → scalars (letter is_first char) ≡ true
letter_scalars is_first char is = elim (cases_Bool (is_marked is_first char)) [
  | inl marked ↦ rw marked (mark_scalars char (marked_below is_first char marked))
  | inr plain ↦ rw plain (and_from (scalar char) true is refl)
]

written_scalars : (is_first : Bool) (level : List ℕ) → scalars level ≡ true → scalars (written is_first level) ≡ true
written_scalars is_first [] is = refl
written_scalars is_first (char ∷ level) is =
    let parts = and_parts (scalar char) (scalars level) is in
    scalars_append (letter is_first char) (written false level) (letter_scalars is_first char parts.0) (written_scalars false level parts.1)

ending_scalars : (used : ℕ) → scalars (ending used) ≡ true
ending_scalars used = elim (cases_Bool (nat_lt max_used used)) [
  | inl full ↦ rw full refl
  | inr free ↦ rw free refl
]

pieces_scalars : (used : ℕ) (level : List ℕ) → scalars level ≡ true → scalars (pieces used level) ≡ true
pieces_scalars used [] is = refl
pieces_scalars used (char ∷ level) is =
    let parts = and_parts (scalar char) (scalars level) is in
    scalars_append (piece used char) (pieces (used_after used char) level)
    (scalars_append (ending used) (letter (kept used == 0) char) (ending_scalars used) (letter_scalars (kept used == 0) char parts.0))
    (pieces_scalars (used_after used char) level parts.1)

pub level_scalars : (level : List ℕ) → scalars (chars level) ≡ true → scalars (level_text level) ≡ true
level_scalars level is = elim (cases_Bool (nat_le (octets (whole level)) max_name_octets)) [
  | inl fits ↦ rw fits (written_scalars (is_special level) (chars level) is)
  | inr long ↦ rw long (pieces_scalars 0 (chars level) is)
]

-- ---- levels

-- all are text
abbrev pub AreTexts : List (List ℕ) → Type 0
AreTexts [] = Unit {0}
AreTexts (level ∷ levels) = IsUtf8 level × AreTexts levels

abbrev pub level_chars : List ℕ → List ℕ
level_chars level = 47 ∷ level_text level

abbrev pub slashed : List ℕ → List ℕ
slashed level = 47 ∷ level

abbrev slashed_chars : List ℕ → List ℕ
slashed_chars level = 47 ∷ chars level

pub levels-encoded : (levels : List (List ℕ)) → flat_map level_path levels ≡ encode_utf8_all (flat_map level_chars levels)
levels-encoded [] = refl
levels-encoded (level ∷ levels) =
    ap (λ l. level_path level ++ l) (levels-encoded levels)
    ∙ sym (encodes-append (level_chars level) (flat_map level_chars levels))

pub levels_scalars : (levels : List (List ℕ)) → AreTexts levels → scalars (flat_map level_chars levels) ≡ true
levels_scalars [] are = refl
levels_scalars (level ∷ levels) are =
    scalars_append (level_chars level) (flat_map level_chars levels)
    (and_from (scalar 47) (scalars (level_text level)) refl (level_scalars level (scalars-chars level are.0)))
    (levels_scalars levels are.1)

pub read_levels : (levels : List (List ℕ)) → unmarked (flat_map level_chars levels) ≡ flat_map slashed_chars levels
read_levels [] = refl
read_levels (level ∷ levels) =
    read_plain 47 (level_text level ++ flat_map level_chars levels) refl
    ∙ ap (λ l. 47 ∷ l) (read_level level (flat_map level_chars levels) ∙ ap (λ l. chars level ++ l) (read_levels levels))

pub chars-encoded : (levels : List (List ℕ)) → AreTexts levels → encode_utf8_all (flat_map slashed_chars levels) ≡ flat_map slashed levels
chars-encoded [] are = refl
chars-encoded (level ∷ levels) are =
    encodes-append (slashed_chars level) (flat_map slashed_chars levels)
    ∙ ap (λ l. (l ++ encode_utf8_all (chars level)) ++ encode_utf8_all (flat_map slashed_chars levels)) (encode_ascii 47 (lit< tt))
    ∙ ap (λ l. (47 ∷ l) ++ encode_utf8_all (flat_map slashed_chars levels)) (encodes-chars level are.0)
    ∙ ap (λ l. (47 ∷ level) ++ l) (chars-encoded levels are.1)
