-- Texts of columns are UTF-8.
use Rattle.std.proofs.Common.{◌≡◌, ◌<◌, ◌/◌, ℕ, Bool, true, false, cond, ◌&&◌, not, List, [], ◌∷◌, ◌++◌, append-nil, length, refl, sym, ap, arith}
use Rattle.std.specs.Prelude.{chars, codes, nat_lt, ◌==◌}
use Rattle.std.specs.List.{list_all}
use Rattle.std.specs.Str.{IsAscii, IsUtf8, is_utf8}
use Rattle.std.proofs.lemmas.Bool.{and_parts, ltb-true}
use Rattle.std.proofs.lemmas.Str.{IsAscii-append, IsUtf8-from_ascii, IsUtf8-from_is_utf8}
use Rattle.std.proofs.lemmas.Str.Ascii.{IsAscii-cons, IsAscii-nil}
use Rattle.unicode_normalization.specs.Forms.{is_nfc}
use Rattle.imap_rights.specs.Identifier.{is_identifier}
use Rattle.imap_names.specs.UserName.{is_user_name}
use Rattle.imap_names.proofs.Composed.{ascii_by_test}
use Rattle.imap_syntax.specs.Atoms.{IsAtom}
use Rattle.imap_syntax.specs.Calendar.{month_name}
use Rattle.imap_syntax.specs.Lexical.{is_astring_char, is_atom_char}
use Rattle.imap_syntax.specs.Moments.{Day, Moment, Offset}
use Rattle.imap_syntax.specs.declared.month.Month.{Month}
use Rattle.imap_syntax.specs.declared.month.Month.TheVariants as month
use Rattle.imap_syntax.specs.WrittenDates.{clock_text, date_time_text, digit, fixed_date_text, fixed_day_text, four_digits, month_year_text, sign, two_digits, zone_text}
use Rattle.imap_records.specs.Columns.{keywords_text, words_behind}

pub identifier_utf8 : (t : List ℕ) → is_identifier t ≡ true → IsUtf8 t
unfolding is_identifier
identifier_utf8 t e = IsUtf8-from_is_utf8 t (and_parts (is_utf8 t) (is_nfc (chars t)) (and_parts (is_utf8 t && is_nfc (chars t)) _ e).0).0

pub user_utf8 : (t : List ℕ) → is_user_name t ≡ true → is_utf8 t ≡ true
unfolding is_user_name
user_utf8 t e = (and_parts (is_utf8 t) (is_nfc (chars t)) (and_parts (is_utf8 t && is_nfc (chars t)) _ e).0).0

-- ---- dates

digit_ascii : (n : ℕ) → digit n < 128
digit_ascii n = omega arith

two_ascii : (n : ℕ) → IsAscii (two_digits n)
two_ascii n = IsAscii-cons (digit (n / 10)) (digit n ∷ []) (digit_ascii (n / 10)) (IsAscii-cons (digit n) [] (digit_ascii n) IsAscii-nil)

day_ascii : (n : ℕ) → IsAscii (fixed_day_text n)
day_ascii n = by (nat_lt n 10)
  where
    by : (b : Bool) → IsAscii (cond b (32 ∷ digit n ∷ []) (two_digits n))
    by true = IsAscii-cons 32 (digit n ∷ []) (omega arith) (IsAscii-cons (digit n) [] (digit_ascii n) IsAscii-nil)
    by false = two_ascii n

month_ascii : (m : Month) → IsAscii (month_name m)
month_ascii month.Jan = ascii_by_test (codes "Jan") refl
month_ascii month.Feb = ascii_by_test (codes "Feb") refl
month_ascii month.Mar = ascii_by_test (codes "Mar") refl
month_ascii month.Apr = ascii_by_test (codes "Apr") refl
month_ascii month.May = ascii_by_test (codes "May") refl
month_ascii month.Jun = ascii_by_test (codes "Jun") refl
month_ascii month.Jul = ascii_by_test (codes "Jul") refl
month_ascii month.Aug = ascii_by_test (codes "Aug") refl
month_ascii month.Sep = ascii_by_test (codes "Sep") refl
month_ascii month.Oct = ascii_by_test (codes "Oct") refl
month_ascii month.Nov = ascii_by_test (codes "Nov") refl
month_ascii month.Dec = ascii_by_test (codes "Dec") refl

sign_ascii : (west : Bool) → sign west < 128
sign_ascii true = omega arith
sign_ascii false = omega arith

before : (c : ℕ) → c < 128 → (text : List ℕ) → IsAscii text → IsAscii (c ∷ text)
before c h text ascii = IsAscii-cons c text h ascii

both : (a b : List ℕ) → IsAscii a → IsAscii b → IsAscii (a ++ b)
both a b h k = IsAscii-append a b h k

four_ascii : (n : ℕ) → IsAscii (four_digits n)
four_ascii n = both (two_digits (n / 100)) (two_digits n) (two_ascii (n / 100)) (two_ascii n)

date_ascii : (d : Day) → IsAscii (fixed_date_text d)
date_ascii d =
    both (fixed_day_text d.day) (month_year_text d) (day_ascii d.day)
    (before 45 (omega arith) (month_name d.month ++ (45 ∷ four_digits d.year))
    (both (month_name d.month) (45 ∷ four_digits d.year) (month_ascii d.month) (before 45 (omega arith) (four_digits d.year) (four_ascii d.year))))

zone_ascii : (z : Offset) → IsAscii (zone_text z)
zone_ascii z = before (sign z.west) (sign_ascii z.west) (two_digits z.hours ++ two_digits z.minutes) (both (two_digits z.hours) (two_digits z.minutes) (two_ascii z.hours) (two_ascii z.minutes))

clock_ascii : (t : Moment) → IsAscii (clock_text t)
clock_ascii t =
    both (two_digits t.hour) (58 ∷ (two_digits t.minute ++ (58 ∷ two_digits t.second))) (two_ascii t.hour)
    (before 58 (omega arith) (two_digits t.minute ++ (58 ∷ two_digits t.second))
    (both (two_digits t.minute) (58 ∷ two_digits t.second) (two_ascii t.minute) (before 58 (omega arith) (two_digits t.second) (two_ascii t.second))))

pub date_utf8 : (t : Moment) → IsUtf8 (date_time_text t)
date_utf8 t = IsUtf8-from_ascii (date_time_text t)
    (both (fixed_date_text t.date) (32 ∷ (clock_text t ++ (32 ∷ zone_text t.zone))) (date_ascii t.date)
    (before 32 (omega arith) (clock_text t ++ (32 ∷ zone_text t.zone))
    (both (clock_text t) (32 ∷ zone_text t.zone) (clock_ascii t) (before 32 (omega arith) (zone_text t.zone) (zone_ascii t.zone)))))

-- ---- keywords

atom_char_low : (c : ℕ) → is_atom_char c ≡ true → c < 128
atom_char_low c e =
    let a = (and_parts (is_astring_char c) (not (c == 93)) e).0 in
    let b = (and_parts (nat_lt 32 c && nat_lt c 127) _ a).0 in
    omega (arith, ltb-true c 127 (and_parts (nat_lt 32 c) (nat_lt c 127) b).1)

all_low : (text : List ℕ) → list_all is_atom_char text ≡ true → IsAscii text
all_low [] e = IsAscii-nil
all_low (c ∷ cs) e =
    let p = and_parts (is_atom_char c) (list_all is_atom_char cs) e in
    IsAscii-cons c cs (atom_char_low c p.0) (all_low cs p.1)

pub atom_ascii : (word : List ℕ) → IsAtom word → IsAscii word
atom_ascii word e = all_low word (and_parts (not (length word == 0)) (list_all is_atom_char word) e).1

-- one word more, with a space before it
pub word_added : (text word : List ℕ) → IsAscii text → IsAtom word → IsAscii ((text ++ 32 ∷ []) ++ word)
word_added text word ascii atom = both (text ++ 32 ∷ []) word (both text (32 ∷ []) ascii (before 32 (omega arith) [] IsAscii-nil)) (atom_ascii word atom)

pub joined_is : (first : List ℕ) (more : List (List ℕ)) → keywords_text (first ∷ more) ≡ first ++ words_behind more
joined_is first [] = sym (append-nil first)
joined_is first (word ∷ more) = ap (λ t. first ++ 32 ∷ t) (joined_is word more)
