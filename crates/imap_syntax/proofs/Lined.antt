-- What is written is a text of lines and literals, of which a framer can tell one from the other.
use Rattle.std.proofs.Common.{◌≡◌, ℕ, ◌/◌, ◌<◌, ◌^◌, Bool, true, false, cond, not, ◌||◌, eqb, ◌==◌, ltb, List, [], ◌∷◌, ◌++◌, length, flat_map, refl, sym, ap, ◌∙◌, append_assoc, arith}
use Rattle.std.specs.Fmt.{decimal as decimal_text}
use Rattle.std.specs.Char.{is_ascii_digit}
use Rattle.std.specs.List.{list_all, list_any, AllByRecursion}
use Rattle.std.proofs.lemmas.Bool.Decides.{nat_tests}
use Rattle.std.proofs.lemmas.List.{append-nil}
use Rattle.std.proofs.lemmas.List.Folds.{list_all-append}
use Rattle.imap_lex.specs.Mark as mark
use Rattle.imap_lex.specs.Mark.{LineTail, with_octet, with_octets}
use Rattle.imap_lex.proofs.Tails.{with_octets-append}
use Rattle.imap_syntax.specs.declared.set.SeqNumber.{SeqNumber}
use Rattle.imap_syntax.specs.declared.set.SeqNumber.TheVariants as seq
use Rattle.imap_syntax.specs.declared.set.MessageSet.TheVariants as messages
use Rattle.imap_syntax.specs.declared.flag.Flag.TheVariants as flag
use Rattle.imap_syntax.specs.declared.system_flag.SystemFlag.TheVariants as system
use Rattle.imap_syntax.specs.declared.month.Month.{Month}
use Rattle.imap_syntax.specs.declared.set.SeqRange.{SeqRange}
use Rattle.imap_syntax.specs.Calendar.{month_name}
use Rattle.imap_syntax.specs.Moments.{Day, Offset, Moment}
use Rattle.imap_syntax.specs.Lexical.{is_astring_char, is_atom_char, is_word_char, is_quoted_special}
use Rattle.imap_syntax.specs.Flags.{flag_name}
use Rattle.imap_syntax.specs.Writing.{Writing, some_of, number, further, joined, in_parentheses, separated}
use Rattle.imap_syntax.specs.Written.{is_unquotable, is_quotable, is_written_quoted, escaped, quoted_text, literal_text, string, bare_or_string, astring, is_same, atom, mod_sequence, number64, number_fits, number_text, seq_range, seq_set, message_set, message_flag}
use Rattle.imap_syntax.specs.WrittenDates.{digit, two_digits, four_digits, day_text, month_year_text, fixed_day_text, fixed_date_text, date, sign, clock_text, zone_text, date_time_text, date_time_end}
use Rattle.imap_syntax.proofs.Words.{IsTable}
use Rattle.imap_syntax.proofs.Tables.{month_table, flag_table}
use Rattle.imap_syntax.proofs.Writing.{both_true, both, consists_all, digits_made}
use Rattle.imap_syntax.proofs.Written.{literal_can}
use Rattle.imap_syntax.proofs.WrittenDates.{is_digit}

-- ---- pieces of a text

-- a part of a line, or a literal with what announces it
pub data Piece : Type 0 where
  part : (octets : List ℕ) → Piece
  literal : (octets : List ℕ) → Piece

abbrev pub is_line_octet : ℕ → Bool
is_line_octet b = not (b == 13 || b == 10)

-- neither CR nor LF stands in it, and no mark of a literal is begun at its end
pub record IsPart (octets : List ℕ) : Type 0 where
  pub unbroken : list_all is_line_octet octets ≡ true
  pub unmarked : with_octets mark.text octets ≡ mark.text

abbrev pub IsPiece : Piece → Type 0
IsPiece (part octets) = IsPart octets
IsPiece (literal octets) = length octets < 2 ^ 64

abbrev pub piece_text : Piece → List ℕ
piece_text (part octets) = octets
piece_text (literal octets) = literal_text octets

abbrev pub pieces_text : List Piece → List ℕ
pieces_text [] = []
pieces_text (p ∷ ps) = piece_text p ++ pieces_text ps

-- a text of lines and literals
pub record IsLined (octets : List ℕ) : Type 0 where
  pub pieces : List Piece
  pub each : AllByRecursion IsPiece pieces
  pub whole : octets ≡ pieces_text pieces

-- what is written of values that fit is such a text
abbrev pub Lines : {A : Type 0} → Writing A → Type 0
Lines w = (a : _) → w.fits a ≡ true → IsLined (w.text a)

-- ---- two texts, one after the other

pieces_text-append : (ps qs : List Piece) → pieces_text (ps ++ qs) ≡ pieces_text ps ++ pieces_text qs
pieces_text-append [] qs = refl
pieces_text-append (p ∷ ps) qs = ap (λ (t : List ℕ). piece_text p ++ t) (pieces_text-append ps qs) ∙ sym (append_assoc (piece_text p) (pieces_text ps) (pieces_text qs))

each_piece : (ps qs : List Piece) → AllByRecursion IsPiece ps → AllByRecursion IsPiece qs → AllByRecursion IsPiece (ps ++ qs)
each_piece [] qs h k = k
each_piece (p ∷ ps) qs h k = (h.0, each_piece ps qs h.1 k)

pub none_lined : IsLined []
none_lined = record { pieces = []; each = tt; whole = refl }

pub append_lined : (a b : List ℕ) → IsLined a → IsLined b → IsLined (a ++ b)
append_lined a b h k = record {
  pieces = h.pieces ++ k.pieces;
  each = each_piece h.pieces k.pieces h.each k.each;
  whole = ap (λ (t : List ℕ). t ++ b) h.whole ∙ ap (λ (t : List ℕ). pieces_text h.pieces ++ t) k.whole ∙ sym (pieces_text-append h.pieces k.pieces);
}

part_lined : (octets : List ℕ) → IsPart octets → IsLined octets
part_lined octets h = record { pieces = part octets ∷ []; each = (h, tt); whole = sym (append-nil octets) }

-- ---- octets that begin no mark

abbrev pub is_safe : ℕ → Bool
is_safe b = not (b == 13 || (b == 10 || b == 123))

no_brace : (b : ℕ) → is_safe b ≡ true → eqb b 123 ≡ false
no_brace b h = grind (arith, nat_tests)

safe_by : (c d e f g : Bool) → cond c mark.text (cond d mark.text (cond e mark.text (cond f mark.text (cond g mark.text mark.text)))) ≡ mark.text
safe_by true d e f g = refl
safe_by false true e f g = refl
safe_by false false true f g = refl
safe_by false false false true g = refl
safe_by false false false false true = refl
safe_by false false false false false = refl

safe_octet : (b : ℕ) → is_safe b ≡ true → with_octet mark.text b ≡ mark.text
safe_octet b h = rw (no_brace b h) (safe_by (mark.is_digit b) (eqb b 43) (eqb b 125) (eqb b 13) (eqb b 10))

safe_tail : (octets : List ℕ) → list_all is_safe octets ≡ true → with_octets mark.text octets ≡ mark.text
safe_tail [] h = refl
safe_tail (b ∷ octets) h = let q = both_true (is_safe b) (list_all is_safe octets) h in rw (safe_octet b q.0) (safe_tail octets q.1)

pub each_weaker : (p q : ℕ → Bool) → ((b : ℕ) → p b ≡ true → q b ≡ true) → (octets : List ℕ) → list_all p octets ≡ true → list_all q octets ≡ true
each_weaker p q f [] h = refl
each_weaker p q f (b ∷ octets) h = let r = both_true (p b) (list_all p octets) h in both (q b) (list_all q octets) (f b r.0) (each_weaker p q f octets r.1)

safe_in_line : (b : ℕ) → is_safe b ≡ true → is_line_octet b ≡ true
safe_in_line b h = grind (arith, nat_tests)

pub safe_lined : (octets : List ℕ) → list_all is_safe octets ≡ true → IsLined octets
safe_lined octets h = part_lined octets (record { unbroken = each_weaker is_safe is_line_octet safe_in_line octets h; unmarked = safe_tail octets h })

pub octet_lined : (b : ℕ) (octets : List ℕ) → is_safe b ≡ true → IsLined octets → IsLined (b ∷ octets)
octet_lined b octets h k = append_lined (b ∷ []) octets (safe_lined (b ∷ []) (both (is_safe b) true h refl)) k

pub consists_lined : (test : ℕ → Bool) → ((b : ℕ) → test b ≡ true → is_safe b ≡ true) → (octets : List ℕ) → list_all test octets ≡ true → IsLined octets
consists_lined test f octets h = safe_lined octets (each_weaker test is_safe f octets h)

pub astring_safe : (b : ℕ) → is_astring_char b ≡ true → is_safe b ≡ true
astring_safe b h = grind (arith, nat_tests)

pub atom_safe : (b : ℕ) → is_atom_char b ≡ true → is_safe b ≡ true
atom_safe b h = astring_safe b (both_true (is_astring_char b) (not (eqb b 93)) h).0

digit_safe : (b : ℕ) → is_ascii_digit b ≡ true → is_safe b ≡ true
digit_safe b h = grind (arith, nat_tests)

pub atom_lined : Lines atom
atom_lined octets h = consists_lined is_atom_char atom_safe octets (both_true _ _ h).1

pub word_lined : {W : Type 0} {test : ℕ → Bool} {name : W → List ℕ} {all : List W} → IsTable test name all → ((b : ℕ) → test b ≡ true → is_safe b ≡ true) → (w : W) → IsLined (name w)
word_lined {test = test} {name = name} table f w = consists_lined test f (name w) (consists_all test (name w) (table.passes w))

digits_lined : (octets : List ℕ) → list_all is_ascii_digit octets ≡ true → IsLined octets
digits_lined octets h = consists_lined is_ascii_digit digit_safe octets h

pub decimal_lined : (n : ℕ) → n < 2 ^ 64 → IsLined (decimal_text n)
decimal_lined n lt = digits_lined (decimal_text n) (consists_all is_ascii_digit (decimal_text n) (digits_made n lt).1)

pub number_lined : (low high : ℕ) → high < 2 ^ 64 → Lines (number low high)
number_lined low high bound n h = decimal_lined n (grind (arith, nat_tests))

pub number64_lined : Lines number64
number64_lined = number_lined 0 9223372036854775807 (omega arith)

pub mod_sequence_lined : Lines mod_sequence
mod_sequence_lined = number_lined 1 9223372036854775807 (omega arith)

-- ---- lists

pub further_lined : {A : Type 0} (b : ℕ) (w : Writing A) → is_safe b ≡ true → Lines w → (items : List A) → list_all w.fits items ≡ true → IsLined (further b w.text items)
further_lined b w s law [] h = none_lined
further_lined b w s law (item ∷ items) h =
    let q = both_true (w.fits item) (list_all w.fits items) h in
    append_lined (b ∷ w.text item) (further b w.text items) (octet_lined b (w.text item) s (law item q.0)) (further_lined b w s law items q.1)

pub joined_lined : {A : Type 0} (b : ℕ) (w : Writing A) → is_safe b ≡ true → Lines w → (items : List A) → list_all w.fits items ≡ true → IsLined (joined b w.text items)
joined_lined b w s law [] h = none_lined
joined_lined b w s law (item ∷ items) h =
    let q = both_true (w.fits item) (list_all w.fits items) h in
    append_lined (w.text item) (further b w.text items) (law item q.0) (further_lined b w s law items q.1)

pub enclosed_lined : (octets : List ℕ) → IsLined octets → IsLined (in_parentheses octets)
enclosed_lined octets h = octet_lined 40 (octets ++ 41 ∷ []) refl (append_lined octets (41 ∷ []) h (safe_lined (41 ∷ []) refl))

pub separated_lined : {A : Type 0} (b : ℕ) (w : Writing A) → is_safe b ≡ true → Lines w → (items : List A) → (separated b w).fits items ≡ true → IsLined (joined b w.text items)
separated_lined b w s law items h = joined_lined b w s law items (both_true _ _ h).1

pub listed_lined : {A : Type 0} (w : Writing A) → Lines w → (items : List A) → list_all w.fits items ≡ true → IsLined (in_parentheses (joined 32 w.text items))
listed_lined w law items h = enclosed_lined (joined 32 w.text items) (joined_lined 32 w refl law items h)

-- ---- strings

quotable_in_line : (b : ℕ) → is_unquotable b ≡ false → is_line_octet b ≡ true
quotable_in_line b h = grind (arith, nat_tests)

escaped_unbroken : (b : ℕ) (v : Bool) → is_line_octet b ≡ true → list_all is_line_octet (cond v (92 ∷ b ∷ []) (b ∷ [])) ≡ true
escaped_unbroken b true h = rw h refl
escaped_unbroken b false h = rw h refl

neither : (a b : Bool) → not (a || b) ≡ true → (a ≡ false) × (not b ≡ true)
neither true b h = absurd cc
neither false b h = (refl, h)

text_unbroken : (octets : List ℕ) → is_quotable octets ≡ true → list_all is_line_octet (flat_map escaped octets) ≡ true
text_unbroken [] h = refl
text_unbroken (b ∷ octets) h =
    let q = neither (is_unquotable b) (list_any is_unquotable octets) h in
    list_all-append is_line_octet (escaped b) (flat_map escaped octets) ∙ both _ _ (escaped_unbroken b (is_quoted_special b) (quotable_in_line b q.0)) (text_unbroken octets q.1)

-- behind a quote no mark is begun
quote_ends : (t : LineTail) → with_octets t (34 ∷ []) ≡ mark.text
quote_ends t = refl

pub quoted_lined : (octets : List ℕ) → is_quotable octets ≡ true → IsLined (quoted_text octets)
quoted_lined octets h =
    let inner = flat_map escaped octets in
    let unbroken = list_all-append is_line_octet inner (34 ∷ []) ∙ both _ _ (text_unbroken octets h) refl in
    part_lined (quoted_text octets) (record { unbroken = unbroken; unmarked = with_octets-append mark.text (34 ∷ inner) (34 ∷ []) ∙ quote_ends (with_octets mark.text (34 ∷ inner)) })

pub literal_lined : (octets : List ℕ) → ltb (length octets) 18446744073709551616 ≡ true → IsLined (literal_text octets)
literal_lined octets h =
    let short : length octets < 2 ^ 64 = grind (arith, nat_tests) in
    record { pieces = literal octets ∷ []; each = (short, tt); whole = sym (append-nil (literal_text octets)) }

string_by : (octets : List ℕ) (v : Bool) → is_written_quoted octets ≡ v → string.fits octets ≡ true → IsLined (cond v (quoted_text octets) (literal_text octets))
string_by octets true e h = quoted_lined octets (both_true _ _ e).1
string_by octets false e h = literal_lined octets (literal_can octets e h).1

pub string_lined : Lines string
string_lined octets h = string_by octets (is_written_quoted octets) refl h

-- octets of a class that is safe, or a string
pub bare_or_string_lined : (test : ℕ → Bool) → ((b : ℕ) → test b ≡ true → is_safe b ≡ true) → Lines (bare_or_string test)
bare_or_string_lined test safe octets h = go ((some_of test).fits octets) refl
  where
    go : (v : Bool) → (some_of test).fits octets ≡ v → IsLined (cond v octets (string.text octets))
    go true e = consists_lined test safe octets (both_true _ _ e).1
    go false e = string_lined octets h

pub astring_lined : Lines astring
astring_lined = bare_or_string_lined is_astring_char astring_safe

-- ---- sets and flags

seq_number_lined : (n : SeqNumber) → number_fits n ≡ true → IsLined (number_text n)
seq_number_lined seq.Last h = safe_lined (42 ∷ []) refl
seq_number_lined (seq.Number n) h = number_lined 1 4294967295 (omega arith) n h

range_by : (r : SeqRange) → seq_range.fits r ≡ true → (v : Bool) → IsLined (cond v (number_text r.first) (number_text r.first ++ 58 ∷ number_text r.last))
range_by r h v =
    let q = both_true (number_fits r.first) (number_fits r.last) h in
    go v (seq_number_lined r.first q.0) (append_lined (number_text r.first) (58 ∷ number_text r.last) (seq_number_lined r.first q.0) (octet_lined 58 (number_text r.last) refl (seq_number_lined r.last q.1)))
  where
    go : (w : Bool) → IsLined (number_text r.first) → IsLined (number_text r.first ++ 58 ∷ number_text r.last) → IsLined (cond w (number_text r.first) (number_text r.first ++ 58 ∷ number_text r.last))
    go true one both = one
    go false one both = both

range_lined : Lines seq_range
range_lined r h = range_by r h (is_same r.first r.last)

pub seq_set_lined : Lines seq_set
seq_set_lined ranges h = separated_lined 44 seq_range refl range_lined ranges h

pub set_lined : Lines message_set
set_lined messages.Saved h = safe_lined (36 ∷ []) refl
set_lined (messages.Numbers ranges) h = seq_set_lined ranges h

pub flag_lined : Lines message_flag
flag_lined flag.Answered h = octet_lined 92 (flag_name system.Answered) refl (word_lined flag_table atom_safe system.Answered)
flag_lined flag.Deleted h = octet_lined 92 (flag_name system.Deleted) refl (word_lined flag_table atom_safe system.Deleted)
flag_lined flag.Draft h = octet_lined 92 (flag_name system.Draft) refl (word_lined flag_table atom_safe system.Draft)
flag_lined flag.Flagged h = octet_lined 92 (flag_name system.Flagged) refl (word_lined flag_table atom_safe system.Flagged)
flag_lined flag.Seen h = octet_lined 92 (flag_name system.Seen) refl (word_lined flag_table atom_safe system.Seen)
flag_lined (flag.Other word) h = octet_lined 92 word refl (atom_lined word (both_true (atom.fits word) _ h).0)
flag_lined (flag.Keyword word) h = atom_lined word h

-- ---- dates

two_lined : (n : ℕ) → IsLined (two_digits n)
two_lined n = digits_lined (two_digits n) (rw (is_digit (n / 10), is_digit n) refl)

month_lined : (m : Month) → IsLined (month_name m)
month_lined m = word_lined month_table word_safe m
  where
    word_safe : (b : ℕ) → is_word_char b ≡ true → is_safe b ≡ true
    word_safe b h = grind (arith, nat_tests)

month_year_lined : (d : Day) → IsLined (month_year_text d)
month_year_lined d =
    let name = month_name d.month in
    let year = four_digits d.year in
    octet_lined 45 (name ++ (45 ∷ year)) refl
    (append_lined name (45 ∷ year) (month_lined d.month)
    (octet_lined 45 year refl (append_lined (two_digits (d.year / 100)) (two_digits d.year) (two_lined (d.year / 100)) (two_lined d.year))))

day_lined : (n : ℕ) (few : Bool) → IsLined (cond few (digit n ∷ []) (two_digits n))
day_lined n true = digits_lined (digit n ∷ []) (rw (is_digit n) refl)
day_lined n false = two_lined n

pub date_lined : (d : Day) → IsLined (date.text d)
date_lined d = append_lined (day_text d.day) (month_year_text d) (day_lined d.day (ltb d.day 10)) (month_year_lined d)

fixed_day_lined : (n : ℕ) (few : Bool) → IsLined (cond few (32 ∷ digit n ∷ []) (two_digits n))
fixed_day_lined n true = octet_lined 32 (digit n ∷ []) refl (digits_lined (digit n ∷ []) (rw (is_digit n) refl))
fixed_day_lined n false = two_lined n

fixed_date_lined : (d : Day) → IsLined (fixed_date_text d)
fixed_date_lined d = append_lined (fixed_day_text d.day) (month_year_text d) (fixed_day_lined d.day (ltb d.day 10)) (month_year_lined d)

sign_safe : (west : Bool) → is_safe (sign west) ≡ true
sign_safe true = refl
sign_safe false = refl

zone_lined : (z : Offset) → IsLined (zone_text z)
zone_lined z = octet_lined (sign z.west) (two_digits z.hours ++ two_digits z.minutes) (sign_safe z.west) (append_lined (two_digits z.hours) (two_digits z.minutes) (two_lined z.hours) (two_lined z.minutes))

clock_lined : (t : Moment) → IsLined (clock_text t)
clock_lined t =
    append_lined (two_digits t.hour) (58 ∷ (two_digits t.minute ++ (58 ∷ two_digits t.second))) (two_lined t.hour)
    (octet_lined 58 (two_digits t.minute ++ (58 ∷ two_digits t.second)) refl
    (append_lined (two_digits t.minute) (58 ∷ two_digits t.second) (two_lined t.minute) (octet_lined 58 (two_digits t.second) refl (two_lined t.second))))

date_time_text_lined : (t : Moment) → IsLined (date_time_text t)
date_time_text_lined t =
    let clock = clock_text t in
    let zone = zone_text t.zone in
    append_lined (fixed_date_text t.date) (32 ∷ (clock ++ (32 ∷ zone))) (fixed_date_lined t.date)
    (octet_lined 32 (clock ++ (32 ∷ zone)) refl
    (append_lined clock (32 ∷ zone) (clock_lined t) (octet_lined 32 zone refl (zone_lined t.zone))))

pub date_time_lined : (t : Moment) → IsLined (date_time_end.text t)
date_time_lined t = append_lined (date_time_text t) (34 ∷ []) (date_time_text_lined t) (safe_lined (34 ∷ []) refl)
