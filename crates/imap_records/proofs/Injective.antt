-- Values that have the same text are the same.
use Rattle.std.proofs.Common.{◌≡◌, ℕ, ◌+◌, ◌*◌, ◌≤◌, ℤ, pos, negsuc, Bool, true, false, cond, List, [], ◌∷◌, ◌++◌, length, refl, sym, ap, ◌∙◌, true≢false, arith}
use Rattle.std.specs.Prelude.{not, ◌==◌}
use Rattle.std.specs.List.{list_all}
use Rattle.std.proofs.lemmas.Bool.{and_parts}
use Rattle.sqlite.specs.declared.types.Value.{Value}
use Rattle.sqlite.specs.declared.types.Value.TheVariants.{Int, Text as Words, Blob as Bytes, Null, Real}
use Rattle.sqlite.specs.Order.{Row, column}
use Rattle.imap_mailbox.specs.declared.flags.SharedFlags.{SharedFlags}
use Rattle.imap_mailbox.specs.declared.message.GoneMessage.{GoneMessage}
use Rattle.imap_mailbox.specs.declared.message.Message.{Message}
use Rattle.imap_mailbox.specs.declared.kept_change.KeptChange.{KeptChange}
use Rattle.imap_syntax.specs.Atoms.{IsAtom}
use Rattle.imap_syntax.specs.Dates.{date_time_read}
use Rattle.imap_syntax.specs.Keywords.{AreAtoms}
use Rattle.imap_syntax.specs.Lexical.{is_atom_char}
use Rattle.imap_syntax.specs.Moments.{Moment}
use Rattle.imap_syntax.specs.WrittenDates.{date_time_fits, date_time_text}
use Rattle.imap_syntax.proofs.ReadBack.{moment_read}
use Rattle.imap_tables.specs.Rows.{flag_of}
use Rattle.imap_records.specs.Columns.{bit, flag_bits, gone_values, keywords_text, mark_values, message_values, place_value, words_behind}
use Rattle.imap_records.specs.Values.{AreValues}
use Rattle.imap_records.proofs.Beside.{same_id}
use Rattle.imap_records.proofs.Closing.{same_some}
use Rattle.imap_records.proofs.Keys.{same_text}
use Rattle.imap_records.proofs.Texts.{joined_is}

-- ---- numbers

abbrev natural : ℤ → ℕ
natural (pos n) = n
natural (negsuc n) = n

pub same_number : (a b : ℕ) → Int (pos a) ≡ Int (pos b) → a ≡ b
same_number a b e = ap natural (same_id (pos a) (pos b) e)

pub same_place : (a b : ℕ) → Int (place_value a) ≡ Int (place_value b) → a ≡ b
same_place a b e = omega (arith, same_number (a + 1) (b + 1) e)

abbrev octets_in : Value → List ℕ
octets_in (Bytes t) = t
octets_in Null = []
octets_in (Int n) = []
octets_in (Real x) = []
octets_in (Words b) = []

abbrev is_one : ℤ → Bool
is_one (pos n) = n == 1
is_one (negsuc n) = false

same_seen : (a b : Bool) → Int (flag_of a) ≡ Int (flag_of b) → a ≡ b
same_seen true true e = refl
same_seen true false e = ap is_one (same_id (pos 1) (pos 0) e)
same_seen false true e = ap is_one (same_id (pos 0) (pos 1) e)
same_seen false false e = refl

-- ---- dates

pub same_date : (a b : Moment) → date_time_fits a ≡ true → date_time_fits b ≡ true → date_time_text a ≡ date_time_text b → a ≡ b
same_date a b fa fb e = same_some a b (sym (moment_read a fa) ∙ ap date_time_read e ∙ moment_read b fb)

-- ---- flags

abbrev one : Bool → ℕ
one b = cond b 1 0

bit_is : (b : Bool) (v : ℕ) → bit b v ≡ v * one b
bit_is true v = omega arith
bit_is false v = omega arith

one_low : (b : Bool) → one b ≤ 1
one_low true = omega arith
one_low false = omega arith

same_one : (a b : Bool) → one a ≡ one b → a ≡ b
same_one true true e = refl
same_one true false e = absurd (omega (arith, e))
same_one false true e = absurd (omega (arith, e))
same_one false false e = refl

record SameBits (a b c d x y z w : ℕ) : Type 0 where
  first : a ≡ x
  second : b ≡ y
  third : c ≡ z
  fourth : d ≡ w

four_bits : (a b c d x y z w : ℕ) → a ≤ 1 → b ≤ 1 → c ≤ 1 → d ≤ 1 → x ≤ 1 → y ≤ 1 → z ≤ 1 → w ≤ 1 → 1 * a + (2 * b + (4 * c + 8 * d)) ≡ 1 * x + (2 * y + (4 * z + 8 * w)) → SameBits a b c d x y z w
four_bits a b c d x y z w la lb lc ld lx ly lz lw e = record {
  first = omega (arith, la, lb, lc, ld, lx, ly, lz, lw, e);
  second = omega (arith, la, lb, lc, ld, lx, ly, lz, lw, e);
  third = omega (arith, la, lb, lc, ld, lx, ly, lz, lw, e);
  fourth = omega (arith, la, lb, lc, ld, lx, ly, lz, lw, e);
}

sum_is : (f : SharedFlags) → flag_bits f ≡ 1 * one f.answered + (2 * one f.deleted + (4 * one f.draft + 8 * one f.flagged))
sum_is f = λ i. bit_is f.answered 1 i + (bit_is f.deleted 2 i + (bit_is f.draft 4 i + bit_is f.flagged 8 i))

same_flags : (f g : SharedFlags) → flag_bits f ≡ flag_bits g → f.keywords ≡ g.keywords → f ≡ g
same_flags f g e k =
    let b = four_bits (one f.answered) (one f.deleted) (one f.draft) (one f.flagged) (one g.answered) (one g.deleted) (one g.draft) (one g.flagged) (one_low f.answered) (one_low f.deleted) (one_low f.draft) (one_low f.flagged)
    (one_low g.answered) (one_low g.deleted) (one_low g.draft) (one_low g.flagged) (sym (sum_is f) ∙ e ∙ sum_is g) in
    λ i. record {
      answered = same_one f.answered g.answered b.first i;
      deleted = same_one f.deleted g.deleted b.second i;
      draft = same_one f.draft g.draft b.third i;
      flagged = same_one f.flagged g.flagged b.fourth i;
      keywords = k i;
    }

-- ---- keywords

-- what follows a word is nothing, or begins with a space
abbrev IsEnd : List ℕ → Type 0
IsEnd [] = Unit {0}
IsEnd (c ∷ cs) = c ≡ 32

end_of : (words : List (List ℕ)) → IsEnd (words_behind words)
end_of [] = tt
end_of (word ∷ words) = refl

abbrev first_or : ℕ → List ℕ → ℕ
first_or d [] = d
first_or d (c ∷ cs) = c

abbrev rest_of : List ℕ → List ℕ
rest_of [] = []
rest_of (c ∷ cs) = cs

record SameFront (w v r s : List ℕ) : Type 0 where
  word : w ≡ v
  rest : r ≡ s

no_space : (c : ℕ) → is_atom_char c ≡ true → c ≡ 32 → ⊥
no_space c e is = true≢false (sym e ∙ ap is_atom_char is)

same_front : (w v r s : List ℕ) → list_all is_atom_char w ≡ true → list_all is_atom_char v ≡ true → IsEnd r → IsEnd s → w ++ r ≡ v ++ s → SameFront w v r s
same_front [] [] r s hw hv hr hs e = record { word = refl; rest = e }
same_front [] (c ∷ v) [] s hw hv hr hs e = absurd (omega (arith, ap length e))
same_front [] (c ∷ v) (d ∷ r) s hw hv hr hs e = absurd (no_space c (and_parts (is_atom_char c) (list_all is_atom_char v) hv).0 (sym (ap (first_or 0) e) ∙ hr))
same_front (c ∷ w) [] r [] hw hv hr hs e = absurd (omega (arith, ap length e))
same_front (c ∷ w) [] r (d ∷ s) hw hv hr hs e = absurd (no_space c (and_parts (is_atom_char c) (list_all is_atom_char w) hw).0 (ap (first_or 0) e ∙ hs))
same_front (c ∷ w) (d ∷ v) r s hw hv hr hs e =
    let rest = same_front w v r s (and_parts (is_atom_char c) (list_all is_atom_char w) hw).1 (and_parts (is_atom_char d) (list_all is_atom_char v) hv).1 hr hs (ap rest_of e) in
    record { word = λ i. ap (first_or 0) e i ∷ rest.word i; rest = rest.rest }

all_atoms : (word : List ℕ) → IsAtom word → list_all is_atom_char word ≡ true
all_atoms word h = (and_parts (not (length word == 0)) (list_all is_atom_char word) h).1

same_behind : (ws vs : List (List ℕ)) → AreAtoms ws → AreAtoms vs → words_behind ws ≡ words_behind vs → ws ≡ vs
same_behind [] [] hw hv e = refl
same_behind [] (v ∷ vs) hw hv e = absurd (omega (arith, ap length e))
same_behind (w ∷ ws) [] hw hv e = absurd (omega (arith, ap length e))
same_behind (w ∷ ws) (v ∷ vs) hw hv e =
    let f = same_front w v (words_behind ws) (words_behind vs) (all_atoms w hw.0) (all_atoms v hv.0) (end_of ws) (end_of vs) (ap rest_of e) in
    λ i. f.word i ∷ same_behind ws vs hw.1 hv.1 f.rest i

filled_word : (word : List ℕ) (rest : List ℕ) → IsAtom word → word ++ rest ≡ [] → ⊥
filled_word [] rest h e = true≢false (sym (and_parts (not (length {A = ℕ} [] == 0)) (list_all is_atom_char []) h).0)
filled_word (c ∷ word) rest h e = omega (arith, ap length e)

pub same_keywords : (ws vs : List (List ℕ)) → AreAtoms ws → AreAtoms vs → keywords_text ws ≡ keywords_text vs → ws ≡ vs
same_keywords [] [] hw hv e = refl
same_keywords [] (v ∷ vs) hw hv e = absurd (filled_word v (words_behind vs) hv.0 (sym (joined_is v vs) ∙ sym e))
same_keywords (w ∷ ws) [] hw hv e = absurd (filled_word w (words_behind ws) hw.0 (sym (joined_is w ws) ∙ e))
same_keywords (w ∷ ws) (v ∷ vs) hw hv e =
    let f = same_front w v (words_behind ws) (words_behind vs) (all_atoms w hw.0) (all_atoms v hv.0) (end_of ws) (end_of vs) (sym (joined_is w ws) ∙ e ∙ joined_is v vs) in
    λ i. f.word i ∷ same_behind ws vs hw.1 hv.1 f.rest i

-- ---- rows

pub same_message : (n k : ℤ) (x y : Message) → AreValues x.date x.flags → AreValues y.date y.flags → message_values n x ≡ message_values k y → x ≡ y
same_message n k x y hx hy e =
    let uid = same_number x.uid y.uid (ap (λ (r : Row). column r 1) e) in
    let date = same_date x.date y.date hx.date hy.date (same_text (date_time_text x.date) (date_time_text y.date) (ap (λ (r : Row). column r 2) e)) in
    let octets : x.octets ≡ y.octets = ap (λ (r : Row). octets_in (column r 3)) e in
    let bits = same_number (flag_bits x.flags) (flag_bits y.flags) (ap (λ (r : Row). column r 4) e) in
    let words = same_keywords x.flags.keywords y.flags.keywords hx.keywords.atoms hy.keywords.atoms (same_text (keywords_text x.flags.keywords) (keywords_text y.flags.keywords) (ap (λ (r : Row). column r 5) e)) in
    let place = same_place x.place y.place (ap (λ (r : Row). column r 6) e) in
    λ i. record { uid = uid i; date = date i; octets = octets i; flags = same_flags x.flags y.flags bits words i; place = place i }

pub same_gone : (n k : ℤ) (x y : GoneMessage) → gone_values n x ≡ gone_values k y → x ≡ y
same_gone n k x y e =
    let uid = same_number x.uid y.uid (ap (λ (r : Row). column r 1) e) in
    let place = same_place x.place y.place (ap (λ (r : Row). column r 2) e) in
    λ i. record { uid = uid i; place = place i }

pub record IsSameMark (user other : List ℕ) (x y : KeptChange) : Type 0 where
  pub users : user ≡ other
  pub changes : x ≡ y

pub same_mark : (n k : ℤ) (user other : List ℕ) (x y : KeptChange) → mark_values n user x ≡ mark_values k other y → IsSameMark user other x y
same_mark n k user other x y e =
    let place = same_place x.place y.place (ap (λ (r : Row). column r 2) e) in
    let before = same_number x.before y.before (ap (λ (r : Row). column r 3) e) in
    let uid = same_number x.uid y.uid (ap (λ (r : Row). column r 4) e) in
    let seen = same_seen x.seen y.seen (ap (λ (r : Row). column r 5) e) in
    record {
      users = same_text user other (ap (λ (r : Row). column r 1) e);
      changes = λ i. record { place = place i; before = before i; uid = uid i; seen = seen i };
    }
