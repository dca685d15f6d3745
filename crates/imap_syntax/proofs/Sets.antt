-- The laws of sets and flags.
use Rattle.std.proofs.Common.{◌≡◌, ℕ, Bool, true, false, eqb, ◌||◌, List, refl, arith}
use Rattle.std.specs.Char.{is_ascii_digit}
use Rattle.std.proofs.lemmas.Bool.Decides.{nat_tests}
use Rattle.imap_syntax.specs.Lexical.{is_atom_char}
use Rattle.imap_syntax.specs.Sets.{seq_number, range_from, seq_range, seq_set, message_set, begins_set}
use Rattle.imap_syntax.specs.Flags.{message_flag}
use Rattle.imap_syntax.proofs.RuleLaws.{StopsAt, Lawful, ended_lawful, then_lawful, give_lawful, give_follows, octet_lawful, some_of_lawful}
use Rattle.imap_syntax.proofs.Opens.{opens_weaker, Opens, octet_opens, then_opens, or_opens, or_apart, some_of_opens, opens_follows}
use Rattle.imap_syntax.proofs.Lists.{flag_lawful, flag_then_lawful, flag_then_follows, flag_then_opens, separated_lawful, separated_opens}
use Rattle.imap_syntax.proofs.Numbers.{nz_number_lawful, nz_number_opens}
use Rattle.imap_syntax.proofs.Ends.{AtEnd, before, give_before, end_stops, differs}

-- what may follow a range
abbrev pub AfterRange : List ℕ → Type 0
AfterRange rest = StopsAt is_ascii_digit rest × StopsAt (λ b. eqb b 58) rest

unfoldable pub begins_number : ℕ → Bool
begins_number b = is_ascii_digit b || eqb b 42

seq_number_lawful : Lawful (StopsAt is_ascii_digit) seq_number
seq_number_lawful =
    or_apart (ended_lawful (octet_lawful 42) (λ u. give_lawful _)) (then_lawful (nz_number_lawful _) (λ n. give_lawful _) (λ n. give_follows _))
    (then_opens _ (nz_number_opens _)) (λ b rest h. let k : eqb b 42 ≡ false = differs is_ascii_digit 42 refl b h in rw k refl)

digit_begins : (b : ℕ) → is_ascii_digit b ≡ true → begins_number b ≡ true
unfolding begins_number
digit_begins b h = rw h refl

seq_number_opens : Opens begins_number seq_number
unfolding begins_number
seq_number_opens = or_opens (then_opens _ (octet_opens _ 42 refl)) (then_opens _ (opens_weaker digit_begins (nz_number_opens _)))

pub seq_range_lawful : Lawful AfterRange seq_range
seq_range_lawful =
    then_lawful seq_number_lawful
    (λ first. flag_then_lawful 58 (range_from first)
    (before (λ rest n. n.0) (then_lawful seq_number_lawful (λ last. give_lawful _) (λ last. give_follows _)))
    (give_lawful _)
    (give_before _ (λ rest n. n.1)))
    (λ first. flag_then_follows 58 (range_from first) (λ rest. refl) (give_before _ (λ rest n. n.0)))

pub seq_set_lawful : Lawful AtEnd seq_set
seq_set_lawful = before (λ rest n. ((end_stops is_ascii_digit refl refl refl rest n, end_stops (λ b. eqb b 58) refl refl refl rest n), end_stops (λ b. eqb b 44) refl refl refl rest n)) (separated_lawful 44 (λ rest. (refl, refl)) seq_range_lawful)

pub seq_set_opens : Opens begins_number seq_set
seq_set_opens = separated_opens 44 (then_opens _ seq_number_opens)

pub no_parenthesis : begins_number 40 ≡ false
unfolding begins_number
no_parenthesis = refl

no_number : begins_number 36 ≡ false
unfolding begins_number
no_number = refl

pub message_set_lawful : Lawful AtEnd message_set
message_set_lawful =
    or_apart (ended_lawful (octet_lawful 36) (λ u. give_lawful _)) (then_lawful seq_set_lawful (λ n. give_lawful _) (λ n. give_follows _))
    (then_opens _ seq_set_opens) (λ b rest h. let k : eqb b 36 ≡ false = differs begins_number 36 no_number b h in rw k refl)

number_begins_set : (b : ℕ) → begins_number b ≡ true → begins_set b ≡ true
unfolding begins_number
number_begins_set b h = grind (arith, nat_tests)

pub message_set_opens : Opens begins_set message_set
message_set_opens = or_opens (then_opens _ (octet_opens _ 36 refl)) (then_opens _ (opens_weaker number_begins_set seq_set_opens))

-- ---- flags

pub begins_flag : ℕ → Bool
begins_flag b = is_atom_char b || eqb b 92

atom_begins : (b : ℕ) → is_atom_char b ≡ true → begins_flag b ≡ true
unfolding begins_flag
atom_begins b h = rw h refl

pub message_flag_lawful : Lawful (StopsAt is_atom_char) message_flag
message_flag_lawful =
    then_lawful (flag_lawful 92)
    (λ backslash. then_lawful (some_of_lawful is_atom_char) (λ word. give_lawful _) (λ word. give_follows _))
    (λ backslash. opens_follows (then_opens _ (some_of_opens is_atom_char)) (λ b rest h. differs is_atom_char 92 refl b h))

pub message_flag_opens : Opens begins_flag message_flag
unfolding begins_flag
message_flag_opens = flag_then_opens 92 _ refl (then_opens _ (opens_weaker atom_begins (some_of_opens is_atom_char)))

pub no_flag : (c : ℕ) → (is_atom_char c || eqb c 92) ≡ false → begins_flag c ≡ false
unfolding begins_flag
no_flag c h = h
