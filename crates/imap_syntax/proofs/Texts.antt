-- Whatever a rule spells is a text of lines and literals, of which a framer can tell one from the other.
use Rattle.std.proofs.Common.{◌≡◌, ◌≢◌, ℕ, Bool, true, false, cond, eqb, List, [], ◌∷◌, ◌++◌, length, Option, Some, None, inl, inr, refl, sym, ap, subst, ◌∙◌, append_assoc, arith}
use Rattle.std.specs.Char.{is_ascii_digit}
use Rattle.std.specs.List.{list_all, AllByRecursion}
use Rattle.std.proofs.lemmas.Bool.Decides.{nat_tests}
use Rattle.std.proofs.lemmas.List.{append-nil}
use Rattle.std.proofs.lemmas.List.Folds.{list_all-append}
use Rattle.imap_lex.specs.Mark as mark
use Rattle.imap_lex.specs.Mark.{LineTail, with_octet, with_octets, closing, decimal_from}
use Rattle.imap_lex.proofs.Tails.{with_octets-append}
use Rattle.imap_syntax.specs.Rule.{Rule, fail, give, ◌>>=◌, ◌<|>◌, octet, when, flag, IsFlag, some_of, keyword, IsSeparated, separated, listed, listed_behind, listed_end, listed_or_none, judged, ConsistsOf}
use Rattle.imap_syntax.specs.First.{by_first}
use Rattle.imap_syntax.proofs.Words.{IsTable, spelt_passes}
use Rattle.imap_syntax.proofs.Writing.{both_true, both, consists_all}
use Rattle.imap_syntax.proofs.Lined.{IsPart, is_line_octet, is_safe, each_weaker}

-- ---- pieces of a text

-- a part of a line, or a literal with the mark that announces it
pub data Piece : Type 0 where
  part : (octets : List ℕ) → Piece
  literal : (digits : List ℕ) (waits : Bool) (octets : List ℕ) → Piece

abbrev pub IsPiece : Piece → Type 0
IsPiece (part octets) = IsPart octets
IsPiece (literal digits waits octets) = ConsistsOf is_ascii_digit digits × (digits ≢ []) × (decimal_from 0 digits ≡ length octets)

abbrev pub head_text : (digits : List ℕ) (waits : Bool) → List ℕ
head_text digits waits = 123 ∷ (digits ++ closing waits)

abbrev pub piece_text : Piece → List ℕ
piece_text (part octets) = octets
piece_text (literal digits waits octets) = head_text digits waits ++ octets

abbrev pub pieces_text : List Piece → List ℕ
pieces_text [] = []
pieces_text (p ∷ ps) = piece_text p ++ pieces_text ps

pub record IsText (octets : List ℕ) : Type 0 where
  pub pieces : List Piece
  pub each : AllByRecursion IsPiece pieces
  pub whole : octets ≡ pieces_text pieces

pieces_text-append : (ps qs : List Piece) → pieces_text (ps ++ qs) ≡ pieces_text ps ++ pieces_text qs
pieces_text-append [] qs = refl
pieces_text-append (p ∷ ps) qs = ap (λ (t : List ℕ). piece_text p ++ t) (pieces_text-append ps qs) ∙ sym (append_assoc (piece_text p) (pieces_text ps) (pieces_text qs))

each_piece : (ps qs : List Piece) → AllByRecursion IsPiece ps → AllByRecursion IsPiece qs → AllByRecursion IsPiece (ps ++ qs)
each_piece [] qs h k = k
each_piece (p ∷ ps) qs h k = (h.0, each_piece ps qs h.1 k)

none_text : IsText []
none_text = record { pieces = []; each = tt; whole = refl }

append_text : (a b : List ℕ) → IsText a → IsText b → IsText (a ++ b)
append_text a b h k = record {
  pieces = h.pieces ++ k.pieces;
  each = each_piece h.pieces k.pieces h.each k.each;
  whole = ap (λ (t : List ℕ). t ++ b) h.whole ∙ ap (λ (t : List ℕ). pieces_text h.pieces ++ t) k.whole ∙ sym (pieces_text-append h.pieces k.pieces);
}

pub part_text : (octets : List ℕ) → IsPart octets → IsText octets
part_text octets h = record { pieces = part octets ∷ []; each = (h, tt); whole = sym (append-nil octets) }

pub literal_text : (digits : List ℕ) (waits : Bool) (octets : List ℕ) → ConsistsOf is_ascii_digit digits → digits ≢ [] → decimal_from 0 digits ≡ length octets → IsText (head_text digits waits ++ octets)
literal_text digits waits octets h some e = record { pieces = literal digits waits octets ∷ []; each = ((h, some, e), tt); whole = sym (append-nil (head_text digits waits ++ octets)) }

-- ---- octets that begin no mark

no_brace : (b : ℕ) → is_safe b ≡ true → eqb b 123 ≡ false
no_brace b h = grind (arith, nat_tests)

safe_by : (c d e f g : Bool) → cond c mark.text (cond d mark.text (cond e mark.text (cond f mark.text (cond g mark.text mark.text)))) ≡ mark.text
safe_by true d e f g = refl
safe_by false true e f g = refl
safe_by false false true f g = refl
safe_by false false false true g = refl
safe_by false false false false true = refl
safe_by false false false false false = refl

safe_octet : (b : ℕ) → is_safe b ≡ true → with_octet mark.text b ≡ mark.text
safe_octet b h = rw (no_brace b h) (safe_by (mark.is_digit b) (eqb b 43) (eqb b 125) (eqb b 13) (eqb b 10))

safe_tail : (octets : List ℕ) → list_all is_safe octets ≡ true → with_octets mark.text octets ≡ mark.text
safe_tail [] h = refl
safe_tail (b ∷ octets) h = let q = both_true (is_safe b) (list_all is_safe octets) h in rw (safe_octet b q.0) (safe_tail octets q.1)

safe_in_line : (b : ℕ) → is_safe b ≡ true → is_line_octet b ≡ true
safe_in_line b h = grind (arith, nat_tests)

pub safe_part : (octets : List ℕ) → list_all is_safe octets ≡ true → IsPart octets
safe_part octets h = record { unbroken = each_weaker is_safe is_line_octet safe_in_line octets h; unmarked = safe_tail octets h }

pub consists_part : (test : ℕ → Bool) → ((b : ℕ) → test b ≡ true → is_safe b ≡ true) → (octets : List ℕ) → ConsistsOf test octets → IsPart octets
consists_part test f octets h = safe_part octets (each_weaker test is_safe f octets (consists_all test octets h))

-- ---- a quoted string: inner octets without CR and LF, and a quote

quote_ends : (t : LineTail) → with_octets t (34 ∷ []) ≡ mark.text
quote_ends t = refl

pub quoted_part : (inner : List ℕ) → list_all is_line_octet inner ≡ true → IsPart (inner ++ 34 ∷ [])
quoted_part inner h = record {
  unbroken = list_all-append is_line_octet inner (34 ∷ []) ∙ both _ _ h refl;
  unmarked = with_octets-append mark.text inner (34 ∷ []) ∙ quote_ends (with_octets mark.text inner);
}

-- ---- rules

-- whatever the rule spells is a text of lines and literals
pub record Texts {A : Type 0} (p : Rule A) : Type 0 where
  pub text : (a : A) (octets : List ℕ) → p.spells a octets → IsText octets

pub give_texts : {A : Type 0} (value : A) → Texts (give value)
give_texts value = record { text = λ a octets h. subst IsText (sym h.1) none_text }

pub when_texts : {A : Type 0} (test : Bool) (value : A) → Texts (when test value)
when_texts test value = record { text = λ a octets h. subst IsText (sym h.2) none_text }

pub fail_texts : {A : Type 0} → Texts {A = A} fail
fail_texts = record { text = λ a octets h. absurd h }

pub judged_texts : {A : Type 0} (found : Option A) → Texts (judged found)
judged_texts None = fail_texts
judged_texts (Some value) = give_texts value

pub octet_texts : (b : ℕ) → is_safe b ≡ true → Texts (octet b)
octet_texts b safe = record { text = λ u octets h. subst IsText (sym h) (part_text (b ∷ []) (safe_part (b ∷ []) (both (is_safe b) true safe refl))) }

flag_text : (b : ℕ) → is_safe b ≡ true → (found : Bool) (octets : List ℕ) → IsFlag b found octets → IsText octets
flag_text b safe true octets h = (octet_texts b safe).text tt octets h
flag_text b safe false octets h = subst IsText (sym h) none_text

pub flag_texts : (b : ℕ) → is_safe b ≡ true → Texts (flag b)
flag_texts b safe = record { text = flag_text b safe }

pub then_texts : {A B : Type 0} {p : Rule A} {next : A → Rule B} → Texts p → ((a : A) → Texts (next a)) → Texts (p >>= next)
then_texts first second = record { text = λ b octets h. subst IsText (sym h.5) (append_text h.1 h.2 (first.text h.0 h.1 h.3) ((second h.0).text b h.2 h.4)) }

pub or_texts : {A : Type 0} {p q : Rule A} → Texts p → Texts q → Texts (p <|> q)
or_texts first second = record { text = λ a octets h. elim h [ inl here ↦ first.text a octets here | inr there ↦ second.text a octets there ] }

pub by_first_texts : {A : Type 0} {test : ℕ → Bool} {p q : Rule A} → Texts p → Texts q → Texts (by_first test p q)
by_first_texts first second = record { text = λ a octets h. elim h [ inl here ↦ first.text a octets here.1 | inr there ↦ second.text a octets there.1 ] }

pub cond_texts : {A : Type 0} (b : Bool) {p q : Rule A} → Texts p → Texts q → Texts (cond b p q)
cond_texts true first second = first
cond_texts false first second = second

pub some_of_texts : (test : ℕ → Bool) → ((b : ℕ) → test b ≡ true → is_safe b ≡ true) → Texts (some_of test)
some_of_texts test safe = record { text = λ a octets h. part_text octets (consists_part test safe octets h.1) }

pub keyword_texts : {V : Type 0} {test : ℕ → Bool} {name : V → List ℕ} {all : List V} → IsTable test name all → ((b : ℕ) → test b ≡ true → is_safe b ≡ true) → Texts (keyword test name all)
keyword_texts {test = test} table safe = record { text = λ v octets h. part_text octets (consists_part test safe octets (spelt_passes table v octets h).0) }

-- ---- lists

separated_text : {A : Type 0} (b : ℕ) → is_safe b ≡ true → (p : Rule A) → Texts p → (items : List A) (octets : List ℕ) → IsSeparated b p.spells items octets → IsText octets
separated_text b safe p law [] octets h = absurd h
separated_text b safe p law (a ∷ []) octets h = law.text a octets h
separated_text b safe p law (a ∷ c ∷ others) octets h =
    let back = append_text (b ∷ []) h.1 ((octet_texts b safe).text tt (b ∷ []) refl) (separated_text b safe p law (c ∷ others) h.1 h.3) in
    subst IsText (sym h.4) (append_text h.0 (b ∷ h.1) (law.text a h.0 h.2) back)

pub separated_texts : {A : Type 0} {p : Rule A} (b : ℕ) → is_safe b ≡ true → Texts p → Texts (separated b p)
separated_texts {p = p} b safe law = record { text = separated_text b safe p law }

closed_texts : {A : Type 0} {p : Rule A} → Texts p → Texts (separated 32 p >>= λ items. octet 41 >>= λ u. give items)
closed_texts law = then_texts (separated_texts 32 refl law) (λ items. then_texts (octet_texts 41 refl) (λ u. give_texts _))

pub listed_texts : {A : Type 0} {p : Rule A} → Texts p → Texts (listed p)
listed_texts law = then_texts (octet_texts 40 refl) (λ u. closed_texts law)

listed_behind_texts : {A : Type 0} {p : Rule A} → Texts p → (none : Bool) → Texts (listed_behind p none)
listed_behind_texts law true = give_texts _
listed_behind_texts law false = closed_texts law

pub listed_end_texts : {A : Type 0} {p : Rule A} → Texts p → Texts (listed_end p)
listed_end_texts law = then_texts (flag_texts 41 refl) (λ none. listed_behind_texts law none)

pub listed_or_none_texts : {A : Type 0} {p : Rule A} → Texts p → Texts (listed_or_none p)
listed_or_none_texts law = then_texts (octet_texts 40 refl) (λ u. listed_end_texts law)
