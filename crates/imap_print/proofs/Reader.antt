-- How a reader goes through text, strings and literals.
use Rattle.std.proofs.Common.{◌≡◌, ℕ, zero, suc, ◌+◌, ◌-◌, ◌*◌, ◌/◌, ◌%◌, ◌<◌, Bool, true, false, not, cond, ◌&&◌, ◌||◌, eqb, List, [], ◌∷◌, ◌++◌, length, Some, refl, sym, ap, ◌∙◌, append_assoc, arith, flat_map}
use Rattle.std.specs.Prelude.{codes, ◌==◌}
use Rattle.std.specs.Fmt.{decimal, digits, digits_onto, digit_glyph}
use Rattle.std.specs.List.{list_all}
use Rattle.std.specs.Char.{is_ascii_digit}
use Rattle.std.specs.Str.{all_ascii_digits}
use Rattle.std.proofs.lemmas.Fmt.{digits_decimal, digits_value-decimal, decimal_nonempty}
use Rattle.std.proofs.lemmas.Bool.Decides.{nat_tests}
use Rattle.std.proofs.lemmas.List.Folds.{list_all-append}
use Rattle.imap_lex.specs.Framing.{crlf}
use Rattle.imap_syntax.specs.Lexical.{is_astring_char, is_quoted_special, decimal_from}
use Rattle.imap_print.specs.Words.{before_each, joined, in_parentheses}
use Rattle.imap_syntax.specs.Written.{escaped, quoted_text, literal_text}
use Rattle.imap_print.specs.Strings.{is_bare, name_text}
use Rattle.imap_print.specs.Lines.{LineState, text, opened, counting, counted, announced, within, ending, ended, broken, literal, text_next, next, has_ended, after_line, is_plain, IsPlain, IsHeld}
use Rattle.imap_syntax.proofs.Writing.{both_true, numerals}
use Rattle.imap_print.proofs.Quoting.{bare_parts}

-- the state after octets
abbrev pub run : LineState → List ℕ → LineState
run state [] = state
run state (octet ∷ octets) = run (next state octet) octets

pub run-append : (state : LineState) (a b : List ℕ) → run state (a ++ b) ≡ run (run state a) b
run-append state [] b = refl
run-append state (octet ∷ a) b = run-append (next state octet) a b

-- ---- after a line

pub ended_stays : (octets : List ℕ) → run ended octets ≡ ended
ended_stays [] = refl
ended_stays (octet ∷ octets) = ended_stays octets

goes_by : (ended_here : Bool) (state : LineState) (octet : ℕ) (octets rest : List ℕ) → has_ended state ≡ ended_here → has_ended (run state (octet ∷ octets)) ≡ false
    → after_line (next state octet) (octets ++ rest) ≡ after_line (run (next state octet) octets) rest
    → cond ended_here (Some (octet ∷ (octets ++ rest))) (after_line (next state octet) (octets ++ rest)) ≡ after_line (run (next state octet) octets) rest
goes_by false state octet octets rest is unended more = more
goes_by true ended octet octets rest is unended more = absurd (let k : has_ended (run ended octets) ≡ true = ap has_ended (ended_stays octets) in let f : true ≡ false = sym k ∙ unended in cc)
goes_by true text octet octets rest is unended more = absurd cc
goes_by true opened octet octets rest is unended more = absurd cc
goes_by true (counting n) octet octets rest is unended more = absurd cc
goes_by true (counted n) octet octets rest is unended more = absurd cc
goes_by true (announced n) octet octets rest is unended more = absurd cc
goes_by true (within n) octet octets rest is unended more = absurd cc
goes_by true ending octet octets rest is unended more = absurd cc
goes_by true broken octet octets rest is unended more = absurd cc

goes_through : (state : LineState) (octets rest : List ℕ) → has_ended (run state octets) ≡ false → after_line state (octets ++ rest) ≡ after_line (run state octets) rest
goes_through state [] rest unended = refl
goes_through state (octet ∷ octets) rest unended = goes_by (has_ended state) state octet octets rest refl unended (goes_through (next state octet) octets rest unended)

after_ended : (rest : List ℕ) → after_line ended rest ≡ Some rest
after_ended [] = refl
after_ended (octet ∷ rest) = refl

-- ---- octets from text to text

pub record Settles (octets : List ℕ) : Type 0 where
  pub is : run text octets ≡ text

pub settled : (octets : List ℕ) → run text octets ≡ text → Settles octets
settled octets e = record { is = e }

pub settles-append : {a b : List ℕ} → Settles a → Settles b → Settles (a ++ b)
settles-append {a = a} {b = b} s t = record { is = run-append text a b ∙ ap (λ (p : LineState). run p b) s.is ∙ t.is }

-- a line that settles ends with its CRLF
pub one_line : (octets rest : List ℕ) → Settles octets → after_line text ((octets ++ crlf) ++ rest) ≡ Some rest
one_line octets rest s =
    let unended : has_ended (run text octets) ≡ false = ap has_ended s.is in
    ap (after_line text) (append_assoc octets crlf rest)
    ∙ goes_through text octets (crlf ++ rest) unended
    ∙ ap (λ (p : LineState). after_line p (crlf ++ rest)) s.is
    ∙ after_ended rest

-- ---- octets that do nothing

abbrev pub is_quiet : ℕ → Bool
is_quiet octet = not (octet == 123 || octet == 13 || octet == 10)

pub record Quiet (octets : List ℕ) : Type 0 where
  pub all : list_all is_quiet octets ≡ true

quiet_by : (a b c : Bool) → not (a || b || c) ≡ true → cond a opened (cond b ending (cond c broken text)) ≡ text
quiet_by true b c h = absurd cc
quiet_by false true c h = absurd cc
quiet_by false false true h = absurd cc
quiet_by false false false h = refl

quiet_run : (octets : List ℕ) → list_all is_quiet octets ≡ true → run text octets ≡ text
quiet_run [] h = refl
quiet_run (octet ∷ octets) h =
    let parts = both_true (is_quiet octet) (list_all is_quiet octets) h in
    ap (λ (p : LineState). run p octets) (quiet_by (eqb octet 123) (eqb octet 13) (eqb octet 10) parts.0) ∙ quiet_run octets parts.1

pub quiet_settles : {octets : List ℕ} → Quiet octets → Settles octets
quiet_settles {octets = octets} q = record { is = quiet_run octets q.all }

pub quiet : (octets : List ℕ) → list_all is_quiet octets ≡ true → Quiet octets
quiet octets h = record { all = h }

pub quiet-append : {a b : List ℕ} → Quiet a → Quiet b → Quiet (a ++ b)
quiet-append {a = a} {b = b} q r = record { all = list_all-append is_quiet a b ∙ rw (q.all, r.all) refl }

-- ---- numbers

quiet_digit : (n : ℕ) → is_quiet (digit_glyph false (n % 10)) ≡ true
quiet_digit n = let lt : n % 10 < 10 = omega arith in grind (arith, nat_tests)

digits_quiet : (k n : ℕ) (appended : List ℕ) → list_all is_quiet appended ≡ true → list_all is_quiet (digits_onto k 10 false n appended) ≡ true
digits_quiet zero n appended h = h
digits_quiet (suc k) n appended h =
    let glyph = digit_glyph false (n % 10) in
    let more : list_all is_quiet (glyph ∷ appended) ≡ true = ap (λ (b : Bool). b && list_all is_quiet appended) (quiet_digit n) ∙ h in
    elim (eqb (n / 10) 0) as (λ b. list_all is_quiet (cond b (glyph ∷ appended) (digits_onto k 10 false (n / 10) (glyph ∷ appended))) ≡ true) [
      | true ↦ more
      | false ↦ digits_quiet k (n / 10) (glyph ∷ appended) more
    ]

pub quiet_decimal : (n : ℕ) → Quiet (decimal n)
unfolding digits
quiet_decimal n = record { all = digits_quiet 64 n [] refl }

-- ---- octets among which there is no CR or LF

abbrev is_calm : LineState → Bool
is_calm text = true
is_calm opened = true
is_calm (counting n) = true
is_calm (counted n) = true
is_calm (announced n) = false
is_calm (within n) = false
is_calm ending = false
is_calm ended = false
is_calm broken = false

calm_text : (a b c : Bool) → not (b || c) ≡ true → is_calm (cond a opened (cond b ending (cond c broken text))) ≡ true
calm_text true b c h = refl
calm_text false true c h = absurd cc
calm_text false false true h = absurd cc
calm_text false false false h = refl

calm_counting : (d e a b c : Bool) (n m : ℕ) → not (b || c) ≡ true → is_calm (cond d (counting m) (cond e (counted n) (cond a opened (cond b ending (cond c broken text))))) ≡ true
calm_counting true e a b c n m h = refl
calm_counting false true a b c n m h = refl
calm_counting false false a b c n m h = calm_text a b c h

calm_opened : (d a b c : Bool) (m : ℕ) → not (b || c) ≡ true → is_calm (cond d (counting m) (cond a opened (cond b ending (cond c broken text)))) ≡ true
calm_opened true a b c m h = refl
calm_opened false a b c m h = calm_text a b c h

calm_counted : (a b c : Bool) (n : ℕ) → not (b || c) ≡ true → is_calm (cond b (announced n) (cond a opened (cond b ending (cond c broken text)))) ≡ true
calm_counted a true c n h = absurd cc
calm_counted a false c n h = calm_text a false c h

calm_next : (state : LineState) (octet : ℕ) → is_calm state ≡ true → is_plain octet ≡ true → is_calm (next state octet) ≡ true
calm_next text octet calm plain = calm_text (eqb octet 123) (eqb octet 13) (eqb octet 10) plain
calm_next opened octet calm plain = calm_opened (is_ascii_digit octet) (eqb octet 123) (eqb octet 13) (eqb octet 10) (octet - 48) plain
calm_next (counting n) octet calm plain = calm_counting (is_ascii_digit octet) (eqb octet 125) (eqb octet 123) (eqb octet 13) (eqb octet 10) n (10 * n + (octet - 48)) plain
calm_next (counted n) octet calm plain = calm_counted (eqb octet 123) (eqb octet 13) (eqb octet 10) n plain
calm_next (announced n) octet calm plain = absurd cc
calm_next (within n) octet calm plain = absurd cc
calm_next ending octet calm plain = absurd cc
calm_next ended octet calm plain = absurd cc
calm_next broken octet calm plain = absurd cc

calm_run : (state : LineState) (octets : List ℕ) → is_calm state ≡ true → IsPlain octets → is_calm (run state octets) ≡ true
calm_run state [] calm plain = calm
calm_run state (octet ∷ octets) calm plain =
    let parts = both_true (is_plain octet) (list_all is_plain octets) plain in
    calm_run (next state octet) octets (calm_next state octet calm parts.0) parts.1

-- after an octet that is no digit, `}` or CR, and begins nothing, there is text
by_octet : (octet : ℕ) → text_next octet ≡ text → is_ascii_digit octet ≡ false → eqb octet 125 ≡ false → eqb octet 13 ≡ false
    → (state : LineState) → is_calm state ≡ true → next state octet ≡ text
by_octet octet plain digit brace cr text calm = plain
by_octet octet plain digit brace cr opened calm = rw digit plain
by_octet octet plain digit brace cr (counting n) calm = rw (digit, brace) plain
by_octet octet plain digit brace cr (counted n) calm = ap (λ (b : Bool). cond b (announced n) (text_next octet)) cr ∙ plain
by_octet octet plain digit brace cr (announced n) calm = absurd cc
by_octet octet plain digit brace cr (within n) calm = absurd cc
by_octet octet plain digit brace cr ending calm = absurd cc
by_octet octet plain digit brace cr ended calm = absurd cc
by_octet octet plain digit brace cr broken calm = absurd cc

by_space : (state : LineState) → is_calm state ≡ true → next state 32 ≡ text
by_space = by_octet 32 refl refl refl refl

by_quote : (state : LineState) → is_calm state ≡ true → next state 34 ≡ text
by_quote = by_octet 34 refl refl refl refl

by_parenthesis : (state : LineState) → is_calm state ≡ true → next state 41 ≡ text
by_parenthesis = by_octet 41 refl refl refl refl

plain-append : (a b : List ℕ) → IsPlain a → IsPlain b → IsPlain (a ++ b)
plain-append a b p q = list_all-append is_plain a b ∙ rw (p, q) refl

-- a tag, and a space after it
pub tagged : (tag rest : List ℕ) → IsPlain tag → run text rest ≡ text → Settles (tag ++ 32 ∷ rest)
tagged tag rest plain e = record {
  is = run-append text tag (32 ∷ rest) ∙ ap (λ (p : LineState). run p rest) (by_space (run text tag) (calm_run text tag refl plain)) ∙ e;
}

-- ---- strings

quiet_char : (octet : ℕ) → is_astring_char octet ≡ true → is_quiet octet ≡ true
quiet_char octet h = grind (arith, nat_tests)

quiet_atom : (octets : List ℕ) → list_all is_astring_char octets ≡ true → list_all is_quiet octets ≡ true
quiet_atom [] h = refl
quiet_atom (octet ∷ octets) h =
    let parts = both_true (is_astring_char octet) (list_all is_astring_char octets) h in
    rw (quiet_char octet parts.0, quiet_atom octets parts.1) refl

plain_escape : (octet : ℕ) (special : Bool) → is_plain octet ≡ true → IsPlain (cond special (92 ∷ octet ∷ []) (octet ∷ []))
plain_escape octet true plain = rw plain refl
plain_escape octet false plain = rw plain refl

plain_escaped : (octets : List ℕ) → IsPlain octets → IsPlain (flat_map escaped octets)
plain_escaped [] plain = refl
plain_escaped (octet ∷ octets) plain =
    let parts = both_true (is_plain octet) (list_all is_plain octets) plain in
    plain-append (escaped octet) (flat_map escaped octets) (plain_escape octet (is_quoted_special octet) parts.0) (plain_escaped octets parts.1)

pub quoted_settles : (octets : List ℕ) → IsPlain octets → Settles (quoted_text octets)
quoted_settles octets plain = record {
  is = run-append text (flat_map escaped octets) (34 ∷ []) ∙ by_quote (run text (flat_map escaped octets)) (calm_run text (flat_map escaped octets) refl (plain_escaped octets plain));
}

name_by : (name : List ℕ) (bare : Bool) → is_bare name ≡ bare → IsPlain name → Settles (cond bare name (quoted_text name))
name_by name true is plain = quiet_settles (quiet name (quiet_atom name (bare_parts name is).0))
name_by name false is plain = quoted_settles name plain

pub name_settles : (name : List ℕ) → IsPlain name → Settles (name_text name)
name_settles name plain = name_by name (is_bare name) refl plain

-- ---- literals

counts : (n : ℕ) (digits : List ℕ) → all_ascii_digits digits ≡ true → run (counting n) digits ≡ counting (decimal_from n digits)
counts n [] h = refl
counts n (digit ∷ more) h =
    let parts = both_true (is_ascii_digit digit) (all_ascii_digits more) h in
    rw parts.0 (counts (10 * n + (digit - 48)) more parts.1)

counts_all : (digits : List ℕ) → 0 < length digits → all_ascii_digits digits ≡ true → run opened digits ≡ counting (decimal_from 0 digits)
counts_all [] some h = absurd (omega arith)
counts_all (digit ∷ more) some h =
    let parts = both_true (is_ascii_digit digit) (all_ascii_digits more) h in
    let first : digit - 48 ≡ 0 + (digit - 48) = omega arith in
    rw parts.0 (counts (digit - 48) more parts.1 ∙ ap (λ (m : ℕ). counting (decimal_from m more)) first)

within_all : (octets : List ℕ) → run (literal (length octets)) octets ≡ text
within_all [] = refl
within_all (octet ∷ octets) = within_all octets

pub literal_settles : (octets : List ℕ) → IsHeld octets → Settles (literal_text octets)
literal_settles octets held =
    let n = length octets in
    let number = decimal n in
    let spelt : run opened number ≡ counting n = counts_all number (decimal_nonempty n held) (digits_decimal numerals n held) ∙ ap counting (digits_value-decimal numerals n held) in
    let announces : run text ((123 ∷ number) ++ codes "}\r\n") ≡ literal n =
    run-append text (123 ∷ number) (codes "}\r\n") ∙ ap (λ (p : LineState). run p (codes "}\r\n")) spelt in
    record { is = run-append text ((123 ∷ number) ++ codes "}\r\n") octets ∙ ap (λ (p : LineState). run p octets) announces ∙ within_all octets }

-- ---- lists

abbrev pub AllPlain : List (List ℕ) → Type 0
AllPlain [] = Unit {0}
AllPlain (word ∷ words) = IsPlain word × AllPlain words

plain_before_each : (words : List (List ℕ)) → AllPlain words → IsPlain (before_each 32 words)
plain_before_each [] h = refl
plain_before_each (word ∷ words) h = plain-append (32 ∷ word) (before_each 32 words) h.0 (plain_before_each words h.1)

plain_joined : (words : List (List ℕ)) → AllPlain words → IsPlain (joined 32 words)
plain_joined [] h = refl
plain_joined (word ∷ words) h = plain-append word (before_each 32 words) h.0 (plain_before_each words h.1)

pub plain_words_settle : (words : List (List ℕ)) → AllPlain words → Settles (in_parentheses words)
plain_words_settle words h = record {
  is = run-append text (joined 32 words) (41 ∷ []) ∙ by_parenthesis (run text (joined 32 words)) (calm_run text (joined 32 words) refl (plain_joined words h));
}

abbrev pub AllSettle : List (List ℕ) → Type 0
AllSettle [] = Unit {0}
AllSettle (word ∷ words) = Settles word × AllSettle words

pub all_settle-append : (words more : List (List ℕ)) → AllSettle words → AllSettle more → AllSettle (words ++ more)
all_settle-append [] more h k = k
all_settle-append (word ∷ words) more h k = (h.0, all_settle-append words more h.1 k)

pub before_each_settles : (words : List (List ℕ)) → AllSettle words → Settles (before_each 32 words)
before_each_settles [] h = settled [] refl
before_each_settles (word ∷ words) h = settles-append (settles-append (settled (32 ∷ []) refl) h.0) (before_each_settles words h.1)

joined_settles : (words : List (List ℕ)) → AllSettle words → Settles (joined 32 words)
joined_settles [] h = settled [] refl
joined_settles (word ∷ words) h = settles-append h.0 (before_each_settles words h.1)

pub words_settle : (words : List (List ℕ)) → AllSettle words → Settles (in_parentheses words)
words_settle words h = settles-append (settles-append (settled (40 ∷ []) refl) (joined_settles words h)) (settled (41 ∷ []) refl)
