-- The first field of a header.
use Rattle.std.proofs.Common.{◌≡◌, ◌∙◌, ap, sym, refl, rules, ℕ, ◌-◌, List, [], ◌∷◌, ◌++◌, length, length-append, append_assoc, append-nil, take, arith, Bool, true, false, cond}
use Rattle.std.specs.Prelude.{take_while}
use Rattle.std.proofs.Math.Seq.{take-append_seam}
use Rattle.std.specs.List.{concat}
use Rattle.std.proofs.lemmas.Bool.{false_from_ne_true}
use Rattle.std.proofs.lemmas.List.Folds.{concat-append}
use Rattle.std.proofs.lemmas.List.Sums.{take_while-cons}
use Rattle.std.proofs.lemmas.Slice.Eq.{bytes_eq-Decides}
use Rattle.imap_lex.specs.Chars.{crlf}
use Rattle.imap_text.specs.Lines.{is_empty_line}
use Rattle.imap_text.specs.Sections.{Sections, sections}
use Rattle.imap_text.specs.Fields.{is_continuation, HeaderField, fields_among, fields_of, header_fields}
use Rattle.imap_text.specs.Found.{IsFirstLine, continuations, IsAfterContinuations, IsFirstField}
use Rattle.imap_text.proofs.Cuts.{sections-field, sections-end}

pub empty_is_crlf : (line : List ℕ) → is_empty_line line ≡ true → line ≡ crlf
empty_is_crlf line e = search (rules, bytes_eq-Decides)

pub continuation_not_empty : (line : List ℕ) → is_continuation line ≡ true → is_empty_line line ≡ false
continuation_not_empty line e = false_from_ne_true _ (λ is. let none : false ≡ true = rw (empty_is_crlf line is) at e in cc)

-- The continuation lines at the front have been passed up to `rest`.
pub record IsPassed (octets rest : List ℕ) : Type 0 where
  pub passed : List (List ℕ)
  pub whole : octets ≡ concat passed ++ rest
  pub lines : continuations octets ≡ passed ++ continuations rest
  pub fields : fields_among (sections octets).field_lines ≡ fields_among (sections rest).field_lines
  pub end : (sections octets).end ≡ (sections rest).end

pub IsPassed-none : (octets : List ℕ) → IsPassed octets octets
IsPassed-none octets = record { passed = []; whole = refl; lines = refl; fields = refl; end = refl }

more_passed : (passed : List (List ℕ)) (line later : List ℕ) → concat passed ++ (line ++ later) ≡ concat (passed ++ line ∷ []) ++ later
more_passed passed line later =
    sym (append_assoc (concat passed) line later)
    ∙ ap (λ (l : List ℕ). (concat passed ++ l) ++ later) (sym (append-nil line))
    ∙ ap (λ (l : List ℕ). l ++ later) (sym (concat-append passed (line ∷ [])))

pub IsPassed-more : (octets rest line later : List ℕ) → IsFirstLine rest line later → is_continuation line ≡ true → IsPassed octets rest → IsPassed octets later
IsPassed-more octets rest line later first e so_far =
    let cuts = sections-field rest line later first (continuation_not_empty line e) in
    let here : continuations rest ≡ line ∷ continuations later =
    ap (λ (s : Sections). take_while is_continuation s.field_lines) cuts ∙ take_while-cons is_continuation line (sections later).field_lines ∙ ap (λ (b : Bool). cond b (line ∷ continuations later) []) e in
    record {
      passed = so_far.passed ++ line ∷ [];
      whole = so_far.whole ∙ ap (λ (l : List ℕ). concat so_far.passed ++ l) first.whole ∙ more_passed so_far.passed line later;
      lines = so_far.lines ∙ ap (λ (l : List (List ℕ)). so_far.passed ++ l) here ∙ sym (append_assoc so_far.passed (line ∷ []) (continuations later));
      fields = so_far.fields ∙ ap (λ (s : Sections). fields_among s.field_lines) cuts ∙ rw e refl;
      end = so_far.end ∙ ap (λ (s : Sections). s.end) cuts;
    }

after : (octets rest : List ℕ) → IsPassed octets rest → continuations rest ≡ [] → fields_among (sections rest).field_lines ≡ header_fields rest → IsAfterContinuations octets rest
after octets rest so_far none same =
    let all : continuations octets ≡ so_far.passed = so_far.lines ∙ ap (λ (l : List (List ℕ)). so_far.passed ++ l) none ∙ append-nil so_far.passed in
    record {
      whole = so_far.whole ∙ ap (λ (l : List (List ℕ)). concat l ++ rest) (sym all);
      fields = so_far.fields ∙ same;
      end = so_far.end;
    }

pub IsAfterContinuations-all : (octets rest : List ℕ) → rest ≡ [] → IsPassed octets rest → IsAfterContinuations octets rest
IsAfterContinuations-all octets rest none so_far = after octets rest so_far (rw none refl) (rw none refl)

pub IsAfterContinuations-line : (octets rest line later : List ℕ) → IsFirstLine rest line later → is_continuation line ≡ false → IsPassed octets rest → IsAfterContinuations octets rest
IsAfterContinuations-line octets rest line later first e so_far = by (is_empty_line line) refl
  where
    by : (empty : Bool) → is_empty_line line ≡ empty → IsAfterContinuations octets rest
    by true is = let cuts = sections-end rest line later first is in after octets rest so_far (rw cuts refl) (rw cuts refl)
    by false is =
        let cuts = sections-field rest line later first is in
        after octets rest so_far
        (ap (λ (s : Sections). take_while is_continuation s.field_lines) cuts ∙ take_while-cons is_continuation line (sections later).field_lines ∙ rw e refl)
        (rw cuts (rw e refl))

pub IsFirstField-lines : (octets line more field later : List ℕ) → IsFirstLine octets line more → is_empty_line line ≡ false → IsAfterContinuations more later → field ≡ take (length octets - length later) octets → IsFirstField octets line field later
IsFirstField-lines octets line more field later first e rest is =
    let cuts = sections-field octets line more first e in
    let lines = concat (continuations more) in
    let whole : octets ≡ (line ++ lines) ++ later =
    first.whole ∙ ap (λ (l : List ℕ). line ++ l) rest.whole ∙ sym (append_assoc line lines later) in
    let len : length octets - length later ≡ length (line ++ lines) = omega (arith, ap length whole, length-append (line ++ lines) later) in
    let all : field ≡ line ++ lines = is ∙ ap (λ (n : ℕ). take n octets) len ∙ ap (take (length (line ++ lines))) whole ∙ take-append_seam (line ++ lines) later in
    record {
      whole = whole ∙ ap (λ (l : List ℕ). l ++ later) (sym all);
      some = omega (arith, first.some, ap length all, length-append line lines);
      continuations = continuations more;
      lines = all;
      fields = ap (λ (s : Sections). fields_of s.field_lines) cuts ∙ ap (λ (fs : List HeaderField). record { first = line; continuations = continuations more } ∷ fs) rest.fields;
      end = ap (λ (s : Sections). s.end) cuts ∙ rest.end;
    }

pub no_field_left : (octets : List ℕ) → octets ≡ [] → (sections octets).field_lines ≡ []
no_field_left octets none = rw none refl

pub no_field_before_end : (octets line later : List ℕ) → IsFirstLine octets line later → is_empty_line line ≡ true → (sections octets).field_lines ≡ []
no_field_before_end octets line later first e = ap (λ (s : Sections). s.field_lines) (sections-end octets line later first e)
