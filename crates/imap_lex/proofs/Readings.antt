-- Each stream has a reading.
use Rattle.std.proofs.Common.{◌≡◌, ◌∙◌, ap, sym, refl, subst, ℕ, ◌+◌, ◌<◌, ◌≤◌, ◌⊎◌, inl, inr, List, [], ◌∷◌, ◌++◌, append_assoc, append-nil, length, length-append, arith, Bool, true, false, Option, Some, None}
use Rattle.std.specs.Prelude.{eqb}
use Rattle.std.specs.List.{flat_map, ends_with, AllByRecursion}
use Rattle.std.proofs.lemmas.Bool.{cases_Bool, cases_lt}
use Rattle.std.proofs.Math.Nat.{eq-or-lt_of_le}
use Rattle.imap_lex.specs.Limits.{max_command_octets, max_unasked_octets}
use Rattle.imap_lex.specs.Mark.{Announced, line_mark}
use Rattle.imap_lex.specs.Framing.{crlf}
use Rattle.imap_lex.specs.Stream.{HasNoCrlf, IsLine, IsMarkedLine, IsShort, Section, IsSection, sections_octets, outside, inside, IsBegun, Item, command, dropped, IsItem, item_octets, Ending, in_line, in_literal, too_long, too_large, IsEnding, ending_octets, Reading, IsReading, octets_of, EachHasReading}
use Rattle.imap_lex.proofs.Ends.{HasNoCrlf-push, IsLine-push}
use Rattle.imap_lex.proofs.Marks.{marks_are_found, marks_are_read}

HasNoCrlf-nil : HasNoCrlf []
HasNoCrlf-nil [] back e = cc
HasNoCrlf-nil (x ∷ front) back e = cc

IsBegun-nil : (limit : ℕ) → IsBegun limit [] 0 0
IsBegun-nil limit = record { each = tt; outside = omega arith; inside = omega arith }

sections_octets-push : (ss : List Section) (s : Section) → sections_octets (ss ++ s ∷ []) ≡ sections_octets ss ++ (s.line ++ s.literal)
sections_octets-push [] s = append-nil (s.line ++ s.literal)
sections_octets-push (x ∷ ss) s = rw (sections_octets-push ss s, append_assoc (x.line ++ x.literal)) refl

outside-push : (ss : List Section) (s : Section) → outside (ss ++ s ∷ []) ≡ outside ss + length s.line
outside-push [] s = omega arith
outside-push (x ∷ ss) s = omega (arith, outside-push ss s)

inside-push : (ss : List Section) (s : Section) → inside (ss ++ s ∷ []) ≡ inside ss + s.mark.size
inside-push [] s = omega arith
inside-push (x ∷ ss) s = omega (arith, inside-push ss s)

each-push : (ss : List Section) (s : Section) → AllByRecursion IsSection ss → IsSection s → AllByRecursion IsSection (ss ++ s ∷ [])
each-push [] s all is = (is, tt)
each-push (x ∷ ss) s all is = (all.0, each-push ss s all.1 is)

-- a section is complete
IsBegun-push : (limit : ℕ) (ss : List Section) (s : Section) → IsBegun limit ss (length s.line) s.mark.size → IsSection s → IsBegun limit (ss ++ s ∷ []) 0 0
IsBegun-push limit ss s is section = record {
  each = each-push ss s is.each section;
  outside = omega (arith, is.outside, outside-push ss s);
  inside = omega (arith, is.inside, inside-push ss s);
}

items-push : (is : List Item) (i : Item) → flat_map item_octets (is ++ i ∷ []) ≡ flat_map item_octets is ++ item_octets i
items-push [] i = append-nil (item_octets i)
items-push (x ∷ is) i = rw (items-push is i, append_assoc (item_octets x)) refl

all-push : (limit : ℕ) (is : List Item) (i : Item) → AllByRecursion (IsItem limit) is → IsItem limit i → AllByRecursion (IsItem limit) (is ++ i ∷ [])
all-push limit [] i all one = (one, tt)
all-push limit (x ∷ is) i all one = (all.0, all-push limit is i all.1 one)

abbrev HasReading : ℕ → List ℕ → Type 0
HasReading limit stream = (r : Reading) × IsReading limit r × (octets_of r ≡ stream)

module _ (limit : ℕ) (is : List Item) (all : AllByRecursion (IsItem limit) is) where
  -- the items, and another ending
  ends : (e : Ending) → IsEnding limit e → (octets : List ℕ) → ending_octets e ≡ octets → HasReading limit (flat_map item_octets is ++ octets)
  ends e ending octets same = (record { items = is; ending = e }, (all, ending), ap (λ (l : List ℕ). flat_map item_octets is ++ l) same)

  -- one item more
  begins : (i : Item) → IsItem limit i → (octets : List ℕ) → item_octets i ≡ octets → HasReading limit (flat_map item_octets is ++ octets)
  begins i item octets same = (
    record { items = is ++ i ∷ []; ending = in_line [] [] },
    (all-push limit is i all item, (IsBegun-nil limit, HasNoCrlf-nil)),
    append-nil _ ∙ items-push is i ∙ ap (λ (l : List ℕ). flat_map item_octets is ++ l) same,
  )

  -- a literal is announced
  announces : (ss : List Section) (line : List ℕ) (m : Announced) → IsBegun limit ss (length line) m.size → IsMarkedLine line m → IsShort m → (0 ≡ m.size) ⊎ (0 < m.size) → HasReading limit (flat_map item_octets is ++ (sections_octets ss ++ line))
  announces ss line m begun marked short (inl none) =
      let s : Section = record { line = line; literal = []; mark = m } in
      ends (in_line (ss ++ s ∷ []) []) (IsBegun-push limit ss s begun (record { marked = marked; size = none; short = short }), HasNoCrlf-nil) _ (append-nil _ ∙ sections_octets-push ss s ∙ ap (λ (l : List ℕ). sections_octets ss ++ l) (append-nil line))
  announces ss line m begun marked short (inr some) =
      ends (in_literal ss (record { line = line; literal = []; mark = m })) (begun, marked, short, some) _ (ap (λ (l : List ℕ). sections_octets ss ++ l) (append-nil line))

  -- a marked line
  marks : (ss : List Section) (line : List ℕ) (m : Announced) → IsBegun limit ss (length line) 0 → IsMarkedLine line m → (waits : Bool) → m.waits ≡ waits → (limit < inside ss + m.size) ⊎ (inside ss + m.size ≤ limit) → (max_unasked_octets < m.size) ⊎ (m.size ≤ max_unasked_octets) → HasReading limit (flat_map item_octets is ++ (sections_octets ss ++ line))
  marks ss line m begun marked true e (inl over) long = begins (dropped ss line m) (begun, marked, e, over) _ refl
  marks ss line m begun marked false e (inl over) long = ends (too_large ss line m []) (begun, marked, e, inl over) _ (ap (λ (l : List ℕ). sections_octets ss ++ l) (append-nil line))
  marks ss line m begun marked true e (inr fits) long =
      announces ss line m (record { each = begun.each; outside = begun.outside; inside = fits }) marked (λ continue_frames. cc) (eq-or-lt_of_le (omega arith))
  marks ss line m begun marked false e (inr fits) (inl long) = ends (too_large ss line m []) (begun, marked, e, inr long) _ (ap (λ (l : List ℕ). sections_octets ss ++ l) (append-nil line))
  marks ss line m begun marked false e (inr fits) (inr short) =
      announces ss line m (record { each = begun.each; outside = begun.outside; inside = fits }) marked (λ continue_frames. short) (eq-or-lt_of_le (omega arith))

  -- a line
  lines : (ss : List Section) (line : List ℕ) → IsBegun limit ss (length line) 0 → IsLine line → (mark : Option Announced) → line_mark line ≡ mark → HasReading limit (flat_map item_octets is ++ (sections_octets ss ++ line))
  lines ss line begun is_line None e = begins (command ss line) (begun, record { is_line = is_line; unmarked = λ mark is. let found = marks_are_found line mark is in cc }) _ refl
  lines ss line begun is_line (Some m) e = marks ss line m begun (record { is_line = is_line; marked = marks_are_read line m e }) m.waits refl (cases_lt limit (inside ss + m.size)) (cases_lt max_unasked_octets m.size)

  -- an octet of a literal
  fills : (ss : List Section) (s : Section) (b : ℕ) → IsEnding limit (in_literal ss s) → (length (s.literal ++ b ∷ []) ≡ s.mark.size) ⊎ (length (s.literal ++ b ∷ []) < s.mark.size) → HasReading limit (flat_map item_octets is ++ ((sections_octets ss ++ (s.line ++ s.literal)) ++ b ∷ []))
  fills ss s b ending (inl whole) =
      let t : Section = record { line = s.line; literal = s.literal ++ b ∷ []; mark = s.mark } in
      ends (in_line (ss ++ t ∷ []) []) (IsBegun-push limit ss t ending.0 (record { marked = ending.1; size = whole; short = ending.2 }), HasNoCrlf-nil) _ (append-nil _ ∙ sections_octets-push ss t ∙ simp append_assoc refl)
  fills ss s b ending (inr part) =
      ends (in_literal ss (record { line = s.line; literal = s.literal ++ b ∷ []; mark = s.mark })) (ending.0, ending.1, ending.2, part) _ (simp append_assoc refl)

  -- an octet of a line
  goes_on : (ss : List Section) (line : List ℕ) (b : ℕ) → IsBegun limit ss (length (line ++ b ∷ [])) 0 → HasNoCrlf line → (ends_with eqb (line ++ b ∷ []) crlf ≡ true) ⊎ (ends_with eqb (line ++ b ∷ []) crlf ≡ false) → HasReading limit (flat_map item_octets is ++ (sections_octets ss ++ (line ++ b ∷ [])))
  goes_on ss line b begun none (inl ended) = lines ss (line ++ b ∷ []) begun (IsLine-push line b none ended) _ refl
  goes_on ss line b begun none (inr still) = ends (in_line ss (line ++ b ∷ [])) (begun, HasNoCrlf-push line b none still) _ refl

  lengthens : (ss : List Section) (line : List ℕ) (b : ℕ) → IsEnding limit (in_line ss line) → (outside ss + length line ≡ max_command_octets) ⊎ (outside ss + length line < max_command_octets) → HasReading limit (flat_map item_octets is ++ (sections_octets ss ++ (line ++ b ∷ [])))
  lengthens ss line b ending (inl full) = ends (too_long ss line b []) (ending.0, ending.1, full) _ refl
  lengthens ss line b ending (inr room) =
      goes_on ss line b (record { each = ending.0.each; outside = omega (arith, length-append line (b ∷ [])); inside = ending.0.inside }) ending.1 (cases_Bool _)

  -- one octet more
  grows : (e : Ending) (b : ℕ) → IsEnding limit e → HasReading limit (flat_map item_octets is ++ (ending_octets e ++ b ∷ []))
  grows (too_long ss text next more) b ending = ends (too_long ss text next (more ++ b ∷ [])) ending _ (simp append_assoc refl)
  grows (too_large ss line m more) b ending = ends (too_large ss line m (more ++ b ∷ [])) ending _ (simp append_assoc refl)
  grows (in_literal ss s) b ending = fills ss s b ending (eq-or-lt_of_le (omega (arith, ending.3, length-append s.literal (b ∷ []))))
  grows (in_line ss line) b ending =
      subst (λ (l : List ℕ). HasReading limit (flat_map item_octets is ++ l)) (sym (append_assoc (sections_octets ss) line (b ∷ []))) (lengthens ss line b ending (eq-or-lt_of_le ending.0.outside))

-- the octets that follow
with_octets : (limit : ℕ) (r : Reading) (more : List ℕ) → IsReading limit r → HasReading limit (octets_of r ++ more)
with_octets limit r [] is = (r, is, sym (append-nil (octets_of r)))
with_octets limit r (b ∷ more) is =
    let next = grows limit r.items is.0 r.ending b is.1 in
    let rest = with_octets limit next.0 more next.1 in (
      rest.0,
      rest.1,
      rest.2 ∙ ap (λ (l : List ℕ). l ++ more) next.2
          ∙ append_assoc (flat_map item_octets r.items) (ending_octets r.ending ++ b ∷ []) more
          ∙ ap (λ (l : List ℕ). flat_map item_octets r.items ++ l) (append_assoc (ending_octets r.ending) (b ∷ []) more)
          ∙ sym (append_assoc (flat_map item_octets r.items) (ending_octets r.ending) (b ∷ more)),
    )

pub each_has_reading : EachHasReading
each_has_reading limit stream = with_octets limit (record { items = []; ending = in_line [] [] }) stream (tt, (IsBegun-nil limit, HasNoCrlf-nil))
