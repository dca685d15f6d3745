-- Where a header ends, by the first empty line.
use Rattle.std.proofs.Common.{◌≡◌, ◌∙◌, ap, sym, refl, inl, inr, ℕ, ◌+◌, ◌≤◌, List, ◌++◌, length, length-append, append_assoc, take, drop, arith, true, false, Some, None}
use Rattle.std.specs.Prelude.{eqb}
use Rattle.std.specs.List.{starts_with}
use Rattle.std.proofs.lemmas.Bool.{cases_lt, eqb-true, eq-eqb}
use Rattle.std.specs.Bool.{Decides}
use Rattle.std.proofs.lemmas.Slice.Eq.{starts_is}
use Rattle.std.proofs.lemmas.List.{length-take-le}
use Rattle.bstr.specs.Find.{OccursAt, FindsNeedle}
use Rattle.imap_lex.specs.Chars.{crlf}
use Rattle.imap_text.specs.Folds.{IsWithin}
use Rattle.imap_text.specs.Sections.{header, text}
use Rattle.imap_text.proofs.Cuts.{header-text}
use Rattle.imap_text.proofs.Shortest.{headers_are_shortest, two_octets}
use Rattle.imap_text.proofs.Within.{within_at, occurs_within}

abbrev pub two_lines : List ℕ
two_lines = crlf ++ crlf

eqb_decides : (a b : ℕ) → Decides (eqb a b) (a ≡ b)
eqb_decides a b = (eqb-true a b, eq-eqb a b)

begins : (m : List ℕ) → starts_with eqb m crlf ≡ true → (back : List ℕ) × (m ≡ crlf ++ back)
begins m e = (drop 2 m, (starts_is eqb_decides m crlf true (sym e)).0 refl)

not_begins : (m back : List ℕ) → starts_with eqb m crlf ≡ false → m ≡ crlf ++ back → ⊥
not_begins m back e is = let clash : false ≡ true = (starts_is eqb_decides m crlf false (sym e)).1 back is in cc

module _ (m : List ℕ) where
  pub length-begins : starts_with eqb m crlf ≡ true → 2 ≡ length (header m)
  length-begins e =
      let at = begins m e in
      let most : length (header m) ≤ 2 = (headers_are_shortest m).shortest crlf at.0 at.1 (inl refl) in
      elim (headers_are_shortest m).ends [
        | inl ends ↦ omega (arith, most, two_octets (header m) ends)
        | inr same ↦ omega (arith, most, ap length same, ap length at.1, length-append crlf at.0)
      ]

  -- an empty line that ends the header, and isn't at the start, stands after another line
  occurs : (front : List ℕ) → header m ≡ front ++ two_lines → OccursAt m two_lines (length front)
  occurs front e =
      let whole : m ≡ front ++ (two_lines ++ text m) = sym (header-text m) ∙ ap (λ (l : List ℕ). l ++ text m) e ∙ append_assoc front two_lines (text m) in
      let within : IsWithin two_lines m = record { front = front; back = text m; is = whole } in
      occurs_within m two_lines within

  starts_so : header m ≡ crlf → m ≡ crlf ++ text m
  starts_so e = sym (header-text m) ∙ ap (λ (l : List ℕ). l ++ text m) e

  pub length-found : (at : ℕ) → starts_with eqb m crlf ≡ false → FindsNeedle m two_lines 0 (Some at) → at + 4 ≡ length (header m)
  length-found at e h =
      let is = within_at m two_lines at h.1 in
      let front : m ≡ (take at m ++ two_lines) ++ is.back = is.is ∙ sym (append_assoc (take at m) two_lines is.back) in
      let most : length (header m) ≤ length (take at m ++ two_lines) = (headers_are_shortest m).shortest (take at m ++ two_lines) is.back front (inr (take at m, refl)) in
      let fits : at + 4 ≤ length m = h.1.fits in
      let upper : length (header m) ≤ at + 4 = omega (arith, most, fits, length-append (take at m) two_lines, length-take-le at m (omega (arith, fits))) in
      let lower : at + 4 ≤ length (header m) = elim (headers_are_shortest m).ends [
        | inl ends ↦ elim ends [
          | inl none ↦ absurd (not_begins m (text m) e (starts_so none))
          | inr some ↦ elim (cases_lt (length some.0) at) [
            | inl before ↦ absurd (h.0.before (length some.0) (omega arith) before (occurs some.0 some.1))
            | inr after ↦ omega (arith, after, ap length some.1, length-append some.0 two_lines)
          ]
        ]
        | inr same ↦ omega (arith, fits, ap length same)
      ] in
      omega (arith, upper, lower)

  pub length-none : starts_with eqb m crlf ≡ false → FindsNeedle m two_lines 0 None → length m ≡ length (header m)
  length-none e h = elim (headers_are_shortest m).ends [
    | inl ends ↦ elim ends [
      | inl none ↦ absurd (not_begins m (text m) e (starts_so none))
      | inr some ↦ let at = occurs some.0 some.1 in absurd (h (length some.0) (omega arith) (omega (arith, at.fits)) at)
    ]
    | inr same ↦ ap length (sym same)
  ]
