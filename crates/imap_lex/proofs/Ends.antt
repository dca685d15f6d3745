-- Where lines end.
use Rattle.std.proofs.Common.{◌≡◌, ◌∙◌, suc, ap, sym, refl, subst, ℕ, ◌+◌, List, [], ◌∷◌, ◌++◌, append_assoc, length, length-append, take, arith, true, false}
use Rattle.std.specs.Prelude.{eqb}
use Rattle.std.specs.List.{ends_with}
use Rattle.std.proofs.Math.Seq.{take-append_seam, take-append-add}
use Rattle.std.proofs.lemmas.Bool.{false_from_ne_true}
use Rattle.imap_lex.specs.Framing.{crlf}
use Rattle.imap_lex.specs.LineEnd.{IsUnended}
use Rattle.imap_lex.specs.Stream.{HasNoCrlf, IsLine}
use Rattle.imap_lex.proofs.Crlf.{ends_with-crlf, before_crlf}

-- where CRLF stands nowhere, no front ends with it
pub no_crlf_before : (line back : List ℕ) → HasNoCrlf (line ++ back) → ends_with eqb line crlf ≡ false
no_crlf_before line back none =
    false_from_ne_true _ (λ e. let front = before_crlf line e in none front.0 back (ap (λ (l : List ℕ). l ++ back) front.1 ∙ append_assoc front.0 crlf back))

-- one octet more can only bring a CRLF at the end
pub crlf_is_last : (xs : List ℕ) (b : ℕ) → HasNoCrlf xs → (front back : List ℕ) → xs ++ b ∷ [] ≡ front ++ (crlf ++ back) → back ≡ []
crlf_is_last xs b none front [] e = refl
crlf_is_last xs b none front (x ∷ back) e =
    let lengths : length xs ≡ length front + suc (suc (length back)) = omega (arith, simp length-append at (ap length e)) in
    let within : xs ≡ front ++ (crlf ++ take (length back) (x ∷ back)) =
    sym (take-append_seam xs (b ∷ [])) ∙ rw (e, lengths, take-append-add) refl in
    absurd (none front (take (length back) (x ∷ back)) within)

pub HasNoCrlf-push : (xs : List ℕ) (b : ℕ) → HasNoCrlf xs → ends_with eqb (xs ++ b ∷ []) crlf ≡ false → HasNoCrlf (xs ++ b ∷ [])
HasNoCrlf-push xs b none e front back same =
    let last = crlf_is_last xs b none front back same in
    let ended = ends_with-crlf (xs ++ b ∷ []) front (same ∙ ap (λ (l : List ℕ). front ++ (crlf ++ l)) last) in
    cc

pub IsLine-push : (xs : List ℕ) (b : ℕ) → HasNoCrlf xs → ends_with eqb (xs ++ b ∷ []) crlf ≡ true → IsLine (xs ++ b ∷ [])
IsLine-push xs b none e = record {
  ends = before_crlf _ e;
  no_earlier = crlf_is_last xs b none;
}

-- a line without its last octet
pub HasNoCrlf-line : (line text : List ℕ) → IsLine line → line ≡ text ++ crlf → HasNoCrlf (text ++ 13 ∷ [])
HasNoCrlf-line line text is e front back same =
    let whole : line ≡ front ++ (crlf ++ (back ++ 10 ∷ [])) =
    e ∙ sym (append_assoc text (13 ∷ []) (10 ∷ [])) ∙ ap (λ (l : List ℕ). l ++ 10 ∷ []) same ∙ append_assoc front (crlf ++ back) (10 ∷ []) in
    let none = is.no_earlier front (back ++ 10 ∷ []) whole in
    let longer : length back + 1 ≡ 0 = sym (length-append back (10 ∷ [])) ∙ ap length none in
    omega arith

-- where CRLF stands nowhere, no line ends
pub IsUnended-none : (front more : List ℕ) → HasNoCrlf (front ++ more) → IsUnended front more
IsUnended-none front [] none = tt
IsUnended-none front (b ∷ more) none =
    let none_more : HasNoCrlf ((front ++ b ∷ []) ++ more) = subst HasNoCrlf (sym (append_assoc front (b ∷ []) more)) none in
    (no_crlf_before (front ++ b ∷ []) more none_more, IsUnended-none (front ++ b ∷ []) more none_more)
