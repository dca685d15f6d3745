-- A line read from octet to octet.
use Rattle.std.proofs.Common.{◌≡◌, sym, ℕ, ◌+◌, ◌-◌, ◌<◌, List, [], ◌∷◌, ◌++◌, append_assoc, append-nil, length, take, get_or, add-one, arith, true, false}
use Rattle.std.specs.Prelude.{eqb}
use Rattle.std.specs.List.{ends_with}
use Rattle.std.proofs.Math.Seq.{take-suc}
use Rattle.std.proofs.lemmas.Bool.{false_from_ne_true}
use Rattle.imap_lex.specs.Framing.{crlf}
use Rattle.imap_lex.specs.LineEnd.{IsUnended, IsEnd}
use Rattle.imap_lex.proofs.Crlf.{lf_ends, crlf_parts, ends_with-cr}

pub IsUnended-push : (front xs : List ℕ) (b : ℕ) → IsUnended front xs → ends_with eqb ((front ++ xs) ++ b ∷ []) crlf ≡ false → IsUnended front (xs ++ b ∷ [])
IsUnended-push front [] b none e = (rw (append-nil front) at e, tt)
IsUnended-push front (x ∷ xs) b none e = (none.0, IsUnended-push (front ++ x ∷ []) xs b none.1 (rw (append_assoc front (x ∷ []) xs) e))

-- the line so far, with the octets of the piece before `at`
abbrev pub line_at : List ℕ → List ℕ → ℕ → List ℕ
line_at front piece at = front ++ take at piece

line_at-next : (front piece : List ℕ) (at : ℕ) → at < length piece → line_at front piece (at + 1) ≡ line_at front piece at ++ get_or piece at 0 ∷ []
line_at-next front piece at lt = rw (add-one, take-suc piece at 0) (sym (append_assoc front (take at piece) (get_or piece at 0 ∷ [])))

-- No line ends before `at`.
pub record IsReadTo (front piece : List ℕ) (at : ℕ) : Type 0 where
  pub unended : IsUnended front (take at piece)

pub IsReadTo-zero : (front piece : List ℕ) → IsReadTo front piece 0
IsReadTo-zero front piece = record { unended = tt }

pub IsReadTo-next : (front piece : List ℕ) (at : ℕ) → at < length piece → (ends_with eqb (line_at front piece at) (13 ∷ []) ≡ true → get_or piece at 0 ≡ 10 → ⊥) → IsReadTo front piece at → IsReadTo front piece (at + 1)
IsReadTo-next front piece at lt goes_on so_far =
    let open_still : ends_with eqb (line_at front piece at ++ get_or piece at 0 ∷ []) crlf ≡ false =
    false_from_ne_true _ (λ e. let parts = crlf_parts (line_at front piece at) (get_or piece at 0) e in goes_on parts.0 parts.1) in
    record { unended = rw (add-one, take-suc piece at 0) (IsUnended-push front (take at piece) (get_or piece at 0) so_far.unended open_still) }

pub IsEnd-next : (front piece : List ℕ) (at : ℕ) → at < length piece → ends_with eqb (line_at front piece at) (13 ∷ []) ≡ true → get_or piece at 0 ≡ 10 → IsReadTo front piece at → IsEnd front piece (at + 1)
IsEnd-next front piece at lt cr lf so_far =
    let back : at + 1 - 1 ≡ at = omega arith in
    record {
      some = omega arith;
      within = omega arith;
      first = rw back so_far.unended;
      ends = rw (line_at-next front piece at lt, lf) (lf_ends (line_at front piece at) cr);
    }

pub ends_with_cr-next : (front piece : List ℕ) (at : ℕ) → at < length piece → ends_with eqb (line_at front piece (at + 1)) (13 ∷ []) ≡ eqb (get_or piece at 0) 13
ends_with_cr-next front piece at lt = rw (line_at-next front piece at lt) (ends_with-cr (line_at front piece at) (get_or piece at 0))
