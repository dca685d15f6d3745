-- What a line's octets end with, and what a reader holds of it.
use Rattle.std.proofs.Common.{◌≡◌, ◌∙◌, sym, ap, refl, ℕ, ◌+◌, ◌<◌, List, [], ◌∷◌, ◌++◌, length, take, get_or, add-one, Option, Some, None, option_map}
use Rattle.std.proofs.Math.Seq.{take-suc}
use Rattle.imap_lex.specs.declared.mark.LiteralMark.{LiteralMark}
use Rattle.imap_lex.specs.declared.mark.Tail.{Tail}
use Rattle.imap_lex.specs.declared.mark.Tail.TheVariants.{Text, Brace, Digits, Plus, Closed, Cr, Crlf}
use Rattle.imap_lex.specs.Mark.{Announced, LineTail, text, brace, digits, plus, closed, behind_cr, behind_crlf, with_octet, with_octets, mark_at, line_mark}
use Rattle.imap_lex.specs.Held.{held_mark, held_tail}

pub with_octets-append : (t : LineTail) (front back : List ℕ) → with_octets t (front ++ back) ≡ with_octets (with_octets t front) back
with_octets-append t [] back = refl
with_octets-append t (b ∷ front) back = with_octets-append (with_octet t b) front back

pub with_octets-next : (t : LineTail) (octets : List ℕ) (at : ℕ) → at < length octets →
    with_octets t (take (at + 1) octets) ≡ with_octet (with_octets t (take at octets)) (get_or octets at 0)
with_octets-next t octets at lt = rw (add-one, take-suc octets at 0) (with_octets-append t (take at octets) (get_or octets at 0 ∷ []))

abbrev pub tail_mark : Tail → Option LiteralMark
tail_mark (Crlf mark) = Some mark
tail_mark _ = None

tail_mark-held : (t : LineTail) → tail_mark (held_tail t) ≡ option_map held_mark (mark_at t)
tail_mark-held text = refl
tail_mark-held brace = refl
tail_mark-held (digits n) = refl
tail_mark-held (plus n) = refl
tail_mark-held (closed mark) = refl
tail_mark-held (behind_cr mark) = refl
tail_mark-held (behind_crlf mark) = refl

pub line_mark-held : (front back : List ℕ) (tail : Tail) → tail ≡ held_tail (with_octets (with_octets text front) back) → tail_mark tail ≡ option_map held_mark (line_mark (front ++ back))
line_mark-held front back tail e =
    ap tail_mark e ∙ tail_mark-held _ ∙ ap (λ (x : LineTail). option_map held_mark (mark_at x)) (sym (with_octets-append text front back))

pub tail_mark-none : (tail : Tail) → ((mark : LiteralMark) → tail ≡ Crlf mark → ⊥) → None ≡ tail_mark tail
tail_mark-none Text other = refl
tail_mark-none Brace other = refl
tail_mark-none (Digits n) other = refl
tail_mark-none (Plus n) other = refl
tail_mark-none (Closed mark) other = refl
tail_mark-none (Cr mark) other = refl
tail_mark-none (Crlf mark) other = absurd (other mark refl)

pub held_mark-of : (mark : LiteralMark) (announced : Option Announced) → Some mark ≡ option_map held_mark announced → (a : Announced) × (announced ≡ Some a) × (mark ≡ held_mark a)
held_mark-of mark None e = cc
held_mark-of mark (Some a) e = (a, refl, cc)
