-- Octets without CR and LF make a line.
use Rattle.std.proofs.Common.{◌≡◌, ℕ, true, List, [], ◌∷◌, ◌++◌, length, refl, ap, subst, length-append, arith}
use Rattle.std.specs.List.{list_all}
use Rattle.imap_lex.specs.Framing.{crlf}
use Rattle.imap_lex.specs.Stream.{IsLine}
use Rattle.imap_commands.specs.commands.Login.{is_line_char}
use Rattle.imap_syntax.proofs.Writing.{both_true}

only_end : (front back : List ℕ) → crlf ≡ front ++ (crlf ++ back) → back ≡ []
only_end front [] e = refl
only_end front (b ∷ back) e = absurd (omega (arith, ap length e, length-append front (crlf ++ b ∷ back)))

no_earlier : (octets : List ℕ) → list_all is_line_char octets ≡ true → (front back : List ℕ) → octets ++ crlf ≡ front ++ (crlf ++ back) → back ≡ []
no_earlier [] h front back e = only_end front back e
no_earlier (b ∷ octets) h [] back e =
    let return : b ≡ 13 = cc in
    let passes : is_line_char 13 ≡ true = subst (λ (x : ℕ). is_line_char x ≡ true) return (both_true (is_line_char b) (list_all is_line_char octets) h).0 in
    absurd cc
no_earlier (b ∷ octets) h (x ∷ front) back e =
    let after : octets ++ crlf ≡ front ++ (crlf ++ back) = cc in
    no_earlier octets (both_true (is_line_char b) (list_all is_line_char octets) h).1 front back after

pub is_line : (octets : List ℕ) → list_all is_line_char octets ≡ true → IsLine (octets ++ crlf)
is_line octets h = record { ends = (octets, refl); no_earlier = no_earlier octets h }
