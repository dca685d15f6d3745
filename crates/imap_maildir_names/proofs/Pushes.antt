-- Texts that are written and read letter by letter.
use Rattle.std.proofs.Common.{◌≡◌, ◌∙◌, ap, sym, refl, ℕ, Bool, false, List, ◌∷◌, ◌++◌, append_assoc}
use Rattle.std.proofs.lemmas.Str.{encodes-append}
use Rattle.std.specs.Prelude.{encode_utf8_all}
use Rattle.imap_maildir_names.specs.Levels.{letter, piece, pieces, used_after, written}

-- one text after another, in UTF-8
pub encoded_next : (old new : List ℕ) (front later : List ℕ) → new ≡ old ++ encode_utf8_all front
    → new ++ encode_utf8_all later ≡ old ++ encode_utf8_all (front ++ later)
encoded_next old new front later e =
    rw e (append_assoc old (encode_utf8_all front) (encode_utf8_all later) ∙ ap (λ l. old ++ l) (sym (encodes-append front later)))

pub written_next : (old new : List ℕ) (is_first : Bool) (char : ℕ) (text : List ℕ)
    → new ≡ old ++ encode_utf8_all (letter is_first char)
    → new ++ encode_utf8_all (written false text) ≡ old ++ encode_utf8_all (written is_first (char ∷ text))
written_next old new is_first char text e = encoded_next old new (letter is_first char) (written false text) e

pub pieces_next : (old new : List ℕ) (used after char : ℕ) (text : List ℕ)
    → new ≡ old ++ encode_utf8_all (piece used char) → after ≡ used_after used char
    → new ++ encode_utf8_all (pieces after text) ≡ old ++ encode_utf8_all (pieces used (char ∷ text))
pieces_next old new used after char text e f =
    rw f (encoded_next old new (piece used char) (pieces (used_after used char) text) e)
