-- The name of a field.
use Rattle.std.proofs.Common.{◌≡◌, ◌∙◌, ap, sym, refl, rules, ℕ, ◌+◌, ◌-◌, List, [], ◌∷◌, length, take, drop, map, Bool, true, false, not, cond, Some, None}
use mathlib.Core.Bool.{beq}
use Rattle.std.specs.Prelude.{nat_lt, position}
use Rattle.std.specs.Char.{to_ascii_lowercase}
use Rattle.std.specs.List.{position_or_len}
use Rattle.std.specs.Str.{bytes_eq}
use Rattle.std.proofs.Math.Seq.{take-length}
use Rattle.std.proofs.lemmas.List.{length-drop}
use Rattle.std.proofs.lemmas.Slice.Eq.{bytes_eq-Decides}
use Rattle.imap_text.specs.Fields.{is_colon, is_named, is_chosen}
use Rattle.imap_text.specs.Found.{IsTextNamed}
use Rattle.imap_text.proofs.Chosen.{starts}

colon_is : (line : List ℕ) (colon : ℕ) → position is_colon line ≡ Some colon → position_or_len is_colon line ≡ colon
colon_is line colon e = by (nat_lt (position_or_len is_colon line) (length line)) refl
  where
    by : (has : Bool) → nat_lt (position_or_len is_colon line) (length line) ≡ has → position_or_len is_colon line ≡ colon
    by true h = let here : Some (position_or_len is_colon line) ≡ Some colon = rw h at e in cc
    by false h = let none : None ≡ Some colon = rw h at e in cc

same_bytes : (xs ys : List ℕ) → xs ≡ ys → bytes_eq xs ys ≡ true
same_bytes xs ys e = search (rules, bytes_eq-Decides)

named_so : (name line : List ℕ) (colon : ℕ) → position is_colon line ≡ Some colon → map to_ascii_lowercase name ≡ map to_ascii_lowercase (take colon line) → is_named (name ∷ []) line ≡ true
named_so name line colon e same = rw (e, same_bytes _ _ same) refl

pub text_is_named : (name line field : List ℕ) (colon : ℕ) → position is_colon line ≡ Some colon → map to_ascii_lowercase name ≡ map to_ascii_lowercase (take colon line) → IsTextNamed name line field (take (length field - (colon + 1)) (drop (colon + 1) field))
text_is_named name line field colon e same = record {
  named = named_so name line colon e same;
  is = rw (← length-drop (colon + 1) field) (take-length (drop (colon + 1) field)) ∙ ap (λ (n : ℕ). drop (n + 1) field) (sym (colon_is line colon e));
}

asked : (named others : Bool) → beq named others ≡ true → cond others (not named) named ≡ false
asked true true e = refl
asked true false e = sym e
asked false true e = sym e
asked false false e = refl

unasked : (named others : Bool) → beq named others ≡ false → cond others (not named) named ≡ true
unasked true true e = sym e
unasked true false e = refl
unasked false true e = refl
unasked false false e = sym e

pub passed_over : (names : List (List ℕ)) (others named : Bool) (line : List ℕ) → named ≡ is_named names line → beq named others ≡ true → is_chosen names others (starts line) ≡ false
passed_over names others named line is e = asked (is_named names line) others (ap (λ (b : Bool). beq b others) (sym is) ∙ e)

pub chosen_so : (names : List (List ℕ)) (others named : Bool) (line : List ℕ) → named ≡ is_named names line → beq named others ≡ false → is_chosen names others (starts line) ≡ true
chosen_so names others named line is e = unasked (is_named names line) others (ap (λ (b : Bool). beq b others) (sym is) ∙ e)
