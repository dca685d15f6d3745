-- Octets of a class at the front.
use Rattle.std.proofs.Common.{◌≡◌, refl, ℕ, Bool, List, [], ◌∷◌, take, length, true, false}
use Rattle.std.specs.Prelude.{◌==◌}
use Rattle.std.proofs.Math.Numerals.{one-add}
use Rattle.std.specs.List.{prefix_len, list_all}
use Rattle.std.proofs.lemmas.List.Sums.{prefix_len-le-length}
use Rattle.std.proofs.lemmas.List.Folds.{length-prefix_len}
use Rattle.imap_lex.specs.Chars.{is_tag_char}
use Rattle.imap_lex.specs.CommandTag.{IsTag}

pub ruleset within = (length-prefix_len, prefix_len-le-length)

-- the octets at the front are of the class
pub list_all-front : (p : ℕ → Bool) (xs : List ℕ) → list_all p (take (prefix_len p xs) xs) ≡ true
list_all-front p [] = refl
list_all-front p (x ∷ xs) = go (p x) refl (list_all-front p xs)
  where
    go : (is : Bool) → p x ≡ is → list_all p (take (prefix_len p xs) xs) ≡ true → list_all p (take (prefix_len p (x ∷ xs)) (x ∷ xs)) ≡ true
    go true e rest = rw (e, one-add, e) rest
    go false e rest = rw e refl

-- the tag characters at the front are a tag
pub IsTag-front : (tag xs : List ℕ) (n : ℕ) → tag ≡ take n xs → n ≡ prefix_len is_tag_char xs → (length tag == 0) ≡ false → IsTag tag
IsTag-front tag xs n e count some =
    let all : list_all is_tag_char tag ≡ true = rw (e, count) (list_all-front is_tag_char xs) in
    rw (some, all) refl
