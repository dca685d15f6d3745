-- The tag with which a command begins.
use Rattle.std.proofs.Common.{◌≡◌, ◌≢◌, ℕ, ◌<◌, ◌≤◌, Bool, true, false, cond, ltb, ◌&&◌, eqb, List, [], ◌∷◌, ◌++◌, length, take, drop, Some, None, refl, sym, ap, subst, ◌∙◌, arith}
use Rattle.std.specs.List.{prefix_len}
use Rattle.std.proofs.lemmas.Bool.Decides.{nat_tests}
use Rattle.std.proofs.lemmas.List.{take_at, drop_at}
use Rattle.std.proofs.lemmas.List.Sums.{prefix_len-le-length}
use Rattle.std.proofs.lemmas.List.Folds.{length-prefix_len}
use Rattle.std.proofs.lemmas.Option.{same_Some}
use Rattle.imap_lex.specs.CommandTag.{tag_of, ends_word}
use Rattle.imap_syntax.specs.Rule.{ConsistsOf, some_of, some_read}
use Rattle.imap_syntax.specs.Lexical.{is_tag_char}
use Rattle.imap_syntax.proofs.RuleLaws.{StopsAt, prefix_len-whole, prefix_passes}
use Rattle.imap_syntax.proofs.Writing.{both_true}

some_octets : (tag : List ℕ) → tag ≢ [] → 0 < length tag
some_octets [] h = absurd (h refl)
some_octets (b ∷ tag) h = omega arith

-- a tag, and then what ends a word
pub tag_of_word : (tag rest : List ℕ) → ConsistsOf is_tag_char tag → tag ≢ [] → StopsAt is_tag_char rest → ends_word rest ≡ true → tag_of (tag ++ rest) ≡ Some tag
tag_of_word tag rest chars some stops ends =
    let whole : prefix_len is_tag_char (tag ++ rest) ≡ length tag = prefix_len-whole is_tag_char tag rest chars stops in
    let positive : 0 < length tag = some_octets tag some in
    let test : ltb 0 (length tag) ≡ true = grind (arith, nat_tests) in
    rw (whole, drop_at tag rest (length tag) refl, take_at tag rest (length tag) refl, test, ends) refl

by_test : (b : Bool) (x y : List ℕ) → cond b (Some x) None ≡ Some y → (b ≡ true) × (x ≡ y)
by_test true x y e = (refl, same_Some _ _ e)
by_test false x y e = absurd cc

-- the tag of a command is a tag
pub tag_of_is_tag : (frame tag : List ℕ) → tag_of frame ≡ Some tag → (some_of is_tag_char).spells tag tag
tag_of_is_tag frame tag e =
    let k = prefix_len is_tag_char frame in
    let q = by_test (ltb 0 k && ends_word (drop k frame)) (take k frame) tag e in
    let r = both_true (ltb 0 k) (ends_word (drop k frame)) q.0 in
    let positive : 0 < k = grind (arith, nat_tests) in
    (refl, subst (ConsistsOf is_tag_char) q.1 (prefix_passes is_tag_char frame), λ empty. absurd (omega (arith, length-prefix_len is_tag_char frame, positive, ap length (q.1 ∙ empty))))

tag_length-is : (frame tag : List ℕ) → take (prefix_len is_tag_char frame) frame ≡ tag → length tag ≡ prefix_len is_tag_char frame
tag_length-is frame tag e = sym (ap length e) ∙ length-prefix_len is_tag_char frame

-- the tag is what reading finds in front
pub tag_is_read : (frame tag : List ℕ) → tag_of frame ≡ Some tag → some_read is_tag_char frame ≡ Some (tag, drop (length tag) frame)
tag_is_read frame tag e =
    let k = prefix_len is_tag_char frame in
    let q = by_test (ltb 0 k && ends_word (drop k frame)) (take k frame) tag e in
    let r = both_true (ltb 0 k) (ends_word (drop k frame)) q.0 in
    let some : eqb k 0 ≡ false = grind (arith, nat_tests) in
    rw (some, tag_length-is frame tag q.1, q.1) refl

pub tag_within : (frame tag : List ℕ) → tag_of frame ≡ Some tag → length tag ≤ length frame
tag_within frame tag e =
    let k = prefix_len is_tag_char frame in
    let q = by_test (ltb 0 k && ends_word (drop k frame)) (take k frame) tag e in
    omega (arith, tag_length-is frame tag q.1, prefix_len-le-length is_tag_char frame)

-- a tag and a space stand in front of a command
pub spaced_tag : (frame tag back : List ℕ) → (some_of is_tag_char).spells tag tag → frame ≡ tag ++ (32 ∷ back) → tag_of frame ≡ Some tag
spaced_tag frame tag back h e = ap tag_of e ∙ tag_of_word tag (32 ∷ back) h.1 h.2 refl refl
