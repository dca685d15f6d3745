-- A printed name spells the name.
use Rattle.std.proofs.Common.{◌≡◌, ◌≢◌, ℕ, Bool, true, false, not, cond, ◌&&◌, eqb, List, [], ◌∷◌, ◌++◌, length, refl, sym, subst, append_assoc, inl, inr, flat_map}
use Rattle.std.specs.Prelude.{codes}
use Rattle.std.specs.List.{list_all}
use Rattle.std.specs.Str.{str_eq_ignore_ascii_case}
use Rattle.imap_syntax.specs.Lexical.{is_astring_char, is_quoted_special, IsQuoted, IsQuotedChar, astring, string}
use Rattle.imap_syntax.proofs.RuleLaws.{StopsAt}
use Rattle.imap_syntax.proofs.Strings.{astring_lawful}
use Rattle.imap_syntax.proofs.Writing.{both_true, consists}
use Rattle.imap_syntax.specs.Written.{escaped, quoted_text}
use Rattle.imap_print.specs.Strings.{is_bare, name_text}
use Rattle.imap_print.specs.ReadBack.{may_be_quoted, IsDelimited, NamesAreReadBack}

-- ---- an atom

pub bare_parts : (name : List ℕ) → is_bare name ≡ true → (list_all is_astring_char name ≡ true) × (not (eqb (length name) 0) ≡ true)
bare_parts name h =
    let front = both_true (not (eqb (length name) 0) && list_all is_astring_char name) (not (str_eq_ignore_ascii_case name (codes "NIL"))) h in
    let parts = both_true (not (eqb (length name) 0)) (list_all is_astring_char name) front.0 in
    (parts.1, parts.0)

filled : (name : List ℕ) → not (eqb (length name) 0) ≡ true → name ≢ []
filled [] h e = absurd cc
filled (octet ∷ name) h e = cc

-- ---- a quoted string

quoted_char : (octet : ℕ) (more : List ℕ) (special : Bool) → is_quoted_special octet ≡ special → may_be_quoted octet ≡ true → IsQuotedChar octet more (cond special (92 ∷ octet ∷ []) (octet ∷ []) ++ more)
quoted_char octet more true special plain = inr (special, refl)
quoted_char octet more false special plain = inl (rw (plain, special) refl, refl)

quoted_body : (name : List ℕ) → list_all may_be_quoted name ≡ true → IsQuoted name (flat_map escaped name ++ 34 ∷ [])
quoted_body [] h = refl
quoted_body (octet ∷ name) h =
    let parts = both_true (may_be_quoted octet) (list_all may_be_quoted name) h in
    let more = flat_map escaped name ++ 34 ∷ [] in
    (more, quoted_body name parts.1, subst (IsQuotedChar octet more) (sym (append_assoc (escaped octet) (flat_map escaped name) (34 ∷ []))) (quoted_char octet more (is_quoted_special octet) refl parts.0))

-- ---- either

name_spelt : (name : List ℕ) (bare : Bool) → is_bare name ≡ bare → list_all may_be_quoted name ≡ true → astring.spells name (cond bare name (quoted_text name))
unfolding astring string
name_spelt name true is plain = let parts = bare_parts name is in inl (refl, consists is_astring_char name parts.0, filled name parts.1)
name_spelt name false is plain = inr (inl (tt, 34 ∷ [], flat_map escaped name ++ 34 ∷ [], refl, quoted_body name plain, refl))

stops : (rest : List ℕ) → IsDelimited rest → StopsAt is_astring_char rest
stops [] h = tt
stops (octet ∷ rest) h = h

pub names_are_read_back : NamesAreReadBack
names_are_read_back name rest plain end = astring_lawful.complete name (name_text name) rest (name_spelt name (is_bare name) refl plain) (stops rest end)
