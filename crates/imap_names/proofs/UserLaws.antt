-- What holds of a user name.
use Rattle.std.proofs.Common.{◌≡◌, ℕ, ◌<◌, ◌≤◌, Bool, true, false, not, eqb, List, [], ◌∷◌, length, get_or, refl, sym, ap, ◌∙◌, arith}
use Rattle.std.specs.Prelude.{◌||◌, ◌&&◌, ◌==◌, nat_eq, nat_lt, nat_le, bytes_eq, chars, codes}
use Rattle.std.specs.Char.{is_control}
use Rattle.std.specs.Str.{IsUtf8, is_utf8, NonePass, NoCharPasses}
use Rattle.std.specs.List.{list_any, starts_with}
use Rattle.std.proofs.lemmas.Bool.{and_parts, or_parts, or_from, not-true, ltb-true, leb-true, ne_eqb}
use Rattle.std.proofs.lemmas.Str.{IsUtf8-from_is_utf8, is_utf8-from_IsUtf8, encodes-chars, NoCharPasses-byte}
use Rattle.unicode_normalization.specs.Forms.{is_nfc, Nfc, IsInForm}
use Rattle.unicode_normalization.proofs.FormsLemmas.{is_in_form_from}
use Rattle.imap_names.specs.Name.{is_empty}
use Rattle.imap_names.specs.Text.{is_delimiter, has_control}
use Rattle.imap_names.specs.UserName.{max_user_name_octets, is_user_name, has_user_form, is_barred, names_no_user}
use Rattle.imap_names.proofs.Parts.{undelimited}

pub record UserNameFacts (text : List ℕ) : Type 0 where
  pub utf8 : is_utf8 text ≡ true
  pub nfc : is_nfc (chars text) ≡ true
  pub some : 0 < length text
  pub short : length text ≤ max_user_name_octets
  pub unbarred : list_any is_barred (chars text) ≡ false
  pub user : names_no_user text ≡ false

pub user_name_facts : (text : List ℕ) → is_user_name text ≡ true → UserNameFacts text
unfolding is_user_name
user_name_facts text h =
    let a = and_parts _ (has_user_form text) h in
    let b = and_parts (is_utf8 text) (is_nfc (chars text)) a.0 in
    let c = and_parts _ (not (names_no_user text)) a.1 in
    let d = and_parts _ (not (list_any is_barred (chars text))) c.0 in
    let e = and_parts (nat_lt 0 (length text)) (nat_le (length text) max_user_name_octets) d.0 in
    record {
      utf8 = b.0;
      nfc = b.1;
      some = ltb-true 0 (length text) e.0;
      short = leb-true (length text) max_user_name_octets e.1;
      unbarred = not-true _ d.1;
      user = not-true _ c.1;
    }

pub is_user_name-nfc : (text : List ℕ) → IsUtf8 text → IsInForm Nfc (chars text) → is_user_name text ≡ has_user_form text
unfolding is_user_name
is_user_name-nfc text utf8 same =
    ap (λ b. b && is_nfc (chars text) && has_user_form text) (is_utf8-from_IsUtf8 text utf8)
    ∙ ap (λ b. b && has_user_form text) (is_in_form_from Nfc (chars text) same)

pub is_empty-user : (text : List ℕ) → is_user_name text ≡ true → is_empty text ≡ false
is_empty-user text h = let some : 0 < length text = (user_name_facts text h).some in ne_eqb (length text) 0 (λ e. omega arith)

-- a test that implies another
fewer_pass : (p q : ℕ → Bool) → ((c : ℕ) → q c ≡ false → p c ≡ false) → (cs : List ℕ) → list_any q cs ≡ false → list_any p cs ≡ false
fewer_pass p q less [] h = refl
fewer_pass p q less (c ∷ cs) h =
    let parts = or_parts (q c) (list_any q cs) h in or_from (p c) (list_any p cs) (less c parts.0) (fewer_pass p q less cs parts.1)

pub has_control-user : (text : List ℕ) → is_user_name text ≡ true → has_control text ≡ false
has_control-user text h =
    fewer_pass is_control is_barred (λ c barred. (or_parts (eqb c 32 || eqb c 47) (is_control c) barred).1) (chars text) (user_name_facts text h).unbarred

none_pass : (p : ℕ → Bool) (cs : List ℕ) → list_any p cs ≡ false → NonePass p cs
none_pass p [] h = tt
none_pass p (c ∷ cs) h = let parts = or_parts (p c) (list_any p cs) h in (parts.0, none_pass p cs parts.1)

-- no octet of a user name is a delimiter, since no character is
pub undelimited-user : (text : List ℕ) → is_user_name text ≡ true → list_any is_delimiter text ≡ false
undelimited-user text h =
    let facts = user_name_facts text h in
    let none : NoCharPasses is_barred text = (chars text, encodes-chars text (IsUtf8-from_is_utf8 text facts.utf8), none_pass is_barred (chars text) facts.unbarred) in
    undelimited text (λ i l e.
    let small : get_or text i 0 < 128 = omega arith in
    let fails : is_barred (get_or text i 0) ≡ false = NoCharPasses-byte is_barred text i none l small in
    let clash : is_barred 47 ≡ false = ap is_barred (sym e) ∙ fails in cc)

not_minus : (text : List ℕ) → starts_with nat_eq text (codes "-") ≡ false → (get_or text 0 0 == 45) ≡ false
not_minus [] h = refl
not_minus (c ∷ cs) h = ne_eqb c 45 (λ e.
    let clash : starts_with nat_eq (45 ∷ cs) (codes "-") ≡ false = ap (λ z. starts_with nat_eq (z ∷ cs) (codes "-")) (sym e) ∙ h in cc)

-- a user name begins with no `-`
pub not_minus-user : (text : List ℕ) → is_user_name text ≡ true → (get_or text 0 0 == 45) ≡ false
not_minus-user text h =
    let word : Bool = bytes_eq text (codes "anyone") || starts_with nat_eq text (codes "-") in
    let parts = or_parts word (starts_with nat_eq text (codes "group:")) (user_name_facts text h).user in
    not_minus text (or_parts (bytes_eq text (codes "anyone")) (starts_with nat_eq text (codes "-")) parts.0).1
