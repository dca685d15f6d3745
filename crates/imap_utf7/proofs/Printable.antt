-- What is written is printable ASCII.
use Rattle.std.proofs.Common.{◌≡◌, ◌∙◌, ap, refl, ℕ, Bool, true, false, not, List, [], ◌∷◌, ◌++◌, ◌==◌}
use Rattle.std.proofs.lemmas.Bool.{and_parts, and_from}
use Rattle.std.proofs.lemmas.List.Folds.{list_all-append}
use Rattle.std.proofs.Math.Utf8.{scalar, scalars}
use Rattle.std.specs.List.{list_all}
use Rattle.imap_utf7.specs.Shifts.{base64, is_octet, wide}
use Rattle.imap_utf7.specs.Spelling.{direct, encoded, encoded_after, is_direct, shifted}
use Rattle.imap_utf7.specs.Laws.{is_plain}
use Rattle.imap_utf7.proofs.Chars.{base64_inside, is_inside, wide_passes}

inside_direct : (octets : List ℕ) → list_all is_inside octets ≡ true → list_all is_direct octets ≡ true
inside_direct [] is = refl
inside_direct (octet ∷ octets) is =
    let parts = and_parts (is_inside octet) (list_all is_inside octets) is in
    and_from _ _ (and_parts (is_direct octet) (not (octet == 45)) parts.0).0 (inside_direct octets parts.1)

shifted_printable : (run : List ℕ) → list_all is_octet run ≡ true → list_all is_direct (shifted run) ≡ true
shifted_printable [] is = refl
shifted_printable (octet ∷ run) is =
    list_all-append is_direct (base64 (octet ∷ run)) (45 ∷ [])
    ∙ and_from _ _ (inside_direct (base64 (octet ∷ run)) (base64_inside (octet ∷ run) is)) refl

direct_by : (c : ℕ) (t : Bool) → (c == 38) ≡ t → is_direct c ≡ true → list_all is_direct (direct c) ≡ true
direct_by c true e is = rw e refl
direct_by c false e is = rw e (and_from (is_direct c) true is refl)

-- one character, if those after it are
next_printable : (run text : List ℕ) (c : ℕ) (t : Bool) → is_direct c ≡ t → list_all is_octet run ≡ true → scalar c ≡ true
    → ((run : List ℕ) → list_all is_octet run ≡ true → list_all is_direct (encoded_after run text) ≡ true)
    → list_all is_direct (encoded_after run (c ∷ text)) ≡ true
next_printable run text c true is runs one goes =
    rw is (list_all-append is_direct (shifted run) (direct c ++ encoded_after [] text)
    ∙ and_from _ _ (shifted_printable run runs)
    (list_all-append is_direct (direct c) (encoded_after [] text)
    ∙ and_from _ _ (direct_by c (c == 38) refl is) (goes [] refl)))
next_printable run text c false is runs one goes =
    rw is (goes (run ++ wide c) (list_all-append is_octet run (wide c) ∙ and_from _ _ runs (wide_passes c one)))

printable_after : (run text : List ℕ) → list_all is_octet run ≡ true → scalars text ≡ true
    → list_all is_direct (encoded_after run text) ≡ true
printable_after run [] runs is = shifted_printable run runs
printable_after run (c ∷ text) runs is =
    let parts = and_parts (scalar c) (scalars text) is in
    next_printable run text c (is_direct c) refl runs parts.0 (λ more octets. printable_after more text octets parts.1)

pub printable : (text : List ℕ) → scalars text ≡ true → list_all is_direct (encoded text) ≡ true
printable text is = printable_after [] text refl is

-- ---- text without `&`

not_true : (t : Bool) → not t ≡ true → t ≡ false
not_true false is = refl
not_true true is = cc is

pub stays : (text : List ℕ) → list_all is_plain text ≡ true → encoded text ≡ text
stays [] is = refl
stays (c ∷ text) is =
    let parts = and_parts (is_plain c) (list_all is_plain text) is in
    let both = and_parts (is_direct c) (not (c == 38)) parts.0 in
    rw (both.0, not_true (c == 38) both.1) (ap (λ l. c ∷ l) (stays text parts.1))
