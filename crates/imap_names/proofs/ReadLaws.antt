-- What a name that was read is like.
use Rattle.std.proofs.Common.{◌≡◌, ◌≢◌, ℕ, cond, Bool, true, false, not, List, [], refl, sym, ap, ◌∙◌, subst, arith, Result, Option, None, Some, Ok, Err, inl, inr}
use Rattle.std.specs.Prelude.{◌||◌, codes, bytes_eq}
use Rattle.std.specs.Char.{is_control}
use Rattle.std.specs.List.{list_any}
use Rattle.std.specs.Str.{IsUtf8, is_utf8}
use Rattle.std.proofs.lemmas.Bool.{cases_Bool, or_from, or_right, cond-true, cond-false, false_from_ne_true}
use Rattle.std.proofs.lemmas.Str.{chars-IsAscii, IsUtf8-from_ascii, is_utf8-from_IsUtf8, IsUtf8-from_is_utf8}
use Rattle.unicode_normalization.specs.Forms.{is_nfc}
use Rattle.std.specs.Prelude.{chars}
use Rattle.imap_names.specs.Name.{Name, name_of, is_empty}
use Rattle.imap_nfc.specs.Nfc.{composed}
use Rattle.imap_names.specs.Text.{components_of, has_control}
use Rattle.imap_names.specs.UserName.{is_user_name}
use Rattle.imap_names.specs.Valid.{is_prefix_word, is_root, with_inbox, held_path, IsName}
use Rattle.std.proofs.lemmas.Slice.Eq.{bytes_eq-Decides}
use Rattle.imap_names.proofs.Composed.{is_nfc-ascii, ascii_by_test, composed-empty, has_control-empty}
use Rattle.imap_names.proofs.PathLaws.{KeepsRules, IsName-from, path_fault-none}
use Rattle.imap_names.specs.Reading.{NameParts, parts_of, root_at, is_own, path_fault, unless_fault, name_in, in_tree, name_at, read_by}
use Rattle.imap_names.specs.declared.error.NameError.{NameError}
use Rattle.imap_names.specs.declared.error.NameError.TheVariants.{EmptyComponent, TooLong, TooDeep, Reserved, Control, Memory}
use Rattle.imap_names.specs.declared.read.Namespace.{Namespace}
use Rattle.imap_names.specs.declared.read.Namespace.TheVariants.{Personal, OtherUsers, Shared, Bare}
use Rattle.imap_names.proofs.InboxWord.{holds_path, HoldsPath, is_reserved-inbox, upper_ascii}

pub is_root-user : (root : List ℕ) → is_user_name root ≡ true → is_root root ≡ true
is_root-user root valid = or_right (is_empty root) (is_user_name root) valid

pub IsName-inbox : (user path : List ℕ) → is_user_name user ≡ true → path ≡ codes "INBOX" → IsName (name_of user (components_of path))
IsName-inbox user path valid same =
    subst (λ p. IsName (name_of user (components_of p))) (sym same)
    (IsName-from user (codes "INBOX") (is_root-user user valid)
    (record { unreserved = is_reserved-inbox user []; filled = refl; short = omega arith; shallow = omega arith })
    (record {
      utf8 = is_utf8-from_IsUtf8 (codes "INBOX") (IsUtf8-from_ascii (codes "INBOX") upper_ascii);
      nfc = is_nfc-ascii (codes "INBOX") upper_ascii;
      printable = ap (list_any is_control) (chars-IsAscii (codes "INBOX") upper_ascii);
    })
    refl)

-- a path by the rules, with its INBOX in upper case, in a tree
pub IsName-held : (root path held : List ℕ) → is_root root ≡ true → KeepsRules root path → is_nfc (chars path) ≡ true → has_control path ≡ false → IsUtf8 held → held ≡ held_path path → IsName (name_of root (components_of held))
IsName-held root path held tree rules nfc printable utf8 same =
    let holds : HoldsPath root path held = subst (HoldsPath root path) (sym same) (holds_path root path rules nfc printable) in
    IsName-from root held tree holds.rules (record { utf8 = is_utf8-from_IsUtf8 held utf8; nfc = holds.nfc; printable = holds.printable }) holds.inbox

pub components_of-held : (root path held : List ℕ) → KeepsRules root path → is_nfc (chars path) ≡ true → has_control path ≡ false → held ≡ held_path path → components_of held ≡ with_inbox (components_of path)
components_of-held root path held rules nfc printable same =
    ap components_of same ∙ (holds_path root path rules nfc printable).parts

pub name_in-held : (root path held : List ℕ) → is_nfc (chars path) ≡ true → has_control path ≡ false → held ≡ held_path path → path_fault root path ≡ None → name_in root path ≡ Ok (name_of root (components_of held))
name_in-held root path held nfc printable same none =
    ap (λ fault. unless_fault fault (name_of root (with_inbox (components_of path)))) none
    ∙ ap (λ z. Ok (name_of root z)) (sym (components_of-held root path held (path_fault-none root path none) nfc printable same))

pub read_by-text : (own : Option (List ℕ)) (text owner path : List ℕ) → IsUtf8 text → owner ≡ composed (parts_of text).owner → path ≡ composed (parts_of text).path → read_by own text ≡ name_at own (parts_of text).namespace owner path
unfolding read_by
read_by-text own text owner path utf8 o p =
    cond-true _ _ _ (is_utf8-from_IsUtf8 text utf8)
    ∙ ap (λ z. name_at own (parts_of text).namespace z (composed (parts_of text).path)) (sym o)
    ∙ ap (name_at own (parts_of text).namespace owner) (sym p)

pub read_by-no_text : (own : Option (List ℕ)) (text : List ℕ) → ¬ (IsUtf8 text) → read_by own text ≡ Err Control
unfolding read_by
read_by-no_text own text never =
    cond-false _ _ _ (false_from_ne_true (is_utf8 text) (λ utf8. never (IsUtf8-from_is_utf8 text utf8)))

-- ---- a prefix alone

prefix_word_utf8 : (text word : List ℕ) → IsUtf8 word → bytes_eq text word ≡ true → IsUtf8 text
prefix_word_utf8 text word utf8 same = subst IsUtf8 (sym ((bytes_eq-Decides text word).0 same)) utf8

pub IsUtf8-prefix_word : (text : List ℕ) → is_prefix_word text ≡ true → IsUtf8 text
IsUtf8-prefix_word text word =
    elim (cases_Bool (bytes_eq text (codes "Other Users"))) [
      | inl fits ↦ prefix_word_utf8 text (codes "Other Users") (IsUtf8-from_ascii (codes "Other Users") (ascii_by_test (codes "Other Users") refl)) fits
      | inr fails ↦
          prefix_word_utf8 text (codes "Shared") (IsUtf8-from_ascii (codes "Shared") (ascii_by_test (codes "Shared") refl))
          (ap (λ b. b || bytes_eq text (codes "Shared")) (sym fails) ∙ word)
    ]

pub read_by-prefix_word : (own : Option (List ℕ)) (text : List ℕ) → is_prefix_word text ≡ true → read_by own text ≡ Err Reserved
read_by-prefix_word own text word =
    let bare : parts_of text ≡ record { namespace = Bare; owner = []; path = [] } = cond-true _ _ _ word in
    read_by-text own text [] [] (IsUtf8-prefix_word text word)
    (sym composed-empty ∙ ap (λ (parts : NameParts). composed parts.owner) (sym bare))
    (sym composed-empty ∙ ap (λ (parts : NameParts). composed parts.path) (sym bare))
    ∙ ap (λ (parts : NameParts). name_at own parts.namespace [] []) bare
    ∙ cond-false _ _ _ (or_from _ _ has_control-empty has_control-empty)

-- ---- the meaning of a text never speaks of memory

abbrev failed : {A : Type 0} → NameError → Result A NameError
failed error = Err error

err_same : {A : Type 0} (x y : NameError) → failed {A = A} x ≡ failed {A = A} y → x ≡ y
err_same x y e = cc

within : {A : Type 0} (b : Bool) (error : NameError) (rest : Result A NameError) → error ≢ Memory → rest ≢ Err Memory → cond b (Err error) rest ≢ Err Memory
within true error rest h k e = h (err_same error Memory e)
within false error rest h k e = k e

-- the errors of the rules
abbrev IsOfRules : NameError → Type 0
IsOfRules error = error ≢ Memory

empty_rule : IsOfRules EmptyComponent
empty_rule e = cc

long_rule : IsOfRules TooLong
long_rule e = cc

deep_rule : IsOfRules TooDeep
deep_rule e = cc

reserved_rule : IsOfRules Reserved
reserved_rule e = cc

control_rule : IsOfRules Control
control_rule e = cc

no_fault : None ≢ Some Memory
no_fault e = cc

fault_not_memory : (b : Bool) (error : NameError) (rest : Option NameError) → error ≢ Memory → rest ≢ Some Memory → cond b (Some error) rest ≢ Some Memory
fault_not_memory true error rest h k e = h (let same : error ≡ Memory = cc in same)
fault_not_memory false error rest h k e = k e

path_fault-not_memory : (root path : List ℕ) → path_fault root path ≢ Some Memory
path_fault-not_memory root path =
    fault_not_memory _ Reserved _ reserved_rule
    (fault_not_memory _ EmptyComponent _ empty_rule
    (fault_not_memory _ TooLong _ long_rule (fault_not_memory _ TooDeep None deep_rule no_fault)))

unless_fault-not_memory : (fault : Option NameError) (name : Name) → fault ≢ Some Memory → unless_fault fault name ≢ Err Memory
unless_fault-not_memory None name h e = cc
unless_fault-not_memory (Some error) name h e = h (ap Some (err_same error Memory e))

other_root : (b : Bool) (owner : List ℕ) → cond b (Err Reserved) (Ok owner) ≢ Err Memory
other_root true owner e = cc
other_root false owner e = cc

root_at-not_memory : (own : Option (List ℕ)) (namespace : Namespace) (owner : List ℕ) → root_at own namespace owner ≢ Err Memory
root_at-not_memory None Personal owner e = cc
root_at-not_memory (Some user) Personal owner e = cc
root_at-not_memory own OtherUsers owner e = other_root (is_own own owner || not (is_user_name owner)) owner e
root_at-not_memory own Shared owner e = cc
root_at-not_memory own Bare owner e = cc

in_tree-not_memory : (root : Result (List ℕ) NameError) (path : List ℕ) → root ≢ Err Memory → in_tree root path ≢ Err Memory
in_tree-not_memory (Err error) path h e = h (ap Err (err_same error Memory e))
in_tree-not_memory (Ok root) path h e = unless_fault-not_memory (path_fault root path) _ (path_fault-not_memory root path) e

name_at-not_memory : (own : Option (List ℕ)) (namespace : Namespace) (owner path : List ℕ) → name_at own namespace owner path ≢ Err Memory
name_at-not_memory own namespace owner path =
    within (has_control owner || has_control path) Control (in_tree (root_at own namespace owner) path) control_rule
    (in_tree-not_memory (root_at own namespace owner) path (root_at-not_memory own namespace owner))

text_or_control : (b : Bool) (meant : Result Name NameError) → meant ≢ Err Memory → cond b meant (Err Control) ≢ Err Memory
text_or_control true meant h e = h e
text_or_control false meant h e = cc

pub read_by-not_memory : (own : Option (List ℕ)) (text : List ℕ) → read_by own text ≢ Err Memory
unfolding read_by
read_by-not_memory own text =
    text_or_control (is_utf8 text) _ (name_at-not_memory own (parts_of text).namespace (composed (parts_of text).owner) (composed (parts_of text).path))
