-- A client reads each response of an answer as one line: names and tags have neither CR nor LF.
use Rattle.std.proofs.Common.{◌≡◌, ℕ, Bool, true, false, cond, List, [], ◌∷◌, ◌++◌, Option, refl, sym, ap, ◌∙◌}
use Rattle.std.specs.Prelude.{◌||◌, codes, bytes_eq}
use Rattle.std.proofs.lemmas.Str.{IsUtf8-from_is_utf8}
use Rattle.imap_lex.specs.CommandTag.{IsTag}
use Rattle.imap_names.specs.Name.{Name, root_of, path_of, is_empty}
use Rattle.imap_names.specs.Showing.{shown}
use Rattle.imap_names.specs.UserName.{is_user_name}
use Rattle.imap_names.specs.Valid.{IsName}
use Rattle.imap_names.proofs.UserLaws.{user_name_facts, has_control-user}
use Rattle.imap_print.specs.declared.response.Code.{Code}
use Rattle.imap_print.specs.declared.response.Refusal.{Refusal}
use Rattle.imap_print.specs.declared.response.Response.TheVariants as response
use Rattle.imap_print.specs.Lines.{IsPlain, IsPrintable}
use Rattle.imap_print.proofs.Plain.{IsPlain-append, IsPlain-tag, IsPlain-text}
use Rattle.imap_answer.specs.Answer.{refused_line}

-- ---- names

user_plain : (user : List ℕ) → is_user_name user ≡ true → IsPlain user
user_plain user h =
    IsPlain-text user (IsUtf8-from_is_utf8 user (user_name_facts user h).utf8) (has_control-user user h)

path_plain : (name : Name) → IsName name → IsPlain (path_of name)
path_plain name valid =
    IsPlain-text (path_of name) (IsUtf8-from_is_utf8 (path_of name) valid.utf8) valid.printable

-- the root of a tree that isn't shared is its user
root_plain : (name : Name) → IsName name → is_empty (root_of name) ≡ false → IsPlain (root_of name)
root_plain name valid some =
    user_plain (root_of name) (ap (λ b. b || is_user_name (root_of name)) (sym some) ∙ valid.tree)

pub shown_plain : (user : List ℕ) (name : Name) → IsName name → IsPlain (shown user name)
shown_plain user name valid = by_root (is_empty (root_of name)) (bytes_eq (root_of name) user) refl
  where
    by_root : (shared own : Bool) → is_empty (root_of name) ≡ shared
        → IsPlain (cond shared (codes "Shared/" ++ path_of name) (cond own (path_of name) (codes "Other Users/" ++ (root_of name ++ 47 ∷ path_of name))))
    by_root true own e = IsPlain-append (codes "Shared/") (path_of name) refl (path_plain name valid)
    by_root false true e = path_plain name valid
    by_root false false e =
        IsPlain-append (codes "Other Users/") (root_of name ++ 47 ∷ path_of name) refl
        (IsPlain-append (root_of name) (47 ∷ path_of name) (root_plain name valid e)
        (IsPlain-append (47 ∷ []) (path_of name) refl (path_plain name valid)))

-- ---- replies

pub done_printable : (tag : List ℕ) (code : Option Code) → IsTag tag → IsPrintable (response.Done tag code)
done_printable tag code is = record { plain = (IsPlain-tag tag is, tt); held = tt }

pub refused_printable : (tag : List ℕ) (refusal : Refusal) → IsTag tag → IsPrintable (refused_line tag refusal)
refused_printable tag refusal is = record { plain = (IsPlain-tag tag is, tt); held = tt }
