-- The spelling of a name.
use Rattle.std.proofs.Common.{ℕ, List, Bool, true, false, Some, None, ◌≡◌, refl, ◌∙◌, ap, IsUtf8}
use Rattle.std.specs.Prelude.{chars, cond}
use Rattle.std.specs.List.{list_all}
use Rattle.std.specs.Str.{is_utf8}
use Rattle.std.proofs.lemmas.Str.{IsUtf8-from_is_utf8, is_utf8-from_IsUtf8}
use Rattle.imap_utf7.specs.Laws.{is_plain}
use Rattle.imap_utf7.specs.Spelling.{encoded}
use Rattle.imap_rev1.specs.Shown.{other_shown}

-- a text that isn't plain has a spelling
pub spelled : (name : List ℕ) → list_all is_plain name ≡ false → IsUtf8 name
    → other_shown name ≡ Some (encoded (chars name))
spelled name not_plain utf8 =
    ap (λ b. cond b None (cond (is_utf8 name) (Some (encoded (chars name))) None)) not_plain
    ∙ ap (λ b. cond b (Some (encoded (chars name))) None) (is_utf8-from_IsUtf8 name utf8)

-- octets that aren't UTF-8 have none
pub no_spelling : (name : List ℕ) → list_all is_plain name ≡ false → (IsUtf8 name → ⊥) → other_shown name ≡ None
no_spelling name not_plain other =
    ap (λ b. cond b None (cond (is_utf8 name) (Some (encoded (chars name))) None)) not_plain
    ∙ by_test (is_utf8 name) refl
  where
    by_test : (b : Bool) → is_utf8 name ≡ b → cond b (Some (encoded (chars name))) None ≡ None
    by_test true is = absurd (other (IsUtf8-from_is_utf8 name is))
    by_test false is = refl
