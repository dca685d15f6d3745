-- The mailbox into which messages are put (RFC 9051, sections 6.3.12, 6.4.7 and 6.4.8).
use Rattle.std.specs.Prelude.{ℕ, Bool, false, ◌||◌, [], ◌∷◌, Option, Some, None, if◌then◌else◌}
use Rattle.imap_mailbox.specs.Shown.{Content}
use Rattle.imap_names.specs.Name.{Name}
use Rattle.imap_print.specs.declared.response.Code.{Code}
use Rattle.imap_print.specs.declared.response.Code.TheVariants as code
use Rattle.imap_print.specs.declared.response.Refusal.{Refusal}
use Rattle.imap_print.specs.declared.response.Refusal.TheVariants.{NonExistent, NoPerm, TryCreate}
use Rattle.imap_rights.specs.Rights.{create, has_any, lookup, read}
use Rattle.imap_view.specs.Seen.{Seen}
use Rattle.imap_view.specs.View.{View, is_own_root, rights_in}

-- whether the user holds `k` on the name. Of a root its owner alone does
abbrev pub holds_create : View → Name → Bool
holds_create view [] = false
holds_create view (root ∷ []) = is_own_root view.site view.user root
holds_create view (deepest ∷ above ∷ more) = has_any (rights_in view (deepest ∷ above ∷ more)) create

-- whether the user holds `k` on one of its superiors
abbrev pub holds_create_above : View → Name → Bool
holds_create_above view [] = false
holds_create_above view (deepest ∷ above) = holds_create view above || holds_create_above view above

-- why nothing is put into a mailbox on which the user lacks `i`. Without `l` it is as if it were not there
-- (RFC 4314, section 6), and the client is told if it may try to make one
abbrev pub target_refusal : View → Name → Refusal
target_refusal view name =
    if has_any (rights_in view name) lookup then NoPerm
    else if holds_create_above view name then TryCreate
    else NonExistent

-- ---- the response code APPENDUID

abbrev pub uid_code : (validity : Option ℕ) → Option Content → Option Code
uid_code (Some validity) (Some content) = Some (code.AppendUid validity content.next)
uid_code _ _ = None

-- only one who may read is told the UID
abbrev pub append_code : Seen → Option Code
append_code seen = if has_any seen.rights read then uid_code seen.validity seen.messages.content else None
