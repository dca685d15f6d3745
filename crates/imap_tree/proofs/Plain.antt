-- An identifier has neither CR nor LF.
use Rattle.std.proofs.Common.{◌≡◌, ℕ, true, false, List, [], ◌∷◌, ◌++◌, map}
use Rattle.std.specs.Prelude.{chars}
use Rattle.std.specs.Char.{is_control}
use Rattle.std.specs.List.{AllByRecursion, list_any}
use Rattle.std.proofs.lemmas.Bool.{and_parts, not-true}
use Rattle.std.proofs.lemmas.Str.{IsUtf8-from_is_utf8}
use Rattle.imap_print.proofs.Plain.{IsPlain-text}
use Rattle.imap_print.specs.declared.acl.AclEntry.{AclEntry}
use Rattle.imap_print.specs.Lines.{IsPlain}
use Rattle.imap_rights.specs.Identifier.{has_identifier_form, is_identifier}
use Rattle.imap_tree.specs.GetAcl.{ArePlain}

form_plain : (text : List ℕ) → has_identifier_form text ≡ true → list_any is_control (chars text) ≡ false
form_plain text h = not-true (list_any is_control (chars text)) (and_parts _ _ h).1

pub identifier_plain : (text : List ℕ) → is_identifier text ≡ true → IsPlain text
unfolding is_identifier
identifier_plain text h =
    IsPlain-text text (IsUtf8-from_is_utf8 text (and_parts _ _ (and_parts _ _ h).0).0) (form_plain text (and_parts _ _ h).1)

-- one more entry
pub plain_push : (entries : List AclEntry) (entry : AclEntry) → ArePlain entries → IsPlain entry.identifier → ArePlain (entries ++ entry ∷ [])
plain_push [] entry all one = (one, tt)
plain_push (first ∷ entries) entry all one = (all.0, plain_push entries entry all.1 one)

-- the identifiers of the entries
pub plain_identifiers : (entries : List AclEntry) → ArePlain entries → AllByRecursion IsPlain (map (λ (e : AclEntry). e.identifier) entries)
plain_identifiers [] all = tt
plain_identifiers (entry ∷ entries) all = (all.0, plain_identifiers entries all.1)
