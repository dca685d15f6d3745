-- How the properties of a mailbox are printed.
use Rattle.std.specs.Prelude.{ℕ, Bool, true, false, List, [], ◌∷◌, ◌++◌, codes, decimal, map}
use Rattle.imap_rights.specs.Rights.{bits, letters_of}
use Rattle.imap_print.specs.declared.list.Children.{Children}
use Rattle.imap_print.specs.declared.list.Children.TheVariants as children
use Rattle.imap_print.specs.declared.list.ListAttributes.{ListAttributes}
use Rattle.imap_query.specs.StatusWords.{status_name}
use Rattle.imap_print.specs.declared.status.StatusValue.{StatusValue}
use Rattle.imap_print.specs.declared.acl.AclEntry.{AclEntry}
use Rattle.imap_print.specs.Words.{given, before_each, in_parentheses}
use Rattle.imap_print.specs.Strings.{name_text}

-- ---- LIST (RFC 9051, section 7.3.1)

abbrev pub children_words : Children → List (List ℕ)
children_words children.Omitted = []
children_words children.Has = codes "\\HasChildren" ∷ []
children_words children.HasNo = codes "\\HasNoChildren" ∷ []

-- `mbx-list-flags`
abbrev pub attributes_text : ListAttributes → List ℕ
attributes_text attributes =
    in_parentheses
    (given attributes.non_existent (codes "\\NonExistent") ++ children_words attributes.children
    ++ given attributes.subscribed (codes "\\Subscribed"))

-- ---- STATUS (RFC 9051, section 7.3.4; RFC 7162, section 3.1)

abbrev pub value_text : StatusValue → List ℕ
value_text value = status_name value.item ++ codes " " ++ decimal value.value

abbrev pub values_text : List StatusValue → List ℕ
values_text values = in_parentheses (map value_text values)

-- ---- access control lists (RFC 4314, sections 3.6 and 3.7)

abbrev pub entry_text : AclEntry → List ℕ
entry_text entry = name_text entry.identifier ++ codes " " ++ letters_of (bits entry.rights)

abbrev pub entries_text : List AclEntry → List ℕ
entries_text entries = before_each 32 (map entry_text entries)

-- the rights that an identifier always has, and those that it may be given. An owner always has `l` and `a`
abbrev pub grantable_text : (owner : Bool) → List ℕ
grantable_text true = codes "la r s w i p k x t e"
grantable_text false = codes "\"\" l r s w i p k x t e a"
