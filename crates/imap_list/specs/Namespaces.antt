-- The response to NAMESPACE (RFC 9051, section 6.3.10) has the prefixes by which names are read and shown.
use Rattle.std.specs.Prelude.{◌≡◌, ℕ, List, ◌++◌, codes}
use Rattle.imap_names.specs.Namespace.{other_users_prefix, personal_prefix, shared_prefix}
use Rattle.imap_print.specs.Printed.{line_text}
use Rattle.imap_print.specs.declared.response.Response.TheVariants as response

-- one namespace: its prefix, and the delimiter of its names
abbrev pub namespace_text : (prefix : List ℕ) → List ℕ
namespace_text prefix = codes "((\"" ++ prefix ++ codes "\" \"/\"))"

abbrev pub NamespacesArePrinted : Type 0
NamespacesArePrinted =
    line_text response.Namespace
    ≡ codes "* NAMESPACE " ++ namespace_text personal_prefix
    ++ codes " " ++ namespace_text other_users_prefix
    ++ codes " " ++ namespace_text shared_prefix
