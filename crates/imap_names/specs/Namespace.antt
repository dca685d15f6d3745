-- The prefixes of the namespaces, as NAMESPACE gives them (RFC 2342, section 5; RFC 9051, section 6.3.10).
use Rattle.std.specs.Prelude.{ℕ, List, [], codes}

-- of the names in the reader's own tree
abbrev pub personal_prefix : List ℕ
personal_prefix = []

-- of the names in other users' trees, where the user's name comes next
abbrev pub other_users_prefix : List ℕ
other_users_prefix = codes "Other Users/"

-- of the names in the tree that all share
abbrev pub shared_prefix : List ℕ
shared_prefix = codes "Shared/"
