-- Mailbox names as contracts see them (RFC 9051, section 5.1).
use Rattle.std.specs.Prelude.{◌≡◌, ℕ, Bool, not, ◌==◌, ◌&&◌, length, List, [], ◌∷◌, ◌++◌, reverse, codes}
use Rattle.std.specs.Prelude.{bytes_eq, if◌then◌else◌, Option, Some, None}
use Rattle.std.specs.List.{join_with_byte}

-- the components of the name, the deepest first, and last the root of its tree. The superiors of a name are
-- its proper tails
abbrev pub Name : Type 0
Name = List (List ℕ)

-- the root of a user's tree is his name, and that of the tree that all share has no octets
abbrev pub shared_root : List ℕ
shared_root = []

abbrev pub is_empty : List ℕ → Bool
is_empty text = length text == 0

-- the name with these components, the outermost first, below this root
abbrev pub name_of : List ℕ → List (List ℕ) → Name
name_of root components = reverse components ++ root ∷ []

abbrev pub root_of : Name → List ℕ
root_of [] = shared_root
root_of (root ∷ []) = root
root_of (deepest ∷ above ∷ more) = root_of (above ∷ more)

-- the user in whose tree the name lies
abbrev pub owner : Name → Option (List ℕ)
owner name = if is_empty (root_of name) then None else Some (root_of name)

-- the components, the outermost first
abbrev pub components : Name → List (List ℕ)
components [] = []
components (root ∷ []) = []
components (deepest ∷ above ∷ more) = components (above ∷ more) ++ deepest ∷ []

-- the name right above, unless it is the root of the tree
abbrev pub superior : Name → Option Name
superior [] = None
superior (root ∷ []) = None
superior (outermost ∷ root ∷ []) = None
superior (deepest ∷ above ∷ next ∷ more) = Some (above ∷ next ∷ more)

-- the components as one text, with the delimiter between them
abbrev pub path_of : Name → List ℕ
path_of name = join_with_byte 47 (components name)

-- an INBOX (RFC 9051, section 5.1) is the path INBOX of a user's tree
abbrev pub is_inbox : Name → Bool
is_inbox name = not (is_empty (root_of name)) && bytes_eq (path_of name) (codes "INBOX")

-- above has below among its inferiors: it is a proper tail of it
abbrev pub IsAbove : Name → Name → Type 0
IsAbove above below = (deepest : List ℕ) × (between : List (List ℕ)) × (below ≡ deepest ∷ between ++ above)
