-- The text by which a user names a mailbox.
use Rattle.std.specs.Prelude.{ℕ, List, ◌∷◌, ◌++◌, codes, bytes_eq, if◌then◌else◌}
use Rattle.imap_names.specs.Name.{Name, root_of, path_of, is_empty}

abbrev pub shown : List ℕ → Name → List ℕ
shown user name =
    if is_empty (root_of name) then codes "Shared/" ++ path_of name
    else if bytes_eq (root_of name) user then path_of name
    else codes "Other Users/" ++ (root_of name ++ 47 ∷ path_of name)
