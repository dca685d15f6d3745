-- The folder of a mailbox.
use Rattle.std.specs.Prelude.{ℕ, List, ◌++◌, chars, codes, flat_map, encode_utf8_all, Option, Some, None, Result, Ok, Err}
use Rattle.std.specs.Prelude.{if◌then◌else◌}
use Rattle.imap_names.specs.declared.error.NameError.{NameError}
use Rattle.imap_names.specs.Name.{Name, components, is_empty, root_of}
use Rattle.imap_names.specs.Reading.{full_name_read}
use Rattle.imap_maildir_names.specs.Levels.{level_path}
use Rattle.imap_maildir_names.specs.Unmarking.{unmarked}

-- the folders of the tree with this root
abbrev pub tree_path : (root : List ℕ) → List ℕ
tree_path root = if is_empty root then codes "Shared" else codes "Other Users" ++ level_path root

-- the path of a mailbox's folder below the folder of all, in UTF-8
abbrev pub folder_path : Name → List ℕ
folder_path name = tree_path (root_of name) ++ flat_map level_path (components name)

abbrev pub if_read : Result Name NameError → Option Name
if_read (Ok name) = Some name
if_read (Err error) = None

-- the mailbox whose folder the path is
abbrev pub name_at : (path : List ℕ) → Option Name
name_at path = if_read (full_name_read (encode_utf8_all (unmarked (chars path))))
