-- Laws of folder names.
use Rattle.std.specs.Prelude.{◌≡◌, Some}
use Rattle.imap_names.specs.Name.{Name}
use Rattle.imap_names.specs.Valid.{IsName}
use Rattle.imap_maildir_names.specs.Folders.{folder_path, name_at}

-- The mailbox of a folder is the one whose folder it is.
abbrev pub IsFoundAgain : Type 0
IsFoundAgain = (name : Name) → IsName name → name_at (folder_path name) ≡ Some name

-- No two mailboxes have one folder.
abbrev pub AreApart : Type 0
AreApart = (one other : Name) → IsName one → IsName other → folder_path one ≡ folder_path other → one ≡ other
