-- Atoms (RFC 9051, section 9, `atom`).
use Rattle.std.specs.Prelude.{◌≡◌, ℕ, true, List, Option, Some, None, if◌then◌else◌}
use Rattle.imap_syntax.specs.Lexical.{is_atom_char}
use Rattle.imap_syntax.specs.Writing.{Writing, some_of}

-- one atom character or more
abbrev pub atom : Writing (List ℕ)
atom = some_of is_atom_char

abbrev pub IsAtom : List ℕ → Type 0
IsAtom octets = atom.fits octets ≡ true

-- these octets as an atom
abbrev pub atom_read : List ℕ → Option (List ℕ)
atom_read octets = if atom.fits octets then Some octets else None
