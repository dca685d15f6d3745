-- The flags of RFC 9051, section 2.3.2, and other flags with a backslash.
use Rattle.std.specs.Prelude.{◌≡◌, ℕ, Bool, true, ◌&&◌, List, Option, Some, None, find}
use Rattle.std.specs.Prelude.{is_none, codes, if◌then◌else◌}
use Rattle.std.specs.Str.{str_eq_ignore_ascii_case}
use Rattle.imap_syntax.specs.declared.system_flag.SystemFlag.{SystemFlag}
use Rattle.imap_syntax.specs.declared.system_flag.SystemFlag.TheVariants as system
use Rattle.imap_syntax.specs.declared.system_flag.TheConstants.{SYSTEM_FLAGS}
use Rattle.imap_syntax.specs.Atoms.{atom}

-- in capitals
abbrev pub flag_name : SystemFlag → List ℕ
flag_name system.Answered = codes "ANSWERED"
flag_name system.Deleted = codes "DELETED"
flag_name system.Draft = codes "DRAFT"
flag_name system.Flagged = codes "FLAGGED"
flag_name system.Seen = codes "SEEN"

-- none of the five, in any ASCII case
abbrev pub is_other : List ℕ → Bool
is_other word = is_none (find (λ known. str_eq_ignore_ascii_case word (flag_name known)) SYSTEM_FLAGS)

-- what stands after the backslash of another flag
abbrev pub other_fits : List ℕ → Bool
other_fits word = atom.fits word && is_other word

abbrev pub IsOtherFlag : List ℕ → Type 0
IsOtherFlag word = other_fits word ≡ true

-- these octets as such a word
abbrev pub other_read : List ℕ → Option (List ℕ)
other_read word = if other_fits word then Some word else None
