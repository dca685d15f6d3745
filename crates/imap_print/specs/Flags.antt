-- How flags are printed (RFC 9051, section 9, `flag-list`).
use Rattle.std.specs.Prelude.{ℕ, Bool, List, [], ◌∷◌, ◌++◌, codes}
use Rattle.imap_print.specs.declared.flag.FlagSet.{FlagSet}
use Rattle.imap_print.specs.Words.{given, in_parentheses}

abbrev pub system_flags : FlagSet → List (List ℕ)
system_flags flags =
    given flags.answered (codes "\\Answered") ++ given flags.deleted (codes "\\Deleted")
    ++ given flags.draft (codes "\\Draft")
    ++ given flags.flagged (codes "\\Flagged") ++ given flags.seen (codes "\\Seen")

abbrev pub flag_words : FlagSet → List (List ℕ)
flag_words flags = system_flags flags ++ flags.keywords

abbrev pub flags_text : FlagSet → List ℕ
flags_text flags = in_parentheses (flag_words flags)

-- `flag-perm`: with \* where further keywords may be made
abbrev pub permanent_text : FlagSet → Bool → List ℕ
permanent_text flags any = in_parentheses (flag_words flags ++ given any (codes "\\*"))

abbrev pub every_system_flag : List (List ℕ)
every_system_flag =
    codes "\\Answered" ∷ codes "\\Deleted" ∷ codes "\\Draft" ∷ codes "\\Flagged" ∷ codes "\\Seen" ∷ []
