-- The flags that all users share (RFC 9051, section 2.3.2).
use Rattle.std.specs.Prelude.{ℕ, nat_lt, ◌≤◌, Bool, true, false, ◌||◌, [], length}
use Rattle.imap_syntax.specs.declared.flag.Flag.{Flag}
use Rattle.imap_syntax.specs.declared.flag.Flag.TheVariants as flag
use Rattle.imap_mailbox.specs.declared.flags.SharedFlags.{SharedFlags}
use Rattle.imap_syntax.specs.Keywords.{with_word, without_word, with_words}

abbrev pub no_flags : SharedFlags
no_flags = record { answered = false; deleted = false; draft = false; flagged = false; keywords = [] }

-- the most keywords of a message
abbrev pub max_keywords : ℕ
max_keywords = 32

abbrev pub HasFewKeywords : SharedFlags → Type 0
HasFewKeywords f = length f.keywords ≤ max_keywords

abbrev pub has_too_many : SharedFlags → Bool
has_too_many f = nat_lt max_keywords (length f.keywords)

-- \Seen is each user's own, and other flags with a backslash are not kept
abbrev pub with_flag : Flag → SharedFlags → SharedFlags
with_flag flag.Answered f = record f { answered = true }
with_flag flag.Deleted f = record f { deleted = true }
with_flag flag.Draft f = record f { draft = true }
with_flag flag.Flagged f = record f { flagged = true }
with_flag flag.Seen f = f
with_flag (flag.Other word) f = f
with_flag (flag.Keyword word) f = record f { keywords = with_word word f.keywords }

abbrev pub without_flag : Flag → SharedFlags → SharedFlags
without_flag flag.Answered f = record f { answered = false }
without_flag flag.Deleted f = record f { deleted = false }
without_flag flag.Draft f = record f { draft = false }
without_flag flag.Flagged f = record f { flagged = false }
without_flag flag.Seen f = f
without_flag (flag.Other word) f = f
without_flag (flag.Keyword word) f = record f { keywords = without_word word f.keywords }

-- with all flags of another set
abbrev pub with_flags_of : (others f : SharedFlags) → SharedFlags
with_flags_of others f = record {
  answered = f.answered || others.answered;
  deleted = f.deleted || others.deleted;
  draft = f.draft || others.draft;
  flagged = f.flagged || others.flagged;
  keywords = with_words others.keywords f.keywords;
}
