use Rattle.std.proofs.Common.{◌≡◌, ◌++◌, ℕ, List, encode_utf8_all, string_bytes}
use Rattle.imap_maildir_names.specs.Levels.{pieces}
use Rattle.imap_maildir_names.proofs.levels.push_split.Given as goal

abbrev pub invariant-loop-char : goal.invariant-loop-char
invariant-loop-char l =
    (text : List ℕ) → string_bytes l.path ++ encode_utf8_all (pieces l.used text)
    ≡ string_bytes l.fn.path ++ encode_utf8_all (pieces 0 (l.yielded ++ text))
