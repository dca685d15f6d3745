use Rattle.std.proofs.Common.{◌≡◌, ◌++◌, ℕ, List, encode_utf8_all, string_bytes}
use Rattle.imap_maildir_names.specs.Levels.{written}
use Rattle.imap_maildir_names.proofs.levels.push_written.Given as goal

abbrev pub invariant-loop-char : goal.invariant-loop-char
invariant-loop-char l =
    (text : List ℕ) → string_bytes l.text ++ encode_utf8_all (written l.is_first text)
    ≡ string_bytes l.fn.text ++ encode_utf8_all (written l.fn.is_marked (l.yielded ++ text))
