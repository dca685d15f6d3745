-- A text that is written character by character.
use Rattle.std.specs.Prelude.{◌≡◌, ℕ, List, ◌++◌, string_bytes}
use Rattle.imap_utf7.specs.declared.encoding.Writing.{Writing}
use Rattle.imap_utf7.specs.Spelling.{encoded_after}

-- what is written once these characters and then no more have come
abbrev pub all_written : Writing → List ℕ → List ℕ
all_written w text = string_bytes w.out ++ encoded_after w.run.items text

-- What more characters come to after `new`, that `chars` and the same come to after `old`.
abbrev pub GoesOn : (chars : List ℕ) → (old new : Writing) → Type 0
GoesOn chars old new = (text : List ℕ) → all_written new text ≡ all_written old (chars ++ text)
