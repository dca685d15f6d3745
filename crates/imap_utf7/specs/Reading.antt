-- Octets that are read one by one.
use Rattle.std.specs.Prelude.{◌≡◌, ℕ, List, ◌++◌, encode_utf8_all, string_bytes}
use Rattle.imap_utf7.specs.declared.decoding.Reading.{Reading}
use Rattle.imap_utf7.specs.Spelling.{read_after}

-- what is read once these octets and then no more have come
abbrev pub all_read : Reading → List ℕ → List ℕ
all_read r octets = string_bytes r.text ++ encode_utf8_all (read_after r.is_shifted r.section.items octets)

-- What more octets come to after `new`, that `front` and the same come to after `old`.
abbrev pub GoesOn : (front : List ℕ) → (old new : Reading) → Type 0
GoesOn front old new = (octets : List ℕ) → all_read new octets ≡ all_read old (front ++ octets)
