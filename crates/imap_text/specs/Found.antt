-- What is split from the front of octets.
use Rattle.std.specs.Prelude.{◌≡◌, ◌<◌, ◌+◌, ℕ, true, List, [], ◌∷◌, ◌++◌, length, drop, take_while}
use Rattle.std.specs.List.{concat, position_or_len}
use Rattle.imap_text.specs.Lines.{lines}
use Rattle.imap_text.specs.Sections.{sections}
use Rattle.imap_text.specs.Fields.{is_continuation, is_colon, is_named, fields_among, header_fields}

-- the first line, and what follows it
pub record IsFirstLine (octets line later : List ℕ) : Type 0 where
  pub whole : octets ≡ line ++ later
  pub some : 0 < length line
  pub lines : lines octets ≡ line ∷ lines later

-- the continuation lines at the front of a header's octets
abbrev pub continuations : List ℕ → List (List ℕ)
continuations octets = take_while is_continuation (sections octets).field_lines

-- what follows the continuation lines at the front
pub record IsAfterContinuations (octets after : List ℕ) : Type 0 where
  pub whole : octets ≡ concat (continuations octets) ++ after
  pub fields : fields_among (sections octets).field_lines ≡ header_fields after
  pub end : (sections octets).end ≡ (sections after).end

-- the first field with its first line, and what follows it
pub record IsFirstField (octets line field after : List ℕ) : Type 0 where
  pub whole : octets ≡ field ++ after
  pub some : 0 < length field
  pub continuations : List (List ℕ)
  pub lines : field ≡ line ++ concat continuations
  pub fields :
      header_fields octets ≡ record { first = line; continuations = continuations } ∷ header_fields after
  pub end : (sections octets).end ≡ (sections after).end

-- the text of a field with this first line and these octets, which has the name
pub record IsTextNamed (name line field text : List ℕ) : Type 0 where
  pub named : is_named (name ∷ []) line ≡ true
  pub is : text ≡ drop (position_or_len is_colon line + 1) field
