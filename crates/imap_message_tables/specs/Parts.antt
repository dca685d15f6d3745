-- The row changes of three tables that stand for one change of the one table.
use Rattle.std.specs.Prelude.{◌≡◌, ◌++◌, ℕ, ℤ, Bool, not, List, [], ◌∷◌, filter, map}
use Rattle.std.specs.List.{list_any}
use Rattle.std.specs.Prelude.{bytes_eq}
use Rattle.sqlite.specs.Tree.{Trees}
use Rattle.imap_tables.specs.Edits.{Adds, IsKeywordOf, IsMessageOf, Removes, Replaces}
use Rattle.imap_tables.specs.Edits.{flagged_head, flagged_row}
use Rattle.imap_tables.specs.Rows.{body_row, keyword_row, message2_row, message_row}
use Rattle.imap_message_tables.specs.Split.{words_text}
use Rattle.imap_tables.specs.Tables.{body_tree, keyword_tree, message2_tree, message_tree}

-- one statement
pub data Part : Type 0 where
  PutHead : (date : List ℕ) (flags : ℕ) (place : ℤ) → Part
  PutBody : (octets : List ℕ) → Part
  PutWord : (word : List ℕ) → Part
  FlagHead : (flags : ℕ) (place : ℤ) → Part
  CutWord : (word : List ℕ) → Part
  CutHead : Part
  CutBody : Part
  CutWords : Part

module _ (mailbox : ℤ) (uid : ℕ) where
  abbrev pub MakesPart : Part → (old new : Trees) → Type 0
  MakesPart (PutHead date flags place) old new =
      Adds old new message2_tree (message2_row mailbox uid date flags place)
  MakesPart (PutBody octets) old new = Adds old new body_tree (body_row mailbox uid octets)
  MakesPart (PutWord word) old new = Adds old new keyword_tree (keyword_row mailbox uid word)
  MakesPart (FlagHead flags place) old new =
      Replaces old new message2_tree (IsMessageOf mailbox uid) (flagged_head flags place)
  MakesPart (CutWord word) old new = Removes old new keyword_tree (IsKeywordOf mailbox uid word)
  MakesPart CutHead old new = Removes old new message2_tree (IsMessageOf mailbox uid)
  MakesPart CutBody old new = Removes old new body_tree (IsMessageOf mailbox uid)
  MakesPart CutWords old new = Removes old new keyword_tree (IsMessageOf mailbox uid)

  abbrev pub MakesParts : List Part → (old new : Trees) → Type 0
  MakesParts [] old new = new ≡ old
  MakesParts (p ∷ parts) old new = (mid : Trees) × MakesPart p old mid × MakesParts parts mid new

  -- what the one table sees
  abbrev pub AddsOne : (date octets : List ℕ) (flags : ℕ) (words : List (List ℕ)) (place : ℤ)
      → (old new : Trees) → Type 0
  AddsOne date octets flags words place old new =
      Adds old new message_tree (message_row mailbox uid date octets flags (words_text words) place)

  abbrev pub FlagsOne : (flags : ℕ) (words : List (List ℕ)) (place : ℤ) → (old new : Trees) → Type 0
  FlagsOne flags words place old new =
      Replaces old new message_tree (IsMessageOf mailbox uid) (flagged_row flags (words_text words) place)

  abbrev pub RemovesOne : (old new : Trees) → Type 0
  RemovesOne old new = Removes old new message_tree (IsMessageOf mailbox uid)

-- ---- the statements of each change

abbrev pub is_among : List (List ℕ) → List ℕ → Bool
is_among words word = list_any (bytes_eq word) words

-- the words of the first list that the second has not
abbrev pub words_but : List (List ℕ) → List (List ℕ) → List (List ℕ)
words_but words others = filter (λ word. not (is_among others word)) words

abbrev pub parts_added : (date octets : List ℕ) (flags : ℕ) (words : List (List ℕ)) (place : ℤ) → List Part
parts_added date octets flags words place =
    PutHead date flags place ∷ PutBody octets ∷ map PutWord words

-- only the words that differ are written
abbrev pub parts_flagged : (before : List (List ℕ)) (flags : ℕ) (words : List (List ℕ)) (place : ℤ)
    → List Part
parts_flagged before flags words place =
    FlagHead flags place
    ∷ (map CutWord (words_but before words) ++ map PutWord (words_but words before))

abbrev pub parts_removed : List Part
parts_removed = CutHead ∷ CutBody ∷ CutWords ∷ []
