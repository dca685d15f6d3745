-- What row changes write where messages stand in three tables.
use Rattle.std.specs.Prelude.{◌≡◌, ℕ, ℤ, List, [], ◌∷◌, map, string_bytes}
use Rattle.std.specs.List.{AllByRecursion}
use Rattle.sqlite.specs.Tree.{Trees}
use Rattle.imap_message_tables.specs.Parts.{CutWord, MakesParts, PutWord, parts_removed, words_but}
use Rattle.imap_message_tables.specs.Split.{AreWords, IsSpaceless, MakesSplit, words_text}
use Rattle.imap_tables.specs.Changes.{Makes, MakesAll, MakesBelow, Then}
use Rattle.imap_tables.specs.Edits.{Adds, AreKeywordsOf, HasHead, IsIdOf, IsMessageOf, Replaces, flagged_head}
use Rattle.imap_tables.specs.Rows.{body_row, message2_row}
use Rattle.imap_tables.specs.Tables.{body_tree, message2_tree}
use Rattle.imap_tables.specs.declared.changes.ChangeBelow.{ChangeBelow}
use Rattle.imap_tables.specs.declared.changes.ChangeBelow.TheVariants as below
use Rattle.imap_tables.specs.declared.changes.FlagsRow.{FlagsRow}
use Rattle.imap_tables.specs.declared.changes.MailboxKey.{MailboxKey}
use Rattle.imap_tables.specs.declared.changes.MessageRow.{MessageRow}
use Rattle.imap_tables.specs.declared.changes.RowChange.{RowChange}
use Rattle.imap_tables.specs.declared.changes.RowChange.TheVariants as change

-- these are the pieces of the text between its spaces, and an empty text has none
pub record ArePieces (text : List ℕ) (pieces : List (List ℕ)) : Type 0 where
  pub joined : words_text pieces ≡ text
  pub spaceless : AllByRecursion IsSpaceless pieces
  pub none : text ≡ [] → pieces ≡ []

-- these are the keywords of the text
pub record AreWordsIn (text : List ℕ) (words : List (List ℕ)) : Type 0 where
  pub are : AreWords words
  pub joined : words_text words ≡ text

-- the row in `message2` is added, under a UID that was free
pub record AddsHead (mailbox : ℤ) (m : MessageRow) (old new : Trees) : Type 0 where
  pub free : HasHead old mailbox m.uid → ⊥
  pub adds : Adds old new message2_tree (message2_row mailbox m.uid (string_bytes m.date) m.flags m.place)

abbrev pub AddsBody : (mailbox : ℤ) → MessageRow → (old new : Trees) → Type 0
AddsBody mailbox m old new = Adds old new body_tree (body_row mailbox m.uid m.octets)

-- rows of these keywords are added, or go
abbrev pub AddsWords : (mailbox : ℤ) (uid : ℕ) (words : List (List ℕ)) → (old new : Trees) → Type 0
AddsWords mailbox uid words = MakesParts mailbox uid (map PutWord words)

abbrev pub CutsWords : (mailbox : ℤ) (uid : ℕ) (words : List (List ℕ)) → (old new : Trees) → Type 0
CutsWords mailbox uid words = MakesParts mailbox uid (map CutWord words)

-- the rows of a message are added
abbrev pub AddsMessage : (mailbox : ℤ) → MessageRow → (words : List (List ℕ)) → (old new : Trees) → Type 0
AddsMessage mailbox m words =
    Then (AddsHead mailbox m) (Then (AddsBody mailbox m) (AddsWords mailbox m.uid words))

-- only the keywords that differ are written
abbrev pub ChangesWords : (mailbox : ℤ) (uid : ℕ) (before words : List (List ℕ)) → (old new : Trees) → Type 0
ChangesWords mailbox uid before words =
    Then (CutsWords mailbox uid (words_but before words)) (AddsWords mailbox uid (words_but words before))

abbrev pub FlagsHead : (mailbox : ℤ) → FlagsRow → (old new : Trees) → Type 0
FlagsHead mailbox m old new =
    Replaces old new message2_tree (IsMessageOf mailbox m.uid) (flagged_head m.flags m.place)

-- a message that had the keywords `before` gets flags
abbrev pub FlagsMessage : (mailbox : ℤ) → FlagsRow → (before words : List (List ℕ))
    → (old new : Trees) → Type 0
FlagsMessage mailbox m before words =
    Then (FlagsHead mailbox m) (ChangesWords mailbox m.uid before words)

-- the message is there, and these are its keywords
pub record IsThere (db : Trees) (mailbox : ℤ) (uid : ℕ) (words : List (List ℕ)) : Type 0 where
  pub head : HasHead db mailbox uid
  pub keywords : AreKeywordsOf db mailbox uid words
  pub are : AreWords words

-- ---- below the mailbox with this id

abbrev pub WritesBelow : (mailbox : ℤ) → ChangeBelow → (old new : Trees) → Type 0
WritesBelow mailbox (below.AddMessage m) old new =
    (words : List (List ℕ)) × AreWordsIn (string_bytes m.keywords) words × AddsMessage mailbox m words old new
WritesBelow mailbox (below.FlagMessage m) old new =
    (before words : List (List ℕ)) × IsThere old mailbox m.uid before
    × AreWordsIn (string_bytes m.keywords) words × FlagsMessage mailbox m before words old new
WritesBelow mailbox (below.RemoveMessage uid) old new = MakesParts mailbox uid parts_removed old new
WritesBelow mailbox change old new = MakesBelow mailbox change old new

abbrev pub WritesAllBelow : (mailbox : ℤ) → List ChangeBelow → (old new : Trees) → Type 0
WritesAllBelow mailbox [] old new = new ≡ old
WritesAllBelow mailbox (c ∷ changes) old new =
    (mid : Trees) × WritesBelow mailbox c old mid × WritesAllBelow mailbox changes mid new

-- ---- in all tables

abbrev pub WritesUnder : MailboxKey → List ChangeBelow → (old new : Trees) → Type 0
WritesUnder key changes old new =
    (mailbox : ℤ) × IsIdOf old (string_bytes key.tree) (string_bytes key.path) mailbox
    × WritesAllBelow mailbox changes old new

abbrev pub Writes : RowChange → (old new : Trees) → Type 0
Writes (change.Below key changes) old new = WritesUnder key changes.items old new
Writes c old new = Makes c old new

abbrev pub WritesAll : List RowChange → (old new : Trees) → Type 0
WritesAll [] old new = new ≡ old
WritesAll (c ∷ changes) old new = (mid : Trees) × Writes c old mid × WritesAll changes mid new

-- Tables that fit one table of messages fit, once the changes are written, the table in which they are made.
abbrev pub WritingFits : Type 0
WritingFits =
    (rows : List RowChange) (old new : Trees) → WritesAll rows old new → MakesSplit (MakesAll rows) old new
