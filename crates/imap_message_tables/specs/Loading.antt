-- The rows that are read of the three tables, and the one table that fits them.
use Rattle.std.specs.Prelude.{◌≡◌, ◌≢◌, List, [], ◌∷◌, map, string_bytes}
use Rattle.sqlite.specs.Order.{Row}
use Rattle.sqlite.specs.Tree.{Trees}
use Rattle.sqlite_rules.specs.Lists.{Has}
use Rattle.imap_message_tables.specs.Joining.{AreJoined, Fit}
use Rattle.imap_tables.specs.Rows.{body_row, keyword_row, message2_row, message_row}
use Rattle.imap_message_tables.specs.Split.{AreKeyed, IsSplit, words_text}
use Rattle.imap_tables.specs.declared.message_rows.StoredBody.{StoredBody}
use Rattle.imap_tables.specs.declared.message_rows.StoredHead.{StoredHead}
use Rattle.imap_message_tables.specs.declared.joined.JoinedMessage.{JoinedMessage}
use Rattle.imap_tables.specs.declared.message_rows.StoredKeyword.{StoredKeyword}

abbrev pub row_of_head : StoredHead → Row
row_of_head h = message2_row h.mailbox h.uid (string_bytes h.date) h.flags h.place h.rowid

abbrev pub row_of_body : StoredBody → Row
row_of_body b = body_row b.mailbox b.uid b.octets b.rowid

abbrev pub row_of_word : StoredKeyword → Row
row_of_word w = keyword_row w.mailbox w.uid (string_bytes w.word) w.rowid

-- as the row of one table
abbrev pub row_of_message : JoinedMessage → Row
row_of_message m =
    message_row m.head.mailbox m.head.uid (string_bytes m.head.date) m.octets m.head.flags
    (words_text (map string_bytes m.words.items)) m.head.place m.head.rowid

-- the items are read of all rows, and no two of one row
pub record AreReadOf {X : Type 0} (row_of : X → Row) (rows : List Row) (items : List X) : Type 0 where
  pub sound : (row : Row) → Has rows row → (x : X) × Has items x × (row ≡ row_of x)
  pub complete : (x : X) → Has items x → Has rows (row_of x)

-- no two items have one row
abbrev pub AreRowsApart : {X : Type 0} → (X → Row) → List X → Type 0
AreRowsApart row_of [] = Unit {0}
AreRowsApart {X} row_of (x ∷ xs) = ((y : X) → Has xs y → row_of y ≢ row_of x) × AreRowsApart row_of xs

module _ (db : Trees) (hs : List StoredHead) (bs : List StoredBody) (ws : List StoredKeyword) where
  pub record AreRead : Type 0 where
    pub heads : AreReadOf row_of_head (db 16) hs
    pub bodies : AreReadOf row_of_body (db 18) bs
    pub words : AreReadOf row_of_word (db 20) ws
    pub heads_apart : AreRowsApart row_of_head hs
    pub bodies_apart : AreRowsApart row_of_body bs
    pub words_apart : AreRowsApart row_of_word ws

-- a database that some table fits has rows that fit
abbrev pub FittingIsRead : Type 0
FittingIsRead =
    (db one : Trees) (heads : List StoredHead) (bodies : List StoredBody) (words : List StoredKeyword)
    → AreRead db heads bodies words → IsSplit db one → Fit heads bodies words

-- rows that fit are those of a table that fits, and it has the joined messages
abbrev pub ReadFits : Type 0
ReadFits =
    (db : Trees) (heads : List StoredHead) (bodies : List StoredBody) (words : List StoredKeyword)
    (messages : List JoinedMessage)
    → AreRead db heads bodies words → db 4 ≡ [] → AreKeyed db
    → Fit heads bodies words → AreJoined heads bodies words messages
    → (one : Trees) × IsSplit db one × (one 4 ≡ map row_of_message messages)
