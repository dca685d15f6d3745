-- What is taken from the ends of rows that are laid in order, the last first.
use Rattle.std.specs.Prelude.{◌≡◌, ◌≢◌, false, Bool, List, [], ◌∷◌, map, string_bytes}
use Rattle.std.specs.Ordering.{is_eq}
use Rattle.sqlite_rules.specs.Lists.{Has}
use Rattle.imap_message_tables.specs.Joining.{AreWordsOf, Fit, Key, body_key, head_key, is_at, key_cmp, texts}
use Rattle.imap_message_tables.specs.Up.{own_of, rest_of}
use Rattle.imap_tables.specs.declared.message_rows.StoredBody.{StoredBody}
use Rattle.imap_tables.specs.declared.message_rows.StoredHead.{StoredHead}
use Rattle.imap_message_tables.specs.declared.joined.JoinedMessage.{JoinedMessage}
use Rattle.imap_tables.specs.declared.message_rows.StoredKeyword.{StoredKeyword}

-- the first word is of the key
abbrev pub is_first : Key → List StoredKeyword → Bool
is_first k [] = false
is_first k (w ∷ ws) = is_at k w

-- this message is made of the head, the body and the words
pub record IsMade (h : StoredHead) (b : StoredBody) (own : List StoredKeyword)
    (m : JoinedMessage) : Type 0 where
  pub at : body_key b ≡ head_key h
  pub head : m.head ≡ h
  pub octets : m.octets ≡ b.octets
  pub words : AreWordsOf (texts own) (map string_bytes m.words.items)

-- the message is made of the head and of what stands first
pub record IsTaken (h : StoredHead) (bs bodies : List StoredBody) (ws words : List StoredKeyword)
    (m : JoinedMessage) : Type 0 where
  pub body : StoredBody
  pub bodies_are : bs ≡ body ∷ bodies
  pub words_are : words ≡ rest_of (head_key h) ws
  pub made : IsMade h body (own_of (head_key h) ws) m

-- what is first of these rows fits nowhere
abbrev pub FitsNowhere : (h : StoredHead) → List StoredHead → List StoredBody → List StoredKeyword → Type 0
FitsNowhere h hs bs ws = Fit (h ∷ hs) bs ws → ⊥

-- ---- side by side

pub record IsNext (Then : List StoredBody → List StoredKeyword → List JoinedMessage → Type 0)
    (h : StoredHead) (hs : List StoredHead) (bs : List StoredBody) (ws : List StoredKeyword)
    (ms : List JoinedMessage) : Type 0 where
  pub apart : (g : StoredHead) → Has hs g → head_key g ≢ head_key h
  pub body : StoredBody
  pub bodies : List StoredBody
  pub bodies_are : bs ≡ body ∷ bodies
  pub message : JoinedMessage
  pub messages : List JoinedMessage
  pub messages_are : ms ≡ message ∷ messages
  pub made : IsMade h body (own_of (head_key h) ws) message
  pub more : Then bodies (rest_of (head_key h) ws) messages

abbrev pub Zips : List StoredHead → List StoredBody → List StoredKeyword → List JoinedMessage → Type 0
Zips [] bs ws ms = (bs ≡ []) × (ws ≡ []) × (ms ≡ [])
Zips (h ∷ hs) bs ws ms = IsNext (Zips hs) h hs bs ws ms

-- the first head has the key
abbrev pub is_first_head : Key → List StoredHead → Bool
is_first_head k [] = false
is_first_head k (h ∷ hs) = is_eq (key_cmp (head_key h) k)
