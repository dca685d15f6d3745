-- The rows of three tables, as they are read, and the messages that they are.
use Rattle.std.specs.Prelude.{◌≡◌, ◌≢◌, ℕ, ℤ, Bool, List, [], ◌∷◌, filter, map, string_bytes}
use Rattle.std.specs.List.{AllZip}
use Rattle.std.specs.List.Sorted.{IsPermutation}
use Rattle.std.specs.Ordering.{int_cmp, is_eq, nat_cmp, on, then_cmp}
use Rattle.std.specs.declared.cmp.Ordering.{Ordering}
use Rattle.sqlite_rules.specs.Lists.{Has}
use Rattle.imap_message_tables.specs.Split.{AreWords}
use Rattle.imap_tables.specs.declared.message_rows.StoredBody.{StoredBody}
use Rattle.imap_tables.specs.declared.message_rows.StoredHead.{StoredHead}
use Rattle.imap_message_tables.specs.declared.joined.JoinedMessage.{JoinedMessage}
use Rattle.imap_tables.specs.declared.message_rows.StoredKeyword.{StoredKeyword}

-- a mailbox and a UID
abbrev pub Key : Type 0
Key = ℤ × ℕ

abbrev pub key_cmp : Key → Key → Ordering
key_cmp = then_cmp (on (λ k. k.0) int_cmp) (on (λ k. k.1) nat_cmp)

abbrev pub head_key : StoredHead → Key
head_key h = (h.mailbox, h.uid)

abbrev pub body_key : StoredBody → Key
body_key b = (b.mailbox, b.uid)

abbrev pub word_key : StoredKeyword → Key
word_key w = (w.mailbox, w.uid)

abbrev pub is_at : Key → StoredKeyword → Bool
is_at k w = is_eq (key_cmp (word_key w) k)

-- no two have one key
abbrev pub AreApart : {X : Type 0} → (X → Key) → List X → Type 0
AreApart key [] = Unit {0}
AreApart {X} key (x ∷ xs) = ((y : X) → Has xs y → key y ≢ key x) × AreApart key xs

abbrev pub texts : List StoredKeyword → List (List ℕ)
texts words = map (λ w. string_bytes w.word) words

-- in some order these are the words of a message
pub record AreWordsOf (own : List (List ℕ)) (words : List (List ℕ)) : Type 0 where
  pub are : AreWords words
  pub same : IsPermutation own words

module _ (heads : List StoredHead) (bodies : List StoredBody) (words : List StoredKeyword) where
  -- the rows of the key, as texts
  abbrev pub own_texts : Key → List (List ℕ)
  own_texts key = texts (filter (is_at key) words)

  -- each message has a body and proper words; nothing is left over and nothing stands twice
  pub record Fit : Type 0 where
    pub heads_apart : AreApart head_key heads
    pub bodies_apart : AreApart body_key bodies
    pub has_body : (h : StoredHead) → Has heads h
        → (b : StoredBody) × Has bodies b × (body_key b ≡ head_key h)
    pub has_head : (b : StoredBody) → Has bodies b
        → (h : StoredHead) × Has heads h × (head_key h ≡ body_key b)
    pub has_owner : (w : StoredKeyword) → Has words w
        → (h : StoredHead) × Has heads h × (head_key h ≡ word_key w)
    pub has_words : (h : StoredHead) → Has heads h
        → (own : List (List ℕ)) × AreWordsOf (own_texts (head_key h)) own

  pub record IsMessageOf (h : StoredHead) (m : JoinedMessage) : Type 0 where
    pub head : m.head ≡ h
    pub body : StoredBody
    pub there : Has bodies body
    pub at : body_key body ≡ head_key h
    pub octets : m.octets ≡ body.octets
    pub own : AreWordsOf (own_texts (head_key h)) (map string_bytes m.words.items)

  -- a message for each of the heads, in some order
  pub record AreJoined (messages : List JoinedMessage) : Type 0 where
    pub order : List StoredHead
    pub same : IsPermutation heads order
    pub each : AllZip IsMessageOf order messages
