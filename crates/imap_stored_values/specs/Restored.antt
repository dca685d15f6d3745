-- Values that are read again from the rows of a store.
use Rattle.std.specs.Prelude.{◌≡◌, ◌≢◌, ℕ, ℤ, pos, true, List, [], ◌∷◌, Result, Ok, Err, string_bytes}
use Rattle.imap_mailbox.specs.declared.flags.SharedFlags.{SharedFlags}
use Rattle.imap_mailbox.specs.declared.message.GoneMessage.{GoneMessage}
use Rattle.imap_mailbox.specs.declared.message.Message.{Message}
use Rattle.imap_mailbox.specs.declared.parts.PartsError.{PartsError}
use Rattle.imap_mailbox.specs.declared.parts.PartsError.TheVariants.{Bad, Memory}
use Rattle.imap_mailbox.specs.UserChange.{UserChange}
use Rattle.imap_names.specs.Name.{Name, path_of}
use Rattle.imap_names.specs.Valid.{IsName}
use Rattle.imap_records.specs.Columns.{date_text, flag_bits, keywords_text, place_value, tree_text}
use Rattle.imap_records.specs.Values.{AreValues}
use Rattle.imap_rights.specs.Acl.{is_entry}
use Rattle.imap_rights.specs.Entries.{pair_of}
use Rattle.imap_rights.specs.declared.acl.Entry.{Entry}
use Rattle.imap_syntax.specs.Keywords.{AreAtoms, AreKeywords}
use Rattle.imap_tables.specs.declared.changes.MailboxKey.{MailboxKey}
use Rattle.imap_tables.specs.declared.changes.SeenFlagRow.{SeenFlagRow}
use Rattle.imap_tables.specs.declared.changes.MessageRow.{MessageRow}
use Rattle.imap_tables.specs.declared.stored.StoredEpoch.{StoredEpoch}
use Rattle.imap_tables.specs.declared.stored.StoredSubscription.{StoredSubscription}
use Rattle.imap_world.specs.Subscription.{Subscription}

-- The value is the one that is kept so, and is as its type keeps it; or no value is; or memory ran out.
abbrev pub Restores : {X : Type 0} → (IsKeptSo Fits : X → Type 0) → Result X PartsError → Type 0
Restores IsKeptSo Fits (Ok x) = IsKeptSo x × Fits x
Restores {X} IsKeptSo Fits (Err Bad) = (x : X) → Fits x → IsKeptSo x → ⊥
Restores IsKeptSo Fits (Err Memory) = Unit {0}

-- the name has this tree and path
abbrev pub HasKey : (tree path : List ℕ) → Name → Type 0
HasKey tree path name = (tree_text name ≡ tree) × (path_of name ≡ path)

abbrev pub HasKeyOf : MailboxKey → Name → Type 0
HasKeyOf key name = HasKey (string_bytes key.tree) (string_bytes key.path) name

abbrev pub HasWords : (text : List ℕ) → List (List ℕ) → Type 0
HasWords text words = keywords_text words ≡ text

abbrev pub HasFlags : (bits : ℕ) (text : List ℕ) → SharedFlags → Type 0
HasFlags bits text f = (flag_bits f ≡ bits) × (keywords_text f.keywords ≡ text)

abbrev pub AreFlags : SharedFlags → Type 0
AreFlags f = AreKeywords f.keywords

abbrev pub HasRights : (identifier : List ℕ) (rights : ℕ) → Entry → Type 0
HasRights identifier rights e = pair_of e ≡ (identifier, rights)

abbrev pub IsAnEntry : Entry → Type 0
IsAnEntry e = is_entry (pair_of e) ≡ true

-- the row is that of the message
pub record IsRowFor (row : MessageRow) (m : Message) : Type 0 where
  pub uid : m.uid ≡ row.uid
  pub date : date_text m.date ≡ string_bytes row.date
  pub octets : m.octets ≡ row.octets
  pub flags : HasFlags row.flags (string_bytes row.keywords) m.flags
  pub place : place_value m.place ≡ row.place

abbrev pub IsFit : Message → Type 0
IsFit m = AreValues m.date m.flags

abbrev pub IsGoneFor : (uid : ℕ) (place : ℤ) → GoneMessage → Type 0
IsGoneFor uid place g = (g.uid ≡ uid) × (place_value g.place ≡ place)

-- the row is that of the own change
pub record IsMarkFor (row : SeenFlagRow) (c : UserChange) : Type 0 where
  pub user : c.user ≡ string_bytes row.user
  pub place : place_value c.place ≡ row.own
  pub before : pos (c.change).before ≡ row.before
  pub uid : (c.change).uid ≡ row.uid
  pub seen : (c.change).seen ≡ row.seen

-- the keywords that have the text are these, if any have it
abbrev pub IsOnly : (text : List ℕ) → List (List ℕ) → Type 0
IsOnly text words =
    (others : List (List ℕ)) → others ≢ [] → AreKeywords others → keywords_text others ≡ text → others ≡ words

abbrev pub IsNone : (text : List ℕ) → Type 0
IsNone text = (others : List (List ℕ)) → others ≢ [] → AreKeywords others → keywords_text others ≡ text → ⊥

-- the text is of one word, if it is of words
abbrev pub IsLast : (text : List ℕ) → Type 0
IsLast text =
    (words : List (List ℕ)) → words ≢ [] → AreAtoms words → keywords_text words ≡ text → words ≡ text ∷ []

-- the text is of this word and others, which have that text, if it is of words
abbrev pub IsFront : (text word more : List ℕ) → Type 0
IsFront text word more =
    (words : List (List ℕ)) → words ≢ [] → AreAtoms words → keywords_text words ≡ text
    → (others : List (List ℕ)) × (words ≡ word ∷ others) × (others ≢ []) × (keywords_text others ≡ more)

-- the row is that of the greatest UIDVALIDITY under the name
abbrev pub IsEpochFor : StoredEpoch → Name × ℕ → Type 0
IsEpochFor row e = HasKeyOf row.key e.0 × IsName e.0 × (e.1 ≡ row.greatest)

-- the row is that of the subscription
abbrev pub IsSubscriptionFor : StoredSubscription → Subscription → Type 0
IsSubscriptionFor row s = HasKeyOf row.key s.name × IsName s.name × (s.user ≡ string_bytes row.user)
