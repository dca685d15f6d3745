-- FETCH (RFC 9051, section 9; RFC 7162, section 7).
use Rattle.std.specs.Prelude.{Bool, true, false, cond, List, [], ◌∷◌, Option, Some, None}
use Rattle.imap_query.specs.declared.fetch.FetchItem.{FetchItem}
use Rattle.imap_query.specs.declared.fetch.FetchItem.TheVariants as item
use Rattle.imap_query.specs.declared.fetch_word.FetchWord.{FetchWord}
use Rattle.imap_query.specs.declared.fetch_word.FetchWord.TheVariants as word
use Rattle.imap_query.specs.declared.fetch_word.ModifierWord.{ModifierWord}
use Rattle.imap_query.specs.declared.fetch_word.ModifierWord.TheVariants as given
use Rattle.imap_query.specs.declared.fetch_word.Modifier.{Modifier}
use Rattle.imap_query.specs.declared.fetch_word.Modifier.TheVariants.{ChangedSince, Vanished}
use Rattle.imap_query.specs.declared.fetch_word.Modifiers.{Modifiers}
use Rattle.imap_query.specs.declared.fetch_word.TheConstants.{FETCH_WORDS, MODIFIER_WORDS}
use Rattle.imap_syntax.specs.Rule.{Rule, fail, give, ◌>>=◌, ◌>>◌, octet, flag, keyword, separated, judged}
use Rattle.imap_syntax.specs.Lexical.{is_astring_char, is_word_char, space, number}
use Rattle.imap_query.specs.FetchWords.{fetch_name, modifier_name}
use Rattle.imap_query.specs.Sections.{partial, body_section, section_binary}

abbrev pub body_behind : Bool → Rule FetchItem
body_behind false = give item.Unserved
body_behind true = body_section false

-- the part of an item after its word
abbrev pub item_behind : FetchWord → Rule FetchItem
item_behind word.All = fail
item_behind word.Binary = do section_binary; partial; give item.Unserved
item_behind word.BinaryPeek = do section_binary; partial; give item.Unserved
item_behind word.BinarySize = do section_binary; give item.Unserved
item_behind word.Body = do bracket ← flag 91; body_behind bracket
item_behind word.BodyPeek = do octet 91; body_section true
item_behind word.BodyStructure = give item.Unserved
item_behind word.Envelope = give item.Unserved
item_behind word.Fast = fail
item_behind word.Flags = give item.Flags
item_behind word.Full = fail
item_behind word.InternalDate = give item.InternalDate
item_behind word.ModSeq = give item.ModSeq
item_behind word.Rfc822Size = give item.Rfc822Size
item_behind word.Uid = give item.Uid

abbrev pub fetch_word : Rule FetchWord
fetch_word = keyword is_word_char fetch_name FETCH_WORDS

-- `fetch-att`
abbrev pub fetch_item : Rule FetchItem
fetch_item = do
  name ← fetch_word
  item_behind name

-- what FAST stands for
abbrev pub fast_items : List FetchItem
fast_items = item.Flags ∷ item.InternalDate ∷ item.Rfc822Size ∷ []

abbrev pub is_fast : FetchWord → Bool
is_fast word.Fast = true
is_fast _ = false

-- a macro with an item that isn't served
abbrev pub is_unserved : FetchWord → Bool
is_unserved word.All = true
is_unserved word.Full = true
is_unserved _ = false

abbrev pub one_item : FetchWord → Rule (List FetchItem)
one_item name = do
  found ← item_behind name
  give (found ∷ [])

-- one item, or a macro
abbrev pub single : FetchWord → Rule (List FetchItem)
single name =
    cond (is_fast name) (give fast_items)
    (cond (is_unserved name) (give (item.Unserved ∷ [])) (one_item name))

abbrev pub items_behind : Bool → Rule (List FetchItem)
items_behind true = do
  items ← separated 32 fetch_item
  octet 41
  give items
items_behind false = do
  name ← fetch_word
  single name

abbrev pub fetch_items : Rule (List FetchItem)
fetch_items = do
  parenthesis ← flag 40
  items_behind parenthesis

-- ---- modifiers (RFC 7162, sections 3.1.4.1 and 3.2.6)

abbrev pub modifier_behind : ModifierWord → Rule Modifier
modifier_behind given.ChangedSince = do space; since ← number 1 9223372036854775807; give (ChangedSince since)
modifier_behind given.Vanished = give Vanished

abbrev pub modifier : Rule Modifier
modifier = do
  name ← keyword is_astring_char modifier_name MODIFIER_WORDS
  modifier_behind name

abbrev pub one_modifier : Modifier → Modifiers
one_modifier (ChangedSince since) = record { changed_since = Some since; vanished = false }
one_modifier Vanished = record { changed_since = None; vanished = true }

-- each once
abbrev pub both_modifiers : Modifier → Modifier → Option Modifiers
both_modifiers (ChangedSince since) Vanished = Some (record { changed_since = Some since; vanished = true })
both_modifiers Vanished (ChangedSince since) = Some (record { changed_since = Some since; vanished = true })
both_modifiers _ _ = None

abbrev pub another_behind : Modifier → Bool → Rule Modifiers
another_behind first false = give (one_modifier first)
another_behind first true = do
  second ← modifier
  judged (both_modifiers first second)

abbrev pub another_modifier : Modifier → Rule Modifiers
another_modifier first = do
  more ← flag 32
  another_behind first more

abbrev pub modifiers_behind : Bool → Rule Modifiers
modifiers_behind false = give (record { changed_since = None; vanished = false })
modifiers_behind true = do
  octet 40
  first ← modifier
  all ← another_modifier first
  octet 41
  give all

abbrev pub modifiers : Rule Modifiers
modifiers = do
  more ← flag 32
  modifiers_behind more
