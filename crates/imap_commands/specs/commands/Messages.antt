-- Commands on messages (RFC 9051, section 6.4; RFC 7162, section 7).
use Rattle.std.specs.Prelude.{ℕ, Bool, true, ◌&&◌, List, [], ◌∷◌, ◌++◌, Option}
use Rattle.imap_commands.specs.declared.command.Command.{Command}
use Rattle.imap_commands.specs.declared.command.Command.TheVariants as command
use Rattle.imap_commands.specs.declared.commands.store.StoreSpec.{StoreSpec}
use Rattle.imap_commands.specs.declared.verb.UidVerb.{UidVerb}
use Rattle.imap_commands.specs.declared.verb.UidVerb.TheVariants as uid
use Rattle.imap_commands.specs.declared.verb.TheConstants.{UID_VERBS}
use Rattle.imap_query.specs.declared.fetch.FetchItem.{FetchItem}
use Rattle.imap_query.specs.declared.search.SearchReturn.{SearchReturn}
use Rattle.imap_syntax.specs.declared.set.MessageSet.{MessageSet}
use Rattle.imap_syntax.specs.declared.set.Numbering.{Numbering}
use Rattle.imap_syntax.specs.declared.set.Numbering.TheVariants.{Uid}
use Rattle.imap_syntax.specs.Rule.{Rule, give, ◌>>=◌, ◌>>◌, keyword}
use Rattle.imap_syntax.specs.Lexical.{is_astring_char, space}
use Rattle.imap_syntax.specs.Sets.{message_set}
use Rattle.imap_syntax.specs.Written as written
use Rattle.imap_query.specs.Fetch.{fetch_items, modifiers}
use Rattle.imap_query.specs.Keys.{Token}
use Rattle.imap_query.specs.Searching as query
use Rattle.imap_query.specs.WrittenFetch as written_fetch
use Rattle.imap_query.specs.WrittenFetch.{changed_fits, modifiers_text}
use Rattle.imap_query.specs.WrittenSearch.{search_keys, returns_text, charset_fits, charset_text}
use Rattle.imap_commands.specs.Verb.{uid_verb_name, uid_text}
use Rattle.imap_commands.specs.commands.Argument.{argument, argument_text}
use Rattle.imap_commands.specs.commands.Store.{store_spec, store_spec_writing}

-- ---- as they are read

abbrev pub copy : Numbering → Rule Command
copy numbering = do
  space
  messages ← message_set
  mailbox ← argument
  give (command.Copy numbering messages mailbox)

abbrev pub move : Numbering → Rule Command
move numbering = do
  space
  messages ← message_set
  mailbox ← argument
  give (command.Move numbering messages mailbox)

abbrev pub uid_expunge : Rule Command
uid_expunge = do
  space
  messages ← message_set
  give (command.UidExpunge messages)

abbrev pub store : Numbering → Rule Command
store numbering = do
  space
  messages ← message_set
  space
  spec ← store_spec
  give (command.Store numbering messages spec)

abbrev pub fetch : Numbering → Rule Command
fetch numbering = do
  space
  messages ← message_set
  space
  items ← fetch_items
  all ← modifiers
  give (command.Fetch numbering messages items all.changed_since all.vanished)

abbrev pub search : Numbering → Rule Command
search numbering = query.search (command.Search numbering)

-- the arguments after UID and a word
abbrev pub uid_arguments : UidVerb → Rule Command
uid_arguments uid.Copy = copy Uid
uid_arguments uid.Expunge = uid_expunge
uid_arguments uid.Fetch = fetch Uid
uid_arguments uid.Move = move Uid
uid_arguments uid.Search = search Uid
uid_arguments uid.Store = store Uid

abbrev pub uid_command : Rule Command
uid_command = do
  space
  word ← keyword is_astring_char uid_verb_name UID_VERBS
  uid_arguments word

-- ---- as they are written

abbrev pub fetch_fits : MessageSet → List FetchItem → Option ℕ → Bool
fetch_fits messages items changed_since =
    written.message_set.fits messages && (written_fetch.fetch_items.fits items && changed_fits changed_since)

abbrev pub fetch_text : MessageSet → List FetchItem → Option ℕ → Bool → List ℕ
fetch_text messages items changed_since vanished =
    32 ∷ (written.message_set.text messages
    ++ (32 ∷ (written_fetch.fetch_items.text items ++ modifiers_text changed_since vanished)))

abbrev pub search_text : List SearchReturn → Option (List ℕ) → List Token → List ℕ
search_text returns charset tokens =
    32 ∷ (returns_text returns ++ (charset_text charset ++ search_keys.text tokens))

abbrev pub copy_text : MessageSet → List ℕ → List ℕ
copy_text messages mailbox = 32 ∷ written.message_set.text messages ++ argument_text mailbox

abbrev pub store_text : MessageSet → StoreSpec → List ℕ
store_text messages spec = 32 ∷ (written.message_set.text messages ++ (32 ∷ store_spec_writing.text spec))

-- whether the arguments of a command on messages can be written
abbrev pub messages_fit : Command → Bool
messages_fit (command.UidExpunge messages) = written.message_set.fits messages
messages_fit (command.Search numbering returns charset tokens) =
    charset_fits charset && search_keys.fits tokens
messages_fit (command.Fetch numbering messages items changed_since vanished) =
    fetch_fits messages items changed_since
messages_fit (command.Store numbering messages spec) =
    written.message_set.fits messages && store_spec_writing.fits spec
messages_fit (command.Copy numbering messages mailbox) =
    written.message_set.fits messages && written.string.fits mailbox
messages_fit (command.Move numbering messages mailbox) =
    written.message_set.fits messages && written.string.fits mailbox
messages_fit _ = true

-- the arguments of a command on messages
abbrev pub messages_text : Command → List ℕ
messages_text (command.Fetch numbering messages items changed_since vanished) =
    uid_text numbering uid.Fetch ++ fetch_text messages items changed_since vanished
messages_text (command.Search numbering returns charset tokens) =
    uid_text numbering uid.Search ++ search_text returns charset tokens
messages_text (command.UidExpunge messages) =
    uid_text Uid uid.Expunge ++ 32 ∷ written.message_set.text messages
messages_text (command.Store numbering messages spec) =
    uid_text numbering uid.Store ++ store_text messages spec
messages_text (command.Copy numbering messages mailbox) =
    uid_text numbering uid.Copy ++ copy_text messages mailbox
messages_text (command.Move numbering messages mailbox) =
    uid_text numbering uid.Move ++ copy_text messages mailbox
messages_text _ = []
