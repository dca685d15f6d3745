-- Commands are written as they are spelt.
use Rattle.std.proofs.Common.{◌≡◌, ℕ, Bool, true, false, ◌&&◌, List, [], ◌∷◌, ◌++◌, codes, Option, Some, None, refl, sym, ◌∙◌}
use Rattle.std.specs.Fmt.{decimal as decimal_text}
use Rattle.std.specs.List.{list_all}
use Rattle.std.proofs.lemmas.List.{append-nil}
use Rattle.imap_commands.specs.declared.command.Command.{Command}
use Rattle.imap_commands.specs.declared.command.Command.TheVariants as command
use Rattle.imap_syntax.specs.declared.flag.Flag.{Flag}
use Rattle.imap_query.specs.declared.fetch.FetchItem.{FetchItem}
use Rattle.imap_query.specs.declared.fetch_word.Modifiers.{Modifiers}
use Rattle.imap_query.specs.declared.search.SearchReturn.{SearchReturn}
use Rattle.imap_commands.specs.declared.commands.select.SelectParameters.{SelectParameters}
use Rattle.imap_query.specs.Keys.{Token}
use Rattle.imap_syntax.specs.declared.set.MessageSet.{MessageSet}
use Rattle.imap_syntax.specs.declared.set.Numbering.{Numbering}
use Rattle.imap_syntax.specs.declared.set.Numbering.TheVariants.{Sequence, Uid}
use Rattle.imap_query.specs.declared.status.StatusItem.{StatusItem}
use Rattle.imap_query.proofs.WrittenStatus.{status_item_writes}
use Rattle.imap_query.specs.Status.{status_item}
use Rattle.imap_commands.specs.declared.commands.store.StoreChange.{StoreChange}
use Rattle.imap_commands.specs.declared.commands.store.StoreChange.TheVariants as change
use Rattle.imap_commands.specs.declared.commands.store.Condition.TheVariants.{UnchangedSince}
use Rattle.imap_commands.specs.declared.commands.store.TheConstants.{STORE_WORDS}
use Rattle.imap_commands.specs.declared.verb.Verb.{Verb}
use Rattle.imap_commands.specs.declared.verb.Verb.TheVariants as verb
use Rattle.imap_commands.specs.declared.verb.UidVerb.{UidVerb}
use Rattle.imap_commands.specs.declared.verb.UidVerb.TheVariants as uid
use Rattle.imap_commands.specs.declared.verb.TheConstants.{UID_VERBS}
use Rattle.imap_syntax.specs.Rule as rule
use Rattle.imap_syntax.specs.Rule.{Rule, give, ◌>>=◌}
use Rattle.imap_syntax.specs.Lexical.{number as lexical_number, space, is_astring_char, is_atom_char}
use Rattle.imap_query.specs.StatusWords.{status_name}
use Rattle.imap_commands.specs.Verb.{uid_verb_name}
use Rattle.imap_commands.specs.commands.Store.{store_name, condition_name}
use Rattle.imap_syntax.specs.Sets as sets
use Rattle.imap_syntax.specs.Flags as flags
use Rattle.imap_commands.specs.commands.Argument as argument_rules
use Rattle.imap_commands.specs.commands.Messages as messages_rules
use Rattle.imap_commands.specs.commands.Store as store_rules
use Rattle.imap_commands.specs.commands.Enable as enable_rules
use Rattle.imap_commands.specs.commands.Mailboxes as mailboxes_rules
use Rattle.imap_commands.specs.Reading as grammar
use Rattle.imap_commands.specs.commands.Login as login_rules
use Rattle.imap_query.specs.Searching as searching
use Rattle.imap_commands.specs.commands.Select as select_rules
use Rattle.imap_syntax.specs.Writing.{word, separated, listed}
use Rattle.imap_syntax.specs.Written.{string, astring, atom, message_set, message_flag}
use Rattle.imap_query.specs.WrittenFetch.{fetch_items, changed_fits, modifiers_text}
use Rattle.imap_query.specs.WrittenSearch.{search_keys, returns_text, charset_fits, charset_text}
use Rattle.imap_commands.specs.commands.Select.{parameters_writing}
use Rattle.imap_commands.specs.commands.Argument.{argument_text}
use Rattle.imap_commands.specs.declared.commands.store.StoreSpec.{StoreSpec}
use Rattle.imap_commands.specs.commands.Store.{store_word, since_fits, since_text, store_flags_text, store_spec_writing}
use Rattle.imap_commands.specs.commands.Messages.{store_text, fetch_fits, fetch_text, search_text, copy_text}
use Rattle.imap_commands.specs.Verb.{verb_of}
use Rattle.imap_commands.specs.Writing.{arguments_fit, arguments_text}
use Rattle.imap_commands.proofs.Filled.{is_filled}
use Rattle.imap_syntax.proofs.Writing.{both_true, both, some_of_writes, separated_writes, listed_writes, end_text, listed_end_made, listed_end_fits, word_writes}
use Rattle.imap_query.proofs.WrittenFetch.{fetch_items_writes, modifiers_made, modifiers_fit}
use Rattle.imap_query.proofs.WrittenSearch.{tokens_made, tokens_fit, returns_made, charset_made, charset_fits_all}
use Rattle.imap_commands.proofs.WrittenSelect.{parameters_writes}
use Rattle.imap_commands.proofs.WrittenList.{list_made, list_fits_all}
use Rattle.imap_commands.proofs.WrittenAppend.{append_made, append_fits_all}
use Rattle.imap_syntax.proofs.Written.{astring_writes, number64_writes, message_set_writes, message_flag_writes}

-- ---- arguments

argument_made : (octets : List ℕ) → string.fits octets ≡ true → argument_rules.argument.spells octets (argument_text octets)
argument_made octets h = (tt, 32 ∷ [], astring.text octets, refl, astring_writes.made octets h, refl)

argument_fits : (octets text : List ℕ) → argument_rules.argument.spells octets text → string.fits octets ≡ true
argument_fits octets text h = astring_writes.fits octets h.2 h.4

last_made : (f : List ℕ → Command) (octets : List ℕ) → string.fits octets ≡ true → (argument_rules.argument >>= λ o. give (f o)).spells (f octets) (argument_text octets)
last_made f octets h = (octets, argument_text octets, [], argument_made octets h, (refl, refl), sym (append-nil (argument_text octets)))

two_made : (f : List ℕ → List ℕ → Command) (a b : List ℕ) → string.fits a ≡ true → string.fits b ≡ true → (argument_rules.argument >>= λ x. argument_rules.argument >>= λ y. give (f x y)).spells (f a b) (argument_text a ++ argument_text b)
two_made f a b h k = (a, argument_text a, argument_text b, argument_made a h, last_made (f a) b k, refl)

three_made : (f : List ℕ → List ℕ → List ℕ → Command) (a b c : List ℕ) → string.fits a ≡ true → string.fits b ≡ true → string.fits c ≡ true
    → (argument_rules.argument >>= λ x. argument_rules.argument >>= λ y. argument_rules.argument >>= λ z. give (f x y z)).spells (f a b c) (argument_text a ++ (argument_text b ++ argument_text c))
three_made f a b c h k l = (a, argument_text a, argument_text b ++ argument_text c, argument_made a h, two_made (f a) b c k l, refl)

-- ---- COPY, MOVE, EXPUNGE and STORE

copy_made : (f : MessageSet → List ℕ → Command) (m : MessageSet) (mailbox : List ℕ) → message_set.fits m ≡ true → string.fits mailbox ≡ true
    → (rule.octet 32 >>= λ u. sets.message_set >>= λ n. argument_rules.argument >>= λ o. give (f n o)).spells (f m mailbox) (copy_text m mailbox)
copy_made f m mailbox h k =
    (tt, 32 ∷ [], message_set.text m ++ argument_text mailbox, refl, (m, message_set.text m, argument_text mailbox, message_set_writes.made m h, last_made (f m) mailbox k, refl), refl)

expunge_made : (m : MessageSet) → message_set.fits m ≡ true → messages_rules.uid_expunge.spells (command.UidExpunge m) (32 ∷ message_set.text m)
expunge_made m h = (tt, 32 ∷ [], message_set.text m, refl, (m, message_set.text m, [], message_set_writes.made m h, (refl, refl), sym (append-nil (message_set.text m))), refl)

condition_made : (n : Option ℕ) → since_fits n ≡ true → store_rules.condition.spells n (since_text n)
condition_made None h = (false, [], [], refl, (refl, refl), refl)
condition_made (Some n) h =
    let digits = decimal_text n in
    let close : (rule.octet 41 >>= λ u. space >>= λ v. give (Some n)).spells (Some n) (41 ∷ 32 ∷ []) = (tt, 41 ∷ [], 32 ∷ [], refl, (tt, 32 ∷ [], [], refl, (refl, refl), refl), refl) in
    let number : (lexical_number 0 9223372036854775807 >>= λ k. rule.octet 41 >>= λ u. space >>= λ v. give (Some k)).spells (Some n) (digits ++ 41 ∷ 32 ∷ []) = (n, digits, 41 ∷ 32 ∷ [], number64_writes.made n h, close, refl) in
    let behind : (store_rules.condition_after true).spells (Some n) (codes "UNCHANGEDSINCE " ++ (digits ++ 41 ∷ 32 ∷ [])) =
    (UnchangedSince, condition_name UnchangedSince, 32 ∷ (digits ++ 41 ∷ 32 ∷ []), refl, (tt, 32 ∷ [], digits ++ 41 ∷ 32 ∷ [], refl, number, refl), refl) in
    (true, 40 ∷ [], codes "UNCHANGEDSINCE " ++ (digits ++ 41 ∷ 32 ∷ []), refl, behind, refl)

condition_fits : (conditional : Bool) (n : Option ℕ) (text : List ℕ) → (store_rules.condition_after conditional).spells n text → since_fits n ≡ true
condition_fits false n text h = rw (h.0) refl
condition_fits true n text h = rw (h.4.4.4.4.4.0) (number64_writes.fits h.4.4.0 h.4.4.1 h.4.4.3)

change_is : (c : StoreChange) (silent : Bool) → (store_rules.change_of (store_word c silent) ≡ c) × (store_rules.is_silent (store_word c silent) ≡ silent)
change_is change.Replace true = (refl, refl)
change_is change.Replace false = (refl, refl)
change_is change.Add true = (refl, refl)
change_is change.Add false = (refl, refl)
change_is change.Remove true = (refl, refl)
change_is change.Remove false = (refl, refl)

store_flags_made : (fs : List Flag) → list_all message_flag.fits fs ≡ true → store_rules.store_flags.spells fs (store_flags_text fs)
store_flags_made [] h = (true, 40 ∷ [], end_text message_flag [], refl, listed_end_made flags.message_flag message_flag message_flag_writes [] h, refl)
store_flags_made (f ∷ fs) h =
    (false, [], store_flags_text (f ∷ fs), refl, (separated_writes 32 flags.message_flag message_flag message_flag_writes).made (f ∷ fs) (both _ _ (is_filled f fs) h), refl)

store_flags_fits : (parenthesis : Bool) (fs : List Flag) (text : List ℕ) → (store_rules.store_flags_after parenthesis).spells fs text → list_all message_flag.fits fs ≡ true
store_flags_fits true fs text h = listed_end_fits flags.message_flag message_flag message_flag_writes fs text h
store_flags_fits false fs text h = (both_true _ _ ((separated_writes 32 flags.message_flag message_flag message_flag_writes).fits fs text h)).1

spec_made : (s : StoreSpec) → store_spec_writing.fits s ≡ true → store_rules.store_spec.spells s (store_spec_writing.text s)
spec_made s h =
    let q = both_true (since_fits s.unchanged_since) (list_all message_flag.fits s.flags) h in
    let w = store_word s.change s.silent in
    let is = change_is s.change s.silent in
    let shown = store_flags_text s.flags in
    let same : s ≡ record { unchanged_since = s.unchanged_since; change = store_rules.change_of w; silent = store_rules.is_silent w; flags = s.flags } = rw (is.0, is.1) refl in
    let named = store_name w ++ (32 ∷ shown) in (
      s.unchanged_since,
      since_text s.unchanged_since,
      named,
      condition_made s.unchanged_since q.0,
      (
        w,
        store_name w,
        32 ∷ shown,
        (word_writes is_astring_char store_name STORE_WORDS).made w refl,
        (tt, 32 ∷ [], shown, refl, (s.flags, shown, [], store_flags_made s.flags q.1, (same, refl), sym (append-nil shown)), refl),
        refl,
      ),
      refl,
    )

spec_fits : (s : StoreSpec) (text : List ℕ) → store_rules.store_spec.spells s text → store_spec_writing.fits s ≡ true
spec_fits s text h =
    let named = h.4 in
    let shown = named.4.4 in
    rw (shown.4.0) (both _ _ (condition_fits h.3.0 h.0 h.3.2 h.3.4) (store_flags_fits shown.3.0 shown.0 shown.3.2 shown.3.4))

store_made : (numbering : Numbering) (m : MessageSet) (s : StoreSpec) → (message_set.fits m && store_spec_writing.fits s) ≡ true → (messages_rules.store numbering).spells (command.Store numbering m s) (store_text m s)
store_made numbering m s h =
    let q = both_true (message_set.fits m) (store_spec_writing.fits s) h in
    let text = store_spec_writing.text s in (
      tt,
      32 ∷ [],
      message_set.text m ++ (32 ∷ text),
      refl,
      (
        m,
        message_set.text m,
        32 ∷ text,
        message_set_writes.made m q.0,
        (tt, 32 ∷ [], text, refl, (s, text, [], spec_made s q.1, (refl, refl), sym (append-nil text)), refl),
        refl,
      ),
      refl,
    )

copy_fits : (f : MessageSet → List ℕ → Command) (b : Command) (text : List ℕ) → ((m : MessageSet) (mailbox : List ℕ) → arguments_fit (f m mailbox) ≡ (message_set.fits m && string.fits mailbox))
    → (rule.octet 32 >>= λ u. sets.message_set >>= λ n. argument_rules.argument >>= λ o. give (f n o)).spells b text → arguments_fit b ≡ true
copy_fits f b text e h =
    rw (h.4.4.4.0) (e h.4.0 h.4.4.0 ∙ both _ _ (message_set_writes.fits h.4.0 h.4.1 h.4.3) (argument_fits h.4.4.0 h.4.4.1 h.4.4.3))

store_fits : (numbering : Numbering) (b : Command) (text : List ℕ) → (messages_rules.store numbering).spells b text → arguments_fit b ≡ true
store_fits numbering b text h =
    let spec = h.4.4.4 in
    rw (spec.4.0) (both _ _ (message_set_writes.fits h.4.0 h.4.1 h.4.3) (spec_fits spec.0 spec.1 spec.3))

-- ---- SELECT and EXAMINE

selecting_made : (f : List ℕ → SelectParameters → Command) (mailbox : List ℕ) (given : SelectParameters) → string.fits mailbox ≡ true → parameters_writing.fits given ≡ true
    → (argument_rules.argument >>= λ o. select_rules.parameters >>= λ p. give (f o p)).spells (f mailbox given) (argument_text mailbox ++ parameters_writing.text given)
selecting_made f mailbox given h k =
    let text = parameters_writing.text given in
    (mailbox, argument_text mailbox, text, argument_made mailbox h, (given, text, [], parameters_writes.made given k, (refl, refl), sym (append-nil text)), refl)

selecting_fits : (f : List ℕ → SelectParameters → Command) (b : Command) (text : List ℕ) → ((mailbox : List ℕ) (given : SelectParameters) → arguments_fit (f mailbox given) ≡ (string.fits mailbox && parameters_writing.fits given))
    → (argument_rules.argument >>= λ o. select_rules.parameters >>= λ p. give (f o p)).spells b text → arguments_fit b ≡ true
selecting_fits f b text e h = rw (h.4.4.0) (e h.0 h.4.0 ∙ both _ _ (argument_fits h.0 h.1 h.3) (parameters_writes.fits h.4.0 h.4.1 h.4.3))

-- ---- FETCH

fetch_made : (numbering : Numbering) (m : MessageSet) (items : List FetchItem) (changed : Option ℕ) (vanished : Bool) → fetch_fits m items changed ≡ true
    → (messages_rules.fetch numbering).spells (command.Fetch numbering m items changed vanished) (fetch_text m items changed vanished)
fetch_made numbering m items changed vanished h =
    let p = both_true (message_set.fits m) (fetch_items.fits items && changed_fits changed) h in
    let q = both_true (fetch_items.fits items) (changed_fits changed) p.1 in
    let wanted = fetch_items.text items in
    let last = modifiers_text changed vanished in
    let all : Modifiers = record { changed_since = changed; vanished = vanished } in (
      tt,
      32 ∷ [],
      message_set.text m ++ (32 ∷ (wanted ++ last)),
      refl,
      (
        m,
        message_set.text m,
        32 ∷ (wanted ++ last),
        message_set_writes.made m p.0,
        (
          tt,
          32 ∷ [],
          wanted ++ last,
          refl,
          (items, wanted, last, fetch_items_writes.made items q.0, (all, last, [], modifiers_made changed vanished q.1, (refl, refl), sym (append-nil last)), refl),
          refl,
        ),
        refl,
      ),
      refl,
    )

fetch_fits_all : (numbering : Numbering) (b : Command) (text : List ℕ) → (messages_rules.fetch numbering).spells b text → arguments_fit b ≡ true
fetch_fits_all numbering b text h =
    let items = h.4.4.4 in
    let last = items.4 in
    rw (last.4.0) (both _ _ (message_set_writes.fits h.4.0 h.4.1 h.4.3) (both _ _ (fetch_items_writes.fits items.0 items.1 items.3) (modifiers_fit last.0 last.1 last.3)))

-- ---- SEARCH

search_keys_made : (tokens : List Token) → search_keys.fits tokens ≡ true → searching.search_keys.spells tokens (search_keys.text tokens)
search_keys_made tokens h =
    let keys = tokens_made tokens h in
    let wanted = search_keys.text tokens in
    (keys.0, wanted, [], keys.1, (keys.2, refl), sym (append-nil wanted))

search_keys_fit : (tokens : List Token) (text : List ℕ) → searching.search_keys.spells tokens text → search_keys.fits tokens ≡ true
search_keys_fit tokens text h = rw (h.4.0) (tokens_fit h.0 h.1 h.3)

search_made : (numbering : Numbering) (returns : List SearchReturn) (charset : Option (List ℕ)) (tokens : List Token) → (charset_fits charset && search_keys.fits tokens) ≡ true
    → (messages_rules.search numbering).spells (command.Search numbering returns charset tokens) (search_text returns charset tokens)
search_made numbering returns charset tokens h =
    let p = both_true (charset_fits charset) (search_keys.fits tokens) h in
    let wanted = search_keys.text tokens in (
      tt,
      32 ∷ [],
      returns_text returns ++ (charset_text charset ++ wanted),
      refl,
      (
        returns,
        returns_text returns,
        charset_text charset ++ wanted,
        returns_made returns,
        (charset, charset_text charset, wanted, charset_made charset p.0, (tokens, wanted, [], search_keys_made tokens p.1, (refl, refl), sym (append-nil wanted)), refl),
        refl,
      ),
      refl,
    )

search_fits_all : (numbering : Numbering) (b : Command) (text : List ℕ) → (messages_rules.search numbering).spells b text → arguments_fit b ≡ true
search_fits_all numbering b text h =
    let charset = h.4.4 in
    let keys = charset.4 in
    rw (keys.4.0) (both _ _ (charset_fits_all charset.0 charset.1 charset.3) (search_keys_fit keys.0 keys.1 keys.3))

-- ---- each command

uid_made : (v : UidVerb) (b : Command) (text : List ℕ) → (messages_rules.uid_arguments v).spells b text → messages_rules.uid_command.spells b (32 ∷ uid_verb_name v ++ text)
uid_made v b text h = (tt, 32 ∷ [], uid_verb_name v ++ text, refl, (v, uid_verb_name v, text, (word_writes is_astring_char uid_verb_name UID_VERBS).made v refl, h, refl), refl)

enable_made : (words : List (List ℕ)) → (separated 32 atom).fits words ≡ true → enable_rules.enable.spells (command.Enable words) (32 ∷ (separated 32 atom).text words)
enable_made words h =
    let text = (separated 32 atom).text words in
    (tt, 32 ∷ [], text, refl, (words, text, [], (separated_writes 32 (rule.some_of is_atom_char) atom (some_of_writes is_atom_char)).made words h, (refl, refl), sym (append-nil text)), refl)

status_made : (mailbox : List ℕ) (items : List StatusItem) → string.fits mailbox ≡ true → (listed (word status_name)).fits items ≡ true → mailboxes_rules.status.spells (command.Status mailbox items) (argument_text mailbox ++ 32 ∷ (listed (word status_name)).text items)
status_made mailbox items h k =
    let text = (listed (word status_name)).text items in (
      mailbox,
      argument_text mailbox,
      32 ∷ text,
      argument_made mailbox h,
      (tt, 32 ∷ [], text, refl, (items, text, [], (listed_writes status_item (word status_name) status_item_writes).made items k, (refl, refl), sym (append-nil text)), refl),
      refl,
    )

pub arguments_made : (b : Command) → arguments_fit b ≡ true → (grammar.arguments (verb_of b)).spells b (arguments_text b)
arguments_made command.Capability h = (refl, refl)
arguments_made command.Noop h = (refl, refl)
arguments_made command.Logout h = (refl, refl)
arguments_made command.Namespace h = (refl, refl)
arguments_made command.Idle h = (refl, refl)
arguments_made command.Close h = (refl, refl)
arguments_made command.Unselect h = (refl, refl)
arguments_made command.Expunge h = (refl, refl)
arguments_made command.Authenticate h = (false, [], [], refl, (refl, refl), refl)
arguments_made (command.Enable words) h = enable_made words h
arguments_made (command.Select mailbox given) h = let q = both_true (string.fits mailbox) (parameters_writing.fits given) h in selecting_made command.Select mailbox given q.0 q.1
arguments_made (command.Examine mailbox given) h = let q = both_true (string.fits mailbox) (parameters_writing.fits given) h in selecting_made command.Examine mailbox given q.0 q.1
arguments_made (command.List selection reference wanted returns) h = list_made selection reference wanted returns h
arguments_made (command.Append mailbox fs moment message) h = append_made mailbox fs moment message h
arguments_made (command.Fetch Sequence m items changed vanished) h = fetch_made Sequence m items changed vanished h
arguments_made (command.Fetch Uid m items changed vanished) h = uid_made uid.Fetch (command.Fetch Uid m items changed vanished) _ (fetch_made Uid m items changed vanished h)
arguments_made (command.Search Sequence returns charset tokens) h = search_made Sequence returns charset tokens h
arguments_made (command.Search Uid returns charset tokens) h = uid_made uid.Search (command.Search Uid returns charset tokens) _ (search_made Uid returns charset tokens h)
arguments_made (command.Create mailbox) h = last_made command.Create mailbox h
arguments_made (command.Delete mailbox) h = last_made command.Delete mailbox h
arguments_made (command.Rename from to) h = let q = both_true _ _ h in two_made command.Rename from to q.0 q.1
arguments_made (command.Subscribe mailbox) h = last_made command.Subscribe mailbox h
arguments_made (command.Unsubscribe mailbox) h = last_made command.Unsubscribe mailbox h
arguments_made (command.Status mailbox items) h = let q = both_true (string.fits mailbox) _ h in status_made mailbox items q.0 q.1
arguments_made (command.SetAcl mailbox identifier rights) h =
    let q = both_true (string.fits mailbox) (string.fits identifier && string.fits rights) h in
    let r = both_true (string.fits identifier) (string.fits rights) q.1 in
    three_made command.SetAcl mailbox identifier rights q.0 r.0 r.1
arguments_made (command.DeleteAcl mailbox identifier) h = let q = both_true _ _ h in two_made command.DeleteAcl mailbox identifier q.0 q.1
arguments_made (command.GetAcl mailbox) h = last_made command.GetAcl mailbox h
arguments_made (command.ListRights mailbox identifier) h = let q = both_true _ _ h in two_made command.ListRights mailbox identifier q.0 q.1
arguments_made (command.MyRights mailbox) h = last_made command.MyRights mailbox h
arguments_made (command.UidExpunge m) h = uid_made uid.Expunge (command.UidExpunge m) _ (expunge_made m h)
arguments_made (command.Store Sequence m spec) h = store_made Sequence m spec h
arguments_made (command.Store Uid m spec) h = uid_made uid.Store (command.Store Uid m spec) _ (store_made Uid m spec h)
arguments_made (command.Copy Sequence m mailbox) h = let q = both_true _ _ h in copy_made (command.Copy Sequence) m mailbox q.0 q.1
arguments_made (command.Copy Uid m mailbox) h = let q = both_true _ _ h in uid_made uid.Copy (command.Copy Uid m mailbox) _ (copy_made (command.Copy Uid) m mailbox q.0 q.1)
arguments_made (command.Move Sequence m mailbox) h = let q = both_true _ _ h in copy_made (command.Move Sequence) m mailbox q.0 q.1
arguments_made (command.Move Uid m mailbox) h = let q = both_true _ _ h in uid_made uid.Move (command.Move Uid m mailbox) _ (copy_made (command.Move Uid) m mailbox q.0 q.1)

one_fits : (f : List ℕ → Command) (b : Command) (text : List ℕ) → ((a : List ℕ) → arguments_fit (f a) ≡ string.fits a) → (argument_rules.argument >>= λ o. give (f o)).spells b text → arguments_fit b ≡ true
one_fits f b text e h = rw (h.4.0) (e h.0 ∙ argument_fits h.0 h.1 h.3)

two_fit : (f : List ℕ → List ℕ → Command) (b : Command) (text : List ℕ) → ((x y : List ℕ) → arguments_fit (f x y) ≡ (string.fits x && string.fits y)) → (argument_rules.argument >>= λ x. argument_rules.argument >>= λ y. give (f x y)).spells b text → arguments_fit b ≡ true
two_fit f b text e h = rw (h.4.4.0) (e h.0 h.4.0 ∙ both _ _ (argument_fits h.0 h.1 h.3) (argument_fits h.4.0 h.4.1 h.4.3))

uid_fits : (v : UidVerb) (b : Command) (text : List ℕ) → (messages_rules.uid_arguments v).spells b text → arguments_fit b ≡ true
uid_fits uid.Copy b text h = copy_fits (command.Copy Uid) b text (λ m o. refl) h
uid_fits uid.Expunge b text h = rw (h.4.4.0) (message_set_writes.fits h.4.0 h.4.1 h.4.3)
uid_fits uid.Fetch b text h = fetch_fits_all Uid b text h
uid_fits uid.Move b text h = copy_fits (command.Move Uid) b text (λ m o. refl) h
uid_fits uid.Search b text h = search_fits_all Uid b text h
uid_fits uid.Store b text h = store_fits Uid b text h

anything_fits : (more : Bool) (b : Command) (text : List ℕ) → (login_rules.any_arguments_after more).spells b text → arguments_fit b ≡ true
anything_fits false b text h = rw (h.0) refl
anything_fits true b text h = rw (h.4.0) refl

pub spelt_arguments_fit : (v : Verb) (b : Command) (text : List ℕ) → (grammar.arguments v).spells b text → arguments_fit b ≡ true
spelt_arguments_fit verb.Append b text h = append_fits_all arguments_fit b text (λ mailbox fs moment message. refl) h
spelt_arguments_fit verb.Authenticate b text h = anything_fits h.0 b h.2 h.4
spelt_arguments_fit verb.Capability b text h = rw (h.0) refl
spelt_arguments_fit verb.Close b text h = rw (h.0) refl
spelt_arguments_fit verb.Copy b text h = copy_fits (command.Copy Sequence) b text (λ m o. refl) h
spelt_arguments_fit verb.Create b text h = one_fits command.Create b text (λ a. refl) h
spelt_arguments_fit verb.Delete b text h = one_fits command.Delete b text (λ a. refl) h
spelt_arguments_fit verb.DeleteAcl b text h = two_fit command.DeleteAcl b text (λ x y. refl) h
spelt_arguments_fit verb.Enable b text h = rw (h.4.4.0) ((separated_writes 32 (rule.some_of is_atom_char) atom (some_of_writes is_atom_char)).fits h.4.0 h.4.1 h.4.3)
spelt_arguments_fit verb.Examine b text h = selecting_fits command.Examine b text (λ mailbox given. refl) h
spelt_arguments_fit verb.Expunge b text h = rw (h.0) refl
spelt_arguments_fit verb.Fetch b text h = fetch_fits_all Sequence b text h
spelt_arguments_fit verb.GetAcl b text h = one_fits command.GetAcl b text (λ a. refl) h
spelt_arguments_fit verb.Idle b text h = rw (h.0) refl
spelt_arguments_fit verb.List b text h = list_fits_all arguments_fit b text (λ selection reference wanted returns. refl) h
spelt_arguments_fit verb.ListRights b text h = two_fit command.ListRights b text (λ x y. refl) h
spelt_arguments_fit verb.Login b text h = anything_fits h.0 b h.2 h.4
spelt_arguments_fit verb.Logout b text h = rw (h.0) refl
spelt_arguments_fit verb.Move b text h = copy_fits (command.Move Sequence) b text (λ m o. refl) h
spelt_arguments_fit verb.MyRights b text h = one_fits command.MyRights b text (λ a. refl) h
spelt_arguments_fit verb.Namespace b text h = rw (h.0) refl
spelt_arguments_fit verb.Noop b text h = rw (h.0) refl
spelt_arguments_fit verb.Rename b text h = two_fit command.Rename b text (λ x y. refl) h
spelt_arguments_fit verb.Search b text h = search_fits_all Sequence b text h
spelt_arguments_fit verb.Select b text h = selecting_fits command.Select b text (λ mailbox given. refl) h
spelt_arguments_fit verb.SetAcl b text h = rw (h.4.4.4.0) (both _ _ (argument_fits h.0 h.1 h.3) (both _ _ (argument_fits h.4.0 h.4.1 h.4.3) (argument_fits h.4.4.0 h.4.4.1 h.4.4.3)))
spelt_arguments_fit verb.StartTls b text h = anything_fits h.0 b h.2 h.4
spelt_arguments_fit verb.Status b text h =
    let inner = h.4.4 in
    rw (inner.4.0) (both _ _ (argument_fits h.0 h.1 h.3) ((listed_writes status_item (word status_name) status_item_writes).fits inner.0 inner.1 inner.3))
spelt_arguments_fit verb.Store b text h = store_fits Sequence b text h
spelt_arguments_fit verb.Subscribe b text h = one_fits command.Subscribe b text (λ a. refl) h
spelt_arguments_fit verb.Uid b text h = uid_fits h.4.0 b h.4.2 h.4.4
spelt_arguments_fit verb.Unselect b text h = rw (h.0) refl
spelt_arguments_fit verb.Unsubscribe b text h = one_fits command.Unsubscribe b text (λ a. refl) h
