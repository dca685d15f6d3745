-- Commands are written as lines and literals.
use Rattle.std.proofs.Common.{◌≡◌, ℕ, Bool, true, false, cond, not, ◌&&◌, ltb, List, [], ◌∷◌, ◌++◌, length, codes, Option, Some, None, refl, arith}
use Rattle.std.specs.Fmt.{decimal as decimal_text}
use Rattle.std.specs.List.{list_all, list_any}
use Rattle.imap_commands.specs.declared.command.Command.{Command}
use Rattle.imap_commands.specs.declared.command.Command.TheVariants as command
use Rattle.imap_syntax.specs.declared.set.MessageSet.{MessageSet}
use Rattle.imap_syntax.specs.declared.set.Numbering.{Numbering}
use Rattle.imap_syntax.specs.declared.set.Numbering.TheVariants.{Sequence, Uid}
use Rattle.imap_syntax.specs.declared.set.SeqRange.{SeqRange}
use Rattle.imap_syntax.specs.declared.flag.Flag.{Flag}
use Rattle.imap_syntax.specs.Moments.{Moment}
use Rattle.imap_query.specs.declared.fetch.FetchItem.{FetchItem}
use Rattle.imap_query.specs.declared.search.SearchReturn.{SearchReturn}
use Rattle.imap_commands.specs.declared.commands.select.QresyncArg.{QresyncArg}
use Rattle.imap_commands.specs.declared.commands.select.SelectParameters.{SelectParameters}
use Rattle.imap_commands.specs.declared.commands.list.Selection.{Selection}
use Rattle.imap_commands.specs.declared.commands.list.ListReturn.{ListReturn}
use Rattle.imap_commands.specs.declared.commands.list.ListReturn.TheVariants as told
use Rattle.imap_commands.specs.declared.commands.list.Patterns.{Patterns}
use Rattle.imap_commands.specs.declared.commands.list.Patterns.TheVariants.{One, Many}
use Rattle.imap_query.specs.declared.status.StatusItem.{StatusItem}
use Rattle.imap_commands.specs.declared.commands.store.StoreSpec.{StoreSpec}
use Rattle.imap_commands.specs.declared.verb.UidVerb.{UidVerb}
use Rattle.imap_commands.specs.declared.verb.UidVerb.TheVariants as uid
use Rattle.imap_syntax.specs.Lexical.{has_nul}
use Rattle.imap_query.specs.StatusWords.{status_name}
use Rattle.imap_commands.specs.Verb.{uid_verb_name}
use Rattle.imap_commands.proofs.Filled.{is_filled}
use Rattle.imap_commands.specs.commands.List.{selection_name}
use Rattle.imap_commands.specs.commands.Select.{has_last}
use Rattle.imap_query.specs.Keys.{Token}
use Rattle.std.proofs.lemmas.Bool.Decides.{nat_tests}
use Rattle.imap_syntax.specs.Writing as writing
use Rattle.imap_syntax.specs.Writing.{number, separated, listed, listed_or_none}
use Rattle.imap_syntax.specs.Written.{string, astring, literal_text, atom, mod_sequence, seq_set, message_set, message_flag}
use Rattle.imap_syntax.specs.WrittenDates.{date_time_end}
use Rattle.imap_query.specs.WrittenFetch.{fetch_items, changed_fits, modifiers_text}
use Rattle.imap_query.specs.WrittenSearch.{search_keys, returns_text, charset_fits, charset_text}
use Rattle.imap_commands.specs.commands.Select.{known_fits, known_text, qresync_writing, qresync_fits, parameters_by, parameters_writing}
use Rattle.imap_commands.specs.commands.List.{is_list_char, pattern_writing, selection_fits, selection_text, patterns_fit, patterns_text, list_return_writing, returns_fit, returns_text as options_text, list_fits, list_text}
use Rattle.imap_commands.specs.commands.Append.{date_fits, date_text, message_text, flags_text, append_fits, append_text}
use Rattle.imap_commands.specs.commands.Argument.{argument_text}
use Rattle.imap_commands.specs.commands.Store.{store_name, store_word, since_fits, since_text, store_flags_text, change_text, store_spec_writing}
use Rattle.imap_commands.specs.commands.Messages.{store_text, fetch_fits, fetch_text, search_text, copy_text}
use Rattle.imap_commands.specs.Verb.{uid_text}
use Rattle.imap_commands.specs.Writing.{arguments_fit, arguments_text}
use Rattle.imap_commands.proofs.Tables.{uid_verb_table, store_table, selection_table}
use Rattle.imap_query.proofs.Tables.{status_table}
use Rattle.imap_syntax.proofs.Writing.{both_true, both}
use Rattle.imap_commands.proofs.WrittenList.{each_word}
use Rattle.imap_syntax.proofs.Lined.{IsLined, Lines, none_lined, append_lined, safe_lined, octet_lined, astring_safe, atom_lined, word_lined, number_lined, number64_lined, mod_sequence_lined, separated_lined, listed_lined, literal_lined, astring_lined, bare_or_string_lined, is_safe, seq_set_lined, set_lined, flag_lined, date_time_lined}
use Rattle.imap_query.proofs.LinedQuery.{items_lined, between_lined, modifiers_lined, tokens_lined, returns_lined, charset_lined}

space_lined : (octets : List ℕ) → IsLined octets → IsLined (32 ∷ octets)
space_lined octets h = octet_lined 32 octets refl h

argument_lined : (octets : List ℕ) → string.fits octets ≡ true → IsLined (argument_text octets)
argument_lined octets h = space_lined (astring.text octets) (astring_lined octets h)

-- ---- SELECT

known_lined : (known : Option (List SeqRange)) → known_fits known ≡ true → IsLined (known_text known)
known_lined None h = none_lined
known_lined (Some uids) h = space_lined (seq_set.text uids) (seq_set_lined uids (both_true (seq_set.fits uids) (not (list_any has_last uids)) h).0)

qresync_lined : Lines qresync_writing
qresync_lined q h =
    let p = both_true ((number 1 4294967295).fits q.validity) (mod_sequence.fits q.mod_seq && known_fits q.known_uids) h in
    let r = both_true (mod_sequence.fits q.mod_seq) (known_fits q.known_uids) p.1 in
    let known = known_text q.known_uids in
    let since = decimal_text q.mod_seq in
    between_lined (codes " (") q.validity (32 ∷ (since ++ (known ++ codes ")"))) (safe_lined (codes " (") refl) (number_lined 1 4294967295 (omega arith) q.validity p.0)
    (space_lined (since ++ (known ++ codes ")")) (append_lined since (known ++ codes ")") (mod_sequence_lined q.mod_seq r.0) (append_lined known (codes ")") (known_lined q.known_uids r.1) (safe_lined (codes ")") refl))))

by_parts : (condstore : Bool) (known : Option QresyncArg) → qresync_fits known ≡ true → IsLined (parameters_by condstore known)
by_parts false None h = none_lined
by_parts true None h = safe_lined (codes " (CONDSTORE)") refl
by_parts false (Some q) h = append_lined (codes " (QRESYNC") (qresync_writing.text q ++ codes ")") (safe_lined (codes " (QRESYNC") refl) (append_lined (qresync_writing.text q) (codes ")") (qresync_lined q h) (safe_lined (codes ")") refl))
by_parts true (Some q) h = append_lined (codes " (CONDSTORE QRESYNC") (qresync_writing.text q ++ codes ")") (safe_lined (codes " (CONDSTORE QRESYNC") refl) (append_lined (qresync_writing.text q) (codes ")") (qresync_lined q h) (safe_lined (codes ")") refl))

parameters_lined : Lines parameters_writing
parameters_lined p h = by_parts p.condstore p.qresync h

-- ---- LIST

selection_lined : (selection : Option (List Selection)) → IsLined (selection_text selection)
selection_lined None = none_lined
selection_lined (Some all) =
    let names = writing.word selection_name in
    append_lined ((listed_or_none names).text all) (32 ∷ []) (listed_lined names (λ w h. word_lined selection_table astring_safe w) all (each_word all)) (safe_lined (32 ∷ []) refl)

list_char_safe : (b : ℕ) → is_list_char b ≡ true → is_safe b ≡ true
list_char_safe b h = grind (arith, nat_tests)

pattern_lined : Lines pattern_writing
pattern_lined = bare_or_string_lined is_list_char list_char_safe

patterns_lined : (wanted : Patterns) → patterns_fit wanted ≡ true → IsLined (patterns_text wanted)
patterns_lined (One pattern) h = pattern_lined pattern h
patterns_lined (Many all) h = listed_lined pattern_writing pattern_lined all (both_true _ _ h).1

statuses_lined : (items : List StatusItem) → (listed (writing.word status_name)).fits items ≡ true → IsLined ((listed (writing.word status_name)).text items)
statuses_lined items h = listed_lined (writing.word status_name) (λ w h. word_lined status_table astring_safe w) items (both_true _ _ h).1

return_lined : Lines list_return_writing
return_lined told.Subscribed h = safe_lined (codes "SUBSCRIBED") refl
return_lined told.Children h = safe_lined (codes "CHILDREN") refl
return_lined (told.Status items) h = append_lined (codes "STATUS ") _ (safe_lined (codes "STATUS ") refl) (statuses_lined items h)

options_lined : (returns : Option (List ListReturn)) → returns_fit returns ≡ true → IsLined (options_text returns)
options_lined None h = none_lined
options_lined (Some all) h = append_lined (codes " RETURN ") _ (safe_lined (codes " RETURN ") refl) (listed_lined list_return_writing return_lined all h)

list_lined : (selection : Option (List Selection)) (reference : List ℕ) (wanted : Patterns) (returns : Option (List ListReturn)) → list_fits selection reference wanted returns ≡ true → IsLined (list_text selection reference wanted returns)
list_lined selection reference wanted returns h =
    let p = both_true (selection_fits selection) (string.fits reference && (patterns_fit wanted && returns_fit returns)) h in
    let q = both_true (string.fits reference) (patterns_fit wanted && returns_fit returns) p.1 in
    let r = both_true (patterns_fit wanted) (returns_fit returns) q.1 in
    let names = patterns_text wanted ++ options_text returns in
    let place = astring.text reference ++ (32 ∷ names) in
    space_lined (selection_text selection ++ place)
    (append_lined (selection_text selection) place (selection_lined selection)
    (append_lined (astring.text reference) (32 ∷ names) (astring_lined reference q.0)
    (space_lined names (append_lined (patterns_text wanted) (options_text returns) (patterns_lined wanted r.0) (options_lined returns r.1)))))

-- ---- APPEND

flags_lined : (fs : List Flag) → list_all message_flag.fits fs ≡ true → IsLined ((listed_or_none message_flag).text fs)
flags_lined fs h = listed_lined message_flag flag_lined fs h

moment_lined : (moment : Option Moment) → IsLined (date_text moment)
moment_lined None = none_lined
moment_lined (Some moment) = append_lined (34 ∷ date_time_end.text moment) (32 ∷ []) (octet_lined 34 (date_time_end.text moment) refl (date_time_lined moment)) (safe_lined (32 ∷ []) refl)

message_by : (octets : List ℕ) (nul : Bool) → ltb (length octets) 18446744073709551616 ≡ true → IsLined (cond nul (126 ∷ literal_text octets) (literal_text octets))
message_by octets true h = octet_lined 126 (literal_text octets) refl (literal_lined octets h)
message_by octets false h = literal_lined octets h

append_flags_lined : (fs : List Flag) → list_all message_flag.fits fs ≡ true → IsLined (flags_text fs)
append_flags_lined [] h = none_lined
append_flags_lined (f ∷ fs) h =
    append_lined ((listed_or_none message_flag).text (f ∷ fs)) (32 ∷ []) (flags_lined (f ∷ fs) h) (safe_lined (32 ∷ []) refl)

append_command_lined : (mailbox : List ℕ) (fs : List Flag) (moment : Option Moment) (message : List ℕ) → append_fits mailbox fs moment message ≡ true → IsLined (append_text mailbox fs moment message)
append_command_lined mailbox fs moment message h =
    let p = both_true (string.fits mailbox) (list_all message_flag.fits fs && (date_fits moment && ltb (length message) 18446744073709551616)) h in
    let q = both_true (list_all message_flag.fits fs) (date_fits moment && ltb (length message) 18446744073709551616) p.1 in
    let r = both_true (date_fits moment) (ltb (length message) 18446744073709551616) q.1 in
    let shown = flags_text fs in
    let last = date_text moment ++ message_text message in
    append_lined (argument_text mailbox) (32 ∷ (shown ++ last)) (argument_lined mailbox p.0)
    (space_lined (shown ++ last) (append_lined shown last (append_flags_lined fs q.0)
    (append_lined (date_text moment) (message_text message) (moment_lined moment) (message_by message (has_nul message) r.1))))

-- ---- STORE, COPY, FETCH and SEARCH

since_lined : (n : Option ℕ) → since_fits n ≡ true → IsLined (since_text n)
since_lined None h = none_lined
since_lined (Some n) h = between_lined (codes "(UNCHANGEDSINCE ") n (codes ") ") (safe_lined (codes "(UNCHANGEDSINCE ") refl) (number64_lined n h) (safe_lined (codes ") ") refl)

store_flags_lined : (fs : List Flag) → list_all message_flag.fits fs ≡ true → IsLined (store_flags_text fs)
store_flags_lined [] h = flags_lined [] h
store_flags_lined (f ∷ fs) h = separated_lined 32 message_flag refl flag_lined (f ∷ fs) (both _ _ (is_filled f fs) h)

spec_lined : Lines store_spec_writing
spec_lined s h =
    let q = both_true (since_fits s.unchanged_since) (list_all message_flag.fits s.flags) h in
    let w = store_word s.change s.silent in
    let shown = store_flags_text s.flags in
    append_lined (since_text s.unchanged_since) (change_text s.change s.silent s.flags) (since_lined s.unchanged_since q.0)
    (append_lined (store_name w) (32 ∷ shown) (word_lined store_table astring_safe w) (space_lined shown (store_flags_lined s.flags q.1)))

store_lined : (m : MessageSet) (s : StoreSpec) → (message_set.fits m && store_spec_writing.fits s) ≡ true → IsLined (store_text m s)
store_lined m s h =
    let q = both_true (message_set.fits m) (store_spec_writing.fits s) h in
    let text = store_spec_writing.text s in
    space_lined (message_set.text m ++ (32 ∷ text)) (append_lined (message_set.text m) (32 ∷ text) (set_lined m q.0) (space_lined text (spec_lined s q.1)))

copy_lined : (m : MessageSet) (mailbox : List ℕ) → (message_set.fits m && string.fits mailbox) ≡ true → IsLined (copy_text m mailbox)
copy_lined m mailbox h =
    let q = both_true (message_set.fits m) (string.fits mailbox) h in
    space_lined (message_set.text m ++ argument_text mailbox) (append_lined (message_set.text m) (argument_text mailbox) (set_lined m q.0) (argument_lined mailbox q.1))

fetch_lined : (m : MessageSet) (items : List FetchItem) (changed : Option ℕ) (vanished : Bool) → fetch_fits m items changed ≡ true → IsLined (fetch_text m items changed vanished)
fetch_lined m items changed vanished h =
    let p = both_true (message_set.fits m) (fetch_items.fits items && changed_fits changed) h in
    let q = both_true (fetch_items.fits items) (changed_fits changed) p.1 in
    let last = fetch_items.text items ++ modifiers_text changed vanished in
    space_lined (message_set.text m ++ (32 ∷ last)) (append_lined (message_set.text m) (32 ∷ last) (set_lined m p.0)
    (space_lined last (append_lined (fetch_items.text items) (modifiers_text changed vanished) (items_lined items q.0) (modifiers_lined changed vanished q.1))))

search_lined : (returns : List SearchReturn) (charset : Option (List ℕ)) (tokens : List Token) → (charset_fits charset && search_keys.fits tokens) ≡ true → IsLined (search_text returns charset tokens)
search_lined returns charset tokens h =
    let p = both_true (charset_fits charset) (search_keys.fits tokens) h in
    let last = charset_text charset ++ search_keys.text tokens in
    space_lined (returns_text returns ++ last) (append_lined (returns_text returns) last (returns_lined returns) (append_lined (charset_text charset) (search_keys.text tokens) (charset_lined charset p.0) (tokens_lined tokens p.1)))

-- UID's word, and what stands behind it
uid_lined : (numbering : Numbering) (v : UidVerb) (octets : List ℕ) → IsLined octets → IsLined (uid_text numbering v ++ octets)
uid_lined Sequence v octets h = h
uid_lined Uid v octets h = append_lined (32 ∷ uid_verb_name v) octets (space_lined (uid_verb_name v) (word_lined uid_verb_table astring_safe v)) h

-- ---- each command

two_lined : (a b : List ℕ) → (string.fits a && string.fits b) ≡ true → IsLined (argument_text a ++ argument_text b)
two_lined a b h = let q = both_true (string.fits a) (string.fits b) h in append_lined (argument_text a) (argument_text b) (argument_lined a q.0) (argument_lined b q.1)

selecting_lined : (mailbox : List ℕ) (given : SelectParameters) → (string.fits mailbox && parameters_writing.fits given) ≡ true → IsLined (argument_text mailbox ++ parameters_writing.text given)
selecting_lined mailbox given h = let q = both_true (string.fits mailbox) (parameters_writing.fits given) h in append_lined (argument_text mailbox) (parameters_writing.text given) (argument_lined mailbox q.0) (parameters_lined given q.1)

pub arguments_lined : (b : Command) → arguments_fit b ≡ true → IsLined (arguments_text b)
arguments_lined command.Capability h = none_lined
arguments_lined command.Noop h = none_lined
arguments_lined command.Logout h = none_lined
arguments_lined command.Namespace h = none_lined
arguments_lined command.Idle h = none_lined
arguments_lined command.Close h = none_lined
arguments_lined command.Unselect h = none_lined
arguments_lined command.Authenticate h = none_lined
arguments_lined command.Expunge h = none_lined
arguments_lined (command.Enable words) h = space_lined ((separated 32 atom).text words) (separated_lined 32 atom refl atom_lined words h)
arguments_lined (command.Select mailbox given) h = selecting_lined mailbox given h
arguments_lined (command.Examine mailbox given) h = selecting_lined mailbox given h
arguments_lined (command.List selection reference wanted returns) h = list_lined selection reference wanted returns h
arguments_lined (command.Append mailbox fs moment message) h = append_command_lined mailbox fs moment message h
arguments_lined (command.Create mailbox) h = argument_lined mailbox h
arguments_lined (command.Delete mailbox) h = argument_lined mailbox h
arguments_lined (command.Rename from to) h = two_lined from to h
arguments_lined (command.Subscribe mailbox) h = argument_lined mailbox h
arguments_lined (command.Unsubscribe mailbox) h = argument_lined mailbox h
arguments_lined (command.Status mailbox items) h =
    let q = both_true (string.fits mailbox) ((listed (writing.word status_name)).fits items) h in
    let shown = (listed (writing.word status_name)).text items in
    append_lined (argument_text mailbox) (32 ∷ shown) (argument_lined mailbox q.0) (space_lined shown (statuses_lined items q.1))
arguments_lined (command.SetAcl mailbox identifier rights) h =
    let q = both_true (string.fits mailbox) (string.fits identifier && string.fits rights) h in
    append_lined (argument_text mailbox) (argument_text identifier ++ argument_text rights) (argument_lined mailbox q.0) (two_lined identifier rights q.1)
arguments_lined (command.DeleteAcl mailbox identifier) h = two_lined mailbox identifier h
arguments_lined (command.GetAcl mailbox) h = argument_lined mailbox h
arguments_lined (command.ListRights mailbox identifier) h = two_lined mailbox identifier h
arguments_lined (command.MyRights mailbox) h = argument_lined mailbox h
arguments_lined (command.UidExpunge m) h = uid_lined Uid uid.Expunge (32 ∷ message_set.text m) (space_lined (message_set.text m) (set_lined m h))
arguments_lined (command.Fetch numbering m items changed vanished) h = uid_lined numbering uid.Fetch (fetch_text m items changed vanished) (fetch_lined m items changed vanished h)
arguments_lined (command.Search numbering returns charset tokens) h = uid_lined numbering uid.Search (search_text returns charset tokens) (search_lined returns charset tokens h)
arguments_lined (command.Store numbering m spec) h = uid_lined numbering uid.Store (store_text m spec) (store_lined m spec h)
arguments_lined (command.Copy numbering m mailbox) h = uid_lined numbering uid.Copy (copy_text m mailbox) (copy_lined m mailbox h)
arguments_lined (command.Move numbering m mailbox) h = uid_lined numbering uid.Move (copy_text m mailbox) (copy_lined m mailbox h)
