-- The tables of the words of commands are such as can be read.
use Rattle.std.proofs.Common.{refl}
use Rattle.imap_syntax.specs.Lexical.{is_astring_char}
use Rattle.imap_syntax.proofs.Words.{IsTable}
use Rattle.imap_syntax.proofs.Tables.{either_case_astring, IsRow, table_from}
use Rattle.imap_commands.specs.Verb.{verb_name, uid_verb_name}
use Rattle.imap_commands.specs.commands.Store.{store_name, condition_name}
use Rattle.imap_commands.specs.declared.verb.Verb.{Verb}
use Rattle.imap_commands.specs.declared.verb.Verb.TheVariants as verb
use Rattle.imap_commands.specs.declared.verb.TheConstants.{VERBS, UID_VERBS}
use Rattle.imap_commands.specs.declared.verb.UidVerb.{UidVerb}
use Rattle.imap_commands.specs.declared.verb.UidVerb.TheVariants as uid
use Rattle.imap_commands.specs.declared.commands.store.StoreWord.{StoreWord}
use Rattle.imap_commands.specs.declared.commands.store.StoreWord.TheVariants as store
use Rattle.imap_commands.specs.declared.commands.store.TheConstants.{STORE_WORDS, CONDITIONS}
use Rattle.imap_commands.specs.declared.commands.store.Condition.{Condition}
use Rattle.imap_commands.specs.declared.commands.store.Condition.TheVariants as condition
use Rattle.imap_commands.specs.commands.Select.{parameter_name}
use Rattle.imap_commands.specs.commands.List.{selection_name, list_return_name, return_name}
use Rattle.imap_commands.specs.declared.commands.select.TheConstants.{PARAMETER_WORDS}
use Rattle.imap_commands.specs.declared.commands.list.TheConstants.{SELECTIONS, LIST_RETURN_WORDS, RETURN_WORDS}
use Rattle.imap_commands.specs.declared.commands.select.ParameterWord.{ParameterWord}
use Rattle.imap_commands.specs.declared.commands.select.ParameterWord.TheVariants as parameter_word_word
use Rattle.imap_commands.specs.declared.commands.list.Selection.{Selection}
use Rattle.imap_commands.specs.declared.commands.list.Selection.TheVariants as selection_word
use Rattle.imap_commands.specs.declared.commands.list.ListReturnWord.{ListReturnWord}
use Rattle.imap_commands.specs.declared.commands.list.ListReturnWord.TheVariants as list_return_word_word
use Rattle.imap_commands.specs.declared.commands.list.ReturnWord.{ReturnWord}
use Rattle.imap_commands.specs.declared.commands.list.ReturnWord.TheVariants as return_word_word

verb_row : (v : Verb) → IsRow is_astring_char verb_name VERBS v
verb_row verb.Append = (refl, refl, refl)
verb_row _ = (refl, refl, refl)

pub verb_table : IsTable is_astring_char verb_name VERBS
verb_table = table_from verb_row either_case_astring

uid_verb_row : (v : UidVerb) → IsRow is_astring_char uid_verb_name UID_VERBS v
uid_verb_row uid.Copy = (refl, refl, refl)
uid_verb_row _ = (refl, refl, refl)

pub uid_verb_table : IsTable is_astring_char uid_verb_name UID_VERBS
uid_verb_table = table_from uid_verb_row either_case_astring

store_row : (v : StoreWord) → IsRow is_astring_char store_name STORE_WORDS v
store_row store.Replace = (refl, refl, refl)
store_row _ = (refl, refl, refl)

pub store_table : IsTable is_astring_char store_name STORE_WORDS
store_table = table_from store_row either_case_astring

condition_row : (v : Condition) → IsRow is_astring_char condition_name CONDITIONS v
condition_row condition.UnchangedSince = (refl, refl, refl)

pub condition_table : IsTable is_astring_char condition_name CONDITIONS
condition_table = table_from condition_row either_case_astring

parameter_row : (v : ParameterWord) → IsRow is_astring_char parameter_name PARAMETER_WORDS v
parameter_row parameter_word_word.Condstore = (refl, refl, refl)
parameter_row _ = (refl, refl, refl)

pub parameter_table : IsTable is_astring_char parameter_name PARAMETER_WORDS
parameter_table = table_from parameter_row either_case_astring

selection_row : (v : Selection) → IsRow is_astring_char selection_name SELECTIONS v
selection_row selection_word.Subscribed = (refl, refl, refl)
selection_row _ = (refl, refl, refl)

pub selection_table : IsTable is_astring_char selection_name SELECTIONS
selection_table = table_from selection_row either_case_astring

list_return_row : (v : ListReturnWord) → IsRow is_astring_char list_return_name LIST_RETURN_WORDS v
list_return_row list_return_word_word.Children = (refl, refl, refl)
list_return_row _ = (refl, refl, refl)

pub list_return_table : IsTable is_astring_char list_return_name LIST_RETURN_WORDS
list_return_table = table_from list_return_row either_case_astring

return_row : (v : ReturnWord) → IsRow is_astring_char return_name RETURN_WORDS v
return_row return_word_word.Return = (refl, refl, refl)

pub return_table : IsTable is_astring_char return_name RETURN_WORDS
return_table = table_from return_row either_case_astring
