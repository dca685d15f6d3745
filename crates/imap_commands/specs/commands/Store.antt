-- The arguments of STORE after its set of messages (RFC 9051, section 6.4.6; RFC 7162, section 3.1.3).
use Rattle.std.specs.Prelude.{ℕ, Bool, true, false, ◌&&◌, List, [], ◌∷◌, ◌++◌, codes}
use Rattle.std.specs.Prelude.{decimal, Option, Some, None}
use Rattle.std.specs.List.{list_all}
use Rattle.imap_syntax.specs.declared.flag.Flag.{Flag}
use Rattle.imap_commands.specs.declared.commands.store.StoreChange.{StoreChange}
use Rattle.imap_commands.specs.declared.commands.store.StoreChange.TheVariants as change
use Rattle.imap_commands.specs.declared.commands.store.StoreSpec.{StoreSpec}
use Rattle.imap_commands.specs.declared.commands.store.StoreWord.{StoreWord}
use Rattle.imap_commands.specs.declared.commands.store.StoreWord.TheVariants as word
use Rattle.imap_commands.specs.declared.commands.store.Condition.{Condition}
use Rattle.imap_commands.specs.declared.commands.store.Condition.TheVariants.{UnchangedSince}
use Rattle.imap_commands.specs.declared.commands.store.TheConstants.{STORE_WORDS, CONDITIONS}
use Rattle.imap_syntax.specs.Rule.{Rule, give, ◌>>=◌, ◌>>◌, octet, flag, keyword, separated, listed_end}
use Rattle.imap_syntax.specs.Lexical.{is_astring_char, space, number}
use Rattle.imap_syntax.specs.Flags.{message_flag}
use Rattle.imap_syntax.specs.Writing as writing
use Rattle.imap_syntax.specs.Writing.{Writing}
use Rattle.imap_syntax.specs.Written as written

-- ---- words, in capitals

abbrev pub store_name : StoreWord → List ℕ
store_name word.Replace = codes "FLAGS"
store_name word.ReplaceSilent = codes "FLAGS.SILENT"
store_name word.Add = codes "+FLAGS"
store_name word.AddSilent = codes "+FLAGS.SILENT"
store_name word.Remove = codes "-FLAGS"
store_name word.RemoveSilent = codes "-FLAGS.SILENT"

abbrev pub condition_name : Condition → List ℕ
condition_name UnchangedSince = codes "UNCHANGEDSINCE"

abbrev pub change_of : StoreWord → StoreChange
change_of word.Replace = change.Replace
change_of word.ReplaceSilent = change.Replace
change_of word.Add = change.Add
change_of word.AddSilent = change.Add
change_of word.Remove = change.Remove
change_of word.RemoveSilent = change.Remove

abbrev pub is_silent : StoreWord → Bool
is_silent word.Replace = false
is_silent word.ReplaceSilent = true
is_silent word.Add = false
is_silent word.AddSilent = true
is_silent word.Remove = false
is_silent word.RemoveSilent = true

-- UNCHANGEDSINCE SP n) SP, after a parenthesis (RFC 7162, section 3.1.3)
abbrev pub condition_after : Bool → Rule (Option ℕ)
condition_after false = give None
condition_after true = do
  name ← keyword is_astring_char condition_name CONDITIONS
  space
  since ← number 0 9223372036854775807
  octet 41
  space
  give (Some since)

abbrev pub condition : Rule (Option ℕ)
condition = do
  conditional ← flag 40
  condition_after conditional

-- flags in parentheses, or one or more without
abbrev pub store_flags_after : Bool → Rule (List Flag)
store_flags_after true = listed_end message_flag
store_flags_after false = separated 32 message_flag

abbrev pub store_flags : Rule (List Flag)
store_flags = do
  parenthesis ← flag 40
  store_flags_after parenthesis

abbrev pub store_spec : Rule StoreSpec
store_spec = do
  since ← condition
  name ← keyword is_astring_char store_name STORE_WORDS
  space
  flags ← store_flags
  give (record { unchanged_since = since; change = change_of name; silent = is_silent name; flags = flags })

-- ---- as they are written

abbrev pub store_word : StoreChange → (silent : Bool) → StoreWord
store_word change.Replace true = word.ReplaceSilent
store_word change.Replace false = word.Replace
store_word change.Add true = word.AddSilent
store_word change.Add false = word.Add
store_word change.Remove true = word.RemoveSilent
store_word change.Remove false = word.Remove

abbrev pub since_fits : Option ℕ → Bool
since_fits None = true
since_fits (Some n) = written.number64.fits n

abbrev pub since_text : Option ℕ → List ℕ
since_text None = []
since_text (Some n) = codes "(UNCHANGEDSINCE " ++ decimal n ++ codes ") "

-- with spaces between them, and none as an empty list
abbrev pub store_flags_text : List Flag → List ℕ
store_flags_text [] = writing.in_parentheses []
store_flags_text (flag ∷ flags) = writing.joined 32 written.message_flag.text (flag ∷ flags)

abbrev pub change_text : StoreChange → Bool → List Flag → List ℕ
change_text change silent flags =
    store_name (store_word change silent) ++ (32 ∷ store_flags_text flags)

abbrev pub store_spec_writing : Writing StoreSpec
store_spec_writing = record {
  fits = λ s. since_fits s.unchanged_since && list_all written.message_flag.fits s.flags;
  text = λ s. since_text s.unchanged_since ++ change_text s.change s.silent s.flags;
}
