-- The laws of commands.
use Rattle.std.proofs.Common.{ℕ, eqb, List, refl}
use Rattle.imap_syntax.specs.declared.set.Numbering.TheVariants.{Sequence, Uid}
use Rattle.imap_commands.specs.declared.command.Command.{Command}
use Rattle.imap_commands.specs.declared.commands.select.SelectParameters.{SelectParameters}
use Rattle.imap_commands.specs.commands.Select.{parameters}
use Rattle.imap_commands.specs.declared.verb.Verb.{Verb}
use Rattle.imap_commands.specs.declared.verb.Verb.TheVariants as verb
use Rattle.imap_commands.specs.declared.verb.UidVerb.{UidVerb}
use Rattle.imap_commands.specs.declared.verb.UidVerb.TheVariants as uid
use Rattle.imap_syntax.specs.Rule.{Rule, give, ◌>>=◌, octet}
use Rattle.imap_commands.specs.commands.Argument.{argument}
use Rattle.imap_syntax.specs.Lexical.{is_astring_char, is_atom_char, is_tag_char}
use Rattle.imap_commands.specs.commands.Mailboxes.{status}
use Rattle.imap_commands.specs.commands.Enable.{enable}
use Rattle.imap_commands.specs.commands.Messages.{uid_arguments, uid_command}
use Rattle.imap_commands.specs.Reading.{arguments, after_tag, command}
use Rattle.imap_syntax.proofs.RuleLaws.{Anything, StopsAt, Lawful, MayFollow, then_lawful, ended_lawful, give_lawful, give_follows, octet_lawful, octet_then_follows, then_follows, after_anything, some_of_lawful}
use Rattle.imap_syntax.proofs.Words.{keyword_lawful}
use Rattle.imap_commands.proofs.Tables.{verb_table, uid_verb_table}
use Rattle.imap_syntax.proofs.Strings.{crlf_lawful}
use Rattle.imap_syntax.proofs.Ends.{AtCr, cr_ends, cr_stops, end_stops, before, give_before, items_lawful, listed_lawful}
use Rattle.imap_commands.proofs.QueryLaws.{fetch_lawful, search_lawful}
use Rattle.imap_commands.proofs.Listing.{status_item_lawful, list_lawful}
use Rattle.imap_commands.proofs.Appending.{append_lawful}
use Rattle.imap_commands.proofs.LoginLaws.{any_arguments_lawful, any_arguments_follow}
use Rattle.imap_commands.proofs.Selecting.{parameters_lawful, parameters_follow}
use Rattle.imap_commands.proofs.Stores.{argument_lawful, argument_follows, last_argument, copy_lawful, move_lawful, uid_expunge_lawful, store_lawful}

-- ---- commands

-- what begins with a space
abbrev Spaced : {A : Type 0} → Rule A → Type 0
Spaced q = MayFollow (StopsAt is_astring_char) AtCr q

spaced : {A : Type 0} (next : Unit {0} → Rule A) → Spaced (octet 32 >>= next)
spaced next = octet_then_follows next 32 (λ rest. refl)

spaced_argument : {A : Type 0} (next : List ℕ → Rule A) → Spaced (argument >>= next)
spaced_argument next = then_follows (argument_follows {After = Anything} (λ rest. refl)) (λ a. after_anything _)

-- an argument, and then another
one_more : {A : Type 0} {next : List ℕ → Rule A} → ((a : List ℕ) → Lawful AtCr (next a)) → ((a : List ℕ) → Spaced (next a)) → Lawful AtCr (argument >>= next)
one_more law follows = then_lawful argument_lawful law follows

status_lawful : Lawful AtCr status
status_lawful = one_more (λ mailbox. ended_lawful (octet_lawful 32) (λ u. ended_lawful (listed_lawful status_item_lawful) (λ items. give_lawful _))) (λ mailbox. spaced _)

-- a mailbox and its parameters
parameters_behind_argument : (make : List ℕ → SelectParameters → Command) → Lawful AtCr (do mailbox ← argument; given ← parameters; give (make mailbox given))
parameters_behind_argument make =
    one_more (λ mailbox. then_lawful parameters_lawful (λ given. give_lawful _) (λ given. give_follows _))
    (λ mailbox. then_follows parameters_follow (λ given. give_follows _))

enable_lawful : Lawful AtCr enable
enable_lawful =
    ended_lawful (octet_lawful 32) (λ u.
    then_lawful (items_lawful (before (end_stops is_atom_char refl refl refl) (some_of_lawful is_atom_char))) (λ words. give_lawful _)
    (λ words. give_before _ (λ rest n. (cr_ends rest n, cr_stops (λ b. eqb b 32) refl rest n))))

uid_lawful : (word : UidVerb) → Lawful AtCr (uid_arguments word)
uid_lawful uid.Copy = copy_lawful Uid
uid_lawful uid.Expunge = uid_expunge_lawful
uid_lawful uid.Fetch = fetch_lawful Uid
uid_lawful uid.Move = move_lawful Uid
uid_lawful uid.Search = search_lawful Uid
uid_lawful uid.Store = store_lawful Uid

uid_follows : (word : UidVerb) → Spaced (uid_arguments word)
uid_follows uid.Copy = spaced _
uid_follows uid.Expunge = spaced _
uid_follows uid.Fetch = spaced _
uid_follows uid.Move = spaced _
uid_follows uid.Search = spaced _
uid_follows uid.Store = spaced _

uid_command_lawful : Lawful AtCr uid_command
uid_command_lawful = ended_lawful (octet_lawful 32) (λ u. then_lawful (keyword_lawful uid_verb_table) uid_lawful uid_follows)

arguments_lawful : (v : Verb) → Lawful AtCr (arguments v)
arguments_lawful verb.Append = append_lawful
arguments_lawful verb.Authenticate = any_arguments_lawful
arguments_lawful verb.Capability = give_lawful _
arguments_lawful verb.Close = give_lawful _
arguments_lawful verb.Copy = copy_lawful Sequence
arguments_lawful verb.Create = last_argument _
arguments_lawful verb.Delete = last_argument _
arguments_lawful verb.DeleteAcl = one_more (λ a. last_argument _) (λ a. spaced_argument _)
arguments_lawful verb.Enable = enable_lawful
arguments_lawful verb.Examine = parameters_behind_argument _
arguments_lawful verb.Expunge = give_lawful _
arguments_lawful verb.Fetch = fetch_lawful Sequence
arguments_lawful verb.GetAcl = last_argument _
arguments_lawful verb.Idle = give_lawful _
arguments_lawful verb.List = list_lawful
arguments_lawful verb.ListRights = one_more (λ a. last_argument _) (λ a. spaced_argument _)
arguments_lawful verb.Login = any_arguments_lawful
arguments_lawful verb.Logout = give_lawful _
arguments_lawful verb.Move = move_lawful Sequence
arguments_lawful verb.MyRights = last_argument _
arguments_lawful verb.Namespace = give_lawful _
arguments_lawful verb.Noop = give_lawful _
arguments_lawful verb.Rename = one_more (λ a. last_argument _) (λ a. spaced_argument _)
arguments_lawful verb.Search = search_lawful Sequence
arguments_lawful verb.Select = parameters_behind_argument _
arguments_lawful verb.SetAcl = one_more (λ a. one_more (λ b. last_argument _) (λ b. spaced_argument _)) (λ a. spaced_argument _)
arguments_lawful verb.StartTls = any_arguments_lawful
arguments_lawful verb.Status = status_lawful
arguments_lawful verb.Store = store_lawful Sequence
arguments_lawful verb.Subscribe = last_argument _
arguments_lawful verb.Uid = uid_command_lawful
arguments_lawful verb.Unselect = give_lawful _
arguments_lawful verb.Unsubscribe = last_argument _

arguments_follow : (v : Verb) → Spaced (arguments v)
arguments_follow verb.Append = spaced_argument _
arguments_follow verb.Authenticate = any_arguments_follow
arguments_follow verb.Capability = give_before _ (cr_stops is_astring_char refl)
arguments_follow verb.Close = give_before _ (cr_stops is_astring_char refl)
arguments_follow verb.Copy = spaced _
arguments_follow verb.Create = spaced_argument _
arguments_follow verb.Delete = spaced_argument _
arguments_follow verb.DeleteAcl = spaced_argument _
arguments_follow verb.Enable = spaced _
arguments_follow verb.Examine = spaced_argument _
arguments_follow verb.Expunge = give_before _ (cr_stops is_astring_char refl)
arguments_follow verb.Fetch = spaced _
arguments_follow verb.GetAcl = spaced_argument _
arguments_follow verb.Idle = give_before _ (cr_stops is_astring_char refl)
arguments_follow verb.List = spaced _
arguments_follow verb.ListRights = spaced_argument _
arguments_follow verb.Login = any_arguments_follow
arguments_follow verb.Logout = give_before _ (cr_stops is_astring_char refl)
arguments_follow verb.Move = spaced _
arguments_follow verb.MyRights = spaced_argument _
arguments_follow verb.Namespace = give_before _ (cr_stops is_astring_char refl)
arguments_follow verb.Noop = give_before _ (cr_stops is_astring_char refl)
arguments_follow verb.Rename = spaced_argument _
arguments_follow verb.Search = spaced _
arguments_follow verb.Select = spaced_argument _
arguments_follow verb.SetAcl = spaced_argument _
arguments_follow verb.StartTls = any_arguments_follow
arguments_follow verb.Status = spaced_argument _
arguments_follow verb.Store = spaced _
arguments_follow verb.Subscribe = spaced_argument _
arguments_follow verb.Uid = spaced _
arguments_follow verb.Unselect = give_before _ (cr_stops is_astring_char refl)
arguments_follow verb.Unsubscribe = spaced_argument _

after_tag_lawful : {After : List ℕ → Type 0} → Lawful After after_tag
after_tag_lawful =
    ended_lawful (octet_lawful 32) (λ u.
    then_lawful (keyword_lawful verb_table)
    (λ name. then_lawful (arguments_lawful name)
    (λ given. ended_lawful crlf_lawful (λ v. give_lawful _))
    (λ given. then_follows (octet_then_follows _ 13 (λ rest. refl)) (λ v. after_anything _)))
    (λ name. then_follows (arguments_follow name) (λ given. then_follows (octet_then_follows _ 13 (λ rest. refl)) (λ v. after_anything _))))

pub command_lawful : {After : List ℕ → Type 0} → Lawful After command
command_lawful =
    then_lawful (some_of_lawful is_tag_char)
    (λ tag. ended_lawful after_tag_lawful (λ given. give_lawful _))
    (λ tag. then_follows (octet_then_follows {After = Anything} _ 32 (λ rest. refl)) (λ given. after_anything _))
