-- The laws of COPY, MOVE, STORE and EXPUNGE.
use Rattle.std.proofs.Common.{ℕ, true, eqb, List, ◌∷◌, refl}
use Rattle.imap_syntax.specs.declared.set.Numbering.{Numbering}
use Rattle.imap_syntax.specs.Rule.{give, ◌>>=◌}
use Rattle.imap_syntax.specs.Lexical.{is_astring_char, is_atom_char}
use Rattle.imap_syntax.specs.Flags.{message_flag}
use Rattle.imap_commands.specs.commands.Argument.{argument}
use Rattle.imap_commands.specs.commands.Messages.{copy, move, uid_expunge, store}
use Rattle.imap_commands.specs.commands.Store.{condition_after, condition, store_flags_after, store_flags, store_spec}
use Rattle.imap_syntax.proofs.RuleLaws.{Anything, StopsAt, Lawful, MayFollow, ended_lawful, then_lawful, then_follows, after_anything, give_lawful, give_follows, octet_lawful, octet_then_follows}
use Rattle.imap_syntax.proofs.Opens.{then_opens, opens_follows}
use Rattle.imap_syntax.proofs.Lists.{flag_then_lawful, separated_opens}
use Rattle.imap_syntax.proofs.Words.{keyword_lawful}
use Rattle.imap_commands.proofs.Tables.{store_table, condition_table}
use Rattle.imap_syntax.proofs.Strings.{astring_lawful}
use Rattle.imap_syntax.proofs.Numbers.{number_lawful}
use Rattle.imap_syntax.proofs.Ends.{AtCr, AtEnd, cr_ends, cr_stops, end_stops, before, give_before, differs, keyword_opens, items_lawful, listed_end_lawful}
use Rattle.imap_syntax.proofs.Sets.{message_set_lawful, begins_flag, no_flag, message_flag_lawful, message_flag_opens}

pub argument_lawful : Lawful (StopsAt is_astring_char) argument
argument_lawful = ended_lawful (octet_lawful 32) (λ u. astring_lawful)

pub argument_follows : {Before After : List ℕ → Type 0} → ((rest : List ℕ) → Before (32 ∷ rest)) → MayFollow Before After argument
argument_follows may = octet_then_follows _ 32 may

pub last_argument : {A : Type 0} (value : List ℕ → A) → Lawful AtCr (argument >>= λ a. give (value a))
last_argument value = then_lawful argument_lawful (λ a. give_lawful _) (λ a. give_before _ (cr_stops is_astring_char refl))

pub copy_lawful : (numbering : Numbering) → Lawful AtCr (copy numbering)
copy_lawful numbering =
    ended_lawful (octet_lawful 32) (λ u.
    then_lawful message_set_lawful (λ messages. last_argument _) (λ messages. then_follows (argument_follows {After = Anything} (λ rest. refl)) (λ a. after_anything _)))

pub move_lawful : (numbering : Numbering) → Lawful AtCr (move numbering)
move_lawful numbering =
    ended_lawful (octet_lawful 32) (λ u.
    then_lawful message_set_lawful (λ messages. last_argument _) (λ messages. then_follows (argument_follows {After = Anything} (λ rest. refl)) (λ a. after_anything _)))

pub uid_expunge_lawful : Lawful AtCr uid_expunge
uid_expunge_lawful = ended_lawful (octet_lawful 32) (λ u. then_lawful message_set_lawful (λ messages. give_lawful _) (λ messages. give_before _ cr_ends))

-- ---- STORE

flag_before_end : Lawful AtEnd message_flag
flag_before_end = before (end_stops is_atom_char refl refl refl) message_flag_lawful

store_flags_lawful : Lawful AtCr store_flags
store_flags_lawful =
    flag_then_lawful 40 store_flags_after (listed_end_lawful begins_flag (no_flag 41 refl) message_flag_opens flag_before_end)
    (before (λ rest n. (cr_ends rest n, cr_stops (λ b. eqb b 32) refl rest n)) (items_lawful flag_before_end))
    (opens_follows (separated_opens 32 message_flag_opens) (λ b rest h. differs begins_flag 40 (no_flag 40 refl) b h))

condition_held : {After : List ℕ → Type 0} → Lawful After (condition_after true)
condition_held =
    then_lawful (keyword_lawful condition_table)
    (λ name. ended_lawful (octet_lawful 32) (λ u.
    then_lawful (number_lawful _ _)
    (λ since. ended_lawful (octet_lawful 41) (λ v. ended_lawful (octet_lawful 32) (λ w. give_lawful _)))
    (λ since. octet_then_follows _ 41 (λ rest. refl))))
    (λ name. octet_then_follows _ 32 (λ rest. refl))

condition_lawful : Lawful (StopsAt (λ b. eqb b 40)) condition
condition_lawful = flag_then_lawful 40 condition_after condition_held (give_lawful _) (give_follows _)

store_spec_lawful : Lawful AtCr store_spec
store_spec_lawful =
    then_lawful condition_lawful
    (λ since. then_lawful (keyword_lawful store_table)
    (λ word. ended_lawful (octet_lawful 32) (λ w. then_lawful store_flags_lawful (λ flags. give_lawful _) (λ flags. give_follows _)))
    (λ word. octet_then_follows _ 32 (λ rest. refl)))
    (λ since. opens_follows (then_opens _ (keyword_opens store_table)) (λ b rest h. differs is_astring_char 40 refl b h))

pub store_lawful : (numbering : Numbering) → Lawful AtCr (store numbering)
store_lawful numbering =
    ended_lawful (octet_lawful 32) (λ u.
    then_lawful message_set_lawful
    (λ messages. ended_lawful (octet_lawful 32) (λ v. then_lawful store_spec_lawful (λ spec. give_lawful _) (λ spec. give_follows _)))
    (λ messages. octet_then_follows _ 32 (λ rest. refl)))
