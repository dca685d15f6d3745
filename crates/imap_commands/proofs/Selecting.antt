-- The laws of the parameters of SELECT and EXAMINE.
use Rattle.std.proofs.Common.{ℕ, eqb, List, refl}
use Rattle.std.specs.Char.{is_ascii_digit}
use Rattle.imap_commands.specs.declared.commands.select.ParameterWord.{ParameterWord}
use Rattle.imap_commands.specs.declared.commands.select.ParameterWord.TheVariants as word
use Rattle.imap_commands.specs.declared.commands.select.Parameter.{Parameter}
use Rattle.imap_syntax.specs.Lexical.{is_astring_char}
use Rattle.imap_commands.specs.commands.Select.{known_set, match_end, match_after, match_data, known_or_match, known_after, known_uids, qresync, parameter_after, parameter, another_after, another_parameter, parameters_after, parameters}
use Rattle.imap_syntax.proofs.RuleLaws.{Anything, StopsAt, Lawful, MayFollow, ended_lawful, then_lawful, then_follows, after_anything, give_lawful, give_follows, octet_lawful, octet_follows, octet_then_follows}
use Rattle.imap_syntax.proofs.Opens.{then_opens, opens_follows}
use Rattle.imap_syntax.proofs.Lists.{EndsList, when_lawful, when_follows, flag_then_lawful, flag_then_follows, judged_lawful, judged_follows}
use Rattle.imap_syntax.proofs.Words.{keyword_lawful}
use Rattle.imap_commands.proofs.Tables.{parameter_table}
use Rattle.imap_syntax.proofs.Numbers.{number_lawful, nz_number_lawful}
use Rattle.imap_syntax.proofs.Ends.{AtCr, AtEnd, cr_stops, end_stops, before, give_before, differs}
use Rattle.imap_syntax.proofs.Sets.{seq_set_lawful, seq_set_opens, begins_number, no_parenthesis}

known_set_lawful : Lawful AtEnd known_set
known_set_lawful = then_lawful seq_set_lawful (λ set. when_lawful _ _) (λ set. when_follows _ _)

match_end_lawful : {After : List ℕ → Type 0} → Lawful After match_end
match_end_lawful =
    then_lawful known_set_lawful
    (λ numbers. ended_lawful (octet_lawful 32) (λ u. then_lawful known_set_lawful (λ uids. octet_lawful 41) (λ uids. octet_follows 41 (λ rest. refl))))
    (λ numbers. octet_then_follows _ 32 (λ rest. refl))

-- what may stand behind the last part
abbrev AtLast : List ℕ → Type 0
AtLast = EndsList 32 AtEnd

match_lawful : Lawful AtLast match_data
match_lawful = flag_then_lawful 32 match_after (ended_lawful (octet_lawful 40) (λ u. match_end_lawful)) (give_lawful _) (give_before _ (λ rest n. n.1))

match_follows : MayFollow AtEnd AtLast match_data
match_follows = flag_then_follows 32 match_after (λ rest. refl) (give_before _ (λ rest n. n.0))

known_uids_lawful : Lawful AtLast known_uids
known_uids_lawful =
    flag_then_lawful 32 known_after
    (flag_then_lawful 40 known_or_match
    (ended_lawful match_end_lawful (λ u. give_lawful _))
    (then_lawful known_set_lawful (λ uids. then_lawful match_lawful (λ u. give_lawful _) (λ u. give_follows _)) (λ uids. then_follows match_follows (λ u. give_follows _)))
    (opens_follows (then_opens _ (then_opens _ seq_set_opens)) (λ b rest h. differs begins_number 40 no_parenthesis b h)))
    (give_lawful _)
    (give_before _ (λ rest n. n.1))

known_uids_follow : MayFollow (StopsAt is_ascii_digit) AtLast known_uids
known_uids_follow = flag_then_follows 32 known_after (λ rest. refl) (give_before _ (λ rest n. end_stops is_ascii_digit refl refl refl rest n.0))

qresync_lawful : {After : List ℕ → Type 0} → Lawful After qresync
qresync_lawful =
    ended_lawful (octet_lawful 32) (λ u.
    ended_lawful (octet_lawful 40) (λ v.
    then_lawful (nz_number_lawful _)
    (λ validity. ended_lawful (octet_lawful 32) (λ w.
    then_lawful (number_lawful _ _)
    (λ mod_seq. then_lawful known_uids_lawful (λ known. ended_lawful (octet_lawful 41) (λ x. give_lawful _)) (λ known. octet_then_follows _ 41 (λ rest. (refl, refl))))
    (λ mod_seq. then_follows known_uids_follow (λ known. octet_then_follows _ 41 (λ rest. (refl, refl))))))
    (λ validity. octet_then_follows _ 32 (λ rest. refl))))

-- ---- parameters

parameter_behind_lawful : (name : ParameterWord) → Lawful AtEnd (parameter_after name)
parameter_behind_lawful word.Condstore = give_lawful _
parameter_behind_lawful word.Qresync = ended_lawful qresync_lawful (λ known. give_lawful _)

parameter_behind_follows : (name : ParameterWord) → MayFollow (StopsAt is_astring_char) AtEnd (parameter_after name)
parameter_behind_follows word.Condstore = give_before _ (end_stops is_astring_char refl refl refl)
parameter_behind_follows word.Qresync = then_follows (octet_then_follows {After = Anything} _ 32 (λ rest. refl)) (λ known. after_anything _)

parameter_lawful : Lawful AtEnd parameter
parameter_lawful = then_lawful (keyword_lawful parameter_table) parameter_behind_lawful parameter_behind_follows

another_lawful : (first : Parameter) → Lawful AtLast (another_parameter first)
another_lawful first =
    flag_then_lawful 32 (another_after first)
    (before (λ rest n. n.0) (then_lawful parameter_lawful (λ second. judged_lawful _) (λ second. judged_follows _)))
    (give_lawful _)
    (give_before _ (λ rest n. n.1))

another_follows : (first : Parameter) → MayFollow AtEnd AtLast (another_parameter first)
another_follows first = flag_then_follows 32 (another_after first) (λ rest. refl) (give_before _ (λ rest n. n.0))

pub parameters_lawful : Lawful AtCr parameters
parameters_lawful =
    flag_then_lawful 32 parameters_after
    (ended_lawful (octet_lawful 40) (λ u.
    then_lawful parameter_lawful
    (λ first. then_lawful (another_lawful first) (λ all. ended_lawful (octet_lawful 41) (λ v. give_lawful _)) (λ all. octet_then_follows _ 41 (λ rest. (refl, refl))))
    (λ first. then_follows (another_follows first) (λ all. octet_then_follows _ 41 (λ rest. (refl, refl))))))
    (give_lawful _)
    (give_before _ (cr_stops (λ b. eqb b 32) refl))

pub parameters_follow : MayFollow (StopsAt is_astring_char) AtCr parameters
parameters_follow = flag_then_follows 32 parameters_after (λ rest. refl) (give_before _ (cr_stops is_astring_char refl))
