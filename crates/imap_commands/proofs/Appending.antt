-- The laws of APPEND.
use Rattle.std.proofs.Common.{◌≡◌, ℕ, Bool, true, eqb, ◌||◌, List, refl, arith}
use Rattle.std.proofs.lemmas.Bool.Decides.{nat_tests}
use Rattle.imap_syntax.specs.Lexical.{is_atom_char}
use Rattle.imap_commands.specs.commands.Append.{flags_after, append_flags, date_after, append_date, message, append}
use Rattle.imap_syntax.proofs.RuleLaws.{Anything, StopsAt, Lawful, MayFollow, ended_lawful, then_lawful, then_follows, after_anything, give_lawful, give_follows, octet_lawful, octet_then_follows}
use Rattle.imap_syntax.proofs.Opens.{opens_weaker, Opens, then_opens, opens_follows}
use Rattle.imap_syntax.proofs.Lists.{flag_lawful, flag_then_lawful, flag_then_follows, flag_then_opens, counted_lawful}
use Rattle.imap_syntax.proofs.Strings.{literal_head_lawful, literal_head_opens}
use Rattle.imap_syntax.proofs.Ends.{before, end_stops, differs, listed_end_lawful}
use Rattle.imap_syntax.proofs.Sets.{begins_flag, no_flag, message_flag_lawful, message_flag_opens}
use Rattle.imap_syntax.proofs.Dates.{date_time_end_lawful}
use Rattle.imap_commands.proofs.Stores.{argument_lawful}

append_flags_lawful : Lawful (StopsAt (λ b. eqb b 40)) append_flags
append_flags_lawful =
    flag_then_lawful 40 flags_after
    (ended_lawful (listed_end_lawful begins_flag (no_flag 41 refl) message_flag_opens (before (end_stops is_atom_char refl refl refl) message_flag_lawful)) (λ flags. ended_lawful (octet_lawful 32) (λ u. give_lawful _)))
    (give_lawful _)
    (give_follows _)

append_date_lawful : Lawful (StopsAt (λ b. eqb b 34)) append_date
append_date_lawful =
    flag_then_lawful 34 date_after
    (ended_lawful date_time_end_lawful (λ moment. ended_lawful (octet_lawful 32) (λ u. give_lawful _)))
    (give_lawful _)
    (give_follows _)

message_lawful : {After : List ℕ → Type 0} → Lawful After message
message_lawful =
    then_lawful (flag_lawful 126) (λ tilde. ended_lawful literal_head_lawful (λ n. counted_lawful n))
    (λ tilde. opens_follows (then_opens _ literal_head_opens) (λ b rest h. differs (λ b. eqb b 123) 126 refl b h))

-- ~ or {
abbrev begins_message : ℕ → Bool
begins_message b = eqb b 126 || eqb b 123

brace_begins : (b : ℕ) → eqb b 123 ≡ true → begins_message b ≡ true
brace_begins b h = grind (arith, nat_tests)

message_opens : Opens begins_message message
message_opens = flag_then_opens 126 _ refl (opens_weaker brace_begins (then_opens _ literal_head_opens))

-- what doesn't begin as flags or a date do
no_date : MayFollow (StopsAt (λ b. eqb b 34)) Anything message
no_date = opens_follows message_opens (λ b rest h. differs begins_message 34 refl b h)

no_flags : MayFollow (StopsAt (λ b. eqb b 40)) Anything message
no_flags = opens_follows message_opens (λ b rest h. differs begins_message 40 refl b h)

date_follows : MayFollow (StopsAt (λ b. eqb b 40)) (StopsAt (λ b. eqb b 40)) append_date
date_follows = flag_then_follows 34 date_after (λ rest. refl) (give_follows _)

pub append_lawful : {After : List ℕ → Type 0} → Lawful After append
append_lawful =
    then_lawful argument_lawful
    (λ mailbox. ended_lawful (octet_lawful 32) (λ u.
    then_lawful append_flags_lawful
    (λ flags. then_lawful append_date_lawful
    (λ moment. ended_lawful message_lawful (λ octets. give_lawful _))
    (λ moment. then_follows no_date (λ octets. after_anything _)))
    (λ flags. then_follows date_follows (λ moment. then_follows no_flags (λ octets. after_anything _)))))
    (λ mailbox. octet_then_follows _ 32 (λ rest. refl))
