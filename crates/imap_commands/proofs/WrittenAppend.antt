-- The arguments of APPEND are written as they are spelt.
use Rattle.std.proofs.Common.{◌≡◌, ℕ, ◌<◌, ◌^◌, Bool, true, false, cond, ◌&&◌, ltb, List, [], ◌∷◌, ◌++◌, length, Option, Some, None, refl, sym, ◌∙◌, arith}
use Rattle.std.specs.Fmt.{decimal as decimal_text}
use Rattle.std.specs.List.{list_all}
use Rattle.std.proofs.lemmas.Bool.Decides.{nat_tests}
use Rattle.std.proofs.lemmas.List.{append-nil}
use Rattle.imap_commands.specs.declared.command.Command.{Command}
use Rattle.imap_commands.specs.declared.command.Command.TheVariants as command
use Rattle.imap_syntax.specs.declared.flag.Flag.{Flag}
use Rattle.imap_syntax.specs.Moments.{Moment}
use Rattle.imap_syntax.specs.Rule.{give, ◌>>=◌, counted}
use Rattle.imap_syntax.specs.Lexical as lexical
use Rattle.imap_syntax.specs.Lexical.{has_nul}
use Rattle.imap_syntax.specs.Flags as flags
use Rattle.imap_commands.specs.commands.Append as append_rules
use Rattle.imap_syntax.specs.Written.{string, astring, literal_text, message_flag}
use Rattle.imap_syntax.specs.WrittenDates.{date_time_end}
use Rattle.imap_commands.specs.commands.Argument.{argument_text}
use Rattle.imap_commands.specs.commands.Append.{date_fits, date_text, message_text, flags_text, append_fits, append_text}
use Rattle.imap_syntax.proofs.Writing.{both_true, both, end_text, listed_end_made, listed_end_fits}
use Rattle.imap_syntax.proofs.Written.{astring_writes, message_flag_writes, literal_head_made, head_within}
use Rattle.imap_syntax.proofs.WrittenDates.{date_time_writes}

-- ---- flags

-- nothing, or in parentheses, and a space
flags_made : (fs : List Flag) → list_all message_flag.fits fs ≡ true → append_rules.append_flags.spells fs (flags_text fs)
flags_made [] h = (false, [], [], refl, (refl, refl), refl)
flags_made (f ∷ fs) h =
    let all : List Flag = f ∷ fs in
    let shown = end_text message_flag all in
    let close : (lexical.space >>= λ u. give all).spells all (32 ∷ []) = (tt, 32 ∷ [], [], refl, (refl, refl), refl) in
    (true, 40 ∷ [], shown ++ 32 ∷ [], refl, (all, shown, 32 ∷ [], listed_end_made flags.message_flag message_flag message_flag_writes all h, close, refl), refl)

flags_fit : (parenthesis : Bool) (fs : List Flag) (text : List ℕ) → (append_rules.flags_after parenthesis).spells fs text → list_all message_flag.fits fs ≡ true
flags_fit false fs text h = rw (h.0) refl
flags_fit true fs text h = rw (h.4.4.0) (listed_end_fits flags.message_flag message_flag message_flag_writes h.0 h.1 h.3)

-- ---- the moment

moment_made : (moment : Option Moment) → date_fits moment ≡ true → append_rules.append_date.spells moment (date_text moment)
moment_made None h = (false, [], [], refl, (refl, refl), refl)
moment_made (Some moment) h =
    let shown = date_time_end.text moment in
    let close : (lexical.space >>= λ u. give (Some moment)).spells (Some moment) (32 ∷ []) = (tt, 32 ∷ [], [], refl, (refl, refl), refl) in
    (true, 34 ∷ [], shown ++ 32 ∷ [], refl, (moment, shown, 32 ∷ [], date_time_writes.made moment h, close, refl), refl)

moment_behind_fits : (quote : Bool) (moment : Option Moment) (text : List ℕ) → (append_rules.date_after quote).spells moment text → date_fits moment ≡ true
moment_behind_fits false moment text h = rw (h.0) refl
moment_behind_fits true moment text h = rw (h.4.4.0) (date_time_writes.fits h.0 h.1 h.3)

-- ---- the message

literal_made : (octets : List ℕ) → ltb (length octets) 18446744073709551616 ≡ true → (lexical.literal_head >>= λ n. counted n).spells octets (literal_text octets)
literal_made octets h =
    let n = length octets in
    let short : n < 2 ^ 64 = grind (arith, nat_tests) in
    (n, 123 ∷ (decimal_text n ++ 125 ∷ 13 ∷ 10 ∷ []), octets, literal_head_made n short, (refl, refl), refl)

message_by : (octets : List ℕ) (nul : Bool) → ltb (length octets) 18446744073709551616 ≡ true → append_rules.message.spells octets (cond nul (126 ∷ literal_text octets) (literal_text octets))
message_by octets true h = (true, 126 ∷ [], literal_text octets, refl, literal_made octets h, refl)
message_by octets false h = (false, [], literal_text octets, refl, literal_made octets h, refl)

message_made : (octets : List ℕ) → ltb (length octets) 18446744073709551616 ≡ true → append_rules.message.spells octets (message_text octets)
message_made octets h = message_by octets (has_nul octets) h

message_fits : (octets text : List ℕ) → append_rules.message.spells octets text → ltb (length octets) 18446744073709551616 ≡ true
message_fits octets text h = let head = h.4 in rw (head.4.1) (head_within head.0 head.1 head.3)

-- ---- APPEND

pub append_made : (mailbox : List ℕ) (fs : List Flag) (moment : Option Moment) (message : List ℕ) → append_fits mailbox fs moment message ≡ true
    → append_rules.append.spells (command.Append mailbox fs moment message) (append_text mailbox fs moment message)
append_made mailbox fs moment message h =
    let p = both_true (string.fits mailbox) (list_all message_flag.fits fs && (date_fits moment && ltb (length message) 18446744073709551616)) h in
    let q = both_true (list_all message_flag.fits fs) (date_fits moment && ltb (length message) 18446744073709551616) p.1 in
    let r = both_true (date_fits moment) (ltb (length message) 18446744073709551616) q.1 in
    let shown = flags_text fs in
    let day = date_text moment in
    let octets = message_text message in (
      mailbox,
      argument_text mailbox,
      32 ∷ (shown ++ (day ++ octets)),
      (tt, 32 ∷ [], astring.text mailbox, refl, astring_writes.made mailbox p.0, refl),
      (
        tt,
        32 ∷ [],
        shown ++ (day ++ octets),
        refl,
        (
          fs,
          shown,
          day ++ octets,
          flags_made fs q.0,
          (moment, day, octets, moment_made moment r.0, (message, octets, [], message_made message r.1, (refl, refl), sym (append-nil octets)), refl),
          refl,
        ),
        refl,
      ),
      refl,
    )

pub append_fits_all : (fits : Command → Bool) (b : Command) (text : List ℕ)
    → ((mailbox : List ℕ) (fs : List Flag) (moment : Option Moment) (message : List ℕ) → fits (command.Append mailbox fs moment message) ≡ append_fits mailbox fs moment message)
    → append_rules.append.spells b text → fits b ≡ true
append_fits_all fits b text e h =
    let fs = h.4.4 in
    let moment = fs.4 in
    let message = moment.4 in
    rw (message.4.0) (e h.0 fs.0 moment.0 message.0 ∙ both _ _ (astring_writes.fits h.0 h.3.2 h.3.4) (both _ _ (flags_fit fs.3.0 fs.0 fs.3.2 fs.3.4) (both _ _ (moment_behind_fits moment.3.0 moment.0 moment.3.2 moment.3.4) (message_fits message.0 message.1 message.3))))
