-- The laws of the dialect of IMAP4rev1.
use Rattle.std.proofs.Common.{◌≡◌, ◌∙◌, ap, sym, refl, subst, ℕ, Bool, true, false, cond, ◌||◌, List, [], ◌∷◌, ◌++◌, map, Option, Some, None}
use Rattle.std.specs.Prelude.{codes, if◌then◌else◌}
use Rattle.std.specs.List.{list_any, AllByRecursion}
use Rattle.imap_lex.specs.Framing.{crlf}
use Rattle.imap_lex.specs.CommandTag.{tag_of}
use Rattle.imap_lex.specs.Stream.{Section}
use Rattle.imap_lex.specs.declared.frame.Frame.{Frame}
use Rattle.imap_lex.specs.declared.frame.Frame.TheVariants as frame
use Rattle.imap_print.specs.Mailboxes.{value_text}
use Rattle.imap_print.specs.Printed.{line}
use Rattle.imap_print.specs.Strings.{name_text}
use Rattle.imap_print.specs.Words.{in_parentheses}
use Rattle.imap_print.specs.declared.response.Response.{Response}
use Rattle.imap_print.specs.declared.response.Response.TheVariants as response
use Rattle.imap_print.specs.declared.status.StatusValue.{StatusValue}
use Rattle.imap_rev1_frames.specs.declared.asked.Asked.{Asked}
use Rattle.imap_rev1_frames.specs.declared.named.Named.{Named}
use Rattle.imap_rev1_frames.specs.declared.named.Named.TheVariants as named
use Rattle.imap_rev1.specs.declared.rev1.Rev1.{Rev1}
use Rattle.imap_rev1.specs.declared.rev1.Rules.{Rules}
use Rattle.imap_rev1_frames.specs.Named.{after_tag, begins, is_fetch, is_word, named_in, named_by, is_rewritten}
use Rattle.imap_rev1_frames.specs.Scan.{start}
use Rattle.imap_rev1_frames.specs.Rewritten.{command_for, command_asked, asked_by}
use Rattle.imap_rev1.specs.Rev1.{told_by, items_words, status_text, enables_rev2}
use Rattle.imap_rev1.specs.Laws.{HandsOthersOn, KeepsTags, IsCommand, Becomes, StaysCommand, PrintsOthers, is_retold, names_capabilities, PrintsConditions, EndsByRev2, is_until_rev2, StaysUntilEnabled, StaysEnabled}
use Rattle.imap_rev1.proofs.Commands.{command_stays}
use Rattle.imap_rev1.proofs.FirstWord.{tag_kept}

-- ---- frames

pub hands_others_on : HandsOthersOn
hands_others_on state (frame.Whole octets) h = ap (λ b. frame.Whole (if b then command_for (named_in state.rev2 octets) octets else octets)) h
hands_others_on state frame.Continue h = refl
hands_others_on state (frame.Reject tag) h = refl
hands_others_on state frame.Hangup h = refl

tags_by : (command : Named) (octets : List ℕ) (b : Bool) → tag_of (cond b (command_for command octets) octets) ≡ tag_of octets
tags_by command octets true = tag_kept command octets
tags_by command octets false = refl

pub keeps_tags : KeepsTags
keeps_tags state (frame.Whole octets) = tags_by (named_in state.rev2 octets) octets (is_rewritten (named_in state.rev2 octets))
keeps_tags state frame.Continue = refl
keeps_tags state (frame.Reject tag) = refl
keeps_tags state frame.Hangup = refl

same_stays : (octets : List ℕ) (sections : List Section) (last : List ℕ) → IsCommand octets sections last → Becomes octets sections
same_stays octets sections last is = record { others = sections; end = last; command = is; literals = refl; inside = refl; frames = refl }

written_stays : (command : Named) (octets : List ℕ) (sections : List Section) (last : List ℕ) → IsCommand octets sections last → Becomes (command_for command octets) sections
written_stays command octets sections last is =
    subst (λ (l : List ℕ). Becomes (command_for command l) sections) (sym is.spelt) (command_stays (start command) sections last is.each is.ends)

stays_by : (command : Named) (octets : List ℕ) (sections : List Section) (last : List ℕ) (b : Bool) → IsCommand octets sections last → Becomes (cond b (command_for command octets) octets) sections
stays_by command octets sections last true is = written_stays command octets sections last is
stays_by command octets sections last false is = same_stays octets sections last is

pub stays_command : StaysCommand
stays_command state octets sections last is = stays_by (named_in state.rev2 octets) octets sections last (is_rewritten (named_in state.rev2 octets)) is

-- ---- replies

none_asked : (values : List StatusValue) → items_words [] values ≡ map value_text values
none_asked [] = refl
none_asked (value ∷ values) = ap (λ (l : List (List ℕ)). value_text value ∷ l) (none_asked values)

abbrev line_with : (mailbox : List ℕ) → List (List ℕ) → List ℕ
line_with mailbox words = (codes "* STATUS " ++ name_text mailbox ++ codes " " ++ in_parentheses words) ++ crlf

status_printed : (mailbox : List ℕ) (values : List StatusValue) → status_text [] mailbox values ++ crlf ≡ line (response.Status mailbox values)
status_printed mailbox values = ap (line_with mailbox) (none_asked values)

command_asked_none : (command : Named) (octets : List ℕ) → is_retold command ≡ false → command_asked command octets ≡ []
command_asked_none named.Check octets h = refl
command_asked_none named.Other octets h = refl
command_asked_none _ octets h = absurd cc

none_asked_by : (command : Named) (by : Option Frame) → is_retold command ≡ false → asked_by command by ≡ []
none_asked_by command None h = refl
none_asked_by command (Some (frame.Whole octets)) h = command_asked_none command octets h
none_asked_by command (Some frame.Continue) h = refl
none_asked_by command (Some (frame.Reject tag)) h = refl
none_asked_by command (Some frame.Hangup) h = refl

abbrev record_rules : Named → List Asked → Rules
record_rules command all = record { named = command; asked = all }

check_told : (reply : Response) → names_capabilities reply ≡ false → told_by (record_rules named.Check []) reply ≡ line reply
check_told response.Greeting h = absurd cc
check_told response.Capability h = absurd cc
check_told (response.Status mailbox values) h = status_printed mailbox values
check_told _ h = refl

other_told : (reply : Response) → names_capabilities reply ≡ false → told_by (record_rules named.Other []) reply ≡ line reply
other_told response.Greeting h = absurd cc
other_told response.Capability h = absurd cc
other_told (response.Status mailbox values) h = status_printed mailbox values
other_told _ h = refl

plain_told : (command : Named) (reply : Response) → is_retold command ≡ false → names_capabilities reply ≡ false → told_by (record_rules command []) reply ≡ line reply
plain_told named.Check reply h other = check_told reply other
plain_told named.Other reply h other = other_told reply other
plain_told _ reply h other = absurd cc

pub prints_others : PrintsOthers
prints_others state by reply h other =
    let command = named_by state.rev2 by in
    ap (λ (r : List Asked). told_by (record_rules command r) reply) (none_asked_by command by h) ∙ plain_told command reply h other

pub prints_conditions : PrintsConditions
prints_conditions state by (response.Bye farewell) h = refl
prints_conditions state by (response.Done tag code) h = refl
prints_conditions state by (response.Refused tag refusal) h = refl
prints_conditions state by _ h = absurd cc

-- ---- ENABLE

ended_by : (a b c : Bool) → is_until_rev2 (cond a named.Check (cond b named.Lsub (cond c named.Fetch named.Other))) ≡ false
ended_by true b c = refl
ended_by false true c = refl
ended_by false false true = refl
ended_by false false false = refl

pub ends_by_rev2 : EndsByRev2
ends_by_rev2 None = refl
ends_by_rev2 (Some (frame.Whole octets)) = ended_by (is_word (codes "CHECK\r\n") (after_tag octets)) (begins (codes "LSUB ") (after_tag octets)) (is_fetch (after_tag octets))
ends_by_rev2 (Some frame.Continue) = refl
ends_by_rev2 (Some (frame.Reject tag)) = refl
ends_by_rev2 (Some frame.Hangup) = refl

none_enables : (replies : List Response) → AllByRecursion (λ reply. enables_rev2 reply ≡ false) replies → list_any enables_rev2 replies ≡ false
none_enables [] h = refl
none_enables (reply ∷ replies) h = rw (h.0, none_enables replies h.1) refl

or_false : (b c : Bool) → c ≡ false → (b || c) ≡ b
or_false true c h = refl
or_false false c h = h

abbrev rev1_of : Bool → Rev1
rev1_of b = record { rev2 = b }

pub stays_until_enabled : StaysUntilEnabled
stays_until_enabled state frame replies h = ap rev1_of (or_false state.rev2 (list_any enables_rev2 replies) (none_enables replies h))

pub stays_enabled : StaysEnabled
stays_enabled state frame replies h = ap (λ b. rev1_of (b || list_any enables_rev2 replies)) h ∙ ap rev1_of (sym h)
