-- APPEND (RFC 9051, section 6.3.12; RFC 4314, section 4).
use Rattle.std.specs.Prelude.{ℕ, Bool, true, not, ◌==◌, List, [], ◌∷◌, Option, Some, None, if◌then◌else◌}
use Rattle.std.specs.FinMap as map
use Rattle.imap_answer.specs.Answer.{Answer, done_with_code, refusal}
use Rattle.imap_answer.specs.Name.{if_named}
use Rattle.imap_batch.specs.Batch.{adding}
use Rattle.imap_batch.specs.declared.batch.NewMessage.{NewMessage}
use Rattle.imap_mailbox.specs.Flags.{has_too_many}
use Rattle.imap_names.specs.Name.{Name}
use Rattle.imap_print.specs.declared.response.Refusal.TheVariants.{Cannot, Limit, OverQuota}
use Rattle.imap_rights.specs.Rights.{has_any, insert}
use Rattle.imap_syntax.specs.declared.flag.Flag.{Flag}
use Rattle.imap_syntax.specs.Lexical.{has_nul}
use Rattle.imap_syntax.specs.Moments.{Moment}
use Rattle.imap_view.specs.Seen.{Seen}
use Rattle.imap_view.specs.View.{View}
use Rattle.imap_world.specs.declared.effect.Effect.{Effect}
use Rattle.imap_targets.specs.Effects.{batch_effect}
use Rattle.imap_targets.specs.NewFlags.{is_new_seen, new_flags}
use Rattle.imap_targets.specs.Target.{append_code, target_refusal}

-- the arguments of APPEND
pub record AppendArguments : Type 0 where
  pub mailbox : List ℕ
  pub flags : List Flag
  pub date : Option Moment
  pub message : List ℕ

-- none may be added, as far as the user may know
abbrev pub is_full : (room : Option ℕ) → Bool
is_full None = true
is_full (Some room) = room == 0

-- the date that is given, or else the moment of the command
abbrev pub date_or : Option Moment → Moment → Moment
date_or (Some date) at = date
date_or None at = at

abbrev pub message_of : (rights : ℕ) → (at : Moment) → AppendArguments → NewMessage
message_of rights at arguments = record {
  date = date_or arguments.date at;
  octets = arguments.message;
  flags = new_flags rights arguments.flags;
  seen = is_new_seen rights arguments.flags;
}

abbrev pub appends : (user : List ℕ) → Name → NewMessage → Effect
appends user name message = batch_effect name (adding user (message ∷ []))

-- ---- the answer. A message of text has no NUL (RFC 9051, section 4.3.1)

abbrev pub append_message : View → (tag : List ℕ) → Name → Seen → NewMessage → Answer
append_message view tag name seen message =
    if has_too_many message.flags then refusal tag Limit
    else if is_full seen.messages.room then refusal tag OverQuota
    else done_with_code tag (append_code seen) (appends view.user name message)

abbrev pub append_to_seen : View → (tag : List ℕ) → (at : Moment) → AppendArguments → Name → Option Seen →
    Answer
append_to_seen view tag at arguments name None = refusal tag (target_refusal view name)
append_to_seen view tag at arguments name (Some seen) =
    if not (has_any seen.rights insert) then refusal tag (target_refusal view name)
    else if has_nul arguments.message then refusal tag Cannot
    else append_message view tag name seen (message_of seen.rights at arguments)

abbrev pub append_to_name : View → (tag : List ℕ) → (at : Moment) → AppendArguments → Name → Answer
append_to_name view tag at arguments name = append_to_seen view tag at arguments name (map.get view.seen name)

abbrev pub append_answer : View → (tag : List ℕ) → (at : Moment) → AppendArguments → Answer
append_answer view tag at arguments =
    if_named view tag arguments.mailbox (append_to_name view tag at arguments)
