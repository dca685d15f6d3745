-- What comes of a step.
use Rattle.std.specs.Prelude.{List, [], Option, None}
use Rattle.imap_answer.specs.Answer.{Answer, lines_of}
use Rattle.imap_print.specs.declared.response.Response.{Response}
use Rattle.imap_world.specs.declared.effect.Effect.{Effect}
use Rattle.imap_sessions.specs.declared.sessions.SessionEffect.{SessionEffect}
use Rattle.imap_sessions.specs.declared.sessions.SessionEffect.TheVariants as session

-- the replies, what is asked of the mailboxes, and what becomes of the session
pub record Outcome : Type 0 where
  pub replies : List Response
  pub effect : Option Effect
  pub session : SessionEffect

-- of a command with this answer
abbrev pub answered : Answer → SessionEffect → Outcome
answered answer change = record { replies = lines_of answer; effect = answer.effect; session = change }

-- of a step that is no command
abbrev pub said : List Response → SessionEffect → Outcome
said replies change = record { replies = replies; effect = None; session = change }

-- nothing is said, and the session stays as it is
abbrev pub silence : Outcome
silence = said [] session.Keep
