-- What the frames of a stream ask for.
use Rattle.std.specs.Prelude.{ℕ}
use Rattle.imap_lex.specs.declared.frame.Frame.{Frame}
use Rattle.imap_lex.specs.declared.frame.Frame.TheVariants as frame
use Rattle.imap_hall.specs.Act.{Act}
use Rattle.imap_hall.specs.Act.TheVariants as act
use Rattle.imap_hall.specs.Frames.{act_of_command, rejected}

-- a step of the session; a continuation request (RFC 9051, section 7); or the end of a connection whose line or
-- literal is too long
pub data Asked : Type 0 where
  step : (act : Act) → Asked
  ready : Asked
  hangup : Asked

abbrev pub ask_of : Frame → Asked
ask_of (frame.Whole octets) = step (act_of_command octets)
ask_of frame.Continue = ready
ask_of (frame.Reject tag) = step (act.Do (rejected tag))
ask_of frame.Hangup = hangup

-- how often a gate is asked about one request at most
abbrev pub max_asks : ℕ
max_asks = 1000
