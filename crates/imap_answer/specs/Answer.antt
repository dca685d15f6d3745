-- What a command is answered, what it asks of the mailboxes, and what it enables in its session.
use Rattle.std.specs.Prelude.{ℕ, false, List, [], ◌∷◌, ◌++◌, Option, Some, None}
use Rattle.imap_print.specs.declared.enabled.EnabledCapabilities.{EnabledCapabilities}
use Rattle.imap_print.specs.declared.response.Code.{Code}
use Rattle.imap_print.specs.declared.response.Response.{Response}
use Rattle.imap_print.specs.declared.response.Response.TheVariants as response
use Rattle.imap_print.specs.declared.response.Refusal.{Refusal}
use Rattle.imap_view.specs.Effect.{Effect}

pub record Answer : Type 0 where
  pub untagged : List Response
  pub last : Response
  pub effect : Option Effect
  pub enables : EnabledCapabilities
  -- the UIDs of messages of which its FETCH lines tell the flags and the mod-sequence
  pub told : List ℕ

abbrev pub nothing_enabled : EnabledCapabilities
nothing_enabled = record { condstore = false; imap4rev2 = false; qresync = false }

-- all its lines, in their order
abbrev pub lines_of : Answer → List Response
lines_of answer = answer.untagged ++ answer.last ∷ []

-- the tagged line of a command that was carried out
abbrev pub done_line : (tag : List ℕ) → Response
done_line tag = response.Done tag None

-- a command that is carried out by the effect, if it has one, after these responses. It may have a response
-- code
abbrev pub carried_out : (untagged : List Response) → (tag : List ℕ) → Option Code → Option Effect → Answer
carried_out untagged tag code effect = record {
  untagged = untagged;
  last = response.Done tag code;
  effect = effect;
  enables = nothing_enabled;
  told = [];
}

-- a command that was carried out, after these responses
abbrev pub done_after : (untagged : List Response) → (tag : List ℕ) → Answer
done_after untagged tag = carried_out untagged tag None None

-- an answer that begins with these responses
abbrev pub preceded_by : List Response → Answer → Answer
preceded_by front answer = record {
  untagged = front ++ answer.untagged;
  last = answer.last;
  effect = answer.effect;
  enables = answer.enables;
  told = answer.told;
}

-- an answer with these responses before its last line
abbrev pub followed_by : List Response → Answer → Answer
followed_by back answer = record {
  untagged = answer.untagged ++ back;
  last = answer.last;
  effect = answer.effect;
  enables = answer.enables;
  told = answer.told;
}

-- a command that enables capabilities
abbrev pub enabling : EnabledCapabilities → Answer → Answer
enabling enables answer = record {
  untagged = answer.untagged;
  last = answer.last;
  effect = answer.effect;
  enables = enables;
  told = answer.told;
}

-- a command whose FETCH lines tell of messages with these UIDs (RFC 9051, section 7.5.2)
abbrev pub telling : (uids : List ℕ) → Answer → Answer
telling uids answer = record {
  untagged = answer.untagged;
  last = answer.last;
  effect = answer.effect;
  enables = answer.enables;
  told = uids;
}

-- a command that was carried out and has no other response
abbrev pub done : (tag : List ℕ) → Answer
done tag = done_after [] tag

-- the same of a command that changes the mailboxes, and may have a response code
abbrev pub done_with_code : (tag : List ℕ) → Option Code → Effect → Answer
done_with_code tag code effect = carried_out [] tag code (Some effect)

abbrev pub done_with : (tag : List ℕ) → Effect → Answer
done_with tag effect = done_with_code tag None effect

-- the tagged line of a command that was not carried out
abbrev pub refused_line : (tag : List ℕ) → Refusal → Response
refused_line tag refusal = response.Refused (Some tag) refusal

-- a command that was not carried out
abbrev pub refusal : (tag : List ℕ) → Refusal → Answer
refusal tag reason = record {
  untagged = [];
  last = refused_line tag reason;
  effect = None;
  enables = nothing_enabled;
  told = [];
}
