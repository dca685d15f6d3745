-- What a dialect makes of frames and replies.
use Rattle.std.specs.Prelude.{◌≡◌, ℕ, List, [], ◌∷◌, ◌++◌, flat_map, Option, Some, None}
use Rattle.imap_lex.specs.declared.frame.Frame.{Frame}
use Rattle.imap_print.specs.declared.response.Response.{Response}
use Rattle.imap_print.specs.Printed.{line}

-- A dialect with states S.
pub record Telling (S : Type 0) : Type 0 where
  -- the state after a frame and all replies to it
  pub next : S → Frame → List Response → S
  -- the frame that the server sees in place of the client's
  pub rewritten : S → Frame → Frame
  -- the octets of a reply to the client's frame, if one asked
  pub told : S → (by : Option Frame) → Response → List ℕ

-- the first, if there is one
abbrev pub instead : Option Frame → Frame → Frame
instead (Some other) frame = other
instead None frame = frame

-- each reply to the frame, or to nothing, is told in these octets
abbrev pub IsRule : {S : Type 0} → (Response → List ℕ) → Telling S → S → Option Frame → Type 0
IsRule octets telling state by = (reply : Response) → octets reply ≡ telling.told state by reply

-- the octets of the replies
abbrev pub retold : {S : Type 0} → Telling S → S → Option Frame → List Response → List ℕ
retold telling state by replies = flat_map (telling.told state by) replies

-- the state after replies to a frame; replies for which no frame asked leave it as it is
abbrev pub after : {S : Type 0} → Telling S → S → Option Frame → List Response → S
after telling state None replies = state
after telling state (Some frame) replies = telling.next state frame replies

-- the replies to a frame, or to nothing
pub record Exchange : Type 0 where
  pub by : Option Frame
  pub replies : List Response

-- all octets of a session, from a state on
abbrev pub all_told : {S : Type 0} → Telling S → S → List Exchange → List ℕ
all_told telling state [] = []
all_told telling state (e ∷ es) =
    retold telling state e.by e.replies ++ all_told telling (after telling state e.by e.replies) es

-- the server's own
abbrev pub standard : {S : Type 0} → Telling S
standard = record {
  next = λ state frame replies. state;
  rewritten = λ state frame. frame;
  told = λ state by reply. line reply;
}
