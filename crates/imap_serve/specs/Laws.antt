-- Laws of what sessions are told.
use Rattle.std.specs.Prelude.{◌≡◌, List, map, Option}
use Rattle.imap_lex.specs.declared.frame.Frame.{Frame}
use Rattle.imap_print.specs.declared.response.Response.{Response}
use Rattle.imap_dialect.specs.Telling.{Telling}
use Rattle.imap_serve.specs.Events.{replies_of}
use Rattle.imap_serve.specs.Turns.{Turn, exchange_of, text}

-- Isolation: if the frames and their replies are the same, so are the octets, whatever else differs in the
-- entries (whose steps they are, and their numbers).
abbrev pub FollowsFromExchanges : {S : Type 0} → Telling S → Type 0
FollowsFromExchanges {S = S} telling =
    (state : S) (xs ys : List Turn) → map exchange_of xs ≡ map exchange_of ys
    → text telling state xs ≡ text telling state ys

abbrev pub by_of : Turn → Option Frame
by_of t = t.by

abbrev pub replies_at : Turn → List Response
replies_at t = replies_of t.event

-- the same with the frames and the replies apart: what a client sends and what the machine answers
abbrev pub FollowsFromReplies : {S : Type 0} → Telling S → Type 0
FollowsFromReplies {S = S} telling =
    (state : S) (xs ys : List Turn) → map by_of xs ≡ map by_of ys → map replies_at xs ≡ map replies_at ys
    → text telling state xs ≡ text telling state ys
