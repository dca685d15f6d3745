-- Laws of dialects.
use Rattle.std.specs.Prelude.{◌≡◌, List, Option}
use Rattle.imap_lex.specs.declared.frame.Frame.{Frame}
use Rattle.imap_print.specs.declared.response.Response.{Response}
use Rattle.imap_print.specs.Printed.{printed}
use Rattle.imap_dialect.specs.Telling.{Telling, Exchange, all_told, retold}

-- Isolation: equal frames and equal replies are told in equal octets. Nothing else of the server can show.
abbrev pub IsIsolated : {S : Type 0} → Telling S → Type 0
IsIsolated {S = S} telling =
    (state : S) (xs ys : List Exchange) → xs ≡ ys → all_told telling state xs ≡ all_told telling state ys

-- frames are handed on
abbrev pub HandsOn : {S : Type 0} → Telling S → Type 0
HandsOn {S = S} telling = (state : S) (frame : Frame) → telling.rewritten state frame ≡ frame

-- replies are printed
abbrev pub Prints : {S : Type 0} → Telling S → Type 0
Prints {S = S} telling =
    (state : S) (by : Option Frame) (replies : List Response) → retold telling state by replies ≡ printed replies
