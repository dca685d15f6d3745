-- What a client reads in an envelope.
use Rattle.std.specs.Prelude.{◌≡◌, ℕ, List, ◌++◌, Some}
use Rattle.imap_lex.specs.Framing.{crlf}
use Rattle.imap_print.specs.Lines.{after_line, text}
use Rattle.imap_mime.specs.Envelope.{Envelope, envelope_text}

-- A client reads an envelope as text of one line, whatever its strings are: each literal in it is whole, and no
-- CR or LF stands elsewhere.
abbrev pub EachIsOneLine : Type 0
EachIsOneLine =
    (envelope : Envelope) (rest : List ℕ)
    → after_line text ((envelope_text envelope ++ crlf) ++ rest) ≡ Some rest
