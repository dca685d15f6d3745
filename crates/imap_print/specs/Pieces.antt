-- Printed octets in pieces.
use Rattle.std.specs.Prelude.{ℕ, Bool, true, false, List, ◌++◌}
use Rattle.std.specs.List.{concat}
use Rattle.imap_print.specs.declared.printing.pieces.Pieces.{Pieces}
use Rattle.imap_print.specs.declared.response.Response.{Response}
use Rattle.imap_print.specs.declared.response.Response.TheVariants as response

-- the octets of the pieces, then the text
abbrev pub octets_of : Pieces → List ℕ
octets_of pieces = concat pieces.done.items ++ pieces.text.items

abbrev pub is_fetch : Response → Bool
is_fetch (response.Fetch number items) = true
is_fetch other = false
