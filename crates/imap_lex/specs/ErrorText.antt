-- The texts of errors.
use Rattle.std.specs.Prelude.{ℕ, List, codes}
use Rattle.imap_lex.specs.declared.error.LexError.{LexError}
use Rattle.imap_lex.specs.declared.error.LexError.TheVariants.{Memory, Closed}

abbrev pub error_text : LexError → List ℕ
error_text Memory = codes "out of memory"
error_text Closed = codes "the stream was hung up"
