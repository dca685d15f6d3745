-- What LIST answers to the user of a view (RFC 9051, section 6.3.9).
use Rattle.std.specs.Prelude.{List}
use Rattle.imap_answer.specs.View.{View}
use Rattle.imap_listing.specs.declared.line.Line.{Line}
use Rattle.imap_listing.specs.Lines.{lines_of, subscribed_lines_of}
use Rattle.imap_listing.specs.Matching.{Patterns}
use Rattle.imap_listing.specs.ViewNames.{listable_names, subscribed_names}

unfoldable pub listing : View → Patterns → List Line
listing view patterns = lines_of (listable_names view) (subscribed_names view) patterns

-- with the selection option SUBSCRIBED (section 6.3.9.1)
unfoldable pub subscribed_listing : View → Patterns → List Line
subscribed_listing view patterns = subscribed_lines_of (listable_names view) (subscribed_names view) patterns
