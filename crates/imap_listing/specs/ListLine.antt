-- The response that is a line of a listing (RFC 9051, section 7.3.1).
use Rattle.std.specs.Prelude.{Bool, true, false, not, ◌&&◌}
use Rattle.imap_listing.specs.declared.line.Line.{Line}
use Rattle.imap_answer.specs.Children.{Children}
use Rattle.imap_answer.specs.Children.TheVariants.{Has, HasNo}
use Rattle.imap_answer.specs.Response.{Response}
use Rattle.imap_answer.specs.Response.TheVariants as response

abbrev pub children_of : Bool → Children
children_of true = Has
children_of false = HasNo

abbrev pub list_line : (with_subscribed : Bool) → Line → Response
list_line with_subscribed line = response.List (record {
  non_existent = not line.is_there;
  children = children_of line.has_children;
  subscribed = with_subscribed && line.is_subscribed;
}) line.name
