-- What a listing for the user of a view is, name by name (RFC 9051, section 6.3.9; RFC 4314, section 4,
-- of LIST).
use Rattle.std.specs.Prelude.{◌≡◌, true, List, Some, map, IsTrue, ◌↔◌, ◌⊎◌}
use Rattle.std.specs.FinMap as fin
use Rattle.std.specs.List.{All, Contains}
use Rattle.std.specs.List.Sorted.{IsStrictlySortedBy}
use Rattle.imap_names.specs.Name.{Name}
use Rattle.imap_names.specs.Showing.{shown}
use Rattle.imap_names.specs.declared.token.Token.{Token}
use Rattle.imap_names.specs.Pattern.{IsMatch, EndsInPercent}
use Rattle.imap_answer.specs.Seen.{Seen}
use Rattle.imap_answer.specs.View.{View}
use Rattle.imap_listing.specs.declared.line.Line.{Line}
use Rattle.imap_listing.specs.Matching.{Patterns}
use Rattle.imap_listing.specs.Texts.{Text, text_cmp, IsBelow}
use Rattle.imap_listing.specs.ViewNames.{is_listable}

-- the user holds `l` on a mailbox and is shown its name by this text
abbrev pub IsThere : View → Text → Type 0
IsThere view text =
    (name : Name) × (seen : Seen) × (fin.get view.seen name ≡ Some seen) × (is_listable seen ≡ true)
    × (shown view.user name ≡ text)

-- the user subscribed to a name and is shown it by this text
abbrev pub IsSubscribed : View → Text → Type 0
IsSubscribed view text =
    (name : Name) × (fin.contains_key view.subscribed name ≡ true) × (shown view.user name ≡ text)

-- the user holds `l` on a mailbox below
abbrev pub HasChildren : View → Text → Type 0
HasChildren view text = (lower : Text) × IsThere view lower × IsBelow text lower

abbrev pub Matches : Patterns → Text → Type 0
Matches patterns text = (pattern : List Token) × Contains patterns pattern × IsMatch pattern text

abbrev pub MatchesLevel : Patterns → Text → Type 0
MatchesLevel patterns text =
    (pattern : List Token) × Contains patterns pattern × EndsInPercent pattern × IsMatch pattern text

-- without selection options: what is there and matches, and the levels above what is there that match
-- before a `%`
abbrev pub IsListed : View → Patterns → Text → Type 0
IsListed view patterns text =
    (IsThere view text × Matches patterns text) ⊎ (HasChildren view text × MatchesLevel patterns text)

-- with the selection option SUBSCRIBED: what is subscribed to and matches
abbrev pub IsSubscribedListed : View → Patterns → Text → Type 0
IsSubscribedListed view patterns text = IsSubscribed view text × Matches patterns text

abbrev pub name_of : Line → Text
name_of line = line.name

-- a line for each listed name, in the order of the names' octets, with what is so of the name
pub record IsListing (view : View) (Listed : Text → Type 0) (lines : List Line) : Type 0 where
  pub rising : IsStrictlySortedBy text_cmp (map name_of lines)
  pub exact : (text : Text) → Contains (map name_of lines) text ↔ Listed text
  pub there : All (λ line. IsTrue line.is_there ↔ IsThere view line.name) lines
  pub children : All (λ line. IsTrue line.has_children ↔ HasChildren view line.name) lines
  pub subscribed : All (λ line. IsTrue line.is_subscribed ↔ IsSubscribed view line.name) lines
