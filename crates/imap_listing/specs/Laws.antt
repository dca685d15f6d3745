-- Laws of listings.
use Rattle.std.specs.Prelude.{◌≡◌, true, false, List, ◌↔◌}
use Rattle.std.specs.List.{All, Contains}
use Rattle.imap_names.specs.declared.token.Token.{Token}
use Rattle.imap_names.specs.MatchTest.{ends_in_percent}
use Rattle.imap_answer.specs.View.{View}
use Rattle.imap_listing.specs.declared.line.Line.{Line}
use Rattle.imap_listing.specs.IsListing.{IsListed, IsSubscribedListed, IsListing}
use Rattle.imap_listing.specs.Listing.{listing, subscribed_listing}
use Rattle.imap_listing.specs.Matching.{Patterns}

-- A name is listed exactly if it is there and matches, or is a level above such names that a pattern
-- with `%` at its end matches; and each line says what is so of its name.
abbrev pub ListingIsExact : Type 0
ListingIsExact = (view : View) (patterns : Patterns)
    → IsListing view (IsListed view patterns) (listing view patterns)

abbrev pub SubscribedListingIsExact : Type 0
SubscribedListingIsExact = (view : View) (patterns : Patterns) →
    IsListing view (IsSubscribedListed view patterns) (subscribed_listing view patterns)

-- there is one answer, with and without the selection option SUBSCRIBED
abbrev pub ListingIsOne : Type 0
ListingIsOne = (view : View) (patterns : Patterns) (a b : List Line) →
    (IsListing view (IsListed view patterns) a → IsListing view (IsListed view patterns) b → a ≡ b)
    × (IsListing view (IsSubscribedListed view patterns) a
    → IsListing view (IsSubscribedListed view patterns) b
    → a ≡ b)

-- patterns may come in any order, and again
abbrev pub OrderMakesNoDifference : Type 0
OrderMakesNoDifference = (view : View) (patterns others : Patterns) →
    ((pattern : List Token) → Contains patterns pattern ↔ Contains others pattern) →
    (listing view patterns ≡ listing view others)
    × (subscribed_listing view patterns ≡ subscribed_listing view others)

-- without a pattern that ends in `%`, all that is listed is there
abbrev pub LevelsNeedPercent : Type 0
LevelsNeedPercent = (view : View) (patterns : Patterns) →
    All (λ pattern. ends_in_percent pattern ≡ false) patterns →
    All (λ line. line.is_there ≡ true) (listing view patterns)
