-- Which names the patterns of a command match (RFC 9051, section 6.3.9).
use Rattle.std.specs.Prelude.{Bool, ◌&&◌, List}
use Rattle.std.specs.List.{list_any}
use Rattle.imap_names.specs.declared.token.Token.{Token}
use Rattle.imap_names.specs.MatchTest.{is_match, ends_in_percent}
use Rattle.imap_listing.specs.Texts.{Text}

abbrev pub Patterns : Type 0
Patterns = List (List Token)

-- a pattern that ends in `%` matches levels too
abbrev pub is_level_match : List Token → Text → Bool
is_level_match pattern name = ends_in_percent pattern && is_match pattern name

-- one of the patterns matches the name
abbrev pub is_matched : Patterns → Text → Bool
is_matched patterns name = list_any (λ pattern. is_match pattern name) patterns

-- one of the patterns matches the name as that of a level
abbrev pub is_matched_level : Patterns → Text → Bool
is_matched_level patterns name = list_any (λ pattern. is_level_match pattern name) patterns
