-- Lines of a listing, from shown names (RFC 9051, section 6.3.9).
use Rattle.std.specs.Prelude.{List, ◌++◌, map, filter}
use Rattle.imap_listing.specs.declared.line.Line.{Line}
use Rattle.imap_listing.specs.Texts.{Text, has, in_order, levels}
use Rattle.imap_listing.specs.Matching.{Patterns, is_matched, is_matched_level}

-- the line of a name, by which names are there, which are levels above these, and which are subscribed to
abbrev pub line_by : (there above subscribed : List Text) → Text → Line
line_by there above subscribed name = record {
  name = name;
  is_there = has there name;
  has_children = has above name;
  is_subscribed = has subscribed name;
}

abbrev pub line_of : (there subscribed : List Text) → Text → Line
line_of there subscribed = line_by there (levels there) subscribed

-- the names that are there and match, and the levels above names that are there that match patterns
-- which end in `%`
abbrev pub listed_names : List Text → Patterns → List Text
listed_names there patterns =
    in_order (filter (is_matched patterns) there ++ filter (is_matched_level patterns) (levels there))

abbrev pub lines_of : (there subscribed : List Text) → Patterns → List Line
lines_of there subscribed patterns = map (line_of there subscribed) (listed_names there patterns)

-- the names that are subscribed to and match
abbrev pub subscribed_listed_names : List Text → Patterns → List Text
subscribed_listed_names subscribed patterns = in_order (filter (is_matched patterns) subscribed)

abbrev pub subscribed_lines_of : (there subscribed : List Text) → Patterns → List Line
subscribed_lines_of there subscribed patterns =
    map (line_of there subscribed) (subscribed_listed_names subscribed patterns)
