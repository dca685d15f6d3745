-- The messages that keys find, by the keys' tokens, as contracts see the keys of a command. Tokens are read from the
-- last to the first. The list says of each key after the token whether it finds the message.
use Rattle.std.specs.Prelude.{◌≡◌, Bool, true, false, not, ◌&&◌, ◌||◌, List, [], ◌∷◌}
use Rattle.std.specs.List.{list_all, list_any}
use Rattle.imap_query.specs.Keys.{Plain, Key, Token, one, not_next, or_next, group_end, group_more, all_tokens}
use Rattle.imap_search.specs.Finds.{Candidate, finds, finds_plain}

abbrev pub onto : Candidate → Token → List Bool → List Bool
onto c (one key) found = finds_plain c key ∷ found
onto c not_next (a ∷ found) = not a ∷ found
onto c or_next (a ∷ b ∷ found) = (a || b) ∷ found
onto c group_end found = true ∷ found
onto c group_more (a ∷ b ∷ found) = (a && b) ∷ found
onto c _ found = found

abbrev pub found_by : Candidate → List Token → List Bool
found_by c [] = []
found_by c (t ∷ tokens) = onto c t (found_by c tokens)

abbrev pub is_true : Bool → Bool
is_true b = b

-- all keys find the message
abbrev pub finds_all : Candidate → List Token → Bool
finds_all c tokens = list_all is_true (found_by c tokens)

-- the tokens of keys find what the keys find
abbrev pub TokensFind : Type 0
TokensFind = (c : Candidate) (keys : List Key) → finds_all c (all_tokens keys) ≡ list_all (finds c) keys

-- ---- some key passes a test, at any depth

abbrev pub is_one : (Plain → Bool) → Token → Bool
is_one test (one key) = test key
is_one test _ = false

abbrev pub has_plain : (Plain → Bool) → List Token → Bool
has_plain test tokens = list_any (is_one test) tokens
