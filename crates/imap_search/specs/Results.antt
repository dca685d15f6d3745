-- The answer about the messages that SEARCH found (RFC 9051, sections 6.4.4 and 7.3.4; RFC 7162, section 3.1.5).
use Rattle.std.specs.Prelude.{ℕ, ◌-◌, ◌==◌, max, Bool, true, false, not, ◌&&◌, ◌||◌, slice_get, List, [], ◌∷◌, length, map}
use Rattle.std.specs.Prelude.{Option, Some, None, if◌then◌else◌}
use Rattle.std.specs.List.{list_all, list_any}
use Rattle.imap_print.specs.declared.search.SearchResults.{SearchResults}
use Rattle.imap_print.specs.Sets.{set_of}
use Rattle.imap_query.specs.declared.search.SearchReturn.{SearchReturn}
use Rattle.imap_query.specs.declared.search.SearchReturn.TheVariants as search_return
use Rattle.imap_search.specs.declared.results.FoundMessage.{FoundMessage}

-- ---- options

abbrev pub is_min : SearchReturn → Bool
is_min search_return.Min = true
is_min _ = false

abbrev pub is_max : SearchReturn → Bool
is_max search_return.Max = true
is_max _ = false

abbrev pub is_all : SearchReturn → Bool
is_all search_return.All = true
is_all _ = false

abbrev pub is_count : SearchReturn → Bool
is_count search_return.Count = true
is_count _ = false

abbrev pub is_end : SearchReturn → Bool
is_end search_return.Min = true
is_end search_return.Max = true
is_end _ = false

-- without options ALL is meant
abbrev pub wants_all : List SearchReturn → Bool
wants_all returns = (length returns == 0) || list_any is_all returns

-- MIN, MAX or both, and nothing else
abbrev pub wants_ends : List SearchReturn → Bool
wants_ends returns = not (length returns == 0) && list_all is_end returns

-- ---- the messages. Their numbers rise

abbrev pub number_in : Option FoundMessage → Option ℕ
number_in None = None
number_in (Some m) = Some m.number

abbrev pub mod_seq_in : Option FoundMessage → ℕ
mod_seq_in None = 0
mod_seq_in (Some m) = m.mod_seq

abbrev pub first_of : List FoundMessage → Option FoundMessage
first_of found = slice_get found 0

abbrev pub last_of : List FoundMessage → Option FoundMessage
last_of found = slice_get found (length found - 1)

abbrev pub highest_of : List FoundMessage → ℕ
highest_of [] = 0
highest_of (m ∷ found) = max m.mod_seq (highest_of found)

-- that of the first for MIN, that of the last for MAX, the greater one for both
abbrev pub highest_end : List SearchReturn → List FoundMessage → ℕ
highest_end returns found =
    max (if list_any is_min returns then mod_seq_in (first_of found) else 0)
    (if list_any is_max returns then mod_seq_in (last_of found) else 0)

-- the highest mod-sequence of all messages; of those that are told, if no more than MIN and MAX are wanted
abbrev pub mod_seq_of : List SearchReturn → List FoundMessage → Option ℕ
mod_seq_of returns [] = None
mod_seq_of returns (m ∷ found) =
    Some (if wants_ends returns then highest_end returns (m ∷ found) else highest_of (m ∷ found))

abbrev pub numbers_of : List FoundMessage → List ℕ
numbers_of found = map (λ m. m.number) found

abbrev pub results_of : List SearchReturn → (uses_mod_seq : Bool) → List FoundMessage → SearchResults
results_of returns uses_mod_seq found = record {
  min = if list_any is_min returns then number_in (first_of found) else None;
  max = if list_any is_max returns then number_in (last_of found) else None;
  all = if wants_all returns then set_of (numbers_of found) else None;
  count = if list_any is_count returns then Some (length found) else None;
  mod_seq = if uses_mod_seq then mod_seq_of returns found else None;
}
