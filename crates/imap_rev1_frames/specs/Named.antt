-- The commands that the dialect of IMAP4rev1 names (RFC 3501, section 6).
use Rattle.std.specs.Prelude.{ℕ, Bool, true, false, ◌==◌, ◌&&◌, ◌||◌, not, min, length, take, drop}
use Rattle.std.specs.Prelude.{List, [], ◌∷◌, codes, Option, Some, None, if◌then◌else◌}
use Rattle.std.specs.Str.{str_eq_ignore_ascii_case}
use Rattle.imap_lex.specs.CommandTag.{tag_length}
use Rattle.imap_lex.specs.declared.frame.Frame.{Frame}
use Rattle.imap_lex.specs.declared.frame.Frame.TheVariants.{Whole, Continue, Reject, Hangup}
use Rattle.imap_rev1_frames.specs.declared.named.Named.{Named}
use Rattle.imap_rev1_frames.specs.declared.named.Named.TheVariants.{Check, Lsub, Fetch, Search, Status, List as Listing}
use Rattle.imap_rev1_frames.specs.declared.named.Named.TheVariants.{Select, Other}

-- what stands after a space
abbrev pub after_space : List ℕ → List ℕ
after_space [] = []
after_space (octet ∷ rest) = if octet == 32 then rest else []

-- what stands after the tag and a space
abbrev pub after_tag : List ℕ → List ℕ
after_tag octets = after_space (drop (tag_length octets) octets)

-- the words are the same in some ASCII case
abbrev pub is_word : (word : List ℕ) → List ℕ → Bool
is_word word octets = str_eq_ignore_ascii_case octets word

-- the word stands at the front, in any ASCII case
abbrev pub begins : (word : List ℕ) → List ℕ → Bool
begins word octets = is_word word (take (min (length octets) (length word)) octets)

-- SEARCH or UID SEARCH without RETURN (section 6.4.4)
abbrev pub is_plain_search : (command : List ℕ) → Bool
is_plain_search command =
    (begins (codes "SEARCH ") command && not (begins (codes "SEARCH RETURN (") command))
    || (begins (codes "UID SEARCH ") command && not (begins (codes "UID SEARCH RETURN (") command))

-- SELECT or EXAMINE (sections 6.3.1 and 6.3.2)
abbrev pub is_selecting : (command : List ℕ) → Bool
is_selecting command = begins (codes "SELECT ") command || begins (codes "EXAMINE ") command

-- FETCH or UID FETCH (sections 6.4.5 and 6.4.8)
abbrev pub is_fetch : (command : List ℕ) → Bool
is_fetch command = begins (codes "FETCH ") command || begins (codes "UID FETCH ") command

-- what is named until IMAP4rev2 is enabled
abbrev pub named_until_rev2 : (command : List ℕ) → Named
named_until_rev2 command =
    if is_plain_search command then Search
    else (if begins (codes "STATUS ") command then Status
    else (if begins (codes "LIST ") command then Listing
    else (if is_selecting command then Select
    else Other)))

-- CHECK and LSUB (sections 6.4.1 and 6.3.9) and the labels of FETCH are not in IMAP4rev2, and stay
abbrev pub named_command : (rev2 : Bool) → (command : List ℕ) → Named
named_command rev2 command =
    if is_word (codes "CHECK\r\n") command then Check
    else (if begins (codes "LSUB ") command then Lsub
    else (if is_fetch command then Fetch
    else (if rev2 then Other
    else named_until_rev2 command)))

abbrev pub named_in : (rev2 : Bool) → List ℕ → Named
named_in rev2 octets = named_command rev2 (after_tag octets)

abbrev pub named_by : (rev2 : Bool) → (by : Option Frame) → Named
named_by rev2 None = Other
named_by rev2 (Some (Whole octets)) = named_in rev2 octets
named_by rev2 (Some Continue) = Other
named_by rev2 (Some (Reject tag)) = Other
named_by rev2 (Some Hangup) = Other

-- the server sees another command in its place
abbrev pub is_rewritten : Named → Bool
is_rewritten Check = true
is_rewritten Lsub = true
is_rewritten Search = true
is_rewritten Status = true
is_rewritten Listing = true
is_rewritten Fetch = true
is_rewritten Select = false
is_rewritten Other = false

-- items stand in it that may be told in another way
abbrev pub has_items : Named → Bool
has_items Status = true
has_items Listing = true
has_items Fetch = true
has_items _ = false
