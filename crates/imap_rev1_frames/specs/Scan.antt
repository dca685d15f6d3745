-- The words of a line, and what is written in their place (RFC 3501, sections 6.3.9, 6.3.10, 6.4.1, 6.4.4 and
-- 6.4.5).
use Rattle.std.specs.Prelude.{ℕ, zero, suc, ◌-◌, Bool, true, false, not, ◌==◌, ◌&&◌, ◌||◌}
use Rattle.std.specs.Prelude.{List, [], ◌∷◌, ◌++◌, length, codes, Option, Some, None, is_some, if◌then◌else◌}
use Rattle.imap_rev1_frames.specs.declared.asked.Asked.{Asked}
use Rattle.imap_rev1_frames.specs.declared.named.Named.{Named}
use Rattle.imap_rev1_frames.specs.declared.named.Named.TheVariants as named
use Rattle.imap_rev1_frames.specs.declared.scan.Depth.{Depth}
use Rattle.imap_rev1_frames.specs.declared.scan.Depth.TheVariants as depth
use Rattle.imap_rev1_frames.specs.declared.scan.Quoting.{Quoting}
use Rattle.imap_rev1_frames.specs.declared.scan.Quoting.TheVariants as quoting
use Rattle.imap_rev1_frames.specs.declared.scan.Scan.{Scan}
use Rattle.imap_rev1_frames.specs.Asked.{status_asked, section_asked, fetch_for, is_section}
use Rattle.imap_rev1_frames.specs.Named.{is_word}
use Rattle.imap_rev1_frames.specs.Part.{fields_length}

-- at the front of a command, whose first word is its tag
abbrev pub start : Named → Scan
start command = record { named = command; passes = 1; depth = depth.None; quoting = quoting.Outside }

-- an octet of a word: none of SP " ( )
abbrev pub is_word_octet : ℕ → Bool
is_word_octet octet = not (octet == 32 || octet == 34 || octet == 40 || octet == 41)

abbrev pub is_outside : Quoting → Bool
is_outside quoting.Outside = true
is_outside quoting.Inside = false
is_outside quoting.Escaped = false

-- the octet is of a word
abbrev pub is_in_word : Scan → ℕ → Bool
is_in_word scan octet = is_outside scan.quoting && is_word_octet octet

-- ---- search keys

-- the keys with a string after them, which may be written as a word
abbrev pub takes_string : List ℕ → Bool
takes_string word =
    is_word (codes "BCC") word || is_word (codes "BODY") word || is_word (codes "CC") word
    || is_word (codes "FROM") word || is_word (codes "SUBJECT") word || is_word (codes "TEXT") word
    || is_word (codes "TO") word

-- the keys with a charset or a keyword after them
abbrev pub takes_atom : List ℕ → Bool
takes_atom word =
    is_word (codes "CHARSET") word || is_word (codes "KEYWORD") word || is_word (codes "UNKEYWORD") word

-- how many words or strings after a key belong to it and are no keys
abbrev pub arguments : List ℕ → ℕ
arguments word =
    if is_word (codes "HEADER") word then 2 else (if takes_string word || takes_atom word then 1 else 0)

-- No message is recent: NEW and RECENT find none, and OLD finds each.
abbrev pub key_for : List ℕ → List ℕ
key_for word =
    if is_word (codes "NEW") word || is_word (codes "RECENT") word then codes "NOT ALL"
    else (if is_word (codes "OLD") word then codes "ALL" else word)

-- ---- items

-- Items stand in the parentheses of STATUS, and in those of the return option STATUS in those of LIST. An item
-- of FETCH stands alone or in parentheses.
abbrev pub is_among_items : Named → Depth → Bool
is_among_items named.Status depth.One = true
is_among_items named.List depth.Two = true
is_among_items named.Fetch depth.None = true
is_among_items named.Fetch depth.One = true
is_among_items _ _ = false

-- ---- words

-- the other octets if these are the word
abbrev pub exchanged : (word other : List ℕ) → List ℕ → List ℕ
exchanged word other octets = if is_word word octets then other else octets

-- MESSAGES is asked in place of RECENT.
abbrev pub item_for : (is_item : Bool) → List ℕ → List ℕ
item_for is_item word = if is_item then exchanged (codes "RECENT") (codes "MESSAGES") word else word

-- Another section is asked in place of a label.
abbrev pub fetch_item_for : (is_item : Bool) → List ℕ → List ℕ
fetch_item_for is_item word = if is_item then fetch_for word else word

-- what a word among the items asks for, if it is one
abbrev pub asked_by_word : Named → List ℕ → Option Asked
asked_by_word named.Fetch word = section_asked word
asked_by_word _ word = Some (status_asked word)

-- what is written in place of a word that is no argument
abbrev pub word_for : Named → (is_item : Bool) → List ℕ → List ℕ
word_for named.Check is_item word = exchanged (codes "CHECK") (codes "NOOP") word
word_for named.Lsub is_item word = exchanged (codes "LSUB") (codes "LIST (SUBSCRIBED)") word
word_for named.Search is_item word = key_for word
word_for named.Status is_item word = item_for is_item word
word_for named.List is_item word = item_for is_item word
word_for named.Fetch is_item word = fetch_item_for is_item word
word_for named.Select is_item word = word
word_for named.Other is_item word = word

abbrev pub is_item : Scan → Bool
is_item scan = scan.passes == 0 && is_among_items scan.named scan.depth

-- what is written in place of a word
abbrev pub written_word : Scan → List ℕ → List ℕ
written_word scan word = if scan.passes == 0 then word_for scan.named (is_item scan) word else word

-- what the word asks for, if it is an item
abbrev pub word_asked : Scan → List ℕ → Option Asked
word_asked scan word =
    if not (length word == 0) && is_item scan then asked_by_word scan.named word else None

-- ---- states

-- after a word or string that is no key
abbrev pub passed : Scan → Scan
passed scan = record scan { passes = scan.passes - 1 }

abbrev pub is_outer : Depth → Bool
is_outer depth.None = true
is_outer _ = false

-- No other item of FETCH stands beside the word. In parentheses after it are header fields (RFC 3501, section 9,
-- `header-list`) or modifiers (RFC 7162, section 3.1.4.1).
abbrev pub is_alone : Depth → List ℕ → Bool
is_alone level word = is_outer level && is_some (section_asked word)

-- after a word that is no argument. CHECK, LSUB and an item that is alone stand once
abbrev pub after_key : Named → Scan → List ℕ → Scan
after_key named.Check scan word = record scan { named = named.Other }
after_key named.Lsub scan word = record scan { named = named.Other }
after_key named.Search scan word = record scan { passes = arguments word }
after_key named.Fetch scan word =
    if is_alone scan.depth word then record scan { named = named.Other } else scan
after_key _ scan word = scan

abbrev pub after_named : Scan → List ℕ → Scan
after_named scan word = after_key scan.named scan word

abbrev pub after_word : Scan → List ℕ → Scan
after_word scan word =
    if length word == 0 then scan
    else (if scan.passes == 0 then after_named scan word else passed scan)

abbrev pub deeper : Depth → Depth
deeper depth.None = depth.One
deeper depth.One = depth.Two
deeper depth.Two = depth.More
deeper depth.More = depth.More

abbrev pub less_deep : Depth → Depth
less_deep depth.None = depth.None
less_deep depth.One = depth.None
less_deep depth.Two = depth.One
less_deep depth.More = depth.More

-- after an octet outside quotes that belongs to no word
abbrev pub after_outside : Scan → ℕ → Scan
after_outside scan octet =
    if octet == 34 then record scan { quoting = quoting.Inside }
    else (if octet == 40 then record scan { depth = deeper scan.depth }
    else (if octet == 41 then record scan { depth = less_deep scan.depth } else scan))

-- after an octet in quotes (RFC 3501, section 9, `quoted`)
abbrev pub after_inside : Scan → ℕ → Scan
after_inside scan octet =
    if octet == 34 then record (passed scan) { quoting = quoting.Outside }
    else (if octet == 92 then record scan { quoting = quoting.Escaped } else scan)

abbrev pub after_quoting : Quoting → Scan → ℕ → Scan
after_quoting quoting.Outside scan octet = after_outside scan octet
after_quoting quoting.Inside scan octet = after_inside scan octet
after_quoting quoting.Escaped scan octet = record scan { quoting = quoting.Inside }

abbrev pub after_octet : Scan → ℕ → Scan
after_octet scan octet = after_quoting scan.quoting scan octet

-- at the front of the next line
abbrev pub next_line : Scan → Scan
next_line scan = record scan { quoting = quoting.Outside }

-- ---- header lists

abbrev pub takes_lists : Named → Bool
takes_lists named.Fetch = true
takes_lists _ = false

abbrev pub opens_list : List ℕ → Bool
opens_list (a ∷ b ∷ octets) = a == 32 && b == 40
opens_list _ = false

-- a header list may follow the word
abbrev pub has_list : Scan → (word : List ℕ) → List ℕ → Bool
has_list scan word octets = is_section word && opens_list octets && takes_lists scan.named && is_item scan

-- How many octets after a word belong to it, since they are the header list of a part's section and its end
-- (RFC 9051, section 9, `section-text`).
abbrev pub list_length : Scan → (word : List ℕ) → List ℕ → ℕ
list_length scan word octets = if has_list scan word octets then fields_length word octets else 0

-- How many of the octets, of which this is the first, belong to the word; `held` of them if there are some.
abbrev pub count_held : (held : ℕ) → Scan → (word : List ℕ) → (octet : ℕ) → List ℕ → ℕ
count_held (suc n) scan word octet octets = suc n
count_held zero scan word octet octets =
    if is_in_word scan octet then 1 else list_length scan word octets

-- ---- lines

abbrev pub by_held : {A : Type 0} → (count : ℕ) → (more : ℕ → A) → (none : A) → A
by_held zero more none = none
by_held (suc n) more none = more n

-- what is written in place of a word so far and octets, of which `held` belong to the word
abbrev pub written_from : (held : ℕ) → Scan → (word : List ℕ) → List ℕ → List ℕ
written_from held scan word [] = written_word scan word
written_from held scan word (octet ∷ octets) =
    by_held (count_held held scan word octet (octet ∷ octets))
    (λ n. written_from n scan (word ++ octet ∷ []) octets)
    (written_word scan word ++ octet ∷ written_from 0 (after_octet (after_word scan word) octet) [] octets)

abbrev pub written : Scan → (word : List ℕ) → List ℕ → List ℕ
written scan word octets = written_from 0 scan word octets

abbrev pub option_list : Option Asked → List Asked
option_list (Some a) = a ∷ []
option_list None = []

-- what the items in them ask for
abbrev pub asked_from : (held : ℕ) → Scan → (word : List ℕ) → List ℕ → List Asked
asked_from held scan word [] = option_list (word_asked scan word)
asked_from held scan word (octet ∷ octets) =
    by_held (count_held held scan word octet (octet ∷ octets))
    (λ n. asked_from n scan (word ++ octet ∷ []) octets)
    (option_list (word_asked scan word) ++ asked_from 0 (after_octet (after_word scan word) octet) [] octets)

abbrev pub asked : Scan → (word : List ℕ) → List ℕ → List Asked
asked scan word octets = asked_from 0 scan word octets

-- the state after them
abbrev pub left_from : (held : ℕ) → Scan → (word : List ℕ) → List ℕ → Scan
left_from held scan word [] = after_word scan word
left_from held scan word (octet ∷ octets) =
    by_held (count_held held scan word octet (octet ∷ octets))
    (λ n. left_from n scan (word ++ octet ∷ []) octets)
    (left_from 0 (after_octet (after_word scan word) octet) [] octets)

abbrev pub left : Scan → (word : List ℕ) → List ℕ → Scan
left scan word octets = left_from 0 scan word octets
