-- Items in parentheses, as they are written and as they are read.
use Rattle.std.proofs.Common.{◌≡◌, ◌∙◌, ap, sym, refl, ℕ, ◌≤◌, zero, suc, Bool, true, false, cond, not, ◌&&◌, List, [], ◌∷◌, ◌++◌, append_assoc, append-nil, length, drop, take, map, flat_map, arith, Option, Some, None}
use Rattle.std.specs.Prelude.{codes, ◌==◌}
use Rattle.std.specs.List.{list_all, AllByRecursion}
use Rattle.imap_lex.specs.Chars.{is_tag_char}
use Rattle.imap_lex.specs.CommandTag.{IsTag}
use Rattle.imap_lex.specs.Framing.{crlf}
use Rattle.imap_lex.specs.LineEnd.{line_length}
use Rattle.imap_lex.specs.Stream.{IsLastLine}
use Rattle.imap_lex.specs.declared.frame.Frame.TheVariants as frame
use Rattle.imap_lex.proofs.FirstLine.{lines_are_found}
use Rattle.imap_print.specs.Lines.{is_plain}
use Rattle.imap_print.specs.Words.{before_each, joined}
use Rattle.imap_print.specs.declared.status.StatusValue.{StatusValue}
use Rattle.imap_syntax.proofs.Writing.{both_true}
use Rattle.imap_rev1_frames.specs.declared.asked.Asked.{Asked}
use Rattle.imap_rev1_frames.specs.declared.named.Named.{Named}
use Rattle.imap_rev1_frames.specs.declared.named.Named.TheVariants as named
use Rattle.imap_rev1_frames.specs.declared.scan.Scan.{Scan}
use Rattle.imap_rev1_frames.specs.declared.scan.Depth.{Depth}
use Rattle.imap_rev1_frames.specs.declared.scan.Depth.TheVariants as depth
use Rattle.imap_rev1_frames.specs.declared.scan.Quoting.TheVariants as quoting
use Rattle.imap_rev1_frames.specs.Asked.{status_asked}
use Rattle.imap_rev1_frames.specs.Named.{named_in}
use Rattle.imap_rev1_frames.specs.Scan.{start, is_outside, is_word_octet, is_in_word, has_list, opens_list, exchanged, asked_by_word, written_word, word_asked, option_list, after_word, after_octet, written, asked}
use Rattle.imap_rev1.specs.Rev1.{status_text}
use Rattle.imap_rev1_frames.specs.Rewritten.{are_plain, line_asked, after_line, section_length, asked_after, command_asked}
use Rattle.imap_rev1.specs.Laws.{IsPlainWord, listed, status_octets, AsksMessages, TellsRecent}
use Rattle.std.proofs.lemmas.Bool.Decides.{nat_tests}
use Rattle.imap_rev1.proofs.Commands.{take_front}
use Rattle.imap_rev1.proofs.FirstWord.{tag_in_word}
use Rattle.imap_rev1_frames.proofs.Sections.{asked_next}
use Rattle.imap_rev1_frames.proofs.Steps.{no_item_list, no_opened_list, no_taken_list, word_written, word_asks, end_written, end_asks}
use Rattle.imap_rev1.proofs.Spelt.{text_of_line, tag_chars, after_first, plain_after_tag, one_line, rewritten_as}
use Rattle.imap_rev1.proofs.Strings.{no_word}

-- ---- a word

-- in a number of parentheses
abbrev pub within : Named → Depth → Scan
within command level = record { named = command; passes = 0; depth = level; quoting = quoting.Outside }

pub word_read : (command : Named) (level : Depth) (word next octets : List ℕ) → list_all is_word_octet next ≡ true → written (within command level) word (next ++ octets) ≡ written (within command level) (word ++ next) octets
word_read command level word [] octets h = ap (λ (w : List ℕ). written (within command level) w octets) (sym (append-nil word))
word_read command level word (b ∷ next) octets h =
    let parts = both_true (is_word_octet b) (list_all is_word_octet next) h in
    word_written (within command level) word b (next ++ octets) parts.0 ∙ word_read command level (word ++ b ∷ []) next octets parts.1 ∙ ap (λ (w : List ℕ). written (within command level) w octets) (append_assoc word (b ∷ []) next)

pub asked_read : (command : Named) (level : Depth) (word next octets : List ℕ) → list_all is_word_octet next ≡ true → asked (within command level) word (next ++ octets) ≡ asked (within command level) (word ++ next) octets
asked_read command level word [] octets h = ap (λ (w : List ℕ). asked (within command level) w octets) (sym (append-nil word))
asked_read command level word (b ∷ next) octets h =
    let parts = both_true (is_word_octet b) (list_all is_word_octet next) h in
    word_asks (within command level) word b (next ++ octets) parts.0 ∙ asked_read command level (word ++ b ∷ []) next octets parts.1 ∙ ap (λ (w : List ℕ). asked (within command level) w octets) (append_assoc word (b ∷ []) next)

-- ---- the octet after a word

not_parenthesis : (b : ℕ) → is_word_octet b ≡ true → (b == 40) ≡ false
not_parenthesis b h = grind (arith, nat_tests)

-- no list is opened before a word
pub no_opening : (next octets : List ℕ) → IsPlainWord next → opens_list (32 ∷ (next ++ octets)) ≡ false
no_opening [] octets is = let none : true ≡ false = is.some in absurd cc
no_opening (b ∷ next) octets is = not_parenthesis b (both_true (is_word_octet b) (list_all is_word_octet next) is.octets).0

closing : (octets : List ℕ) → opens_list (41 ∷ octets) ≡ false
closing [] = refl
closing (b ∷ octets) = refl

module _ (command : Named) (level : Depth) (word : List ℕ) where
  -- a parenthesis
  pub closed_written : (octets : List ℕ) → written (within command level) word (41 ∷ octets) ≡ written_word (within command level) word ++ 41 ∷ written (after_octet (after_word (within command level) word) 41) [] octets
  closed_written octets = end_written (within command level) word 41 octets refl (no_opened_list (within command level) word (41 ∷ octets) (closing octets))

  pub closed_asks : (octets : List ℕ) → asked (within command level) word (41 ∷ octets) ≡ option_list (word_asked (within command level) word) ++ asked (after_octet (after_word (within command level) word) 41) [] octets
  closed_asks octets = end_asks (within command level) word 41 octets refl (no_opened_list (within command level) word (41 ∷ octets) (closing octets))

  -- a space before another word
  module _ (next octets : List ℕ) (is : IsPlainWord next) where
    pub spaced_written : written (within command level) word (32 ∷ (next ++ octets)) ≡ written_word (within command level) word ++ 32 ∷ written (after_octet (after_word (within command level) word) 32) [] (next ++ octets)
    spaced_written = end_written (within command level) word 32 (next ++ octets) refl (no_opened_list (within command level) word (32 ∷ (next ++ octets)) (no_opening next octets is))

    pub spaced_asks : asked (within command level) word (32 ∷ (next ++ octets)) ≡ option_list (word_asked (within command level) word) ++ asked (after_octet (after_word (within command level) word) 32) [] (next ++ octets)
    spaced_asks = end_asks (within command level) word 32 (next ++ octets) refl (no_opened_list (within command level) word (32 ∷ (next ++ octets)) (no_opening next octets is))

-- ---- a list

abbrev pub new_item : Named → List ℕ → List ℕ
new_item command word = written_word (within command depth.One) word

abbrev pub item_asked : Named → List ℕ → List Asked
item_asked command word = option_list (word_asked (within command depth.One) word)

module _ (command : Named) (stays : (word : List ℕ) → after_word (within command depth.One) word ≡ within command depth.One) where
  items_written : (item : List ℕ) (items : List (List ℕ)) → AllByRecursion IsPlainWord items
      → written (within command depth.One) item (before_each 32 items ++ codes ")") ≡ (new_item command item ++ before_each 32 (map (new_item command) items)) ++ codes ")"
  items_written item [] h =
      closed_written command depth.One item []
      ∙ ap (λ (s : Scan). new_item command item ++ 41 ∷ written (after_octet s 41) [] []) (stays item)
      ∙ ap (λ (l : List ℕ). new_item command item ++ 41 ∷ l) (no_word (within command depth.None))
      ∙ ap (λ (l : List ℕ). l ++ codes ")") (sym (append-nil (new_item command item)))
  items_written item (next ∷ items) h =
      ap (λ (l : List ℕ). written (within command depth.One) item (32 ∷ l)) (append_assoc next (before_each 32 items) (codes ")"))
      ∙ spaced_written command depth.One item next (before_each 32 items ++ codes ")") h.0
      ∙ ap (λ (s : Scan). new_item command item ++ 32 ∷ written (after_octet s 32) [] (next ++ (before_each 32 items ++ codes ")"))) (stays item)
      ∙ ap (λ (l : List ℕ). new_item command item ++ 32 ∷ l) (word_read command depth.One [] next (before_each 32 items ++ codes ")") h.0.octets ∙ items_written next items h.1)
      ∙ sym (append_assoc (new_item command item) (32 ∷ (new_item command next ++ before_each 32 (map (new_item command) items))) (codes ")"))

  list_written : (items : List (List ℕ)) → AllByRecursion IsPlainWord items → written (within command depth.One) [] (joined 32 items ++ codes ")") ≡ joined 32 (map (new_item command) items) ++ codes ")"
  list_written [] h =
      ap (λ (l : List ℕ). l ++ 41 ∷ written (within command depth.None) [] []) (no_word (within command depth.One))
      ∙ ap (λ (l : List ℕ). 41 ∷ l) (no_word (within command depth.None))
  list_written (item ∷ items) h =
      ap (written (within command depth.One) []) (append_assoc item (before_each 32 items) (codes ")"))
      ∙ word_read command depth.One [] item (before_each 32 items ++ codes ")") h.0.octets
      ∙ items_written item items h.1

  items_asked : (item : List ℕ) (items : List (List ℕ)) → AllByRecursion IsPlainWord items → asked (within command depth.One) item (before_each 32 items ++ codes ")") ≡ item_asked command item ++ flat_map (item_asked command) items
  items_asked item [] h = closed_asks command depth.One item [] ∙ ap (λ (s : Scan). item_asked command item ++ asked (after_octet s 41) [] []) (stays item)
  items_asked item (next ∷ items) h =
      ap (λ (l : List ℕ). asked (within command depth.One) item (32 ∷ l)) (append_assoc next (before_each 32 items) (codes ")"))
      ∙ spaced_asks command depth.One item next (before_each 32 items ++ codes ")") h.0
      ∙ ap (λ (s : Scan). item_asked command item ++ asked (after_octet s 32) [] (next ++ (before_each 32 items ++ codes ")"))) (stays item)
      ∙ ap (λ (l : List Asked). item_asked command item ++ l) (asked_read command depth.One [] next (before_each 32 items ++ codes ")") h.0.octets ∙ items_asked next items h.1)

  list_asked : (items : List (List ℕ)) → AllByRecursion IsPlainWord items → asked (within command depth.One) [] (joined 32 items ++ codes ")") ≡ flat_map (item_asked command) items
  list_asked [] h = refl
  list_asked (item ∷ items) h =
      ap (asked (within command depth.One) []) (append_assoc item (before_each 32 items) (codes ")"))
      ∙ asked_read command depth.One [] item (before_each 32 items ++ codes ")") h.0.octets
      ∙ items_asked item items h.1

  -- a word that stays, and the list after it
  module _ (first : List ℕ) (items : List (List ℕ)) (is : IsPlainWord first) (kept : after_word (within command depth.None) first ≡ within command depth.None) (no_list : (octets : List ℕ) → has_list (within command depth.None) first octets ≡ false) (h : AllByRecursion IsPlainWord items) where
    pub listed_written : written_word (within command depth.None) first ≡ first → written (within command depth.None) [] (listed first items) ≡ listed first (map (new_item command) items)
    listed_written own =
        let list = joined 32 items ++ codes ")" in
        word_read command depth.None [] first (codes " (" ++ list) is.octets
        ∙ end_written (within command depth.None) first 32 (40 ∷ list) refl (no_list (32 ∷ 40 ∷ list))
        ∙ ap (λ (w : List ℕ). w ++ 32 ∷ written (after_octet (after_word (within command depth.None) first) 32) [] (40 ∷ list)) own
        ∙ ap (λ (s : Scan). first ++ 32 ∷ written (after_octet s 32) [] (40 ∷ list)) kept
        ∙ ap (λ (w : List ℕ). first ++ 32 ∷ (w ++ 40 ∷ written (within command depth.One) [] list)) (no_word (within command depth.None))
        ∙ ap (λ (l : List ℕ). first ++ (codes " (" ++ l)) (list_written items h)

    pub listed_asked : word_asked (within command depth.None) first ≡ None → asked (within command depth.None) [] (listed first items) ≡ flat_map (item_asked command) items
    listed_asked none =
        let list = joined 32 items ++ codes ")" in
        asked_read command depth.None [] first (codes " (" ++ list) is.octets
        ∙ end_asks (within command depth.None) first 32 (40 ∷ list) refl (no_list (32 ∷ 40 ∷ list))
        ∙ ap (λ (o : Option Asked). option_list o ++ asked (after_octet (after_word (within command depth.None) first) 32) [] (40 ∷ list)) none
        ∙ ap (λ (s : Scan). asked (after_octet s 32) [] (40 ∷ list)) kept
        ∙ list_asked items h

-- ---- a command

pub none_asked : (b : Bool) (a : Option Asked) → cond (not b && false) a None ≡ None
none_asked true a = refl
none_asked false a = refl

-- the words of a tag are no items
tag_asked : (scan : Scan) (word tag octets : List ℕ) → is_outside scan.quoting ≡ true → list_all is_tag_char tag ≡ true → asked scan word (tag ++ octets) ≡ asked scan (word ++ tag) octets
tag_asked scan word [] octets is h = ap (λ (w : List ℕ). asked scan w octets) (sym (append-nil word))
tag_asked scan word (b ∷ tag) octets is h =
    let parts = both_true (is_tag_char b) (list_all is_tag_char tag) h in
    let inside : is_in_word scan b ≡ true = rw (is, tag_in_word b parts.0) refl in
    word_asks scan word b (tag ++ octets) inside ∙ tag_asked scan (word ++ b ∷ []) tag octets is parts.1 ∙ ap (λ (w : List ℕ). asked scan w octets) (append_assoc word (b ∷ []) tag)

first_asked : (command : Named) (tag octets : List ℕ) → IsTag tag → asked (start command) [] (tag ++ 32 ∷ octets) ≡ asked (within command depth.None) [] octets
first_asked command tag octets is =
    let parts = tag_chars tag is in
    tag_asked (start command) [] tag (32 ∷ octets) refl parts.1
    ∙ end_asks (start command) tag 32 octets refl (no_item_list (start command) tag (32 ∷ octets) refl)
    ∙ ap (λ (o : Option Asked). option_list o ++ asked (after_octet (after_word (start command) tag) 32) [] octets) (none_asked (length tag == 0) (asked_by_word command tag))
    ∙ ap (λ (s : Scan). asked s [] octets) (after_first command tag parts.0)

line_asked_of : (scan : Scan) (octets : List ℕ) → list_all is_plain octets ≡ true → line_asked scan (octets ++ crlf) ≡ asked scan [] octets
line_asked_of scan octets plain =
    ap (λ (t : List ℕ). cond (are_plain t) (asked scan [] t) []) (text_of_line octets) ∙ ap (λ b. cond b (asked scan [] octets) []) plain

drop_all : (octets : List ℕ) (n : ℕ) → length octets ≤ n → drop n octets ≡ []
drop_all [] zero h = refl
drop_all [] (suc n) h = refl
drop_all (octet ∷ octets) zero h = absurd (omega arith)
drop_all (octet ∷ octets) (suc n) h = drop_all octets n (omega arith)

last_asked : (scan : Scan) (last : List ℕ) → IsLastLine last → asked_after 0 scan last ≡ line_asked scan last
last_asked scan last is =
    let len = length last in
    let found : line_length last ≡ Some len = ap line_length (sym (append-nil last)) ∙ lines_are_found last [] is.is_line in
    let whole : take len last ≡ last = ap (take len) (sym (append-nil last)) ∙ take_front last [] len refl in
    let count = section_length len last in
    let none : drop count last ≡ [] = drop_all last count (omega arith) in
    asked_next scan last len found
    ∙ ap (λ (l : List ℕ). line_asked scan (take len last) ++ asked_after 0 (after_line scan (take len last)) l) none
    ∙ append-nil (line_asked scan (take len last))
    ∙ ap (line_asked scan) whole

-- a command of one plain line
pub all_asked : (command : Named) (tag octets : List ℕ) → IsTag tag → list_all is_plain octets ≡ true → IsLastLine ((tag ++ 32 ∷ octets) ++ crlf)
    → asked_after 0 (start command) ((tag ++ 32 ∷ octets) ++ crlf) ≡ asked (within command depth.None) [] octets
all_asked command tag octets is plain last =
    last_asked (start command) ((tag ++ 32 ∷ octets) ++ crlf) last
    ∙ line_asked_of (start command) (tag ++ 32 ∷ octets) (plain_after_tag tag (32 ∷ octets) is plain)
    ∙ first_asked command tag octets is

-- ---- STATUS

same_scan : (level : Depth) (b : Bool) → cond b (within named.Status level) (within named.Status level) ≡ within named.Status level
same_scan level true = refl
same_scan level false = refl

after_status_word : (level : Depth) (word : List ℕ) → after_word (within named.Status level) word ≡ within named.Status level
after_status_word level word = same_scan level (length word == 0)

no_status_list : (word octets : List ℕ) → has_list (within named.Status depth.None) word octets ≡ false
no_status_list word octets = no_taken_list (within named.Status depth.None) word octets refl

pub asks_messages : AsksMessages
asks_messages state tag mailbox items is mailbox_is h last plain found =
    let octets = codes "STATUS " ++ listed mailbox items in
    let new = map (exchanged (codes "RECENT") (codes "MESSAGES")) items in
    ap frame.Whole (rewritten_as state.rev2 (status_octets tag mailbox items) (status_octets tag mailbox new) named.Status found refl
    (one_line named.Status tag octets is plain last
    ∙ ap (λ (l : List ℕ). (tag ++ 32 ∷ (codes "STATUS " ++ l)) ++ crlf) (listed_written named.Status (after_status_word depth.One) mailbox items mailbox_is (after_status_word depth.None mailbox) (no_status_list mailbox) h refl)))

some_asked : (item : List ℕ) → (length item == 0) ≡ false → word_asked (within named.Status depth.One) item ≡ Some (status_asked item)
some_asked item some = ap (λ b. cond (not b && true) (Some (status_asked item)) None) some

each_asked : (items : List (List ℕ)) → AllByRecursion IsPlainWord items → flat_map (item_asked named.Status) items ≡ map status_asked items
each_asked [] h = refl
each_asked (item ∷ items) h =
    ap (λ (o : Option Asked). option_list o ++ flat_map (item_asked named.Status) items) (some_asked item h.0.some)
    ∙ ap (λ (l : List Asked). status_asked item ∷ l) (each_asked items h.1)

told_as : (rev2 : Bool) (octets name : List ℕ) (values : List StatusValue) (all : List Asked) → named_in rev2 octets ≡ named.Status → asked_after 0 (start named.Status) octets ≡ all
    → status_text (command_asked (named_in rev2 octets) octets) name values ++ crlf ≡ status_text all name values ++ crlf
told_as rev2 octets name values all e f =
    ap (λ (c : Named). status_text (command_asked c octets) name values ++ crlf) e ∙ ap (λ (m : List Asked). status_text m name values ++ crlf) f

pub tells_recent : TellsRecent
tells_recent state tag mailbox items name values is mailbox_is h last plain found =
    told_as state.rev2 (status_octets tag mailbox items) name values (map status_asked items) found
    (all_asked named.Status tag (codes "STATUS " ++ listed mailbox items) is plain last
    ∙ listed_asked named.Status (after_status_word depth.One) mailbox items mailbox_is (after_status_word depth.None mailbox) (no_status_list mailbox) h (none_asked (length mailbox == 0) (Some (status_asked mailbox)))
    ∙ each_asked items h)
