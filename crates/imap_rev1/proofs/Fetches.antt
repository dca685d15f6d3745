-- FETCH, as it is written and as its messages are told.
use Rattle.std.proofs.Common.{arith, suc, ◌≡◌, ◌∙◌, ap, sym, refl, subst, ℕ, Bool, true, false, cond, not, ◌&&◌, ◌||◌, List, [], ◌∷◌, ◌++◌, append-nil, drop, length, map, flat_map, Option, Some, None}
use Rattle.std.specs.Prelude.{codes, decimal, ◌==◌, is_some, option_map}
use Rattle.std.specs.List.{concat, list_all, list_any, AllByRecursion}
use Rattle.std.specs.Option.{option_and_then}
use Rattle.std.proofs.lemmas.Bool.Decides.{nat_tests}
use Rattle.std.proofs.lemmas.Option.{same_Some}
use Rattle.imap_lex.specs.Framing.{crlf}
use Rattle.imap_lex.specs.Stream.{IsLastLine}
use Rattle.imap_lex.specs.declared.frame.Frame.TheVariants as frame
use Rattle.imap_print.specs.declared.fetch.FetchedItems.{FetchedItems}
use Rattle.imap_print.specs.declared.fetch.FetchedSection.{FetchedSection}
use Rattle.imap_print.specs.declared.response.Response.TheVariants as response
use Rattle.imap_print.specs.Fetched.{body_text, item_words}
use Rattle.imap_print.specs.Lines.{is_plain}
use Rattle.imap_print.specs.Printed.{line}
use Rattle.imap_print.specs.Words.{given_by, in_parentheses}
use Rattle.imap_rev1_frames.specs.declared.asked.Asked.{Asked}
use Rattle.imap_rev1_frames.specs.declared.asked.Asked.TheVariants as asked
use Rattle.imap_rev1_frames.specs.declared.asked.Label.{Label}
use Rattle.imap_rev1_frames.specs.declared.asked.Label.TheVariants as label
use Rattle.imap_rev1_frames.specs.declared.named.Named.{Named}
use Rattle.imap_rev1_frames.specs.declared.named.Named.TheVariants as named
use Rattle.imap_rev1.specs.declared.rev1.Rev1.{Rev1}
use Rattle.imap_rev1_frames.specs.declared.scan.Depth.TheVariants as depth
use Rattle.imap_rev1_frames.specs.declared.part.PartSection.{PartSection}
use Rattle.imap_rev1_frames.specs.Asked.{fetch_for, is_labelled, is_section, label_for, label_in, labelled_by, other_asked, part_or_section, section_asked, section_by, unlabelled_by, without_repeats}
use Rattle.imap_rev1_frames.specs.Part.{PartWords, after_bracket, is_ended, message_for, part_for, part_in, part_words, section_of, words_in}
use Rattle.imap_rev1.specs.FetchLaws.{fetch_octets, IsFetch, alone, AsksSections, AsksSection, AsksForFields, AsksMacro, AsksMessage, EndsWithList, message_told, TellsAsAsked, labelled_line, TellsLabel, TellsListedLabel, part_line, TellsPart, TellsListedPart, PrintsUnlabelled, PrintsNotices, TellsFields}
use Rattle.imap_rev1.specs.Labels.{stands_for, labelled_text, all_asked_words, fetch_text}
use Rattle.imap_rev1.specs.Laws.{IsPlainWord, listed}
use Rattle.imap_rev1.specs.Parts.{section_text}
use Rattle.imap_rev1_frames.specs.Named.{begins, named_in}
use Rattle.imap_rev1.specs.Rev1.{rev1, rules_for}
use Rattle.imap_rev1_frames.specs.Rewritten.{command_asked, command_for, asked_after}
use Rattle.imap_rev1_frames.specs.declared.scan.Scan.{Scan}
use Rattle.imap_rev1_frames.specs.Scan.{start, after_octet, after_word, option_list, word_asked, written, asked}
use Rattle.imap_rev1_frames.specs.Scan.{has_list}
use Rattle.imap_rev1_frames.proofs.Steps.{no_section_list, end_written, end_asks, list_written as list_word_written, list_asks as list_word_asks}
use Rattle.imap_rev1.proofs.Listed.{within, word_read, asked_read, item_asked, listed_written, listed_asked, all_asked}
use Rattle.imap_rev1.proofs.Spelt.{one_line, rewritten_as}

-- ---- words

same_scan : (b : Bool) → cond b (within named.Fetch depth.One) (within named.Fetch depth.One) ≡ within named.Fetch depth.One
same_scan true = refl
same_scan false = refl

after_item : (word : List ℕ) → after_word (within named.Fetch depth.One) word ≡ within named.Fetch depth.One
after_item word = same_scan (length word == 0)

-- a word that asks for no section is none
no_section_by : (b : Bool) (a : Asked) → cond b (Some a) None ≡ None → b ≡ false
no_section_by true a e = absurd cc
no_section_by false a e = refl

no_unlabelled : (o : Option Label) (word : List ℕ) → unlabelled_by o word ≡ None → is_section word ≡ false
no_unlabelled None word e = no_section_by (is_section word) (part_or_section (part_in word)) e
no_unlabelled (Some l) word e = absurd cc

no_labelled : (o : Option Label) (word : List ℕ) → labelled_by o word ≡ None → is_section word ≡ false
no_labelled None word e = no_unlabelled (label_for word) word e
no_labelled (Some l) word e = absurd cc

no_list_after : (set octets : List ℕ) → section_asked set ≡ None → has_list (within named.Fetch depth.None) set octets ≡ false
no_list_after set octets none = no_section_list (within named.Fetch depth.None) set octets (no_labelled (label_in set) set none)

-- a word that asks for no section
module _ (set : List ℕ) (none : section_asked set ≡ None) (some : (length set == 0) ≡ false) where
  after_set : after_word (within named.Fetch depth.None) set ≡ within named.Fetch depth.None
  after_set =
      ap (λ b. cond b (within named.Fetch depth.None) (cond (is_some (section_asked set)) (within named.Other depth.None) (within named.Fetch depth.None))) some
      ∙ ap (λ (o : Option Asked). cond (is_some o) (within named.Other depth.None) (within named.Fetch depth.None)) none

  set_asked : word_asked (within named.Fetch depth.None) set ≡ None
  set_asked = ap (λ b. cond (not b && true) (section_asked set) None) some ∙ none

-- a word that doesn't begin as a section is no part
no_bracket : (word : List ℕ) (sets peeks : Bool) → (sets || peeks) ≡ false → option_and_then words_in (cond sets (Some (drop 5 word)) (cond peeks (Some (drop 10 word)) None)) ≡ None
no_bracket word true peeks e = absurd cc
no_bracket word false true e = absurd cc
no_bracket word false false e = refl

same_none : (b : Bool) (found : Option PartWords) → found ≡ None → cond b found None ≡ None
same_none true found e = e
same_none false found e = refl

no_part : (word : List ℕ) → other_asked word ≡ None → part_for (part_words word) word ≡ word
no_part word e =
    ap (λ (found : Option PartWords). part_for found word)
    (same_none (is_ended word) (option_and_then words_in (after_bracket word))
    (no_bracket word (begins (codes "BODY[") word) (begins (codes "BODY.PEEK[") word) (no_section_by (is_section word) (part_or_section (part_in word)) e)))

no_other : (o : Option Label) (word : List ℕ) → unlabelled_by o word ≡ None → part_for (part_words word) word ≡ word
no_other None word e = no_part word e
no_other (Some l) word e = absurd cc

no_label : (o : Option Label) (word : List ℕ) → labelled_by o word ≡ None → section_by o word ≡ word
no_label None word e = no_other (label_for word) word e
no_label (Some l) word e = absurd cc

item_by : (word : List ℕ) (b : Bool) → b ≡ false → cond (not b && true) (section_asked word) None ≡ section_asked word
item_by word true h = absurd cc
item_by word false h = refl

each_asked : (items : List (List ℕ)) → AllByRecursion IsPlainWord items → flat_map (item_asked named.Fetch) items ≡ flat_map (λ word. option_list (section_asked word)) items
each_asked [] h = refl
each_asked (item ∷ items) h =
    ap (λ (o : Option Asked). option_list o ++ flat_map (item_asked named.Fetch) items) (item_by item (length item == 0) h.0.some)
    ∙ ap (λ (l : List Asked). option_list (section_asked item) ++ l) (each_asked items h.1)

-- ---- frames

-- the words of the command, and a space after each
abbrev command_octets : (uid : Bool) → List ℕ → List ℕ
command_octets true octets = codes "UID FETCH " ++ octets
command_octets false octets = codes "FETCH " ++ octets

command_written : (uid : Bool) (octets : List ℕ) → written (within named.Fetch depth.None) [] (command_octets uid octets) ≡ command_octets uid (written (within named.Fetch depth.None) [] octets)
command_written true octets = refl
command_written false octets = refl

command_asks : (uid : Bool) (octets : List ℕ) → asked (within named.Fetch depth.None) [] (command_octets uid octets) ≡ asked (within named.Fetch depth.None) [] octets
command_asks true octets = refl
command_asks false octets = refl

same_octets : (uid : Bool) (tag arguments : List ℕ) → fetch_octets uid tag arguments ≡ (tag ++ 32 ∷ command_octets uid arguments) ++ crlf
same_octets true tag arguments = refl
same_octets false tag arguments = refl

plain_command : (uid : Bool) (octets : List ℕ) → list_all is_plain octets ≡ true → list_all is_plain (command_octets uid octets) ≡ true
plain_command true octets h = h
plain_command false octets h = h

module _ (state : Rev1) (uid : Bool) (tag set octets : List ℕ) (is : IsFetch state uid tag set octets) where
  last_is : IsLastLine ((tag ++ 32 ∷ command_octets uid octets) ++ crlf)
  last_is = subst IsLastLine (same_octets uid tag octets) is.last

  frame_written : (new : List ℕ) → written (within named.Fetch depth.None) [] octets ≡ new → rev1.rewritten state (frame.Whole (fetch_octets uid tag octets)) ≡ frame.Whole (fetch_octets uid tag new)
  frame_written new e =
      ap frame.Whole
      (rewritten_as state.rev2 (fetch_octets uid tag octets) (fetch_octets uid tag new) named.Fetch is.named refl
      (ap (command_for named.Fetch) (same_octets uid tag octets)
      ∙ one_line named.Fetch tag (command_octets uid octets) is.tagged (plain_command uid octets is.plain) last_is
      ∙ ap (λ (l : List ℕ). (tag ++ 32 ∷ l) ++ crlf) (command_written uid octets ∙ ap (command_octets uid) e)
      ∙ sym (same_octets uid tag new)))

  -- what it asks for, and how a message is told
  frame_asked : (all : List Asked) → asked (within named.Fetch depth.None) [] octets ≡ all → command_asked (named_in state.rev2 (fetch_octets uid tag octets)) (fetch_octets uid tag octets) ≡ without_repeats [] all
  frame_asked all e =
      ap (λ (c : Named). command_asked c (fetch_octets uid tag octets)) is.named
      ∙ ap (λ (l : List ℕ). without_repeats [] (asked_after 0 (start named.Fetch) l)) (same_octets uid tag octets)
      ∙ ap (without_repeats [])
      (all_asked named.Fetch tag (command_octets uid octets) is.tagged (plain_command uid octets is.plain) last_is ∙ command_asks uid octets ∙ e)

  told_as : (all : List Asked) (b : Bool) (number : ℕ) (fetched : FetchedItems) → asked (within named.Fetch depth.None) [] octets ≡ all → list_any is_labelled (without_repeats [] all) ≡ b
      → message_told state (fetch_octets uid tag octets) number fetched ≡ cond b (fetch_text (without_repeats [] all) number fetched ++ crlf) (line (response.Fetch number fetched))
  told_as all b number fetched e any =
      ap (λ (l : List Asked). cond (list_any is_labelled l) (fetch_text l number fetched ++ crlf) (line (response.Fetch number fetched))) (frame_asked all e)
      ∙ ap (λ c. cond c (fetch_text (without_repeats [] all) number fetched ++ crlf) (line (response.Fetch number fetched))) any

-- ---- items in parentheses

module _ (state : Rev1) (uid : Bool) (tag set : List ℕ) (items : List (List ℕ)) (is : IsFetch state uid tag set (listed set items)) (each : AllByRecursion IsPlainWord items) where
  kept : after_word (within named.Fetch depth.None) set ≡ within named.Fetch depth.None
  kept = after_set set is.no_section is.set_is.some

  list_written : written (within named.Fetch depth.None) [] (listed set items) ≡ listed set (map fetch_for items)
  list_written = listed_written named.Fetch after_item set items is.set_is kept (λ octets. no_list_after set octets is.no_section) each (no_label (label_in set) set is.no_section)

  list_asked : asked (within named.Fetch depth.None) [] (listed set items) ≡ flat_map (λ word. option_list (section_asked word)) items
  list_asked = listed_asked named.Fetch after_item set items is.set_is kept (λ octets. no_list_after set octets is.no_section) each (set_asked set is.no_section is.set_is.some) ∙ each_asked items each

pub asks_sections : AsksSections
asks_sections state uid tag set items is each = frame_written state uid tag set (listed set items) is _ (list_written state uid tag set items is each)

pub tells_as_asked : TellsAsAsked
tells_as_asked state uid tag set items number fetched is each any =
    told_as state uid tag set (listed set items) is _ true number fetched (list_asked state uid tag set items is each) any

pub prints_unlabelled : PrintsUnlabelled
prints_unlabelled state uid tag set items number fetched is each none =
    told_as state uid tag set (listed set items) is _ false number fetched (list_asked state uid tag set items is each) none

-- ---- an item alone

module _ (state : Rev1) (uid : Bool) (tag set item : List ℕ) (is : IsFetch state uid tag set (alone set item)) (item_is : IsPlainWord item) where
  alone_written : written (within named.Fetch depth.None) [] (alone set item) ≡ alone set (fetch_for item)
  alone_written =
      word_read named.Fetch depth.None [] set (32 ∷ item) is.set_is.octets
      ∙ end_written (within named.Fetch depth.None) set 32 item refl (no_list_after set (32 ∷ item) is.no_section)
      ∙ ap (λ (w : List ℕ). w ++ 32 ∷ written (after_octet (after_word (within named.Fetch depth.None) set) 32) [] item) (no_label (label_in set) set is.no_section)
      ∙ ap (λ (s : Scan). set ++ 32 ∷ written (after_octet s 32) [] item) (after_set set is.no_section is.set_is.some)
      ∙ ap (λ (l : List ℕ). set ++ 32 ∷ written (within named.Fetch depth.None) [] l) (sym (append-nil item))
      ∙ ap (λ (l : List ℕ). set ++ 32 ∷ l) (word_read named.Fetch depth.None [] item [] item_is.octets)

  alone_asked : asked (within named.Fetch depth.None) [] (alone set item) ≡ option_list (section_asked item)
  alone_asked =
      asked_read named.Fetch depth.None [] set (32 ∷ item) is.set_is.octets
      ∙ end_asks (within named.Fetch depth.None) set 32 item refl (no_list_after set (32 ∷ item) is.no_section)
      ∙ ap (λ (o : Option Asked). option_list o ++ asked (after_octet (after_word (within named.Fetch depth.None) set) 32) [] item) (set_asked set is.no_section is.set_is.some)
      ∙ ap (λ (s : Scan). asked (after_octet s 32) [] item) (after_set set is.no_section is.set_is.some)
      ∙ ap (asked (within named.Fetch depth.None) []) (sym (append-nil item))
      ∙ asked_read named.Fetch depth.None [] item [] item_is.octets
      ∙ ap option_list (item_by item (length item == 0) item_is.some)

pub asks_section : AsksSection
asks_section state uid tag set item is item_is = frame_written state uid tag set (alone set item) is _ (alone_written state uid tag set item is item_is)

pub asks_macro : AsksMacro
asks_macro state uid false tag set is = asks_section state uid tag set (codes "ALL") is (record { octets = refl; some = refl })
asks_macro state uid true tag set is = asks_section state uid tag set (codes "FULL") is (record { octets = refl; some = refl })

-- ---- one label

word_stands : (word : List ℕ) (l : Label) → label_in word ≡ Some l → option_list (section_asked word) ≡ asked.Labelled l ∷ []
word_stands word l names = ap (λ (o : Option Label). option_list (labelled_by o word)) names

one_found : (l : Label) (body : FetchedSection) → stands_for l body ≡ true → all_asked_words (body ∷ []) (body ∷ []) (asked.Labelled l ∷ []) ≡ labelled_text l body ∷ []
one_found l body is = ap (λ b. given_by (labelled_text l) (cond b (Some body) None) ++ []) is

abbrev line_of : (number : ℕ) → FetchedItems → List (List ℕ) → List ℕ
line_of number fetched sections = (codes "* " ++ decimal number ++ codes " FETCH " ++ in_parentheses (item_words fetched ++ sections)) ++ crlf

-- the line of a message of which one label was asked
line_told : (l : Label) (number : ℕ) (fetched : FetchedItems) (body : FetchedSection) → fetched.sections ≡ body ∷ [] → stands_for l body ≡ true
    → fetch_text (asked.Labelled l ∷ []) number fetched ++ crlf ≡ labelled_line l number fetched body ++ crlf
line_told l number fetched body one stands =
    ap (λ (bodies : List FetchedSection). line_of number fetched (all_asked_words bodies bodies (asked.Labelled l ∷ []))) one
    ∙ ap (line_of number fetched) (one_found l body stands)

pub tells_label : TellsLabel
tells_label state uid tag set word l number fetched body is word_is names one stands =
    told_as state uid tag set (alone set word) is (asked.Labelled l ∷ []) true number fetched (alone_asked state uid tag set word is word_is ∙ word_stands word l names) refl
    ∙ line_told l number fetched body one stands

pub tells_listed_label : TellsListedLabel
tells_listed_label state uid tag set word l number fetched body is word_is names one stands =
    told_as state uid tag set (listed set (word ∷ [])) is (asked.Labelled l ∷ []) true number fetched
    (list_asked state uid tag set (word ∷ []) is (word_is, tt) ∙ append-nil (option_list (section_asked word)) ∙ word_stands word l names) refl
    ∙ line_told l number fetched body one stands

-- ---- one part

message_by : (found : Option PartWords) (p : PartSection) (word : List ℕ) → part_or_section (option_map section_of found) ≡ asked.Part p → part_for found word ≡ message_for word
message_by None p word e = absurd cc
message_by (Some w) p word e = refl

other_part : (b : Bool) (p : PartSection) (word : List ℕ) → cond b (Some (part_or_section (part_in word))) None ≡ Some (asked.Part p) → part_for (part_words word) word ≡ message_for word
other_part true p word e = message_by (part_words word) p word (same_Some _ _ e)
other_part false p word e = absurd cc

unlabelled_part : (o : Option Label) (p : PartSection) (word : List ℕ) → unlabelled_by o word ≡ Some (asked.Part p) → part_for (part_words word) word ≡ message_for word
unlabelled_part None p word e = other_part (is_section word) p word e
unlabelled_part (Some l) p word e = absurd cc

labelled_part : (o : Option Label) (p : PartSection) (word : List ℕ) → labelled_by o word ≡ Some (asked.Part p) → section_by o word ≡ message_for word
labelled_part None p word e = unlabelled_part (label_for word) p word e
labelled_part (Some l) p word e = absurd cc

pub asks_message : AsksMessage
asks_message word p e = labelled_part (label_in word) p word e

part_found : (p : PartSection) (body : FetchedSection) → stands_for label.Message body ≡ true → all_asked_words (body ∷ []) (body ∷ []) (asked.Part p ∷ []) ≡ section_text p (concat body.octets) ∷ []
part_found p body is = ap (λ b. given_by (λ (at : FetchedSection). section_text p (concat at.octets)) (cond b (Some body) None) ++ []) is

part_told : (p : PartSection) (number : ℕ) (fetched : FetchedItems) (body : FetchedSection) → fetched.sections ≡ body ∷ [] → stands_for label.Message body ≡ true
    → fetch_text (asked.Part p ∷ []) number fetched ++ crlf ≡ part_line p number fetched body ++ crlf
part_told p number fetched body one stands =
    ap (λ (bodies : List FetchedSection). line_of number fetched (all_asked_words bodies bodies (asked.Part p ∷ []))) one
    ∙ ap (line_of number fetched) (part_found p body stands)

pub tells_part : TellsPart
tells_part state uid tag set word p number fetched body is word_is asks one stands =
    told_as state uid tag set (alone set word) is (asked.Part p ∷ []) true number fetched (alone_asked state uid tag set word is word_is ∙ ap option_list asks) refl
    ∙ part_told p number fetched body one stands

pub tells_listed_part : TellsListedPart
tells_listed_part state uid tag set word p number fetched body is word_is asks one stands =
    told_as state uid tag set (listed set (word ∷ [])) is (asked.Part p ∷ []) true number fetched
    (list_asked state uid tag set (word ∷ []) is (word_is, tt) ∙ append-nil (option_list (section_asked word)) ∙ ap option_list asks) refl
    ∙ part_told p number fetched body one stands

-- ---- header fields of a part

not_both : (o : Option Asked) (a : Asked) → o ≡ None → o ≡ Some a → ⊥
not_both o a e f = let g : None ≡ Some a = sym e ∙ f in absurd cc

not_none : (n : ℕ) → (suc n == 0) ≡ false
not_none n = grind (arith, nat_tests)

-- a word that asks for something has an octet
word_some : (octets : List ℕ) (a : Asked) → section_asked octets ≡ Some a → (length octets == 0) ≡ false
word_some [] a e = absurd (not_both (section_asked []) a refl e)
word_some (octet ∷ octets) a e = not_none (length octets)

module _ (state : Rev1) (uid : Bool) (tag set word : List ℕ) (p : PartSection) (is : IsFetch state uid tag set (alone set word)) (ends : EndsWithList word) (asks : section_asked word ≡ Some (asked.Part p)) where
  lists : has_list (within named.Fetch depth.None) ends.front (codes " (" ++ ends.list) ≡ true
  lists = ap (λ (b : Bool). b && true && true && true) ends.begins

  fields_written : written (within named.Fetch depth.None) [] (alone set word) ≡ alone set (message_for word)
  fields_written =
      word_read named.Fetch depth.None [] set (32 ∷ word) is.set_is.octets
      ∙ end_written (within named.Fetch depth.None) set 32 word refl (no_list_after set (32 ∷ word) is.no_section)
      ∙ ap (λ (w : List ℕ). w ++ 32 ∷ written (after_octet (after_word (within named.Fetch depth.None) set) 32) [] word) (no_label (label_in set) set is.no_section)
      ∙ ap (λ (s : Scan). set ++ 32 ∷ written (after_octet s 32) [] word) (after_set set is.no_section is.set_is.some)
      ∙ ap (λ (l : List ℕ). set ++ 32 ∷ written (within named.Fetch depth.None) [] l) ends.spelt
      ∙ ap (λ (l : List ℕ). set ++ 32 ∷ l) (word_read named.Fetch depth.None [] ends.front (codes " (" ++ ends.list) ends.plain.octets)
      ∙ ap (λ (l : List ℕ). set ++ 32 ∷ l) (list_word_written (within named.Fetch depth.None) ends.front ends.list refl lists ends.ends)
      ∙ ap (λ (l : List ℕ). set ++ 32 ∷ fetch_for l) (sym ends.spelt)
      ∙ ap (λ (l : List ℕ). set ++ 32 ∷ l) (asks_message word p asks)

  fields_asked : asked (within named.Fetch depth.None) [] (alone set word) ≡ asked.Part p ∷ []
  fields_asked =
      asked_read named.Fetch depth.None [] set (32 ∷ word) is.set_is.octets
      ∙ end_asks (within named.Fetch depth.None) set 32 word refl (no_list_after set (32 ∷ word) is.no_section)
      ∙ ap (λ (o : Option Asked). option_list o ++ asked (after_octet (after_word (within named.Fetch depth.None) set) 32) [] word) (set_asked set is.no_section is.set_is.some)
      ∙ ap (λ (s : Scan). asked (after_octet s 32) [] word) (after_set set is.no_section is.set_is.some)
      ∙ ap (asked (within named.Fetch depth.None) []) ends.spelt
      ∙ asked_read named.Fetch depth.None [] ends.front (codes " (" ++ ends.list) ends.plain.octets
      ∙ list_word_asks (within named.Fetch depth.None) ends.front ends.list refl lists ends.ends
      ∙ ap (λ (l : List ℕ). option_list (word_asked (within named.Fetch depth.None) l)) (sym ends.spelt)
      ∙ ap option_list (item_by word (length word == 0) (word_some word (asked.Part p) asks) ∙ asks)

pub asks_for_fields : AsksForFields
asks_for_fields state uid tag set word p is ends asks = frame_written state uid tag set (alone set word) is _ (fields_written state uid tag set word p is ends asks)

pub tells_fields : TellsFields
tells_fields state uid tag set word p number fetched body is ends asks one stands =
    told_as state uid tag set (alone set word) is (asked.Part p ∷ []) true number fetched (fields_asked state uid tag set word p is ends asks) refl
    ∙ part_told p number fetched body one stands

-- ---- notices

no_words : (all : List Asked) → all_asked_words [] [] all ≡ []
no_words [] = refl
no_words (asked.Labelled l ∷ more) = no_words more
no_words (asked.Unlabelled l ∷ more) = no_words more
no_words (asked.Part p ∷ more) = no_words more
no_words (asked.Section ∷ more) = no_words more
no_words (asked.Recent ∷ more) = no_words more
no_words (asked.Value ∷ more) = no_words more

notice_by : (b : Bool) (x y : List ℕ) → x ≡ y → cond b x y ≡ y
notice_by true x y e = e
notice_by false x y e = refl

pub prints_notices : PrintsNotices
prints_notices state by number fetched none =
    let all = (rules_for state by).asked in
    notice_by (list_any is_labelled all) (fetch_text all number fetched ++ crlf) (line (response.Fetch number fetched))
    (ap (λ (bodies : List FetchedSection). line_of number fetched (all_asked_words bodies bodies all)) none
    ∙ ap (line_of number fetched) (no_words all)
    ∙ ap (λ (bodies : List FetchedSection). line_of number fetched (map body_text bodies)) (sym none))
