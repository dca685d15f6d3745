-- Laws of FETCH in the dialect of IMAP4rev1 (RFC 3501, sections 6.4.5 and 7.4.2).
use Rattle.std.specs.Prelude.{◌≡◌, ℕ, Bool, true, false, List, [], ◌∷◌, ◌++◌, length, codes, decimal, map, flat_map}
use Rattle.std.specs.Prelude.{Option, Some, None}
use Rattle.std.specs.List.{AllByRecursion, concat, list_all, list_any}
use Rattle.imap_lex.specs.CommandTag.{IsTag}
use Rattle.imap_lex.specs.Framing.{crlf}
use Rattle.imap_lex.specs.Stream.{IsLastLine}
use Rattle.imap_lex.specs.declared.frame.Frame.{Frame}
use Rattle.imap_lex.specs.declared.frame.Frame.TheVariants.{Whole}
use Rattle.imap_print.specs.declared.fetch.FetchedItems.{FetchedItems}
use Rattle.imap_print.specs.declared.fetch.FetchedSection.{FetchedSection}
use Rattle.imap_print.specs.declared.response.Response.TheVariants as response
use Rattle.imap_print.specs.Fetched.{item_words}
use Rattle.imap_print.specs.Lines.{is_plain}
use Rattle.imap_print.specs.Printed.{line}
use Rattle.imap_print.specs.Words.{in_parentheses}
use Rattle.imap_rev1_frames.specs.declared.asked.Asked.{Asked}
use Rattle.imap_rev1_frames.specs.declared.asked.Asked.TheVariants as asked
use Rattle.imap_rev1_frames.specs.declared.asked.Label.{Label}
use Rattle.imap_rev1_frames.specs.declared.asked.Label.TheVariants as label
use Rattle.imap_rev1_frames.specs.declared.named.Named.TheVariants as named
use Rattle.imap_rev1.specs.declared.rev1.Rev1.{Rev1}
use Rattle.imap_rev1_frames.specs.Asked.{fetch_for, is_labelled, is_section, label_in, section_asked, without_repeats}
use Rattle.imap_rev1.specs.Labels.{fetch_text, labelled_text, stands_for}
use Rattle.imap_rev1_frames.specs.declared.part.PartSection.{PartSection}
use Rattle.imap_rev1_frames.specs.Part.{fields_length, message_for}
use Rattle.imap_rev1.specs.Laws.{IsPlainWord, listed}
use Rattle.imap_rev1.specs.Parts.{section_text}
use Rattle.imap_rev1_frames.specs.Named.{named_in}
use Rattle.imap_rev1.specs.Rev1.{rev1}
use Rattle.imap_rev1_frames.specs.Scan.{option_list}

abbrev pub fetch_word : (uid : Bool) → List ℕ
fetch_word true = codes " UID FETCH "
fetch_word false = codes " FETCH "

abbrev pub fetch_octets : (uid : Bool) → (tag arguments : List ℕ) → List ℕ
fetch_octets uid tag arguments = (tag ++ (fetch_word uid ++ arguments)) ++ crlf

-- a FETCH with these arguments, the first of which is a word that asks for no section
pub record IsFetch (state : Rev1) (uid : Bool) (tag set arguments : List ℕ) : Type 0 where
  pub tagged : IsTag tag
  pub set_is : IsPlainWord set
  pub no_section : section_asked set ≡ None
  pub last : IsLastLine (fetch_octets uid tag arguments)
  pub plain : list_all is_plain arguments ≡ true
  pub named : named_in state.rev2 (fetch_octets uid tag arguments) ≡ named.Fetch

-- one item, without parentheses
abbrev pub alone : (set item : List ℕ) → List ℕ
alone set item = set ++ 32 ∷ item

-- Another item is asked in place of each label, and of each part.
abbrev pub AsksSections : Type 0
AsksSections =
    (state : Rev1) (uid : Bool) (tag set : List ℕ) (items : List (List ℕ))
    → IsFetch state uid tag set (listed set items) → AllByRecursion IsPlainWord items
    → rev1.rewritten state (Whole (fetch_octets uid tag (listed set items)))
    ≡ Whole (fetch_octets uid tag (listed set (map fetch_for items)))

abbrev pub AsksSection : Type 0
AsksSection =
    (state : Rev1) (uid : Bool) (tag set item : List ℕ)
    → IsFetch state uid tag set (alone set item) → IsPlainWord item
    → rev1.rewritten state (Whole (fetch_octets uid tag (alone set item)))
    ≡ Whole (fetch_octets uid tag (alone set (fetch_for item)))

-- The macros ALL and FULL ask for the items of FAST, and for the header or the message (RFC 3501, section 6.4.5).
abbrev pub macro_items : (full : Bool) → List ℕ
macro_items false = codes "(FLAGS INTERNALDATE RFC822.SIZE BODY.PEEK[HEADER])"
macro_items true = codes "(FLAGS INTERNALDATE RFC822.SIZE BODY.PEEK[])"

abbrev pub macro_word : (full : Bool) → List ℕ
macro_word false = codes "ALL"
macro_word true = codes "FULL"

abbrev pub AsksMacro : Type 0
AsksMacro =
    (state : Rev1) (uid full : Bool) (tag set : List ℕ)
    → IsFetch state uid tag set (alone set (macro_word full))
    → rev1.rewritten state (Whole (fetch_octets uid tag (alone set (macro_word full))))
    ≡ Whole (fetch_octets uid tag (alone set (macro_items full)))

-- the sections that the words ask for, each once
abbrev pub asked_for : (items : List (List ℕ)) → List Asked
asked_for items = without_repeats [] (flat_map (λ word. option_list (section_asked word)) items)

-- how a message is told that the FETCH asks for
abbrev pub message_told : Rev1 → (fetch : List ℕ) → (number : ℕ) → FetchedItems → List ℕ
message_told state fetch number fetched =
    rev1.told state (Some (Whole fetch)) (response.Fetch number fetched)

-- If a label or a part is one of the items, the sections are told as they were asked for and in this order.
abbrev pub TellsAsAsked : Type 0
TellsAsAsked =
    (state : Rev1) (uid : Bool) (tag set : List ℕ) (items : List (List ℕ))
    → (number : ℕ) (fetched : FetchedItems)
    → IsFetch state uid tag set (listed set items) → AllByRecursion IsPlainWord items
    → list_any is_labelled (asked_for items) ≡ true
    → message_told state (fetch_octets uid tag (listed set items)) number fetched
    ≡ fetch_text (asked_for items) number fetched ++ crlf

abbrev pub labelled_line : Label → (number : ℕ) → FetchedItems → FetchedSection → List ℕ
labelled_line label number fetched body =
    codes "* " ++ decimal number ++ codes " FETCH "
    ++ in_parentheses (item_words fetched ++ labelled_text label body ∷ [])

-- So what is fetched by a word that is one label, or stands for it, is told under this label, whether it stands
-- alone or in parentheses.
abbrev pub TellsLabel : Type 0
TellsLabel =
    (state : Rev1) (uid : Bool) (tag set word : List ℕ) (label : Label)
    → (number : ℕ) (fetched : FetchedItems) (body : FetchedSection)
    → IsFetch state uid tag set (alone set word) → IsPlainWord word → label_in word ≡ Some label
    → fetched.sections ≡ body ∷ [] → stands_for label body ≡ true
    → message_told state (fetch_octets uid tag (alone set word)) number fetched
    ≡ labelled_line label number fetched body ++ crlf

abbrev pub TellsListedLabel : Type 0
TellsListedLabel =
    (state : Rev1) (uid : Bool) (tag set word : List ℕ) (label : Label)
    → (number : ℕ) (fetched : FetchedItems) (body : FetchedSection)
    → IsFetch state uid tag set (listed set (word ∷ [])) → IsPlainWord word → label_in word ≡ Some label
    → fetched.sections ≡ body ∷ [] → stands_for label body ≡ true
    → message_told state (fetch_octets uid tag (listed set (word ∷ []))) number fetched
    ≡ labelled_line label number fetched body ++ crlf

-- ---- parts

-- The message is asked in place of a part, and sets `\Seen` if the part's section does.
abbrev pub AsksMessage : Type 0
AsksMessage =
    (word : List ℕ) (p : PartSection)
    → section_asked word ≡ Some (asked.Part p) → fetch_for word ≡ message_for word

abbrev pub part_line : PartSection → (number : ℕ) → FetchedItems → FetchedSection → List ℕ
part_line p number fetched body =
    codes "* " ++ decimal number ++ codes " FETCH "
    ++ in_parentheses (item_words fetched ++ section_text p (concat body.octets) ∷ [])

-- From the message that is fetched for it the part is told under its name, whether its word stands alone or in
-- parentheses.
abbrev pub TellsPart : Type 0
TellsPart =
    (state : Rev1) (uid : Bool) (tag set word : List ℕ) (p : PartSection)
    → (number : ℕ) (fetched : FetchedItems) (body : FetchedSection)
    → IsFetch state uid tag set (alone set word) → IsPlainWord word → section_asked word ≡ Some (asked.Part p)
    → fetched.sections ≡ body ∷ [] → stands_for label.Message body ≡ true
    → message_told state (fetch_octets uid tag (alone set word)) number fetched
    ≡ part_line p number fetched body ++ crlf

abbrev pub TellsListedPart : Type 0
TellsListedPart =
    (state : Rev1) (uid : Bool) (tag set word : List ℕ) (p : PartSection)
    → (number : ℕ) (fetched : FetchedItems) (body : FetchedSection)
    → IsFetch state uid tag set (listed set (word ∷ [])) → IsPlainWord word
    → section_asked word ≡ Some (asked.Part p)
    → fetched.sections ≡ body ∷ [] → stands_for label.Message body ≡ true
    → message_told state (fetch_octets uid tag (listed set (word ∷ []))) number fetched
    ≡ part_line p number fetched body ++ crlf

-- ---- header fields of parts

-- a word that ends with a header list
pub record EndsWithList (word : List ℕ) : Type 0 where
  pub front : List ℕ
  pub list : List ℕ
  pub spelt : word ≡ front ++ (codes " (" ++ list)
  pub plain : IsPlainWord front
  pub begins : is_section front ≡ true
  pub ends : fields_length front (codes " (" ++ list) ≡ length (codes " (" ++ list)

-- The message is asked in place of header fields of a part, with the names in parentheses.
abbrev pub AsksForFields : Type 0
AsksForFields =
    (state : Rev1) (uid : Bool) (tag set word : List ℕ) (p : PartSection)
    → IsFetch state uid tag set (alone set word) → EndsWithList word → section_asked word ≡ Some (asked.Part p)
    → rev1.rewritten state (Whole (fetch_octets uid tag (alone set word)))
    ≡ Whole (fetch_octets uid tag (alone set (message_for word)))

-- They are told from it under their name.
abbrev pub TellsFields : Type 0
TellsFields =
    (state : Rev1) (uid : Bool) (tag set word : List ℕ) (p : PartSection)
    → (number : ℕ) (fetched : FetchedItems) (body : FetchedSection)
    → IsFetch state uid tag set (alone set word) → EndsWithList word → section_asked word ≡ Some (asked.Part p)
    → fetched.sections ≡ body ∷ [] → stands_for label.Message body ≡ true
    → message_told state (fetch_octets uid tag (alone set word)) number fetched
    ≡ part_line p number fetched body ++ crlf

-- ---- other items

-- If none of the items is a label or a part, messages are printed.
abbrev pub PrintsUnlabelled : Type 0
PrintsUnlabelled =
    (state : Rev1) (uid : Bool) (tag set : List ℕ) (items : List (List ℕ))
    → (number : ℕ) (fetched : FetchedItems)
    → IsFetch state uid tag set (listed set items) → AllByRecursion IsPlainWord items
    → list_any is_labelled (asked_for items) ≡ false
    → message_told state (fetch_octets uid tag (listed set items)) number fetched
    ≡ line (response.Fetch number fetched)

-- A message without sections is printed, whatever the frame is: it is a notice.
abbrev pub PrintsNotices : Type 0
PrintsNotices =
    (state : Rev1) (by : Option Frame) (number : ℕ) (fetched : FetchedItems)
    → fetched.sections ≡ []
    → rev1.told state by (response.Fetch number fetched) ≡ line (response.Fetch number fetched)
