-- What the items of STATUS and FETCH ask for (RFC 3501, sections 6.3.10 and 6.4.5).
use Rattle.std.specs.Prelude.{ℕ, Bool, true, false, ◌||◌, List, [], ◌∷◌, ◌++◌, codes, Option, Some, None}
use Rattle.std.specs.Prelude.{if◌then◌else◌}
use Rattle.std.specs.List.{list_any}
use Rattle.imap_rev1_frames.specs.declared.asked.Asked.{Asked}
use Rattle.imap_rev1_frames.specs.declared.asked.Asked.TheVariants as asked
use Rattle.imap_rev1_frames.specs.declared.asked.Label.{Label}
use Rattle.imap_rev1_frames.specs.declared.asked.Label.TheVariants as label
use Rattle.imap_rev1_frames.specs.declared.part.PartSection.{PartSection}
use Rattle.imap_rev1_frames.specs.Named.{begins, is_word}
use Rattle.imap_rev1_frames.specs.Part.{is_same_part, part_for, part_in, part_words}

-- ---- STATUS

abbrev pub status_asked : (word : List ℕ) → Asked
status_asked word = if is_word (codes "RECENT") word then asked.Recent else asked.Value

abbrev pub is_recent : Asked → Bool
is_recent asked.Recent = true
is_recent _ = false

-- ---- FETCH

abbrev pub label_name : Label → List ℕ
label_name label.Message = codes "RFC822"
label_name label.Header = codes "RFC822.HEADER"
label_name label.Text = codes "RFC822.TEXT"
label_name label.Envelope = codes "ENVELOPE"
label_name label.Body = codes "BODY"
label_name label.Structure = codes "BODYSTRUCTURE"
label_name label.Full = codes "ENVELOPE"

-- The macro ALL stands for these items (RFC 3501, section 6.4.5).
abbrev pub envelope_section : (word : List ℕ) → List ℕ
envelope_section word =
    if is_word (codes "ALL") word then codes "(FLAGS INTERNALDATE RFC822.SIZE BODY.PEEK[HEADER])"
    else codes "BODY.PEEK[HEADER]"

-- what asks for the same octets, or for those in which it stands, and sets `\Seen` or not as the label does
abbrev pub label_section : Label → (word : List ℕ) → List ℕ
label_section label.Message word = codes "BODY[]"
label_section label.Header word = codes "BODY.PEEK[HEADER]"
label_section label.Text word = codes "BODY[TEXT]"
label_section label.Envelope word = envelope_section word
label_section label.Body word = codes "BODY.PEEK[]"
label_section label.Structure word = codes "BODY.PEEK[]"
label_section label.Full word = codes "(FLAGS INTERNALDATE RFC822.SIZE BODY.PEEK[])"

-- the label of what is read in a section (section 6.4.5, ALL and FULL)
abbrev pub contents_label : (word : List ℕ) → Option Label
contents_label word =
    if is_word (codes "ENVELOPE") word || is_word (codes "ALL") word then Some label.Envelope
    else (if is_word (codes "BODY") word then Some label.Body
    else (if is_word (codes "BODYSTRUCTURE") word then Some label.Structure
    else (if is_word (codes "FULL") word then Some label.Full else None)))

-- the label that the word is, or that it stands for
abbrev pub label_in : (word : List ℕ) → Option Label
label_in word =
    if is_word (codes "RFC822") word then Some label.Message
    else (if is_word (codes "RFC822.HEADER") word then Some label.Header
    else (if is_word (codes "RFC822.TEXT") word then Some label.Text else contents_label word))

-- the label for the section that the word asks for
abbrev pub label_for : (word : List ℕ) → Option Label
label_for word =
    if is_word (codes "BODY[]") word || is_word (codes "BODY.PEEK[]") word then Some label.Message
    else (if is_word (codes "BODY[HEADER]") word || is_word (codes "BODY.PEEK[HEADER]") word
    then Some label.Header
    else (if is_word (codes "BODY[TEXT]") word || is_word (codes "BODY.PEEK[TEXT]") word then Some label.Text
    else None))

-- a section, or its front
abbrev pub is_section : (word : List ℕ) → Bool
is_section word = begins (codes "BODY[") word || begins (codes "BODY.PEEK[") word

abbrev pub part_or_section : Option PartSection → Asked
part_or_section (Some p) = asked.Part p
part_or_section None = asked.Section

abbrev pub other_asked : (word : List ℕ) → Option Asked
other_asked word = if is_section word then Some (part_or_section (part_in word)) else None

abbrev pub unlabelled_by : Option Label → (word : List ℕ) → Option Asked
unlabelled_by (Some l) word = Some (asked.Unlabelled l)
unlabelled_by None word = other_asked word

abbrev pub labelled_by : Option Label → (word : List ℕ) → Option Asked
labelled_by (Some l) word = Some (asked.Labelled l)
labelled_by None word = unlabelled_by (label_for word) word

-- the section for which the word asks, if it does
abbrev pub section_asked : (word : List ℕ) → Option Asked
section_asked word = labelled_by (label_in word) word

abbrev pub section_by : Option Label → (word : List ℕ) → List ℕ
section_by (Some l) word = label_section l word
section_by None word = part_for (part_words word) word

-- What is asked in place of the word. For a part the message is.
abbrev pub fetch_for : (word : List ℕ) → List ℕ
fetch_for word = section_by (label_in word) word

-- ---- each item once

abbrev pub is_same_label : Label → Label → Bool
is_same_label label.Message label.Message = true
is_same_label label.Header label.Header = true
is_same_label label.Text label.Text = true
is_same_label label.Envelope label.Envelope = true
is_same_label label.Body label.Body = true
is_same_label label.Structure label.Structure = true
is_same_label label.Full label.Full = true
is_same_label _ _ = false

-- both ask for the section of a label, and in the same way, or for the same section of a part
abbrev pub is_repeat : Asked → Asked → Bool
is_repeat (asked.Labelled l) (asked.Labelled m) = is_same_label l m
is_repeat (asked.Unlabelled l) (asked.Unlabelled m) = is_same_label l m
is_repeat (asked.Part p) (asked.Part q) = is_same_part p q
is_repeat _ _ = false

abbrev pub with_asked : List Asked → Asked → List Asked
with_asked kept a = if list_any (is_repeat a) kept then kept else kept ++ a ∷ []

-- the items after those that are kept, without those that are asked for again
abbrev pub without_repeats : (kept : List Asked) → List Asked → List Asked
without_repeats kept [] = kept
without_repeats kept (a ∷ more) = without_repeats (with_asked kept a) more

-- an item is told under a label, or is a part
abbrev pub is_labelled : Asked → Bool
is_labelled (asked.Labelled l) = true
is_labelled (asked.Part p) = true
is_labelled _ = false
