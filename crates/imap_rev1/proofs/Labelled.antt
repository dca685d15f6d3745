-- A message that is told under labels is one line.
use Rattle.std.proofs.Common.{◌≡◌, ap, arith, ℕ, Bool, true, false, cond, List, [], ◌∷◌, ◌++◌, Option, Some, None, refl, map, flat_map, drop, length, length-append, length-take, length-drop}
use Rattle.std.specs.Prelude.{codes, find, decimal, option_map}
use Rattle.std.specs.List.{concat, AllByRecursion}
use Rattle.imap_print.specs.declared.fetch.FetchedItems.{FetchedItems}
use Rattle.imap_print.specs.declared.fetch.FetchedSection.{FetchedSection}
use Rattle.imap_print.specs.declared.response.Response.TheVariants as response
use Rattle.imap_print.specs.Fetched.{item_words}
use Rattle.imap_print.specs.Lines.{IsPlain, IsHeld, IsPrintable, flags_keywords, section_names}
use Rattle.imap_print.specs.Fetched.{origin_text}
use Rattle.imap_print.specs.Words.{before_each, given_by, joined}
use Rattle.imap_print.proofs.Reader.{Settles, settled, settles-append, literal_settles, AllSettle, all_settle-append, words_settle}
use Rattle.imap_print.proofs.OneLine.{number_settles, section_settles as named_section_settles, body_settles, items_settle}
use Rattle.imap_query.specs.declared.fetch.Section.TheVariants as section
use Rattle.imap_mime.specs.Envelope.{envelope_of}
use Rattle.imap_mime.proofs.Texts.{envelope_settles}
use Rattle.imap_query.specs.declared.fetch.Partial.{Partial}
use Rattle.imap_text.specs.Sections.{header, text}
use Rattle.imap_text.specs.Fields.{fields}
use Rattle.imap_text.proofs.Cuts.{header-text, header_within}
use Rattle.imap_structure.specs.Laws.{IsPiece}
use Rattle.imap_structure.specs.Numbered.{message_at, part_at}
use Rattle.imap_structure.specs.Structure.{max_depth}
use Rattle.imap_structure.proofs.PartLaws.{parts_are_pieces, messages_are_pieces}
use Rattle.imap_structure.proofs.Texts.{structure_settles}
use Rattle.imap_rev1_frames.specs.declared.asked.Asked.{Asked}
use Rattle.imap_rev1_frames.specs.declared.asked.Asked.TheVariants as asked
use Rattle.imap_rev1_frames.specs.declared.asked.Label.{Label}
use Rattle.imap_rev1_frames.specs.declared.asked.Label.TheVariants as label
use Rattle.imap_rev1_frames.specs.declared.part.PartSection.{PartSection}
use Rattle.imap_rev1_frames.specs.declared.part.PartText.{PartText}
use Rattle.imap_rev1_frames.specs.declared.part.PartText.TheVariants as part_text
use Rattle.imap_rev1_frames.specs.Asked.{label_name}
use Rattle.imap_rev1.specs.Parts.{cut_of, found_text, octets_at, octets_within, origin_of, part_name, part_octets, section_text, text_name}
use Rattle.imap_rev1.proofs.FieldsHeld.{fields_within}
use Rattle.imap_rev1.proofs.PlainNames.{HasPlainNames, IsPlainAsked}
use Rattle.imap_rev1.specs.Labels.{stands_for, has_label, from_other, first_of, section_for, rest_after, labelled_contents, labelled_text, asked_text, asked_words, all_asked_words, fetch_words, fetch_text}

-- ---- sections of parts

-- the length of a piece
piece_held : (piece whole : List ℕ) → IsPiece piece whole → IsHeld whole → IsHeld piece
piece_held piece whole h held =
    omega (arith, ap length h.stands, length-append h.before (piece ++ h.after), length-append piece h.after, held)

header_held : (octets : List ℕ) → IsHeld octets → IsHeld (header octets)
header_held octets held = omega (arith, header_within octets, held)

text_held : (octets : List ℕ) → IsHeld octets → IsHeld (text octets)
text_held octets held = omega (arith, ap length (header-text octets), length-append (header octets) (text octets), held)

abbrev AreHeldIfThere : Option (List ℕ) → Type 0
AreHeldIfThere None = Unit {0}
AreHeldIfThere (Some octets) = IsHeld octets

mapped_held : (cut : List ℕ → List ℕ) (found : Option (List ℕ)) → ((octets : List ℕ) → IsHeld octets → IsHeld (cut octets)) → AreHeldIfThere found → AreHeldIfThere (option_map cut found)
mapped_held cut None each h = tt
mapped_held cut (Some octets) each h = each octets h

part_held_by : (found : Option (List ℕ)) (message : List ℕ) → ((piece : List ℕ) → found ≡ Some piece → IsPiece piece message) → IsHeld message → AreHeldIfThere found
part_held_by None message pieces held = tt
part_held_by (Some piece) message pieces held = piece_held piece message (pieces piece refl) held

fields_held : (names : List (List ℕ)) (others : Bool) (octets : List ℕ) → IsHeld octets → IsHeld (fields names others octets)
fields_held names others octets held = omega (arith, fields_within names others octets, held)

cut_held : (t : PartText) (octets : List ℕ) → IsHeld octets → IsHeld (cut_of t octets)
cut_held part_text.Body octets held = text_held octets held
cut_held part_text.Mime octets held = header_held octets held
cut_held part_text.Header octets held = header_held octets held
cut_held part_text.Text octets held = text_held octets held
cut_held (part_text.Fields names) octets held = fields_held names false octets held
cut_held (part_text.FieldsNot names) octets held = fields_held names true octets held

at_held : (t : PartText) (numbers message : List ℕ) → IsHeld message → AreHeldIfThere (octets_at t numbers message)
at_held part_text.Body numbers message held = part_held_by (part_at numbers message) message (parts_are_pieces numbers message) held
at_held part_text.Mime numbers message held = part_held_by (part_at numbers message) message (parts_are_pieces numbers message) held
at_held part_text.Header numbers message held = part_held_by (message_at numbers message) message (messages_are_pieces numbers message) held
at_held part_text.Text numbers message held = part_held_by (message_at numbers message) message (messages_are_pieces numbers message) held
at_held (part_text.Fields names) numbers message held = part_held_by (message_at numbers message) message (messages_are_pieces numbers message) held
at_held (part_text.FieldsNot names) numbers message held = part_held_by (message_at numbers message) message (messages_are_pieces numbers message) held

part_held : (t : PartText) (numbers message : List ℕ) → IsHeld message → AreHeldIfThere (part_octets t numbers message)
part_held t numbers message held = mapped_held (cut_of t) (octets_at t numbers message) (cut_held t) (at_held t numbers message held)

range_held : (range : Option Partial) (octets : List ℕ) → IsHeld octets → IsHeld (octets_within range octets)
range_held None octets held = held
range_held (Some range) octets held = omega (arith, length-take range.count (drop range.offset octets), length-drop range.offset octets, held)

found_settles : (range : Option Partial) (found : Option (List ℕ)) → AreHeldIfThere found → Settles (found_text range found)
found_settles range None h = settled (codes "NIL") refl
found_settles range (Some octets) h = literal_settles (octets_within range octets) (range_held range octets h)

each_number : (numbers : List ℕ) → AllSettle (map decimal numbers)
each_number [] = tt
each_number (n ∷ numbers) = (number_settles n, each_number numbers)

each_further : (words : List (List ℕ)) → AllSettle words → Settles (before_each 46 words)
each_further [] h = settled [] refl
each_further (word ∷ words) h = settles-append (settles-append (settled (46 ∷ []) refl) h.0) (each_further words h.1)

joined_settles : (words : List (List ℕ)) → AllSettle words → Settles (joined 46 words)
joined_settles [] h = settled [] refl
joined_settles (word ∷ words) h = settles-append h.0 (each_further words h.1)

text_settles : (t : PartText) → HasPlainNames t → Settles (text_name t)
text_settles part_text.Body h = settled _ refl
text_settles part_text.Mime h = settled _ refl
text_settles part_text.Header h = settled _ refl
text_settles part_text.Text h = settled _ refl
text_settles (part_text.Fields names) h = settles-append (settled (codes ".") refl) (named_section_settles (section.Fields names) h)
text_settles (part_text.FieldsNot names) h = settles-append (settled (codes ".") refl) (named_section_settles (section.FieldsNot names) h)

origin_settles : (range : Option Partial) → Settles (origin_text (origin_of range))
origin_settles None = settled [] refl
origin_settles (Some range) = settles-append (settles-append (settled (60 ∷ []) refl) (number_settles range.offset)) (settled (62 ∷ []) refl)

name_settles : (p : PartSection) → HasPlainNames p.text → Settles (part_name p)
name_settles p plain =
    settles-append
    (settles-append (settles-append (settles-append (settled (codes "BODY[") refl) (joined_settles (map decimal p.numbers) (each_number p.numbers))) (text_settles p.text plain)) (settled (codes "]") refl))
    (origin_settles p.partial)

section_settles : (p : PartSection) (message : List ℕ) → HasPlainNames p.text → IsHeld message → Settles (section_text p message)
section_settles p message plain held =
    settles-append (settles-append (name_settles p plain) (settled (codes " ") refl)) (found_settles p.partial (part_octets p.text p.numbers message) (part_held p.text p.numbers message held))

-- ---- a section

-- a section that can be printed
record IsFine (body : FetchedSection) : Type 0 where
  plain : AllByRecursion IsPlain (section_names body.section)
  held : IsHeld (concat body.octets)

label_settles : (l : Label) → Settles (label_name l)
label_settles label.Message = settled _ refl
label_settles label.Header = settled _ refl
label_settles label.Text = settled _ refl
label_settles label.Envelope = settled _ refl
label_settles label.Body = settled _ refl
label_settles label.Structure = settled _ refl
label_settles label.Full = settled _ refl

contents_settle : (l : Label) (octets : List ℕ) → IsHeld octets → Settles (labelled_contents l octets)
contents_settle label.Message octets held = literal_settles octets held
contents_settle label.Header octets held = literal_settles octets held
contents_settle label.Text octets held = literal_settles octets held
contents_settle label.Envelope octets held = envelope_settles (envelope_of octets)
contents_settle label.Body octets held = structure_settles false max_depth false octets
contents_settle label.Structure octets held = structure_settles true max_depth false octets
contents_settle label.Full octets held =
    settles-append (settles-append (envelope_settles (envelope_of octets)) (settled (codes " BODY ") refl)) (structure_settles false max_depth false octets)

labelled_settles : (l : Label) (body : FetchedSection) → IsFine body → Settles (labelled_text l body)
labelled_settles l body h = settles-append (settles-append (label_settles l) (settled (codes " ") refl)) (contents_settle l (concat body.octets) h.held)

asked_settles : (a : Asked) (body : FetchedSection) → IsPlainAsked a → IsFine body → Settles (asked_text a body)
asked_settles (asked.Labelled l) body plain h = labelled_settles l body h
asked_settles (asked.Unlabelled l) body plain h = body_settles body h.plain h.held
asked_settles (asked.Part p) body plain h = section_settles p (concat body.octets) plain h.held
asked_settles asked.Section body plain h = body_settles body h.plain h.held
asked_settles asked.Recent body plain h = body_settles body h.plain h.held
asked_settles asked.Value body plain h = body_settles body h.plain h.held

-- ---- sections

parted : {A : Type 0} (P : A → Type 0) (xs ys : List A) → AllByRecursion P (xs ++ ys) → AllByRecursion P xs × AllByRecursion P ys
parted P [] ys h = (tt, h)
parted P (x ∷ xs) ys h = let more = parted P xs ys h.1 in ((h.0, more.0), more.1)

all_fine : (bodies : List FetchedSection) → AllByRecursion IsPlain (flat_map (λ body. section_names body.section) bodies) → AllByRecursion IsHeld (map (λ body. concat body.octets) bodies) → AllByRecursion IsFine bodies
all_fine [] plain held = tt
all_fine (body ∷ bodies) plain held =
    let names = parted IsPlain (section_names body.section) (flat_map (λ b. section_names b.section) bodies) plain in
    (record { plain = names.0; held = held.0 }, all_fine bodies names.1 held.1)

abbrev IsFineOption : Option FetchedSection → Type 0
IsFineOption None = Unit {0}
IsFineOption (Some body) = IsFine body

found_by : (b : Bool) (body : FetchedSection) (found : Option FetchedSection) → IsFine body → IsFineOption found → IsFineOption (cond b (Some body) found)
found_by true body found h k = h
found_by false body found h k = k

found_fine : (test : FetchedSection → Bool) (bodies : List FetchedSection) → AllByRecursion IsFine bodies → IsFineOption (find test bodies)
found_fine test [] h = tt
found_fine test (body ∷ bodies) h = found_by (test body) body (find test bodies) h.0 (found_fine test bodies h.1)

other_by : (b : Bool) (rest bodies : List FetchedSection) → AllByRecursion IsFine rest → AllByRecursion IsFine bodies → AllByRecursion IsFine (cond b rest bodies)
other_by true rest bodies h k = h
other_by false rest bodies h k = k

other_fine : (bodies : List FetchedSection) → AllByRecursion IsFine bodies → AllByRecursion IsFine (from_other bodies)
other_fine [] h = tt
other_fine (body ∷ bodies) h = other_by (has_label body) (from_other bodies) (body ∷ bodies) (other_fine bodies h.1) h

first_fine : (bodies : List FetchedSection) → AllByRecursion IsFine bodies → IsFineOption (first_of bodies)
first_fine [] h = tt
first_fine (body ∷ bodies) h = h.0

dropped_fine : (bodies : List FetchedSection) → AllByRecursion IsFine bodies → AllByRecursion IsFine (drop 1 bodies)
dropped_fine [] h = tt
dropped_fine (body ∷ bodies) h = h.1

module _ (bodies : List FetchedSection) (fine : AllByRecursion IsFine bodies) where
  section_fine : (rest : List FetchedSection) (a : Asked) → AllByRecursion IsFine rest → IsFineOption (section_for bodies rest a)
  section_fine rest (asked.Labelled l) h = found_fine (stands_for l) bodies fine
  section_fine rest (asked.Unlabelled l) h = found_fine (stands_for l) bodies fine
  section_fine rest (asked.Part p) h = found_fine (stands_for label.Message) bodies fine
  section_fine rest asked.Section h = first_fine (from_other rest) (other_fine rest h)
  section_fine rest asked.Recent h = tt
  section_fine rest asked.Value h = tt

rest_fine : (rest : List FetchedSection) (a : Asked) → AllByRecursion IsFine rest → AllByRecursion IsFine (rest_after a rest)
rest_fine rest (asked.Labelled l) h = h
rest_fine rest (asked.Unlabelled l) h = h
rest_fine rest (asked.Part p) h = h
rest_fine rest asked.Section h = dropped_fine (from_other rest) (other_fine rest h)
rest_fine rest asked.Recent h = h
rest_fine rest asked.Value h = h

-- ---- words

words_by : (a : Asked) (found : Option FetchedSection) → IsPlainAsked a → IsFineOption found → AllSettle (given_by (asked_text a) found)
words_by a None plain h = tt
words_by a (Some body) plain h = (asked_settles a body plain h, tt)

words_fine : (bodies rest : List FetchedSection) (all : List Asked) → AllByRecursion IsPlainAsked all → AllByRecursion IsFine bodies → AllByRecursion IsFine rest → AllSettle (all_asked_words bodies rest all)
words_fine bodies rest [] plain fine h = tt
words_fine bodies rest (a ∷ more) plain fine h =
    all_settle-append (asked_words bodies rest a) (all_asked_words bodies (rest_after a rest) more) (words_by a (section_for bodies rest a) plain.0 (section_fine bodies fine rest a h))
    (words_fine bodies (rest_after a rest) more plain.1 fine (rest_fine rest a h))

pub fetch_settles : (all : List Asked) (number : ℕ) (items : FetchedItems) → AllByRecursion IsPlainAsked all → IsPrintable (response.Fetch number items) → Settles (fetch_text all number items)
fetch_settles all number items plain h =
    let parts = parted IsPlain (flags_keywords items.flags) (flat_map (λ body. section_names body.section) items.sections) h.plain in
    let fine = all_fine items.sections parts.1 h.held in
    settles-append
    (settles-append (settles-append (settled (codes "* ") refl) (number_settles number)) (settled (codes " FETCH ") refl))
    (words_settle (fetch_words all items) (all_settle-append (item_words items) (all_asked_words items.sections items.sections all) (items_settle items parts.0) (words_fine items.sections items.sections all plain fine fine)))
