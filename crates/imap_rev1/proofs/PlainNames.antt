-- The names of header fields for which a command asks are of one line.
use Rattle.std.proofs.Common.{◌≡◌, refl, ℕ, ◌-◌, zero, suc, Bool, true, false, cond, not, ◌&&◌, eqb, List, [], ◌∷◌, ◌++◌, length, take, drop, Option, Some, None}
use Rattle.std.specs.Prelude.{codes, option_map, ◌==◌}
use Rattle.std.specs.List.{AllByRecursion, ends_with, list_all, list_any, prefix_len}
use Rattle.std.specs.Char.{is_ascii_alphabetic}
use Rattle.std.specs.Option.{option_and_then}
use Rattle.imap_lex.specs.LineEnd.{line_length}
use Rattle.imap_lex.specs.declared.frame.Frame.{Frame}
use Rattle.imap_lex.specs.declared.frame.Frame.TheVariants.{Whole, Continue, Reject, Hangup}
use Rattle.imap_print.specs.Lines.{IsPlain}
use Rattle.imap_print.proofs.Plain.{plain_field_name}
use Rattle.imap_query.specs.declared.fetch.FetchItem.{FetchItem}
use Rattle.imap_query.specs.declared.fetch.FetchItem.TheVariants as item
use Rattle.imap_query.specs.declared.fetch.Partial.{Partial}
use Rattle.imap_query.specs.declared.fetch.Section.{Section}
use Rattle.imap_query.specs.declared.fetch.Section.TheVariants as section
use Rattle.imap_query.specs.Fetch.{fetch_items}
use Rattle.imap_query.specs.WrittenFetch as written_fetch
use Rattle.imap_query.proofs.Fetching.{fetch_items_lawful}
use Rattle.imap_query.proofs.WrittenFetch.{fetch_items_writes}
use Rattle.imap_syntax.specs.Written.{is_quotable}
use Rattle.imap_syntax.proofs.Writing.{both_true}
use Rattle.imap_rev1_frames.specs.declared.asked.Asked.{Asked}
use Rattle.imap_rev1_frames.specs.declared.asked.Asked.TheVariants as asked
use Rattle.imap_rev1_frames.specs.declared.asked.Label.{Label}
use Rattle.imap_rev1_frames.specs.declared.named.Named.{Named}
use Rattle.imap_rev1_frames.specs.declared.named.Named.TheVariants as named
use Rattle.imap_rev1_frames.specs.declared.part.PartText.{PartText}
use Rattle.imap_rev1_frames.specs.declared.part.PartText.TheVariants as part_text
use Rattle.imap_rev1_frames.specs.declared.scan.Scan.{Scan}
use Rattle.imap_rev1_frames.specs.Asked.{is_repeat, is_section, label_for, label_in, labelled_by, part_or_section, status_asked, unlabelled_by, with_asked, without_repeats}
use Rattle.imap_rev1_frames.specs.Named.{has_items, is_word}
use Rattle.imap_rev1_frames.specs.Part.{PartWords, after_bracket, are_numbers, end_in, fields_after, fields_by, fields_in, fields_named, fields_text, is_ended, is_number_octet, part_in, part_words, section_of, text_in, text_named, whole_fields, words_after, words_by, words_in, words_or, words_with}
use Rattle.imap_rev1_frames.specs.Rewritten.{are_plain, line_text, line_asked, after_line, section_length, asked_after, command_asked, each_once, asked_by}
use Rattle.imap_rev1_frames.specs.Scan.{asked_by_word, asked_from, by_held, count_held, is_item, option_list, word_asked, after_word, after_octet, start}

-- ---- what is plain

abbrev pub HasPlainNames : PartText → Type 0
HasPlainNames (part_text.Fields names) = AllByRecursion IsPlain names
HasPlainNames (part_text.FieldsNot names) = AllByRecursion IsPlain names
HasPlainNames _ = Unit {0}

abbrev pub IsPlainAsked : Asked → Type 0
IsPlainAsked (asked.Part p) = HasPlainNames p.text
IsPlainAsked _ = Unit {0}

abbrev ArePlainWords : Option PartWords → Type 0
ArePlainWords (Some w) = HasPlainNames w.text
ArePlainWords None = Unit {0}

abbrev IsPlainText : Option PartText → Type 0
IsPlainText (Some t) = HasPlainNames t
IsPlainText None = Unit {0}

-- ---- names that were read

plain_names : (names : List (List ℕ)) → list_all is_quotable names ≡ true → AllByRecursion IsPlain names
plain_names [] h = tt
plain_names (name ∷ names) h =
    let parts = both_true (is_quotable name) (list_all is_quotable names) h in
    (plain_field_name name parts.0, plain_names names parts.1)

listed_plain : (names : List (List ℕ)) → (not (length names == 0) && list_all is_quotable names) ≡ true → AllByRecursion IsPlain names
listed_plain names h = plain_names names (both_true (not (length names == 0)) (list_all is_quotable names) h).1

whole_by : (b : Bool) (words : PartWords) → HasPlainNames words.text → ArePlainWords (cond b (Some words) None)
whole_by true words h = h
whole_by false words h = tt

section_plain : (numbers : List ℕ) (s : Section) (partial : Option Partial) (left : ℕ) → written_fetch.section_fits s ≡ true
    → ArePlainWords (whole_fields numbers (option_map (λ text. record { text = text; partial = partial; left = left }) (fields_text s)))
section_plain numbers section.Whole partial left h = tt
section_plain numbers section.Header partial left h = tt
section_plain numbers section.Text partial left h = tt
section_plain numbers (section.Fields names) partial left h =
    whole_by (left == 0) (record { numbers = numbers; text = part_text.Fields names; partial = partial }) (listed_plain names h)
section_plain numbers (section.FieldsNot names) partial left h =
    whole_by (left == 0) (record { numbers = numbers; text = part_text.FieldsNot names; partial = partial }) (listed_plain names h)

named_plain : (numbers : List ℕ) (items : List FetchItem) (left : ℕ) → written_fetch.fetch_items.fits items ≡ true → ArePlainWords (whole_fields numbers (fields_named items left))
named_plain numbers [] left h = tt
named_plain numbers (item.Section body ∷ []) left h =
    let one = both_true (written_fetch.item_fits (item.Section body)) true h in
    let parts = both_true (written_fetch.section_fits body.section) (written_fetch.partial_fits body.partial) one.0 in
    section_plain numbers body.section body.partial left parts.0
named_plain numbers (item.Section body ∷ i ∷ items) left h = tt
named_plain numbers (item.Uid ∷ items) left h = tt
named_plain numbers (item.Flags ∷ items) left h = tt
named_plain numbers (item.InternalDate ∷ items) left h = tt
named_plain numbers (item.Rfc822Size ∷ items) left h = tt
named_plain numbers (item.ModSeq ∷ items) left h = tt
named_plain numbers (item.Unserved ∷ items) left h = tt

read_plain : (numbers input : List ℕ) (found : Option (List FetchItem × List ℕ)) → fetch_items.read input ≡ found → ArePlainWords (whole_fields numbers (fields_by found))
read_plain numbers input None e = tt
read_plain numbers input (Some found) e =
    let sound = fetch_items_lawful.sound input found.0 found.1 e in
    named_plain numbers found.0 (length found.1) (fetch_items_writes.fits found.0 sound.0 sound.1)

after_by : (b : Bool) (numbers : List ℕ) (found : Option (List FetchItem × List ℕ)) → ArePlainWords (whole_fields numbers (fields_by found)) → ArePlainWords (whole_fields numbers (cond b (fields_by found) None))
after_by true numbers found h = h
after_by false numbers found h = tt

after_plain : (numbers rest : List ℕ) → ArePlainWords (whole_fields numbers (fields_after numbers rest))
after_plain numbers rest =
    after_by (ends_with eqb numbers (codes ".") && are_numbers None numbers) numbers (fetch_items.read (codes "BODY[" ++ rest)) (read_plain numbers (codes "BODY[" ++ rest) (fetch_items.read (codes "BODY[" ++ rest)) refl)

-- ---- words

-- a word without a list
named_by : (mime header text : Bool) → IsPlainText (cond mime (Some part_text.Mime) (cond header (Some part_text.Header) (cond text (Some part_text.Text) None)))
named_by true header text = tt
named_by false true text = tt
named_by false false true = tt
named_by false false false = tt

text_by : (dotted none : Bool) (found : Option PartText) → IsPlainText found → IsPlainText (cond dotted found (cond none (Some part_text.Body) None))
text_by true none found h = h
text_by false true found h = tt
text_by false false found h = tt

words_by_plain : (numbers : List ℕ) (text : Option PartText) (end : Option (Option Partial)) → IsPlainText text → ArePlainWords (words_by numbers text end)
words_by_plain numbers (Some t) (Some end) h = h
words_by_plain numbers (Some t) None h = tt
words_by_plain numbers None end h = tt

words_after_plain : (numbers rest : List ℕ) → ArePlainWords (words_after numbers rest)
words_after_plain numbers rest =
    let dotted = ends_with eqb numbers (codes ".") in
    let word = take (prefix_len is_ascii_alphabetic rest) rest in
    words_by_plain numbers (text_in dotted word) (end_in (drop (prefix_len is_ascii_alphabetic rest) rest))
    (text_by dotted (length word == 0) (text_named word) (named_by (is_word (codes "MIME") word) (is_word (codes "HEADER") word) (is_word (codes "TEXT") word)))

same_by : (b : Bool) (found : Option PartWords) → ArePlainWords found → ArePlainWords (cond b found None)
same_by true found h = h
same_by false found h = tt

either_plain : (one other : Option PartWords) → ArePlainWords one → ArePlainWords other → ArePlainWords (words_or one other)
either_plain (Some w) other h k = h
either_plain None other h k = k

words_plain : (octets : List ℕ) → ArePlainWords (words_in octets)
words_plain octets =
    let numbers = take (prefix_len is_number_octet octets) octets in
    let rest = drop (prefix_len is_number_octet octets) octets in
    either_plain (words_with numbers rest) (whole_fields numbers (fields_in octets))
    (same_by (not (length numbers == 0) && are_numbers None numbers) (words_after numbers rest) (words_after_plain numbers rest))
    (after_plain numbers rest)

bracket_plain : (found : Option (List ℕ)) → ArePlainWords (option_and_then words_in found)
bracket_plain (Some octets) = words_plain octets
bracket_plain None = tt

part_plain : (word : List ℕ) → ArePlainWords (part_words word)
part_plain word = same_by (is_ended word) (option_and_then words_in (after_bracket word)) (bracket_plain (after_bracket word))

-- ---- what a word asks for

abbrev AreAllPlain : List Asked → Type 0
AreAllPlain all = AllByRecursion IsPlainAsked all

part_or_plain : (found : Option PartWords) → ArePlainWords found → IsPlainAsked (part_or_section (option_map section_of found))
part_or_plain (Some w) h = h
part_or_plain None h = tt

other_plain : (b : Bool) (a : Asked) → IsPlainAsked a → AreAllPlain (option_list (cond b (Some a) None))
other_plain true a h = (h, tt)
other_plain false a h = tt

unlabelled_plain : (o : Option Label) (word : List ℕ) → AreAllPlain (option_list (unlabelled_by o word))
unlabelled_plain (Some l) word = (tt, tt)
unlabelled_plain None word = other_plain (is_section word) (part_or_section (part_in word)) (part_or_plain (part_words word) (part_plain word))

labelled_plain : (o : Option Label) (word : List ℕ) → AreAllPlain (option_list (labelled_by o word))
labelled_plain (Some l) word = (tt, tt)
labelled_plain None word = unlabelled_plain (label_for word) word

status_by : (b : Bool) → IsPlainAsked (cond b asked.Recent asked.Value)
status_by true = tt
status_by false = tt

status_plain : (word : List ℕ) → AreAllPlain (option_list (Some (status_asked word)))
status_plain word = (status_by (is_word (codes "RECENT") word), tt)

by_word_plain : (command : Named) (word : List ℕ) → AreAllPlain (option_list (asked_by_word command word))
by_word_plain named.Fetch word = labelled_plain (label_in word) word
by_word_plain named.Check word = status_plain word
by_word_plain named.Lsub word = status_plain word
by_word_plain named.Search word = status_plain word
by_word_plain named.Status word = status_plain word
by_word_plain named.List word = status_plain word
by_word_plain named.Select word = status_plain word
by_word_plain named.Other word = status_plain word

if_item_plain : (b : Bool) (a : Option Asked) → AreAllPlain (option_list a) → AreAllPlain (option_list (cond b a None))
if_item_plain true a h = h
if_item_plain false a h = tt

word_plain : (scan : Scan) (word : List ℕ) → AreAllPlain (option_list (word_asked scan word))
word_plain scan word = if_item_plain (not (length word == 0) && is_item scan) (asked_by_word scan.named word) (by_word_plain scan.named word)

-- ---- what a command asks for

both_plain : (xs ys : List Asked) → AreAllPlain xs → AreAllPlain ys → AreAllPlain (xs ++ ys)
both_plain [] ys h k = k
both_plain (x ∷ xs) ys h k = (h.0, both_plain xs ys h.1 k)

from_plain : (held : ℕ) (scan : Scan) (word octets : List ℕ) → AreAllPlain (asked_from held scan word octets)
from_plain held scan word [] = word_plain scan word
from_plain held scan word (octet ∷ octets) = by (count_held held scan word octet (octet ∷ octets)) (λ n. from_plain n scan (word ++ octet ∷ []) octets) (from_plain 0 (after_octet (after_word scan word) octet) [] octets)
  where
    by : (count : ℕ) → ((n : ℕ) → AreAllPlain (asked_from n scan (word ++ octet ∷ []) octets)) → AreAllPlain (asked_from 0 (after_octet (after_word scan word) octet) [] octets)
        → AreAllPlain (by_held count (λ n. asked_from n scan (word ++ octet ∷ []) octets) (option_list (word_asked scan word) ++ asked_from 0 (after_octet (after_word scan word) octet) [] octets))
    by (suc n) h k = h n
    by zero h k = both_plain (option_list (word_asked scan word)) (asked_from 0 (after_octet (after_word scan word) octet) [] octets) (word_plain scan word) k

line_by : (b : Bool) (all : List Asked) → AreAllPlain all → AreAllPlain (cond b all [])
line_by true all h = h
line_by false all h = tt

line_plain : (scan : Scan) (line : List ℕ) → AreAllPlain (line_asked scan line)
line_plain scan line = line_by (are_plain (line_text line)) (asked_from 0 scan [] (line_text line)) (from_plain 0 scan [] (line_text line))

abbrev next_by : Scan → ℕ → List ℕ → Option ℕ → List Asked
next_by scan octet octets found =
    elim found as (λ _. List Asked) [
      | None ↦ []
      | Some len ↦ line_asked scan (take len (octet ∷ octets)) ++ asked_after (section_length len (octet ∷ octets) - 1) (after_line scan (take len (octet ∷ octets))) octets
    ]

lines_plain : (passed : ℕ) (scan : Scan) (octets : List ℕ) → AreAllPlain (asked_after passed scan octets)
lines_plain passed scan [] = tt
lines_plain (suc n) scan (octet ∷ octets) = lines_plain n scan octets
lines_plain zero scan (octet ∷ octets) = by (line_length (octet ∷ octets)) (λ n next. lines_plain n next octets)
  where
    by : (found : Option ℕ) → ((n : ℕ) (next : Scan) → AreAllPlain (asked_after n next octets)) → AreAllPlain (next_by scan octet octets found)
    by None more = tt
    by (Some len) more =
        both_plain (line_asked scan (take len (octet ∷ octets))) (asked_after (section_length len (octet ∷ octets) - 1) (after_line scan (take len (octet ∷ octets))) octets)
        (line_plain scan (take len (octet ∷ octets))) (more (section_length len (octet ∷ octets) - 1) (after_line scan (take len (octet ∷ octets))))

kept_by : (b : Bool) (kept : List Asked) (a : Asked) → AreAllPlain kept → IsPlainAsked a → AreAllPlain (cond b kept (kept ++ a ∷ []))
kept_by true kept a h k = h
kept_by false kept a h k = both_plain kept (a ∷ []) h (k, tt)

repeats_plain : (kept all : List Asked) → AreAllPlain kept → AreAllPlain all → AreAllPlain (without_repeats kept all)
repeats_plain kept [] h k = h
repeats_plain kept (a ∷ all) h k = repeats_plain (with_asked kept a) all (kept_by (list_any (is_repeat a) kept) kept a h k.0) k.1

once_plain : (command : Named) (all : List Asked) → AreAllPlain all → AreAllPlain (each_once command all)
once_plain named.Fetch all h = repeats_plain [] all tt h
once_plain named.Check all h = h
once_plain named.Lsub all h = h
once_plain named.Search all h = h
once_plain named.Status all h = h
once_plain named.List all h = h
once_plain named.Select all h = h
once_plain named.Other all h = h

command_plain : (command : Named) (octets : List ℕ) → AreAllPlain (command_asked command octets)
command_plain command octets =
    line_by (has_items command) (each_once command (asked_after 0 (start command) octets)) (once_plain command (asked_after 0 (start command) octets) (lines_plain 0 (start command) octets))

pub all_plain : (command : Named) (by : Option Frame) → AllByRecursion IsPlainAsked (asked_by command by)
all_plain command (Some (Whole octets)) = command_plain command octets
all_plain command (Some Continue) = tt
all_plain command (Some (Reject tag)) = tt
all_plain command (Some Hangup) = tt
all_plain command None = tt
