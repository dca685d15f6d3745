-- What FETCH asks for is written as it is spelt.
use Rattle.std.proofs.Common.{◌≡◌, ℕ, Bool, true, false, cond, ◌&&◌, List, [], ◌∷◌, ◌++◌, codes, Option, Some, None, refl, sym, arith, inl, inr}
use Rattle.std.specs.Fmt.{decimal as decimal_text}
use Rattle.std.specs.Char.{is_ascii_digit}
use Rattle.std.proofs.lemmas.List.{append-nil}
use Rattle.imap_query.specs.declared.fetch.Partial.{Partial}
use Rattle.imap_query.specs.declared.fetch.Section.{Section}
use Rattle.imap_query.specs.declared.fetch.Section.TheVariants as section
use Rattle.imap_query.specs.declared.fetch.FetchItem.{FetchItem}
use Rattle.imap_query.specs.declared.fetch.FetchItem.TheVariants as item
use Rattle.imap_query.specs.declared.fetch_word.FetchWord.{FetchWord}
use Rattle.imap_query.specs.declared.fetch_word.FetchWord.TheVariants as word
use Rattle.imap_query.specs.declared.fetch_word.SectionWord.{SectionWord}
use Rattle.imap_query.specs.declared.fetch_word.SectionWord.TheVariants as part
use Rattle.imap_query.specs.declared.fetch_word.ModifierWord.TheVariants as given
use Rattle.imap_query.specs.declared.fetch_word.Modifier.{Modifier}
use Rattle.imap_query.specs.declared.fetch_word.Modifier.TheVariants.{ChangedSince, Vanished}
use Rattle.imap_query.specs.declared.fetch_word.Modifiers.{Modifiers}
use Rattle.imap_syntax.specs.Rule as rule
use Rattle.imap_syntax.specs.Rule.{give, ◌>>=◌}
use Rattle.imap_syntax.specs.First.{begins}
use Rattle.imap_syntax.specs.Lexical as lexical
use Rattle.imap_query.specs.Sections as sections
use Rattle.imap_syntax.specs.FieldNames.{field_name, written_name}
use Rattle.imap_query.specs.Fetch as fetch
use Rattle.imap_syntax.specs.Writing.{separated, listed}
use Rattle.imap_syntax.specs.Written.{is_quotable, astring, mod_sequence, number64}
use Rattle.imap_query.specs.WrittenFetch.{section_fits, section_text, partial_fits, partial_text, body_text, item_fits, item_text, single_text, is_flags, is_internal_date, is_size, is_fast, fetch_item, fetch_items, changed_fits, modifiers_text}
use Rattle.imap_syntax.proofs.Writing.{Writes, both_true, both, separated_writes, listed_writes}
use Rattle.imap_syntax.proofs.Written.{astring_writes, nz_number_writes, mod_sequence_writes, number64_writes}

-- ---- sections

quotable_fits : (name : List ℕ) → is_quotable name ≡ true → astring.fits name ≡ true
quotable_fits name h = rw h refl

name_made : (name : List ℕ) → written_name.fits name ≡ true → field_name.spells name (written_name.text name)
name_made name h =
    (name, astring.text name, [], astring_writes.made name (quotable_fits name h), (h, refl, refl), sym (append-nil (astring.text name)))

pub field_name_writes : Writes field_name written_name
field_name_writes = record {
  made = name_made;
  fits = λ name text h. rw (h.4.1) (h.4.0);
}

names_writes : Writes (rule.listed field_name) (listed written_name)
names_writes = listed_writes field_name written_name field_name_writes

-- the names behind their word
names_made : (f : List (List ℕ) → Section) (names : List (List ℕ)) → (listed written_name).fits names ≡ true
    → (lexical.space >>= λ u. rule.listed field_name >>= λ n. give (f n)).spells (f names) (32 ∷ (listed written_name).text names)
names_made f names h =
    let text = (listed written_name).text names in
    (tt, 32 ∷ [], text, refl, (names, text, [], names_writes.made names h, (refl, refl), sym (append-nil text)), refl)

section_made : (s : Section) → section_fits s ≡ true → (s ≡ section.Whole → ⊥) → sections.section_message.spells s (section_text s)
section_made section.Whole h some = absurd (some refl)
section_made section.Header h some = (part.Header, codes "HEADER", [], refl, (refl, refl), refl)
section_made section.Text h some = (part.Text, codes "TEXT", [], refl, (refl, refl), refl)
section_made (section.Fields names) h some = (part.Fields, codes "HEADER.FIELDS", 32 ∷ (listed written_name).text names, refl, names_made section.Fields names h, refl)
section_made (section.FieldsNot names) h some = (part.FieldsNot, codes "HEADER.FIELDS.NOT", 32 ∷ (listed written_name).text names, refl, names_made section.FieldsNot names h, refl)

section_word_fits : (w : SectionWord) (s : Section) (text : List ℕ) → (sections.section_text w).spells s text → section_fits s ≡ true
section_word_fits part.Header s text h = rw (h.0) refl
section_word_fits part.Fields s text h = rw (h.4.4.0) (names_writes.fits h.4.0 h.4.1 h.4.3)
section_word_fits part.FieldsNot s text h = rw (h.4.4.0) (names_writes.fits h.4.0 h.4.1 h.4.3)
section_word_fits part.Text s text h = rw (h.0) refl
section_word_fits part.Mime s text h = absurd h

-- ---- parts of the octets

partial_made : (p : Option Partial) → partial_fits p ≡ true → sections.partial.spells p (partial_text p)
partial_made None h = (false, [], [], refl, (refl, refl), refl)
partial_made (Some p) h =
    let q = both_true (number64.fits p.offset) (mod_sequence.fits p.count) h in
    let offset = decimal_text p.offset in
    let count = decimal_text p.count in (
      true,
      60 ∷ [],
      offset ++ (46 ∷ (count ++ 62 ∷ [])),
      refl,
      (
        p.offset,
        offset,
        46 ∷ (count ++ 62 ∷ []),
        number64_writes.made p.offset q.0,
        (
          tt,
          46 ∷ [],
          count ++ 62 ∷ [],
          refl,
          (p.count, count, 62 ∷ [], (nz_number_writes 9223372036854775807 (omega arith)).made p.count q.1, (tt, 62 ∷ [], [], refl, (refl, refl), refl), refl),
          refl,
        ),
        refl,
      ),
      refl,
    )

partial_behind_fits : (angle : Bool) (p : Option Partial) (text : List ℕ) → (sections.partial_behind angle).spells p text → partial_fits p ≡ true
partial_behind_fits false p text h = rw (h.0) refl
partial_behind_fits true p text h =
    let count = h.4.4 in
    rw (count.4.4.0) (both _ _ (number64_writes.fits h.0 h.1 h.3) ((nz_number_writes 9223372036854775807 (omega arith)).fits count.0 count.1 count.3))

partial_fits_all : (p : Option Partial) (text : List ℕ) → sections.partial.spells p text → partial_fits p ≡ true
partial_fits_all p text h = partial_behind_fits h.0 p h.2 h.4

-- ---- items

end_made : (peek : Bool) (s : Section) (p : Option Partial) → partial_fits p ≡ true → (sections.section_end peek s).spells (item.Section (record { peek = peek; section = s; partial = p })) (partial_text p)
end_made peek s p h = (p, partial_text p, [], partial_made p h, (refl, refl), sym (append-nil (partial_text p)))

message_made : (peek : Bool) (s : Section) (p : Option Partial) → section_fits s ≡ true → partial_fits p ≡ true → (s ≡ section.Whole → ⊥) → begins is_ascii_digit (section_text s ++ 93 ∷ partial_text p) ≡ false
    → (sections.body_section peek).spells (item.Section (record { peek = peek; section = s; partial = p })) (section_text s ++ 93 ∷ partial_text p)
message_made peek s p h k some plain =
    let text = section_text s ++ 93 ∷ partial_text p in
    (false, [], text, refl, inr (plain, (s, section_text s, 93 ∷ partial_text p, section_made s h some, (tt, 93 ∷ [], partial_text p, refl, end_made peek s p k, refl), refl)), refl)

body_made : (peek : Bool) (s : Section) (p : Option Partial) → section_fits s ≡ true → partial_fits p ≡ true
    → (sections.body_section peek).spells (item.Section (record { peek = peek; section = s; partial = p })) (section_text s ++ 93 ∷ partial_text p)
body_made peek section.Whole p h k = (true, 93 ∷ [], partial_text p, refl, end_made peek section.Whole p k, refl)
body_made peek section.Header p h k = message_made peek section.Header p h k (λ e. absurd cc) refl
body_made peek section.Text p h k = message_made peek section.Text p h k (λ e. absurd cc) refl
body_made peek (section.Fields names) p h k = message_made peek (section.Fields names) p h k (λ e. absurd cc) refl
body_made peek (section.FieldsNot names) p h k = message_made peek (section.FieldsNot names) p h k (λ e. absurd cc) refl

section_item_made : (peek : Bool) (s : Section) (p : Option Partial) → section_fits s ≡ true → partial_fits p ≡ true
    → fetch.fetch_item.spells (item.Section (record { peek = peek; section = s; partial = p })) (body_text (record { peek = peek; section = s; partial = p }))
section_item_made true s p h k =
    let text = section_text s ++ 93 ∷ partial_text p in
    (word.BodyPeek, codes "BODY.PEEK", 91 ∷ text, refl, (tt, 91 ∷ [], text, refl, body_made true s p h k, refl), refl)
section_item_made false s p h k =
    let text = section_text s ++ 93 ∷ partial_text p in
    (word.Body, codes "BODY", 91 ∷ text, refl, (true, 91 ∷ [], text, refl, body_made false s p h k, refl), refl)

item_made : (i : FetchItem) → item_fits i ≡ true → fetch.fetch_item.spells i (item_text i)
item_made item.Uid h = (word.Uid, codes "UID", [], refl, (refl, refl), refl)
item_made item.Flags h = (word.Flags, codes "FLAGS", [], refl, (refl, refl), refl)
item_made item.InternalDate h = (word.InternalDate, codes "INTERNALDATE", [], refl, (refl, refl), refl)
item_made item.Rfc822Size h = (word.Rfc822Size, codes "RFC822.SIZE", [], refl, (refl, refl), refl)
item_made item.ModSeq h = (word.ModSeq, codes "MODSEQ", [], refl, (refl, refl), refl)
item_made (item.Section body) h = let q = both_true (section_fits body.section) (partial_fits body.partial) h in section_item_made body.peek body.section body.partial q.0 q.1
item_made item.Unserved h = (word.Body, codes "BODY", [], refl, (false, [], [], refl, (refl, refl), refl), refl)

end_fits : (peek : Bool) (s : Section) (i : FetchItem) (text : List ℕ) → section_fits s ≡ true → (sections.section_end peek s).spells i text → item_fits i ≡ true
end_fits peek s i text k h = rw (h.4.0) (both _ _ k (partial_fits_all h.0 h.1 h.3))

section_behind_fits : (peek empty : Bool) (i : FetchItem) (text : List ℕ) → (sections.body_section_behind peek empty).spells i text → item_fits i ≡ true
section_behind_fits peek true i text h = end_fits peek section.Whole i text refl h
section_behind_fits peek false i text (inl h) = let inner = h.1 in rw (inner.4.4.4.0) refl
section_behind_fits peek false i text (inr h) =
    let inner = h.1 in
    end_fits peek inner.0 i inner.4.2 (section_word_fits inner.3.0 inner.0 inner.3.2 inner.3.4) inner.4.4

body_section_fits : (peek : Bool) (i : FetchItem) (text : List ℕ) → (sections.body_section peek).spells i text → item_fits i ≡ true
body_section_fits peek i text h = section_behind_fits peek h.0 i h.2 h.4

bracket_fits : (bracket : Bool) (i : FetchItem) (text : List ℕ) → (fetch.body_behind bracket).spells i text → item_fits i ≡ true
bracket_fits false i text h = rw (h.0) refl
bracket_fits true i text h = body_section_fits false i text h

item_behind_fits : (w : FetchWord) (i : FetchItem) (text : List ℕ) → (fetch.item_behind w).spells i text → item_fits i ≡ true
item_behind_fits word.All i text h = absurd h
item_behind_fits word.Binary i text h = rw (h.4.4.0) refl
item_behind_fits word.BinaryPeek i text h = rw (h.4.4.0) refl
item_behind_fits word.BinarySize i text h = rw (h.4.0) refl
item_behind_fits word.Body i text h = bracket_fits h.0 i h.2 h.4
item_behind_fits word.BodyPeek i text h = body_section_fits true i h.2 h.4
item_behind_fits word.BodyStructure i text h = rw (h.0) refl
item_behind_fits word.Envelope i text h = rw (h.0) refl
item_behind_fits word.Fast i text h = absurd h
item_behind_fits word.Flags i text h = rw (h.0) refl
item_behind_fits word.Full i text h = absurd h
item_behind_fits word.InternalDate i text h = rw (h.0) refl
item_behind_fits word.ModSeq i text h = rw (h.0) refl
item_behind_fits word.Rfc822Size i text h = rw (h.0) refl
item_behind_fits word.Uid i text h = rw (h.0) refl

pub fetch_item_writes : Writes fetch.fetch_item fetch_item
fetch_item_writes = record { made = item_made; fits = λ i text h. item_behind_fits h.0 i h.2 h.4 }

items_separated : Writes (rule.separated 32 fetch.fetch_item) (separated 32 fetch_item)
items_separated = separated_writes 32 fetch.fetch_item fetch_item fetch_item_writes

-- in parentheses
listed_made : (items : List FetchItem) → fetch_items.fits items ≡ true → fetch.fetch_items.spells items ((listed fetch_item).text items)
listed_made items h =
    let text = (separated 32 fetch_item).text items in
    let close : (rule.octet 41 >>= λ u. give items).spells items (41 ∷ []) = (tt, 41 ∷ [], [], refl, (refl, refl), refl) in
    (true, 40 ∷ [], text ++ 41 ∷ [], refl, (items, text, 41 ∷ [], items_separated.made items h, close, refl), refl)

-- one item, by its word
single_item : (i : FetchItem) (w : FetchWord) (text back : List ℕ) → fetch.is_fast w ≡ false → fetch.is_unserved w ≡ false → fetch.fetch_word.spells w text → (fetch.item_behind w).spells i back → fetch.fetch_items.spells (i ∷ []) (text ++ back)
single_item i w text back f u h k =
    let one : (fetch.single w).spells (i ∷ []) back = rw (f, u) (i, back, [], k, (refl, refl), sym (append-nil back)) in
    (false, [], text ++ back, refl, (w, text, back, h, one, refl), refl)

single_made : (i : FetchItem) → item_fits i ≡ true → fetch.fetch_items.spells (i ∷ []) (single_text i)
single_made item.Uid h = single_item item.Uid word.Uid (codes "UID") [] refl refl refl (refl, refl)
single_made item.Flags h = single_item item.Flags word.Flags (codes "FLAGS") [] refl refl refl (refl, refl)
single_made item.InternalDate h = single_item item.InternalDate word.InternalDate (codes "INTERNALDATE") [] refl refl refl (refl, refl)
single_made item.Rfc822Size h = single_item item.Rfc822Size word.Rfc822Size (codes "RFC822.SIZE") [] refl refl refl (refl, refl)
single_made item.ModSeq h = single_item item.ModSeq word.ModSeq (codes "MODSEQ") [] refl refl refl (refl, refl)
single_made (item.Section body) h = section_made body.peek body.section body.partial (both_true (section_fits body.section) (partial_fits body.partial) h)
  where
    section_made : (peek : Bool) (s : Section) (p : Option Partial) → (section_fits s ≡ true) × (partial_fits p ≡ true) → fetch.fetch_items.spells (item.Section (record { peek = peek; section = s; partial = p }) ∷ []) (body_text (record { peek = peek; section = s; partial = p }))
    section_made true s p q =
        let text = section_text s ++ 93 ∷ partial_text p in
        single_item (item.Section (record { peek = true; section = s; partial = p })) word.BodyPeek (codes "BODY.PEEK") (91 ∷ text) refl refl refl (tt, 91 ∷ [], text, refl, body_made true s p q.0 q.1, refl)
    section_made false s p q =
        let text = section_text s ++ 93 ∷ partial_text p in
        single_item (item.Section (record { peek = false; section = s; partial = p })) word.Body (codes "BODY") (91 ∷ text) refl refl refl (true, 91 ∷ [], text, refl, body_made false s p q.0 q.1, refl)
single_made item.Unserved h = (false, [], codes "ALL", refl, (word.All, codes "ALL", [], refl, (refl, refl), refl), refl)

flags_only : (i : FetchItem) → is_flags i ≡ true → i ≡ item.Flags
flags_only item.Flags h = refl
flags_only _ h = absurd cc

date_only : (i : FetchItem) → is_internal_date i ≡ true → i ≡ item.InternalDate
date_only item.InternalDate h = refl
date_only _ h = absurd cc

size_only : (i : FetchItem) → is_size i ≡ true → i ≡ item.Rfc822Size
size_only item.Rfc822Size h = refl
size_only _ h = absurd cc

fast_only : (items : List FetchItem) → is_fast items ≡ true → items ≡ fetch.fast_items
fast_only [] h = absurd cc
fast_only (i ∷ []) h = absurd cc
fast_only (i ∷ j ∷ []) h = absurd cc
fast_only (i ∷ j ∷ k ∷ []) h =
    let q = both_true (is_flags i && is_internal_date j) (is_size k) h in
    let r = both_true (is_flags i) (is_internal_date j) q.0 in
    rw (flags_only i r.0, date_only j r.1, size_only k q.1) refl
fast_only (i ∷ j ∷ k ∷ l ∷ items) h = absurd cc

several_made : (items : List FetchItem) → fetch_items.fits items ≡ true → (fast : Bool) → is_fast items ≡ fast → fetch.fetch_items.spells items (cond fast (codes "FAST") ((listed fetch_item).text items))
several_made items h true e = (false, [], codes "FAST", refl, (word.Fast, codes "FAST", [], refl, (fast_only items e, refl), refl), refl)
several_made items h false e = listed_made items h

items_made : (items : List FetchItem) → fetch_items.fits items ≡ true → fetch.fetch_items.spells items (fetch_items.text items)
items_made [] h = absurd cc
items_made (i ∷ []) h = single_made i (both_true (item_fits i) true h).0
items_made (i ∷ j ∷ items) h = several_made (i ∷ j ∷ items) h (is_fast (i ∷ j ∷ items)) refl

one_fits : (w : FetchWord) (items : List FetchItem) (text : List ℕ) → (fetch.one_item w).spells items text → fetch_items.fits items ≡ true
one_fits w items text h = rw (h.4.0) (rw (item_behind_fits w h.0 h.1 h.3) refl)

single_fits : (fast unserved : Bool) (w : FetchWord) (items : List FetchItem) (text : List ℕ)
    → (cond fast (give fetch.fast_items) (cond unserved (give (item.Unserved ∷ [])) (fetch.one_item w))).spells items text → fetch_items.fits items ≡ true
single_fits true unserved w items text h = rw (h.0) refl
single_fits false true w items text h = rw (h.0) refl
single_fits false false w items text h = one_fits w items text h

items_behind_fits : (parenthesis : Bool) (items : List FetchItem) (text : List ℕ) → (fetch.items_behind parenthesis).spells items text → fetch_items.fits items ≡ true
items_behind_fits true items text h = rw (h.4.4.0) (items_separated.fits h.0 h.1 h.3)
items_behind_fits false items text h = single_fits (fetch.is_fast h.0) (fetch.is_unserved h.0) h.0 items h.2 h.4

pub fetch_items_writes : Writes fetch.fetch_items fetch_items
fetch_items_writes = record { made = items_made; fits = λ items text h. items_behind_fits h.0 items h.2 h.4 }

-- ---- modifiers

vanished_made : fetch.modifier.spells Vanished (codes "VANISHED")
vanished_made = (given.Vanished, codes "VANISHED", [], refl, (refl, refl), refl)

changed_made : (since : ℕ) → mod_sequence.fits since ≡ true → fetch.modifier.spells (ChangedSince since) (codes "CHANGEDSINCE " ++ decimal_text since)
changed_made since h =
    let digits = decimal_text since in
    (given.ChangedSince, codes "CHANGEDSINCE", 32 ∷ digits, refl, (tt, 32 ∷ [], digits, refl, (since, digits, [], mod_sequence_writes.made since h, (refl, refl), sym (append-nil digits)), refl), refl)

alone_made : (m : Modifier) → (fetch.another_modifier m).spells (fetch.one_modifier m) []
alone_made m = (false, [], [], refl, (refl, refl), refl)

with_vanished : (since : ℕ) → (fetch.another_modifier (ChangedSince since)).spells (record { changed_since = Some since; vanished = true }) (codes " VANISHED")
with_vanished since = (true, 32 ∷ [], codes "VANISHED", refl, (Vanished, codes "VANISHED", [], vanished_made, (refl, refl), refl), refl)

-- in parentheses, behind a space
given_made : (first : Modifier) (all : Modifiers) (text more : List ℕ) → fetch.modifier.spells first text → (fetch.another_modifier first).spells all more → fetch.modifiers.spells all (32 ∷ 40 ∷ (text ++ (more ++ 41 ∷ [])))
given_made first all text more h k =
    let close : (rule.octet 41 >>= λ u. give all).spells all (41 ∷ []) = (tt, 41 ∷ [], [], refl, (refl, refl), refl) in
    (true, 32 ∷ [], 40 ∷ (text ++ (more ++ 41 ∷ [])), refl, (tt, 40 ∷ [], text ++ (more ++ 41 ∷ []), refl, (first, text, more ++ 41 ∷ [], h, (all, more, 41 ∷ [], k, close, refl), refl), refl), refl)

pub modifiers_made : (since : Option ℕ) (vanished : Bool) → changed_fits since ≡ true → fetch.modifiers.spells (record { changed_since = since; vanished = vanished }) (modifiers_text since vanished)
modifiers_made None false h = (false, [], [], refl, (refl, refl), refl)
modifiers_made None true h = given_made Vanished _ (codes "VANISHED") [] vanished_made (alone_made Vanished)
modifiers_made (Some n) false h = given_made (ChangedSince n) _ (codes "CHANGEDSINCE " ++ decimal_text n) [] (changed_made n h) (alone_made (ChangedSince n))
modifiers_made (Some n) true h = given_made (ChangedSince n) _ (codes "CHANGEDSINCE " ++ decimal_text n) (codes " VANISHED") (changed_made n h) (with_vanished n)

abbrev IsWithin : Modifier → Type 0
IsWithin (ChangedSince since) = mod_sequence.fits since ≡ true
IsWithin Vanished = Unit {0}

is_within : (m : Modifier) (text : List ℕ) → fetch.modifier.spells m text → IsWithin m
is_within m text h = by_word h.0 m h.2 h.4
  where
    by_word : (w : _) (m : Modifier) (text : List ℕ) → (fetch.modifier_behind w).spells m text → IsWithin m
    by_word given.ChangedSince m text h = rw (h.4.4.0) (mod_sequence_writes.fits h.4.0 h.4.1 h.4.3)
    by_word given.Vanished m text h = rw (h.0) tt

one_within : (m : Modifier) → IsWithin m → changed_fits (fetch.one_modifier m).changed_since ≡ true
one_within (ChangedSince since) h = h
one_within Vanished h = refl

both_within : (a b : Modifier) (all : Modifiers) (text : List ℕ) → IsWithin a → IsWithin b → (rule.judged (fetch.both_modifiers a b)).spells all text → changed_fits all.changed_since ≡ true
both_within (ChangedSince n) (ChangedSince m) all text h k s = absurd s
both_within (ChangedSince n) Vanished all text h k s = rw (s.0) h
both_within Vanished (ChangedSince n) all text h k s = rw (s.0) k
both_within Vanished Vanished all text h k s = absurd s

another_fits : (first : Modifier) (more : Bool) (all : Modifiers) (text : List ℕ) → IsWithin first → (fetch.another_behind first more).spells all text → changed_fits all.changed_since ≡ true
another_fits first false all text k h = rw (h.0) (one_within first k)
another_fits first true all text k h = both_within first h.0 all h.2 k (is_within h.0 h.1 h.3) h.4

modifiers_behind_fits : (more : Bool) (all : Modifiers) (text : List ℕ) → (fetch.modifiers_behind more).spells all text → changed_fits all.changed_since ≡ true
modifiers_behind_fits false all text h = rw (h.0) refl
modifiers_behind_fits true all text h =
    let first = h.4 in
    let read = first.4 in
    rw (read.4.4.0) (another_fits first.0 read.3.0 read.0 read.3.2 (is_within first.0 first.1 first.3) read.3.4)

pub modifiers_fit : (all : Modifiers) (text : List ℕ) → fetch.modifiers.spells all text → changed_fits all.changed_since ≡ true
modifiers_fit all text h = modifiers_behind_fits h.0 all h.2 h.4
