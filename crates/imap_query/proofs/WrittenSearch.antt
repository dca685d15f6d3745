-- What SEARCH asks for is written as it is spelt.
use Rattle.std.proofs.Common.{◌≡◌, ℕ, zero, suc, Bool, true, false, cond, ◌==◌, List, [], ◌∷◌, ◌++◌, codes, Option, Some, None, refl, sym, ap, subst, ◌∙◌, arith, inl, inr}
use Rattle.std.specs.Fmt.{decimal as decimal_text}
use Rattle.std.specs.List.{list_all}
use Rattle.std.specs.Char.{is_ascii_alphabetic}
use Rattle.std.proofs.lemmas.Bool.Decides.{nat_tests}
use Rattle.std.proofs.lemmas.List.{append-nil}
use Rattle.imap_query.specs.Searching.{max_key_levels}
use Rattle.imap_syntax.specs.declared.flag.Flag.{Flag}
use Rattle.imap_syntax.specs.declared.flag.Flag.TheVariants as flag
use Rattle.imap_syntax.specs.declared.set.MessageSet.{MessageSet}
use Rattle.imap_syntax.specs.Moments.{Day}
use Rattle.imap_syntax.specs.declared.month.Month.TheVariants as month
use Rattle.imap_query.specs.declared.search.SearchReturn.{SearchReturn}
use Rattle.imap_query.specs.declared.search.SearchIn.{SearchIn}
use Rattle.imap_query.specs.declared.search.SearchIn.TheVariants as place
use Rattle.imap_query.specs.declared.search.SearchDate.{SearchDate}
use Rattle.imap_query.specs.declared.search.SearchDate.TheVariants as relation
use Rattle.imap_query.specs.declared.search.TheConstants.{SEARCH_RETURNS}
use Rattle.imap_query.specs.declared.search_word.SearchWord.{SearchWord}
use Rattle.imap_query.specs.declared.search_word.SearchWord.TheVariants as word
use Rattle.imap_query.specs.declared.search_word.TheConstants.{SEARCH_WORDS}
use Rattle.imap_syntax.specs.Rule as rule
use Rattle.imap_syntax.specs.Rule.{Rule, give, ◌>>=◌, some_of}
use Rattle.imap_syntax.specs.First.{begins}
use Rattle.imap_syntax.specs.Lexical as lexical
use Rattle.imap_syntax.specs.Lexical.{is_astring_char, is_atom_char}
use Rattle.imap_query.specs.SearchWords.{search_return_name, search_name}
use Rattle.imap_syntax.specs.Calendar.{day_exists}
use Rattle.imap_query.specs.Keys.{Plain, all, flagged, contains, header, dated, larger, smaller, mod_seq, numbers, uids, unserved, Key, plain, negated, either, group, Keys, end, more, keys_of, Token, all_tokens}
use Rattle.imap_query.specs.Search as search
use Rattle.imap_query.specs.Searching as searching
use Rattle.imap_syntax.specs.Sets.{begins_set}
use Rattle.imap_query.specs.Searching.{is_not, is_or, key_over, word_key, key}
use Rattle.imap_syntax.specs.Writing as writing
use Rattle.imap_syntax.specs.Writing.{Writing, joined, separated, listed_or_none}
use Rattle.imap_syntax.specs.Written.{is_quotable, quoted_text, quoted, astring, atom, number64, message_set}
use Rattle.imap_syntax.specs.WrittenDates.{date}
use Rattle.imap_syntax.specs.FieldNames.{written_name}
use Rattle.imap_query.specs.WrittenSearch.{keys_from, search_flag_fits, plain_fits, plain_text, fits_over, key_fits, key_text, search_key, keys, keys_fit, keys_text, search_keys, returns_text, charset_fits, charset_name_text, charset_text}
use Rattle.imap_syntax.proofs.Opens.{Opens, then_opens}
use Rattle.imap_syntax.proofs.Ends.{differs, keyword_opens}
use Rattle.imap_query.proofs.Tables.{search_table}
use Rattle.imap_syntax.proofs.Sets.{message_set_opens}
use Rattle.imap_syntax.proofs.Writing.{Writes, both_true, both, some_of_writes, separated_writes, listed_or_none_writes, word_writes}
use Rattle.imap_syntax.proofs.Written.{atom_char_plain, plain_quotable, quoted_writes, astring_writes, number64_writes, message_set_writes}
use Rattle.imap_syntax.proofs.WrittenDates.{date_writes}
use Rattle.imap_query.proofs.WrittenFetch.{field_name_writes}
use Rattle.imap_query.proofs.WrittenKeys.{keys_from-all, keys_from-some, row-joined, group-all}

atom_writes : Writes (some_of is_atom_char) atom
atom_writes = some_of_writes is_atom_char

-- ---- a key that begins with a word

letter_begins_no_set : (b : ℕ) → is_ascii_alphabetic b ≡ true → begins_set b ≡ false
letter_begins_no_set b h = grind (arith, nat_tests)

word_opens : (inner : Rule Key) → Opens is_ascii_alphabetic (word_key inner)
word_opens inner = then_opens _ (keyword_opens search_table)

word_made : (inner : Rule Key) (k : Key) (text : List ℕ) → (word_key inner).spells k text → (key_over inner).spells k text
word_made inner k text h =
    let x = (word_opens inner).first k text h in
    inr (ap (begins (λ b. b == 40)) x.2 ∙ differs is_ascii_alphabetic 40 refl x.0 x.3, inr (ap (begins begins_set) x.2 ∙ letter_begins_no_set x.0 x.3, h))

named_made : (inner : Rule Key) (name : SearchWord) (k : Key) (back : List ℕ) → (searching.key_behind inner name).spells k back → (key_over inner).spells k (search_name name ++ back)
named_made inner name k back h =
    word_made inner k (search_name name ++ back) (name, search_name name, back, (word_writes is_ascii_alphabetic search_name SEARCH_WORDS).made name refl, h, refl)

behind_made : (inner : Rule Key) (name : SearchWord) (p : Plain) (back : List ℕ) → is_not name ≡ false → is_or name ≡ false → (search.plain_behind name).spells p back → (searching.key_behind inner name).spells (plain p) back
behind_made inner name p back n o h = rw (n, o) (p, back, [], h, (refl, refl), sym (append-nil back))

plain_made : (inner : Rule Key) (name : SearchWord) (p : Plain) (back : List ℕ) → is_not name ≡ false → is_or name ≡ false → (search.plain_behind name).spells p back → (key_over inner).spells (plain p) (search_name name ++ back)
plain_made inner name p back n o h = named_made inner name (plain p) back (behind_made inner name p back n o h)

-- ---- keys without others within them

text_made : (where_it_is : SearchIn) (text : List ℕ) → astring.fits text ≡ true → (search.text_key where_it_is).spells (contains where_it_is text) (32 ∷ astring.text text)
text_made where_it_is text h = (tt, 32 ∷ [], astring.text text, refl, (text, astring.text text, [], astring_writes.made text h, (refl, refl), sym (append-nil (astring.text text))), refl)

contains_made : (inner : Rule Key) (where_it_is : SearchIn) (text : List ℕ) → astring.fits text ≡ true → (key_over inner).spells (plain (contains where_it_is text)) (plain_text (contains where_it_is text))
contains_made inner place.Bcc text h = plain_made inner word.Bcc _ (32 ∷ astring.text text) refl refl (text_made place.Bcc text h)
contains_made inner place.Body text h = plain_made inner word.Body _ (32 ∷ astring.text text) refl refl (text_made place.Body text h)
contains_made inner place.Cc text h = plain_made inner word.Cc _ (32 ∷ astring.text text) refl refl (text_made place.Cc text h)
contains_made inner place.From text h = plain_made inner word.From _ (32 ∷ astring.text text) refl refl (text_made place.From text h)
contains_made inner place.Subject text h = plain_made inner word.Subject _ (32 ∷ astring.text text) refl refl (text_made place.Subject text h)
contains_made inner place.Text text h = plain_made inner word.Text _ (32 ∷ astring.text text) refl refl (text_made place.Text text h)
contains_made inner place.To text h = plain_made inner word.To _ (32 ∷ astring.text text) refl refl (text_made place.To text h)

day_made : (how : SearchDate) (day : Day) → date.fits day ≡ true → (search.date_key how).spells (dated how day) (32 ∷ date.text day)
day_made how day h = (tt, 32 ∷ [], date.text day, refl, (day, date.text day, [], date_writes.made day h, (refl, refl), sym (append-nil (date.text day))), refl)

dated_made : (inner : Rule Key) (how : SearchDate) (day : Day) → date.fits day ≡ true → (key_over inner).spells (plain (dated how day)) (plain_text (dated how day))
dated_made inner relation.Before day h = plain_made inner word.Before _ (32 ∷ date.text day) refl refl (day_made relation.Before day h)
dated_made inner relation.On day h = plain_made inner word.On _ (32 ∷ date.text day) refl refl (day_made relation.On day h)
dated_made inner relation.Since day h = plain_made inner word.Since _ (32 ∷ date.text day) refl refl (day_made relation.Since day h)

keyword_made : (set : Bool) (name : List ℕ) → atom.fits name ≡ true → (search.keyword_key set).spells (flagged (flag.Keyword name) set) (32 ∷ name)
keyword_made set name h = (tt, 32 ∷ [], name, refl, (name, name, [], atom_writes.made name h, (refl, refl), sym (append-nil name)), refl)

flagged_made : (inner : Rule Key) (f : Flag) (set : Bool) → search_flag_fits f ≡ true → (key_over inner).spells (plain (flagged f set)) (plain_text (flagged f set))
flagged_made inner flag.Answered true h = plain_made inner word.Answered _ [] refl refl (refl, refl)
flagged_made inner flag.Answered false h = plain_made inner word.Unanswered _ [] refl refl (refl, refl)
flagged_made inner flag.Deleted true h = plain_made inner word.Deleted _ [] refl refl (refl, refl)
flagged_made inner flag.Deleted false h = plain_made inner word.Undeleted _ [] refl refl (refl, refl)
flagged_made inner flag.Draft true h = plain_made inner word.Draft _ [] refl refl (refl, refl)
flagged_made inner flag.Draft false h = plain_made inner word.Undraft _ [] refl refl (refl, refl)
flagged_made inner flag.Flagged true h = plain_made inner word.Flagged _ [] refl refl (refl, refl)
flagged_made inner flag.Flagged false h = plain_made inner word.Unflagged _ [] refl refl (refl, refl)
flagged_made inner flag.Seen true h = plain_made inner word.Seen _ [] refl refl (refl, refl)
flagged_made inner flag.Seen false h = plain_made inner word.Unseen _ [] refl refl (refl, refl)
flagged_made inner (flag.Other name) set h = absurd cc
flagged_made inner (flag.Keyword name) true h = plain_made inner word.Keyword _ (32 ∷ name) refl refl (keyword_made true name h)
flagged_made inner (flag.Keyword name) false h = plain_made inner word.Unkeyword _ (32 ∷ name) refl refl (keyword_made false name h)

size_made : (n : ℕ) → number64.fits n ≡ true → search.size.spells n (32 ∷ decimal_text n)
size_made n h = (tt, 32 ∷ [], decimal_text n, refl, number64_writes.made n h, refl)

sized_made : (make : ℕ → Plain) (n : ℕ) → number64.fits n ≡ true → (search.size >>= λ size. give (make size)).spells (make n) (32 ∷ decimal_text n)
sized_made make n h = (n, 32 ∷ decimal_text n, [], size_made n h, (refl, refl), sym (append-nil (32 ∷ decimal_text n)))

mod_seq_made : (n : ℕ) → number64.fits n ≡ true → search.mod_seq_key.spells (mod_seq n) (32 ∷ decimal_text n)
mod_seq_made n h =
    let digits = decimal_text n in
    (tt, 32 ∷ [], digits, refl, (tt, [], digits, (false, [], [], refl, (refl, refl), refl), (n, digits, [], number64_writes.made n h, (refl, refl), sym (append-nil digits)), refl), refl)

header_made : (field text : List ℕ) → written_name.fits field ≡ true → astring.fits text ≡ true → search.header_key.spells (header field text) (32 ∷ (astring.text field ++ 32 ∷ astring.text text))
header_made field text h k =
    let wanted = astring.text text in
    (tt, 32 ∷ [], astring.text field ++ 32 ∷ wanted, refl, (field, astring.text field, 32 ∷ wanted, field_name_writes.made field h, (tt, 32 ∷ [], wanted, refl, (text, wanted, [], astring_writes.made text k, (refl, refl), sym (append-nil wanted)), refl), refl), refl)

uids_made : (m : MessageSet) → message_set.fits m ≡ true → search.uid_key.spells (uids m) (32 ∷ message_set.text m)
uids_made m h = (tt, 32 ∷ [], message_set.text m, refl, (m, message_set.text m, [], message_set_writes.made m h, (refl, refl), sym (append-nil (message_set.text m))), refl)

numbers_made : (inner : Rule Key) (m : MessageSet) → message_set.fits m ≡ true → (key_over inner).spells (plain (numbers m)) (message_set.text m)
numbers_made inner m h =
    let text = message_set.text m in
    let spelt = message_set_writes.made m h in
    let x = message_set_opens.first m text spelt in
    inr (ap (begins (λ b. b == 40)) x.2 ∙ differs begins_set 40 refl x.0 x.3, inl (ap (begins begins_set) x.2 ∙ x.3, (m, text, [], spelt, (refl, refl), sym (append-nil text))))

abbrev some_day : Day
some_day = record { year = 2000; month = month.Jan; day = 1 }

unserved_made : search.sent_key.spells unserved (codes " 1-Jan-2000")
unfolding day_exists
unserved_made = (tt, 32 ∷ [], codes "1-Jan-2000", refl, (some_day, codes "1-Jan-2000", [], date_writes.made some_day refl, (refl, refl), refl), refl)

plain_key_made : (inner : Rule Key) (p : Plain) → plain_fits p ≡ true → (key_over inner).spells (plain p) (plain_text p)
plain_key_made inner all h = plain_made inner word.All _ [] refl refl (refl, refl)
plain_key_made inner (flagged f set) h = flagged_made inner f set h
plain_key_made inner (contains where_it_is text) h = contains_made inner where_it_is text h
plain_key_made inner (header field text) h = let q = both_true (written_name.fits field) (astring.fits text) h in plain_made inner word.Header _ (32 ∷ (astring.text field ++ 32 ∷ astring.text text)) refl refl (header_made field text q.0 q.1)
plain_key_made inner (dated how day) h = dated_made inner how day h
plain_key_made inner (larger n) h = plain_made inner word.Larger _ (32 ∷ decimal_text n) refl refl (sized_made larger n h)
plain_key_made inner (smaller n) h = plain_made inner word.Smaller _ (32 ∷ decimal_text n) refl refl (sized_made smaller n h)
plain_key_made inner (mod_seq n) h = plain_made inner word.ModSeq _ (32 ∷ decimal_text n) refl refl (mod_seq_made n h)
plain_key_made inner (numbers m) h = numbers_made inner m h
plain_key_made inner (uids m) h = plain_made inner word.Uid _ (32 ∷ message_set.text m) refl refl (uids_made m h)
plain_key_made inner unserved h = plain_made inner word.SentOn _ (codes " 1-Jan-2000") refl refl unserved_made

text_fits : (where_it_is : SearchIn) (p : Plain) (text : List ℕ) → (search.text_key where_it_is).spells p text → plain_fits p ≡ true
text_fits where_it_is p text h = rw (h.4.4.0) (astring_writes.fits h.4.0 h.4.1 h.4.3)

day_fits : (how : SearchDate) (p : Plain) (text : List ℕ) → (search.date_key how).spells p text → plain_fits p ≡ true
day_fits how p text h = rw (h.4.4.0) (date_writes.fits h.4.0 h.4.1 h.4.3)

sent_fits : (p : Plain) (text : List ℕ) → search.sent_key.spells p text → plain_fits p ≡ true
sent_fits p text h = rw (h.4.4.0) refl

keyword_fits : (set : Bool) (p : Plain) (text : List ℕ) → (search.keyword_key set).spells p text → plain_fits p ≡ true
keyword_fits set p text h = rw (h.4.4.0) (atom_writes.fits h.4.0 h.4.1 h.4.3)

plain_behind_fits : (name : SearchWord) (p : Plain) (text : List ℕ) → (search.plain_behind name).spells p text → plain_fits p ≡ true
plain_behind_fits word.All p text h = rw (h.0) refl
plain_behind_fits word.Answered p text h = rw (h.0) refl
plain_behind_fits word.Bcc p text h = text_fits place.Bcc p text h
plain_behind_fits word.Before p text h = day_fits relation.Before p text h
plain_behind_fits word.Body p text h = text_fits place.Body p text h
plain_behind_fits word.Cc p text h = text_fits place.Cc p text h
plain_behind_fits word.Deleted p text h = rw (h.0) refl
plain_behind_fits word.Draft p text h = rw (h.0) refl
plain_behind_fits word.Flagged p text h = rw (h.0) refl
plain_behind_fits word.From p text h = text_fits place.From p text h
plain_behind_fits word.Header p text h =
    let field = h.4 in
    let wanted = field.4.4 in
    rw (wanted.4.0) (both _ _ (field_name_writes.fits field.0 field.1 field.3) (astring_writes.fits wanted.0 wanted.1 wanted.3))
plain_behind_fits word.Keyword p text h = keyword_fits true p text h
plain_behind_fits word.Larger p text h = rw (h.4.0) (number64_writes.fits h.0 h.3.2 h.3.4)
plain_behind_fits word.ModSeq p text h = let least = h.4.4 in rw (least.4.0) (number64_writes.fits least.0 least.1 least.3)
plain_behind_fits word.Not p text h = absurd h
plain_behind_fits word.On p text h = day_fits relation.On p text h
plain_behind_fits word.Or p text h = absurd h
plain_behind_fits word.Seen p text h = rw (h.0) refl
plain_behind_fits word.SentBefore p text h = sent_fits p text h
plain_behind_fits word.SentOn p text h = sent_fits p text h
plain_behind_fits word.SentSince p text h = sent_fits p text h
plain_behind_fits word.Since p text h = day_fits relation.Since p text h
plain_behind_fits word.Smaller p text h = rw (h.4.0) (number64_writes.fits h.0 h.3.2 h.3.4)
plain_behind_fits word.Subject p text h = text_fits place.Subject p text h
plain_behind_fits word.Text p text h = text_fits place.Text p text h
plain_behind_fits word.To p text h = text_fits place.To p text h
plain_behind_fits word.Uid p text h = rw (h.4.4.0) (message_set_writes.fits h.4.0 h.4.1 h.4.3)
plain_behind_fits word.Unanswered p text h = rw (h.0) refl
plain_behind_fits word.Undeleted p text h = rw (h.0) refl
plain_behind_fits word.Undraft p text h = rw (h.0) refl
plain_behind_fits word.Unflagged p text h = rw (h.0) refl
plain_behind_fits word.Unkeyword p text h = keyword_fits false p text h
plain_behind_fits word.Unseen p text h = rw (h.0) refl

-- ---- keys

-- keys that fit by this test
abbrev of_keys : (Key → Bool) → Writing Key
of_keys f = record { fits = f; text = key_text }

abbrev list_of : Keys → List Key
list_of end = []
list_of (more k row) = k ∷ list_of row

keys_of-list : (row : Keys) → keys_of (list_of row) ≡ row
keys_of-list end = refl
keys_of-list (more k row) = ap (more k) (keys_of-list row)

group_made : (inner : Rule Key) (f : Key → Bool) → Writes inner (of_keys f) → (ks : List Key) → fits_over f (group (keys_of ks)) ≡ true → (key_over inner).spells (group (keys_of ks)) (key_text (group (keys_of ks)))
group_made inner f law ks h =
    let text = joined 32 key_text ks in
    let spelt = (separated_writes 32 inner (of_keys f) law).made ks (sym (group-all f ks) ∙ h) in
    let close : (rule.octet 41 >>= λ u. give (group (keys_of ks))).spells (group (keys_of ks)) (41 ∷ []) = (tt, 41 ∷ [], [], refl, (refl, refl), refl) in
    rw (row-joined ks) (inl (refl, (tt, 40 ∷ [], text ++ 41 ∷ [], refl, (ks, text, 41 ∷ [], spelt, close, refl), refl)))

row_made : (inner : Rule Key) (f : Key → Bool) → Writes inner (of_keys f) → (row : Keys) → fits_over f (group row) ≡ true → (key_over inner).spells (group row) (key_text (group row))
row_made inner f law row =
    subst (λ (r : Keys). fits_over f (group r) ≡ true → (key_over inner).spells (group r) (key_text (group r))) (keys_of-list row) (group_made inner f law (list_of row))

not_made : (inner : Rule Key) (k : Key) → inner.spells k (key_text k) → (key_over inner).spells (negated k) (key_text (negated k))
not_made inner k h =
    let text = key_text k in
    named_made inner word.Not (negated k) (32 ∷ text) (tt, 32 ∷ [], text, refl, (k, text, [], h, (refl, refl), sym (append-nil text)), refl)

or_made : (inner : Rule Key) (l r : Key) → inner.spells l (key_text l) → inner.spells r (key_text r) → (key_over inner).spells (either l r) (key_text (either l r))
or_made inner l r h k =
    let left = key_text l in
    let right = key_text r in
    named_made inner word.Or (either l r) (32 ∷ (left ++ 32 ∷ right)) (tt, 32 ∷ [], left ++ 32 ∷ right, refl, (l, left, 32 ∷ right, h, (tt, 32 ∷ [], right, refl, (r, right, [], k, (refl, refl), sym (append-nil right)), refl), refl), refl)

over_made : (inner : Rule Key) (f : Key → Bool) → Writes inner (of_keys f) → (k : Key) → fits_over f k ≡ true → (key_over inner).spells k (key_text k)
over_made inner f law (plain p) h = plain_key_made inner p h
over_made inner f law (negated k) h = not_made inner k (law.made k h)
over_made inner f law (either l r) h = let q = both_true (f l) (f r) h in or_made inner l r (law.made l q.0) (law.made r q.1)
over_made inner f law (group row) h = row_made inner f law row h

behind_fits : (inner : Rule Key) (f : Key → Bool) → Writes inner (of_keys f) → (negates joins : Bool) (name : SearchWord) (k : Key) (text : List ℕ)
    → (cond negates (searching.not_key inner) (cond joins (searching.or_key inner) (search.as_plain (search.plain_behind name)))).spells k text → fits_over f k ≡ true
behind_fits inner f law true joins name k text h = rw (h.4.4.0) (law.fits h.4.0 h.4.1 h.4.3)
behind_fits inner f law false true name k text h =
    let left = h.4 in
    let right = left.4.4 in
    rw (right.4.0) (both _ _ (law.fits left.0 left.1 left.3) (law.fits right.0 right.1 right.3))
behind_fits inner f law false false name k text h = rw (h.4.0) (plain_behind_fits name h.0 h.1 h.3)

over_fits : (inner : Rule Key) (f : Key → Bool) → Writes inner (of_keys f) → (k : Key) (text : List ℕ) → (key_over inner).spells k text → fits_over f k ≡ true
over_fits inner f law k text (inl h) =
    let list = h.1.4 in
    rw (list.4.4.0) (group-all f list.0 ∙ (separated_writes 32 inner (of_keys f) law).fits list.0 list.1 list.3)
over_fits inner f law k text (inr (inner_first, inl h)) = let set = h.1 in rw (set.4.0) (message_set_writes.fits set.0 set.1 set.3)
over_fits inner f law k text (inr (inner_first, inr h)) = let name = h.1 in behind_fits inner f law (is_not name.0) (is_or name.0) name.0 k name.2 name.4

over_writes : (inner : Rule Key) (f : Key → Bool) → Writes inner (of_keys f) → Writes (key_over inner) (of_keys (fits_over f))
over_writes inner f law = record { made = over_made inner f law; fits = over_fits inner f law }

pub key_writes : (levels : ℕ) → Writes (key levels) (search_key levels)
unfolding key key_fits
key_writes zero = record { made = λ k h. absurd cc; fits = λ k text h. absurd h }
key_writes (suc levels) = over_writes (key levels) (key_fits levels) (key_writes levels)

keys_writes : Writes (rule.separated 32 (key max_key_levels)) keys
keys_writes = separated_writes 32 (key max_key_levels) (search_key max_key_levels) (key_writes max_key_levels)

-- tokens that fit are those of keys
tokens_read : (o : Option (List Key)) (tokens : List Token) → keys_from tokens ≡ o → keys_fit o ≡ true → (ks : List Key) × (rule.separated 32 (key max_key_levels)).spells ks (keys_text o) × (tokens ≡ all_tokens ks)
tokens_read None tokens e h = absurd cc
tokens_read (Some ks) tokens e h = (ks, keys_writes.made ks h, keys_from-some tokens ks e)

pub tokens_made : (tokens : List Token) → search_keys.fits tokens ≡ true → (ks : List Key) × (rule.separated 32 (key max_key_levels)).spells ks (search_keys.text tokens) × (tokens ≡ all_tokens ks)
tokens_made tokens h = tokens_read (keys_from tokens) tokens refl h

pub tokens_fit : (ks : List Key) (text : List ℕ) → (rule.separated 32 (key max_key_levels)).spells ks text → search_keys.fits (all_tokens ks) ≡ true
tokens_fit ks text h = rw (keys_from-all ks) (keys_writes.fits ks text h)

-- ---- what stands before the keys

pub each_word : (all_of_them : List SearchReturn) → list_all (λ w. true) all_of_them ≡ true
each_word [] = refl
each_word (w ∷ others) = each_word others

pub returns_made : (returns : List SearchReturn) → searching.search_returns.spells returns (returns_text returns)
returns_made [] = (false, [], [], refl, (refl, refl), refl)
returns_made (first ∷ others) =
    let returns = first ∷ others in
    let shown = (listed_or_none (writing.word search_return_name)).text returns in
    let words = (listed_or_none_writes (rule.keyword is_astring_char search_return_name SEARCH_RETURNS) (writing.word search_return_name) (word_writes is_astring_char search_return_name SEARCH_RETURNS)).made returns (each_word returns) in
    let close : (lexical.space >>= λ u. give returns).spells returns (32 ∷ []) = (tt, 32 ∷ [], [], refl, (refl, refl), refl) in
    (true, codes "RETURN", 32 ∷ (shown ++ 32 ∷ []), refl, (tt, 32 ∷ [], shown ++ 32 ∷ [], refl, (returns, shown, 32 ∷ [], words, close, refl), refl), refl)

charset_name_made : (name : List ℕ) → is_quotable name ≡ true → (v : Bool) → atom.fits name ≡ v → searching.charset_name.spells name (cond v name (quoted_text name))
charset_name_made name h true e = inl (atom_writes.made name e)
charset_name_made name h false e = inr (quoted_writes.made name h)

pub charset_made : (charset : Option (List ℕ)) → charset_fits charset ≡ true → searching.search_charset.spells charset (charset_text charset)
charset_made None h = (false, [], [], refl, (refl, refl), refl)
charset_made (Some name) h =
    let shown = charset_name_text name in
    let close : (lexical.space >>= λ u. give (Some name)).spells (Some name) (32 ∷ []) = (tt, 32 ∷ [], [], refl, (refl, refl), refl) in
    (true, codes "CHARSET", 32 ∷ (shown ++ 32 ∷ []), refl, (tt, 32 ∷ [], shown ++ 32 ∷ [], refl, (name, shown, 32 ∷ [], charset_name_made name h (atom.fits name) refl, close, refl), refl), refl)

name_fits : (name text : List ℕ) → searching.charset_name.spells name text → is_quotable name ≡ true
name_fits name text (inl atom) = plain_quotable is_atom_char atom_char_plain name (subst (rule.ConsistsOf is_atom_char) atom.0 atom.1)
name_fits name text (inr quoted) = quoted_writes.fits name text quoted

charset_behind_fits : (given : Bool) (charset : Option (List ℕ)) (text : List ℕ) → (searching.charset_behind given).spells charset text → charset_fits charset ≡ true
charset_behind_fits false charset text h = rw (h.0) refl
charset_behind_fits true charset text h = let name = h.4 in rw (name.4.4.0) (name_fits name.0 name.1 name.3)

pub charset_fits_all : (charset : Option (List ℕ)) (text : List ℕ) → searching.search_charset.spells charset text → charset_fits charset ≡ true
charset_fits_all charset text h = charset_behind_fits h.0 charset h.2 h.4
