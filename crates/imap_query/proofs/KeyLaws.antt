-- The laws of search keys.
use Rattle.std.proofs.Common.{ℕ, zero, suc, Bool, true, false, cond, eqb, ◌==◌, List, refl}
use Rattle.std.specs.Char.{is_ascii_digit, is_ascii_alphabetic}
use Rattle.imap_query.specs.declared.search.SearchIn.{SearchIn}
use Rattle.imap_query.specs.declared.search.SearchDate.{SearchDate}
use Rattle.imap_query.specs.declared.search_word.SearchWord.{SearchWord}
use Rattle.imap_query.specs.declared.search_word.SearchWord.TheVariants as word
use Rattle.imap_syntax.specs.Rule.{Rule, give, ◌>>=◌, octet}
use Rattle.imap_syntax.specs.Lexical.{is_astring_char, is_atom_char, astring}
use Rattle.imap_syntax.specs.Sets.{begins_set}
use Rattle.imap_query.specs.Keys.{Plain, Key}
use Rattle.imap_query.specs.Search.{text_key, date_key, sent_key, header_key, keyword_key, size, entry_behind, entry, mod_seq_key, uid_key, plain_behind, as_plain}
use Rattle.imap_query.specs.Searching.{is_not, is_or, not_key, or_key, key_behind, group_key, set_key, word_key, key_over, key}
use Rattle.imap_syntax.proofs.RuleLaws.{StopsAt, Lawful, MayFollow, ended_lawful, then_lawful, then_follows, give_lawful, give_follows, octet_lawful, octet_follows, octet_then_follows, some_of_lawful}
use Rattle.imap_syntax.proofs.Opens.{Opens, opens_weaker, octet_opens, then_opens, opens_follows}
use Rattle.imap_syntax.proofs.Lists.{fail_lawful, fail_follows, when_lawful, flag_then_lawful}
use Rattle.imap_syntax.proofs.Words.{keyword_lawful}
use Rattle.imap_query.proofs.Tables.{search_table, entry_type_table}
use Rattle.imap_syntax.proofs.Numbers.{number_lawful, number_opens}
use Rattle.imap_syntax.proofs.Strings.{quoted_end_lawful, astring_lawful}
use Rattle.imap_syntax.proofs.First.{by_first_lawful, by_first_opens}
use Rattle.imap_syntax.proofs.Ends.{AtEnd, before, give_before, end_stops, differs, keyword_opens, items_lawful}
use Rattle.imap_syntax.proofs.Sets.{message_set_lawful, message_set_opens}
use Rattle.imap_syntax.proofs.Dates.{date_lawful}
use Rattle.imap_query.proofs.Sections.{field_name_lawful}

-- ---- keys without others within them

last_text : (make : List ℕ → Plain) → Lawful AtEnd (do text ← astring; give (make text))
last_text make = then_lawful astring_lawful (λ text. give_lawful _) (λ text. give_before _ (end_stops is_astring_char refl refl refl))

text_key_lawful : (place : SearchIn) → Lawful AtEnd (text_key place)
text_key_lawful place = ended_lawful (octet_lawful 32) (λ u. last_text _)

date_key_lawful : (how : SearchDate) → Lawful AtEnd (date_key how)
date_key_lawful how = ended_lawful (octet_lawful 32) (λ u. then_lawful date_lawful (λ day. give_lawful _) (λ day. give_follows _))

sent_key_lawful : Lawful AtEnd sent_key
sent_key_lawful = ended_lawful (octet_lawful 32) (λ u. then_lawful date_lawful (λ day. give_lawful _) (λ day. give_follows _))

header_key_lawful : Lawful AtEnd header_key
header_key_lawful =
    ended_lawful (octet_lawful 32) (λ u.
    then_lawful field_name_lawful (λ field. ended_lawful (octet_lawful 32) (λ v. last_text _)) (λ field. octet_then_follows _ 32 (λ rest. refl)))

keyword_key_lawful : (set : Bool) → Lawful AtEnd (keyword_key set)
keyword_key_lawful set = ended_lawful (octet_lawful 32) (λ u. then_lawful (some_of_lawful is_atom_char) (λ name. give_lawful _) (λ name. give_before _ (end_stops is_atom_char refl refl refl)))

digits_end : (rest : List ℕ) → AtEnd rest → StopsAt is_ascii_digit rest
digits_end = end_stops is_ascii_digit refl refl refl

size_lawful : Lawful AtEnd size
size_lawful = ended_lawful (octet_lawful 32) (λ u. before digits_end (number_lawful _ _))

size_key_lawful : (make : ℕ → Plain) → Lawful AtEnd (do n ← size; give (make n))
size_key_lawful make = then_lawful size_lawful (λ n. give_lawful _) (λ n. give_follows _)

entry_lawful : Lawful (StopsAt (λ b. eqb b 34)) entry
entry_lawful =
    flag_then_lawful 34 entry_behind
    (ended_lawful quoted_end_lawful (λ text.
    ended_lawful (when_lawful _ _) (λ same.
    ended_lawful (octet_lawful 32) (λ u.
    then_lawful (keyword_lawful entry_type_table) (λ kind. octet_lawful 32) (λ kind. octet_follows 32 (λ rest. refl))))))
    (give_lawful _)
    (give_follows _)

mod_seq_key_lawful : Lawful AtEnd mod_seq_key
mod_seq_key_lawful =
    ended_lawful (octet_lawful 32) (λ u.
    then_lawful entry_lawful
    (λ v. then_lawful (number_lawful _ _) (λ least. give_lawful _) (λ least. give_before _ digits_end))
    (λ v. opens_follows (then_opens _ (number_opens _ _)) (λ b rest h. differs is_ascii_digit 34 refl b h)))

uid_key_lawful : Lawful AtEnd uid_key
uid_key_lawful = ended_lawful (octet_lawful 32) (λ u. then_lawful message_set_lawful (λ messages. give_lawful _) (λ messages. give_follows _))

plain_lawful : (name : SearchWord) → Lawful AtEnd (plain_behind name)
plain_lawful word.Bcc = text_key_lawful _
plain_lawful word.Before = date_key_lawful _
plain_lawful word.Body = text_key_lawful _
plain_lawful word.Cc = text_key_lawful _
plain_lawful word.From = text_key_lawful _
plain_lawful word.Header = header_key_lawful
plain_lawful word.Keyword = keyword_key_lawful _
plain_lawful word.Larger = size_key_lawful _
plain_lawful word.ModSeq = mod_seq_key_lawful
plain_lawful word.Not = fail_lawful
plain_lawful word.On = date_key_lawful _
plain_lawful word.Or = fail_lawful
plain_lawful word.SentBefore = sent_key_lawful
plain_lawful word.SentOn = sent_key_lawful
plain_lawful word.SentSince = sent_key_lawful
plain_lawful word.Since = date_key_lawful _
plain_lawful word.Smaller = size_key_lawful _
plain_lawful word.Subject = text_key_lawful _
plain_lawful word.Text = text_key_lawful _
plain_lawful word.To = text_key_lawful _
plain_lawful word.Uid = uid_key_lawful
plain_lawful word.Unkeyword = keyword_key_lawful _
plain_lawful _ = give_lawful _

letters_end : (rest : List ℕ) → AtEnd rest → StopsAt is_ascii_alphabetic rest
letters_end = end_stops is_ascii_alphabetic refl refl refl

-- what stands behind a word doesn't lengthen it
abbrev pub Ended : {A : Type 0} → Rule A → Type 0
Ended q = MayFollow (StopsAt is_ascii_alphabetic) AtEnd q

spaced : {A : Type 0} (next : Unit {0} → Rule A) → Ended (octet 32 >>= next)
spaced next = octet_then_follows next 32 (λ rest. refl)

plain_follows : (name : SearchWord) → Ended (plain_behind name)
plain_follows word.All = give_before _ letters_end
plain_follows word.Answered = give_before _ letters_end
plain_follows word.Deleted = give_before _ letters_end
plain_follows word.Draft = give_before _ letters_end
plain_follows word.Flagged = give_before _ letters_end
plain_follows word.Larger = then_follows (spaced _) (λ n. give_follows {After = AtEnd} _)
plain_follows word.Not = fail_follows
plain_follows word.Or = fail_follows
plain_follows word.Seen = give_before _ letters_end
plain_follows word.Smaller = then_follows (spaced _) (λ n. give_follows {After = AtEnd} _)
plain_follows word.Unanswered = give_before _ letters_end
plain_follows word.Undeleted = give_before _ letters_end
plain_follows word.Undraft = give_before _ letters_end
plain_follows word.Unflagged = give_before _ letters_end
plain_follows word.Unseen = give_before _ letters_end
plain_follows _ = spaced _

as_plain_lawful : (name : SearchWord) → Lawful AtEnd (as_plain (plain_behind name))
as_plain_lawful name = then_lawful (plain_lawful name) (λ k. give_lawful _) (λ k. give_follows _)

as_plain_follows : (name : SearchWord) → Ended (as_plain (plain_behind name))
as_plain_follows name = then_follows (plain_follows name) (λ k. give_follows _)

-- ---- keys within keys

behind_lawful : (inner : Rule Key) → Lawful AtEnd inner → (name : SearchWord) → Lawful AtEnd (key_behind inner name)
behind_lawful inner law name = by (is_not name) (is_or name)
  where
    by : (no either : Bool) → Lawful AtEnd (cond no (not_key inner) (cond either (or_key inner) (as_plain (plain_behind name))))
    by true either = ended_lawful (octet_lawful 32) (λ u. then_lawful law (λ k. give_lawful _) (λ k. give_follows _))
    by false true =
        ended_lawful (octet_lawful 32) (λ u. then_lawful law
        (λ l. ended_lawful (octet_lawful 32) (λ v. then_lawful law (λ r. give_lawful _) (λ r. give_follows _)))
        (λ l. octet_then_follows _ 32 (λ rest. refl)))
    by false false = as_plain_lawful name

pub behind_follows : (inner : Rule Key) (name : SearchWord) → Ended (key_behind inner name)
behind_follows inner name = by (is_not name) (is_or name)
  where
    by : (no either : Bool) → Ended (cond no (not_key inner) (cond either (or_key inner) (as_plain (plain_behind name))))
    by true either = spaced _
    by false true = spaced _
    by false false = as_plain_follows name

pub word_key_lawful : (inner : Rule Key) → Lawful AtEnd inner → Lawful AtEnd (word_key inner)
word_key_lawful inner law = then_lawful (keyword_lawful search_table) (behind_lawful inner law) (behind_follows inner)

group_key_lawful : (inner : Rule Key) → Lawful AtEnd inner → Lawful AtEnd (group_key inner)
group_key_lawful inner law =
    ended_lawful (octet_lawful 40) (λ u. then_lawful (items_lawful law) (λ ks. ended_lawful (octet_lawful 41) (λ v. give_lawful _)) (λ ks. octet_then_follows _ 41 (λ rest. (refl, refl))))

set_key_lawful : Lawful AtEnd set_key
set_key_lawful = then_lawful message_set_lawful (λ messages. give_lawful _) (λ messages. give_follows _)

pub group_opens : (inner : Rule Key) → Opens (λ b. b == 40) (group_key inner)
group_opens inner = then_opens _ (octet_opens _ 40 refl)

pub set_opens : Opens begins_set set_key
set_opens = then_opens _ message_set_opens

word_opens : (inner : Rule Key) → Opens is_ascii_alphabetic (word_key inner)
word_opens inner = then_opens _ (keyword_opens search_table)

-- any octet
abbrev any_octet : ℕ → Bool
any_octet b = true

anyhow : {A : Type 0} {test : ℕ → Bool} {q : Rule A} → Opens test q → Opens any_octet q
anyhow o = opens_weaker (λ b h. refl) o

key_over_lawful : (inner : Rule Key) → Lawful AtEnd inner → Lawful AtEnd (key_over inner)
key_over_lawful inner law =
    by_first_lawful (λ b. b == 40) (group_key_lawful inner law)
    (by_first_lawful begins_set set_key_lawful (word_key_lawful inner law) set_opens (word_opens inner))
    (group_opens inner)
    (by_first_opens begins_set (anyhow set_opens) (anyhow (word_opens inner)))

pub key_lawful : (levels : ℕ) → Lawful AtEnd (key levels)
unfolding key
key_lawful zero = fail_lawful
key_lawful (suc levels) = key_over_lawful (key levels) (key_lawful levels)
