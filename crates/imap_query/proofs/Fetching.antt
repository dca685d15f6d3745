-- The laws of FETCH.
use Rattle.std.proofs.Common.{ℕ, Bool, true, false, eqb, List, refl}
use Rattle.std.specs.Char.{is_ascii_digit}
use Rattle.imap_query.specs.declared.fetch_word.FetchWord.{FetchWord}
use Rattle.imap_query.specs.declared.fetch_word.FetchWord.TheVariants as word
use Rattle.imap_query.specs.declared.fetch_word.ModifierWord.{ModifierWord}
use Rattle.imap_query.specs.declared.fetch_word.ModifierWord.TheVariants as given
use Rattle.imap_query.specs.declared.fetch_word.Modifier.{Modifier}
use Rattle.imap_syntax.specs.Lexical.{is_astring_char, is_word_char}
use Rattle.imap_syntax.specs.Rule.{Rule, ◌>>=◌}
use Rattle.imap_query.specs.Sections.{body_section, section_binary}
use Rattle.imap_query.specs.Fetch.{body_behind, item_behind, fetch_item, one_item, single, items_behind, fetch_items, modifier_behind, modifier, another_behind, another_modifier, modifiers_behind, modifiers}
use Rattle.imap_syntax.proofs.RuleLaws.{Anything, StopsAt, Lawful, MayFollow, ended_lawful, then_lawful, then_follows, after_anything, give_lawful, give_follows, octet_lawful, octet_then_follows}
use Rattle.imap_syntax.proofs.Opens.{then_opens, opens_follows}
use Rattle.imap_syntax.proofs.Lists.{EndsList, fail_lawful, fail_follows, flag_then_lawful, flag_then_follows, judged_lawful, judged_follows}
use Rattle.imap_syntax.proofs.Words.{keyword_lawful}
use Rattle.imap_query.proofs.Tables.{fetch_table, modifier_table}
use Rattle.imap_syntax.proofs.Numbers.{number_lawful}
use Rattle.imap_syntax.proofs.Ends.{AtCr, AtEnd, cr_ends, cr_stops, end_stops, before, give_before, differs, keyword_opens, items_lawful}
use Rattle.imap_query.proofs.Sections.{partial_lawful, body_section_lawful, section_binary_lawful}

-- ---- items

no_angle : (rest : List ℕ) → AtEnd rest → StopsAt (λ b. eqb b 60) rest
no_angle = end_stops (λ b. eqb b 60) refl refl refl

section_lawful : (peek : Bool) → Lawful AtEnd (body_section peek)
section_lawful peek = before no_angle (body_section_lawful peek)

binary_lawful : Lawful AtEnd (item_behind word.Binary)
binary_lawful = ended_lawful section_binary_lawful (λ u. then_lawful partial_lawful (λ range. give_lawful _) (λ range. give_before _ no_angle))

item_behind_lawful : (name : FetchWord) → Lawful AtEnd (item_behind name)
item_behind_lawful word.All = fail_lawful
item_behind_lawful word.Binary = binary_lawful
item_behind_lawful word.BinaryPeek = binary_lawful
item_behind_lawful word.BinarySize = ended_lawful section_binary_lawful (λ u. give_lawful _)
item_behind_lawful word.Body = flag_then_lawful 91 body_behind (section_lawful false) (give_lawful _) (give_before _ (end_stops (λ b. eqb b 91) refl refl refl))
item_behind_lawful word.BodyPeek = ended_lawful (octet_lawful 91) (λ u. section_lawful true)
item_behind_lawful word.BodyStructure = give_lawful _
item_behind_lawful word.Envelope = give_lawful _
item_behind_lawful word.Fast = fail_lawful
item_behind_lawful word.Flags = give_lawful _
item_behind_lawful word.Full = fail_lawful
item_behind_lawful word.InternalDate = give_lawful _
item_behind_lawful word.ModSeq = give_lawful _
item_behind_lawful word.Rfc822Size = give_lawful _
item_behind_lawful word.Uid = give_lawful _

word_ends : (rest : List ℕ) → AtEnd rest → StopsAt is_word_char rest
word_ends = end_stops is_word_char refl refl refl

-- what stands behind the word doesn't lengthen it
abbrev Ended : {A : Type 0} → Rule A → Type 0
Ended q = MayFollow (StopsAt is_word_char) AtEnd q

bracketed : {A : Type 0} (next : Unit {0} → Rule A) → Ended (section_binary >>= next)
bracketed next = then_follows (octet_then_follows {After = Anything} _ 91 (λ rest. refl)) (λ u. after_anything _)

item_behind_follows : (name : FetchWord) → Ended (item_behind name)
item_behind_follows word.All = fail_follows
item_behind_follows word.Binary = bracketed _
item_behind_follows word.BinaryPeek = bracketed _
item_behind_follows word.BinarySize = bracketed _
item_behind_follows word.Body = flag_then_follows 91 body_behind (λ rest. refl) (give_before _ word_ends)
item_behind_follows word.BodyPeek = octet_then_follows _ 91 (λ rest. refl)
item_behind_follows word.BodyStructure = give_before _ word_ends
item_behind_follows word.Envelope = give_before _ word_ends
item_behind_follows word.Fast = fail_follows
item_behind_follows word.Flags = give_before _ word_ends
item_behind_follows word.Full = fail_follows
item_behind_follows word.InternalDate = give_before _ word_ends
item_behind_follows word.ModSeq = give_before _ word_ends
item_behind_follows word.Rfc822Size = give_before _ word_ends
item_behind_follows word.Uid = give_before _ word_ends

fetch_item_lawful : Lawful AtEnd fetch_item
fetch_item_lawful = then_lawful (keyword_lawful fetch_table) item_behind_lawful item_behind_follows

one_lawful : (name : FetchWord) → Lawful AtEnd (one_item name)
one_lawful name = then_lawful (item_behind_lawful name) (λ found. give_lawful _) (λ found. give_follows _)

one_follows : (name : FetchWord) → Ended (one_item name)
one_follows name = then_follows (item_behind_follows name) (λ found. give_follows _)

single_lawful : (name : FetchWord) → Lawful AtEnd (single name)
single_lawful word.All = give_lawful _
single_lawful word.Binary = one_lawful word.Binary
single_lawful word.BinaryPeek = one_lawful word.BinaryPeek
single_lawful word.BinarySize = one_lawful word.BinarySize
single_lawful word.Body = one_lawful word.Body
single_lawful word.BodyPeek = one_lawful word.BodyPeek
single_lawful word.BodyStructure = one_lawful word.BodyStructure
single_lawful word.Envelope = one_lawful word.Envelope
single_lawful word.Fast = give_lawful _
single_lawful word.Flags = one_lawful word.Flags
single_lawful word.Full = give_lawful _
single_lawful word.InternalDate = one_lawful word.InternalDate
single_lawful word.ModSeq = one_lawful word.ModSeq
single_lawful word.Rfc822Size = one_lawful word.Rfc822Size
single_lawful word.Uid = one_lawful word.Uid

single_follows : (name : FetchWord) → Ended (single name)
single_follows word.All = give_before _ word_ends
single_follows word.Binary = one_follows word.Binary
single_follows word.BinaryPeek = one_follows word.BinaryPeek
single_follows word.BinarySize = one_follows word.BinarySize
single_follows word.Body = one_follows word.Body
single_follows word.BodyPeek = one_follows word.BodyPeek
single_follows word.BodyStructure = one_follows word.BodyStructure
single_follows word.Envelope = one_follows word.Envelope
single_follows word.Fast = give_before _ word_ends
single_follows word.Flags = one_follows word.Flags
single_follows word.Full = give_before _ word_ends
single_follows word.InternalDate = one_follows word.InternalDate
single_follows word.ModSeq = one_follows word.ModSeq
single_follows word.Rfc822Size = one_follows word.Rfc822Size
single_follows word.Uid = one_follows word.Uid

pub fetch_items_lawful : Lawful AtEnd fetch_items
fetch_items_lawful =
    flag_then_lawful 40 items_behind
    (then_lawful (items_lawful fetch_item_lawful) (λ items. ended_lawful (octet_lawful 41) (λ u. give_lawful _)) (λ items. octet_then_follows _ 41 (λ rest. (refl, refl))))
    (then_lawful (keyword_lawful fetch_table) single_lawful single_follows)
    (opens_follows (then_opens _ (keyword_opens fetch_table)) (λ b rest h. differs is_word_char 40 refl b h))

-- ---- modifiers

modifier_behind_lawful : (name : ModifierWord) → Lawful AtEnd (modifier_behind name)
modifier_behind_lawful given.ChangedSince = ended_lawful (octet_lawful 32) (λ u. then_lawful (number_lawful _ _) (λ since. give_lawful _) (λ since. give_before _ (end_stops is_ascii_digit refl refl refl)))
modifier_behind_lawful given.Vanished = give_lawful _

modifier_behind_follows : (name : ModifierWord) → MayFollow (StopsAt is_astring_char) AtEnd (modifier_behind name)
modifier_behind_follows given.ChangedSince = octet_then_follows _ 32 (λ rest. refl)
modifier_behind_follows given.Vanished = give_before _ (end_stops is_astring_char refl refl refl)

modifier_lawful : Lawful AtEnd modifier
modifier_lawful = then_lawful (keyword_lawful modifier_table) modifier_behind_lawful modifier_behind_follows

-- what may stand behind the last modifier
abbrev AtLast : List ℕ → Type 0
AtLast = EndsList 32 AtEnd

another_lawful : (first : Modifier) → Lawful AtLast (another_modifier first)
another_lawful first =
    flag_then_lawful 32 (another_behind first)
    (before (λ rest n. n.0) (then_lawful modifier_lawful (λ second. judged_lawful _) (λ second. judged_follows _)))
    (give_lawful _)
    (give_before _ (λ rest n. n.1))

another_follows : (first : Modifier) → MayFollow AtEnd AtLast (another_modifier first)
another_follows first = flag_then_follows 32 (another_behind first) (λ rest. refl) (give_before _ (λ rest n. n.0))

pub modifiers_lawful : Lawful AtCr modifiers
modifiers_lawful =
    flag_then_lawful 32 modifiers_behind
    (ended_lawful (octet_lawful 40) (λ u.
    then_lawful modifier_lawful
    (λ first. then_lawful (another_lawful first) (λ all. ended_lawful (octet_lawful 41) (λ v. give_lawful _)) (λ all. octet_then_follows _ 41 (λ rest. (refl, refl))))
    (λ first. then_follows (another_follows first) (λ all. octet_then_follows _ 41 (λ rest. (refl, refl))))))
    (give_lawful _)
    (give_before _ (cr_stops (λ b. eqb b 32) refl))

pub modifiers_follow : MayFollow AtEnd AtCr modifiers
modifiers_follow = flag_then_follows 32 modifiers_behind (λ rest. refl) (give_before _ cr_ends)
