-- The laws of LIST.
use Rattle.std.proofs.Common.{◌≡◌, ℕ, Bool, true, false, not, eqb, ◌==◌, refl, arith}
use Rattle.std.proofs.lemmas.Bool.Decides.{nat_tests}
use Rattle.imap_commands.specs.declared.commands.list.ListReturnWord.{ListReturnWord}
use Rattle.imap_commands.specs.declared.commands.list.ListReturnWord.TheVariants as word
use Rattle.imap_syntax.specs.Lexical.{is_astring_char}
use Rattle.imap_commands.specs.commands.List.{selections_after, selections, is_list_char, pattern, patterns_after, patterns, list_return_after, list_return, list_returns_after, list_returns, list}
use Rattle.imap_syntax.proofs.RuleLaws.{StopsAt, Lawful, MayFollow, ended_lawful, then_lawful, then_follows, give_lawful, give_follows, octet_lawful, octet_then_follows, some_of_lawful}
use Rattle.imap_syntax.proofs.Opens.{opens_weaker, Opens, then_opens, or_opens, or_apart, some_of_opens, opens_follows}
use Rattle.imap_syntax.proofs.Lists.{when_lawful, flag_then_lawful, flag_then_follows}
use Rattle.imap_syntax.proofs.Words.{keyword_lawful}
use Rattle.imap_query.specs.Status.{status_item}
use Rattle.imap_query.proofs.Tables.{status_table}
use Rattle.imap_commands.proofs.Tables.{selection_table, list_return_table, return_table}
use Rattle.imap_syntax.proofs.Strings.{begins_string, string_lawful, string_opens, begins_astring, no_astring, astring_lawful, astring_opens}
use Rattle.imap_syntax.proofs.Ends.{AtCr, AtEnd, cr_ends, cr_stops, end_stops, before, give_before, differs, keyword_opens, items_lawful, listed_lawful, listed_end_lawful, listed_or_none_lawful}

pub status_item_lawful : Lawful AtEnd status_item
status_item_lawful = before (end_stops is_astring_char refl refl refl) (keyword_lawful status_table)

-- ---- selections

selections_lawful : Lawful (StopsAt (λ b. eqb b 40)) selections
selections_lawful =
    flag_then_lawful 40 selections_after
    (ended_lawful (listed_end_lawful is_astring_char refl (keyword_opens selection_table) (before (end_stops is_astring_char refl refl refl) (keyword_lawful selection_table)))
    (λ all. ended_lawful (octet_lawful 32) (λ u. when_lawful _ _)))
    (give_lawful _)
    (give_follows _)

-- ---- patterns

string_no_list : (b : ℕ) → begins_string b ≡ true → is_list_char b ≡ false
unfolding begins_string
string_no_list b h = grind (arith, nat_tests)

pattern_lawful : Lawful AtEnd pattern
pattern_lawful =
    before (end_stops is_list_char refl refl refl)
    (or_apart (some_of_lawful is_list_char) string_lawful string_opens (λ b rest h. let k : is_list_char b ≡ false = string_no_list b h in rw k refl))

abbrev begins_pattern : ℕ → Bool
begins_pattern b = not (b == 40)

list_char_begins : (b : ℕ) → is_list_char b ≡ true → begins_pattern b ≡ true
list_char_begins b h = grind (arith, nat_tests)

string_begins : (b : ℕ) → begins_string b ≡ true → begins_pattern b ≡ true
unfolding begins_string
string_begins b h = grind (arith, nat_tests)

pattern_opens : Opens begins_pattern pattern
pattern_opens = or_opens (opens_weaker list_char_begins (some_of_opens is_list_char)) (opens_weaker string_begins string_opens)

not_true : (b : Bool) → not b ≡ true → b ≡ false
not_true true h = absurd cc
not_true false h = refl

patterns_lawful : Lawful AtEnd patterns
patterns_lawful =
    flag_then_lawful 40 patterns_after
    (then_lawful (items_lawful pattern_lawful) (λ all. ended_lawful (octet_lawful 41) (λ u. give_lawful _)) (λ all. octet_then_follows _ 41 (λ rest. (refl, refl))))
    (then_lawful pattern_lawful (λ one. give_lawful _) (λ one. give_follows _))
    (opens_follows (then_opens _ pattern_opens) (λ b rest h. not_true _ h))

-- ---- return options

list_return_behind_lawful : (name : ListReturnWord) → Lawful AtEnd (list_return_after name)
list_return_behind_lawful word.Children = give_lawful _
list_return_behind_lawful word.Subscribed = give_lawful _
list_return_behind_lawful word.Status = ended_lawful (octet_lawful 32) (λ u. ended_lawful (listed_lawful status_item_lawful) (λ items. give_lawful _))

list_return_behind_follows : (name : ListReturnWord) → MayFollow (StopsAt is_astring_char) AtEnd (list_return_after name)
list_return_behind_follows word.Children = give_before _ (end_stops is_astring_char refl refl refl)
list_return_behind_follows word.Subscribed = give_before _ (end_stops is_astring_char refl refl refl)
list_return_behind_follows word.Status = octet_then_follows _ 32 (λ rest. refl)

list_return_lawful : Lawful AtEnd list_return
list_return_lawful = then_lawful (keyword_lawful list_return_table) list_return_behind_lawful list_return_behind_follows

list_returns_lawful : Lawful AtCr list_returns
list_returns_lawful =
    flag_then_lawful 32 list_returns_after
    (then_lawful (keyword_lawful return_table)
    (λ name. ended_lawful (octet_lawful 32) (λ u. ended_lawful (listed_or_none_lawful is_astring_char refl (then_opens _ (keyword_opens list_return_table)) list_return_lawful) (λ all. give_lawful _)))
    (λ name. octet_then_follows _ 32 (λ rest. refl)))
    (give_lawful _)
    (give_before _ (cr_stops (λ b. eqb b 32) refl))

list_returns_follow : MayFollow AtEnd AtCr list_returns
list_returns_follow = flag_then_follows 32 list_returns_after (λ rest. refl) (give_before _ cr_ends)

pub list_lawful : Lawful AtCr list
list_lawful =
    ended_lawful (octet_lawful 32) (λ u.
    then_lawful selections_lawful
    (λ selection. then_lawful astring_lawful
    (λ reference. ended_lawful (octet_lawful 32) (λ v.
    then_lawful patterns_lawful
    (λ wanted. then_lawful list_returns_lawful (λ returns. give_lawful _) (λ returns. give_follows _))
    (λ wanted. then_follows list_returns_follow (λ returns. give_follows _))))
    (λ reference. octet_then_follows _ 32 (λ rest. refl)))
    (λ selection. opens_follows (then_opens _ astring_opens) (λ b rest h. differs begins_astring 40 no_astring b h)))
