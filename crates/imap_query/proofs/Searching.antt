-- The laws of SEARCH.
use Rattle.std.proofs.Common.{◌≡◌, ◌≢◌, ℕ, zero, suc, Bool, true, false, eqb, ◌==◌, List, [], ◌∷◌, ◌++◌, Option, Some, None, refl, sym, ap, subst, ◌∙◌, append_assoc, arith, inl, inr}
use Rattle.std.specs.Prelude.{codes}
use Rattle.std.specs.Char.{is_ascii_alphabetic}
use Rattle.std.specs.Str.{str_eq_ignore_ascii_case, str_to_ascii_lowercase, bytes_eq}
use Rattle.std.proofs.lemmas.Bool.Decides.{nat_tests}
use Rattle.std.proofs.lemmas.Option.{some_pair_parts}
use Rattle.imap_query.specs.Searching.{max_key_levels}
use Rattle.imap_query.specs.declared.search.SearchReturn.{SearchReturn}
use Rattle.imap_query.specs.declared.search_word.SearchWord.{SearchWord}
use Rattle.imap_query.specs.declared.search_word.SearchWord.TheVariants as word
use Rattle.imap_syntax.specs.Rule.{Rule, ◌>>=◌, some_read, keyword, separated, IsSeparated, ConsistsOf}
use Rattle.imap_syntax.specs.First.{by_first}
use Rattle.imap_syntax.specs.Lexical.{is_astring_char, is_atom_char}
use Rattle.imap_syntax.specs.Sets.{begins_set}
use Rattle.imap_query.specs.SearchWords.{search_name}
use Rattle.imap_query.specs.Keys.{Token}
use Rattle.imap_query.specs.Searching.{IsWordFlag, word_flag_by, word_flag_read, word_flag, key, returns_behind, search_returns, charset_name, charset_behind, search_charset, search_keys, search}
use Rattle.imap_syntax.proofs.RuleLaws.{Anything, StopsAt, Lawful, MayFollow, and_then_some, ended_lawful, then_lawful, then_follows, give_lawful, give_follows, octet_lawful, octet_then_follows, some_of_lawful, some_read-whole}
use Rattle.imap_syntax.proofs.Opens.{Opens, octet_opens, then_opens, or_apart, opens_follows}
use Rattle.imap_syntax.proofs.Lists.{fail_follows}
use Rattle.imap_syntax.proofs.Words.{IsTable, keyword_lawful, spelt_passes, passes_alike, filled_alike, same_bytes}
use Rattle.imap_syntax.proofs.Tables.{either_case_letter, consists_from}
use Rattle.imap_query.proofs.Tables.{search_table, search_return_table}
use Rattle.imap_syntax.proofs.Strings.{by_test, quoted_lawful}
use Rattle.imap_syntax.proofs.Ends.{AtCr, AtEnd, cr_ends, cr_stops, end_stops, before, give_before, keyword_opens, items_lawful, listed_or_none_lawful}
use Rattle.imap_query.proofs.KeyLaws.{behind_follows, set_opens, group_opens, key_lawful}

-- ---- a word, or nothing

-- this word doesn't come next
abbrev NotWord : List ℕ → List ℕ → Type 0
NotWord text rest = word_flag_read text rest ≡ Some (false, rest)

flag_sound : (text input : List ℕ) (found : Option (List ℕ × List ℕ)) (v : Bool) (rest : List ℕ) → some_read is_ascii_alphabetic input ≡ found → word_flag_by text input found ≡ Some (v, rest) → (front : List ℕ) × IsWordFlag text v front × (input ≡ front ++ rest)
flag_sound text input None v rest e h = let g = some_pair_parts false v input rest h in ([], subst (λ (w : Bool). IsWordFlag text w []) g.0 refl, g.1)
flag_sound text input (Some found) v rest e h =
    elim (by_test (str_eq_ignore_ascii_case found.0 text) (Some (true, found.1)) (Some (false, input)) _ h) [
      | inl same ↦
          let g = some_pair_parts true v found.1 rest same.1 in
          let f = (some_of_lawful is_ascii_alphabetic).sound input found.0 found.1 e in
          (found.0, subst (λ (w : Bool). IsWordFlag text w found.0) g.0 same.0, f.2 ∙ ap (λ (t : List ℕ). t ++ found.1) f.1.0 ∙ ap (λ (t : List ℕ). found.0 ++ t) g.1)
      | inr other ↦ let g = some_pair_parts false v input rest other.1 in ([], subst (λ (w : Bool). IsWordFlag text w []) g.0 refl, g.1)
    ]

-- what spells the word is read whole
whole_word : (text front rest : List ℕ) → ConsistsOf is_ascii_alphabetic text → text ≢ [] → str_eq_ignore_ascii_case front text ≡ true → StopsAt is_ascii_alphabetic rest → some_read is_ascii_alphabetic (front ++ rest) ≡ Some (front, rest)
whole_word text front rest letters filled h n =
    let same : str_to_ascii_lowercase front ≡ str_to_ascii_lowercase text = same_bytes _ _ h in
    some_read-whole is_ascii_alphabetic front rest (passes_alike is_ascii_alphabetic either_case_letter front text same letters) (filled_alike front text same filled) n

by_word : {B : Type 0} {After : List ℕ → Type 0} (q : Bool → Rule B) → Lawful After (q true) → Lawful After (q false) → (v : Bool) → Lawful After (q v)
by_word q held failed true = held
by_word q held failed false = failed

word_then_complete : {B : Type 0} {After : List ℕ → Type 0} (text : List ℕ) (q : Bool → Rule B) → ConsistsOf is_ascii_alphabetic text → text ≢ [] → Lawful After (q true) → MayFollow (StopsAt is_ascii_alphabetic) After (q true) → Lawful After (q false) → MayFollow (NotWord text) After (q false)
    → (v : Bool) (front back : List ℕ) (x : B) (rest : List ℕ) → IsWordFlag text v front → (q v).spells x back → After rest → (word_flag text >>= q).read (front ++ (back ++ rest)) ≡ Some (x, rest)
word_then_complete text q letters filled held stops failed not true front back x rest hf hb n =
    rw (whole_word text front (back ++ rest) letters filled hf (stops.stands x back rest hb n), hf) (held.complete x back rest hb n)
word_then_complete text q letters filled held stops failed not false front back x rest hf hb n =
    rw hf (rw (not.stands x back rest hb n) (failed.complete x back rest hb n))

word_then_lawful : {B : Type 0} {After : List ℕ → Type 0} (text : List ℕ) (q : Bool → Rule B) → ConsistsOf is_ascii_alphabetic text → text ≢ [] → Lawful After (q true) → MayFollow (StopsAt is_ascii_alphabetic) After (q true) → Lawful After (q false) → MayFollow (NotWord text) After (q false) → Lawful After (word_flag text >>= q)
word_then_lawful text q letters filled held stops failed not = record {
  sound = λ input y rest e.
      let x = and_then_some (λ found. (q found.0).read found.1) (word_flag_read text input) (y, rest) e in
      let f = flag_sound text input (some_read is_ascii_alphabetic input) x.0.0 x.0.1 refl x.1 in
      let g = (by_word q held failed x.0.0).sound x.0.1 y rest x.2 in
      (f.0 ++ g.0, (x.0.0, f.0, g.0, f.1, g.1, refl), f.2 ∙ ap (λ (t : List ℕ). f.0 ++ t) g.2 ∙ sym (append_assoc f.0 g.0 rest));
  complete = λ x front rest h n. ap (word_flag text >>= q).read (ap (λ (t : List ℕ). t ++ rest) h.5 ∙ append_assoc h.1 h.2 rest) ∙ word_then_complete text q letters filled held stops failed not h.0 h.1 h.2 x rest h.3 h.4 n;
}

-- ---- where no such word comes next

no_letter : {A : Type 0} {After : List ℕ → Type 0} {test : ℕ → Bool} {p : Rule A} (text : List ℕ) → Opens test p → ((b : ℕ) → test b ≡ true → is_ascii_alphabetic b ≡ false) → MayFollow (NotWord text) After p
no_letter text o other = opens_follows o (λ b rest h. let k : is_ascii_alphabetic b ≡ false = other b h in rw k refl)

other_word : {V : Type 0} {name : V → List ℕ} {all : List V} (text : List ℕ) → IsTable is_ascii_alphabetic name all → ((v : V) → str_eq_ignore_ascii_case (name v) text ≡ false) → MayFollow (NotWord text) (StopsAt is_ascii_alphabetic) (keyword is_ascii_alphabetic name all)
other_word {name = name} text table other = record {
  stands = λ v front rest h n.
      let w = spelt_passes table v front h in
      let same : str_to_ascii_lowercase front ≡ str_to_ascii_lowercase (name v) = same_bytes _ _ h in
      let differ : str_eq_ignore_ascii_case front text ≡ false = ap (λ (t : List ℕ). bytes_eq t (str_to_ascii_lowercase text)) same ∙ other v in
      rw (some_read-whole is_ascii_alphabetic front rest w.0 w.1 n, differ) refl;
}

by_first_follows : {A : Type 0} {Before After : List ℕ → Type 0} {p q : Rule A} (test : ℕ → Bool) → MayFollow Before After p → MayFollow Before After q → MayFollow Before After (by_first test p q)
by_first_follows test fp fq = record { stands = λ a text rest h n. elim h [ inl hp ↦ fp.stands a text rest hp.1 n | inr hq ↦ fq.stands a text rest hq.1 n ] }

separated_stands : {A : Type 0} {Before After : List ℕ → Type 0} {p : Rule A} (b : ℕ) → MayFollow Before After p → ((rest : List ℕ) → After (b ∷ rest)) → (all : List A) (text rest : List ℕ) → IsSeparated b p.spells all text → After rest → Before (text ++ rest)
separated_stands b f may [] text rest h n = absurd h
separated_stands b f may (a ∷ []) text rest h n = f.stands a text rest h n
separated_stands {Before = Before} b f may (a ∷ c ∷ others) text rest h n =
    subst Before (sym (ap (λ (t : List ℕ). t ++ rest) h.4 ∙ append_assoc h.0 (b ∷ h.1) rest)) (f.stands a h.0 (b ∷ (h.1 ++ rest)) h.2 (may (h.1 ++ rest)))

separated_follows : {A : Type 0} {Before After : List ℕ → Type 0} {p : Rule A} (b : ℕ) → MayFollow Before After p → ((rest : List ℕ) → After (b ∷ rest)) → MayFollow Before After (separated b p)
separated_follows b f may = record { stands = separated_stands b f may }

set_no_letter : (b : ℕ) → begins_set b ≡ true → is_ascii_alphabetic b ≡ false
set_no_letter b h = grind (arith, nat_tests)

parenthesis_no_letter : (b : ℕ) → (b == 40) ≡ true → is_ascii_alphabetic b ≡ false
parenthesis_no_letter b h = grind (arith, nat_tests)

-- the text is the word of no key
abbrev IsNoKey : List ℕ → Type 0
IsNoKey text = (v : SearchWord) → str_eq_ignore_ascii_case (search_name v) text ≡ false

key_follows : (text : List ℕ) → IsNoKey text → (levels : ℕ) → MayFollow (NotWord text) AtEnd (key levels)
unfolding key
key_follows text other zero = fail_follows
key_follows text other (suc levels) =
    by_first_follows (λ b. b == 40) (no_letter text (group_opens (key levels)) parenthesis_no_letter)
    (by_first_follows begins_set (no_letter text set_opens set_no_letter)
    (then_follows (other_word text search_table other) (behind_follows (key levels))))

keys_follow : (text : List ℕ) → IsNoKey text → MayFollow (NotWord text) AtEnd (separated 32 (key max_key_levels))
keys_follow text other = separated_follows 32 (key_follows text other max_key_levels) (λ rest. refl)

-- ---- the command

abbrev return_text : List ℕ
return_text = codes "RETURN"

abbrev charset_text : List ℕ
charset_text = codes "CHARSET"

no_return : IsNoKey return_text
no_return word.All = refl
no_return _ = refl

no_charset : IsNoKey charset_text
no_charset word.All = refl
no_charset _ = refl

return_letters : ConsistsOf is_ascii_alphabetic return_text
return_letters = consists_from is_ascii_alphabetic return_text refl

charset_letters : ConsistsOf is_ascii_alphabetic charset_text
charset_letters = consists_from is_ascii_alphabetic charset_text refl

returns_lawful : Lawful (NotWord return_text) search_returns
returns_lawful =
    word_then_lawful return_text returns_behind return_letters (λ e. absurd cc)
    (ended_lawful (octet_lawful 32) (λ u.
    ended_lawful (listed_or_none_lawful is_astring_char refl (keyword_opens search_return_table) (before (end_stops is_astring_char refl refl refl) (keyword_lawful search_return_table)))
    (λ all. ended_lawful (octet_lawful 32) (λ v. give_lawful _))))
    (octet_then_follows _ 32 (λ rest. refl))
    (give_lawful _)
    (give_follows _)

charset_name_lawful : Lawful (StopsAt is_atom_char) charset_name
charset_name_lawful =
    or_apart (some_of_lawful is_atom_char) quoted_lawful (then_opens _ (octet_opens (λ b. eqb b 34) 34 refl)) (λ b rest h. let k : is_atom_char b ≡ false = quote_no_atom b h in rw k refl)
  where
    quote_no_atom : (b : ℕ) → eqb b 34 ≡ true → is_atom_char b ≡ false
    quote_no_atom b h = grind (arith, nat_tests)

charset_lawful : Lawful (NotWord charset_text) search_charset
charset_lawful =
    word_then_lawful charset_text charset_behind charset_letters (λ e. absurd cc)
    (ended_lawful (octet_lawful 32) (λ u. then_lawful charset_name_lawful (λ name. ended_lawful (octet_lawful 32) (λ v. give_lawful _)) (λ name. octet_then_follows _ 32 (λ rest. refl))))
    (octet_then_follows _ 32 (λ rest. refl))
    (give_lawful _)
    (give_follows _)

charset_stops : MayFollow (StopsAt is_ascii_alphabetic) Anything (charset_behind true)
charset_stops = octet_then_follows _ 32 (λ rest. refl)

charset_stands : (v : Bool) (front back : List ℕ) (x : Option (List ℕ)) (rest : List ℕ) → IsWordFlag charset_text v front → (charset_behind v).spells x back → NotWord return_text rest → NotWord return_text (front ++ (back ++ rest))
charset_stands true front back x rest hf hb n =
    let same : str_to_ascii_lowercase front ≡ str_to_ascii_lowercase charset_text = same_bytes _ _ hf in
    let differ : str_eq_ignore_ascii_case front return_text ≡ false = ap (λ (t : List ℕ). bytes_eq t (str_to_ascii_lowercase return_text)) same in
    rw (whole_word charset_text front (back ++ rest) charset_letters (λ e. absurd cc) hf (charset_stops.stands x back rest hb tt), differ) refl
charset_stands false front back x rest hf hb n = subst (λ (t : List ℕ). NotWord return_text (t ++ (back ++ rest))) (sym hf) (subst (λ (t : List ℕ). NotWord return_text (t ++ rest)) (sym hb.1) n)

charset_follows : MayFollow (NotWord return_text) (NotWord return_text) search_charset
charset_follows = record {
  stands = λ x text rest h n. subst (NotWord return_text) (sym (ap (λ (t : List ℕ). t ++ rest) h.5 ∙ append_assoc h.1 h.2 rest)) (charset_stands h.0 h.1 h.2 x rest h.3 h.4 n);
}

search_keys_lawful : Lawful AtCr search_keys
search_keys_lawful = then_lawful (items_lawful (key_lawful max_key_levels)) (λ keys. give_lawful _) (λ keys. give_before _ (λ rest n. (cr_ends rest n, cr_stops (λ b. eqb b 32) refl rest n)))

search_keys_follow : (text : List ℕ) → IsNoKey text → MayFollow (NotWord text) AtCr search_keys
search_keys_follow text other = then_follows (keys_follow text other) (λ keys. give_before _ cr_ends)

pub search_lawful : {A : Type 0} (make : List SearchReturn → Option (List ℕ) → List Token → A) → Lawful AtCr (search make)
search_lawful make =
    ended_lawful (octet_lawful 32) (λ u.
    then_lawful returns_lawful
    (λ returns. then_lawful charset_lawful (λ charset. then_lawful search_keys_lawful (λ keys. give_lawful _) (λ keys. give_follows _)) (λ charset. then_follows (search_keys_follow charset_text no_charset) (λ keys. give_follows _)))
    (λ returns. then_follows charset_follows (λ charset. then_follows (search_keys_follow return_text no_return) (λ keys. give_follows _))))
