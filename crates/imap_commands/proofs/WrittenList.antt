-- The arguments of LIST are written as they are spelt.
use Rattle.std.proofs.Common.{◌≡◌, ℕ, Bool, true, false, ◌&&◌, List, [], ◌∷◌, ◌++◌, codes, Option, Some, None, refl, sym, ◌∙◌, arith}
use Rattle.std.specs.List.{list_all}
use Rattle.std.proofs.lemmas.Bool.Decides.{nat_tests}
use Rattle.std.proofs.lemmas.List.{append-nil}
use Rattle.imap_commands.specs.declared.command.Command.{Command}
use Rattle.imap_commands.specs.declared.command.Command.TheVariants as command
use Rattle.imap_query.proofs.WrittenStatus.{status_item_writes}
use Rattle.imap_query.specs.Status.{status_item}
use Rattle.imap_commands.specs.declared.commands.list.Selection.{Selection}
use Rattle.imap_commands.specs.declared.commands.list.ListReturn.{ListReturn}
use Rattle.imap_commands.specs.declared.commands.list.ListReturn.TheVariants as told
use Rattle.imap_commands.specs.declared.commands.list.ListReturnWord.{ListReturnWord}
use Rattle.imap_commands.specs.declared.commands.list.ListReturnWord.TheVariants as word
use Rattle.imap_commands.specs.declared.commands.list.ReturnWord.TheVariants.{Return}
use Rattle.imap_commands.specs.declared.commands.list.Patterns.{Patterns}
use Rattle.imap_commands.specs.declared.commands.list.Patterns.TheVariants.{One, Many}
use Rattle.imap_commands.specs.declared.commands.list.TheConstants.{SELECTIONS}
use Rattle.imap_syntax.specs.Rule as rule
use Rattle.imap_syntax.specs.Rule.{give, when, ◌>>=◌}
use Rattle.imap_syntax.specs.Lexical as lexical
use Rattle.imap_syntax.specs.Lexical.{is_astring_char}
use Rattle.imap_query.specs.StatusWords.{status_name}
use Rattle.imap_commands.specs.commands.List.{selection_name}
use Rattle.imap_commands.specs.commands.List as list_rules
use Rattle.imap_commands.specs.commands.List.{may_be_selected, is_list_char}
use Rattle.imap_syntax.specs.Writing as writing
use Rattle.imap_syntax.specs.Writing.{separated, listed, listed_or_none}
use Rattle.imap_syntax.specs.Written.{is_unquotable, string, astring}
use Rattle.imap_commands.specs.commands.List.{pattern_writing, selection_fits, selection_text, patterns_fit, patterns_text, return_fits, return_text, list_return_writing, returns_fit, returns_text, list_fits, list_text}
use Rattle.imap_syntax.proofs.Writing.{Writes, both_true, both, separated_writes, listed_writes, end_text, listed_end_made, listed_or_none_writes, word_writes}
use Rattle.imap_syntax.proofs.Written.{astring_writes, bare_or_string_writes}

-- ---- selections

pub each_word : (all : List Selection) → list_all (λ w. true) all ≡ true
each_word [] = refl
each_word (w ∷ others) = each_word others

selections_made : (selection : Option (List Selection)) → selection_fits selection ≡ true → list_rules.selections.spells selection (selection_text selection)
selections_made None h = (false, [], [], refl, (refl, refl), refl)
selections_made (Some all) h =
    let names = writing.word selection_name in
    let shown = end_text names all in
    let words = listed_end_made (rule.keyword is_astring_char selection_name SELECTIONS) names (word_writes is_astring_char selection_name SELECTIONS) all (each_word all) in
    let close : (lexical.space >>= λ u. when (may_be_selected all) (Some all)).spells (Some all) (32 ∷ []) = (tt, 32 ∷ [], [], refl, (h, refl, refl), refl) in
    (true, 40 ∷ [], shown ++ 32 ∷ [], refl, (all, shown, 32 ∷ [], words, close, refl), refl)

selections_fit : (parenthesis : Bool) (selection : Option (List Selection)) (text : List ℕ) → (list_rules.selections_after parenthesis).spells selection text → selection_fits selection ≡ true
selections_fit false selection text h = rw (h.0) refl
selections_fit true selection text h = rw (h.4.4.1) h.4.4.0

-- ---- patterns

list_char_plain : (b : ℕ) → is_list_char b ≡ true → is_unquotable b ≡ false
list_char_plain b h = grind (arith, nat_tests)

pattern_writes : Writes list_rules.pattern pattern_writing
pattern_writes = bare_or_string_writes is_list_char list_char_plain

many_writes : Writes (rule.separated 32 list_rules.pattern) (separated 32 pattern_writing)
many_writes = separated_writes 32 list_rules.pattern pattern_writing pattern_writes

patterns_made : (wanted : Patterns) → patterns_fit wanted ≡ true → list_rules.patterns.spells wanted (patterns_text wanted)
patterns_made (One pattern) h =
    let text = pattern_writing.text pattern in
    (false, [], text, refl, (pattern, text, [], pattern_writes.made pattern h, (refl, refl), sym (append-nil text)), refl)
patterns_made (Many all) h =
    let text = (separated 32 pattern_writing).text all in
    let close : (rule.octet 41 >>= λ u. give (Many all)).spells (Many all) (41 ∷ []) = (tt, 41 ∷ [], [], refl, (refl, refl), refl) in
    (true, 40 ∷ [], text ++ 41 ∷ [], refl, (all, text, 41 ∷ [], many_writes.made all h, close, refl), refl)

patterns_after_fit : (parenthesis : Bool) (wanted : Patterns) (text : List ℕ) → (list_rules.patterns_after parenthesis).spells wanted text → patterns_fit wanted ≡ true
patterns_after_fit false wanted text h = rw (h.4.0) (pattern_writes.fits h.0 h.1 h.3)
patterns_after_fit true wanted text h = rw (h.4.4.0) (many_writes.fits h.0 h.1 h.3)

-- ---- return options

items_writes : Writes (rule.listed status_item) (listed (writing.word status_name))
items_writes = listed_writes status_item (writing.word status_name) status_item_writes

return_made : (r : ListReturn) → return_fits r ≡ true → list_rules.list_return.spells r (return_text r)
return_made told.Subscribed h = (word.Subscribed, codes "SUBSCRIBED", [], refl, (refl, refl), refl)
return_made told.Children h = (word.Children, codes "CHILDREN", [], refl, (refl, refl), refl)
return_made (told.Status items) h =
    let text = (listed (writing.word status_name)).text items in
    (word.Status, codes "STATUS", 32 ∷ text, refl, (tt, 32 ∷ [], text, refl, (items, text, [], items_writes.made items h, (refl, refl), sym (append-nil text)), refl), refl)

return_behind_fits : (w : ListReturnWord) (r : ListReturn) (text : List ℕ) → (list_rules.list_return_after w).spells r text → return_fits r ≡ true
return_behind_fits word.Children r text h = rw (h.0) refl
return_behind_fits word.Subscribed r text h = rw (h.0) refl
return_behind_fits word.Status r text h = rw (h.4.4.0) (items_writes.fits h.4.0 h.4.1 h.4.3)

return_writes : Writes list_rules.list_return list_return_writing
return_writes = record { made = return_made; fits = λ r text h. return_behind_fits h.0 r h.2 h.4 }

all_writes : Writes (rule.listed_or_none list_rules.list_return) (listed_or_none list_return_writing)
all_writes = listed_or_none_writes list_rules.list_return list_return_writing return_writes

returns_made : (returns : Option (List ListReturn)) → returns_fit returns ≡ true → list_rules.list_returns.spells returns (returns_text returns)
returns_made None h = (false, [], [], refl, (refl, refl), refl)
returns_made (Some all) h =
    let text = (listed_or_none list_return_writing).text all in
    (true, 32 ∷ [], codes "RETURN " ++ text, refl, (Return, codes "RETURN", 32 ∷ text, refl, (tt, 32 ∷ [], text, refl, (all, text, [], all_writes.made all h, (refl, refl), sym (append-nil text)), refl), refl), refl)

returns_behind_fit : (more : Bool) (returns : Option (List ListReturn)) (text : List ℕ) → (list_rules.list_returns_after more).spells returns text → returns_fit returns ≡ true
returns_behind_fit false returns text h = rw (h.0) refl
returns_behind_fit true returns text h = rw (h.4.4.4.0) (all_writes.fits h.4.4.0 h.4.4.1 h.4.4.3)

-- ---- LIST

pub list_made : (selection : Option (List Selection)) (reference : List ℕ) (wanted : Patterns) (returns : Option (List ListReturn)) → list_fits selection reference wanted returns ≡ true
    → list_rules.list.spells (command.List selection reference wanted returns) (list_text selection reference wanted returns)
list_made selection reference wanted returns h =
    let p = both_true (selection_fits selection) (string.fits reference && (patterns_fit wanted && returns_fit returns)) h in
    let q = both_true (string.fits reference) (patterns_fit wanted && returns_fit returns) p.1 in
    let r = both_true (patterns_fit wanted) (returns_fit returns) q.1 in
    let first = selection_text selection in
    let place = astring.text reference in
    let names = patterns_text wanted in
    let last = returns_text returns in (
      tt,
      32 ∷ [],
      first ++ (place ++ (32 ∷ (names ++ last))),
      refl,
      (
        selection,
        first,
        place ++ (32 ∷ (names ++ last)),
        selections_made selection p.0,
        (
          reference,
          place,
          32 ∷ (names ++ last),
          astring_writes.made reference q.0,
          (
            tt,
            32 ∷ [],
            names ++ last,
            refl,
            (wanted, names, last, patterns_made wanted r.0, (returns, last, [], returns_made returns r.1, (refl, refl), sym (append-nil last)), refl),
            refl,
          ),
          refl,
        ),
        refl,
      ),
      refl,
    )

-- what each list of arguments has, as a body
pub list_fits_all : (fits : Command → Bool) (b : Command) (text : List ℕ)
    → ((selection : Option (List Selection)) (reference : List ℕ) (wanted : Patterns) (returns : Option (List ListReturn)) → fits (command.List selection reference wanted returns) ≡ list_fits selection reference wanted returns)
    → list_rules.list.spells b text → fits b ≡ true
list_fits_all fits b text e h =
    let first = h.4 in
    let place = first.4 in
    let names = place.4.4 in
    let last = names.4 in
    rw (last.4.0) (e first.0 place.0 names.0 last.0 ∙ both _ _ (selections_fit first.3.0 first.0 first.3.2 first.3.4) (both _ _ (astring_writes.fits place.0 place.1 place.3) (both _ _ (patterns_after_fit names.3.0 names.0 names.3.2 names.3.4) (returns_behind_fit last.3.0 last.0 last.3.2 last.3.4))))
