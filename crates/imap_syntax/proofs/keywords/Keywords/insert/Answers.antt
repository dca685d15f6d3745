use Rattle.std.proofs.Common.{◌≡◌, ◌∙◌, ℕ, List, Err, Ok, ap, sym, subst, length, arith}
use Rattle.std.specs.List.{insert}
use Rattle.std.specs.Str.{str_to_ascii_lowercase}
use Rattle.imap_syntax.specs.Atoms.{IsAtom}
use Rattle.imap_syntax.specs.Keywords.{with_word, word_place, AreKeywords}
use Rattle.std.proofs.lemmas.Result.{on_ok_weaker}
use Rattle.imap_syntax.proofs.KeywordOrder.{place_there, place_for, words_put}
use Rattle.imap_syntax.proofs.keywords.Keywords.insert.Goals as goal

made_by : (word k : List ℕ) (ws copies new : List (List ℕ)) (i : ℕ) → word_place (str_to_ascii_lowercase word) ws ≡ Err i → copies ≡ ws → k ≡ str_to_ascii_lowercase word → new ≡ insert copies i k → new ≡ with_word word ws
made_by word k ws copies new i at had is made =
    made ∙ (λ j. insert (had j) i (is j)) ∙ sym (place_for (str_to_ascii_lowercase word) ws i at).1

pub insert-requires : goal.insert-requires
insert-requires c =
    let at : word_place (str_to_ascii_lowercase c.args.word.now) c.args.self.now ≡ Err c.in-Err.place
    = (λ i. word_place (sym (c.as_slice-2.ensures.octets ∙ c.in_ok-lower.ensures) i) (sym c.as_slice.ensures.words i)) ∙ sym c.place_of.ensures.place ∙ c.in-Err.is in
    let had : c.in_ok-words-in-Err.words.items ≡ c.args.self.now = c.in_ok-words-in-Err.ensures ∙ c.as_slice-in-Err.ensures.words in
    let within = (place_for (str_to_ascii_lowercase c.args.word.now) c.args.self.now c.in-Err.place at).0 in
    omega (arith, within, ap length had, c.in_ok-words-in-Err.words.ok.0)

pub set-requires : goal.set-requires
set-requires c =
    let at : word_place (str_to_ascii_lowercase c.args.word.now) c.args.self.now ≡ Err c.in-Err.place
    = (λ i. word_place (sym (c.as_slice-2.ensures.octets ∙ c.in_ok-lower.ensures) i) (sym c.as_slice.ensures.words i)) ∙ sym c.place_of.ensures.place ∙ c.in-Err.is in
    let had : c.in_ok-words-in-Err.words.items ≡ c.args.self.now = c.in_ok-words-in-Err.ensures ∙ c.as_slice-in-Err.ensures.words in
    let atom : IsAtom (str_to_ascii_lowercase c.args.word.now) = subst IsAtom (c.as_slice-2.ensures.octets ∙ c.in_ok-lower.ensures) c.as_slice-2.ensures.valid in
    let made : c.insert.new.self.items ≡ with_word c.args.word.now c.args.self.now = made_by c.args.word.now c.in_ok-lower.lower c.args.self.now c.in_ok-words-in-Err.words.items c.insert.new.self.items c.in-Err.place at had c.in_ok-lower.ensures c.in_ok-insert-in-Err.ensures.items in
    subst AreKeywords (sym made) (words_put c.args.word.now c.args.self.now atom c.as_slice.ensures.valid)

pub returns-in-Ok-clause-ok : goal.returns-in-Ok-clause-ok
returns-in-Ok-clause-ok c =
    let at : word_place (str_to_ascii_lowercase c.args.word.now) c.args.self.now ≡ Ok c.in-Ok.field-0
    = (λ i. word_place (sym (c.as_slice-2.ensures.octets ∙ c.in_ok-lower.ensures) i) (sym c.as_slice.ensures.words i)) ∙ sym c.place_of.ensures.place ∙ c.in-Ok.is in
    sym (place_there (str_to_ascii_lowercase c.args.word.now) c.args.self.now c.in-Ok.field-0 at)

pub returns-in_ok-insert-in-Err-clause-ok : goal.returns-in_ok-insert-in-Err-clause-ok
returns-in_ok-insert-in-Err-clause-ok c =
    let at : word_place (str_to_ascii_lowercase c.args.word.now) c.args.self.now ≡ Err c.in-Err.place
    = (λ i. word_place (sym (c.as_slice-2.ensures.octets ∙ c.in_ok-lower.ensures) i) (sym c.as_slice.ensures.words i)) ∙ sym c.place_of.ensures.place ∙ c.in-Err.is in
    let had : c.in_ok-words-in-Err.words.items ≡ c.args.self.now = c.in_ok-words-in-Err.ensures ∙ c.as_slice-in-Err.ensures.words in
    let made : c.insert.new.self.items ≡ with_word c.args.word.now c.args.self.now = made_by c.args.word.now c.in_ok-lower.lower c.args.self.now c.in_ok-words-in-Err.words.items c.insert.new.self.items c.in-Err.place at had c.in_ok-lower.ensures c.in_ok-insert-in-Err.ensures.items in
    on_ok_weaker {P = c.set.new.self ≡ c.insert.new.self.items} {Q = c.set.new.self ≡ with_word c.args.word.now c.args.self.now} c.set.result (λ e. e ∙ made) c.set.ensures.ok
