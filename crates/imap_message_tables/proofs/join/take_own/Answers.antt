use Rattle.std.proofs.Common.{◌≡◌, [], ◌∷◌, ◌++◌, true, false, append-nil, map, reverse, string_bytes, sym, ap, ◌∙◌}
use Rattle.std.proofs.lemmas.List.{map-append}
use Rattle.imap_message_tables.specs.Joining.{head_key, texts}
use Rattle.imap_message_tables.specs.Taking.{is_first}
use Rattle.imap_message_tables.specs.Up.{own_of, rest_of}
use Rattle.imap_message_tables.proofs.Ends.{own_end, own_next, rest_end, rest_next}
use Rattle.imap_message_tables.proofs.join.take_own.Goals as goal

pub loop-words-preserved : goal.loop-words-preserved
loop-words-preserved c =
    let l = c.loop-words in
    let k = head_key c.args.head.now in
    let word = c.in-Some.word in
    let left = c.pop.new.self.items in
    let all = reverse c.args.words.now.items in
    let is : is_first k (reverse l.words.items) ≡ true = ap (λ ws. is_first k (reverse ws)) (sym c.as_slice.ensures.value) ∙ sym c.is_own.ensures ∙ c.loop-words-test.true in
    let put : map string_bytes c.push.new.self.items ≡ map string_bytes l.own.items ++ string_bytes word.word ∷ [] = ap (map string_bytes) c.in_ok-push-in-Some.ensures.items ∙ map-append string_bytes l.own.items (word.word ∷ []) in
    record {
      own = own_next k l.words.items left word (map string_bytes l.own.items) (map string_bytes c.push.new.self.items) (texts (own_of k all)) c.in-Some.ensures.items is put l.invariant.own;
      rest = rest_next k l.words.items left word (rest_of k all) c.in-Some.ensures.items is l.invariant.rest;
    }

pub returns-clause-own : goal.returns-clause-own
returns-clause-own c =
    let l = c.loop-words in
    let k = head_key c.args.head.now in
    let ws = reverse l.words.items in
    let done = map string_bytes l.own.items in
    let off : is_first k ws ≡ false = ap (λ xs. is_first k (reverse xs)) (sym c.as_slice.ensures.value) ∙ sym c.is_own.ensures ∙ c.loop-words-test.false in
    sym (append-nil done) ∙ ap (λ xs. done ++ texts xs) (sym (own_end k ws off)) ∙ l.invariant.own

pub returns-clause-rest : goal.returns-clause-rest
returns-clause-rest c =
    let l = c.loop-words in
    let k = head_key c.args.head.now in
    let ws = reverse l.words.items in
    let off : is_first k ws ≡ false = ap (λ xs. is_first k (reverse xs)) (sym c.as_slice.ensures.value) ∙ sym c.is_own.ensures ∙ c.loop-words-test.false in
    sym (rest_end k ws off) ∙ l.invariant.rest
