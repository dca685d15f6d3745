use Rattle.std.proofs.Common.{map, string_bytes, true≢false, sym, subst, ◌∙◌}
use Rattle.std.specs.List.{AllByRecursion}
use Rattle.std.proofs.lemmas.List.Sorted.{IsPermutation-map}
use Rattle.imap_message_tables.specs.Split.{AreRising, IsPlain}
use Rattle.imap_message_tables.proofs.Texts.{sorted_words, weak_from}
use Rattle.imap_message_tables.proofs.plain.in_order.Goals as goal

pub returns-then-not-rise : goal.returns-then-not-rise
returns-then-not-rise c = λ ts are.
    let w = sorted_words (map string_bytes c.args.own.items) (map string_bytes c.sort_unstable.new.self.items) ts
    (IsPermutation-map string_bytes c.args.own.items c.sort_unstable.new.self.items c.sort_unstable.ensures.permutation)
    (weak_from string_bytes c.sort_unstable.new.self.items c.sort_unstable.ensures.sorted) are in
    true≢false (sym (c.rise.ensures.1 (subst (λ l. AreRising (map string_bytes l)) (sym c.as_slice.ensures.value) w.rising)) ∙ c.if-not-rise.true)

pub returns-then-not-are_plain : goal.returns-then-not-are_plain
returns-then-not-are_plain c = λ ts are.
    let w = sorted_words (map string_bytes c.args.own.items) (map string_bytes c.sort_unstable.new.self.items) ts
    (IsPermutation-map string_bytes c.args.own.items c.sort_unstable.new.self.items c.sort_unstable.ensures.permutation)
    (weak_from string_bytes c.sort_unstable.new.self.items c.sort_unstable.ensures.sorted) are in
    true≢false (sym (c.are_plain.ensures.1 (subst (λ l. AllByRecursion IsPlain (map string_bytes l)) (sym c.as_slice-2.ensures.value) w.plain)) ∙ c.if-not-are_plain.true)

pub returns : goal.returns
returns c = record {
  are = record {
    rising = subst (λ l. AreRising (map string_bytes l)) c.as_slice.ensures.value (c.rise.ensures.0 c.if-not-rise.false);
    plain = subst (λ l. AllByRecursion IsPlain (map string_bytes l)) c.as_slice-2.ensures.value (c.are_plain.ensures.0 c.if-not-are_plain.false);
  };
  same = IsPermutation-map string_bytes c.args.own.items c.sort_unstable.new.self.items c.sort_unstable.ensures.permutation;
}
