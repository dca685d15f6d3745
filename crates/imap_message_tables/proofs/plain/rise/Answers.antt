use Rattle.std.proofs.Common.{◌≡◌, ◌-◌, ◌<◌, length, get_or, string_bytes, nat_cmp, Less, true≢false, arith, sym, ap, subst, ◌∙◌}
use Rattle.std.specs.Cmp.Lexicographic.{slice_cmp}
use Rattle.imap_message_tables.proofs.Texts.{rising_at, rising_more, same_item}
use Rattle.imap_message_tables.proofs.plain.rise.Goals as goal

pub returns-then-not-is_before : goal.returns-then-not-is_before
returns-then-not-is_before c = (
  λ h. absurd (true≢false (sym h)),
  λ rising.
      let low : c.loop-i.i - 1 < length c.args.words.now = omega (arith, c.loop-i-test.true, c.loop-i.auto.i) in
      let here = c.index-words-i-in-loop-i.result in
      let first = sym c.as_str.ensures.value in
      let second = sym c.as_str-in-loop-i.ensures.value in
      sym c.if-not-is_before.true
      ∙ c.is_before.ensures.1 (subst (λ w. slice_cmp nat_cmp w c.as_str-in-loop-i.result.now ≡ Less) (ap string_bytes (same_item c.args.words.now (c.loop-i.i - 1) here c.index-words-i.result low ∙ sym c.index-words-i.is) ∙ first)
      (subst (λ w. slice_cmp nat_cmp (string_bytes (get_or c.args.words.now (c.loop-i.i - 1) here)) w ≡ Less) (ap string_bytes (sym c.index-words-i-in-loop-i.is) ∙ second)
      (rising_at string_bytes c.args.words.now c.loop-i.i here c.loop-i.auto.i c.loop-i-test.true rising))),
)

pub loop-i-preserved : goal.loop-i-preserved
loop-i-preserved c =
    let low : c.loop-i.i - 1 < length c.args.words.now = omega (arith, c.loop-i-test.true, c.loop-i.auto.i) in
    let here = c.index-words-i-in-loop-i.result in
    rising_more string_bytes c.args.words.now c.loop-i.i here c.loop-i.auto.i c.loop-i-test.true c.loop-i.invariant
    (subst (λ w. slice_cmp nat_cmp (string_bytes (get_or c.args.words.now (c.loop-i.i - 1) here)) w ≡ Less) (c.as_str-in-loop-i.ensures.value ∙ ap string_bytes c.index-words-i-in-loop-i.is)
    (subst (λ w. slice_cmp nat_cmp w c.as_str-in-loop-i.result.now ≡ Less) (c.as_str.ensures.value ∙ ap string_bytes (c.index-words-i.is ∙ same_item c.args.words.now (c.loop-i.i - 1) c.index-words-i.result here low))
    (c.is_before.ensures.0 c.if-not-is_before.false)))
