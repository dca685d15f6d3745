use Rattle.std.proofs.Common.{string_bytes, true≢false, sym, ap, subst, ◌∙◌}
use Rattle.imap_message_tables.specs.Split.{IsPlain}
use Rattle.imap_message_tables.proofs.Texts.{all_it}
use Rattle.imap_message_tables.proofs.plain.are_plain.Goals as goal

pub returns-then-not-is_plain : goal.returns-then-not-is_plain
returns-then-not-is_plain c = (
  λ h. absurd (true≢false (sym h)),
  λ all. sym c.if-not-is_plain.true
      ∙ c.is_plain.ensures.1 (subst IsPlain (ap string_bytes (sym c.word-item.is) ∙ sym c.as_str.ensures.value)
      (all_it string_bytes IsPlain c.args.words.now c.loop-word.word-index c.word-item.result c.loop-word-test.true all)),
)
