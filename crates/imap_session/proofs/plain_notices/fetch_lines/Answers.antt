use Rattle.std.proofs.Common.{[], ◌+◌, drop, sym, ap, ◌∙◌, arith, get_or, refl}
use Rattle.imap_session.specs.Compared.{comparisons}
use Rattle.imap_session.specs.Notices.{fetch_lines}
use Rattle.imap_session.proofs.Walking.{next_there}
use Rattle.imap_session.proofs.Comparing.{gone_at, there_at, same_front, gone_fetches, gone_number, number_bound, there_fetches, there_number}
use Rattle.imap_session.proofs.plain_notices.fetch_lines.Goals as goal

pub push_changed-requires : goal.push_changed-requires
push_changed-requires c = next_there (get_or c.args.known.now c.loop-uid.uid-index 0) c.loop-uid.left (sym c.is_next.ensures ∙ c.if-is_next.true)

pub loop-uid-preserved-then-is_next : goal.loop-uid-preserved-then-is_next
loop-uid-preserved-then-is_next c =
    let at = c.loop-uid in
    let o = c.args.options.now in
    let there = there_at c.args.known.now at.uid-index (get_or c.args.known.now at.uid-index 0) at.left c.skip.new.self c.loop-uid-test.true refl (sym c.is_next.ensures ∙ c.if-is_next.true) c.skip.ensures in
    let cs = comparisons (drop (at.uid-index + 1) c.args.known.now) c.skip.new.self in
    record {
      lines = there_fetches o c.args.up_to at.number there.row cs at.lines.items (c.in_ok-push_changed.ensures there.row c.skip.new.self there.is) ∙ same_front at.lines.items (ap (fetch_lines o c.args.up_to [] at.number) (sym there.fate)) ∙ at.invariant.lines;
      number = there_number o.expunges at.number there.row cs (sym there.fate) ∙ at.invariant.number;
      few = omega (arith, at.invariant.few);
    }

pub loop-uid-preserved : goal.loop-uid-preserved
loop-uid-preserved c =
    let at = c.loop-uid in
    let o = c.args.options.now in
    let k = get_or c.args.known.now at.uid-index 0 in
    let gone = gone_at c.args.known.now at.uid-index (get_or c.args.known.now at.uid-index 0) at.left c.loop-uid-test.true refl (sym c.is_next.ensures ∙ c.if-is_next.false) in
    let cs = comparisons (drop (at.uid-index + 1) c.args.known.now) at.left in
    let after = c.number_after-number.ensures in
    record {
      lines = same_front at.lines.items (gone_fetches o c.args.up_to at.number c.number_after-number.result k cs after ∙ ap (fetch_lines o c.args.up_to [] at.number) (sym gone.fate)) ∙ at.invariant.lines;
      number = gone_number o.expunges at.number c.number_after-number.result k cs after (sym gone.fate) ∙ at.invariant.number;
      few = let most = number_bound o.expunges at.number c.number_after-number.result after in omega (arith, most, at.invariant.few);
    }
