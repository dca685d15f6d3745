use Rattle.std.proofs.Common.{sym}
use Rattle.imap_rev1_frames.proofs.Sections.{line_within, out_more, asked_more, shrinks}
use Rattle.imap_rev1_frames.proofs.writing.Writing.push_lines.Goals as goal

pub push_section-requires-clause-within : goal.push_section-requires-clause-within
push_section-requires-clause-within c = line_within c.loop-len.rest.now c.in-Some.len (sym c.in-Some.ensures)

pub loop-len-smaller : goal.loop-len-smaller
loop-len-smaller c = shrinks c.loop-len.rest.now c.split_at.result.1.now c.in-Some.len c.in_ok-count.count c.split_at.ensures.back (sym c.in-Some.ensures) c.in_ok-count.ensures.count c.in_ok-count.ensures.within

pub loop-len-preserved : goal.loop-len-preserved
loop-len-preserved c =
    let rest = c.loop-len.rest.now in
    let old = c.loop-len.self in
    let new = c.push_section.new.self in
    let now = c.in_ok-count.ensures in
    record {
      out = out_more old.scan new.scan rest c.split_at.result.1.now c.in-Some.len c.in_ok-count.count c.split_at.ensures.back (sym c.in-Some.ensures) now.count now.scan old.out.items new.out.items _ now.out c.loop-len.invariant.out;
      asked = asked_more old.scan new.scan rest c.split_at.result.1.now c.in-Some.len c.in_ok-count.count c.split_at.ensures.back (sym c.in-Some.ensures) now.count now.scan old.asked.items new.asked.items _ now.asked c.loop-len.invariant.asked;
      word = now.word;
    }
