use Rattle.std.proofs.Common.{◌≡◌, ◌∙◌, ℕ, ap, refl, sym, take, true}
use Rattle.imap_rev1_frames.specs.Rewritten.{are_plain, line_text}
use Rattle.imap_rev1_frames.proofs.Pushes.{line_out, line_marks, line_scan}
use Rattle.imap_rev1_frames.proofs.writing.Writing.push_line.Goals as goal

pub returns-clause-out : goal.returns-clause-out
returns-clause-out c =
    let line = c.args.line.now in
    let octets = take c.saturating_sub.result line in
    let is : octets ≡ line_text line = ap (λ (n : ℕ). take n line) c.saturating_sub.ensures in
    let plain : are_plain octets ≡ true = sym c.are_plain.ensures ∙ c.if-not-are_plain.false in
    line_out line octets (record c.args.self.now { held = 0 }) c.push_text.new.self is c.requires refl plain c.in_ok-push_text.ensures c.end_word.new.self.out.items c.extend_from_slice-2.new.self.items c.in_ok-end_word.ensures.out c.in_ok-extend_from_slice.ensures.items

pub returns-clause-asked : goal.returns-clause-asked
returns-clause-asked c =
    let line = c.args.line.now in
    let octets = take c.saturating_sub.result line in
    let is : octets ≡ line_text line = ap (λ (n : ℕ). take n line) c.saturating_sub.ensures in
    let plain : are_plain octets ≡ true = sym c.are_plain.ensures ∙ c.if-not-are_plain.false in
    line_marks line octets (record c.args.self.now { held = 0 }) c.push_text.new.self is c.requires refl plain c.in_ok-push_text.ensures c.end_word.new.self.asked.items c.in_ok-end_word.ensures.asked

pub returns-clause-scan : goal.returns-clause-scan
returns-clause-scan c =
    let line = c.args.line.now in
    let octets = take c.saturating_sub.result line in
    let is : octets ≡ line_text line = ap (λ (n : ℕ). take n line) c.saturating_sub.ensures in
    let plain : are_plain octets ≡ true = sym c.are_plain.ensures ∙ c.if-not-are_plain.false in
    line_scan line octets (record c.args.self.now { held = 0 }) c.push_text.new.self is c.requires refl plain c.in_ok-push_text.ensures c.end_word.new.self.scan c.next_line-self.result c.in_ok-end_word.ensures.scan c.next_line-self.ensures
