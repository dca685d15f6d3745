use Rattle.std.proofs.Common.{◌≡◌, ◌<◌, ◌≤◌, false, ◌∷◌, length, reverse, arith, sym, ap, subst, ◌∙◌}
use Rattle.imap_message_tables.specs.Joining.{Fit, head_key}
use Rattle.imap_message_tables.specs.Taking.{Zips, is_first_head}
use Rattle.imap_message_tables.specs.Up.{AreUp}
use Rattle.imap_message_tables.proofs.Ends.{fits_next, heads_apart, left_body, left_word, none_left, some_left, turned, up_next, zips_end, zips_next}
use Rattle.imap_message_tables.proofs.join.zip_all.Goals as goal

pub heads-preserved : goal.heads-preserved
heads-preserved c =
    let h = c.in-Some.head in
    let hs = reverse c.take_last.new.rows.items in
    let bs = reverse c.heads.bodies.items in
    let ws = reverse c.heads.words.items in
    let bodies = reverse c.take_message.new.bodies.items in
    let words = reverse c.take_message.new.words.items in
    let t : reverse c.heads.heads.items ≡ h ∷ hs = turned c.heads.heads.items c.take_last.new.rows.items h c.in-Some.ensures.items in
    let heads_up : AreUp head_key (h ∷ hs) = subst (AreUp head_key) t c.heads.invariant.heads_up in
    let off : is_first_head (head_key h) hs ≡ false = sym (ap (λ l. is_first_head (head_key h) (reverse l)) c.as_slice.ensures.value) ∙ sym c.is_doubled.ensures ∙ c.if-is_doubled.false in
    let taken = rw c.in-Some-2.is at c.in_ok-message.ensures in
    let ups = up_next h bs bodies ws words c.in-Some-2.message taken c.heads.invariant.bodies_up c.heads.invariant.words_up in
    record {
      heads_up = heads_up.1;
      bodies_up = ups.0;
      words_up = ups.1;
      fits = λ f. fits_next h hs bs bodies ws words c.in-Some-2.message taken heads_up c.heads.invariant.bodies_up c.heads.invariant.words_up (subst (λ l. Fit l bs ws) t (c.heads.invariant.fits f));
      zips = zips_next h hs bs bodies ws words c.in-Some-2.message c.heads.messages.items c.push.new.self.items (Zips (reverse c.args.heads.now.items) (reverse c.args.bodies.now.items) (reverse c.args.words.now.items))
          (heads_apart h hs heads_up off) taken c.in_ok-push.ensures.items (λ ms z. c.heads.invariant.zips ms (subst (λ l. Zips l bs ws ms) (sym t) z));
    }

pub returns-then-len-gt0 : goal.returns-then-len-gt0
returns-then-len-gt0 c = λ f.
    let low : length c.heads.heads.items ≤ 0 = omega (arith, c.in_default.ensures.cases.0) in
    let many : 0 < length c.heads.bodies.items = omega (arith, c.len-2.ensures, c.if-len-gt0.true) in
    left_body (reverse c.heads.bodies.items) (reverse c.heads.words.items) (some_left c.heads.bodies.items many)
    (subst (λ l. Fit l (reverse c.heads.bodies.items) (reverse c.heads.words.items)) (none_left c.heads.heads.items low) (c.heads.invariant.fits f))

pub returns-then-len-gt0-2 : goal.returns-then-len-gt0-2
returns-then-len-gt0-2 c = λ f.
    let low : length c.heads.heads.items ≤ 0 = omega (arith, c.in_default.ensures.cases.0) in
    let many : 0 < length c.heads.words.items = omega (arith, c.len-3.ensures, c.if-len-gt0-2.true) in
    left_word (reverse c.heads.bodies.items) (reverse c.heads.words.items) (some_left c.heads.words.items many)
    (subst (λ l. Fit l (reverse c.heads.bodies.items) (reverse c.heads.words.items)) (none_left c.heads.heads.items low) (c.heads.invariant.fits f))

pub returns : goal.returns
returns c =
    let low : length c.heads.heads.items ≤ 0 = omega (arith, c.in_default.ensures.cases.0) in
    let few : length c.heads.bodies.items ≤ 0 = omega (arith, c.len-2.ensures, c.if-len-gt0.false) in
    let least : length c.heads.words.items ≤ 0 = omega (arith, c.len-3.ensures, c.if-len-gt0-2.false) in
    zips_end (reverse c.heads.heads.items) (reverse c.heads.bodies.items) (reverse c.heads.words.items) c.heads.messages.items
    (Zips (reverse c.args.heads.now.items) (reverse c.args.bodies.now.items) (reverse c.args.words.now.items))
    (none_left c.heads.heads.items low) (none_left c.heads.bodies.items few) (none_left c.heads.words.items least) c.heads.invariant.zips
