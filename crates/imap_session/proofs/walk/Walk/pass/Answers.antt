use Rattle.std.proofs.Common.{◌≡◌, cond, drop, sym, ap, ◌∙◌}
use Rattle.imap_session.specs.Cursors.{is_next}
use Rattle.imap_session.proofs.Walking.{on_ok_both, passes_changed, passes_unchanged}
use Rattle.imap_session.proofs.walk.Walk.pass.Goals as goal

pub returns-then-skip_unchanged : goal.returns-then-skip_unchanged
returns-then-skip_unchanged g c =
    passes_unchanged c.args.told.now c.args.options.now c.args.up_to c.args.uid (g.C.RowCursor.rest c.args.rows.now) (g.C.RowCursor.rest c.skip_unchanged.new.self)
    c.args.self.now (sym c.skip_unchanged.ensures.unchanged ∙ c.if-skip_unchanged.true)
    (c.skip_unchanged.ensures.rest ∙ ap (λ b. cond b (drop 1 (g.C.RowCursor.rest c.args.rows.now)) (g.C.RowCursor.rest c.args.rows.now)) c.if-skip_unchanged.true)

pub returns-then-is_next : goal.returns-then-is_next
returns-then-is_next g c =
    let rows = g.C.RowCursor.rest c.args.rows.now in
    let same : g.C.RowCursor.rest c.skip_unchanged.new.self ≡ rows = c.skip_unchanged.ensures.rest ∙ ap (λ b. cond b (drop 1 rows) rows) c.if-skip_unchanged.false in
    on_ok_both c.pass_changed.result c.pass_changed.ensures.found c.pass_changed.ensures.rest
    (λ found rest.
    passes_changed c.args.told.now c.args.options.now c.args.up_to c.args.uid rows (g.C.RowCursor.rest c.pass_changed.new.rows) c.args.self.now c.pass_changed.new.self
    (sym (ap (is_next c.args.uid) same) ∙ sym c.is_next.ensures ∙ c.if-is_next.true) (sym c.skip_unchanged.ensures.unchanged ∙ c.if-skip_unchanged.false)
    (rest ∙ ap (drop 1) same) (λ r later is. found r later (same ∙ is)))
