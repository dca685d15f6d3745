use Rattle.std.proofs.Common.{sym, subst, ◌∙◌, IfSome}
use Rattle.imap_session.specs.Telling.{IsTellingOf, telling_of}
use Rattle.imap_session.proofs.AfterNotices.{told_is, told_fits}
use Rattle.imap_session.proofs.session_notices.selected_notices.Goals as goal

pub returns-clause-told : goal.returns-clause-told
returns-clause-told g c =
    c.if_any-told.ensures
    ∙ told_is c.args.options.now c.args.selected.now.up_to c.args.selected.now.known.list (g.C.RowCursor.rest c.args.rows.now) c.in_ok-found.found.delta c.args.highest c.in_ok-found.ensures.delta

pub returns-clause-change : goal.returns-clause-change
returns-clause-change g c =
    let known = c.args.selected.now.known.list in
    subst (λ told. IfSome told (λ t. IsTellingOf known t)) (sym c.if_any-told.ensures)
    (told_fits known (telling_of c.in_ok-found.found.delta c.args.highest) c.in_ok-found.ensures.brings.change)
