use Rattle.std.proofs.Common.{reverse}
use Rattle.imap_message_tables.proofs.Ordered.{fit_answer, unfit_answer}
use Rattle.imap_message_tables.proofs.join.join_rows.Goals as goal

pub returns-clause-unfit : goal.returns-clause-unfit
returns-clause-unfit c =
    unfit_answer c.args.heads.items (reverse c.lay_heads.new.heads.items) c.args.bodies.items (reverse c.lay_bodies.new.bodies.items) c.args.words.items (reverse c.lay_words.new.words.items)
    c.lay_heads.ensures.same c.lay_bodies.ensures.same c.lay_words.ensures.same c.zip_all.result c.zip_all.ensures

pub returns-clause-fit : goal.returns-clause-fit
returns-clause-fit c =
    fit_answer c.args.heads.items (reverse c.lay_heads.new.heads.items) c.args.bodies.items (reverse c.lay_bodies.new.bodies.items) c.args.words.items (reverse c.lay_words.new.words.items)
    c.lay_heads.ensures.same c.lay_bodies.ensures.same c.lay_words.ensures.same c.zip_all.result c.zip_all.ensures
