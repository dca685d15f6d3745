use Rattle.std.proofs.Common.{inl, inr, subst, sym, ap, ◌∙◌}
use Rattle.sqlite.specs.Effect.{Database}
use Rattle.sqlite.specs.Held.{state}
use Rattle.imap_message_tables.specs.Writing.{WritesAll}
use Rattle.imap_sql_keeper.proofs.Saved.{early, on_both, on_ok, rest_saved}
use Rattle.imap_sql_keeper.specs.Keeping.{Made}
use Rattle.imap_sql_keeper.proofs.saving.make_some.Goals as goal

pub returns-clause-rest : goal.returns-clause-rest
returns-clause-rest g c =
    rest_saved (state g.S.Store c.args.conn.now) (state g.S.Store c.save_rows.new.conn) _ c.requires.rest c.save_rows.ensures.crash (WritesAll c.args.rows.now) c.save_rows.result
    c.save_rows.ensures.autocommit c.save_rows.ensures.after c.save_rows.ensures.before

pub returns-clause-after : goal.returns-clause-after
returns-clause-after g c clean live =
    on_ok c.save_rows.result (λ s. record { was_open = s.was_open; made = s.made; orderly = s.orderly }) (c.save_rows.ensures.after clean)

pub returns-clause-honest : goal.returns-clause-honest
returns-clause-honest g c = early (state g.S.Store c.args.conn.now) (state g.S.Store c.save_rows.new.conn) _ c.requires.rest c.save_rows.ensures.crash

pub returns-clause-crash : goal.returns-clause-crash
returns-clause-crash g c clean db leaves = elim (c.save_rows.ensures.crash.crash clean db leaves) [ inl before ↦ inl before | inr it ↦ inr (record { was_open = it.0; made = it.1; orderly = it.2 }) ]

pub returns-clause-alone : goal.returns-clause-alone
returns-clause-alone g c clean =
    let old = state g.S.Store c.args.conn.now in
    on_both c.save_rows.result
    (λ s alone db leaves. subst (Made c.args.rows.now old) (sym (alone db leaves ∙ ap (λ (d : Database). d.trees) s.committed)) (record { was_open = s.was_open; made = s.made; orderly = s.orderly }))
    (c.save_rows.ensures.after clean) (c.save_rows.ensures.alone clean)
