use Rattle.std.proofs.Common.{◌≡◌, ◌⊎◌, inl, inr, ⊎_elim, rules, true≢false, IsTrue, List, Result, Err, sym, subst, ◌∙◌}
use Rattle.std.specs.Global.{Global}
use Rattle.imap_keeper.specs.declared.error.KeepError.{KeepError}
use Rattle.imap_keeper.specs.declared.error.KeepError.TheVariants.{Damaged}
use Rattle.sqlite.specs.Held.{state}
use Rattle.sqlite.specs.Order.{Row}
use Rattle.imap_tables.specs.Reading.{AreRead}
use Rattle.sqlite_rules.specs.Lists.{Has}
use Rattle.imap_sql_keeper.specs.Adopting.{IsVersion, SaysVersion}
use Rattle.imap_sql_keeper.proofs.Version.{said, says, shows}
use Rattle.imap_sql_keeper.proofs.adopting.check_version.Goals as goal

fault : (e : KeepError) → ◌≡◌ {A = Result Global KeepError} (Err e) (Err Damaged) → e ≡ Damaged
fault e is = cc is

pub returns-in-Ok-true-clause-says : goal.returns-in-Ok-true-clause-says
returns-in-Ok-true-clause-says g c clean =
    let db = (state g.S.Store c.args.conn.now).now.trees in
    let rows : List Row = c.as_slice.result.now in
    let read : AreRead 7 db rows = subst (AreRead 7 db) (sym c.as_slice.ensures.value) (c.in-Ok.ensures.read clean) in
    let have : IsTrue c.in-Ok-true.field-0 = search rules in
    ⊎_elim (λ (it : (row : Row) × Has rows row × IsVersion c.args.version row). inl (says db rows read c.args.version it))
    (λ (it : (row : Row) × Has rows row × IsVersion c.args.other row). inr (says db rows read c.args.other it)) (c.in-Ok-true.ensures.ok.0 have)

pub returns-in-Ok-false-clause-damaged : goal.returns-in-Ok-false-clause-damaged
returns-in-Ok-false-clause-damaged g c clean same shown version =
    let db = (state g.S.Store c.args.conn.now).now.trees in
    let rows : List Row = c.as_slice.result.now in
    let read : AreRead 7 db rows = subst (AreRead 7 db) (sym c.as_slice.ensures.value) (c.in-Ok.ensures.read clean) in
    let either : ((row : Row) × Has rows row × IsVersion c.args.version row) ⊎ ((row : Row) × Has rows row × IsVersion c.args.other row) =
    ⊎_elim (λ (it : SaysVersion c.args.version db). inl (said db rows read c.args.version it)) (λ (it : SaysVersion c.args.other db). inr (said db rows read c.args.other it)) version in
    true≢false (sym (c.in-Ok-false.ensures.ok.1 either) ∙ c.in-Ok-false.field-0-test)

pub returns-clause-damaged : goal.returns-clause-damaged
returns-clause-damaged g c clean same shown version =
    let db = (state g.S.Store c.args.conn.now).now.trees in
    let rows : List Row = c.as_slice.result.now in
    let read : AreRead 7 db rows = subst (AreRead 7 db) (sym c.as_slice.ensures.value) (c.in-Ok.ensures.read clean) in
    c.in-Err-have_either.ensures.unread (c.damage.ensures (fault c.damage.result same)) (shows db rows read c.args.version shown)
