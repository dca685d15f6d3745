use Rattle.std.proofs.Common.{◌≡◌, rules, sym, subst}
use Rattle.sqlite.specs.Held.{state}
use Rattle.imap_keeper.specs.Keeping.{LeavesOr}
use Rattle.imap_restore.specs.Holding.{HoldSplit}
use Rattle.imap_sql_keeper.specs.Keeping.{Keeps}
use Rattle.imap_world.specs.Effects.{after_writes}
use Rattle.imap_sql_keeper.proofs.sql_keeper.SqlKeeperKeeper.save.Goals as goal

pub save_change-requires-clause-base : goal.save_change-requires-clause-base
save_change-requires-clause-base g c =
    let same : c.args.self.now.conn ≡ c.self.inside.conn = search rules in
    (c.requires.0, subst (λ k. Keeps (state g.S.Store k) c.requires.0) same c.requires.1, c.requires.2)

pub returns-in-Ok-clause-ok : goal.returns-in-Ok-clause-ok
returns-in-Ok-clause-ok g c world kept current =
    let same : c.args.self.now.conn ≡ c.self.inside.conn = search rules in
    c.in-Ok.ensures.ok world (subst (λ k. Keeps (state g.S.Store k) world) same kept) current

pub returns-in-Ok-clause-crash : goal.returns-in-Ok-clause-crash
returns-in-Ok-clause-crash g c clean world kept current =
    let same : c.args.self.now.conn ≡ c.self.inside.conn = search rules in
    subst (λ k. LeavesOr (state g.S.Store k).may_leave (state g.S.Store c.save_change.new.conn).may_leave (λ db. HoldSplit db (after_writes c.args.change.now world))) (sym same)
    (c.in-Ok.ensures.crash clean world (subst (λ k. Keeps (state g.S.Store k) world) same kept) current)

pub returns-in-Ok-clause-alone : goal.returns-in-Ok-clause-alone
returns-in-Ok-clause-alone g c clean world kept current =
    let same : c.args.self.now.conn ≡ c.self.inside.conn = search rules in
    c.in-Ok.ensures.alone clean world (subst (λ k. Keeps (state g.S.Store k) world) same kept) current

pub returns-in-Err-clause-err : goal.returns-in-Err-clause-err
returns-in-Err-clause-err g c world kept =
    let same : c.args.self.now.conn ≡ c.self.inside.conn = search rules in
    c.in-Err.ensures.err world (subst (λ k. Keeps (state g.S.Store k) world) same kept)

pub returns-in-Err-clause-crash : goal.returns-in-Err-clause-crash
returns-in-Err-clause-crash g c clean world kept current =
    let same : c.args.self.now.conn ≡ c.self.inside.conn = search rules in
    subst (λ k. LeavesOr (state g.S.Store k).may_leave (state g.S.Store c.save_change.new.conn).may_leave (λ db. HoldSplit db (after_writes c.args.change.now world))) (sym same)
    (c.in-Err.ensures.crash clean world (subst (λ k. Keeps (state g.S.Store k) world) same kept) current)
