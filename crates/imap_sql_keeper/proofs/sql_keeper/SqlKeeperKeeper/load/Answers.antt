use Rattle.std.proofs.Common.{◌≡◌, rules, subst}
use Rattle.sqlite.specs.Held.{state}
use Rattle.imap_sql_keeper.specs.Keeping.{Keeps}
use Rattle.imap_sql_keeper.proofs.sql_keeper.SqlKeeperKeeper.load.Goals as goal

pub returns-in-Ok-clause-known : goal.returns-in-Ok-clause-known
returns-in-Ok-clause-known g c clean world kept =
    let same : c.args.self.now.conn ≡ c.self.inside.conn = search rules in
    c.in-Ok.ensures.known clean world (subst (λ k. Keeps (state g.S.Store k) world) same kept)

pub returns-in-Ok-clause-unchanged : goal.returns-in-Ok-clause-unchanged
returns-in-Ok-clause-unchanged g c world kept =
    let same : c.args.self.now.conn ≡ c.self.inside.conn = search rules in
    c.in-Ok.ensures.unchanged world (subst (λ k. Keeps (state g.S.Store k) world) same kept)

pub returns-in-Err-clause-damaged : goal.returns-in-Err-clause-damaged
returns-in-Err-clause-damaged g c clean world kept is =
    let same : c.args.self.now.conn ≡ c.self.inside.conn = search rules in
    c.in-Err.ensures.damaged clean world (subst (λ k. Keeps (state g.S.Store k) world) same kept) is

pub returns-in-Err-clause-unchanged : goal.returns-in-Err-clause-unchanged
returns-in-Err-clause-unchanged g c world kept =
    let same : c.args.self.now.conn ≡ c.self.inside.conn = search rules in
    c.in-Err.ensures.unchanged world (subst (λ k. Keeps (state g.S.Store k) world) same kept)
