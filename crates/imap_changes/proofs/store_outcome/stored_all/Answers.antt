use Rattle.std.proofs.Common.{List, subst}
use Rattle.std.specs.Prelude.{IfOk}
use Rattle.imap_rights.specs.Rights.{bits}
use Rattle.imap_targets.specs.State.{selection_of}
use Rattle.imap_changes.specs.declared.store_outcome.StoreOutcome.{StoreOutcome}
use Rattle.imap_changes.specs.Storing.{Stores}
use Rattle.imap_changes.proofs.Merged.{merged}
use Rattle.imap_changes.proofs.store_outcome.stored_all.Goals as goal

pub returns : goal.returns
returns c =
    let named = c.requires.named in
    let rows = c.requires.rows in
    subst (λ (meant : List StoreOutcome). IfOk c.stored_named.result (Stores meant))
    (merged (bits c.args.rights) c.args.spec.now (selection_of c.args.selected.now) named.1 rows.0 rows.1 named.0 c.args.messages.now c.args.rows.now named.2 rows.2)
    c.stored_named.ensures
