use Rattle.std.proofs.Common.{List, subst}
use Rattle.std.specs.Prelude.{IfOk}
use Rattle.imap_mailbox.specs.Rows.{Row}
use Rattle.imap_rights.specs.Rights.{bits}
use Rattle.imap_changes.specs.Finding.{AreCopies}
use Rattle.imap_changes.proofs.Found.{found_is_named}
use Rattle.imap_changes.proofs.copies.copies_of_named.Goals as goal

pub returns : goal.returns
returns c =
    let named = c.requires.named in
    let rows = c.requires.rows in
    subst (λ (rs : List Row). IfOk c.copies_of_found.result (AreCopies (bits c.args.rights) rs))
    (found_is_named named.1 rows.0 rows.1 named.0 c.args.messages.now c.args.rows.now named.2 rows.2) c.copies_of_found.ensures
