use Rattle.std.proofs.Common.{◌||◌, subst}
use Rattle.std.specs.Prelude.{bytes_eq}
use Rattle.std.specs.FinMap as fin
use Rattle.imap_identifier_index.specs.Index.{Index}
use Rattle.imap_identifier_index.specs.Sets.{IsAdded}
use Rattle.imap_identifier_index.proofs.Entered.{added_keys}
use Rattle.imap_identifier_index.proofs.identifier_index.IdentifierIndex.enter.Goals as goal

pub returns-else-not-add_all-clause-sets : goal.returns-else-not-add_all-clause-sets
returns-else-not-add_all-clause-sets c = λ t.
    subst (λ (i : Index). IsAdded (λ text. fin.contains_key c.args.acl.now text || bytes_eq text c.args.root.now) c.args.number i.sets c.add_all.new.sets.map) c.self.view_is
    (added_keys c.args.number c.entries.result.now c.args.acl.now c.self.inside.sets.map c.add_all.new.sets.map c.entries.ensures c.args.root.now (c.add_all.ensures c.if-not-add_all.false))
