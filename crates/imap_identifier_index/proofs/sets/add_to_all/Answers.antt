use Rattle.std.proofs.Common.{ℕ, List, refl, subst}
use Rattle.std.specs.Prelude.{bytes_eq}
use Rattle.std.proofs.lemmas.List.{take_all}
use Rattle.imap_rights.specs.declared.acl.Entry.{Entry}
use Rattle.imap_identifier_index.specs.Sets.{IsAdded, is_listed}
use Rattle.imap_identifier_index.proofs.Entered.{added_more}
use Rattle.imap_identifier_index.proofs.sets.add_to_all.Goals as goal

pub loop-entry-init : goal.loop-entry-init
loop-entry-init c = λ id k. refl

pub loop-entry-preserved : goal.loop-entry-preserved
loop-entry-preserved c =
    added_more c.args.number c.args.entries.now c.args.sets.now.map c.loop-entry.sets.map c.add.new.sets.map c.loop-entry.entry-index c.entry-item.result c.loop-entry-test.true c.entry-item.is
    c.loop-entry.invariant
    (subst (λ (text : List ℕ). IsAdded (λ id. bytes_eq id text) c.args.number c.loop-entry.sets.map c.add.new.sets.map) c.as_str.ensures (c.add.ensures c.if-not-add.false))

pub returns : goal.returns
returns c = λ done.
    subst (λ (es : List Entry). IsAdded (λ id. is_listed id es) c.args.number c.args.sets.now.map c.loop-entry.sets.map)
    (take_all c.loop-entry.entry-index c.args.entries.now c.loop-entry-test.false) c.loop-entry.invariant
