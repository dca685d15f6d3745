use Rattle.std.proofs.Common.{◌≡◌, ◌∷◌, [], List, length, ap, subst, arith}
use Rattle.std.specs.Vec.Iter.{into_iter_items}
use Rattle.imap_name_map.proofs.RunInserts.{nothing_left}
use Rattle.imap_world.specs.declared.world_parts.MailboxRow.{MailboxRow}
use Rattle.imap_world.specs.Restored.{PushesRow}
use Rattle.imap_world.proofs.Standing.{AreMade, none_made, one_made, refused, restores}
use Rattle.imap_world.proofs.restored.mailboxes_of.Goals as goal

pub loop-row-init : goal.loop-row-init
loop-row-init c =
    let gives = c.into_iter-row-iterator.ensures.into_iter_gives in
    record {
      made = none_made c.args.rows.items (into_iter_items c.into_iter-row-iterator.result) c.new-entries.result.items gives.0 c.new-entries.ensures.items;
      count = omega (arith, gives.1, c.args.rows.ok.0, ap length gives.0);
    }

pub returns-in-Err : goal.returns-in-Err
returns-in-Err c =
    let at = c.loop-row in
    let rest = into_iter_items c.next.new.self in
    let front : into_iter_items at.row-iterator ≡ c.in-Some.row ∷ rest = c.in-Some.ensures.steps.0 in
    refused c.args.rows.items rest c.in-Some.row at.entries.items c.push_entry.new.entries.items c.in-Err.error
    (subst (λ (l : List MailboxRow). AreMade c.args.rows.items l at.entries.items) front at.invariant.made)
    (subst (PushesRow c.in-Some.row at.entries.items c.push_entry.new.entries.items) c.in-Err.is c.push_entry.ensures)

pub loop-row-preserved : goal.loop-row-preserved
loop-row-preserved c =
    let at = c.loop-row in
    let rest = into_iter_items c.next.new.self in
    let front : into_iter_items at.row-iterator ≡ c.in-Some.row ∷ rest = c.in-Some.ensures.steps.0 in
    let gone = c.in-Some.ensures.steps.1 in
    let short = ap length front in
    record {
      made = one_made c.args.rows.items rest c.in-Some.row at.entries.items c.push_entry.new.entries.items tt
          (subst (λ (l : List MailboxRow). AreMade c.args.rows.items l at.entries.items) front at.invariant.made)
          (subst (PushesRow c.in-Some.row at.entries.items c.push_entry.new.entries.items) c.in_default.is c.push_entry.ensures);
      count = omega (arith, gone, short, at.invariant.count);
    }

pub returns : goal.returns
returns c =
    let at = c.loop-row in
    let empty : into_iter_items at.row-iterator ≡ [] = nothing_left _ _ at.invariant.count c.in-None.ensures.steps.0 in
    restores c.args.rows.items at.entries.items (subst (λ (l : List MailboxRow). AreMade c.args.rows.items l at.entries.items) empty at.invariant.made) c.map_of.result c.map_of.ensures
