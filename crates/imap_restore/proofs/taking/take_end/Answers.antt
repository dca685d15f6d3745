use Rattle.std.proofs.Common.{◌≡◌, ◌∷◌, ◌∙◌, ℤ, of_z, reverse, subst, sym, to_z, w64}
use Rattle.std.specs.List.{AllZip}
use Rattle.std.specs.Ordering.{int_eq}
use Rattle.std.proofs.lemmas.Int.{to_z-of_z}
use Rattle.imap_message_tables.proofs.Ends.{turned}
use Rattle.imap_restore.specs.Parts.{LeavesOthers, ReadsEnd, below}
use Rattle.imap_restore.proofs.Backwards.{never_back, read_both, read_rest}
use Rattle.imap_restore.proofs.Taken.{first_below, leaves_next}
use Rattle.imap_stored_values.proofs.Words.{same_fault}
use Rattle.imap_restore.proofs.Zipped.{HasRead, read_never, read_next}
use Rattle.imap_restore.proofs.taking.take_end.Goals as goal

pub returns-in-Err-clause-bad : goal.returns-in-Err-clause-bad
returns-in-Err-clause-bad g c is all z =
    let m = g.T.Restore.mailbox in
    let id : ℤ = to_z w64 (of_z w64 c.args.id) in
    let rows = c.args.rows.now.items in
    let x = c.in-Some.row in
    let left = reverse c.rows.rows.items in
    let rest = reverse c.take_row.new.rows.items in
    let cut : below m id left ≡ x ∷ below m id rest = first_below m id left rest x (turned c.rows.rows.items c.take_row.new.rows.items x c.in-Some.ensures.some.0) c.in-Some.ensures.some.1 in
    never_back (λ r. int_eq (m r) id) g.T.Restore.is_for rows
    (read_never g.T.Restore.is_for (below m id (reverse rows)) (below m id left) (below m id rest) x c.rows.items.items cut
    (c.restore.ensures.bad (c.in-Err.is ∙ same_fault c.in-Err.error is)) c.rows.invariant.read) all
    (subst (λ k. AllZip g.T.Restore.is_for (below m k rows) all) (sym (to_z-of_z w64 c.args.id c.ranges.id)) z)

pub rows-preserved : goal.rows-preserved
rows-preserved g c =
    let m = g.T.Restore.mailbox in
    let id : ℤ = to_z w64 (of_z w64 c.args.id) in
    let rows = c.args.rows.now.items in
    let x = c.in-Some.row in
    let left = reverse c.rows.rows.items in
    let rest = reverse c.take_row.new.rows.items in
    let cut : below m id left ≡ x ∷ below m id rest = first_below m id left rest x (turned c.rows.rows.items c.take_row.new.rows.items x c.in-Some.ensures.some.0) c.in-Some.ensures.some.1 in
    record {
      read = subst (HasRead g.T.Restore.is_for (below m id (reverse rows)) (below m id rest)) (sym c.in-Ok-push.ensures.items)
          (read_next g.T.Restore.is_for (below m id (reverse rows)) (below m id left) (below m id rest) x c.in-Ok.item c.rows.items.items cut c.in-Ok.ensures.ok c.rows.invariant.read);
      left = leaves_next m id rows c.rows.rows.items c.take_row.new.rows.items x c.in-Some.ensures.some.0 c.in-Some.ensures.some.1 c.rows.invariant.left;
    }

pub returns-clause-read : goal.returns-clause-read
returns-clause-read g c =
    let m = g.T.Restore.mailbox in
    let id : ℤ = to_z w64 (of_z w64 c.args.id) in
    let rows = c.args.rows.now.items in
    let p = λ (r : g.row.R.Denot). int_eq (m r) id in
    let reads : ReadsEnd g.T.Restore.is_for m id rows c.rows.rows.items c.rows.items.items = record {
      more = read_both p g.T.Restore.is_for rows c.rows.rows.items c.rows.items.items c.rows.invariant.read;
      back = read_rest p g.T.Restore.is_for rows c.rows.rows.items c.rows.items.items c.rows.invariant.read;
    } in
    subst (λ k. ReadsEnd g.T.Restore.is_for m k rows c.take_row.new.rows.items c.rows.items.items) (to_z-of_z w64 c.args.id c.ranges.id)
    (subst (λ l. ReadsEnd g.T.Restore.is_for m id rows l c.rows.items.items) (sym c.in_default.ensures.none) reads)

pub returns-clause-left : goal.returns-clause-left
returns-clause-left g c =
    subst (λ k. LeavesOthers g.T.Restore.mailbox k c.args.rows.now.items c.take_row.new.rows.items) (to_z-of_z w64 c.args.id c.ranges.id)
    (subst (LeavesOthers g.T.Restore.mailbox (to_z w64 (of_z w64 c.args.id)) c.args.rows.now.items) (sym c.in_default.ensures.none) c.rows.invariant.left)
