use Rattle.std.proofs.Common.{◌≡◌, ◌++◌, ◌∙◌, ap, of_z, subst, sym, to_z, w64}
use Rattle.std.specs.List.{AllZip}
use Rattle.std.proofs.lemmas.Int.{to_z-of_z}
use Rattle.imap_restore.specs.Parts.{AreGrouped, LeavesOthers, ReadsEnd, below}
use Rattle.imap_stored_values.proofs.Words.{same_fault}
use Rattle.imap_restore.proofs.taking.take_below.Goals as goal

pub read_below-requires : goal.read_below-requires
read_below-requires g c = subst (AreGrouped g.T.Restore.mailbox) (sym c.as_slice-2.ensures.value) (c.in-Ok.ensures.left.grouped c.requires)

pub returns-in-Err-clause-bad : goal.returns-in-Err-clause-bad
returns-in-Err-clause-bad g c is all z =
    let same : to_z w64 (of_z w64 c.args.id) ≡ c.args.id = to_z-of_z w64 c.args.id c.ranges.id in
    c.take_end.ensures.bad (c.in-Err.is ∙ same_fault c.in-Err.error is) all
    (subst (λ k. AllZip g.T.Restore.is_for (below g.T.Restore.mailbox k c.args.rows.now.items) all) (sym same) z)

pub returns-in-Err-read_below-clause-bad : goal.returns-in-Err-read_below-clause-bad
returns-in-Err-read_below-clause-bad g c is all z =
    let m = g.T.Restore.mailbox in
    let rows = c.args.rows.now.items in
    let left = c.take_end.new.rows.items in
    let same : to_z w64 (of_z w64 c.args.id) ≡ c.args.id = to_z-of_z w64 c.args.id c.ranges.id in
    let reads : ReadsEnd g.T.Restore.is_for m c.args.id rows left c.in-Ok.last.items = subst (λ k. ReadsEnd g.T.Restore.is_for m k rows left c.in-Ok.last.items) same c.in-Ok.ensures.read in
    let it = reads.back all z in
    c.read_below.ensures.bad (c.in-Err-read_below.is ∙ same_fault c.in-Err-read_below.error is) it.0
    (subst (λ k. AllZip g.T.Restore.is_for (below m k c.as_slice-2.result.now) it.0) (sym same)
    (subst (λ l. AllZip g.T.Restore.is_for (below m c.args.id l) it.0) (sym c.as_slice-2.ensures.value) it.1))

pub returns-in-Ok-put_before-clause-ok : goal.returns-in-Ok-put_before-clause-ok
returns-in-Ok-put_before-clause-ok g c =
    let m = g.T.Restore.mailbox in
    let id = c.args.id in
    let rows = c.args.rows.now.items in
    let left = c.take_end.new.rows.items in
    let first = c.in-Ok-read_below.first.items in
    let same : to_z w64 (of_z w64 c.args.id) ≡ c.args.id = to_z-of_z w64 c.args.id c.ranges.id in
    let reads : ReadsEnd g.T.Restore.is_for m id rows left c.in-Ok.last.items = subst (λ k. ReadsEnd g.T.Restore.is_for m k rows left c.in-Ok.last.items) same c.in-Ok.ensures.read in
    let before : AllZip g.T.Restore.is_for (below m id left) first = subst (λ l. AllZip g.T.Restore.is_for (below m id l) first) c.as_slice-2.ensures.value
    (subst (λ k. AllZip g.T.Restore.is_for (below m k c.as_slice-2.result.now) first) same c.in-Ok-read_below.ensures.ok) in
    subst (AllZip g.T.Restore.is_for (below m id rows)) (ap (λ l. first ++ l) (sym c.reverse.ensures.items) ∙ sym c.in-Ok-put_before.ensures) (reads.more first before)

pub returns-in-Ok-put_before-clause-left : goal.returns-in-Ok-put_before-clause-left
returns-in-Ok-put_before-clause-left g c =
    subst (λ k. LeavesOthers g.T.Restore.mailbox k c.args.rows.now.items c.take_end.new.rows.items) (to_z-of_z w64 c.args.id c.ranges.id) c.in-Ok.ensures.left
