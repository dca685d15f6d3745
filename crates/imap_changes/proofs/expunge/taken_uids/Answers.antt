use Rattle.std.proofs.Common.{◌∙◌, ◌<◌, ◌++◌, ◌∷◌, [], ap, arith, length, option_copied, sym}
use Rattle.imap_changes.specs.Expunge.{is_taken}
use Rattle.imap_changes.proofs.Taken.{passed, pushed, row_at_index}
use Rattle.imap_changes.proofs.expunge.taken_uids.Goals as goal
use Rattle.imap_changes.proofs.expunge.taken_uids.Goals.{then-is_taken+in_ok-push, else-is_taken}

pub loop-index-preserved : goal.loop-index-preserved
loop-index-preserved c =
    let rows = c.args.rows.now in
    let index = c.loop-index.index in
    let within : index < length rows = omega (arith, c.len-index-end.ensures, c.loop-index-test.true) in
    let row = row_at_index rows index within in
    let taken = is_taken (option_copied c.args.set) c.args.last c.args.known.now.list in
    elim c.if-is_taken.branch [
      | then-is_taken+in_ok-push w ↦
          rw w.uids-is
          (pushed taken rows index row.0 within row.1 c.loop-index.uids.items _ _
          (w.in_ok-push.ensures.items ∙ ap (λ uid. c.loop-index.uids.items ++ uid ∷ []) (w.uid.ensures row.0 row.1))
          (sym (w.if-is_taken.ensures row.0 row.1)) c.loop-index.invariant)
      | else-is_taken w ↦
          rw w.uids-is (passed taken rows index row.0 within row.1 c.loop-index.uids.items _ (sym (w.if-is_taken.ensures row.0 row.1)) c.loop-index.invariant)
    ]
