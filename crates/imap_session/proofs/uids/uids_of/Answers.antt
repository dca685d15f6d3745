use Rattle.std.proofs.Common.{◌≡◌, ◌+◌, ◌<◌, ◌++◌, [], ◌∷◌, drop, length, sym, ap, ◌∙◌, arith}
use Rattle.std.proofs.lemmas.List.{append_assoc, drop_more}
use Rattle.imap_mailbox.specs.Lent.{row_uids}
use Rattle.imap_session.proofs.Worded.{row_at}
use Rattle.imap_session.proofs.uids.uids_of.Goals as goal

pub loop-place-preserved : goal.loop-place-preserved
loop-place-preserved c =
    let at = c.loop-place in
    let rows = c.args.rows.now in
    let uids = at.uids.items in
    let later = drop (at.place + 1) rows in
    let lt : at.place < length rows = omega (arith, c.loop-place-test.true, c.len-place-end.ensures) in
    let here = row_at rows at.place lt in
    let next : drop at.place rows ≡ here.row ∷ later = drop_more rows at.place here.row lt ∙ ap (λ r. r ∷ later) (sym here.is) in
    record {
      list = ap (λ l. l ++ row_uids later) c.push_reserved.ensures.items ∙ append_assoc uids (c.uid.result ∷ []) (row_uids later)
          ∙ ap (λ l. uids ++ l) (ap (λ u. u ∷ row_uids later) (c.uid.ensures here.row here.is) ∙ sym (ap row_uids next)) ∙ at.invariant.list;
      count = omega (arith, c.push_reserved.ensures.len, at.invariant.count);
      room = omega (arith, c.push_reserved.ensures.capacity, at.invariant.room);
    }
