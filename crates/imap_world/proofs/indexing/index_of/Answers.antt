use Rattle.std.proofs.Common.{◌≡◌, ◌<◌, ◌≤◌, length, get_or, None, refl, sym, ap, subst, ◌∙◌, arith}
use Rattle.std.specs.FinMap as map
use Rattle.std.specs.FinMap.{entries_sorted, len-entries}
use Rattle.std.proofs.lemmas.Result.{IfOk-weaker}
use Rattle.imap_names.specs.Name.{Name}
use Rattle.imap_world.specs.declared.mailbox_entry.MailboxEntry.{MailboxEntry}
use Rattle.imap_world.specs.Mailbox.{plain_all}
use Rattle.imap_world.proofs.Contents.{plain_len}
use Rattle.imap_world.proofs.ListsChanged.{all_done, alike, none_done}
use Rattle.imap_world.proofs.Numbering.{length_all, next_indexed, next_sorted}
use Rattle.imap_world.proofs.indexing.index_of.Goals as goal

pub loop-place-init : goal.loop-place-init
loop-place-init c =
    let m = plain_all c.args.mailboxes.now.map in
    record {
      contents = refl;
      len = refl;
      sorted = entries_sorted m;
      index = alike c.reserve.new.self _ _ (none_done m) (c.reserve.ensures (λ q. None) c.new-index.ensures);
    }

pub loop-place-preserved : goal.loop-place-preserved
loop-place-preserved c =
    let m = c.loop-place.mailboxes.map in
    let all = plain_all c.args.mailboxes.now.map in
    let d : Name × MailboxEntry = (c.entry.result.0.now, c.entry.result.1.now) in
    let lt : c.loop-place.place < length (map.entries m) = omega (arith, c.loop-place-test.true, c.len-place-end.ensures, c.loop-place.invariant.len, len-entries m) in
    let same : plain_all c.number_at.new.mailboxes.map ≡ plain_all m = c.number_at.ensures in
    record {
      contents = same ∙ c.loop-place.invariant.contents;
      len = plain_len _ _ same ∙ c.loop-place.invariant.len;
      sorted = next_sorted m all c.loop-place.invariant.contents c.loop-place.place d lt c.entry.ensures c.loop-place.invariant.sorted;
      index = next_indexed m all c.loop-place.invariant.contents c.loop-place.place d lt c.entry.ensures c.loop-place.index c.add_to_index.new.index c.in_ok-name.name c.entry.result.1.now.acl
          c.in_ok-name.ensures.copy refl c.loop-place.invariant.sorted c.loop-place.invariant.index c.in_ok-number.ensures;
    }

pub returns-clause-index : goal.returns-clause-index
returns-clause-index c =
    let m = c.loop-place.mailboxes.map in
    let all = plain_all c.args.mailboxes.now.map in
    let most : length (map.entries all) ≤ c.loop-place.place = omega (arith, c.loop-place-test.false, c.len-place-end.ensures, length_all c.args.mailboxes.now.map) in
    alike c.loop-place.index _ _ (all_done all c.loop-place.place (map.entries all) most) c.loop-place.invariant.index
