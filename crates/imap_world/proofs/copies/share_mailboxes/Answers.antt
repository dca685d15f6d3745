use Rattle.std.proofs.Common.{◌≡◌, ◌<◌, ◌≤◌, length, get_or, sym, ap, subst, ◌∙◌, arith}
use Rattle.std.specs.FinMap as map
use Rattle.std.specs.FinMap.{len-entries}
use Rattle.imap_names.specs.Name.{Name}
use Rattle.imap_world.specs.declared.mailbox_entry.MailboxEntry.{MailboxEntry}
use Rattle.imap_world.proofs.Sharing.{shared_all, shared_next}
use Rattle.imap_world.proofs.copies.share_mailboxes.Goals as goal

pub loop-index-preserved : goal.loop-index-preserved
loop-index-preserved c =
    let m = c.loop-index.mailboxes.map in
    let d : Name × MailboxEntry = (c.entry.result.0.now, c.entry.result.1.now) in
    let lt : c.loop-index.index < length (map.entries m) = omega (arith, c.loop-index-test.true, c.len-index-end.ensures, c.loop-index.invariant.len, len-entries m) in
    let name : c.as_ref.result ≡ (get_or (map.entries m) c.loop-index.index d).0 =
    c.as_ref.ensures.name ∙ c.in_ok-name.ensures.copy ∙ ap (λ (e : Name × MailboxEntry). e.0) c.entry.ensures in
    record {
      contents = c.in_ok-share_in.ensures.contents ∙ c.loop-index.invariant.contents;
      len = c.in_ok-share_in.ensures.len ∙ c.loop-index.invariant.len;
      shared = shared_next m _ c.loop-index.invariant.contents c.share_in.new.mailboxes.map c.loop-index.index d c.as_ref.result lt name c.loop-index.invariant.shared c.in_ok-share_in.ensures.ok;
    }

pub returns-clause-ok : goal.returns-clause-ok
returns-clause-ok c =
    let m = c.loop-index.mailboxes.map in
    let most : length (map.entries m) ≤ c.loop-index.index = omega (arith, c.loop-index-test.false, c.len-index-end.ensures, c.loop-index.invariant.len, len-entries m) in
    shared_all m _ c.loop-index.invariant.contents c.loop-index.index most c.loop-index.invariant.shared
