use Rattle.std.proofs.Common.{is_some, ap, ◌∙◌}
use Rattle.std.specs.FinMap as fin
use Rattle.std.specs.String.{string_bytes}
use Rattle.imap_user_map.specs.Rows.{Users}
use Rattle.imap_mailbox.specs.Owned.{Owned}
use Rattle.imap_mailbox.proofs.AllCounted.{put_counted, none_counted}
use Rattle.imap_mailbox.proofs.Marking.{list_added}
use Rattle.imap_mailbox.proofs.Values.{get_set}
use Rattle.imap_mailbox.proofs.marks.add_list.Goals as goal

pub returns-clause-lists : goal.returns-clause-lists
returns-clause-lists c =
    list_added c.args.own.now c.insert_reserved.new.self.map c.args.user.now c.new.result c.requires c.new.ensures.own
    (c.insert_reserved.ensures.map ∙ ap (λ (m : Users Owned). fin.insert m (string_bytes c.in_ok-key.key) c.new.result) c.in_ok-reserve.ensures.map ∙ ap (λ k. fin.insert c.args.own.now.map k c.new.result) c.in_ok-key.ensures.ok)

pub returns-clause-ok : goal.returns-clause-ok
returns-clause-ok c =
    ap (λ (m : Users Owned). is_some (fin.get m c.args.user.now)) (c.insert_reserved.ensures.map ∙ ap (λ k. fin.insert c.reserve.new.self.map k c.new.result) c.in_ok-key.ensures.ok)
    ∙ ap is_some (get_set c.reserve.new.self.map c.args.user.now c.new.result)

pub returns-clause-counted : goal.returns-clause-counted
returns-clause-counted c messages counted =
    put_counted messages c.args.own.now.map c.insert_reserved.new.self.map c.args.user.now c.new.result
    (c.insert_reserved.ensures.map ∙ ap (λ (m : Users Owned). fin.insert m (string_bytes c.in_ok-key.key) c.new.result) c.in_ok-reserve.ensures.map ∙ ap (λ k. fin.insert c.args.own.now.map k c.new.result) c.in_ok-key.ensures.ok)
    (none_counted messages c.new.result c.new.ensures.own c.new.ensures.seen) counted
