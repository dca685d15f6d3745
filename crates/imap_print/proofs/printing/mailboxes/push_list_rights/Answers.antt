use Rattle.std.proofs.Common.{ℕ, List, codes, ◌++◌, ap, ◌∙◌}
use Rattle.imap_print.specs.Strings.{name_text}
use Rattle.imap_print.specs.Mailboxes.{grantable_text}
use Rattle.imap_print.proofs.Wording.{appended}
use Rattle.imap_print.proofs.printing.mailboxes.push_list_rights.Goals as goal

pub returns : goal.returns
returns c =
    let out = c.args.out.now.items in
    let front = codes "* LISTRIGHTS " in
    let mailbox = name_text c.args.mailbox.now in
    let identifier = name_text c.args.identifier.now in
    appended out (front ++ mailbox ++ codes " " ++ identifier ++ codes " ") (grantable_text c.args.owner)
    (appended out (front ++ mailbox ++ codes " " ++ identifier) (codes " ")
    (appended out (front ++ mailbox ++ codes " ") identifier
    (appended out (front ++ mailbox) (codes " ")
    (appended out front mailbox c.in_ok-extend_from_slice.ensures.items
    (c.in_ok-push_name.ensures ∙ ap (λ (t : List ℕ). c.extend_from_slice.new.self.items ++ name_text t) c.as_slice.ensures))
    c.in_ok-push.ensures.items)
    (c.in_ok-push_name-2.ensures ∙ ap (λ (t : List ℕ). c.push.new.self.items ++ name_text t) c.as_slice-2.ensures))
    c.in_ok-push-2.ensures.items)
    c.in_ok-push_grantable.ensures
