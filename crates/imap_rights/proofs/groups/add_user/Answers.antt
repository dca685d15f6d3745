use Rattle.std.proofs.Common.{◌≡◌, ℕ, List, sym, ap, ◌∙◌, string_bytes}
use Rattle.std.specs.FinMap as map
use Rattle.imap_user_map.specs.Rows.{Rows, Users}
use Rattle.imap_rights.specs.Groups.{Names, members_of}
use Rattle.imap_rights.proofs.Members.{groups_absent, members_put, none_of}
use Rattle.imap_rights.proofs.groups.add_user.Goals as goal

pub returns-clause-ok : goal.returns-clause-ok
returns-clause-ok c =
    let old = c.args.members.now in
    let user : List ℕ = c.args.user.now in
    let names : Rows (Unit {0}) = c.add.new.self in
    let put : c.insert_reserved.new.self.map ≡ map.insert old.map user names =
    c.insert_reserved.ensures.map ∙ ap (λ (m : Users (Rows (Unit {0}))). map.insert m (string_bytes c.in_ok-user.user) names) c.in_ok-reserve.ensures.map
    ∙ ap (λ k. map.insert old.map k names) c.in_ok-user.ensures.ok in
    members_put old c.insert_reserved.new.self user names put
    ∙ ap (map.insert (members_of old) user)
    (c.in_ok-add.ensures.ok ∙ ap (λ (m : Names). map.insert m (string_bytes c.args.group) tt) (c.new-groups.ensures ∙ sym (groups_absent old user (none_of _ c.requires))))
