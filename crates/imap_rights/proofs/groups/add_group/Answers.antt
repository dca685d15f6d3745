use Rattle.std.proofs.Common.{◌≡◌, Some, sym, ap, ◌∙◌, string_bytes}
use Rattle.std.specs.Option.{option_copied_mut}
use Rattle.std.specs.FinMap as map
use Rattle.imap_user_map.specs.Rows.{with_value}
use Rattle.imap_rights.specs.Groups.{members_of}
use Rattle.imap_rights.proofs.Members.{groups_there, members_kept, members_put, none_there, of_ok, of_err, of_some}
use Rattle.imap_rights.proofs.groups.add_group.Goals as goal

pub returns-in-Some-clause-ok : goal.returns-in-Some-clause-ok
returns-in-Some-clause-ok c =
    let old = c.args.members.now in
    let user = c.args.user.now in
    let names = c.add.new.self in
    let there : map.get old.map user ≡ Some c.in-Some.groups.now = sym c.get_mut.ensures.value ∙ ap option_copied_mut c.in-Some.is in
    let is : c.get_mut.follows.lender names ≡ with_value old user names = of_some _ _ c.in-Some.is (c.get_mut.follows.holds names) in
    of_ok c.add.result c.add.ensures.ok (λ put.
    members_put old (c.get_mut.follows.lender names) user names (ap (λ r. r.map) is)
    ∙ ap (map.insert (members_of old) user) (put ∙ ap (λ m. map.insert m (string_bytes c.args.group) tt) (sym (groups_there old user c.in-Some.groups.now there))))

pub returns-in-Some-clause-err : goal.returns-in-Some-clause-err
returns-in-Some-clause-err c =
    let old = c.args.members.now in
    let user = c.args.user.now in
    let names = c.add.new.self in
    let there : map.get old.map user ≡ Some c.in-Some.groups.now = sym c.get_mut.ensures.value ∙ ap option_copied_mut c.in-Some.is in
    let is : c.get_mut.follows.lender names ≡ with_value old user names = of_some _ _ c.in-Some.is (c.get_mut.follows.holds names) in
    of_err c.add.result c.add.ensures.err (λ kept. members_kept old (c.get_mut.follows.lender names) user c.in-Some.groups.now names there (ap (λ r. r.map) is) kept)

pub returns-in-None-clause-ok : goal.returns-in-None-clause-ok
returns-in-None-clause-ok c =
    absurd (none_there (map.get c.args.members.now.map c.args.user.now) c.requires (sym c.get_mut.ensures.value ∙ ap option_copied_mut c.in-None.is))
