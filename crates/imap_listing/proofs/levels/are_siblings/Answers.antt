use Rattle.std.proofs.Common.{Some}
use Rattle.imap_names.proofs.FrontLaws.{split_last}
use Rattle.imap_listing.proofs.Hierarchy.{above_parts}
use Rattle.imap_listing.proofs.levels.are_siblings.Goals as goal

pub returns-in-Some : goal.returns-in-Some
returns-in-Some c = λ t n.
    let folder = c.in-Some.folder in
    let parts = split_last c.args.one.now (Some (folder, c.in-Some.field-0-1)) c.in-Some.ensures.cases in
    let own = above_parts c.args.one.now folder.now c.in-Some.field-0-1.now n parts.0 parts.1 in
    let other = c.is_in.ensures t n in
    (λ b. own.1 (other.0 b), λ b. other.1 (own.0 b))
