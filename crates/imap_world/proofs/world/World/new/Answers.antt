use Rattle.std.proofs.Common.{◌≡◌, sym, ap, subst, ◌∙◌}
use Rattle.std.specs.FinMap as map
use Rattle.imap_world.specs.Indexed.{IsIndexIn}
use Rattle.imap_world.specs.Kept.{AreKept}
use Rattle.imap_world.specs.Mailbox.{plain_all}
use Rattle.imap_world.specs.Stored.{world_of}
use Rattle.imap_world.proofs.Contents.{plain_empty}
use Rattle.imap_world.proofs.ListsChanged.{alike, none_there}
use Rattle.imap_world.proofs.KeptMessages.{kept_none}
use Rattle.imap_world.proofs.Sets.{filled_empty}
use Rattle.imap_world.proofs.Sound.{empty_is_sound}
use Rattle.imap_world.proofs.world.World.new.Goals as goal

pub invariant_of-result : goal.invariant_of-result
invariant_of-result c =
    let none : plain_all c.new.result.map ≡ map.empty = ap plain_all c.new.ensures ∙ plain_empty in (
      empty_is_sound (world_of (record { mailboxes = c.new.result; epochs = c.new-2.result; subscriptions = c.new-3.result })) none c.new-2.ensures,
      subst AreKept (sym none) kept_none,
      subst (IsIndexIn c.new-4.result) (sym none) (alike c.new-4.result _ _ none_there c.new-4.ensures),
    )

pub returns-clause-mailboxes : goal.returns-clause-mailboxes
returns-clause-mailboxes c = ap plain_all c.new.ensures ∙ plain_empty

pub returns-clause-subscriptions : goal.returns-clause-subscriptions
returns-clause-subscriptions c = filled_empty c.new-3.result c.new-3.ensures
