-- A hidden mailbox that is taken away with all below it.
use Rattle.std.proofs.Common.{◌≡◌, Bool, true, false, cond, not, Option, Some, None, refl, sym, ◌∙◌}
use Rattle.std.specs.FinMap as map
use Rattle.imap_names.specs.Name.{Name}
use Rattle.imap_names.specs.Order.{is_within}
use Rattle.imap_view.proofs.HiddenTrees.{differs, get_left}
use Rattle.imap_world.specs.Kept.{AreKept}
use Rattle.imap_world.specs.Mailbox.{Mailbox}
use Rattle.imap_core.specs.Laws.{HiddenIsAlike, HiddenSubtreesAreAbsent, without_tree}
use Rattle.imap_core.specs.Machine.{State}

kept_left : (state : State) (top : Name) → AreKept state.world.mailboxes → AreKept (without_tree state top).world.mailboxes
kept_left state top kept = record {
  at = λ name mailbox is. kept.at name mailbox (by (not (is_within top name)) (map.get state.world.mailboxes name) mailbox (sym (get_left state.world top name) ∙ is));
}
  where
    by : (b : Bool) (found : Option Mailbox) (mailbox : Mailbox) → cond b found None ≡ Some mailbox → found ≡ Some mailbox
    by true found mailbox is = is
    by false found mailbox is = absurd (cc is)

pub trees_absent : HiddenIsAlike → HiddenSubtreesAreAbsent
trees_absent of_hidden user state top kept hidden =
    of_hidden user state (without_tree state top) refl refl kept (kept_left state top kept) (differs state.site user state.world top hidden)
