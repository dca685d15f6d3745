use Rattle.std.proofs.Common.{◌↔◌, List, ℕ, IsTrue, subst}
use Rattle.imap_mailbox.specs.Summary.{Rises}
use Rattle.imap_mailbox.proofs.Restoring.{places_are}
use Rattle.imap_mailbox.proofs.restored.have_own_places.Goals as goal

pub returns : goal.returns
returns c =
    let rise = places_are c.args.shared c.args.messages.now c.args.gone.now c.in_ok-places.places.items c.in_ok-places.ensures.same c.in_ok-places.ensures.sorted in
    let tested : IsTrue c.rise_below.result ↔ Rises 0 c.args.shared c.in_ok-places.places.items = subst (λ (ps : List ℕ). IsTrue c.rise_below.result ↔ Rises 0 c.args.shared ps) c.deref.ensures.value c.rise_below.ensures in
    ((λ t. rise.0 (tested.0 t)), λ h. tested.1 (rise.1 h))
