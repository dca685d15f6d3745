use Rattle.std.proofs.Common.{◌+◌, map, ◌<◌, ◌≤◌, ◌∙◌, length, ap, sym, subst, arith}
use Rattle.std.proofs.lemmas.List.{length-map, length-drop}
use Rattle.imap_modseq.specs.Numbers.{max_events}
use Rattle.imap_mailbox.specs.declared.message.GoneMessage.{GoneMessage}
use Rattle.imap_mailbox.specs.Summary.{gone_in}
use Rattle.imap_mailbox.specs.Lent.{own_lent}
use Rattle.imap_mailbox.proofs.Lending.{gone_place}
use Rattle.imap_mailbox.proofs.gone.GoneUids.get.Goals as goal

pub own_gone-requires : goal.own_gone-requires
own_gone-requires c =
    let count = ap length (sym c.self.view_is) ∙ length-drop c.self.inside.first (map (gone_in (own_lent c.self.inside.own)) c.self.inside.gone.now.items) in
    let whole = length-map c.self.inside.gone.now.items (gone_in (own_lent c.self.inside.own)) in
    let asked = c.requires in
    let lt : c.self.inside.first + c.args.place < length c.self.inside.gone.now.items = omega (arith, asked, count, whole) in
    subst (λ (k : GoneMessage). k.place ≤ max_events) (sym c.index-message.ensures) (gone_place c.self.invariant.places.0 max_events c.self.inside.gone.now.items (c.self.inside.first + c.args.place) c.index-message.result.now c.self.invariant.places.1 lt)

pub plain_gone-requires : goal.plain_gone-requires
plain_gone-requires c =
    let count = ap length (sym c.self.view_is) ∙ length-drop c.self.inside.first (map (gone_in (own_lent c.self.inside.own)) c.self.inside.gone.now.items) in
    let whole = length-map c.self.inside.gone.now.items (gone_in (own_lent c.self.inside.own)) in
    let asked = c.requires in
    let lt : c.self.inside.first + c.args.place < length c.self.inside.gone.now.items = omega (arith, asked, count, whole) in
    subst (λ (k : GoneMessage). k.place ≤ max_events) (sym c.index-message.ensures) (gone_place c.self.invariant.places.0 max_events c.self.inside.gone.now.items (c.self.inside.first + c.args.place) c.index-message.result.now c.self.invariant.places.1 lt)
