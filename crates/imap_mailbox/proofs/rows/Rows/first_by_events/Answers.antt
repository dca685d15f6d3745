use Rattle.std.proofs.Common.{◌≡◌, ◌≤◌, List, length, map, sym, ap, subst, ◌∙◌, arith}
use Rattle.std.proofs.lemmas.List.{length-map}
use Rattle.imap_mailbox.specs.Above.{IsFirstAbove}
use Rattle.imap_mailbox.specs.Lent.{own_lent, row_uids}
use Rattle.imap_mailbox.specs.Looked.{IsFirstOf}
use Rattle.imap_mailbox.specs.Rows.{Row, is_among}
use Rattle.imap_mailbox.specs.Summary.{AreRising, row_in}
use Rattle.imap_mailbox.specs.Own.{no_own}
use Rattle.imap_mailbox.proofs.FirstOf.{first_by_both, first_by_uids}
use Rattle.imap_mailbox.proofs.Lending.{uids_lent}
use Rattle.imap_mailbox.proofs.rows.Rows.first_by_events.Goals as goal

pub first_of_uids-first-requires-clause-rising : goal.first_of_uids-first-requires-clause-rising
first_of_uids-first-requires-clause-rising c =
    subst (λ (rows : List Row). AreRising (row_uids rows)) c.self.view_is (subst AreRising (uids_lent (own_lent c.self.inside.own) c.self.inside.messages.now.items) c.self.invariant.0.uids)

pub first_of_uids-requires-clause-rising : goal.first_of_uids-requires-clause-rising
first_of_uids-requires-clause-rising c =
    subst (λ (rows : List Row). AreRising (row_uids rows)) c.self.view_is (subst AreRising (uids_lent (own_lent c.self.inside.own) c.self.inside.messages.now.items) c.self.invariant.0.uids)

pub first_of_uids-requires-in-None-clause-rising : goal.first_of_uids-requires-in-None-clause-rising
first_of_uids-requires-in-None-clause-rising c =
    subst (λ (rows : List Row). AreRising (row_uids rows)) c.self.view_is (subst AreRising (uids_lent (own_lent c.self.inside.own) c.self.inside.messages.now.items) c.self.invariant.0.uids)

pub returns-in_ok-uids-in-Some : goal.returns-in_ok-uids-in-Some
returns-in_ok-uids-in-Some c =
    let messages = c.self.inside.messages.now.items in
    let own = c.in-Some.own.now.own in
    let view : map (row_in own) messages ≡ c.args.self.now = ap (λ o. map (row_in (own_lent o)) messages) (sym c.in-Some.is) ∙ c.self.view_is in
    let within : c.args.end ≤ length messages = omega (arith, c.requires.within, ap length view, length-map messages (row_in own)) in
    subst (IsFirstAbove c.args.number c.args.start c.args.end c.first_of_uids.result) view
    (first_by_both c.args.number c.args.start c.args.end own c.self.inside.recent.now messages within c.self.invariant.2 c.in_ok-uids-in-Some.uids.now c.in_ok-changes-in-Some.changes.now
    c.first_of_uids-first.result c.first_of_uids.result c.in_ok-uids-in-Some.ensures
    c.in_ok-changes-in-Some.ensures
    (subst (IsFirstOf (λ u. is_among u c.in_ok-uids-in-Some.uids.now) c.args.number c.args.start c.args.end c.first_of_uids-first.result) (sym view) c.first_of_uids-first.ensures)
    (subst (IsFirstOf (λ u. is_among u c.in_ok-changes-in-Some.changes.now) c.args.number c.args.start c.first_of_uids-first.result c.first_of_uids.result) (sym view) c.first_of_uids.ensures))

pub returns-in_ok-uids-in-None : goal.returns-in_ok-uids-in-None
returns-in_ok-uids-in-None c =
    let messages = c.self.inside.messages.now.items in
    let view : map (row_in no_own) messages ≡ c.args.self.now = ap (λ o. map (row_in (own_lent o)) messages) (sym c.in-None.is) ∙ c.self.view_is in
    let within : c.args.end ≤ length messages = omega (arith, c.requires.within, ap length view, length-map messages (row_in no_own)) in
    subst (IsFirstAbove c.args.number c.args.start c.args.end c.first_of_uids-in-None.result) view
    (first_by_uids c.args.number c.args.start c.args.end no_own c.self.inside.recent.now messages within c.self.invariant.2 c.in_ok-uids-in-None.uids.now
    c.first_of_uids-in-None.result c.in_ok-uids-in-None.ensures
    (subst (IsFirstOf (λ u. is_among u c.in_ok-uids-in-None.uids.now) c.args.number c.args.start c.args.end c.first_of_uids-in-None.result) (sym view) c.first_of_uids-in-None.ensures))
