use Rattle.std.proofs.Common.{◌≡◌, ◌∙◌, Some, true, ap, sym, subst, arith}
use Rattle.std.proofs.lemmas.List.{length-map}
use Rattle.imap_mailbox.specs.declared.message.Message.{Message}
use Rattle.imap_mailbox.specs.Rows.{WasGiven}
use Rattle.imap_mailbox.specs.Summary.{uids_in, is_there}
use Rattle.imap_mailbox.specs.Held.{Held, summary_in, IsKept}
use Rattle.imap_mailbox.specs.Calls.{message_at}
use Rattle.imap_mailbox.specs.Lent.{place_in}
use Rattle.imap_mailbox.proofs.Finding.{inside, number_there, at_least, below_end, among_found, message_there, message_nowhere}
use Rattle.imap_mailbox.proofs.mailbox.Mailbox.find.Goals as goal

pub index-requires : goal.index-requires
index-requires c =
    let at : place_in c.args.uid (uids_in c.self.inside.messages.items) ≡ Some c.in-Some.place = ap (λ ms. place_in c.args.uid (uids_in ms)) (sym c.deref.ensures.value) ∙ sym c.find_message.ensures ∙ c.in-Some.is in
    let within = inside c.args.uid (uids_in c.self.inside.messages.items) c.in-Some.place at in
    omega (arith, within, length-map c.self.inside.messages.items (λ (m : Message). m.uid))

pub returns-in-Some-clause-message : goal.returns-in-Some-clause-message
returns-in-Some-clause-message c =
    let at : place_in c.args.uid (uids_in c.self.inside.messages.items) ≡ Some c.in-Some.place = ap (λ ms. place_in c.args.uid (uids_in ms)) (sym c.deref.ensures.value) ∙ sym c.find_message.ensures ∙ c.in-Some.is in
    ap Some c.index.ensures ∙ sym (message_there c.args.uid c.self.inside.messages.items c.in-Some.place c.index.result.now at) ∙ ap (λ (h : Held). message_at c.args.uid h.messages) c.self.view_is

pub returns-in-None-clause-message : goal.returns-in-None-clause-message
returns-in-None-clause-message c =
    sym (message_nowhere c.args.uid c.self.inside.messages.items (ap (λ ms. place_in c.args.uid (uids_in ms)) (sym c.deref.ensures.value) ∙ sym c.find_message.ensures ∙ c.in-None.is)) ∙ ap (λ (h : Held). message_at c.args.uid h.messages) c.self.view_is

pub returns-in-Some-clause-known : goal.returns-in-Some-clause-known
returns-in-Some-clause-known c =
    let at : place_in c.args.uid (uids_in c.self.inside.messages.items) ≡ Some c.in-Some.place = ap (λ ms. place_in c.args.uid (uids_in ms)) (sym c.deref.ensures.value) ∙ sym c.find_message.ensures ∙ c.in-Some.is in
    let is = number_there c.args.uid (uids_in c.self.inside.messages.items) c.in-Some.place 0 at in
    let within = inside c.args.uid (uids_in c.self.inside.messages.items) c.in-Some.place at in
    let above = at_least 1 c.self.inside.next (uids_in c.self.inside.messages.items) c.in-Some.place 0 c.self.invariant.0.sound.uids within in
    let below = below_end 1 c.self.inside.next (uids_in c.self.inside.messages.items) c.in-Some.place 0 c.self.invariant.0.sound.uids within in
    subst (λ (h : Held). WasGiven h.next c.args.uid) c.self.view_is (omega (arith, is, above), omega (arith, is, below))

pub returns-in-Some-clause-there : goal.returns-in-Some-clause-there
returns-in-Some-clause-there c =
    let at : place_in c.args.uid (uids_in c.self.inside.messages.items) ≡ Some c.in-Some.place = ap (λ ms. place_in c.args.uid (uids_in ms)) (sym c.deref.ensures.value) ∙ sym c.find_message.ensures ∙ c.in-Some.is in
    subst (λ (h : Held). is_there c.args.uid (summary_in h) ≡ true) c.self.view_is (among_found c.args.uid (uids_in c.self.inside.messages.items) c.in-Some.place at)

pub returns-in-Some-clause-valid : goal.returns-in-Some-clause-valid
returns-in-Some-clause-valid c = subst (λ (h : Held). IsKept (summary_in h)) c.self.view_is c.self.invariant.0

pub returns-in-None-clause-valid : goal.returns-in-None-clause-valid
returns-in-None-clause-valid c = subst (λ (h : Held). IsKept (summary_in h)) c.self.view_is c.self.invariant.0
