use Rattle.std.proofs.Common.{◌∙◌, ap, sym, subst, arith}
use Rattle.imap_mailbox.specs.Rows.{WasGiven}
use Rattle.imap_mailbox.specs.Summary.{uids_in, is_there}
use Rattle.imap_mailbox.specs.Held.{Held, summary_in, IsKept}
use Rattle.imap_mailbox.specs.Lent.{place_in}
use Rattle.imap_mailbox.proofs.Finding.{inside, number_there, at_least, below_end, among_found, among_nowhere}
use Rattle.imap_mailbox.proofs.mailbox.Mailbox.contains.Goals as goal

pub returns-in-Some-clause-there : goal.returns-in-Some-clause-there
returns-in-Some-clause-there c =
    let found = ap (λ ms. place_in c.args.uid (uids_in ms)) (sym c.deref.ensures.value) ∙ sym c.find_message.ensures ∙ c.in-Some.is in
    sym (among_found c.args.uid (uids_in c.self.inside.messages.items) _ found)
    ∙ ap (λ (h : Held). is_there c.args.uid (summary_in h)) c.self.view_is

pub returns-in-Some-clause-known : goal.returns-in-Some-clause-known
returns-in-Some-clause-known c t =
    let found = ap (λ ms. place_in c.args.uid (uids_in ms)) (sym c.deref.ensures.value) ∙ sym c.find_message.ensures ∙ c.in-Some.is in
    let is = number_there c.args.uid (uids_in c.self.inside.messages.items) _ 0 found in
    let within = inside c.args.uid (uids_in c.self.inside.messages.items) _ found in
    let above = at_least 1 c.self.inside.next (uids_in c.self.inside.messages.items) _ 0 c.self.invariant.0.sound.uids within in
    let below = below_end 1 c.self.inside.next (uids_in c.self.inside.messages.items) _ 0 c.self.invariant.0.sound.uids within in
    subst (λ (h : Held). WasGiven h.next c.args.uid) c.self.view_is (omega (arith, is, above), omega (arith, is, below))

pub returns-in-None-clause-there : goal.returns-in-None-clause-there
returns-in-None-clause-there c =
    let nowhere = ap (λ ms. place_in c.args.uid (uids_in ms)) (sym c.deref.ensures.value) ∙ sym c.find_message.ensures ∙ c.in-None.is in
    sym (among_nowhere c.args.uid (uids_in c.self.inside.messages.items) nowhere)
    ∙ ap (λ (h : Held). is_there c.args.uid (summary_in h)) c.self.view_is

pub returns-in-Some-clause-valid : goal.returns-in-Some-clause-valid
returns-in-Some-clause-valid c = subst (λ (h : Held). IsKept (summary_in h)) c.self.view_is c.self.invariant.0

pub returns-in-None-clause-valid : goal.returns-in-None-clause-valid
returns-in-None-clause-valid c = subst (λ (h : Held). IsKept (summary_in h)) c.self.view_is c.self.invariant.0
