use Rattle.std.proofs.Common.{◌≡◌, ◌∙◌, Some, ap, sym, set, arith}
use Rattle.imap_mailbox.specs.declared.message.Message.{Message}
use Rattle.std.proofs.lemmas.List.{length-map}
use Rattle.imap_mailbox.specs.Summary.{uids_in}
use Rattle.imap_mailbox.specs.Lent.{place_in}
use Rattle.imap_mailbox.proofs.Finding.{inside, put_there, put_nowhere}
use Rattle.imap_mailbox.proofs.message.set_message_flags.Goals as goal

pub index_mut-requires : goal.index_mut-requires
index_mut-requires c =
    let at : place_in c.args.uid (uids_in c.args.messages.now.items) ≡ Some c.in-Some.found = ap (λ ms. place_in c.args.uid (uids_in ms)) (sym c.deref.ensures.value) ∙ sym c.find_message.ensures ∙ c.in-Some.is in
    let within = inside c.args.uid (uids_in c.args.messages.now.items) c.in-Some.found at in
    omega (arith, within, length-map c.args.messages.now.items (λ (m : Message). m.uid))

pub returns-in-Some-clause-items : goal.returns-in-Some-clause-items
returns-in-Some-clause-items c =
    let at : place_in c.args.uid (uids_in c.args.messages.now.items) ≡ Some c.in-Some.found = ap (λ ms. place_in c.args.uid (uids_in ms)) (sym c.deref.ensures.value) ∙ sym c.find_message.ensures ∙ c.in-Some.is in
    ap (set c.args.messages.now.items c.in-Some.found) (c.put_flags.ensures ∙ ap (λ (k : Message). record { uid = k.uid; date = k.date; octets = k.octets; flags = c.args.flags; place = c.args.place }) c.index_mut.ensures.value)
    ∙ put_there c.args.uid c.args.flags c.args.place c.requires.0 c.requires.1 c.args.messages.now.items c.in-Some.found c.index_mut.result.now c.requires.2 at

pub returns-in-None-clause-items : goal.returns-in-None-clause-items
returns-in-None-clause-items c =
    sym (put_nowhere c.args.uid c.args.flags c.args.place c.args.messages.now.items (ap (λ ms. place_in c.args.uid (uids_in ms)) (sym c.deref.ensures.value) ∙ sym c.find_message.ensures ∙ c.in-None.is))
