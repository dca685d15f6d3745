use Rattle.imap_mime.specs.Envelope.{envelope_of, sender_words, recipient_words}
use Rattle.imap_mime.specs.Strings.{nstring_text}
use Rattle.imap_mime.proofs.Words.{all_words}
use Rattle.imap_mime.proofs.envelope.push_further_words.Goals as goal

pub returns : goal.returns
returns c =
    let e = envelope_of c.args.header.now in
    all_words (nstring_text e.subject) (nstring_text e.in_reply_to) (nstring_text e.message_id) (sender_words e) (recipient_words e)
    c.args.out.now.items c.push_further_value.new.out.items c.push_senders.new.out.items c.push_recipients.new.out.items c.push_further_value-2.new.out.items c.push_further_value-3.new.out.items
    c.in_ok-push_further_value.ensures c.in_ok-push_senders.ensures c.in_ok-push_recipients.ensures c.in_ok-push_further_value-2.ensures c.in_ok-push_further_value-3.ensures
