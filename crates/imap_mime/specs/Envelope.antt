-- The envelope of a message (RFC 9051, section 7.5.2, ENVELOPE).
use Rattle.std.specs.Prelude.{ℕ, List, [], ◌∷◌, ◌++◌, codes, Option}
use Rattle.imap_print.specs.Words.{in_parentheses}
use Rattle.imap_mime.specs.declared.address.Address.{Address}
use Rattle.imap_mime.specs.Strings.{addresses_text, nstring_text}
use Rattle.imap_mime.specs.Values.{all_addresses, first_addresses, first_value}

pub record Envelope : Type 0 where
  pub date : Option (List ℕ)
  pub subject : Option (List ℕ)
  pub from : List Address
  pub sender : List Address
  pub reply_to : List Address
  pub to : List Address
  pub cc : List Address
  pub bcc : List Address
  pub in_reply_to : Option (List ℕ)
  pub message_id : Option (List ℕ)

-- the addresses, or the others if there are none
abbrev pub addresses_or : (others addresses : List Address) → List Address
addresses_or others [] = others
addresses_or others (a ∷ more) = a ∷ more

abbrev pub from_addresses : (header : List ℕ) → List Address
from_addresses header = first_addresses (codes "From") header

-- the addresses in the first field of a name, or those of From if there are none
abbrev pub or_from : (name header : List ℕ) → List Address
or_from name header = addresses_or (from_addresses header) (first_addresses name header)

-- Of each field the first counts, but of To, Cc and Bcc all.
abbrev pub envelope_of : (header : List ℕ) → Envelope
envelope_of header = record {
  date = first_value (codes "Date") header;
  subject = first_value (codes "Subject") header;
  from = from_addresses header;
  sender = or_from (codes "Sender") header;
  reply_to = or_from (codes "Reply-To") header;
  to = all_addresses (codes "To") header;
  cc = all_addresses (codes "Cc") header;
  bcc = all_addresses (codes "Bcc") header;
  in_reply_to = first_value (codes "In-Reply-To") header;
  message_id = first_value (codes "Message-ID") header;
}

abbrev pub sender_words : Envelope → List (List ℕ)
sender_words e = addresses_text e.from ∷ addresses_text e.sender ∷ addresses_text e.reply_to ∷ []

abbrev pub recipient_words : Envelope → List (List ℕ)
recipient_words e = addresses_text e.to ∷ addresses_text e.cc ∷ addresses_text e.bcc ∷ []

-- all words of `envelope` but the date, in this order
abbrev pub further_words : Envelope → List (List ℕ)
further_words e =
    nstring_text e.subject ∷ sender_words e ++ recipient_words e
    ++ nstring_text e.in_reply_to ∷ nstring_text e.message_id ∷ []

abbrev pub envelope_text : Envelope → List ℕ
envelope_text e = in_parentheses (nstring_text e.date ∷ further_words e)
