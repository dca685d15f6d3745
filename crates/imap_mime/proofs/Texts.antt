-- Envelopes are text of one line.
use Rattle.std.proofs.Common.{◌≡◌, ℕ, ◌^◌, ◌<◌, Bool, true, false, not, cond, ◌||◌, nat_lt, List, [], ◌∷◌, Option, Some, None, refl, length, flat_map, arith}
use Rattle.std.specs.Prelude.{codes, ◌==◌}
use Rattle.std.specs.List.{list_all, list_any}
use Rattle.std.proofs.lemmas.Bool.Decides.{nat_tests}
use Rattle.imap_print.specs.Lines.{IsPlain}
use Rattle.imap_print.proofs.Reader.{Settles, settled, settles-append, one_line, quoted_settles, literal_settles, words_settle}
use Rattle.imap_syntax.specs.Written.{is_unquotable, is_quotable, max_announced_octets, quoted_text, literal_text}
use Rattle.imap_syntax.proofs.Writing.{both_true}
use Rattle.imap_mime.specs.declared.address.Address.{Address}
use Rattle.imap_mime.specs.Strings.{is_ascii, is_quoted, held_text, nstring_text, address_words, address_text, addresses_text}
use Rattle.imap_mime.specs.Envelope.{Envelope, further_words, envelope_text}
use Rattle.imap_mime.specs.Laws.{EachIsOneLine}

-- ---- strings

plain_by : (a b c : Bool) (more : Bool) → not (a || b || c || more) ≡ true → (not (b || c) ≡ true) × (not more ≡ true)
plain_by true b c more h = absurd cc
plain_by false true c more h = absurd cc
plain_by false false true more h = absurd cc
plain_by false false false more h = (refl, h)

quotable_plain : (octets : List ℕ) → is_quotable octets ≡ true → IsPlain octets
quotable_plain [] h = refl
quotable_plain (b ∷ bs) h =
    let parts = plain_by (b == 0) (b == 13) (b == 10) (list_any is_unquotable bs) h in
    rw (parts.0, quotable_plain bs parts.1) refl

held_by : (octets : List ℕ) (long : Bool) → nat_lt max_announced_octets (length octets) ≡ long → Settles (cond long (codes "NIL") (literal_text octets))
held_by octets true is = settled (codes "NIL") refl
held_by octets false is = literal_settles octets (let held : length octets < 2 ^ 64 = grind (arith, nat_tests) in held)

held_settles : (octets : List ℕ) → Settles (held_text octets)
held_settles octets = held_by octets (nat_lt max_announced_octets (length octets)) refl

string_by : (octets : List ℕ) (quoted : Bool) → is_quoted octets ≡ quoted → Settles (cond quoted (quoted_text octets) (held_text octets))
string_by octets true is = quoted_settles octets (quotable_plain octets (both_true (is_quotable octets) (list_all is_ascii octets) is).0)
string_by octets false is = held_settles octets

pub nstring_settles : (octets : Option (List ℕ)) → Settles (nstring_text octets)
nstring_settles None = settled (codes "NIL") refl
nstring_settles (Some octets) = string_by octets (is_quoted octets) refl

-- ---- addresses

address_settles : (a : Address) → Settles (address_text a)
address_settles a = words_settle (address_words a) (nstring_settles a.name, (nstring_settles a.route, (nstring_settles a.mailbox, (nstring_settles a.host, tt))))

each_settles : (addresses : List Address) → Settles (flat_map address_text addresses)
each_settles [] = settled [] refl
each_settles (a ∷ more) = settles-append (address_settles a) (each_settles more)

addresses_settle : (addresses : List Address) → Settles (addresses_text addresses)
addresses_settle [] = settled (codes "NIL") refl
addresses_settle (a ∷ more) = settles-append (settles-append (settled (40 ∷ []) refl) (each_settles (a ∷ more))) (settled (41 ∷ []) refl)

-- ---- envelopes

pub envelope_settles : (e : Envelope) → Settles (envelope_text e)
envelope_settles e =
    words_settle (nstring_text e.date ∷ further_words e)
    (nstring_settles e.date, (nstring_settles e.subject, (addresses_settle e.from, (addresses_settle e.sender, (addresses_settle e.reply_to, (addresses_settle e.to, (addresses_settle e.cc, (addresses_settle e.bcc, (nstring_settles e.in_reply_to, (nstring_settles e.message_id, tt))))))))))

pub each_is_one_line : EachIsOneLine
each_is_one_line e rest = one_line (envelope_text e) rest (envelope_settles e)
