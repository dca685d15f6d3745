-- What is written to the messages of mailboxes, one mailbox after another.
use Rattle.std.proofs.Common.{◌≡◌, ◌↔◌, Bool, true, false, cond, List, [], ◌∷◌, Option, Some, None, Result, Ok, Err, refl, sym, ap, subst, ◌∙◌, true≢false}
use Rattle.std.specs.Prelude.{option_map, unwrap_or, IsTrue, OnOk}
use Rattle.std.specs.FinMap as map
use Rattle.std.specs.declared.alloc.AllocError.{AllocError}
use Rattle.imap_batch.proofs.Kept.{batches_keep, writes_may_be_made}
use Rattle.imap_batch.specs.Batch.{write_for}
use Rattle.imap_batch.specs.Written.{with_batch}
use Rattle.imap_batch.specs.declared.error.BatchError.{BatchError}
use Rattle.imap_batch.specs.declared.write.BatchWrite.{BatchWrite}
use Rattle.imap_batch.specs.Held.{IsKept}
use Rattle.imap_names.specs.Name.{Name}
use Rattle.imap_names.specs.Order.{Names}
use Rattle.imap_names.proofs.NameLaws.{equal_names, get_put, is_name_at, is_name_at-same}
use Rattle.imap_world.specs.Kept.{AreKept, IsSound}
use Rattle.imap_world.specs.Mailbox.{Mailbox, plain, plain_all}
use Rattle.imap_world.specs.Messages.{messages_changed, messages_written, one_part, part_at, part_in, part_of, two_parts, with_messages, with_part, with_parts}
use Rattle.imap_world.specs.Ready.{HasEntryRoom, HasPartRoom, HasPartsRoom, MayChange, MayChangeAt, MayChangeParts}
use Rattle.imap_world.specs.Shared.{HasOwnRoomFor}
use Rattle.imap_world.specs.World.{World}
use Rattle.imap_world.specs.declared.change.Write.{Write}
use Rattle.imap_world.specs.declared.change.Write.TheVariants as write
use Rattle.imap_world.specs.declared.error.WorldError.{WorldError}
use Rattle.imap_world.specs.declared.error.WorldError.TheVariants.{Cannot}
use Rattle.imap_world.specs.declared.mailbox_entry.MailboxEntry.{MailboxEntry}
use Rattle.imap_world.specs.declared.named_batch.NamedBatch.{NamedBatch}
use Rattle.imap_world.specs.declared.named_batch.NamedWrite.{NamedWrite}
use Rattle.imap_world.proofs.Contents.{get_plain}
use Rattle.imap_world.proofs.Sound.{changed_is_sound, same_is_sound}

-- ---- names

pub other_way : (m n : Name) → is_name_at m n ≡ false → is_name_at n m ≡ false
other_way m n apart = by (is_name_at n m) refl
  where
    by : (b : Bool) → is_name_at n m ≡ b → is_name_at n m ≡ false
    by false at = at
    by true at = absurd (true≢false (sym (is_name_at-same m) ∙ ap (is_name_at m) (sym (equal_names n m at)) ∙ apart))

pub same_by_test : (m n : Name) (b : Bool) → IsTrue b ↔ (m ≡ n) → b ≡ is_name_at m n
same_by_test m n b test = by b (is_name_at m n) refl test
  where
    by : (b at : Bool) → is_name_at m n ≡ at → IsTrue b ↔ (m ≡ n) → b ≡ at
    by true true is test = refl
    by false false is test = refl
    by true false is test = absurd (true≢false (sym (is_name_at-same m) ∙ ap (is_name_at m) (test.0 refl) ∙ is))
    by false true is test = test.1 (equal_names m n is)

-- ---- one mailbox

pub part_elsewhere : (m : Names Mailbox) (w : NamedWrite) (q : Name) → is_name_at q w.name ≡ false → map.get (with_part m w) q ≡ map.get m q
part_elsewhere m w q apart = by (map.get m w.name)
  where
    by : (o : Option Mailbox) → map.get (messages_changed w.write.batch m w.name o) q ≡ map.get m q
    by None = refl
    by (Some before) = get_put m w.name (record before { messages = with_batch w.write.batch before.messages }) q ∙ ap (λ b. cond b (Some (record before { messages = with_batch w.write.batch before.messages })) (map.get m q)) apart

pub still_may : (m : Names Mailbox) (w : NamedWrite) (other : NamedWrite) → is_name_at other.name w.name ≡ false → MayChange m other → MayChange (with_part m w) other
still_may m w other apart may = subst (MayChangeAt other.write) (sym (part_elsewhere m w other.name apart)) may

part_is_sound : (old : World) (w : NamedWrite) → IsSound old → IsSound (record old { mailboxes = with_part old.mailboxes w })
part_is_sound old w sound = by (map.get old.mailboxes w.name) refl
  where
    by : (o : Option Mailbox) → map.get old.mailboxes w.name ≡ o → IsSound (record old { mailboxes = messages_changed w.write.batch old.mailboxes w.name o })
    by None there = same_is_sound old (record old { mailboxes = old.mailboxes }) refl refl sound
    by (Some before) there =
        let after : Mailbox = record before { messages = with_batch w.write.batch before.messages } in
        changed_is_sound old (record old { mailboxes = map.insert old.mailboxes w.name after }) w.name before after refl refl there refl sound

pub parts_are_sound : (old : World) (w : NamedWrite) (other : Option NamedWrite) → IsSound old → IsSound (with_messages old w other)
parts_are_sound old w None sound = part_is_sound old w sound
parts_are_sound old w (Some other) sound = part_is_sound (record old { mailboxes = with_part old.mailboxes w }) other (part_is_sound old w sound)

-- ---- what is found

ok_same : {A : Type 0} (x y : A) → ◌≡◌ {A = Result A WorldError} (Ok x) (Ok y) → x ≡ y
ok_same x y e = cc

-- what is found for a part
pub record IsPart (m : Names Mailbox) (part : NamedBatch) (w : NamedWrite) : Type 0 where
  pub same : w.name ≡ part.name
  pub batch : w.write.batch ≡ part.batch
  pub may : MayChange m w

pub part_found : (m : Names Mailbox) (part : NamedBatch) (w : NamedWrite) → part_in m part ≡ Ok w → IsPart m part w
part_found m part w is = at (map.get m part.name) refl is
  where
    named : BatchWrite → NamedWrite
    named x = record { name = part.name; write = x }

    of : (o : Mailbox) → map.get m part.name ≡ Some o → (r : Result BatchWrite BatchError) → write_for part.batch o.messages ≡ r → part_of part.name r ≡ Ok w → IsPart m part w
    of o there (Err error) found e = absurd (cc e)
    of o there (Ok x) found e =
        let may = writes_may_be_made part.batch o.messages x found in
        subst (IsPart m part) (ok_same (named x) w e) (record { same = refl; batch = may.0; may = subst (MayChangeAt x) (sym there) may.1 })

    at : (o : Option Mailbox) → map.get m part.name ≡ o → part_at part o ≡ Ok w → IsPart m part w
    at None there e = absurd (cc e)
    at (Some o) there e = of o there (write_for part.batch o.messages) refl e

-- ---- one write

pub record IsOneWrite (m : Names Mailbox) (ws : List Write) : Type 0 where
  pub part : NamedWrite
  pub other : Option NamedWrite
  pub are : write.Messages part other ∷ [] ≡ ws
  pub may : MayChangeParts m part other

one_written : (m : Names Mailbox) (part : NamedBatch) (r : Result NamedWrite WorldError) → part_in m part ≡ r → (ws : List Write) → one_part r ≡ Ok ws → IsOneWrite m ws
one_written m part (Err error) found ws e = absurd (cc e)
one_written m part (Ok w) found ws e = record {
  part = w;
  other = None;
  are = ok_same (write.Messages w None ∷ []) ws e;
  may = ((part_found m part w found).may, tt);
}

two_written : (m : Names Mailbox) (part other : NamedBatch) → is_name_at other.name part.name ≡ false
    → (r s : Result NamedWrite WorldError) → part_in m part ≡ r → part_in m other ≡ s → (ws : List Write) → two_parts r s ≡ Ok ws → IsOneWrite m ws
two_written m part other apart (Err error) s found there ws e = absurd (cc e)
two_written m part other apart (Ok w) (Err error) found there ws e = absurd (cc e)
two_written m part other apart (Ok w) (Ok v) found there ws e =
    let one = part_found m part w found in
    let two = part_found m other v there in
    record {
      part = w;
      other = Some v;
      are = ok_same (write.Messages w (Some v) ∷ []) ws e;
      may = (one.may, ((λ i. is_name_at (two.same i) (one.same i)) ∙ apart, two.may));
    }

pub messages_are_written : (m : Names Mailbox) (part : NamedBatch) (other : Option NamedBatch) (ws : List Write) → messages_written m part other ≡ Ok ws → IsOneWrite m ws
messages_are_written m part None ws e = one_written m part (part_in m part) refl ws e
messages_are_written m part (Some other) ws e = by (is_name_at other.name part.name) refl e
  where
    by : (b : Bool) → is_name_at other.name part.name ≡ b → cond b (Err Cannot) (two_parts (part_in m part) (part_in m other)) ≡ Ok ws → IsOneWrite m ws
    by true at e = absurd (cc e)
    by false at e = two_written m part other at (part_in m part) (part_in m other) refl refl ws e

-- ---- room

-- in an entry that was changed
pub room_at : (m : Names MailboxEntry) (k : Name) (after : MailboxEntry) (new : Names MailboxEntry) → new ≡ map.insert m k after → map.get new k ≡ Some after
room_at m k after new is = ap (λ (n : Names MailboxEntry). map.get n k) is ∙ get_put m k after k ∙ ap (λ b. cond b (Some after) (map.get m k)) (is_name_at-same k)

pub on_ok_at : (w : BatchWrite) (o : Option MailboxEntry) (after : MailboxEntry) → o ≡ Some after → (r : Result (Unit {0}) AllocError)
    → OnOk r (HasOwnRoomFor w.batch after.messages) → OnOk r (HasEntryRoom w o)
on_ok_at w o after is (Err error) h = tt
on_ok_at w o after is (Ok done) h = subst (HasEntryRoom w) (sym is) h

-- in both mailboxes, of which the second was changed last
pub both_have : (mid last : Names MailboxEntry) (w other : NamedWrite) (o : Option NamedWrite) → o ≡ Some other → (first second : Name) → first ≡ w.name → second ≡ other.name
    → ((q : Name) → is_name_at q second ≡ false → map.get last q ≡ map.get mid q)
    → HasEntryRoom w.write (map.get mid first) → (r : Result (Unit {0}) AllocError) → OnOk r (HasEntryRoom other.write (map.get last second)) → OnOk r (HasPartsRoom last w o)
both_have mid last w other o is first second is_first is_second stay room (Err error) h = tt
both_have mid last w other o is first second is_first is_second stay room (Ok done) h = subst (HasPartsRoom last w) (sym is) both
  where
    both : HasPartsRoom last w (Some other)
    both apart =
        let at : is_name_at second first ≡ false = (λ i. is_name_at (is_second i) (is_first i)) ∙ apart in (
          subst (λ n. HasEntryRoom w.write (map.get last n)) is_first (subst (HasEntryRoom w.write) (sym (stay first (other_way second first at))) room),
          subst (λ n. HasEntryRoom other.write (map.get last n)) is_second h,
        )

-- the second may be written once the first is
pub plain_elsewhere : (old new : Names MailboxEntry) (q : Name) → map.get new q ≡ map.get old q → map.get (plain_all new) q ≡ map.get (plain_all old) q
plain_elsewhere old new q same = get_plain new q ∙ ap (option_map plain) same ∙ sym (get_plain old q)

-- ---- what was kept

abbrev IsKeptMessages : Mailbox → Type 0
IsKeptMessages m = IsKept m.messages

pub kept_part : (m : Names Mailbox) → AreKept m → (w : NamedWrite) → MayChange m w → AreKept (with_part m w)
kept_part m kept w may = record { at = λ q mailbox e. by (map.get m w.name) refl may q mailbox e }
  where
    put : (before : Mailbox) → map.get m w.name ≡ Some before → MayChangeAt w.write (Some before) → (q : Name) (mailbox : Mailbox) (b : Bool)
        → cond b (Some (record before { messages = with_batch w.write.batch before.messages })) (map.get m q) ≡ Some mailbox → IsKeptMessages mailbox
    put before there may q mailbox true e =
        let after : Mailbox = record before { messages = with_batch w.write.batch before.messages } in
        subst (λ (o : Option Mailbox). IsKeptMessages (unwrap_or o after)) e (batches_keep before.messages w.write may (kept.at w.name before there)).0
    put before there may q mailbox false e = kept.at q mailbox e

    by : (o : Option Mailbox) → map.get m w.name ≡ o → MayChangeAt w.write o → (q : Name) (mailbox : Mailbox) → map.get (messages_changed w.write.batch m w.name o) q ≡ Some mailbox → IsKeptMessages mailbox
    by None there may q mailbox e = absurd may
    by (Some before) there may q mailbox e =
        put before there may q mailbox (is_name_at q w.name) (sym (get_put m w.name (record before { messages = with_batch w.write.batch before.messages }) q) ∙ e)

pub kept_parts : (m : Names Mailbox) → AreKept m → (w : NamedWrite) (other : Option NamedWrite) → MayChangeParts m w other → AreKept (with_parts m w other)
kept_parts m kept w None may = kept_part m kept w may.0
kept_parts m kept w (Some other) may = kept_part (with_part m w) (kept_part m kept w may.0) other (still_may m w other may.1.0 may.1.1)

-- ---- both are written

pub first_room : (entries : Names MailboxEntry) (m : Names Mailbox) (w : NamedWrite) (other : Option NamedWrite) → HasPartsRoom entries w other → MayChangeParts m w other → HasPartRoom entries w
first_room entries m w None room may = room
first_room entries m w (Some other) room may = (room may.1.0).0

-- the second may be written once the first is
module _ (old mid : Names MailboxEntry) (w other : NamedWrite) (stay : (q : Name) → is_name_at q w.name ≡ false → map.get mid q ≡ map.get old q) (o : Option NamedWrite) (is : o ≡ Some other) (may : MayChangeParts (plain_all old) w o) where
  both_may : MayChangeParts (plain_all old) w (Some other)
  both_may = subst (MayChangeParts (plain_all old) w) is may

  pub second_room : HasPartsRoom old w o → HasPartRoom mid other
  second_room room =
      subst (HasEntryRoom other.write) (sym (stay other.name both_may.1.0))
      (subst (HasPartsRoom old w) is room both_may.1.0).1

  pub second_may : MayChange (plain_all mid) other
  second_may = subst (MayChangeAt other.write) (sym (plain_elsewhere old mid other.name (stay other.name both_may.1.0))) both_may.1.1

  pub both_written : (new : Names MailboxEntry) → plain_all mid ≡ with_part (plain_all old) w → plain_all new ≡ with_part (plain_all mid) other → plain_all new ≡ with_parts (plain_all old) w o
  both_written new first second = second ∙ ap (λ m. with_part m other) first ∙ ap (with_parts (plain_all old) w) (sym is)
