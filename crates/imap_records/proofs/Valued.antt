-- A change whose values are those of their types leaves a world whose values are.
use Rattle.std.proofs.Common.{◌≡◌, ◌⊎◌, inl, inr, ℕ, Bool, true, false, cond, ◌&&◌, List, [], ◌∷◌, ◌++◌, map as map_list, Option, Some, None, is_some, refl, sym, ap, subst, ◌∙◌, true≢false}
use Rattle.std.proofs.Common.{arith, length}
use Rattle.std.specs.Prelude.{◌+◌, bytes_eq, nat_le, ◌==◌, not, unwrap_or}
use Rattle.std.specs.FinMap as map
use Rattle.std.specs.FinMap.{get-empty}
use Rattle.std.specs.Cmp.Lexicographic.{slice_cmp}
use Rattle.std.specs.Ordering.{nat_cmp}
use Rattle.std.specs.List.{AllByRecursion}
use Rattle.std.specs.Str.{is_utf8}
use Rattle.std.proofs.lemmas.Bool.{and_parts, eqb-true, leb-true, or_cases}
use Rattle.std.proofs.lemmas.Slice.Eq.{bytes_eq-Decides}
use Rattle.sqlite_rules.specs.Lists.{Has}
use Rattle.sqlite_rules.proofs.ListLemmas.{has_either, has_filtered}
use Rattle.sqlite_rules.proofs.ProbeLemmas.{has_mapped}
use Rattle.imap_batch.specs.Entered.{FlagChange, flag_change, flag_changes, flags_from, messages_added, messages_from, with_flag_changes}
use Rattle.imap_batch.specs.Batch.{event_count, has_uids, one_if}
use Rattle.imap_batch.specs.Written.{MayWrite as MayWriteBatch, with_batch}
use Rattle.imap_batch.specs.declared.batch.FlagUpdate.{FlagUpdate}
use Rattle.imap_batch.specs.declared.batch.NewMessage.{NewMessage}
use Rattle.imap_batch.specs.declared.write.BatchWrite.{BatchWrite}
use Rattle.imap_batch.proofs.Entering.{writes_are_entered}
use Rattle.imap_mailbox.specs.declared.flags.SharedFlags.{SharedFlags}
use Rattle.imap_mailbox.specs.declared.message.Message.{Message}
use Rattle.imap_mailbox.specs.History.{end_uid}
use Rattle.imap_mailbox.specs.Own.{Own, no_own, own_at}
use Rattle.imap_modseq.specs.Numbers.{max_events}
use Rattle.imap_mailbox.specs.Rows.{is_among}
use Rattle.imap_mailbox.specs.Summary.{Summary, flags_in}
use Rattle.imap_name_map.specs.Renaming.{renamed}
use Rattle.imap_name_map.specs.Rows.{run_of}
use Rattle.imap_name_map.proofs.LookUp.{get_renamed}
use Rattle.imap_name_map.proofs.WithinLaws.{run_is_empty}
use Rattle.imap_names.specs.Name.{Name}
use Rattle.imap_names.specs.Order.{Names, is_within, moved}
use Rattle.imap_names.proofs.NameLaws.{equal_names, get_put, get_without, is_name_at}
use Rattle.imap_syntax.specs.Keywords.{AreKeywords}
use Rattle.imap_world.proofs.Sets.{get_with_option, is_user, set_of-if_filled}
use Rattle.imap_world.specs.Effects.{after_write, after_writes, if_filled, with_subscribed}
use Rattle.imap_name_map.specs.Rows.{inserted_all}
use Rattle.imap_rights.specs.Acl.{AclMap, IsAcl}
use Rattle.imap_tables.specs.Stored.{IsShort}
use Rattle.imap_world.specs.Mailbox.{Mailbox, no_messages}
use Rattle.imap_world.specs.NewMailbox.{mailbox_in}
use Rattle.imap_world.specs.Messages.{messages_changed, with_part}
use Rattle.imap_world.specs.Moving.{with_validities, with_validity}
use Rattle.imap_world.specs.Ready.{IsCurrent, MayBeWritten, MayWrite}
use Rattle.imap_world.specs.Tree.{mailboxes_with_list}
use Rattle.imap_world.specs.World.{NameSet, World, set_of, subscribed_by}
use Rattle.imap_world.specs.declared.change.Write.{Write}
use Rattle.imap_world.specs.declared.change.Write.TheVariants as write
use Rattle.imap_world.specs.declared.named_batch.NamedWrite.{NamedWrite}
use Rattle.imap_records.specs.Values.{AreNewFlags, AreValues, BatchHasValues, HasValues, MailboxHasValues, IsNewMark, IsNewValue, WorldHasValues, WriteHasValues}
use Rattle.imap_records.proofs.Closing.{same_some}
use Rattle.imap_records.proofs.Others.{sub_absent, sub_elsewhere, unsub_elsewhere}
use Rattle.imap_records.proofs.Writes.{is_there, may_be_written, other_there}

-- ---- messages

abbrev AllHave : List Message → Type 0
AllHave ms = (m : Message) → Has ms m → AreValues m.date m.flags

added_have : (uid place : ℕ) (added : List NewMessage) → AllByRecursion IsNewValue added → AllHave (messages_from uid place added)
added_have uid place [] valid m none = absurd none
added_have uid place (x ∷ added) valid m (inl is) = subst (λ (y : Message). AreValues y.date y.flags) (sym is) valid.0
added_have uid place (x ∷ added) valid m (inr there) = added_have (uid + 1) (place + 1) added valid.1 m there

abbrev FlagsHave : List FlagChange → Type 0
FlagsHave cs = (c : FlagChange) → Has cs c → AreKeywords c.flags.keywords

flags_have : (place : ℕ) (marks : List FlagUpdate) → AllByRecursion IsNewMark marks → FlagsHave (flags_from place marks)
flags_have place [] valid c none = absurd none
flags_have place (k ∷ marks) valid c there = by (has_either (flag_change place k.uid k.flags) (flags_from (place + one_if (is_some k.flags)) marks) c there) (flags_have (place + one_if (is_some k.flags)) marks valid.1 c)
  where
    one : (o : Option SharedFlags) → AreNewFlags o → Has (flag_change place k.uid o) c → AreKeywords c.flags.keywords
    one None h none = absurd none
    one (Some flags) h (inl is) = subst (λ (d : FlagChange). AreKeywords d.flags.keywords) (sym is) h
    one (Some flags) h (inr none) = absurd none

    by : Has (flag_change place k.uid k.flags) c ⊎ Has (flags_from (place + one_if (is_some k.flags)) marks) c → (Has (flags_from (place + one_if (is_some k.flags)) marks) c → AreKeywords c.flags.keywords) → AreKeywords c.flags.keywords
    by (inl here) later = one k.flags valid.0 here
    by (inr h) later = later h

flag_put : (c : FlagChange) (x : Message) → AreKeywords c.flags.keywords → AreValues x.date x.flags → AreValues (flags_in c.uid c.flags c.place x).date (flags_in c.uid c.flags c.place x).flags
flag_put c x keywords valid = by (x.uid == c.uid)
  where
    by : (b : Bool) → let y : Message = cond b (record { uid = x.uid; date = x.date; octets = x.octets; flags = c.flags; place = c.place }) x in AreValues y.date y.flags
    by true = record { date = valid.date; keywords = keywords }
    by false = valid

flagged_have : (cs : List FlagChange) (ms : List Message) → FlagsHave cs → AllHave ms → AllHave (with_flag_changes cs ms)
flagged_have [] ms flags all = all
flagged_have (c ∷ cs) ms flags all = flagged_have cs (map_list (flags_in c.uid c.flags c.place) ms) (λ d h. flags d (inr h)) one
  where
    one : AllHave (map_list (flags_in c.uid c.flags c.place) ms)
    one m there =
        let x = has_mapped (flags_in c.uid c.flags c.place) ms m there in
        subst (λ (y : Message). AreValues y.date y.flags) (sym x.2) (flag_put c x.0 (flags c (inl refl)) (all x.0 x.1))

joined_have : (xs ys : List Message) → AllHave xs → AllHave ys → AllHave (xs ++ ys)
joined_have xs ys a b m there = by (has_either xs ys m there)
  where
    by : Has xs m ⊎ Has ys m → AreValues m.date m.flags
    by (inl h) = a m h
    by (inr h) = b m h

-- UIDNEXT has 32 bits, whether or not messages are added
batch_next : (w : BatchWrite) (s : Summary) → MayWriteBatch w s → IsShort s.next → IsShort (with_batch w.batch s).next
batch_next w s may short = subst IsShort (sym (writes_are_entered s w may).next) (by (length w.batch.added) (and_parts (has_uids (length w.batch.added) s.next) (nat_le (s.shared + event_count w.batch) max_events) may.numbers).0)
  where
    by : (n : ℕ) → has_uids n s.next ≡ true → IsShort (s.next + n)
    by n left = elim (or_cases (n == 0) (nat_le (s.next + n) end_uid) left) [
      | inl none ↦ subst (λ k. IsShort (s.next + k)) (sym (eqb-true n 0 none)) (omega (arith, short))
      | inr fits ↦ omega (arith, leb-true (s.next + n) end_uid fits)
    ]

batch_keeps : (w : BatchWrite) (s : Summary) → MayWriteBatch w s → BatchHasValues w.batch → HasValues s → HasValues (with_batch w.batch s)
batch_keeps w s may valid has = record { next = batch_next w s may has.next; messages = messages; users = users }
  where
    messages : (m : Message) → Has (with_batch w.batch s).messages m → AreValues m.date m.flags
    messages m there =
        let e = writes_are_entered s w may in
        let all = with_flag_changes (flag_changes w) (s.messages ++ messages_added w) in
        flagged_have (flag_changes w) (s.messages ++ messages_added w) (flags_have _ w.batch.marks valid.marks)
        (joined_have s.messages (messages_added w) has.messages (added_have w.first_uid w.first_place w.batch.added valid.added)) m
        (has_filtered (λ (x : Message). not (is_among x.uid w.batch.expunged)) all m (subst (λ l. Has l m) e.messages there)).0

    users : (user : List ℕ) (before : ℕ) → Has (own_at (with_batch w.batch s).own user).befores before → is_utf8 user ≡ true
    users user before there = by (bytes_eq user w.batch.user) refl
      where
        by : (b : Bool) → bytes_eq user w.batch.user ≡ b → is_utf8 user ≡ true
        by true e = ap is_utf8 ((bytes_eq-Decides user w.batch.user).0 e) ∙ valid.user
        by false e =
            has.users user before (subst (λ (o : Own). Has o.befores before) ((writes_are_entered s w may).others user (λ h. true≢false (sym ((bytes_eq-Decides user w.batch.user).1 h) ∙ e))) there)

-- ---- mailboxes

abbrev MailboxesHave : Names Mailbox → Type 0
MailboxesHave mailboxes = (name : Name) (m : Mailbox) → map.get mailboxes name ≡ Some m → MailboxHasValues m

put_keeps : (mailboxes : Names Mailbox) (name : Name) (n : Mailbox) → MailboxHasValues n → MailboxesHave mailboxes → MailboxesHave (map.insert mailboxes name n)
put_keeps mailboxes name n valid all q m is = by (is_name_at q name) (sym (get_put mailboxes name n q) ∙ is)
  where
    by : (b : Bool) → cond b (Some n) (map.get mailboxes q) ≡ Some m → MailboxHasValues m
    by true e = subst MailboxHasValues (same_some n m e) valid
    by false e = all q m e

removed_keeps : (mailboxes : Names Mailbox) (name : Name) → MailboxesHave mailboxes → MailboxesHave (map.remove mailboxes name)
removed_keeps mailboxes name all q m is = by (is_name_at q name) (sym (get_without mailboxes name q) ∙ is)
  where
    by : (b : Bool) → cond b None (map.get mailboxes q) ≡ Some m → MailboxHasValues m
    by true e = absurd (cc e)
    by false e = all q m e

list_keeps : (mailboxes : Names Mailbox) (name : Name) (acl : AclMap) → IsAcl acl → MailboxesHave mailboxes → (o : Option Mailbox) → map.get mailboxes name ≡ o → MailboxesHave (mailboxes_with_list mailboxes name acl o)
list_keeps mailboxes name acl valid all None is = all
list_keeps mailboxes name acl valid all (Some m) is =
    let had = all name m is in
    put_keeps mailboxes name (record m { acl = acl }) (record { validity = had.validity; acl = valid; messages = had.messages }) all

part_keeps : (mailboxes : Names Mailbox) (w : NamedWrite) (m : Mailbox) → map.get mailboxes w.name ≡ Some m → MayWriteBatch w.write m.messages → BatchHasValues w.write.batch → MailboxesHave mailboxes → MailboxesHave (with_part mailboxes w)
part_keeps mailboxes w m there may valid all =
    subst (λ o. MailboxesHave (messages_changed w.write.batch mailboxes w.name o)) (sym there)
    (put_keeps mailboxes w.name (record m { messages = with_batch w.write.batch m.messages }) (let had = all w.name m there in record { validity = had.validity; acl = had.acl; messages = batch_keeps w.write m.messages may valid had.messages }) all)

validity_keeps : (m : Names Mailbox) (name : Name) (v : ℕ) → IsShort v → MailboxesHave m → (o : Option Mailbox) → map.get m name ≡ o → MailboxesHave (with_validity m name v o)
validity_keeps m name v short all None is = all
validity_keeps m name v short all (Some k) is =
    let had = all name k is in
    put_keeps m name (record k { validity = v }) (record { validity = short; acl = had.acl; messages = had.messages }) all

validities_keep : (list : List (Name × ℕ)) → AllByRecursion (λ (a : Name × ℕ). IsShort a.1) list → (m : Names Mailbox) → MailboxesHave m → MailboxesHave (with_validities m list)
validities_keep [] short m all = all
validities_keep (a ∷ list) short m all = validities_keep list short.1 (with_validity m a.0 a.1 (map.get m a.0)) (validity_keeps m a.0 a.1 short.0 all (map.get m a.0) refl)

renamed_keeps : (old new : Name) (m : Names Mailbox) → run_of new m ≡ [] → MailboxesHave m → MailboxesHave (renamed old new m)
renamed_keeps old new m free all q k is = by (is_within new q) (is_within old q) (sym (get_renamed old new m q free) ∙ is)
  where
    by : (b c : Bool) → cond b (map.get m (moved new old q)) (cond c None (map.get m q)) ≡ Some k → MailboxHasValues k
    by true c e = all (moved new old q) k e
    by false true e = absurd (cc e)
    by false false e = all q k e

-- ---- used UIDVALIDITYs

abbrev AreShort : Names ℕ → Type 0
AreShort epochs = (name : Name) (greatest : ℕ) → map.get epochs name ≡ Some greatest → IsShort greatest

epoch_keeps : (epochs : Names ℕ) (name : Name) (v : ℕ) → IsShort v → AreShort epochs → AreShort (map.insert epochs name v)
epoch_keeps epochs name v short all q greatest is = by (is_name_at q name) (sym (get_put epochs name v q) ∙ is)
  where
    by : (b : Bool) → cond b (Some v) (map.get epochs q) ≡ Some greatest → IsShort greatest
    by true e = subst IsShort (same_some v greatest e) short
    by false e = all q greatest e

epochs_keep : (list : List (Name × ℕ)) → AllByRecursion (λ (a : Name × ℕ). IsShort a.1) list → (m : Names ℕ) → AreShort m → AreShort (inserted_all m list)
epochs_keep [] short m all = all
epochs_keep (a ∷ list) short m all = epochs_keep list short.1 (map.insert m a.0 a.1) (epoch_keeps m a.0 a.1 short.0 all)

-- ---- subscriptions

set_filled : (world : World) (user : List ℕ) (names : NameSet) → ((u : List ℕ) → map.get world.subscriptions u ≡ if_filled (subscribed_by world u))
    → (u : List ℕ) → map.get (with_subscribed world user names).subscriptions u ≡ if_filled (subscribed_by (with_subscribed world user names) u)
set_filled world user names all u =
    let got = get_with_option world.subscriptions user (if_filled names) u in
    got ∙ by (is_user u user) ∙ ap (λ o. if_filled (set_of o)) (sym got)
  where
    by : (b : Bool) → cond b (if_filled names) (map.get world.subscriptions u) ≡ if_filled (set_of (cond b (if_filled names) (map.get world.subscriptions u)))
    by true = ap if_filled (sym (set_of-if_filled names))
    by false = all u

-- ---- each write

write_keeps : (w : Write) (world : World) → MayWrite w world → WriteHasValues w → WorldHasValues world → WorldHasValues (after_write w world)
write_keeps (write.Put row) world may valid has = record {
  mailboxes = put_keeps world.mailboxes row.name (mailbox_in row) (record { validity = valid.0; acl = valid.1; messages = empty }) has.mailboxes;
  epochs = epoch_keeps world.epochs row.name row.validity valid.0 has.epochs;
  users = has.users;
  filled = has.filled;
}
  where
    nothing : (user : List ℕ) → own_at map.empty user ≡ no_own
    nothing user = ap (λ o. unwrap_or o no_own) (get-empty (slice_cmp nat_cmp) user)

    empty : HasValues no_messages
    empty = record { next = omega (arith); messages = λ m none. absurd none; users = λ user before there. absurd (subst (λ (o : Own). Has o.befores before) (nothing user) there) }
write_keeps (write.SetAcl name acl) world may valid has = record { mailboxes = list_keeps world.mailboxes name acl valid has.mailboxes (map.get world.mailboxes name) refl; epochs = has.epochs; users = has.users; filled = has.filled }
write_keeps (write.Remove name) world may valid has = record { mailboxes = removed_keeps world.mailboxes name has.mailboxes; epochs = has.epochs; users = has.users; filled = has.filled }
write_keeps (write.Move old new arrivals) world may valid has =
    record {
      mailboxes = validities_keep arrivals valid (renamed old new world.mailboxes) (renamed_keeps old new world.mailboxes (run_is_empty new world.mailboxes may.free) has.mailboxes);
      epochs = epochs_keep arrivals valid world.epochs has.epochs;
      users = has.users;
      filled = has.filled;
    }
write_keeps (write.Messages w None) world may valid has =
    let t = is_there world.mailboxes w may.0 in
    record { mailboxes = part_keeps world.mailboxes w t.mailbox t.there t.may valid.0 has.mailboxes; epochs = has.epochs; users = has.users; filled = has.filled }
write_keeps (write.Messages w (Some other)) world may valid has =
    let t = is_there world.mailboxes w may.0 in
    let u = is_there world.mailboxes other may.1.1 in
    record {
      mailboxes = part_keeps (with_part world.mailboxes w) other u.mailbox (other_there world.mailboxes w other t.mailbox u.mailbox may.1.0 t.there u.there) u.may valid.1
          (part_keeps world.mailboxes w t.mailbox t.there t.may valid.0 has.mailboxes);
      epochs = has.epochs;
      users = has.users;
      filled = has.filled;
    }
write_keeps (write.Subscribe user name) world may valid has =
    record { mailboxes = has.mailboxes; epochs = has.epochs; users = users; filled = set_filled world user (map.insert (subscribed_by world user) name tt) has.filled }
  where
    users : (u : List ℕ) (q : Name) → map.contains_key (subscribed_by (after_write (write.Subscribe user name) world) u) q ≡ true → is_utf8 u ≡ true
    users u q there = by (bytes_eq u user && is_name_at q name) refl
      where
        by : (b : Bool) → (bytes_eq u user && is_name_at q name) ≡ b → is_utf8 u ≡ true
        by true e = ap is_utf8 ((bytes_eq-Decides u user).0 (and_parts (bytes_eq u user) (is_name_at q name) e).0) ∙ valid
        by false e = has.users u q (sym (sub_elsewhere world user name u q e) ∙ there)
write_keeps (write.Unsubscribe user name) world may valid has =
    record { mailboxes = has.mailboxes; epochs = has.epochs; users = users; filled = set_filled world user (map.remove (subscribed_by world user) name) has.filled }
  where
    users : (u : List ℕ) (q : Name) → map.contains_key (subscribed_by (after_write (write.Unsubscribe user name) world) u) q ≡ true → is_utf8 u ≡ true
    users u q there = by (bytes_eq u user && is_name_at q name) refl
      where
        by : (b : Bool) → (bytes_eq u user && is_name_at q name) ≡ b → is_utf8 u ≡ true
        by true e =
            let p = and_parts (bytes_eq u user) (is_name_at q name) e in
            let after = subscribed_by (after_write (write.Unsubscribe user name) world) in
            absurd (true≢false (sym there ∙ ap (λ x. map.contains_key (after x) q) ((bytes_eq-Decides u user).0 p.0) ∙ ap (map.contains_key (after user)) (equal_names q name p.1) ∙ sub_absent world user name))
        by false e = has.users u q (sym (unsub_elsewhere world user name u q e) ∙ there)

all_keep : (writes : List Write) (world : World) → MayBeWritten writes world → AllByRecursion WriteHasValues writes → WorldHasValues world → WorldHasValues (after_writes writes world)
all_keep [] world may valid has = has
all_keep (w ∷ writes) world may valid has = all_keep writes (after_write w world) may.1 valid.1 (write_keeps w world may.0 valid.0 has)

pub change_keeps : (change : List Write) → AllByRecursion WriteHasValues change → (world : World) → IsCurrent change world → WorldHasValues world → WorldHasValues (after_writes change world)
change_keeps change valid world current has = all_keep change world (may_be_written change world current) valid has
