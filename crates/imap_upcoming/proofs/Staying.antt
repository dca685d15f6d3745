-- A session that is in step with its mailbox stays so while its user changes the mailbox.
use Rattle.std.proofs.Common.{◌≡◌, ⊎_elim, ℕ, ◌+◌, ◌<◌, ◌≤◌, List, length, Option, Some, None, refl, sym, ap, subst, ◌∙◌, arith}
use Rattle.std.specs.Prelude.{nat_le, option_map}
use Rattle.std.proofs.lemmas.Bool.{and_parts, cases_lt}
use Rattle.imap_batch.proofs.Entering.{writes_are_entered}
use Rattle.imap_batch.proofs.Kept.{batches_keep}
use Rattle.imap_batch.proofs.Steps.{uids_left}
use Rattle.imap_batch.specs.Batch.{event_count, has_uids}
use Rattle.imap_batch.specs.Written.{MayWrite, with_batch}
use Rattle.imap_batch.specs.declared.write.BatchWrite.{BatchWrite}
use Rattle.imap_mailbox.proofs.BroughtUp.{shown_is_ordered}
use Rattle.imap_mailbox.specs.Brought.{Agree, highest_in, known_uids}
use Rattle.imap_mailbox.specs.Held.{IsKept}
use Rattle.imap_mailbox.specs.Rows.{first_uid}
use Rattle.imap_mailbox.specs.Shown.{content_of}
use Rattle.imap_mailbox.specs.Summary.{Rises, Summary, highest_of, rows_of}
use Rattle.imap_modseq.specs.Numbers.{max_events}
use Rattle.imap_rights.specs.Acl.{AclMap}
use Rattle.imap_session.proofs.ByUid.{later_by_uid}
use Rattle.imap_session.specs.ByUid.{IsBroughtByUid}
use Rattle.imap_session.specs.Held.{uid_limit}
use Rattle.imap_view.specs.declared.readable.Readable.{Readable}
use Rattle.imap_world.specs.Effects.{after_writes}
use Rattle.imap_world.specs.Mailbox.{Mailbox}
use Rattle.imap_upcoming.proofs.Reading.{read_of}
use Rattle.imap_upcoming.proofs.Turned.{asked_turns}
use Rattle.imap_upcoming.specs.Changed.{acl_after, batch_for, messages_after}
use Rattle.imap_upcoming.specs.InStep.{IsInStepWith, OwnChangesKeepInStep}
use Rattle.imap_upcoming.specs.Readable.{messages_for}

module _ (user : List ℕ) (up_to : ℕ) (known : List ℕ) where
  -- what a session was told, by the messages themselves
  record IsTold (s : Summary) : Type 0 where
    brought : IsBroughtByUid up_to known (content_of user s)
    few : s.next < uid_limit

  told : (validity : ℕ) (s : Summary) (r : Readable) → r ≡ messages_for user validity s → IsInStepWith up_to known r → IsTold s
  told validity s r is (c, next, step) =
      let next_is : c.next ≡ s.next = next ∙ ap (λ (r : Readable). r.next_uid) is in
      let rows_are : c.rows ≡ rows_of s user = step.shows ∙ ap (λ (r : Readable). r.rows) is in
      let highest_is : highest_in c ≡ highest_of s user = step.ends ∙ ap (λ (r : Readable). r.highest) is in
      record {
        brought = record {
          messages = step.brought.messages;
          known = step.brought.known;
          brought = record {
            before = subst (λ n. up_to ≤ n) highest_is step.brought.brought.before;
            uids = subst (λ n. Rises first_uid n (known_uids step.brought.messages)) next_is step.brought.brought.uids;
            told = step.brought.brought.told;
            agree = subst (Agree up_to step.brought.messages) rows_are step.brought.brought.agree;
          };
        };
        few = subst (λ n. n < uid_limit) next_is step.few;
      }

  in_step : (validity : ℕ) (s : Summary) → IsKept s → IsTold s → IsInStepWith up_to known (messages_for user validity s)
  in_step validity s kept is = (
    content_of user s,
    refl,
    record { shows = refl; ends = refl; ordered = shown_is_ordered s user kept; brought = is.brought; few = is.few },
  )

  -- ---- after a batch

  few_uids : (w : BatchWrite) (s : Summary) → MayWrite w s → s.next < uid_limit → (with_batch w.batch s).next < uid_limit
  few_uids w s may lt =
      let count = length w.batch.added in
      let entered = (writes_are_entered s w may).next in
      let uids = (and_parts (has_uids count s.next) (nat_le (s.shared + event_count w.batch) max_events) may.numbers).0 in
      ⊎_elim
      (λ (some : 0 < count). omega (arith, entered, uids_left count s.next uids some))
      (λ (none : count ≤ 0). omega (arith, entered, none, lt))
      (cases_lt 0 count)

  told_after : (o : Option BatchWrite) (s : Summary) → ((w : BatchWrite) → o ≡ Some w → MayWrite w s × (w.batch.user ≡ user)) → IsKept s → IsTold s → IsKept (messages_after o s) × IsTold (messages_after o s)
  told_after None s may kept is = (kept, is)
  told_after (Some w) s may kept is =
      let write = (may w refl).0 in
      let keeps = batches_keep s w write kept in (
        keeps.0,
        record { brought = later_by_uid (content_of user s) (content_of user (with_batch w.batch s)) up_to known (keeps.1.later user) is.brought; few = few_uids w s write is.few },
      )

some_same : {A : Type 0} (x y : A) → Some x ≡ Some y → x ≡ y
some_same x y e = cc

-- a mailbox that keeps its name keeps its UIDVALIDITY
record IsLeft (validity : ℕ) (messages : Summary) (m : Mailbox) : Type 0 where
  validity_is : validity ≡ m.validity
  messages_are : messages ≡ m.messages

abbrev with_list : (validity : ℕ) → Summary → AclMap → Mailbox
with_list validity messages acl = record { validity = validity; acl = acl; messages = messages }

is_left : (validity : ℕ) (messages : Summary) (o : Option AclMap) (m : Mailbox) → option_map (with_list validity messages) o ≡ Some m → IsLeft validity messages m
is_left validity messages None m e = absurd (cc e)
is_left validity messages (Some acl) m e =
    let is : with_list validity messages acl ≡ m = some_same (with_list validity messages acl) m e in
    record { validity_is = ap (λ (x : Mailbox). x.validity) is; messages_are = ap (λ (x : Mailbox). x.messages) is }

pub own_changes_keep : OwnChangesKeepInStep
own_changes_keep site user world change name up_to known before after sound kept asked is_before is_after step =
    let old = read_of site user world name before is_before in
    let new = read_of site user (after_writes change world) name after is_after in
    let turned = asked_turns user world sound name old.mailbox old.there site change asked in
    let messages = messages_after (batch_for name change) old.mailbox.messages in
    let left = is_left old.mailbox.validity messages (acl_after name old.mailbox.acl change) new.mailbox (sym turned.found ∙ new.there) in
    let all = told_after user up_to known (batch_for name change) old.mailbox.messages turned.may (kept.at name old.mailbox old.there)
    (told user up_to known old.mailbox.validity old.mailbox.messages before old.is step) in (
      ap (λ (r : Readable). r.validity) old.is ∙ left.validity_is ∙ sym (ap (λ (r : Readable). r.validity) new.is),
      subst (IsInStepWith up_to known) (ap (messages_for user new.mailbox.validity) left.messages_are ∙ sym new.is)
          (in_step user up_to known new.mailbox.validity messages all.0 all.1),
    )
