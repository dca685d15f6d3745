-- Whatever is written, each mailbox is what events made of it.
use Rattle.std.proofs.Common.{◌≡◌, ℕ, Bool, true, false, cond, List, [], ◌∷◌, Option, Some, None, Result, Ok, Err, refl, sym, ap, subst, ◌∙◌}
use Rattle.std.specs.Prelude.{unwrap_or}
use Rattle.std.specs.FinMap as map
use Rattle.std.specs.FinMap.{get-empty}
use Rattle.imap_batch.specs.Events.{IsReached, history_with}
use Rattle.imap_batch.specs.Written.{with_batch}
use Rattle.imap_batch.specs.declared.batch.Batch.{Batch}
use Rattle.imap_batch.proofs.Events.{batches_are_events}
use Rattle.imap_mailbox.specs.Called.{IsHistoryOf}
use Rattle.imap_mailbox.specs.History.{History}
use Rattle.imap_mailbox.proofs.Merged.{found_empty}
use Rattle.imap_mailbox.specs.Summary.{Summary, gone_of, highest_of, new_summary, rows_of}
use Rattle.imap_mailbox.proofs.Bridge.{counts_are_those_of_events, gone_are_those_of_events, rows_are_those_of_events}
use Rattle.imap_mailbox.proofs.Client.{client_is_brought_up}
use Rattle.imap_mailbox.proofs.Lawful.{lawful_stays}
use Rattle.imap_name_map.specs.Renaming.{renamed}
use Rattle.imap_name_map.specs.Rows.{run_of}
use Rattle.imap_name_map.proofs.LookUp.{get_renamed}
use Rattle.imap_name_map.proofs.WithinLaws.{run_is_empty}
use Rattle.imap_names.specs.Name.{Name}
use Rattle.imap_names.specs.Order.{Names, name_cmp, is_within, moved}
use Rattle.imap_names.proofs.NameLaws.{is_name_at, get_put}
use Rattle.imap_rights.specs.Acl.{AclMap}
use Rattle.imap_world.specs.declared.change.Write.{Write}
use Rattle.imap_world.specs.declared.change.Write.TheVariants as write
use Rattle.imap_world.specs.declared.effect.Effect.{Effect}
use Rattle.imap_world.specs.declared.error.WorldError.{WorldError}
use Rattle.imap_world.specs.declared.named_batch.NamedWrite.{NamedWrite}
use Rattle.imap_world.specs.Effects.{after_all, after_result, after_write, after_writes, writes_of}
use Rattle.imap_world.specs.Mailbox.{Mailbox, new_mailbox, no_messages}
use Rattle.imap_world.specs.Messages.{messages_changed, with_part, with_parts}
use Rattle.imap_world.specs.Moving.{with_validities, with_validity}
use Rattle.imap_world.specs.Ready.{AreApart, MayBeWritten, MayWrite}
use Rattle.imap_world.specs.Tree.{mailboxes_with_list}
use Rattle.imap_world.specs.World.{World}
use Rattle.imap_world.proofs.Fitting.{apart_may}
use Rattle.imap_world.proofs.Sound.{found_before}
use Rattle.imap_core.specs.MadeByEvents.{AreMadeByEvents, IsMadeByEvents, RunsAreMadeByEvents, StartsAreMadeByEvents}
use Rattle.imap_core.specs.Machine.{next, outcome}
use Rattle.imap_core.specs.Opening.{admission}
use Rattle.imap_core.proofs.Starting.{admission_apart}
use Rattle.imap_sessions.proofs.InStep.{one_is_apart}
use Rattle.imap_answer.specs.Alike.{effects_of}

-- ---- one mailbox

made_of : (s : Summary) (history : History) → IsHistoryOf s history → IsMadeByEvents s
made_of s history is = record {
  history = history;
  of_them = is;
  rows = λ user. ap (λ (t : Summary). rows_of t user) (sym is.summary) ∙ rows_are_those_of_events history user (is.lawful user);
  gone = λ user. ap (λ (t : Summary). gone_of t user) (sym is.summary) ∙ gone_are_those_of_events history user (is.lawful user);
  highest = λ user. ap (λ (t : Summary). highest_of t user) (sym is.summary) ∙ (counts_are_those_of_events history user 0).2;
  brought_up = λ user n. client_is_brought_up s history user n is.summary (is.lawful user);
}

new_is_made : IsMadeByEvents no_messages
new_is_made = made_of no_messages (record { shared = []; own = map.empty }) (record { summary = ap new_summary found_empty; lawful = lawful_stays.0 })

batch_is_made : (b : Batch) (s : Summary) → IsMadeByEvents s → IsMadeByEvents (with_batch b s)
batch_is_made b s before = by (batches_are_events b s)
  where
    by : IsReached s (with_batch b s) → IsMadeByEvents (with_batch b s)
    by reached = made_of (with_batch b s) (history_with reached.0 before.history) (reached.1.history before.history before.of_them)

-- ---- the mailboxes after a write

pub none_are_made : AreMadeByEvents map.empty
none_are_made = record { at = λ name mailbox e. absurd (cc (sym (get-empty name_cmp name) ∙ e)) }

module _ (m : Names Mailbox) (made : AreMadeByEvents m) where
  put_is_made : (k : Name) (x : Mailbox) → IsMadeByEvents x.messages → AreMadeByEvents (map.insert m k x)
  put_is_made k x fine = record { at = λ q mailbox e. by q mailbox (is_name_at q k) (sym (get_put m k x q) ∙ e) }
    where
      by : (q : Name) (mailbox : Mailbox) (b : Bool) → cond b (Some x) (map.get m q) ≡ Some mailbox → IsMadeByEvents mailbox.messages
      by q mailbox true e = subst (λ (o : Option Mailbox). IsMadeByEvents (unwrap_or o x).messages) e fine
      by q mailbox false e = made.at q mailbox e

  rest_is_made : (k : Name) → AreMadeByEvents (map.remove m k)
  rest_is_made k = record { at = λ q mailbox e. made.at q mailbox (found_before m k q mailbox e) }

  listed_is_made : (k : Name) (acl : AclMap) (o : Option Mailbox) → map.get m k ≡ o → AreMadeByEvents (mailboxes_with_list m k acl o)
  listed_is_made k acl None there = made
  listed_is_made k acl (Some before) there = put_is_made k (record before { acl = acl }) (made.at k before there)

  counted_is_made : (k : Name) (validity : ℕ) (o : Option Mailbox) → map.get m k ≡ o → AreMadeByEvents (with_validity m k validity o)
  counted_is_made k validity None there = made
  counted_is_made k validity (Some before) there = put_is_made k (record before { validity = validity }) (made.at k before there)

  moved_is_made : (old new : Name) → run_of new m ≡ [] → AreMadeByEvents (renamed old new m)
  moved_is_made old new free = record { at = λ q mailbox e. by q mailbox (is_within new q) (is_within old q) (sym (get_renamed old new m q free) ∙ e) }
    where
      by : (q : Name) (mailbox : Mailbox) (b d : Bool) → cond b (map.get m (moved new old q)) (cond d None (map.get m q)) ≡ Some mailbox → IsMadeByEvents mailbox.messages
      by q mailbox true d e = made.at (moved new old q) mailbox e
      by q mailbox false true e = absurd (cc e)
      by q mailbox false false e = made.at q mailbox e

  changed_is_made : (b : Batch) (k : Name) (o : Option Mailbox) → map.get m k ≡ o → AreMadeByEvents (messages_changed b m k o)
  changed_is_made b k None there = made
  changed_is_made b k (Some before) there =
      put_is_made k (record before { messages = with_batch b before.messages }) (batch_is_made b before.messages (made.at k before there))

all_counted : (arrivals : List (Name × ℕ)) (m : Names Mailbox) → AreMadeByEvents m → AreMadeByEvents (with_validities m arrivals)
all_counted [] m made = made
all_counted (a ∷ arrivals) m made = all_counted arrivals (with_validity m a.0 a.1 (map.get m a.0)) (counted_is_made m made a.0 a.1 (map.get m a.0) refl)

part_is_made : (m : Names Mailbox) (w : NamedWrite) → AreMadeByEvents m → AreMadeByEvents (with_part m w)
part_is_made m w made = changed_is_made m made w.write.batch w.name (map.get m w.name) refl

parts_are_made : (m : Names Mailbox) (w : NamedWrite) (other : Option NamedWrite) → AreMadeByEvents m → AreMadeByEvents (with_parts m w other)
parts_are_made m w None made = part_is_made m w made
parts_are_made m w (Some other) made = part_is_made (with_part m w) other (part_is_made m w made)

write_is_made : (w : Write) (world : World) → MayWrite w world → AreMadeByEvents world.mailboxes → AreMadeByEvents (after_write w world).mailboxes
write_is_made (write.Put row) world may made = put_is_made world.mailboxes made row.name (new_mailbox row.validity row.acl) new_is_made
write_is_made (write.SetAcl name acl) world may made = listed_is_made world.mailboxes made name acl (map.get world.mailboxes name) refl
write_is_made (write.Remove name) world may made = rest_is_made world.mailboxes made name
write_is_made (write.Move old new arrivals) world may made =
    all_counted arrivals (renamed old new world.mailboxes) (moved_is_made world.mailboxes made old new (run_is_empty new world.mailboxes may.free))
write_is_made (write.Messages part other) world may made = parts_are_made world.mailboxes part other made
write_is_made (write.Subscribe user name) world may made = made
write_is_made (write.Unsubscribe user name) world may made = made

writes_are_made : (ws : List Write) (world : World) → MayBeWritten ws world → AreMadeByEvents world.mailboxes → AreMadeByEvents (after_writes ws world).mailboxes
writes_are_made [] world may made = made
writes_are_made (w ∷ ws) world may made = writes_are_made ws (after_write w world) may.1 (write_is_made w world may.0 made)

effects_are_made : (effects : List Effect) (old : World) → AreApart effects → AreMadeByEvents old.mailboxes → AreMadeByEvents (after_all effects old).mailboxes
effects_are_made effects old apart made = by (writes_of effects old) refl
  where
    by : (r : Result (List Write) WorldError) → writes_of effects old ≡ r → AreMadeByEvents (after_result r old).mailboxes
    by (Err error) is = made
    by (Ok ws) is = writes_are_made ws old (apart_may old effects ws apart is) made

-- ---- starts and runs

pub starts_are_made : StartsAreMadeByEvents
starts_are_made world administrator users groups limits made =
    effects_are_made (admission world administrator users).effects world (admission_apart world administrator users) made

pub runs_are_made : RunsAreMadeByEvents
runs_are_made state [] made = made
runs_are_made state (step ∷ steps) made =
    runs_are_made (next state step) steps (effects_are_made (effects_of (outcome state step).effect) state.world (one_is_apart (outcome state step).effect) made)
