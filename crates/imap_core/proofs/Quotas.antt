-- No step adds more messages than its mailbox may still take.
use Rattle.std.proofs.Common.{◌≡◌, ℕ, ◌-◌, ◌≤◌, Bool, true, false, cond, ◌||◌, List, length, Option, Some, None, sym, ap, subst, ◌∙◌, arith}
use Rattle.std.specs.Prelude.{option_and_then}
use Rattle.std.specs.FinMap as map
use Rattle.imap_names.specs.Name.{Name}
use Rattle.imap_names.specs.Order.{name_cmp}
use Rattle.imap_names.proofs.OrderLaws.{name_antisymmetric}
use Rattle.imap_user_map.proofs.KeptValues.{get-keep}
use Rattle.imap_batch.specs.Seen.{HasRoomToAdd}
use Rattle.imap_batch.specs.declared.batch.Batch.{Batch}
use Rattle.imap_mailbox.specs.History.{room_by}
use Rattle.imap_mailbox.specs.Shown.{Rights, shown_to}
use Rattle.imap_mailbox.specs.Summary.{Summary, room_of}
use Rattle.imap_rights.specs.Effective.{effective}
use Rattle.imap_rights.specs.Rights.{has_any, visible_rights}
use Rattle.imap_world.specs.declared.effect.Effect.{Effect}
use Rattle.imap_world.specs.declared.effect.Effect.TheVariants as effect
use Rattle.imap_world.specs.declared.named_batch.NamedBatch.{NamedBatch}
use Rattle.imap_world.specs.declared.site.Site.{Site}
use Rattle.imap_world.specs.Mailbox.{Mailbox}
use Rattle.imap_world.specs.World.{World}
use Rattle.imap_view.specs.MessagesAfter.{IsPossibleAt, MayAskOf}
use Rattle.imap_view.specs.Seen.{is_root, owner_of, rights_shown, seen_at, seen_by_rights}
use Rattle.imap_view.specs.View.{seen_in, view_of}
use Rattle.imap_answer.proofs.Alike.{viewed}
use Rattle.imap_answer.specs.Fit.{MayBeAsked}
use Rattle.imap_core.specs.Laws.{IsWithinQuotas, QuotasAreKept}
use Rattle.imap_core.specs.Machine.{State, outcome, own_in, view_in}
use Rattle.imap_core.proofs.Fitting.{outcome_fits}

-- a number that is no more than the room is no more than what is left of the messages
left_of_messages : (limit messages next shared count : ℕ) → count ≤ room_by limit messages next shared → count ≤ limit - messages
left_of_messages limit messages next shared count h = omega arith

none_fits : (count left : ℕ) → count ≡ 0 → count ≤ left
none_fits count left h = omega arith

shown_room : (limit : ℕ) (user : List ℕ) (r : Rights) (s : Summary) (count : ℕ)
    → HasRoomToAdd count (shown_to limit user r s).room → count ≤ limit - length s.messages
shown_room limit user r s count = by r.read r.insert r.admin
  where
    by : (read insert admin : Bool) → HasRoomToAdd count (cond (read || (insert || admin)) (Some (room_of limit s)) None) → count ≤ limit - length s.messages
    by true insert admin h = left_of_messages limit _ _ _ count h
    by false true admin h = left_of_messages limit _ _ _ count h
    by false false true h = left_of_messages limit _ _ _ count h
    by false false false h = none_fits count _ h

seen_room : (site : Site) (user : List ℕ) (name : Name) (mailbox : Mailbox) (batch : Batch)
    → IsPossibleAt batch (seen_at site user name mailbox) → length batch.added ≤ site.limits.max_messages - length mailbox.messages.messages
seen_room site user name mailbox batch = by (is_root name) (has_any rights visible_rights)
  where
    rights : ℕ
    rights = effective user (owner_of site name) site.groups mailbox.acl

    by : (root visible : Bool) → IsPossibleAt batch (cond root None (cond visible (Some (seen_by_rights site user rights mailbox)) None))
        → length batch.added ≤ site.limits.max_messages - length mailbox.messages.messages
    by true visible h = absurd h
    by false false h = absurd h
    by false true h = shown_room site.limits.max_messages user (rights_shown rights) mailbox.messages (length batch.added) h.room

module _ (site : Site) (user : List ℕ) (world : World) where
  part_room : (part : NamedBatch) → MayAskOf (view_of site user world) part → (mailbox : Mailbox) → map.get world.mailboxes part.name ≡ Some mailbox
      → length part.batch.added ≤ site.limits.max_messages - length mailbox.messages.messages
  unfolding view_of
  part_room part may mailbox there =
      seen_room site user part.name mailbox part.batch
      (subst (IsPossibleAt part.batch) (get-keep name_cmp (seen_at site user) name_antisymmetric world.mailboxes part.name ∙ ap (option_and_then (seen_at site user part.name)) there) may.possible)

module _ (state : State) (user : List ℕ) where
  parts_room : (asked : Option Effect) → MayBeAsked (view_of state.site user state.world) asked → IsWithinQuotas state asked
  parts_room None may = tt
  parts_room (Some (effect.CreateInbox owner)) may = tt
  parts_room (Some (effect.Create owner name)) may = tt
  parts_room (Some (effect.Delete name)) may = tt
  parts_room (Some (effect.Rename owner old new)) may = tt
  parts_room (Some (effect.SetRights name identifier change)) may = tt
  parts_room (Some (effect.Subscribe subscriber name)) may = tt
  parts_room (Some (effect.Unsubscribe subscriber name)) may = tt
  parts_room (Some (effect.Messages part None)) may = part_room state.site user state.world part may.0
  parts_room (Some (effect.Messages part (Some other))) may =
      (part_room state.site user state.world part may.0, part_room state.site user state.world other may.1.1)

pub quotas_kept : QuotasAreKept
quotas_kept state step kept =
    parts_room state step.who.user (outcome state step).effect
    ((outcome_fits (view_in state step.who.user) (own_in state step.who.user) step).asks (viewed state.site step.who.user state.world kept))
