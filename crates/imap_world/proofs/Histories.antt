-- Worlds after effects.
use Rattle.std.proofs.Common.{◌≡◌, inl, inr, ℕ, ◌+◌, ◌≤◌, Bool, true, false, cond, List, [], ◌∷◌, Option, Some, None, Result, Ok, Err, refl, sym, ap, subst, ◌∙◌, arith}
use Rattle.std.specs.Prelude.{option_map, unwrap_or}
use Rattle.std.specs.FinMap as map
use Rattle.imap_names.specs.Name.{Name}
use Rattle.imap_names.specs.Order.{Names}
use Rattle.imap_names.proofs.NameLaws.{is_name_at, equal_names, get_put}
use Rattle.imap_rights.specs.Acl.{AclMap}
use Rattle.imap_world.specs.declared.change.Write.{Write}
use Rattle.imap_world.specs.declared.change.Write.TheVariants as write
use Rattle.imap_world.specs.declared.effect.Effect.{Effect}
use Rattle.imap_world.specs.declared.error.WorldError.{WorldError}
use Rattle.imap_batch.specs.Written.{with_batch}
use Rattle.imap_world.specs.Mailbox.{Mailbox}
use Rattle.imap_world.specs.Messages.{messages_changed, with_messages, with_part}
use Rattle.imap_world.specs.declared.named_batch.NamedWrite.{NamedWrite}
use Rattle.imap_world.specs.Effects.{writes_of, after_write, after_writes, after_result, after_all, after_steps}
use Rattle.imap_world.specs.Kept.{AreKept, IsSound}
use Rattle.imap_world.specs.Laws.{IsKeptOrNew, KeepsValidities, MessagesStayKept, WorldsStaySound, ValiditiesAreUsedOnce}
use Rattle.imap_world.specs.Ready.{AreApart, MayBeWritten, MayWrite}
use Rattle.imap_world.specs.NewMailbox.{NewMailbox, mailbox_in}
use Rattle.imap_world.specs.Tree.{mailboxes_with_list, with_acl, with_row, without}
use Rattle.imap_world.specs.World.{World, epoch}
use Rattle.imap_world.proofs.Fitting.{apart_may, writes_are_sound}
use Rattle.imap_world.proofs.KeptMessages.{messages_kept}
use Rattle.imap_world.proofs.Moves.{moved_is_kept}
use Rattle.imap_world.proofs.Sound.{found_before}

there : (o : Option Mailbox) (mailbox : Mailbox) → o ≡ Some mailbox → option_map (λ (m : Mailbox). m.validity) o ≡ Some mailbox.validity
there o mailbox is = ap (option_map (λ (m : Mailbox). m.validity)) is

pub keeps_itself : (old : World) → KeepsValidities old old
keeps_itself old = record {
  epochs = λ name. omega arith;
  mailboxes = λ name mailbox is. inl (there (map.get old.mailboxes name) mailbox is);
}

-- ---- one write more

module _ (old world : World) (keeps : KeepsValidities old world) where
  -- the mailboxes stay
  same_kept : (new : World) → new.mailboxes ≡ world.mailboxes → new.epochs ≡ world.epochs → KeepsValidities old new
  same_kept new is counted = record {
    epochs = λ name. subst (λ (m : Names ℕ). epoch old.epochs name ≤ epoch m name) (sym counted) (keeps.epochs name);
    mailboxes = λ name mailbox e. keeps.mailboxes name mailbox (ap (λ (m : Names Mailbox). map.get m name) (sym is) ∙ e);
  }

  -- a mailbox is put under the next validity
  module _ (row : NewMailbox) (next : row.validity ≡ epoch world.epochs row.name + 1) where
    epoch_at : (name : Name) (b : Bool) → is_name_at name row.name ≡ b → epoch old.epochs name ≤ unwrap_or (cond b (Some row.validity) (map.get world.epochs name)) 0
    epoch_at name true at = omega (arith, next, keeps.epochs row.name, ap (epoch old.epochs) (equal_names name row.name at))
    epoch_at name false at = keeps.epochs name

    mailbox_at : (name : Name) (other : Mailbox) (b : Bool) → is_name_at name row.name ≡ b → cond b (Some (mailbox_in row)) (map.get world.mailboxes name) ≡ Some other → IsKeptOrNew old name other.validity
    mailbox_at name other true at e =
        let same : other.validity ≡ row.validity = ap (λ (o : Option Mailbox). (unwrap_or o (mailbox_in row)).validity) (sym e) in
        inr (omega (arith, next, same, keeps.epochs row.name, ap (epoch old.epochs) (equal_names name row.name at)))
    mailbox_at name other false at e = keeps.mailboxes name other e

    row_kept : KeepsValidities old (with_row world row)
    row_kept = record {
      epochs = λ name. subst (λ (o : Option ℕ). epoch old.epochs name ≤ unwrap_or o 0) (sym (get_put world.epochs row.name row.validity name)) (epoch_at name (is_name_at name row.name) refl);
      mailboxes = λ name other e. mailbox_at name other (is_name_at name row.name) refl (sym (get_put world.mailboxes row.name (mailbox_in row) name) ∙ e);
    }

  -- a mailbox has another list
  module _ (k : Name) (acl : AclMap) where
    changed_at : (before : Mailbox) → map.get world.mailboxes k ≡ Some before → (name : Name) (other : Mailbox) (b : Bool) → is_name_at name k ≡ b
        → cond b (Some (record before { acl = acl })) (map.get world.mailboxes name) ≡ Some other → IsKeptOrNew old name other.validity
    changed_at before is name other true at e =
        let same : before.validity ≡ other.validity = ap (λ (o : Option Mailbox). (unwrap_or o before).validity) e in
        subst (IsKeptOrNew old name) same (keeps.mailboxes name before (ap (map.get world.mailboxes) (equal_names name k at) ∙ is))
    changed_at before is name other false at e = keeps.mailboxes name other e

    list_kept_at : (o : Option Mailbox) → map.get world.mailboxes k ≡ o → (name : Name) (other : Mailbox) → map.get (mailboxes_with_list world.mailboxes k acl o) name ≡ Some other → IsKeptOrNew old name other.validity
    list_kept_at None is name other e = keeps.mailboxes name other e
    list_kept_at (Some before) is name other e =
        changed_at before is name other (is_name_at name k) refl (sym (get_put world.mailboxes k (record before { acl = acl }) name) ∙ e)

    list_kept : KeepsValidities old (with_acl world k acl)
    list_kept = record { epochs = keeps.epochs; mailboxes = list_kept_at (map.get world.mailboxes k) refl }

  removed_kept : (k : Name) → KeepsValidities old (without world k)
  removed_kept k = record {
    epochs = keeps.epochs;
    mailboxes = λ name mailbox e. keeps.mailboxes name mailbox (found_before world.mailboxes k name mailbox e);
  }

  -- messages of a mailbox change
  module _ (w : NamedWrite) where
    abbrev after_part : Mailbox → Mailbox
    after_part before = record before { messages = with_batch w.write.batch before.messages }

    part_at : (before : Mailbox) → map.get world.mailboxes w.name ≡ Some before → (name : Name) (other : Mailbox) (b : Bool) → is_name_at name w.name ≡ b
        → cond b (Some (after_part before)) (map.get world.mailboxes name) ≡ Some other → IsKeptOrNew old name other.validity
    part_at before is name other true at e =
        let same : before.validity ≡ other.validity = ap (λ (o : Option Mailbox). (unwrap_or o before).validity) e in
        subst (IsKeptOrNew old name) same (keeps.mailboxes name before (ap (map.get world.mailboxes) (equal_names name w.name at) ∙ is))
    part_at before is name other false at e = keeps.mailboxes name other e

    part_kept_at : (o : Option Mailbox) → map.get world.mailboxes w.name ≡ o → (name : Name) (other : Mailbox) → map.get (messages_changed w.write.batch world.mailboxes w.name o) name ≡ Some other → IsKeptOrNew old name other.validity
    part_kept_at None is name other e = keeps.mailboxes name other e
    part_kept_at (Some before) is name other e = part_at before is name other (is_name_at name w.name) refl (sym (get_put world.mailboxes w.name (after_part before) name) ∙ e)

    part_kept : KeepsValidities old (record world { mailboxes = with_part world.mailboxes w })
    part_kept = record { epochs = keeps.epochs; mailboxes = part_kept_at (map.get world.mailboxes w.name) refl }

parts_kept : (old world : World) → KeepsValidities old world → (w : NamedWrite) (other : Option NamedWrite) → KeepsValidities old (with_messages world w other)
parts_kept old world keeps w None = part_kept old world keeps w
parts_kept old world keeps w (Some other) = part_kept old (record world { mailboxes = with_part world.mailboxes w }) (part_kept old world keeps w) other

module _ (old world : World) (keeps : KeepsValidities old world) where
  pub write_kept : (w : Write) → MayWrite w world → KeepsValidities old (after_write w world)
  write_kept (write.Put row) may = row_kept old world keeps row may.next
  write_kept (write.SetAcl name acl) may = list_kept old world keeps name acl
  write_kept (write.Remove name) may = removed_kept old world keeps name
  write_kept (write.Move from to arrivals) may = moved_is_kept world from to arrivals may old keeps
  write_kept (write.Messages part other) may = parts_kept old world keeps part other
  write_kept (write.Subscribe user name) may = same_kept old world keeps (after_write (write.Subscribe user name) world) refl refl
  write_kept (write.Unsubscribe user name) may = same_kept old world keeps (after_write (write.Unsubscribe user name) world) refl refl

-- ---- several, and one list after another

writes_keep : (old : World) (ws : List Write) (world : World) → MayBeWritten ws world → KeepsValidities old world → KeepsValidities old (after_writes ws world)
writes_keep old [] world may keeps = keeps
writes_keep old (w ∷ ws) world may keeps = writes_keep old ws (after_write w world) may.1 (write_kept old world keeps w may.0)

pub writes_kept : (ws : List Write) (world : World) → MayBeWritten ws world → KeepsValidities world (after_writes ws world)
writes_kept ws world may = writes_keep world ws world may (keeps_itself world)

effects_kept : (effects : List Effect) (old : World) → AreApart effects → KeepsValidities old (after_all effects old)
effects_kept effects old apart = by (writes_of effects old) refl
  where
    by : (r : Result (List Write) WorldError) → writes_of effects old ≡ r → KeepsValidities old (after_result r old)
    by (Err error) is = keeps_itself old
    by (Ok ws) is = writes_kept ws old (apart_may old effects ws apart is)

effects_sound : (effects : List Effect) (old : World) → AreApart effects → IsSound old → IsSound (after_all effects old)
effects_sound effects old apart sound = by (writes_of effects old) refl
  where
    by : (r : Result (List Write) WorldError) → writes_of effects old ≡ r → IsSound (after_result r old)
    by (Err error) is = sound
    by (Ok ws) is = writes_are_sound ws old (apart_may old effects ws apart is) sound

kept_through : (old mid : World) → KeepsValidities old mid → (name : Name) (o : Option Mailbox) (validity : ℕ) → map.get mid.mailboxes name ≡ o → option_map (λ (m : Mailbox). m.validity) o ≡ Some validity → IsKeptOrNew old name validity
kept_through old mid first name None validity is e = cc
kept_through old mid first name (Some before) validity is e =
    subst (IsKeptOrNew old name) (ap (λ o. unwrap_or o validity) e) (first.mailboxes name before is)

still_new : (old mid : World) → KeepsValidities old mid → (name : Name) (validity : ℕ) → IsKeptOrNew mid name validity → IsKeptOrNew old name validity
still_new old mid first name validity (inl kept) = kept_through old mid first name (map.get mid.mailboxes name) validity refl kept
still_new old mid first name validity (inr above) = inr (omega (arith, above, first.epochs name))

keeps_on : (old mid new : World) → KeepsValidities old mid → KeepsValidities mid new → KeepsValidities old new
keeps_on old mid new first later = record {
  epochs = λ name. omega (arith, first.epochs name, later.epochs name);
  mailboxes = λ name mailbox e. still_new old mid first name mailbox.validity (later.mailboxes name mailbox e);
}

pub steps_stay_sound : WorldsStaySound
steps_stay_sound world [] apart sound = sound
steps_stay_sound world (effects ∷ steps) apart sound = steps_stay_sound (after_all effects world) steps apart.1 (effects_sound effects world apart.0 sound)

pub used_once : ValiditiesAreUsedOnce
used_once world [] apart = keeps_itself world
used_once world (effects ∷ steps) apart = keeps_on world (after_all effects world) (after_steps steps (after_all effects world)) (effects_kept effects world apart.0) (used_once (after_all effects world) steps apart.1)

pub effects_keep : (effects : List Effect) (old : World) → AreApart effects → AreKept old.mailboxes → AreKept (after_all effects old).mailboxes
effects_keep effects old apart kept = by (writes_of effects old) refl
  where
    by : (r : Result (List Write) WorldError) → writes_of effects old ≡ r → AreKept (after_result r old).mailboxes
    by (Err error) is = kept
    by (Ok ws) is = messages_kept ws old (apart_may old effects ws apart is) kept

pub all_stay_kept : MessagesStayKept
all_stay_kept world [] apart kept = kept
all_stay_kept world (effects ∷ steps) apart kept = all_stay_kept (after_all effects world) steps apart.1 (effects_keep effects world apart.0 kept)
