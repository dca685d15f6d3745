-- Messages of a mailbox grow, under its name and UIDVALIDITY.
use Rattle.std.proofs.Common.{◌≡◌, ◌⊎◌, inl, inr, ◌<◌, Bool, true, false, cond, List, [], ◌∷◌, Option, Some, None, Result, Ok, Err, refl, sym, ap, subst, ◌∙◌, arith}
use Rattle.std.specs.Prelude.{unwrap_or}
use Rattle.std.specs.FinMap as map
use Rattle.imap_batch.proofs.Kept.{batches_keep}
use Rattle.imap_batch.specs.Written.{with_batch}
use Rattle.imap_names.specs.Name.{Name}
use Rattle.imap_names.proofs.NameLaws.{is_name_at, equal_names, get_put}
use Rattle.imap_rights.specs.Acl.{AclMap}
use Rattle.imap_world.specs.declared.change.Write.{Write}
use Rattle.imap_world.specs.declared.change.Write.TheVariants as write
use Rattle.imap_world.specs.declared.effect.Effect.{Effect}
use Rattle.imap_world.specs.declared.error.WorldError.{WorldError}
use Rattle.imap_world.specs.declared.named_batch.NamedWrite.{NamedWrite}
use Rattle.imap_world.specs.Effects.{after_all, after_result, after_steps, after_write, after_writes, writes_of}
use Rattle.imap_world.specs.Kept.{AreKept}
use Rattle.imap_world.specs.Laws.{IsGrownFrom, IsGrownFromSome, IsGrownOrNew, MessagesGrow, MessagesGrown}
use Rattle.imap_world.specs.Mailbox.{Mailbox}
use Rattle.imap_world.specs.Messages.{messages_changed, with_messages, with_part}
use Rattle.imap_world.specs.NewMailbox.{mailbox_in}
use Rattle.imap_world.specs.Ready.{AreApart, MayBeWritten, MayChange, MayChangeAt, MayChangeParts, MayWrite}
use Rattle.imap_world.specs.Tree.{mailboxes_with_list}
use Rattle.imap_world.specs.World.{World, epoch}
use Rattle.imap_world.proofs.Fitting.{apart_may}
use Rattle.imap_world.proofs.Histories.{effects_keep, keeps_itself, write_kept}
use Rattle.imap_world.proofs.KeptMessages.{write_keeps}
use Rattle.imap_world.proofs.Moves.{moved_each}
use Rattle.imap_world.proofs.Parts.{kept_part, still_may}
use Rattle.imap_world.proofs.Sound.{found_before}

itself : (m : Mailbox) → IsGrownFrom m m
itself m = record {
  validity = refl;
  messages = record { next = omega arith; shared = omega arith; later = λ user up_to known h. h };
}

stays : (old : World) (q : Name) (before after : Mailbox) → map.get old.mailboxes q ≡ Some before → IsGrownFrom before after → IsGrownOrNew old q after
stays old q before after there grown = inl (subst (IsGrownFromSome after) (sym there) grown)

same_at : (old : World) (q : Name) (mailbox : Mailbox) → map.get old.mailboxes q ≡ Some mailbox → IsGrownOrNew old q mailbox
same_at old q mailbox there = stays old q mailbox mailbox there (itself mailbox)

-- ---- one after the other

grown_on : (a b c : Mailbox) → IsGrownFrom a b → IsGrownFrom b c → IsGrownFrom a c
grown_on a b c first later = record {
  validity = first.validity ∙ later.validity;
  messages = record {
    next = omega (arith, first.messages.next, later.messages.next);
    shared = omega (arith, first.messages.shared, later.messages.shared);
    later = λ user up_to known h. later.messages.later user up_to known (first.messages.later user up_to known h);
  };
}

from_some : (c : Mailbox) (o : Option Mailbox) (b : Mailbox) → IsGrownFromSome b o → IsGrownFrom b c → IsGrownFromSome c o
from_some c None b first later = first
from_some c (Some a) b first later = grown_on a b c first later

grows_on : (old mid new : World) → MessagesGrown old mid → MessagesGrown mid new → MessagesGrown old new
grows_on old mid new first later = record {
  epochs = λ name. omega (arith, first.epochs name, later.epochs name);
  mailboxes = λ name c e. by name c (map.get mid.mailboxes name) refl (later.mailboxes name c e);
}
  where
    joined : (name : Name) (b c : Mailbox) → IsGrownOrNew old name b → IsGrownFrom b c → IsGrownOrNew old name c
    joined name b c (inl grown) step = inl (from_some c (map.get old.mailboxes name) b grown step)
    joined name b c (inr above) step = inr (omega (arith, above, step.validity))

    by : (name : Name) (c : Mailbox) (o : Option Mailbox) → map.get mid.mailboxes name ≡ o → IsGrownFromSome c o ⊎ (epoch mid.epochs name < c.validity) → IsGrownOrNew old name c
    by name c o is (inr above) = inr (omega (arith, above, first.epochs name))
    by name c None is (inl grown) = absurd grown
    by name c (Some b) is (inl grown) = joined name b c (first.mailboxes name b is) grown

grows_itself : (old : World) → MessagesGrown old old
grows_itself old = record { epochs = λ name. omega arith; mailboxes = same_at old }

-- ---- one write

module _ (world : World) where
  -- one mailbox is another
  put_at : (k : Name) (new : Mailbox) → IsGrownOrNew world k new → (q : Name) (mailbox : Mailbox) → map.get (map.insert world.mailboxes k new) q ≡ Some mailbox → IsGrownOrNew world q mailbox
  put_at k new grown q mailbox e = by (is_name_at q k) refl (sym (get_put world.mailboxes k new q) ∙ e)
    where
      by : (b : Bool) → is_name_at q k ≡ b → cond b (Some new) (map.get world.mailboxes q) ≡ Some mailbox → IsGrownOrNew world q mailbox
      by true at e =
          let same : new ≡ mailbox = ap (λ (o : Option Mailbox). unwrap_or o new) e in
          subst (IsGrownOrNew world q) same (subst (λ n. IsGrownOrNew world n new) (sym (equal_names q k at)) grown)
      by false at e = same_at world q mailbox e

  list_at : (k : Name) (acl : AclMap) (o : Option Mailbox) → map.get world.mailboxes k ≡ o → (q : Name) (mailbox : Mailbox) → map.get (mailboxes_with_list world.mailboxes k acl o) q ≡ Some mailbox → IsGrownOrNew world q mailbox
  list_at k acl None there q mailbox e = same_at world q mailbox e
  list_at k acl (Some before) there q mailbox e =
      put_at k (record before { acl = acl }) (stays world k before (record before { acl = acl }) there (record { validity = refl; messages = (itself before).messages })) q mailbox e

  part_at : AreKept world.mailboxes → (w : NamedWrite) (o : Option Mailbox) → map.get world.mailboxes w.name ≡ o → MayChangeAt w.write o
      → (q : Name) (mailbox : Mailbox) → map.get (messages_changed w.write.batch world.mailboxes w.name o) q ≡ Some mailbox → IsGrownOrNew world q mailbox
  part_at kept w None there may q mailbox e = absurd may
  part_at kept w (Some before) there may q mailbox e =
      let new : Mailbox = record before { messages = with_batch w.write.batch before.messages } in
      put_at w.name new (stays world w.name before new there (record { validity = refl; messages = (batches_keep before.messages w.write may (kept.at w.name before there)).1 })) q mailbox e

  part_grows : AreKept world.mailboxes → (w : NamedWrite) → MayChange world.mailboxes w → MessagesGrown world (record world { mailboxes = with_part world.mailboxes w })
  part_grows kept w may = record { epochs = λ name. omega arith; mailboxes = part_at kept w (map.get world.mailboxes w.name) refl may }

parts_grow : (world : World) → AreKept world.mailboxes → (w : NamedWrite) (other : Option NamedWrite) → MayChangeParts world.mailboxes w other → MessagesGrown world (with_messages world w other)
parts_grow world kept w None may = part_grows world kept w may.0
parts_grow world kept w (Some other) may =
    let mid : World = record world { mailboxes = with_part world.mailboxes w } in
    grows_on world mid (with_messages world w (Some other)) (part_grows world kept w may.0)
    (part_grows mid (kept_part world.mailboxes kept w may.0) other (still_may world.mailboxes w other may.1.0 may.1.1))

-- by what is found at each name, and what was counted
grown_by : (world : World) (w : Write) → MayWrite w world
    → ((q : Name) (mailbox : Mailbox) → map.get (after_write w world).mailboxes q ≡ Some mailbox → IsGrownOrNew world q mailbox) → MessagesGrown world (after_write w world)
grown_by world w may each = record {
  epochs = (write_kept world world (keeps_itself world) w may).epochs;
  mailboxes = each;
}

write_grows : (w : Write) (world : World) → MayWrite w world → AreKept world.mailboxes → MessagesGrown world (after_write w world)
write_grows (write.Put row) world may kept = grown_by world (write.Put row) may (put_at world row.name (mailbox_in row) (inr (omega (arith, may.next))))
write_grows (write.SetAcl name acl) world may kept = grown_by world (write.SetAcl name acl) may (list_at world name acl (map.get world.mailboxes name) refl)
write_grows (write.Remove name) world may kept = grown_by world (write.Remove name) may (λ q mailbox e. same_at world q mailbox (found_before world.mailboxes name q mailbox e))
write_grows (write.Move old new arrivals) world may kept =
    grown_by world (write.Move old new arrivals) may
    (moved_each world old new arrivals may (IsGrownOrNew world) (λ q mailbox next. inr (omega (arith, next))) (same_at world))
write_grows (write.Messages part other) world may kept = parts_grow world kept part other may
write_grows (write.Subscribe user name) world may kept = grown_by world (write.Subscribe user name) may (same_at world)
write_grows (write.Unsubscribe user name) world may kept = grown_by world (write.Unsubscribe user name) may (same_at world)

-- ---- several, and one list after another

writes_grow : (ws : List Write) (world : World) → MayBeWritten ws world → AreKept world.mailboxes → MessagesGrown world (after_writes ws world)
writes_grow [] world may kept = grows_itself world
writes_grow (w ∷ ws) world may kept =
    grows_on world (after_write w world) (after_writes ws (after_write w world)) (write_grows w world may.0 kept)
    (writes_grow ws (after_write w world) may.1 (write_keeps w world may.0 kept))

effects_grow : (effects : List Effect) (old : World) → AreApart effects → AreKept old.mailboxes → MessagesGrown old (after_all effects old)
effects_grow effects old apart kept = by (writes_of effects old) refl
  where
    by : (r : Result (List Write) WorldError) → writes_of effects old ≡ r → MessagesGrown old (after_result r old)
    by (Err error) is = grows_itself old
    by (Ok ws) is = writes_grow ws old (apart_may old effects ws apart is) kept

pub messages_grow : MessagesGrow
messages_grow world [] apart kept = grows_itself world
messages_grow world (effects ∷ steps) apart kept =
    let mid : World = after_all effects world in
    grows_on world mid (after_steps steps mid) (effects_grow effects world apart.0 kept)
    (messages_grow mid steps apart.1 (effects_keep effects world apart.0 kept))
