-- The mailboxes, with the rights of one changed.
use Rattle.std.proofs.Common.{◌≡◌, ℕ, Bool, true, false, cond, List, Option, Some, None, Result, Ok, Err, refl, sym, ap, subst, ◌∙◌}
use Rattle.std.specs.Prelude.{OnErr}
use Rattle.std.specs.FinMap as map
use Rattle.imap_names.specs.Name.{Name}
use Rattle.imap_names.specs.Order.{Names}
use Rattle.imap_names.proofs.NameLaws.{is_name_at, equal_names, same_names, get_put}
use Rattle.imap_rights.specs.Acl.{AclMap}
use Rattle.imap_rights.specs.declared.change.RightsChange.{RightsChange}
use Rattle.imap_world.specs.Mailbox.{Mailbox}
use Rattle.imap_world.specs.declared.error.WorldError.{WorldError}
use Rattle.imap_world.specs.Kept.{IsSound}
use Rattle.imap_world.specs.World.{World}
use Rattle.imap_world.proofs.Sound.{changed_is_sound, same_is_sound}
use Rattle.imap_world.specs.Changing.{Changes, acl_with_rights, with_mailboxes, mailboxes_with_acl, mailboxes_with_rights, mailboxes_with_rights_at}

pub insert_same : {X : Type 0} (m : Names X) (k : Name) (x : X) → map.get m k ≡ Some x → map.insert m k x ≡ m
insert_same m k x there = same_names _ _ (λ q. get_put m k x q ∙ by q (is_name_at q k) refl)
  where
    by : (q : Name) (b : Bool) → is_name_at q k ≡ b → cond b (Some x) (map.get m q) ≡ map.get m q
    by q true at = sym there ∙ ap (map.get m) (sym (equal_names q k at))
    by q false at = refl

changes_there : (r : Result (Unit {0}) WorldError) (m : Names Mailbox) (name : Name) (mailbox : Mailbox) (new : AclMap) (meant : Result AclMap WorldError) → Changes r new meant → Changes r (map.insert m name (record mailbox { acl = new })) (mailboxes_with_acl m name mailbox meant)
changes_there (Ok done) m name mailbox new (Ok wanted) h = ap (λ acl. map.insert m name (record mailbox { acl = acl })) h
changes_there (Ok done) m name mailbox new (Err refusal) h = h
changes_there (Err error) m name mailbox new (Ok wanted) h = h
changes_there (Err error) m name mailbox new (Err refusal) h = h

pub rights_there : (m : Names Mailbox) (name : Name) (identifier : List ℕ) (change : RightsChange) (before : Mailbox) (new : AclMap) (r : Result (Unit {0}) WorldError) → map.get m name ≡ Some before → Changes r new (acl_with_rights before.acl identifier change)
    → Changes r (map.insert m name (record before { acl = new })) (mailboxes_with_rights m name identifier change)
rights_there m name identifier change before new r there h =
    subst (λ o. Changes r (map.insert m name (record before { acl = new })) (mailboxes_with_rights_at m name identifier change o)) (sym there)
    (changes_there r m name before new (acl_with_rights before.acl identifier change) h)

pub nothing_changed : {Y Z : Type 0} (r : Result (Unit {0}) WorldError) (new old : Y) (kept was : Z) → OnErr r (kept ≡ was) → (kept ≡ was → new ≡ old) → OnErr r (new ≡ old)
nothing_changed (Ok done) new old kept was h f = tt
nothing_changed (Err error) new old kept was h f = f h

-- ---- the world

pub world_there : (r : Result (Unit {0}) WorldError) (world : World) (new : Names Mailbox) (meant : Result (Names Mailbox) WorldError) → Changes r new meant → Changes r (record world { mailboxes = new }) (with_mailboxes world meant)
world_there (Ok done) world new (Ok wanted) h = ap (λ mailboxes. record world { mailboxes = mailboxes }) h
world_there (Ok done) world new (Err refusal) h = h
world_there (Err error) world new (Ok wanted) h = h
world_there (Err error) world new (Err refusal) h = h

module _ (old new : World) (name : Name) (identifier : List ℕ) (change : RightsChange) (counted : new.epochs ≡ old.epochs) (sound : IsSound old) where
  by_acl : (before : Mailbox) → map.get old.mailboxes name ≡ Some before → (meant : Result AclMap WorldError) → Changes (Ok tt) new.mailboxes (mailboxes_with_acl old.mailboxes name before meant) → IsSound new
  by_acl before there (Ok acl) h = changed_is_sound old new name before (record before { acl = acl }) h counted there refl sound
  by_acl before there (Err refusal) h = absurd h

  by_mailbox : (o : Option Mailbox) → map.get old.mailboxes name ≡ o → Changes (Ok tt) new.mailboxes (mailboxes_with_rights_at old.mailboxes name identifier change o) → IsSound new
  by_mailbox None there h = absurd h
  by_mailbox (Some before) there h = by_acl before there (acl_with_rights before.acl identifier change) h

  pub rights_are_sound : (r : Result (Unit {0}) WorldError) → Changes r new.mailboxes (mailboxes_with_rights old.mailboxes name identifier change) → OnErr r (new.mailboxes ≡ old.mailboxes) → IsSound new
  rights_are_sound (Ok done) h err = by_mailbox (map.get old.mailboxes name) refl h
  rights_are_sound (Err error) h err = same_is_sound old new err counted sound

pub on_err_map : {Y Z : Type 0} (f : Y → Z) (new old : Y) (r : Result (Unit {0}) WorldError) → OnErr r (new ≡ old) → OnErr r (f new ≡ f old)
on_err_map f new old (Ok done) h = tt
on_err_map f new old (Err error) h = ap f h
