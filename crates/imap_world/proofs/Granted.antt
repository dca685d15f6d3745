-- The rights of an identifier, changed on a mailbox.
use Rattle.std.proofs.Common.{◌≡◌, List, ℕ, Option, Some, None, Result, Ok, Err, IsErr, IsErrAnd, refl, sym, subst, ap, ◌∙◌}
use Rattle.std.specs.FinMap as map
use Rattle.imap_names.specs.Name.{Name}
use Rattle.imap_rights.specs.Acl.{AclMap}
use Rattle.imap_rights.specs.declared.change.RightsChange.{RightsChange}
use Rattle.imap_world.specs.Changing.{Answers, Changes, list_with_rights, mailboxes_with_acl, mailboxes_with_rights_at, with_mailboxes, world_with_rights}
use Rattle.imap_world.specs.Mailbox.{Mailbox}
use Rattle.imap_world.specs.Tree.{acl_with_rights, mailboxes_with_list, with_acl}
use Rattle.imap_world.specs.World.{World}
use Rattle.imap_world.specs.declared.error.WorldError.{WorldError}
use Rattle.imap_world.specs.declared.error.WorldError.TheVariants.{Memory}

-- a refusal that is passed on
pub passed : {A E : Type 0} (P : Result A E → Type 0) (r : Result A E) (error : E) → IsErr r × IsErrAnd r (λ e. e ≡ error) → P (Err error) → P r
passed P (Ok a) error h p = absurd (cc h.0)
passed P (Err e) error h p = subst (λ x. P (Err x)) (sym h.1) p

module _ (world : World) (name : Name) (identifier : List ℕ) (change : RightsChange) where
  meant : Option Mailbox → Result World WorldError
  meant o = with_mailboxes world (mailboxes_with_rights_at world.mailboxes name identifier change o)

  -- the list is refused
  pub list_refused : (new : World) (error : WorldError) → Answers (Err error) (list_with_rights (map.get world.mailboxes name) identifier change) → Changes (Err error) new (world_with_rights world name identifier change)
  unfolding meant
  list_refused new error answer = by (map.get world.mailboxes name) answer
    where
      at : (m : Mailbox) (r : Result AclMap WorldError) → Answers (Err error) r → Changes (Err error) new (with_mailboxes world (mailboxes_with_acl world.mailboxes name m r))
      at m (Ok acl) a = a
      at m (Err refusal) a = a

      by : (o : Option Mailbox) → Answers (Err error) (list_with_rights o identifier change) → Changes (Err error) new (meant o)
      by None a = a
      by (Some m) a = at m (acl_with_rights m.acl identifier change) a

  -- there is no room for it
  pub list_without_room : (new : World) (acl : AclMap) → Answers (Ok acl) (list_with_rights (map.get world.mailboxes name) identifier change) → Changes (Err Memory) new (world_with_rights world name identifier change)
  unfolding meant
  list_without_room new acl answer = by (map.get world.mailboxes name) answer
    where
      at : (m : Mailbox) (r : Result AclMap WorldError) → Answers (Ok acl) r → Changes (Err Memory) new (with_mailboxes world (mailboxes_with_acl world.mailboxes name m r))
      at m (Ok wanted) a = refl
      at m (Err refusal) a = absurd a

      by : (o : Option Mailbox) → Answers (Ok acl) (list_with_rights o identifier change) → Changes (Err Memory) new (meant o)
      by None a = absurd a
      by (Some m) a = at m (acl_with_rights m.acl identifier change) a

  -- it is written
  pub list_written : (new : World) (acl : AclMap) → Answers (Ok acl) (list_with_rights (map.get world.mailboxes name) identifier change) → new ≡ with_acl world name acl → Changes (Ok tt) new (world_with_rights world name identifier change)
  unfolding meant
  list_written new acl answer is = by (map.get world.mailboxes name) answer is
    where
      at : (m : Mailbox) (r : Result AclMap WorldError) → Answers (Ok acl) r → new ≡ record world { mailboxes = mailboxes_with_list world.mailboxes name acl (Some m) }
          → Changes (Ok tt) new (with_mailboxes world (mailboxes_with_acl world.mailboxes name m r))
      at m (Ok wanted) a e = e ∙ ap (λ (l : AclMap). record world { mailboxes = mailboxes_with_list world.mailboxes name l (Some m) }) a
      at m (Err refusal) a e = absurd a

      by : (o : Option Mailbox) → Answers (Ok acl) (list_with_rights o identifier change) → new ≡ record world { mailboxes = mailboxes_with_list world.mailboxes name acl o } → Changes (Ok tt) new (meant o)
      by None a e = absurd a
      by (Some m) a e = at m (acl_with_rights m.acl identifier change) a e
