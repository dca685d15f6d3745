use Rattle.std.proofs.Common.{◌≡◌, ℕ, Bool, true, false, cond, List, [], ◌∷◌, Option, Some, None, Result, Ok, Err, refl, sym, subst, ◌∙◌}
use Rattle.std.specs.Prelude.{unwrap_or, OnErr}
use Rattle.imap_name_map.proofs.WithinLaws.{run_is_empty}
use Rattle.imap_world.specs.declared.change.Write.{Write}
use Rattle.imap_world.specs.declared.change.Write.TheVariants as write
use Rattle.imap_world.specs.Effects.{after_write, after_writes}
use Rattle.imap_world.specs.Ready.{MayBeWritten, MayWrite}
use Rattle.imap_world.specs.World.{World}
use Rattle.std.specs.FinMap as map
use Rattle.std.specs.FinMap.{get-empty}
use Rattle.imap_batch.specs.Held.{IsKept}
use Rattle.imap_batch.proofs.Keeping.{kept_new}
use Rattle.imap_name_map.specs.Renaming.{renamed}
use Rattle.imap_name_map.specs.Rows.{run_of}
use Rattle.imap_name_map.proofs.LookUp.{get_renamed}
use Rattle.imap_names.specs.Name.{Name}
use Rattle.imap_names.specs.Order.{Names, name_cmp, is_within, moved}
use Rattle.imap_names.proofs.NameLaws.{is_name_at, get_put}
use Rattle.imap_rights.specs.Acl.{AclMap}
use Rattle.imap_rights.specs.declared.change.RightsChange.{RightsChange}
use Rattle.imap_world.specs.declared.error.WorldError.{WorldError}
use Rattle.imap_world.specs.Changing.{Changes, mailboxes_with_acl, mailboxes_with_rights, mailboxes_with_rights_at, acl_with_rights}
use Rattle.imap_world.specs.Kept.{AreKept}
use Rattle.imap_world.specs.Mailbox.{Mailbox, new_mailbox}
use Rattle.imap_world.specs.Moving.{with_validities, with_validity}
use Rattle.imap_world.specs.Tree.{mailboxes_with_list}
use Rattle.imap_world.proofs.Parts.{kept_parts}
use Rattle.imap_world.proofs.Sound.{found_before}

pub kept_none : AreKept map.empty
kept_none = record { at = λ name mailbox e. absurd (cc (sym (get-empty name_cmp name) ∙ e)) }

module _ (m : Names Mailbox) (kept : AreKept m) where
  pub kept_put : (k : Name) (x : Mailbox) → IsKept x.messages → AreKept (map.insert m k x)
  kept_put k x fine = record { at = λ q mailbox e. by q mailbox (is_name_at q k) (sym (get_put m k x q) ∙ e) }
    where
      by : (q : Name) (mailbox : Mailbox) (b : Bool) → cond b (Some x) (map.get m q) ≡ Some mailbox → IsKept mailbox.messages
      by q mailbox true e = subst (λ (o : Option Mailbox). IsKept (unwrap_or o x).messages) e fine
      by q mailbox false e = kept.at q mailbox e

  pub kept_new_row : (k : Name) (validity : ℕ) (acl : AclMap) → AreKept (map.insert m k (new_mailbox validity acl))
  kept_new_row k validity acl = kept_put k (new_mailbox validity acl) kept_new

  pub kept_without : (k : Name) → AreKept (map.remove m k)
  kept_without k = record { at = λ q mailbox e. kept.at q mailbox (found_before m k q mailbox e) }

  pub kept_with_list : (k : Name) (acl : AclMap) (o : Option Mailbox) → map.get m k ≡ o → AreKept (mailboxes_with_list m k acl o)
  kept_with_list k acl None there = kept
  kept_with_list k acl (Some before) there = kept_put k (record before { acl = acl }) (kept.at k before there)

  pub kept_with_validity : (k : Name) (validity : ℕ) (o : Option Mailbox) → map.get m k ≡ o → AreKept (with_validity m k validity o)
  kept_with_validity k validity None there = kept
  kept_with_validity k validity (Some before) there = kept_put k (record before { validity = validity }) (kept.at k before there)

  pub kept_renamed : (old new : Name) → run_of new m ≡ [] → AreKept (renamed old new m)
  kept_renamed old new free = record { at = λ q mailbox e. by q mailbox (is_within new q) (is_within old q) (sym (get_renamed old new m q free) ∙ e) }
    where
      by : (q : Name) (mailbox : Mailbox) (b d : Bool) → cond b (map.get m (moved new old q)) (cond d None (map.get m q)) ≡ Some mailbox → IsKept mailbox.messages
      by q mailbox true d e = kept.at (moved new old q) mailbox e
      by q mailbox false true e = absurd (cc e)
      by q mailbox false false e = kept.at q mailbox e

  by_acl : (k : Name) (before : Mailbox) → map.get m k ≡ Some before → (new : Names Mailbox) (meant : Result AclMap WorldError) → Changes (Ok tt) new (mailboxes_with_acl m k before meant) → AreKept new
  by_acl k before there new (Ok acl) h = subst AreKept (sym h) (kept_put k (record before { acl = acl }) (kept.at k before there))
  by_acl k before there new (Err refusal) h = absurd h

  pub kept_with_rights : (k : Name) (identifier : List ℕ) (change : RightsChange) (new : Names Mailbox) (r : Result (Unit {0}) WorldError)
      → Changes r new (mailboxes_with_rights m k identifier change) → OnErr r (new ≡ m) → AreKept new
  kept_with_rights k identifier change new (Err error) h err = subst AreKept (sym err) kept
  kept_with_rights k identifier change new (Ok done) h err = by (map.get m k) refl h
    where
      by : (o : Option Mailbox) → map.get m k ≡ o → Changes (Ok tt) new (mailboxes_with_rights_at m k identifier change o) → AreKept new
      by None there h = absurd h
      by (Some before) there h = by_acl k before there new (acl_with_rights before.acl identifier change) h

pub kept_with_validities : (arrivals : List (Name × ℕ)) (m : Names Mailbox) → AreKept m → AreKept (with_validities m arrivals)
kept_with_validities [] m kept = kept
kept_with_validities (a ∷ arrivals) m kept = kept_with_validities arrivals (with_validity m a.0 a.1 (map.get m a.0)) (kept_with_validity m kept a.0 a.1 (map.get m a.0) refl)

-- ---- every write keeps it

pub write_keeps : (w : Write) (world : World) → MayWrite w world → AreKept world.mailboxes → AreKept (after_write w world).mailboxes
write_keeps (write.Put row) world may kept = kept_new_row world.mailboxes kept row.name row.validity row.acl
write_keeps (write.SetAcl name acl) world may kept = kept_with_list world.mailboxes kept name acl (map.get world.mailboxes name) refl
write_keeps (write.Remove name) world may kept = kept_without world.mailboxes kept name
write_keeps (write.Move old new arrivals) world may kept =
    kept_with_validities arrivals (renamed old new world.mailboxes) (kept_renamed world.mailboxes kept old new (run_is_empty new world.mailboxes may.free))
write_keeps (write.Messages part other) world may kept = kept_parts world.mailboxes kept part other may
write_keeps (write.Subscribe user name) world may kept = kept
write_keeps (write.Unsubscribe user name) world may kept = kept

pub messages_kept : (ws : List Write) (world : World) → MayBeWritten ws world → AreKept world.mailboxes → AreKept (after_writes ws world).mailboxes
messages_kept [] world may kept = kept
messages_kept (w ∷ ws) world may kept = messages_kept ws (after_write w world) may.1 (write_keeps w world may.0 kept)
