-- What is written for effects is found by the world as it is.
use Rattle.std.proofs.Common.{◌≡◌, ℕ, Bool, true, false, cond, not, List, [], ◌∷◌, ◌++◌, ◌+◌, Option, Some, None, Result, Ok, Err, refl, subst, sym, ap, ◌∙◌}
use Rattle.std.specs.FinMap as map
use Rattle.std.specs.List.{AllByRecursion, list_all}
use Rattle.imap_name_map.specs.Renaming.{moved_names}
use Rattle.imap_name_map.specs.Rows.{has_below, has_within}
use Rattle.imap_names.specs.Name.{Name, is_inbox}
use Rattle.imap_rights.specs.Acl.{AclMap, is_full_for, owner_acl, with_entry}
use Rattle.imap_rights.specs.Change.{applied}
use Rattle.imap_rights.specs.Effective.{entry}
use Rattle.imap_rights.specs.declared.change.RightsChange.{RightsChange}
use Rattle.imap_world.specs.declared.change.Write.{Write}
use Rattle.imap_world.specs.declared.change.Write.TheVariants as write
use Rattle.imap_world.specs.declared.effect.Effect.{Effect}
use Rattle.imap_world.specs.declared.effect.Effect.TheVariants as effect
use Rattle.imap_world.specs.declared.error.WorldError.{WorldError}
use Rattle.imap_world.specs.declared.error.WorldError.TheVariants.{Below, Cannot, Limit, NoSuch, Taken}
use Rattle.imap_world.specs.Mailbox.{Mailbox}
use Rattle.imap_world.specs.Effects.{list_changed, list_set, move_after, put_of, puts, puts_of, writes_for, writes_of, writes_then}
use Rattle.imap_world.specs.Laws.{IsFresh}
use Rattle.imap_world.specs.Moving.{arrivals_at, can_arrive, can_move, superior_rows}
use Rattle.imap_world.specs.NewMailbox.{NewMailbox}
use Rattle.imap_world.specs.Ready.{IsCurrent}
use Rattle.imap_world.specs.Tree.{created_rows, inherited, new_row, rows_for, with_last}
use Rattle.imap_world.specs.World.{World, epoch, inbox}
use Rattle.imap_world.proofs.Fitting.{IsNewRow, ok_same, row_is_new}
use Rattle.imap_world.proofs.Parts.{IsOneWrite, messages_are_written}
use Rattle.imap_world.proofs.Superiors.{puts-last}

abbrev Writes : Type 0
Writes = Result (List Write) WorldError

module _ (world : World) where
  abbrev AreFresh : List Write → Type 0
  AreFresh ws = AllByRecursion (IsFresh world) ws

  both_are : (ws more : List Write) → AreFresh ws → AreFresh more → AreFresh (ws ++ more)
  both_are [] more h k = k
  both_are (w ∷ ws) more h k = (h.0, both_are ws more h.1 k)

  -- ---- what is made

  put_is : (name : Name) (row : NewMailbox) → map.contains_key world.mailboxes name ≡ false → IsNewRow world.epochs name row → AreFresh (write.Put row ∷ [])
  put_is name row absent new = ((ap (map.contains_key world.mailboxes) new.is ∙ absent, new.next ∙ ap (λ n. epoch world.epochs n + 1) (sym new.is)), tt)

  rows_are : (acl : AclMap) (name : Name) (rows : List NewMailbox) → rows_for world acl name ≡ Ok rows → AreFresh (puts rows)
  rows_are acl [] rows is = subst (λ rs. AreFresh (puts rs)) (ok_same [] rows is) tt
  rows_are acl (root ∷ []) rows is = subst (λ rs. AreFresh (puts rs)) (ok_same [] rows is) tt
  rows_are acl (deepest ∷ above ∷ more) rows is =
      by (map.contains_key world.mailboxes (deepest ∷ above ∷ more)) refl (rows_for world acl (above ∷ more)) refl (new_row world.epochs (deepest ∷ above ∷ more) acl) refl is (rows_are acl (above ∷ more))
    where
      by : (b : Bool) → map.contains_key world.mailboxes (deepest ∷ above ∷ more) ≡ b
          → (outer : Result (List NewMailbox) WorldError) → rows_for world acl (above ∷ more) ≡ outer
          → (last : Result NewMailbox WorldError) → new_row world.epochs (deepest ∷ above ∷ more) acl ≡ last
          → ◌≡◌ {A = Result (List NewMailbox) WorldError} (cond b (Ok []) (with_last outer last)) (Ok rows)
          → ((outers : List NewMailbox) → rows_for world acl (above ∷ more) ≡ Ok outers → AreFresh (puts outers)) → AreFresh (puts rows)
      by true there outer are last new e deeper = subst (λ rs. AreFresh (puts rs)) (ok_same [] rows e) tt
      by false there (Err error) are last new e deeper = absurd (cc e)
      by false there (Ok outers) are (Err error) new e deeper = absurd (cc e)
      by false there (Ok outers) are (Ok row) new e deeper =
          subst (λ rs. AreFresh (puts rs)) (ok_same (outers ++ row ∷ []) rows e)
          (subst AreFresh (sym (puts-last outers row))
          (both_are (puts outers) (write.Put row ∷ []) (deeper outers are) (put_is (deepest ∷ above ∷ more) row there (row_is_new world.epochs (deepest ∷ above ∷ more) acl row new))))

  inbox_is : (user : List ℕ) (b : Bool) → map.contains_key world.mailboxes (inbox user) ≡ b → (row : Result NewMailbox WorldError) → new_row world.epochs (inbox user) (owner_acl user) ≡ row
      → (ws : List Write) → ◌≡◌ {A = Writes} (cond b (Err Taken) (put_of row)) (Ok ws) → AreFresh ws
  inbox_is user true there row new ws e = absurd (cc e)
  inbox_is user false there (Err error) new ws e = absurd (cc e)
  inbox_is user false there (Ok row) new ws e =
      subst AreFresh (ok_same (write.Put row ∷ []) ws e) (put_is (inbox user) row there (row_is_new world.epochs (inbox user) (owner_acl user) row new))

  created_are : (acl : AclMap) (name : Name) (b : Bool) (rows : Result (List NewMailbox) WorldError) → rows_for world acl name ≡ rows
      → (ws : List Write) → ◌≡◌ {A = Writes} (cond b (Err Taken) (puts_of rows)) (Ok ws) → AreFresh ws
  created_are acl name true rows are ws e = absurd (cc e)
  created_are acl name false (Err error) are ws e = absurd (cc e)
  created_are acl name false (Ok rows) are ws e = subst AreFresh (ok_same (puts rows) ws e) (rows_are acl name rows are)

  superiors_are : (owner : List ℕ) (name : Name) (rows : List NewMailbox) → superior_rows world owner name ≡ Ok rows → AreFresh (puts rows)
  superiors_are owner [] rows is = subst (λ rs. AreFresh (puts rs)) (ok_same [] rows is) tt
  superiors_are owner (deepest ∷ above) rows is = rows_are (inherited world.mailboxes owner above) above rows is

  -- ---- what goes or moves

  removed_is : (name : Name) (b : Bool) → map.contains_key world.mailboxes name ≡ b → (own below : Bool) (ws : List Write)
      → ◌≡◌ {A = Writes} (cond b (cond own (Err Cannot) (cond below (Err Below) (Ok (write.Remove name ∷ [])))) (Err NoSuch)) (Ok ws) → AreFresh ws
  removed_is name false there own below ws e = absurd (cc e)
  removed_is name true there true below ws e = absurd (cc e)
  removed_is name true there false true ws e = absurd (cc e)
  removed_is name true there false false ws e = subst AreFresh (ok_same (write.Remove name ∷ []) ws e) (there, tt)

  abbrev came_to : (old new : Name) → List (Name × ℕ)
  came_to old new = arrivals_at world.epochs (moved_names old new world.mailboxes)

  moved_are : (owner : List ℕ) (old new : Name) (b : Bool) → map.contains_key world.mailboxes old ≡ b → (can used : Bool) → has_within new world.mailboxes ≡ used
      → (rows : Result (List NewMailbox) WorldError) → superior_rows world owner new ≡ rows → (all : Bool) (ws : List Write)
      → ◌≡◌ {A = Writes} (cond b (cond (not can) (Err Cannot) (cond used (Err Taken) (move_after old new (puts_of rows) (cond all (Ok (came_to old new)) (Err Limit))))) (Err NoSuch)) (Ok ws) → AreFresh ws
  moved_are owner old new false there can used free rows are all ws e = absurd (cc e)
  moved_are owner old new true there false used free rows are all ws e = absurd (cc e)
  moved_are owner old new true there true true free rows are all ws e = absurd (cc e)
  moved_are owner old new true there true false free (Err error) are all ws e = absurd (cc e)
  moved_are owner old new true there true false free (Ok rows) are false ws e = absurd (cc e)
  moved_are owner old new true there true false free (Ok rows) are true ws e =
      subst AreFresh (ok_same (puts rows ++ write.Move old new (came_to old new) ∷ []) ws e)
      (both_are (puts rows) (write.Move old new (came_to old new) ∷ []) (superiors_are owner new rows are) ((there, free, refl), tt))

  list_is : (name : Name) (identifier : List ℕ) (rights : ℕ) (mailbox : Mailbox) → map.get world.mailboxes name ≡ Some mailbox → (full : Bool) (ws : List Write)
      → list_set name (cond full (Err Limit) (Ok (with_entry mailbox.acl identifier rights))) ≡ Ok ws → AreFresh ws
  list_is name identifier rights mailbox there true ws e = absurd (cc e)
  list_is name identifier rights mailbox there false ws e =
      subst AreFresh (ok_same (write.SetAcl name (with_entry mailbox.acl identifier rights) ∷ []) ws e) ((mailbox, identifier, rights, there, refl), tt)

  lists_are : (name : Name) (identifier : List ℕ) (change : RightsChange) (o : Option Mailbox) → map.get world.mailboxes name ≡ o → (ws : List Write) → list_changed name identifier change o ≡ Ok ws → AreFresh ws
  lists_are name identifier change None there ws e = absurd (cc e)
  lists_are name identifier change (Some mailbox) there ws e =
      let rights : ℕ = applied change (entry mailbox.acl identifier) in
      list_is name identifier rights mailbox there (is_full_for mailbox.acl identifier rights) ws e

  messages_are : (ws : List Write) → IsOneWrite world.mailboxes ws → AreFresh ws
  messages_are ws w = subst AreFresh w.are (w.may, tt)

  effect_is : (e : Effect) (ws : List Write) → writes_for e world ≡ Ok ws → AreFresh ws
  effect_is (effect.CreateInbox user) ws is = inbox_is user (map.contains_key world.mailboxes (inbox user)) refl (new_row world.epochs (inbox user) (owner_acl user)) refl ws is
  effect_is (effect.Create owner name) ws is = created_are (inherited world.mailboxes owner name) name (map.contains_key world.mailboxes name) (created_rows world owner name) refl ws is
  effect_is (effect.Delete name) ws is = removed_is name (map.contains_key world.mailboxes name) refl (is_inbox name) (has_below name world.mailboxes) ws is
  effect_is (effect.Rename owner old new) ws is =
      moved_are owner old new (map.contains_key world.mailboxes old) refl (can_move old new) (has_within new world.mailboxes) refl (superior_rows world owner new) refl (list_all (can_arrive world.epochs) (moved_names old new world.mailboxes)) ws is
  effect_is (effect.SetRights name identifier change) ws is = lists_are name identifier change (map.get world.mailboxes name) refl ws is
  effect_is (effect.Messages part other) ws is = messages_are ws (messages_are_written world.mailboxes part other ws is)
  effect_is (effect.Subscribe user name) ws is = subst AreFresh (ok_same (write.Subscribe user name ∷ []) ws is) (tt, tt)
  effect_is (effect.Unsubscribe user name) ws is = subst AreFresh (ok_same (write.Unsubscribe user name ∷ []) ws is) (tt, tt)

  then_are : (first rest : Writes) (ws : List Write) → writes_then first rest ≡ Ok ws → ((vs : List Write) → first ≡ Ok vs → AreFresh vs) → ((vs : List Write) → rest ≡ Ok vs → AreFresh vs) → AreFresh ws
  then_are (Err error) rest ws e h k = absurd (cc e)
  then_are (Ok vs) (Err error) ws e h k = absurd (cc e)
  then_are (Ok vs) (Ok more) ws e h k = subst AreFresh (ok_same (vs ++ more) ws e) (both_are vs more (h vs refl) (k more refl))

  effects_are : (effects : List Effect) (ws : List Write) → writes_of effects world ≡ Ok ws → AreFresh ws
  effects_are [] ws is = subst AreFresh (ok_same [] ws is) tt
  effects_are (e ∷ effects) ws is = then_are (writes_for e world) (writes_of effects world) ws is (effect_is e) (effects_are effects)

pub current_is_fresh : (change : List Write) (world : World) → IsCurrent change world → AllByRecursion (IsFresh world) change
current_is_fresh change world (effects, apart, writes) = effects_are world effects change writes
