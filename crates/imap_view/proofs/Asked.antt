-- The view after an effect that the user may ask for.
use Rattle.std.proofs.Common.{◌≡◌, ℕ, true, cond, not, List, [], ◌∷◌, ◌++◌, Option, Ok, Err, refl, ap, ◌∙◌}
use Rattle.std.specs.FinMap as map
use Rattle.std.proofs.lemmas.List.{append-nil}
use Rattle.imap_names.specs.Name.{Name}
use Rattle.imap_world.specs.NameMapRows.{has_below, has_within}
use Rattle.imap_world.specs.RightsChange.{RightsChange}
use Rattle.imap_world.specs.declared.site.Site.{Site}
use Rattle.imap_world.specs.declared.change.Write.{Write}
use Rattle.imap_world.specs.declared.change.Write.TheVariants as write
use Rattle.imap_world.specs.declared.effect.Effect.{Effect}
use Rattle.imap_world.specs.declared.effect.Effect.TheVariants as effect
use Rattle.imap_world.specs.declared.error.WorldError.TheVariants.{Below, Cannot, NoSuch, Taken}
use Rattle.imap_world.specs.Effects.{after_all, after_result, after_write, after_writes, list_changed, list_set, move_after, puts, puts_of, removal, renaming as move_to, writes_for, writes_then}
use Rattle.imap_world.specs.Kept.{AreKept}
use Rattle.imap_world.specs.declared.named_batch.NamedBatch.{NamedBatch}
use Rattle.imap_world.specs.Moving.{arrivals, arrivals_at, superior_rows}
use Rattle.imap_world.specs.NewMailbox.{NewMailbox}
use Rattle.imap_world.specs.Tree.{created_rows, with_rows}
use Rattle.imap_world.specs.World.{World}
use Rattle.imap_view.specs.After.{MayAsk, OwnEffectsAreMade, OwnEffectsAreSeen, view_after}
use Rattle.imap_view.specs.MessagesAfter.{MayAskOfBoth}
use Rattle.imap_view.specs.RenameAfter.{may_rename, names_after}
use Rattle.imap_view.specs.Seen.{owner_of}
use Rattle.imap_view.specs.TreeAfter.{may_delete, may_make, may_set_rights}
use Rattle.imap_view.specs.View.{View, view_of}
use Rattle.imap_view.proofs.Afters.{changed}
use Rattle.imap_view.proofs.Changing.{changing_messages}
use Rattle.imap_view.proofs.Creating.{creating}
use Rattle.imap_view.proofs.Deleting.{deleting}
use Rattle.imap_view.proofs.Renaming.{renaming}
use Rattle.imap_view.proofs.SettingRights.{setting_rights}
use Rattle.imap_view.proofs.Views.{site_of}

rows_put : (rows : List NewMailbox) (world : World) → after_writes (puts rows) world ≡ with_rows world rows
rows_put [] world = refl
rows_put (row ∷ rows) world = rows_put rows _

-- and after them one write more
rows_then : (rows : List NewMailbox) (last : Write) (world : World) → after_writes (puts rows ++ last ∷ []) world ≡ after_write last (with_rows world rows)
rows_then [] last world = refl
rows_then (row ∷ rows) last world = rows_then rows last _

-- what is written for one effect, and the view after it
record IsAnswered (site : Site) (user : List ℕ) (world : World) (asked : Effect) : Type 0 where
  writes : List Write
  found : writes_for asked world ≡ Ok writes
  after : view_of site user (after_writes writes world) ≡ view_after asked (view_of site user world)

made_alone : (asked : Effect) (world : World) (writes : List Write) → writes_for asked world ≡ Ok writes → after_all (asked ∷ []) world ≡ after_writes writes world
made_alone asked world writes found =
    ap (λ r. after_result (writes_then r (Ok [])) world) found ∙ ap (λ all. after_writes all world) (append-nil writes)

module _ (site : Site) (user : List ℕ) (world : World) where
  abbrev view : View
  view = view_of site user world

  created : (owner : List ℕ) (name : Name) → owner ≡ owner_of view.site name → may_make view name ≡ true → IsAnswered site user world (effect.Create owner name)
  created owner name is may =
      let creation = creating site user world name may in
      let same : owner ≡ owner_of site name = is ∙ ap (λ a. owner_of a name) (site_of site user world) in
      record {
        writes = puts creation.rows;
        found = ap (λ b. cond b (Err Taken) (puts_of (created_rows world owner name))) creation.absent
            ∙ ap (λ o. puts_of (created_rows world o name)) same ∙ ap puts_of creation.made;
        after = ap (view_of site user) (rows_put creation.rows world) ∙ creation.seen;
      }

  deleted : (name : Name) → may_delete view name ≡ true → IsAnswered site user world (effect.Delete name)
  deleted name may =
      let deletion = deleting site user world name may in
      record {
        writes = write.Remove name ∷ [];
        found = ap (λ b. cond b (removal world name) (Err NoSuch)) deletion.there
            ∙ ap (λ b. cond b (Err Cannot) (cond (has_below name world.mailboxes) (Err Below) (Ok (write.Remove name ∷ [])))) deletion.common
            ∙ ap (λ b. cond b (Err Below) (Ok (write.Remove name ∷ []))) deletion.lone;
        after = deletion.seen;
      }

  renamed : (owner : List ℕ) (old new : Name) → owner ≡ owner_of view.site new → may_rename view old new ≡ true → IsAnswered site user world (effect.Rename owner old new)
  renamed owner old new is may =
      let result = renaming site user world old new may in
      let same : owner ≡ owner_of site new = is ∙ ap (λ a. owner_of a new) (site_of site user world) in
      let gets : List (Name × ℕ) = arrivals_at view.epochs (names_after view old new) in
      record {
        writes = puts result.rows ++ write.Move old new gets ∷ [];
        found = ap (λ b. cond b (move_to world owner old new) (Err NoSuch)) result.there
            ∙ ap (λ b. cond (not b) (Err Cannot) (cond (has_within new world.mailboxes) (Err Taken) (move_after old new (puts_of (superior_rows world owner new)) (arrivals world old new)))) result.allowed
            ∙ ap (λ b. cond b (Err Taken) (move_after old new (puts_of (superior_rows world owner new)) (arrivals world old new))) result.free
            ∙ ap (λ o. move_after old new (puts_of (superior_rows world o new)) (arrivals world old new)) same
            ∙ λ i. move_after old new (puts_of (result.made i)) (result.arrive i);
        after = ap (view_of site user) (rows_then result.rows (write.Move old new gets) world) ∙ result.seen;
      }

  rights_set : (name : Name) (identifier : List ℕ) (change : RightsChange) → may_set_rights view name identifier change ≡ true → IsAnswered site user world (effect.SetRights name identifier change)
  rights_set name identifier change may =
      let setting = setting_rights site user world name identifier change may in
      record {
        writes = write.SetAcl name setting.acl ∷ [];
        found = ap (list_changed name identifier change) setting.there ∙ ap (list_set name) setting.changed;
        after = setting.seen;
      }

  messages_changed : AreKept world.mailboxes → (part : NamedBatch) (other : Option NamedBatch) → MayAskOfBoth view part other → IsAnswered site user world (effect.Messages part other)
  messages_changed kept part other may =
      let change = changing_messages site user world part other kept may in
      record {
        writes = write.Messages change.first change.second ∷ [];
        found = change.found;
        after = change.seen;
      }

  answered : (asked : Effect) → AreKept world.mailboxes → MayAsk view asked → IsAnswered site user world asked
  answered (effect.CreateInbox owner) kept may = absurd may
  answered (effect.Create owner name) kept may = created owner name may.0 may.1
  answered (effect.Delete name) kept may = deleted name may
  answered (effect.Rename owner old new) kept may = renamed owner old new may.0 may.1
  answered (effect.SetRights name identifier change) kept may = rights_set name identifier change may
  answered (effect.Messages part other) kept may = messages_changed kept part other may
  answered (effect.Subscribe asker name) kept may = record {
    writes = write.Subscribe asker name ∷ [];
    found = refl;
    after = changed site user world (λ names. map.insert names name tt) asker may;
  }
  answered (effect.Unsubscribe asker name) kept may = record {
    writes = write.Unsubscribe asker name ∷ [];
    found = refl;
    after = changed site user world (λ names. map.remove names name) asker may;
  }

pub own_effects_made : OwnEffectsAreMade
own_effects_made site user world asked kept may =
    let given = answered site user world asked kept may in
    record { writes = given.writes; made = given.found }

pub own_effects : OwnEffectsAreSeen
own_effects site user world asked kept may =
    let given = answered site user world asked kept may in
    ap (view_of site user) (made_alone asked world given.writes given.found) ∙ given.after
