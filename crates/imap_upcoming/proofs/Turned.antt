-- What a change that a user asked for makes of a mailbox that is there.
use Rattle.std.proofs.Common.{◌≡◌, ℕ, zero, suc, ◌-◌, Bool, true, false, cond, not, ◌&&◌, List, [], ◌∷◌, ◌++◌, append-nil, length, length-append, Option, Some, None, is_some, Result, Ok, Err, refl, sym, ap, subst, ◌∙◌, arith}
use Rattle.std.specs.Prelude.{nat_lt, option_map, option_and_then, slice_get}
use Rattle.std.specs.FinMap as map
use Rattle.std.specs.FinMap.Entries.{find}
use Rattle.imap_answer.specs.Alike.{effects_of}
use Rattle.imap_answer.specs.Fit.{MayBeAsked}
use Rattle.imap_batch.specs.Written.{MayWrite, with_batch}
use Rattle.imap_batch.specs.declared.write.BatchWrite.{BatchWrite}
use Rattle.imap_name_map.proofs.Runs.{get_in_run}
use Rattle.imap_name_map.proofs.WithinLaws.{run_is_empty}
use Rattle.imap_name_map.specs.Rows.{has_below, has_within}
use Rattle.imap_names.proofs.NameLaws.{equal_names, get_put, get_without, is_name_at}
use Rattle.imap_names.specs.Name.{Name, is_inbox}
use Rattle.imap_names.specs.Order.{Names, is_within, name_cmp}
use Rattle.imap_rights.specs.Acl.{AclMap}
use Rattle.imap_rights.specs.declared.change.RightsChange.{RightsChange}
use Rattle.imap_view.proofs.Views.{user_of}
use Rattle.imap_view.specs.MessagesAfter.{MayAskOf}
use Rattle.imap_view.specs.View.{View, view_of}
use Rattle.imap_world.proofs.ByName.{creates_by_name, renames_by_name}
use Rattle.imap_world.proofs.Fitting.{ok_same}
use Rattle.imap_world.proofs.Parts.{other_way, part_found}
use Rattle.imap_world.specs.declared.change.Write.{Write}
use Rattle.imap_world.specs.declared.change.Write.TheVariants as write
use Rattle.imap_world.specs.declared.effect.Effect.{Effect}
use Rattle.imap_world.specs.declared.effect.Effect.TheVariants as effect
use Rattle.imap_world.specs.declared.error.WorldError.{WorldError}
use Rattle.imap_world.specs.declared.error.WorldError.TheVariants.{Below, Cannot, NoSuch, Taken}
use Rattle.imap_world.specs.declared.named_batch.NamedBatch.{NamedBatch}
use Rattle.imap_world.specs.declared.named_batch.NamedWrite.{NamedWrite}
use Rattle.imap_world.specs.declared.site.Site.{Site}
use Rattle.imap_world.specs.Effects.{after_writes, list_changed, list_set, move_after, puts, puts_of, writes_for, writes_of, writes_then}
use Rattle.imap_world.specs.Kept.{IsSound}
use Rattle.imap_world.specs.Laws.{IsCreated, IsRenamed, is_made_with}
use Rattle.imap_world.specs.Mailbox.{Mailbox}
use Rattle.imap_world.specs.Messages.{messages_changed, one_part, part_in, two_parts, with_part}
use Rattle.imap_world.specs.Moving.{arrivals, can_move, superior_rows}
use Rattle.imap_world.specs.NewMailbox.{NewMailbox}
use Rattle.imap_world.specs.Ready.{MayChange, MayChangeAt}
use Rattle.imap_world.specs.Tree.{acl_with_rights, created_rows, mailboxes_with_list}
use Rattle.imap_world.specs.World.{World}
use Rattle.imap_upcoming.specs.Asked.{IsAskedBy}
use Rattle.imap_upcoming.specs.Changed.{MayBeMade, acl_after, acl_by, acl_unless, batch_for, batch_written, last_write, mailbox_after, messages_after, other_for}

-- ---- the last write

end_at : (ws : List Write) (w : Write) → slice_get (ws ++ w ∷ []) (length ws) ≡ Some w
end_at [] w = refl
end_at (v ∷ ws) w = end_at ws w

last_is : (ws : List Write) (w : Write) → last_write (ws ++ w ∷ []) ≡ Some w
last_is ws w =
    let e : length (ws ++ w ∷ []) - 1 ≡ length ws = omega (arith, length-append ws (w ∷ [])) in
    ap (slice_get (ws ++ w ∷ [])) e ∙ end_at ws w

module _ (name : Name) where
  -- mailboxes that are made are others
  put_list : (acl : AclMap) (rows : List NewMailbox) (i : ℕ) → acl_by name acl (slice_get (puts rows) i) ≡ Some acl
  put_list acl [] i = refl
  put_list acl (row ∷ rows) zero = refl
  put_list acl (row ∷ rows) (suc i) = put_list acl rows i

  put_batch : (rows : List NewMailbox) (i : ℕ) → option_and_then (batch_written name) (slice_get (puts rows) i) ≡ None
  put_batch [] i = refl
  put_batch (row ∷ rows) zero = refl
  put_batch (row ∷ rows) (suc i) = put_batch rows i

-- ---- one mailbox

abbrev MayBatch : (user : List ℕ) → Mailbox → BatchWrite → Type 0
MayBatch user m w = MayWrite w m.messages × (w.batch.user ≡ user)

pub record IsTurned (user : List ℕ) (name : Name) (change : List Write) (world : World) (m : Mailbox) : Type 0 where
  pub found : map.get (after_writes change world).mailboxes name ≡ mailbox_after name change m
  pub may : MayBeMade user name change m.messages

and_false : (a b : Bool) → (a && (b && false)) ≡ false
and_false true true = refl
and_false true false = refl
and_false false b = refl

some_same : {A : Type 0} (x y : A) → Some x ≡ Some y → x ≡ y
some_same x y e = cc

module _ (user : List ℕ) (world : World) (sound : IsSound world) (name : Name) (m : Mailbox) (there : map.get world.mailboxes name ≡ Some m) where
  abbrev Turns : List Write → Type 0
  Turns change = IsTurned user name change world m

  abbrev made : Option AclMap → Option BatchWrite → Option Mailbox
  made acl w = option_map (λ a. record { validity = m.validity; acl = a; messages = messages_after w m.messages }) acl

  -- with this list, if any, and this batch
  turned : (change : List Write) (acl : Option AclMap) (w : Option BatchWrite) → acl_after name m.acl change ≡ acl → batch_for name change ≡ w
      → ((x : BatchWrite) → w ≡ Some x → MayBatch user m x) → map.get (after_writes change world).mailboxes name ≡ made acl w → Turns change
  turned change acl w list batch may found = record {
    found = found ∙ λ i. made (sym list i) (sym batch i);
    may = λ x is. may x (sym batch ∙ is);
  }

  no_batch : (x : BatchWrite) → None ≡ Some x → MayBatch user m x
  no_batch x is = absurd (cc is)

  -- it stays
  same : (change : List Write) → acl_after name m.acl change ≡ Some m.acl → batch_for name change ≡ None
      → map.get (after_writes change world).mailboxes name ≡ map.get world.mailboxes name → Turns change
  same change list batch found = turned change (Some m.acl) None list batch no_batch (found ∙ there)

  -- it is not among those that are made
  not_made : (top : Name) → is_made_with world.mailboxes top name ≡ false
  not_made top = ap (λ b. is_within name top && (nat_lt 1 (length name) && not b)) (ap is_some there) ∙ and_false (is_within name top) (nat_lt 1 (length name))

  -- ---- CREATE

  created : (owner : List ℕ) (top : Name) (change : List Write) → writes_for (effect.Create owner top) world ≡ Ok change → Turns change
  created owner top change is = by (map.contains_key world.mailboxes top) (created_rows world owner top) is
    where
      is_created : IsCreated owner top world (after_writes change world)
      is_created = creates_by_name world owner top change sound is

      by : (b : Bool) (r : Result (List NewMailbox) WorldError) → ◌≡◌ {A = Result (List Write) WorldError} (cond b (Err Taken) (puts_of r)) (Ok change) → Turns change
      by true r e = absurd (cc e)
      by false (Err error) e = absurd (cc e)
      by false (Ok rows) e =
          let are : change ≡ puts rows = sym (ok_same (puts rows) change e) in
          same change (ap (acl_after name m.acl) are ∙ put_list name m.acl rows (length (puts rows) - 1)) (ap (batch_for name) are ∙ put_batch name rows (length (puts rows) - 1))
          (is_created.others name (not_made top))

  -- ---- RENAME

  not_within : (new : Name) → has_within new world.mailboxes ≡ false → (b : Bool) → is_within new name ≡ b → b ≡ false
  not_within new free false is = refl
  not_within new free true is =
      let none : map.get world.mailboxes name ≡ None = sym (get_in_run new world.mailboxes name ∙ ap (λ b. cond b (map.get world.mailboxes name) None) is)
      ∙ ap (λ (es : List (Name × Mailbox)). find name_cmp name es) (run_is_empty new world.mailboxes free) in
      absurd (cc (sym none ∙ there))

  renamed : (owner : List ℕ) (old new : Name) (change : List Write) → writes_for (effect.Rename owner old new) world ≡ Ok change → Turns change
  renamed owner old new change is =
      by (map.contains_key world.mailboxes old) (can_move old new) (has_within new world.mailboxes) refl (superior_rows world owner new) (arrivals world old new) is
    where
      is_renamed : IsRenamed owner old new world (after_writes change world)
      is_renamed = renames_by_name world owner old new change sound is

      moved : (rows : List NewMailbox) (came : List (Name × ℕ)) → change ≡ puts rows ++ write.Move old new came ∷ [] → has_within new world.mailboxes ≡ false → (b : Bool) → is_within old name ≡ b → Turns change
      moved rows came are free true within =
          let last : last_write change ≡ Some (write.Move old new came) = ap last_write are ∙ last_is (puts rows) (write.Move old new came) in
          turned change None None (ap (acl_by name m.acl) last ∙ ap (λ b. acl_unless b m.acl) within) (ap (option_and_then (batch_written name)) last) no_batch (is_renamed.gone name within)
      moved rows came are free false apart =
          let last : last_write change ≡ Some (write.Move old new came) = ap last_write are ∙ last_is (puts rows) (write.Move old new came) in
          same change (ap (acl_by name m.acl) last ∙ ap (λ b. acl_unless b m.acl) apart) (ap (option_and_then (batch_written name)) last)
          (is_renamed.others name (not_within new free (is_within new name) refl) apart (not_made new))

      by : (b can used : Bool) → has_within new world.mailboxes ≡ used → (rows : Result (List NewMailbox) WorldError) (came : Result (List (Name × ℕ)) WorldError)
          → ◌≡◌ {A = Result (List Write) WorldError} (cond b (cond (not can) (Err Cannot) (cond used (Err Taken) (move_after old new (puts_of rows) came))) (Err NoSuch)) (Ok change) → Turns change
      by false can used free rows came e = absurd (cc e)
      by true false used free rows came e = absurd (cc e)
      by true true true free rows came e = absurd (cc e)
      by true true false free (Err error) came e = absurd (cc e)
      by true true false free (Ok rows) (Err error) e = absurd (cc e)
      by true true false free (Ok rows) (Ok came) e =
          moved rows came (sym (ok_same (puts rows ++ write.Move old new came ∷ []) change e)) free (is_within old name) refl

  -- ---- DELETE

  removed : (gone : Name) (b : Bool) → is_name_at name gone ≡ b → Turns (write.Remove gone ∷ [])
  removed gone true at =
      turned (write.Remove gone ∷ []) None None (ap (λ b. acl_unless b m.acl) at) refl no_batch
      (get_without world.mailboxes gone name ∙ ap (λ b. cond b None (map.get world.mailboxes name)) at)
  removed gone false apart =
      same (write.Remove gone ∷ []) (ap (λ b. acl_unless b m.acl) apart) refl
      (get_without world.mailboxes gone name ∙ ap (λ b. cond b None (map.get world.mailboxes name)) apart)

  deleted : (gone : Name) (change : List Write) → writes_for (effect.Delete gone) world ≡ Ok change → Turns change
  deleted gone change is = by (map.contains_key world.mailboxes gone) (is_inbox gone) (has_below gone world.mailboxes) is
    where
      by : (b own below : Bool) → ◌≡◌ {A = Result (List Write) WorldError} (cond b (cond own (Err Cannot) (cond below (Err Below) (Ok (write.Remove gone ∷ [])))) (Err NoSuch)) (Ok change) → Turns change
      by false own below e = absurd (cc e)
      by true true below e = absurd (cc e)
      by true false true e = absurd (cc e)
      by true false false e = subst Turns (ok_same (write.Remove gone ∷ []) change e) (removed gone (is_name_at name gone) refl)

  -- ---- SETACL

  abbrev with_list : AclMap → Mailbox → Mailbox
  with_list acl before = record before { acl = acl }

  listed_at : (changed : Name) (acl : AclMap) (before : Mailbox) → map.get world.mailboxes changed ≡ Some before
      → map.get (after_writes (write.SetAcl changed acl ∷ []) world).mailboxes name ≡ cond (is_name_at name changed) (Some (with_list acl before)) (map.get world.mailboxes name)
  listed_at changed acl before is =
      ap (λ o. map.get (mailboxes_with_list world.mailboxes changed acl o) name) is ∙ get_put world.mailboxes changed (with_list acl before) name

  listed : (changed : Name) (acl : AclMap) (before : Mailbox) → map.get world.mailboxes changed ≡ Some before → (b : Bool) → is_name_at name changed ≡ b → Turns (write.SetAcl changed acl ∷ [])
  listed changed acl before is true at =
      let here : before ≡ m = some_same before m (sym is ∙ ap (map.get world.mailboxes) (sym (equal_names name changed at)) ∙ there) in
      turned (write.SetAcl changed acl ∷ []) (Some acl) None (ap (λ b. Some (cond b acl m.acl)) at) refl no_batch
      (listed_at changed acl before is ∙ ap (λ b. cond b (Some (with_list acl before)) (map.get world.mailboxes name)) at ∙ ap (λ (x : Mailbox). Some (with_list acl x)) here)
  listed changed acl before is false apart =
      same (write.SetAcl changed acl ∷ []) (ap (λ b. Some (cond b acl m.acl)) apart) refl
      (listed_at changed acl before is ∙ ap (λ b. cond b (Some (with_list acl before)) (map.get world.mailboxes name)) apart)

  list_changes : (changed : Name) (identifier : List ℕ) (rights : RightsChange) (change : List Write) → writes_for (effect.SetRights changed identifier rights) world ≡ Ok change → Turns change
  list_changes changed identifier rights change is = by (map.get world.mailboxes changed) refl is
    where
      set : (before : Mailbox) → map.get world.mailboxes changed ≡ Some before → (r : Result AclMap WorldError) → list_set changed r ≡ Ok change → Turns change
      set before is (Err error) e = absurd (cc e)
      set before is (Ok acl) e = subst Turns (ok_same (write.SetAcl changed acl ∷ []) change e) (listed changed acl before is (is_name_at name changed) refl)

      by : (o : Option Mailbox) → map.get world.mailboxes changed ≡ o → list_changed changed identifier rights o ≡ Ok change → Turns change
      by None is e = absurd (cc e)
      by (Some before) is e = set before is (acl_with_rights before.acl identifier rights) e

  -- ---- messages

  abbrev batched : NamedWrite → Mailbox → Mailbox
  batched w before = record before { messages = with_batch w.write.batch before.messages }

  part_there : (mailboxes : Names Mailbox) (w : NamedWrite) (before : Mailbox) → map.get mailboxes name ≡ Some before → (b : Bool) → is_name_at name w.name ≡ b
      → map.get (with_part mailboxes w) name ≡ Some (cond b (batched w before) before)
  part_there mailboxes w before is true at =
      let same_name : name ≡ w.name = equal_names name w.name at in
      ap (λ o. map.get (messages_changed w.write.batch mailboxes w.name o) name) (ap (map.get mailboxes) (sym same_name) ∙ is)
      ∙ get_put mailboxes w.name (batched w before) name ∙ ap (λ b. cond b (Some (batched w before)) (map.get mailboxes name)) at
  part_there mailboxes w before is false apart = by (map.get mailboxes w.name)
    where
      by : (o : Option Mailbox) → map.get (messages_changed w.write.batch mailboxes w.name o) name ≡ Some before
      by None = is
      by (Some other) = get_put mailboxes w.name (batched w other) name ∙ ap (λ b. cond b (Some (batched w other)) (map.get mailboxes name)) apart ∙ is

  -- what is written to it may be
  part_may : (w : NamedWrite) → MayChange world.mailboxes w → w.write.batch.user ≡ user → is_name_at name w.name ≡ true → (x : BatchWrite) → Some w.write ≡ Some x → MayBatch user m x
  part_may w may own at x is =
      subst (MayBatch user m) (some_same w.write x is)
      (subst (MayChangeAt w.write) (ap (map.get world.mailboxes) (sym (equal_names name w.name at)) ∙ there) may, own)

  one_written : (w : NamedWrite) → MayChange world.mailboxes w → w.write.batch.user ≡ user → (b : Bool) → is_name_at name w.name ≡ b → Turns (write.Messages w None ∷ [])
  one_written w may own true at =
      turned (write.Messages w None ∷ []) (Some m.acl) (Some w.write) refl (ap (λ b. cond b (Some w.write) None) at) (part_may w may own at)
      (part_there world.mailboxes w m there true at)
  one_written w may own false apart =
      turned (write.Messages w None ∷ []) (Some m.acl) None refl (ap (λ b. cond b (Some w.write) None) apart) no_batch
      (part_there world.mailboxes w m there false apart)

  two_written : (w other : NamedWrite) → is_name_at other.name w.name ≡ false → MayChange world.mailboxes w → MayChange world.mailboxes other
      → w.write.batch.user ≡ user → other.write.batch.user ≡ user → (b : Bool) → is_name_at name w.name ≡ b → (d : Bool) → is_name_at name other.name ≡ d → Turns (write.Messages w (Some other) ∷ [])
  two_written w other apart may may_other own own_other true at d is =
      let away : is_name_at name other.name ≡ false = ap (λ n. is_name_at n other.name) (equal_names name w.name at) ∙ other_way other.name w.name apart in
      turned (write.Messages w (Some other) ∷ []) (Some m.acl) (Some w.write) refl (ap (λ b. cond b (Some w.write) (other_for name (Some other))) at) (part_may w may own at)
      (part_there (with_part world.mailboxes w) other (batched w m) (part_there world.mailboxes w m there true at) false away)
  two_written w other apart may may_other own own_other false away true at =
      turned (write.Messages w (Some other) ∷ []) (Some m.acl) (Some other.write) refl
      (ap (λ b. cond b (Some w.write) (other_for name (Some other))) away ∙ ap (λ b. cond b (Some other.write) None) at) (part_may other may_other own_other at)
      (part_there (with_part world.mailboxes w) other m (part_there world.mailboxes w m there false away) true at)
  two_written w other apart may may_other own own_other false away false far =
      turned (write.Messages w (Some other) ∷ []) (Some m.acl) None refl
      (ap (λ b. cond b (Some w.write) (other_for name (Some other))) away ∙ ap (λ b. cond b (Some other.write) None) far) no_batch
      (part_there (with_part world.mailboxes w) other m (part_there world.mailboxes w m there false away) false far)

  messages_one : (part : NamedBatch) → part.batch.user ≡ user → (change : List Write) (r : Result NamedWrite WorldError) → part_in world.mailboxes part ≡ r → one_part r ≡ Ok change → Turns change
  messages_one part own change (Err error) is e = absurd (cc e)
  messages_one part own change (Ok w) is e =
      let found = part_found world.mailboxes part w is in
      subst Turns (ok_same (write.Messages w None ∷ []) change e)
      (one_written w found.may (ap (λ b. b.user) found.batch ∙ own) (is_name_at name w.name) refl)

  messages_two : (part other : NamedBatch) → is_name_at other.name part.name ≡ false → part.batch.user ≡ user → other.batch.user ≡ user → (change : List Write)
      → (r s : Result NamedWrite WorldError) → part_in world.mailboxes part ≡ r → part_in world.mailboxes other ≡ s → two_parts r s ≡ Ok change → Turns change
  messages_two part other apart own own_other change (Err error) s is is_other e = absurd (cc e)
  messages_two part other apart own own_other change (Ok w) (Err error) is is_other e = absurd (cc e)
  messages_two part other apart own own_other change (Ok w) (Ok v) is is_other e =
      let one = part_found world.mailboxes part w is in
      let two = part_found world.mailboxes other v is_other in
      subst Turns (ok_same (write.Messages w (Some v) ∷ []) change e)
      (two_written w v ((λ i. is_name_at (two.same i) (one.same i)) ∙ apart) one.may two.may (ap (λ b. b.user) one.batch ∙ own) (ap (λ b. b.user) two.batch ∙ own_other)
      (is_name_at name w.name) refl (is_name_at name v.name) refl)

  -- ---- any effect

  module _ (site : Site) where
    abbrev view : View
    view = view_of site user world

    own_of : (part : NamedBatch) → MayAskOf view part → part.batch.user ≡ user
    own_of part may = may.own ∙ user_of site user world

    by_effect : (e : Effect) (change : List Write) → MayBeAsked view (Some e) → writes_for e world ≡ Ok change → Turns change
    by_effect (effect.CreateInbox owner) change may is = absurd may
    by_effect (effect.Create owner top) change may is = created owner top change is
    by_effect (effect.Delete gone) change may is = deleted gone change is
    by_effect (effect.Rename owner old new) change may is = renamed owner old new change is
    by_effect (effect.SetRights changed identifier rights) change may is = list_changes changed identifier rights change is
    by_effect (effect.Messages part None) change may is = messages_one part (own_of part may.0) change (part_in world.mailboxes part) refl is
    by_effect (effect.Messages part (Some other)) change may is =
        messages_two part other may.1.0 (own_of part may.0) (own_of other may.1.1) change (part_in world.mailboxes part) (part_in world.mailboxes other) refl refl
        (sym (ap (λ b. cond b (Err Cannot) (two_parts (part_in world.mailboxes part) (part_in world.mailboxes other))) may.1.0) ∙ is)
    by_effect (effect.Subscribe subscriber of) change may is = subst Turns (ok_same (write.Subscribe subscriber of ∷ []) change is) (same (write.Subscribe subscriber of ∷ []) refl refl refl)
    by_effect (effect.Unsubscribe subscriber of) change may is = subst Turns (ok_same (write.Unsubscribe subscriber of ∷ []) change is) (same (write.Unsubscribe subscriber of ∷ []) refl refl refl)

    alone : (r : Result (List Write) WorldError) (change : List Write) → writes_then r (Ok []) ≡ Ok change → r ≡ Ok change
    alone (Err error) change e = absurd (cc e)
    alone (Ok ws) change e = ap Ok (sym (append-nil ws) ∙ ok_same (ws ++ []) change e)

    by_asked : (o : Option Effect) (change : List Write) → MayBeAsked view o → writes_of (effects_of o) world ≡ Ok change → Turns change
    by_asked None change may is = subst Turns (ok_same [] change is) (same [] refl refl refl)
    by_asked (Some e) change may is = by_effect e change may (alone (writes_for e world) change is)

    pub asked_turns : (change : List Write) → IsAskedBy site user world change → IsTurned user name change world m
    asked_turns change asked = by_asked asked.effect change asked.may asked.writes
