-- What is written for effects keeps the superiors of mailboxes there, and takes the next validities.
use Rattle.std.proofs.Common.{◌≡◌, inl, inr, ℕ, ◌+◌, ◌≤◌, Bool, true, false, cond, not, List, [], ◌∷◌, ◌++◌, append-nil, length, Option, Some, None, Result, Ok, Err, refl, sym, ap, subst, ◌∙◌, true≢false, arith}
use Rattle.std.specs.Prelude.{◌==◌, ◌||◌, bytes_eq, codes, is_some, unwrap_or}
use Rattle.std.specs.FinMap as map
use Rattle.std.specs.List.{AllByRecursion, IsDistinct, filter_map, list_all, list_any}
use Rattle.std.proofs.lemmas.Bool.{and_parts, false_from_ne_true}
use Rattle.std.proofs.lemmas.Slice.Eq.{bytes_eq-Decides}
use Rattle.imap_name_map.proofs.NamesMoved.{moved_names_alike}
use Rattle.imap_name_map.specs.Renaming.{moved_names}
use Rattle.imap_name_map.specs.Rows.{has_below, has_within}
use Rattle.imap_names.specs.Name.{Name, is_inbox}
use Rattle.imap_names.specs.Order.{Names, is_within}
use Rattle.imap_names.proofs.MovedLaws.{within_itself}
use Rattle.imap_names.proofs.NameLaws.{equal_names, get_put, is_name_at, is_name_at-same, name_of-same}
use Rattle.imap_rights.specs.Acl.{AclMap, owner_acl}
use Rattle.imap_rights.specs.declared.change.RightsChange.{RightsChange}
use Rattle.imap_world.specs.declared.change.Write.{Write}
use Rattle.imap_world.specs.declared.change.Write.TheVariants as write
use Rattle.imap_world.specs.declared.effect.Effect.{Effect}
use Rattle.imap_world.specs.declared.effect.Effect.TheVariants as effect
use Rattle.imap_world.specs.declared.error.WorldError.{WorldError}
use Rattle.imap_world.specs.declared.error.WorldError.TheVariants.{NoSuch, Taken, Below, Cannot, Limit}
use Rattle.imap_world.specs.Mailbox.{Mailbox}
use Rattle.imap_world.specs.Effects.{after_write, after_writes, list_changed, list_set, move_after, put_of, puts, puts_of, writes_for, writes_of, writes_then}
use Rattle.imap_world.specs.Kept.{IsSound, superior_is_there}
use Rattle.imap_world.specs.Moving.{arrivals, arrivals_at, can_arrive, can_move, superior_rows}
use Rattle.imap_world.specs.Ready.{AreApart, MayBeWritten, MayMove, MayPut, MayWrite, inbox_owner, is_plain}
use Rattle.imap_world.specs.NewMailbox.{NewMailbox, mailbox_in}
use Rattle.imap_world.specs.Tree.{acl_with_rights, created_rows, inherited, new_row, rows_for, with_last, with_acl, with_row, with_rows, without}
use Rattle.imap_world.specs.World.{World, epoch, inbox, max_validity}
use Rattle.imap_world.proofs.Made.{AreTails, StaysAt, below_is_apart, free_alike, moved_arrivals_alike, other_is_apart, rows_are_tails, rows_keep, stays_at}
use Rattle.imap_world.proofs.Moves.{can_move-new_long, moved_is_sound, moves_apart}
use Rattle.imap_world.proofs.Parts.{IsOneWrite, messages_are_written, parts_are_sound}
use Rattle.imap_world.proofs.Sound.{list_is_sound, or_first, or_second, put_is_sound, removed_is_sound, same_is_sound}
use Rattle.imap_world.proofs.Superiors.{puts-last}

pub ok_same : {A : Type 0} (x y : A) → ◌≡◌ {A = Result A WorldError} (Ok x) (Ok y) → x ≡ y
ok_same x y e = cc

-- ---- writes that may be written keep a world sound

write_is_sound : (w : Write) (world : World) → MayWrite w world → IsSound world → IsSound (after_write w world)
write_is_sound (write.Put row) world may sound = put_is_sound world (with_row world row) row.name (mailbox_in row) refl refl may.superior (omega (arith, may.next)) sound
write_is_sound (write.SetAcl name acl) world may sound = list_is_sound world (with_acl world name acl) name acl refl refl sound
write_is_sound (write.Remove name) world may sound = removed_is_sound world (without world name) name refl refl may sound
write_is_sound (write.Move old new arrivals) world may sound = moved_is_sound world old new arrivals may sound
write_is_sound (write.Messages part other) world may sound = parts_are_sound world part other sound
write_is_sound (write.Subscribe user name) world may sound = same_is_sound world (after_write (write.Subscribe user name) world) refl refl sound
write_is_sound (write.Unsubscribe user name) world may sound = same_is_sound world (after_write (write.Unsubscribe user name) world) refl refl sound

pub writes_are_sound : (ws : List Write) (world : World) → MayBeWritten ws world → IsSound world → IsSound (after_writes ws world)
writes_are_sound [] world may sound = sound
writes_are_sound (w ∷ ws) world may sound = writes_are_sound ws (after_write w world) may.1 (write_is_sound w world may.0 sound)

-- ---- what is written for effects

may-last : (ws : List Write) (w : Write) (world : World) → MayBeWritten ws world → MayWrite w (after_writes ws world) → MayBeWritten (ws ++ w ∷ []) world
may-last [] w world may last = (last, tt)
may-last (v ∷ ws) w world may last = (may.0, may-last ws w (after_write v world) may.1 last)

after-last : (ws : List Write) (w : Write) (world : World) → after_writes (ws ++ w ∷ []) world ≡ after_write w (after_writes ws world)
after-last [] w world = refl
after-last (v ∷ ws) w world = after-last ws w (after_write v world)

-- ---- one mailbox that is made

pub record IsNewRow (epochs : Names ℕ) (name : Name) (row : NewMailbox) : Type 0 where
  pub is : row.name ≡ name
  pub next : row.validity ≡ epoch epochs name + 1

pub row_is_new : (epochs : Names ℕ) (name : Name) (acl : AclMap) (row : NewMailbox) → new_row epochs name acl ≡ Ok row → IsNewRow epochs name row
row_is_new epochs name acl row made = by (epoch epochs name == max_validity) made
  where
    new : NewMailbox
    new = record { name = name; validity = epoch epochs name + 1; acl = acl }

    by : (b : Bool) → ◌≡◌ {A = Result NewMailbox WorldError} (cond b (Err Limit) (Ok new)) (Ok row) → IsNewRow epochs name row
    by true e = absurd (cc e)
    by false e = subst (IsNewRow epochs name) (ok_same new row e) (record { is = refl; next = refl })

module _ (world : World) where
  -- ---- a mailbox with its superiors

  -- a name of a mailbox is there once these are made
  abbrev IsThereAfter : List NewMailbox → Name → Type 0
  IsThereAfter rows [] = Unit {0}
  IsThereAfter rows (root ∷ []) = Unit {0}
  IsThereAfter rows (deepest ∷ above ∷ more) = map.contains_key (after_writes (puts rows) world).mailboxes (deepest ∷ above ∷ more) ≡ true

  record AreMade (name : Name) (rows : List NewMailbox) : Type 0 where
    may : MayBeWritten (puts rows) world
    there : IsThereAfter rows name

  superior_after : (rows : List NewMailbox) (deepest above : List ℕ) (more : Name) → IsThereAfter rows (above ∷ more) → superior_is_there (after_writes (puts rows) world).mailboxes (deepest ∷ above ∷ more) ≡ true
  superior_after rows deepest above [] there = refl
  superior_after rows deepest above (next ∷ more) there = there

  put_is_there : (m : Names Mailbox) (name : Name) (mailbox : Mailbox) → map.contains_key (map.insert m name mailbox) name ≡ true
  put_is_there m name mailbox = ap is_some (get_put m name mailbox name) ∙ ap (λ b. is_some (cond b (Some mailbox) (map.get m name))) (is_name_at-same name)

  -- what is written is what is made
  rows_written : (rows : List NewMailbox) (w : World) → after_writes (puts rows) w ≡ with_rows w rows
  rows_written [] w = refl
  rows_written (row ∷ rows) w = rows_written rows (with_row w row)

  -- it may be put once its superiors are, which are apart from it
  last_may : (deepest above : List ℕ) (more : Name) (rows : List NewMailbox) (row : NewMailbox) → AreMade (above ∷ more) rows → AreTails (above ∷ more) rows
      → map.contains_key world.mailboxes (deepest ∷ above ∷ more) ≡ false → IsNewRow world.epochs (deepest ∷ above ∷ more) row → MayPut row (after_writes (puts rows) world)
  last_may deepest above more rows row made tails absent new =
      let name : Name = deepest ∷ above ∷ more in
      let stays : StaysAt name world (with_rows world rows) = stays_at name rows world (below_is_apart deepest (above ∷ more) name rows tails (within_itself name)) in
      let now : after_writes (puts rows) world ≡ with_rows world rows = rows_written rows world in
      record {
        free = (λ i. map.contains_key (now i).mailboxes (new.is i)) ∙ ap is_some stays.mailbox ∙ absent;
        superior = ap (superior_is_there (after_writes (puts rows) world).mailboxes) new.is ∙ superior_after rows deepest above more made.there;
        next = new.next ∙ ap (λ o. unwrap_or o 0 + 1) (sym stays.epoch) ∙ (λ i. epoch (sym now i).epochs (sym new.is i) + 1);
      }

  last_made : (deepest above : List ℕ) (more : Name) (rows : List NewMailbox) (row : NewMailbox) → AreMade (above ∷ more) rows → AreTails (above ∷ more) rows
      → map.contains_key world.mailboxes (deepest ∷ above ∷ more) ≡ false → IsNewRow world.epochs (deepest ∷ above ∷ more) row → AreMade (deepest ∷ above ∷ more) (rows ++ row ∷ [])
  last_made deepest above more rows row made tails absent new = record {
    may = subst (λ ws. MayBeWritten ws world) (sym (puts-last rows row)) (may-last (puts rows) (write.Put row) world made.may (last_may deepest above more rows row made tails absent new));
    there =
        ap (λ (w : World). map.contains_key w.mailboxes (deepest ∷ above ∷ more)) (ap (λ ws. after_writes ws world) (puts-last rows row) ∙ after-last (puts rows) (write.Put row) world)
        ∙ ap (λ n. map.contains_key (map.insert (after_writes (puts rows) world).mailboxes n (mailbox_in row)) (deepest ∷ above ∷ more)) new.is
        ∙ put_is_there (after_writes (puts rows) world).mailboxes (deepest ∷ above ∷ more) (mailbox_in row);
  }

  rows_made : (acl : AclMap) (name : Name) (rows : List NewMailbox) → rows_for world acl name ≡ Ok rows → AreMade name rows
  rows_made acl [] rows is = subst (AreMade []) (ok_same [] rows is) (record { may = tt; there = tt })
  rows_made acl (root ∷ []) rows is = subst (AreMade (root ∷ [])) (ok_same [] rows is) (record { may = tt; there = tt })
  rows_made acl (deepest ∷ above ∷ more) rows is =
      by (map.contains_key world.mailboxes (deepest ∷ above ∷ more)) refl (rows_for world acl (above ∷ more)) refl (new_row world.epochs (deepest ∷ above ∷ more) acl) refl is (rows_made acl (above ∷ more))
    where
      by : (b : Bool) → map.contains_key world.mailboxes (deepest ∷ above ∷ more) ≡ b
          → (outer : Result (List NewMailbox) WorldError) → rows_for world acl (above ∷ more) ≡ outer
          → (last : Result NewMailbox WorldError) → new_row world.epochs (deepest ∷ above ∷ more) acl ≡ last
          → ◌≡◌ {A = Result (List NewMailbox) WorldError} (cond b (Ok []) (with_last outer last)) (Ok rows)
          → ((outers : List NewMailbox) → rows_for world acl (above ∷ more) ≡ Ok outers → AreMade (above ∷ more) outers) → AreMade (deepest ∷ above ∷ more) rows
      by true there outer are last new e deeper = subst (AreMade (deepest ∷ above ∷ more)) (ok_same [] rows e) (record { may = tt; there = there })
      by false there (Err error) are last new e deeper = absurd (cc e)
      by false there (Ok outers) are (Err error) new e deeper = absurd (cc e)
      by false there (Ok outers) are (Ok row) new e deeper =
          subst (AreMade (deepest ∷ above ∷ more)) (ok_same (outers ++ row ∷ []) rows e)
          (last_made deepest above more outers row (deeper outers are) (rows_are_tails world acl (above ∷ more) outers are) there (row_is_new world.epochs (deepest ∷ above ∷ more) acl row new))

  -- ---- one effect

  inbox_may : (user : List ℕ) (row : NewMailbox) → map.contains_key world.mailboxes (inbox user) ≡ false → IsNewRow world.epochs (inbox user) row → MayPut row world
  inbox_may user row absent new = record {
    free = ap (map.contains_key world.mailboxes) new.is ∙ absent;
    superior = ap (superior_is_there world.mailboxes) new.is;
    next = new.next ∙ ap (λ n. epoch world.epochs n + 1) (sym new.is);
  }

  -- an INBOX that isn't there is written, and it alone
  record IsInboxWrite (user : List ℕ) (ws : List Write) : Type 0 where
    row : NewMailbox
    absent : map.contains_key world.mailboxes (inbox user) ≡ false
    new : IsNewRow world.epochs (inbox user) row
    are : write.Put row ∷ [] ≡ ws

  inbox_write : (user : List ℕ) (b : Bool) → map.contains_key world.mailboxes (inbox user) ≡ b → (r : Result NewMailbox WorldError) (ws : List Write) → new_row world.epochs (inbox user) (owner_acl user) ≡ r
      → ◌≡◌ {A = Result (List Write) WorldError} (cond b (Err Taken) (put_of r)) (Ok ws) → IsInboxWrite user ws
  inbox_write user true there r ws made e = absurd (cc e)
  inbox_write user false there (Err error) ws made e = absurd (cc e)
  inbox_write user false there (Ok row) ws made e = record {
    row = row;
    absent = there;
    new = row_is_new world.epochs (inbox user) (owner_acl user) row made;
    are = ok_same (write.Put row ∷ []) ws e;
  }

  inbox_is_written : (user : List ℕ) (ws : List Write) → writes_for (effect.CreateInbox user) world ≡ Ok ws → IsInboxWrite user ws
  inbox_is_written user ws is = inbox_write user (map.contains_key world.mailboxes (inbox user)) refl (new_row world.epochs (inbox user) (owner_acl user)) ws refl is

  inbox_fits : (user : List ℕ) (ws : List Write) → IsInboxWrite user ws → MayBeWritten ws world
  inbox_fits user ws w = subst (λ vs. MayBeWritten vs world) w.are (inbox_may user w.row w.absent w.new, tt)

  create_fits : (owner : List ℕ) (name : Name) (b : Bool) (r : Result (List NewMailbox) WorldError) (ws : List Write) → created_rows world owner name ≡ r → ◌≡◌ {A = Result (List Write) WorldError} (cond b (Err Taken) (puts_of r)) (Ok ws) → MayBeWritten ws world
  create_fits owner name true r ws made e = absurd (cc e)
  create_fits owner name false (Err error) ws made e = absurd (cc e)
  create_fits owner name false (Ok rows) ws made e = subst (λ vs. MayBeWritten vs world) (ok_same (puts rows) ws e) (rows_made (inherited world.mailboxes owner name) name rows made).may

  delete_fits : (name : Name) (b inbox below : Bool) (ws : List Write) → has_below name world.mailboxes ≡ below
      → ◌≡◌ {A = Result (List Write) WorldError} (cond b (cond inbox (Err Cannot) (cond below (Err Below) (Ok (write.Remove name ∷ [])))) (Err NoSuch)) (Ok ws) → MayBeWritten ws world
  delete_fits name true true below ws is e = absurd (cc e)
  delete_fits name true false true ws is e = absurd (cc e)
  delete_fits name true false false ws is e = subst (λ vs. MayBeWritten vs world) (ok_same (write.Remove name ∷ []) ws e) (is, tt)
  delete_fits name false inbox below ws is e = absurd (cc e)

  -- ---- a mailbox that moves

  -- once superiors are made that are apart from both names
  move_after_rows : (old : Name) (deepest : List ℕ) (above : Name) (rows : List NewMailbox) (came : List (Name × ℕ)) → AreMade above rows → AreTails above rows → map.contains_key world.mailboxes old ≡ true
      → can_move old (deepest ∷ above) ≡ true → has_within (deepest ∷ above) world.mailboxes ≡ false → came ≡ arrivals_at world.epochs (moved_names old (deepest ∷ above) world.mailboxes)
      → MayMove old (deepest ∷ above) came (with_rows world rows)
  move_after_rows old deepest above rows came made tails there can free are =
      let new : Name = deepest ∷ above in
      let mid : World = with_rows world rows in
      let out = moves_apart world.mailboxes old new there can free in
      let at_new : (q : Name) → is_within new q ≡ true → StaysAt q world mid = λ q e. stays_at q rows world (below_is_apart deepest above q rows tails e) in
      let at_old : (q : Name) → is_within old q ≡ true → StaysAt q world mid = λ q e. stays_at q rows world (other_is_apart old deepest above q rows tails out e) in
      record {
        there = rows_keep old rows world there;
        allowed = can;
        free = free_alike new world.mailboxes mid.mailboxes (λ q e. ap is_some (sym (at_new q e).mailbox)) free;
        superior = superior_written deepest above rows made.there;
        next = are
            ∙ moved_arrivals_alike world.epochs mid.epochs old new world.mailboxes (λ q e. ap (λ o. unwrap_or o 0) (sym (at_new q e).epoch))
            ∙ ap (arrivals_at mid.epochs) (moved_names_alike old new world.mailboxes mid.mailboxes (λ q e. ap is_some (sym (at_old q e).mailbox)));
      }
    where
      superior_written : (deepest : List ℕ) (above : Name) (rows : List NewMailbox) → IsThereAfter rows above → superior_is_there (with_rows world rows).mailboxes (deepest ∷ above) ≡ true
      superior_written deepest [] rows there = refl
      superior_written deepest (root ∷ []) rows there = refl
      superior_written deepest (part ∷ next ∷ more) rows there = ap (λ (w : World). map.contains_key w.mailboxes (part ∷ next ∷ more)) (sym (rows_written rows world)) ∙ there

  move_fits : (owner : List ℕ) (old new : Name) (rows : Result (List NewMailbox) WorldError) → superior_rows world owner new ≡ rows → (all : Bool) → map.contains_key world.mailboxes old ≡ true
      → can_move old new ≡ true → has_within new world.mailboxes ≡ false → (ws : List Write)
      → move_after old new (puts_of rows) (cond all (Ok (arrivals_at world.epochs (moved_names old new world.mailboxes))) (Err Limit)) ≡ Ok ws → MayBeWritten ws world
  move_fits owner old new (Err error) is all there can free ws e = absurd (cc e)
  move_fits owner old new (Ok rows) is false there can free ws e = absurd (cc e)
  move_fits owner old [] (Ok rows) is true there can free ws e = absurd (omega (arith, can_move-new_long old [] can))
  move_fits owner old (deepest ∷ above) (Ok rows) is true there can free ws e =
      let acl = inherited world.mailboxes owner above in
      let made = rows_made acl above rows is in
      let came = arrivals_at world.epochs (moved_names old (deepest ∷ above) world.mailboxes) in
      subst (λ vs. MayBeWritten vs world) (ok_same (puts rows ++ write.Move old (deepest ∷ above) came ∷ []) ws e)
      (may-last (puts rows) (write.Move old (deepest ∷ above) came) world made.may
      (subst (MayMove old (deepest ∷ above) came) (sym (rows_written rows world)) (move_after_rows old deepest above rows came made (rows_are_tails world acl above rows is) there can free refl)))

  rename_fits : (owner : List ℕ) (old new : Name) (there : Bool) → map.contains_key world.mailboxes old ≡ there → (can : Bool) → can_move old new ≡ can
      → (used : Bool) → has_within new world.mailboxes ≡ used → (ws : List Write)
      → cond there (cond (not can) (Err Cannot) (cond used (Err Taken) (move_after old new (puts_of (superior_rows world owner new)) (arrivals world old new)))) (Err NoSuch) ≡ Ok ws → MayBeWritten ws world
  rename_fits owner old new false is can allowed used free ws e = absurd (cc e)
  rename_fits owner old new true is false allowed used free ws e = absurd (cc e)
  rename_fits owner old new true is true allowed true free ws e = absurd (cc e)
  rename_fits owner old new true is true allowed false free ws e =
      move_fits owner old new (superior_rows world owner new) refl (list_all (can_arrive world.epochs) (moved_names old new world.mailboxes)) is allowed free ws e

  -- a mailbox may move once the superiors of its new name are made
  pub move_may : (old : Name) (deepest : List ℕ) (above : Name) (rows : List NewMailbox) (acl : AclMap) → rows_for world acl above ≡ Ok rows → map.contains_key world.mailboxes old ≡ true
      → can_move old (deepest ∷ above) ≡ true → has_within (deepest ∷ above) world.mailboxes ≡ false
      → MayMove old (deepest ∷ above) (arrivals_at world.epochs (moved_names old (deepest ∷ above) world.mailboxes)) (with_rows world rows)
  move_may old deepest above rows acl is there can free =
      move_after_rows old deepest above rows (arrivals_at world.epochs (moved_names old (deepest ∷ above) world.mailboxes)) (rows_made acl above rows is) (rows_are_tails world acl above rows is) there can free refl

  list_fits : (name : Name) (r : Result AclMap WorldError) (ws : List Write) → list_set name r ≡ Ok ws → MayBeWritten ws world
  list_fits name (Err error) ws e = absurd (cc e)
  list_fits name (Ok acl) ws e = subst (λ vs. MayBeWritten vs world) (ok_same (write.SetAcl name acl ∷ []) ws e) (tt, tt)

  rights_fit : (name : Name) (identifier : List ℕ) (change : RightsChange) (o : Option Mailbox) (ws : List Write) → list_changed name identifier change o ≡ Ok ws → MayBeWritten ws world
  rights_fit name identifier change None ws e = absurd (cc e)
  rights_fit name identifier change (Some mailbox) ws e = list_fits name (acl_with_rights mailbox.acl identifier change) ws e

  messages_fit : (ws : List Write) → IsOneWrite world.mailboxes ws → MayBeWritten ws world
  messages_fit ws w = subst (λ vs. MayBeWritten vs world) w.are (w.may, tt)

  pub effect_fits : (e : Effect) (ws : List Write) → writes_for e world ≡ Ok ws → MayBeWritten ws world
  effect_fits (effect.CreateInbox user) ws is = inbox_fits user ws (inbox_is_written user ws is)
  effect_fits (effect.Create owner name) ws is = create_fits owner name (map.contains_key world.mailboxes name) (created_rows world owner name) ws refl is
  effect_fits (effect.Delete name) ws is = delete_fits name (map.contains_key world.mailboxes name) (is_inbox name) (has_below name world.mailboxes) ws refl is
  effect_fits (effect.Rename owner old new) ws is = rename_fits owner old new (map.contains_key world.mailboxes old) refl (can_move old new) refl (has_within new world.mailboxes) refl ws is
  effect_fits (effect.SetRights name identifier change) ws is = rights_fit name identifier change (map.get world.mailboxes name) ws is
  effect_fits (effect.Messages part other) ws is = messages_fit ws (messages_are_written world.mailboxes part other ws is)
  effect_fits (effect.Subscribe user name) ws is = subst (λ vs. MayBeWritten vs world) (ok_same (write.Subscribe user name ∷ []) ws is) (tt, tt)
  effect_fits (effect.Unsubscribe user name) ws is = subst (λ vs. MayBeWritten vs world) (ok_same (write.Unsubscribe user name ∷ []) ws is) (tt, tt)

  -- ---- several

  -- what is written for an effect and for others is written for each
  both_made : {X : Type 0} (first rest : Result (List Write) WorldError) (ws : List Write) → writes_then first rest ≡ Ok ws
      → ((vs more : List Write) → first ≡ Ok vs → rest ≡ Ok more → ws ≡ vs ++ more → X) → X
  both_made (Err error) rest ws e use_both = absurd (cc e)
  both_made (Ok vs) (Err error) ws e use_both = absurd (cc e)
  both_made (Ok vs) (Ok more) ws e use_both = use_both vs more refl refl (sym (ok_same (vs ++ more) ws e))

  -- ---- effects that are apart

  -- the INBOXes that are still to be made are as they were
  abbrev IsUntouched : World → List Effect → Type 0
  IsUntouched later effects = (user : List ℕ) → list_any (bytes_eq user) (filter_map inbox_owner effects) ≡ true → StaysAt (inbox user) world later

  -- one of these may be put, if it is as it was
  untouched_may : (user : List ℕ) (row : NewMailbox) (later : World) → StaysAt (inbox user) world later → map.contains_key world.mailboxes (inbox user) ≡ false
      → IsNewRow world.epochs (inbox user) row → MayPut row later
  untouched_may user row later stays absent new = record {
    free = ap (map.contains_key later.mailboxes) new.is ∙ ap is_some stays.mailbox ∙ absent;
    superior = ap (superior_is_there later.mailboxes) new.is;
    next = new.next ∙ ap (λ o. unwrap_or o 0 + 1) (sym stays.epoch) ∙ ap (λ n. epoch later.epochs n + 1) (sym new.is);
  }

  same_user : (user : List ℕ) → bytes_eq user user ≡ true
  same_user user = (bytes_eq-Decides user user).1 refl

  -- the INBOX of another user is another
  inbox_apart : (user other : List ℕ) (row : NewMailbox) → row.name ≡ inbox user → bytes_eq user other ≡ false → is_name_at (inbox other) row.name ≡ false
  inbox_apart user other row is differ =
      false_from_ne_true _ (λ at.
      let same : other ≡ user = (name_of-same other user (codes "INBOX" ∷ []) (codes "INBOX" ∷ []) (equal_names (inbox other) row.name at ∙ is)).0 in
      true≢false (sym (same_user user) ∙ ap (bytes_eq user) (sym same) ∙ differ))

  -- no user differs from all and is one of them
  not_among : (user other : List ℕ) (users : List (List ℕ)) → AllByRecursion (λ u. bytes_eq user u ≡ false) users → list_any (bytes_eq other) users ≡ true → bytes_eq user other ≡ false
  not_among user other [] all some = absurd (cc some)
  not_among user other (u ∷ users) all some = by (bytes_eq other u) refl some (not_among user other users all.1)
    where
      by : (b : Bool) → bytes_eq other u ≡ b → (b || list_any (bytes_eq other) users) ≡ true → (list_any (bytes_eq other) users ≡ true → bytes_eq user other ≡ false) → bytes_eq user other ≡ false
      by true e h later = ap (bytes_eq user) ((bytes_eq-Decides other u).0 e) ∙ all.0
      by false e h later = later h

  put_keeps_at : (q : Name) (row : NewMailbox) (later : World) → is_name_at q row.name ≡ false → StaysAt q world later → StaysAt q world (with_row later row)
  put_keeps_at q row later apart stays = record {
    mailbox = get_put later.mailboxes row.name (mailbox_in row) q ∙ ap (λ b. cond b (Some (mailbox_in row)) (map.get later.mailboxes q)) apart ∙ stays.mailbox;
    epoch = get_put later.epochs row.name row.validity q ∙ ap (λ b. cond b (Some row.validity) (map.get later.epochs q)) apart ∙ stays.epoch;
  }

  -- what is written for the effect may be written, and leaves the others as they were
  record IsPlainStep (ws : List Write) (effects : List Effect) (later : World) : Type 0 where
    may : MayBeWritten ws later
    untouched : IsUntouched (after_writes ws later) effects

  inbox_step : (user : List ℕ) (effects : List Effect) (ws : List Write) (later : World) → IsInboxWrite user ws
      → IsDistinct bytes_eq (user ∷ filter_map inbox_owner effects) → IsUntouched later (effect.CreateInbox user ∷ effects) → IsPlainStep ws effects later
  unfolding IsDistinct
  inbox_step user effects ws later w distinct untouched = subst (λ vs. IsPlainStep vs effects later) w.are (record {
    may = (untouched_may user w.row later (untouched user (or_first _ _ (same_user user))) w.absent w.new, tt);
    untouched = λ other among.
        put_keeps_at (inbox other) w.row later
        (inbox_apart user other w.row w.new.is (not_among user other (filter_map inbox_owner effects) distinct.0 among))
        (untouched other (or_second (bytes_eq other user) _ among));
  })

  plain_step : (e : Effect) (effects : List Effect) (ws : List Write) (later : World) → is_plain e ≡ true → writes_for e world ≡ Ok ws
      → IsDistinct bytes_eq (filter_map inbox_owner (e ∷ effects)) → IsUntouched later (e ∷ effects) → IsPlainStep ws effects later
  plain_step (effect.CreateInbox user) effects ws later plain is distinct untouched = inbox_step user effects ws later (inbox_is_written user ws is) distinct untouched
  plain_step (effect.Create owner name) effects ws later plain is distinct untouched = absurd (cc plain)
  plain_step (effect.Delete name) effects ws later plain is distinct untouched = absurd (cc plain)
  plain_step (effect.Rename owner old new) effects ws later plain is distinct untouched = absurd (cc plain)
  plain_step (effect.SetRights name identifier change) effects ws later plain is distinct untouched = absurd (cc plain)
  plain_step (effect.Messages part other) effects ws later plain is distinct untouched = absurd (cc plain)
  plain_step (effect.Subscribe user name) effects ws later plain is distinct untouched =
      subst (λ vs. IsPlainStep vs effects later) (ok_same (write.Subscribe user name ∷ []) ws is) (record { may = (tt, tt); untouched = λ other among. record { mailbox = (untouched other among).mailbox; epoch = (untouched other among).epoch } })
  plain_step (effect.Unsubscribe user name) effects ws later plain is distinct untouched =
      subst (λ vs. IsPlainStep vs effects later) (ok_same (write.Unsubscribe user name ∷ []) ws is) (record { may = (tt, tt); untouched = λ other among. record { mailbox = (untouched other among).mailbox; epoch = (untouched other among).epoch } })

  distinct_rest : (e : Effect) (effects : List Effect) → IsDistinct bytes_eq (filter_map inbox_owner (e ∷ effects)) → IsDistinct bytes_eq (filter_map inbox_owner effects)
  unfolding IsDistinct
  distinct_rest (effect.CreateInbox user) effects distinct = distinct.1
  distinct_rest (effect.Create owner name) effects distinct = distinct
  distinct_rest (effect.Delete name) effects distinct = distinct
  distinct_rest (effect.Rename owner old new) effects distinct = distinct
  distinct_rest (effect.SetRights name identifier change) effects distinct = distinct
  distinct_rest (effect.Messages part other) effects distinct = distinct
  distinct_rest (effect.Subscribe user name) effects distinct = distinct
  distinct_rest (effect.Unsubscribe user name) effects distinct = distinct

  may-append : (ws more : List Write) (later : World) → MayBeWritten ws later → MayBeWritten more (after_writes ws later) → MayBeWritten (ws ++ more) later
  may-append [] more later h k = k
  may-append (w ∷ ws) more later h k = (h.0, may-append ws more (after_write w later) h.1 k)

  plain_writes_may : (effects : List Effect) (ws : List Write) (later : World) → list_all is_plain effects ≡ true → IsDistinct bytes_eq (filter_map inbox_owner effects) → IsUntouched later effects
      → writes_of effects world ≡ Ok ws → MayBeWritten ws later
  plain_writes_may [] ws later plain distinct untouched is = subst (λ vs. MayBeWritten vs later) (ok_same [] ws is) tt
  plain_writes_may (e ∷ effects) ws later plain distinct untouched is = both_made (writes_for e world) (writes_of effects world) ws is (by (plain_writes_may effects))
    where
      by : ((more : List Write) (after : World) → list_all is_plain effects ≡ true → IsDistinct bytes_eq (filter_map inbox_owner effects) → IsUntouched after effects → writes_of effects world ≡ Ok more → MayBeWritten more after)
          → (vs more : List Write) → writes_for e world ≡ Ok vs → writes_of effects world ≡ Ok more → ws ≡ vs ++ more → MayBeWritten ws later
      by deeper vs more first rest are =
          let plains = and_parts (is_plain e) (list_all is_plain effects) plain in
          let here = plain_step e effects vs later plains.0 first distinct untouched in
          subst (λ us. MayBeWritten us later) (sym are) (may-append vs more later here.may (deeper more (after_writes vs later) plains.1 (distinct_rest e effects distinct) here.untouched rest))

  one_may : (effects : List Effect) (ws : List Write) → length effects ≤ 1 → writes_of effects world ≡ Ok ws → MayBeWritten ws world
  one_may [] ws few is = subst (λ vs. MayBeWritten vs world) (ok_same [] ws is) tt
  one_may (e ∷ []) ws few is = both_made (writes_for e world) (Ok []) ws is by
    where
      by : (vs more : List Write) → writes_for e world ≡ Ok vs → ◌≡◌ {A = Result (List Write) WorldError} (Ok []) (Ok more) → ws ≡ vs ++ more → MayBeWritten ws world
      by vs more first rest are =
          let whole : vs ≡ ws = sym (are ∙ ap (λ us. vs ++ us) (sym (ok_same [] more rest)) ∙ append-nil vs) in
          subst (λ us. MayBeWritten us world) whole (effect_fits e vs first)
  one_may (e ∷ f ∷ effects) ws few is = absurd (omega (arith, few))

  pub apart_may : (effects : List Effect) (ws : List Write) → AreApart effects → writes_of effects world ≡ Ok ws → MayBeWritten ws world
  apart_may effects ws (inl few) is = one_may effects ws few is
  apart_may effects ws (inr plain) is = plain_writes_may effects ws world plain.plain plain.owners (λ user among. record { mailbox = refl; epoch = refl }) is
