-- What CREATE and RENAME make of a world, name by name.
use Rattle.std.proofs.Common.{◌≡◌, ◌⊎◌, inl, inr, ℕ, ◌+◌, ◌<◌, ◌≤◌, Bool, true, false, cond, not, List, [], ◌∷◌, ◌++◌, append-nil, length, map as map_list, Option, Some, None, is_some, Result, Ok, Err, refl, sym, ap, subst, ◌∙◌, true≢false, arith}
use Rattle.std.specs.Prelude.{◌==◌, codes, ◌&&◌, ◌||◌, nat_lt, option_map, unwrap_or}
use Rattle.std.specs.List.{list_all}
use Rattle.std.specs.FinMap as map
use Rattle.std.specs.FinMap.Entries.{find}
use Rattle.std.proofs.lemmas.Bool.Decides.{nat_tests}
use Rattle.std.proofs.lemmas.Bool.{and_parts, false_from_ne_true, ltb-true, ne_eqb}
use Rattle.imap_name_map.specs.Renaming.{moved_names, renamed}
use Rattle.imap_name_map.specs.Rows.{has_within, run_of}
use Rattle.imap_name_map.proofs.LookUp.{renamed_comes, renamed_goes, renamed_stays}
use Rattle.imap_name_map.proofs.Runs.{get_in_run}
use Rattle.imap_name_map.proofs.WithinLaws.{run_is_empty, run_within}
use Rattle.imap_names.specs.Name.{Name, is_inbox}
use Rattle.imap_names.specs.Order.{Names, is_within, moved, name_cmp}
use Rattle.imap_names.proofs.MovedLaws.{moved_within, superior_deeper, there_and_back, within_cases, within_deeper, within_itself, within_no_shorter, within_trans}
use Rattle.imap_names.proofs.NameLaws.{equal_names, get_put, is_name_at, is_name_at-same}
use Rattle.imap_names.proofs.OrderLaws.{within_below}
use Rattle.imap_rights.specs.Acl.{AclMap}
use Rattle.imap_world.specs.declared.change.Write.{Write}
use Rattle.imap_world.specs.declared.change.Write.TheVariants as write
use Rattle.imap_world.specs.declared.error.WorldError.{WorldError}
use Rattle.imap_world.specs.declared.error.WorldError.TheVariants.{Cannot, Limit, NoSuch, Taken}
use Rattle.imap_world.specs.Mailbox.{Mailbox, new_mailbox}
use Rattle.imap_world.specs.Effects.{after_write, after_writes, move_after, puts, puts_of}
use Rattle.imap_world.specs.Kept.{IsSound, is_there, superior_is_there}
use Rattle.imap_world.specs.Laws.{CreatesByName, IsCreated, IsRenamed, RenamesByName, entry_made, entry_moved, is_made_with}
use Rattle.imap_world.specs.Moving.{arrivals, arrivals_at, can_arrive, can_move, superior_rows, with_moved, with_validities, with_validity}
use Rattle.imap_world.specs.NewMailbox.{NewMailbox, mailbox_in}
use Rattle.imap_world.specs.Ready.{MayMove}
use Rattle.imap_world.specs.Tree.{acl_or, created_rows, inherited, new_row, rows_for, with_last, with_row, with_rows}
use Rattle.imap_world.specs.World.{World, epoch, inbox, max_validity}
use Rattle.imap_world.proofs.Fitting.{move_may, ok_same}
use Rattle.imap_world.proofs.Made.{StaysAt, below_is_apart, other_is_apart, rows_are_tails, stays_at}
use Rattle.imap_world.proofs.Moves.{can_move-long, can_move-new_long, can_move-not_inbox, counted, is_among, moved_is_among, moves_apart}

-- ---- names above a name

within_step : (q : Name) (deepest : List ℕ) (above : Name) → is_name_at q (deepest ∷ above) ≡ false → is_within q (deepest ∷ above) ≡ is_within q above
within_step q deepest above apart = by (is_within q (deepest ∷ above)) refl (is_within q above) refl
  where
    neither : (deepest ∷ above ≡ q) ⊎ (is_within q above ≡ true) → is_within q above ≡ false → ⊥
    neither (inl same) f = true≢false (sym (ap (is_name_at q) same ∙ is_name_at-same q) ∙ apart)
    neither (inr within) f = true≢false (sym within ∙ f)

    by : (a : Bool) → is_within q (deepest ∷ above) ≡ a → (b : Bool) → is_within q above ≡ b → is_within q (deepest ∷ above) ≡ is_within q above
    by true e true f = e ∙ sym f
    by false e false f = e ∙ sym f
    by false e true f = absurd (true≢false (sym (within_deeper q deepest above f) ∙ e))
    by true e false f = absurd (neither (within_cases q deepest above e) f)

-- of two names above a third, one is above the other
comparable : (a b q : Name) → is_within a q ≡ true → is_within b q ≡ true → (is_within a b ≡ true) ⊎ (is_within b a ≡ true)
comparable [] b [] e f = inl (subst (λ n. is_within [] n ≡ true) (append-nil b) (within_below [] b))
comparable (part ∷ a) b [] e f = absurd (omega (arith, within_no_shorter (part ∷ a) [] e))
comparable a b (deepest ∷ q) e f = by (within_cases a deepest q e) (within_cases b deepest q f) (comparable a b q)
  where
    by : (deepest ∷ q ≡ a) ⊎ (is_within a q ≡ true) → (deepest ∷ q ≡ b) ⊎ (is_within b q ≡ true)
        → (is_within a q ≡ true → is_within b q ≡ true → (is_within a b ≡ true) ⊎ (is_within b a ≡ true)) → (is_within a b ≡ true) ⊎ (is_within b a ≡ true)
    by (inl same) second rest = inr (ap (is_within b) (sym same) ∙ f)
    by (inr within) (inl same) rest = inl (ap (is_within a) (sym same) ∙ e)
    by (inr within) (inr also) rest = rest within also

-- a name without a component makes none
made_short : (m : Names Mailbox) (name q : Name) → length name ≤ 1 → is_made_with m name q ≡ false
made_short m name q short = by (is_within q name) refl (nat_lt 1 (length q)) refl
  where
    by : (a : Bool) → is_within q name ≡ a → (b : Bool) → nat_lt 1 (length q) ≡ b → (a && (b && not (map.contains_key m q))) ≡ false
    by false e b f = refl
    by true e false f = refl
    by true e true f = absurd (omega (arith, short, within_no_shorter q name e, ltb-true _ _ f))

made_step : (m : Names Mailbox) (deepest : List ℕ) (above q : Name) → is_name_at q (deepest ∷ above) ≡ false → is_made_with m (deepest ∷ above) q ≡ is_made_with m above q
made_step m deepest above q apart = ap (λ b. b && (nat_lt 1 (length q) && not (map.contains_key m q))) (within_step q deepest above apart)

made_itself : (m : Names Mailbox) (deepest above : List ℕ) (more : Name) → map.contains_key m (deepest ∷ above ∷ more) ≡ false → is_made_with m (deepest ∷ above ∷ more) (deepest ∷ above ∷ more) ≡ true
made_itself m deepest above more absent =
    ap (λ b. b && (nat_lt 1 (length (deepest ∷ above ∷ more)) && not (map.contains_key m (deepest ∷ above ∷ more)))) (within_itself (deepest ∷ above ∷ more))
    ∙ ap (λ b. b && not (map.contains_key m (deepest ∷ above ∷ more))) (long (length (deepest ∷ above ∷ more)) (omega arith))
    ∙ ap not absent
  where
    long : (n : ℕ) → 1 < n → nat_lt 1 n ≡ true
    long n h = grind (arith, nat_tests)

with_rows-last : (rows : List NewMailbox) (row : NewMailbox) (world : World) → with_rows world (rows ++ row ∷ []) ≡ with_row (with_rows world rows) row
with_rows-last [] row world = refl
with_rows-last (first ∷ rows) row world = with_rows-last rows row (with_row world first)

written : (rows : List NewMailbox) (world : World) → after_writes (puts rows) world ≡ with_rows world rows
written [] world = refl
written (row ∷ rows) world = written rows (with_row world row)

written_then : (rows : List NewMailbox) (last : Write) (world : World) → after_writes (puts rows ++ last ∷ []) world ≡ after_write last (with_rows world rows)
written_then [] last world = refl
written_then (row ∷ rows) last world = written_then rows last (with_row world row)

module _ (world : World) where
  -- ---- superiors of a mailbox are there

  abbrev IsClosed : Type 0
  IsClosed = (name : Name) → map.contains_key world.mailboxes name ≡ true → superior_is_there world.mailboxes name ≡ true

  above_there : IsClosed → (deepest : List ℕ) (above : Name) → 1 < length above → map.contains_key world.mailboxes (deepest ∷ above) ≡ true → map.contains_key world.mailboxes above ≡ true
  above_there closed deepest above long there = sym (ap (is_there world.mailboxes) (superior_deeper deepest above long)) ∙ closed (deepest ∷ above) there

  all_above : IsClosed → (name q : Name) → map.contains_key world.mailboxes name ≡ true → is_within q name ≡ true → 1 < length q → map.contains_key world.mailboxes q ≡ true
  all_above closed [] q there within long = absurd (omega (arith, long, within_no_shorter q [] within))
  all_above closed (deepest ∷ above) q there within long = by (within_cases q deepest above within) (all_above closed above q)
    where
      by : (deepest ∷ above ≡ q) ⊎ (is_within q above ≡ true) → (map.contains_key world.mailboxes above ≡ true → is_within q above ≡ true → 1 < length q → map.contains_key world.mailboxes q ≡ true) → map.contains_key world.mailboxes q ≡ true
      by (inl same) rest = ap (map.contains_key world.mailboxes) (sym same) ∙ there
      by (inr deeper) rest = rest (above_there closed deepest above (omega (arith, long, within_no_shorter q above deeper)) there) deeper long

  -- nothing is made with a name that is there
  none_made_there : IsClosed → (name q : Name) → map.contains_key world.mailboxes name ≡ true → is_made_with world.mailboxes name q ≡ false
  none_made_there closed name q there = by (is_within q name) refl (nat_lt 1 (length q)) refl
    where
      by : (a : Bool) → is_within q name ≡ a → (b : Bool) → nat_lt 1 (length q) ≡ b → (a && (b && not (map.contains_key world.mailboxes q))) ≡ false
      by false e b f = refl
      by true e false f = refl
      by true e true f = ap not (all_above closed name q there e (ltb-true _ _ f))

  -- ---- rows

  abbrev new_at : AclMap → Name → Mailbox
  new_at acl q = new_mailbox (epoch world.epochs q + 1) acl

  record AreMadeAt (acl : AclMap) (name : Name) (rows : List NewMailbox) : Type 0 where
    mailbox : (q : Name) → map.get (with_rows world rows).mailboxes q ≡ cond (is_made_with world.mailboxes name q) (Some (new_at acl q)) (map.get world.mailboxes q)
    epochs : (q : Name) → map.get (with_rows world rows).epochs q ≡ cond (is_made_with world.mailboxes name q) (Some (epoch world.epochs q + 1)) (map.get world.epochs q)
    subscriptions : (with_rows world rows).subscriptions ≡ world.subscriptions

  nothing_made : (acl : AclMap) (name : Name) → ((q : Name) → is_made_with world.mailboxes name q ≡ false) → AreMadeAt acl name []
  nothing_made acl name none = record {
    mailbox = λ q. sym (ap (λ b. cond b (Some (new_at acl q)) (map.get world.mailboxes q)) (none q));
    epochs = λ q. sym (ap (λ b. cond b (Some (epoch world.epochs q + 1)) (map.get world.epochs q)) (none q));
    subscriptions = refl;
  }

  module _ (acl : AclMap) (deepest above : List ℕ) (more : Name) (rows : List NewMailbox) (made : AreMadeAt acl (above ∷ more) rows) (absent : map.contains_key world.mailboxes (deepest ∷ above ∷ more) ≡ false) where
    abbrev name : Name
    name = deepest ∷ above ∷ more

    abbrev row : NewMailbox
    row = record { name = name; validity = epoch world.epochs name + 1; acl = acl }

    by_mailbox : (q : Name) (b : Bool) → is_name_at q name ≡ b
        → cond b (Some (mailbox_in row)) (map.get (with_rows world rows).mailboxes q) ≡ cond (is_made_with world.mailboxes name q) (Some (new_at acl q)) (map.get world.mailboxes q)
    by_mailbox q true at =
        ap (λ n. Some (new_at acl n)) (sym (equal_names q name at))
        ∙ sym (ap (λ b. cond b (Some (new_at acl q)) (map.get world.mailboxes q)) (ap (is_made_with world.mailboxes name) (equal_names q name at) ∙ made_itself world.mailboxes deepest above more absent))
    by_mailbox q false apart =
        made.mailbox q ∙ ap (λ b. cond b (Some (new_at acl q)) (map.get world.mailboxes q)) (sym (made_step world.mailboxes deepest (above ∷ more) q apart))

    by_epoch : (q : Name) (b : Bool) → is_name_at q name ≡ b
        → cond b (Some row.validity) (map.get (with_rows world rows).epochs q) ≡ cond (is_made_with world.mailboxes name q) (Some (epoch world.epochs q + 1)) (map.get world.epochs q)
    by_epoch q true at =
        ap (λ n. Some (epoch world.epochs n + 1)) (sym (equal_names q name at))
        ∙ sym (ap (λ b. cond b (Some (epoch world.epochs q + 1)) (map.get world.epochs q)) (ap (is_made_with world.mailboxes name) (equal_names q name at) ∙ made_itself world.mailboxes deepest above more absent))
    by_epoch q false apart =
        made.epochs q ∙ ap (λ b. cond b (Some (epoch world.epochs q + 1)) (map.get world.epochs q)) (sym (made_step world.mailboxes deepest (above ∷ more) q apart))

    one_more_made : AreMadeAt acl name (rows ++ row ∷ [])
    one_more_made = record {
      mailbox = λ q. ap (λ w. map.get w.mailboxes q) (with_rows-last rows row world) ∙ get_put (with_rows world rows).mailboxes name (mailbox_in row) q ∙ by_mailbox q (is_name_at q name) refl;
      epochs = λ q. ap (λ w. map.get w.epochs q) (with_rows-last rows row world) ∙ get_put (with_rows world rows).epochs name row.validity q ∙ by_epoch q (is_name_at q name) refl;
      subscriptions = ap (λ w. w.subscriptions) (with_rows-last rows row world) ∙ made.subscriptions;
    }

  row_is : (acl : AclMap) (name : Name) (row : NewMailbox) → new_row world.epochs name acl ≡ Ok row → row ≡ record { name = name; validity = epoch world.epochs name + 1; acl = acl }
  row_is acl name row = by (epoch world.epochs name == max_validity)
    where
      by : (b : Bool) → ◌≡◌ {A = Result NewMailbox WorldError} (cond b (Err Limit) (Ok (record { name = name; validity = epoch world.epochs name + 1; acl = acl }))) (Ok row) → row ≡ record { name = name; validity = epoch world.epochs name + 1; acl = acl }
      by true e = absurd (cc e)
      by false e = sym (ok_same _ row e)

  rows_made_at : IsClosed → (acl : AclMap) (name : Name) (rows : List NewMailbox) → rows_for world acl name ≡ Ok rows → AreMadeAt acl name rows
  rows_made_at closed acl [] rows is = subst (AreMadeAt acl []) (ok_same [] rows is) (nothing_made acl [] (λ q. made_short world.mailboxes [] q (omega arith)))
  rows_made_at closed acl (root ∷ []) rows is = subst (AreMadeAt acl (root ∷ [])) (ok_same [] rows is) (nothing_made acl (root ∷ []) (λ q. made_short world.mailboxes (root ∷ []) q (omega arith)))
  rows_made_at closed acl (deepest ∷ above ∷ more) rows is =
      by (map.contains_key world.mailboxes (deepest ∷ above ∷ more)) refl (rows_for world acl (above ∷ more)) refl (new_row world.epochs (deepest ∷ above ∷ more) acl) refl is (rows_made_at closed acl (above ∷ more))
    where
      by : (b : Bool) → map.contains_key world.mailboxes (deepest ∷ above ∷ more) ≡ b
          → (outer : Result (List NewMailbox) WorldError) → rows_for world acl (above ∷ more) ≡ outer
          → (last : Result NewMailbox WorldError) → new_row world.epochs (deepest ∷ above ∷ more) acl ≡ last
          → ◌≡◌ {A = Result (List NewMailbox) WorldError} (cond b (Ok []) (with_last outer last)) (Ok rows)
          → ((outers : List NewMailbox) → rows_for world acl (above ∷ more) ≡ Ok outers → AreMadeAt acl (above ∷ more) outers) → AreMadeAt acl (deepest ∷ above ∷ more) rows
      by true there outer are last new e deeper = subst (AreMadeAt acl (deepest ∷ above ∷ more)) (ok_same [] rows e) (nothing_made acl (deepest ∷ above ∷ more) (λ q. none_made_there closed (deepest ∷ above ∷ more) q there))
      by false there (Err error) are last new e deeper = absurd (cc e)
      by false there (Ok outers) are (Err error) new e deeper = absurd (cc e)
      by false there (Ok outers) are (Ok row) new e deeper =
          subst (AreMadeAt acl (deepest ∷ above ∷ more)) (ap (λ r. outers ++ r ∷ []) (sym (row_is acl (deepest ∷ above ∷ more) row new)) ∙ ok_same (outers ++ row ∷ []) rows e)
          (one_more_made acl deepest above more outers (deeper outers are) there)

  -- ---- the inherited list is that of each superior that is made

  inherited_above : (owner deepest : List ℕ) (above q : Name) → IsClosed → is_made_with world.mailboxes above q ≡ true → inherited world.mailboxes owner (deepest ∷ above) ≡ inherited world.mailboxes owner above
  inherited_above owner deepest [] q closed e = absurd (true≢false (sym e ∙ made_short world.mailboxes [] q (omega arith)))
  inherited_above owner deepest (root ∷ []) q closed e = absurd (true≢false (sym e ∙ made_short world.mailboxes (root ∷ []) q (omega arith)))
  inherited_above owner deepest (above ∷ next ∷ more) q closed e = by (map.get world.mailboxes (above ∷ next ∷ more)) refl
    where
      by : (o : Option Mailbox) → map.get world.mailboxes (above ∷ next ∷ more) ≡ o → acl_or o (inherited world.mailboxes owner (above ∷ next ∷ more)) ≡ inherited world.mailboxes owner (above ∷ next ∷ more)
      by None is = refl
      by (Some mailbox) is = absurd (true≢false (sym e ∙ none_made_there closed (above ∷ next ∷ more) q (ap is_some is)))

  inherited_same : IsClosed → (owner : List ℕ) (name q : Name) → is_made_with world.mailboxes name q ≡ true → inherited world.mailboxes owner name ≡ inherited world.mailboxes owner q
  inherited_same closed owner [] q e = absurd (true≢false (sym e ∙ made_short world.mailboxes [] q (omega arith)))
  inherited_same closed owner (deepest ∷ above) q e = by (is_name_at q (deepest ∷ above)) refl (inherited_same closed owner above q)
    where
      by : (b : Bool) → is_name_at q (deepest ∷ above) ≡ b → (is_made_with world.mailboxes above q ≡ true → inherited world.mailboxes owner above ≡ inherited world.mailboxes owner q) → inherited world.mailboxes owner (deepest ∷ above) ≡ inherited world.mailboxes owner q
      by true at rest = ap (inherited world.mailboxes owner) (sym (equal_names q (deepest ∷ above) at))
      by false apart rest =
          let made = sym (made_step world.mailboxes deepest above q apart) ∙ e in
          inherited_above owner deepest above q closed made ∙ rest made

  -- ---- what is found once rows are made

  module _ (closed : IsClosed) (owner : List ℕ) (name : Name) (rows : List NewMailbox) (are : AreMadeAt (inherited world.mailboxes owner name) name rows) where
    found_made : (q : Name) → is_made_with world.mailboxes name q ≡ true → map.get (with_rows world rows).mailboxes q ≡ Some (entry_made world owner q)
    found_made q e =
        are.mailbox q ∙ ap (λ b. cond b (Some (new_at (inherited world.mailboxes owner name) q)) (map.get world.mailboxes q)) e
        ∙ ap (λ acl. Some (new_at acl q)) (inherited_same closed owner name q e)

    found_other : (q : Name) → is_made_with world.mailboxes name q ≡ false → map.get (with_rows world rows).mailboxes q ≡ map.get world.mailboxes q
    found_other q e = are.mailbox q ∙ ap (λ b. cond b (Some (new_at (inherited world.mailboxes owner name) q)) (map.get world.mailboxes q)) e

    epoch_made : (q : Name) → is_made_with world.mailboxes name q ≡ true → epoch (with_rows world rows).epochs q ≡ epoch world.epochs q + 1
    epoch_made q e = ap (λ o. unwrap_or o 0) (are.epochs q ∙ ap (λ b. cond b (Some (epoch world.epochs q + 1)) (map.get world.epochs q)) e)

    epoch_other : (q : Name) → is_made_with world.mailboxes name q ≡ false → epoch (with_rows world rows).epochs q ≡ epoch world.epochs q
    epoch_other q e = ap (λ o. unwrap_or o 0) (are.epochs q ∙ ap (λ b. cond b (Some (epoch world.epochs q + 1)) (map.get world.epochs q)) e)

    created : IsCreated owner name world (with_rows world rows)
    created = record { made = found_made; counted = epoch_made; others = found_other; uncounted = epoch_other; subscriptions = are.subscriptions }

pub creates_by_name : CreatesByName
creates_by_name world owner name ws sound = by (map.contains_key world.mailboxes name) (created_rows world owner name) refl
  where
    by : (b : Bool) (r : Result (List NewMailbox) WorldError) → created_rows world owner name ≡ r → ◌≡◌ {A = Result (List Write) WorldError} (cond b (Err Taken) (puts_of r)) (Ok ws) → IsCreated owner name world (after_writes ws world)
    by true r is e = absurd (cc e)
    by false (Err error) is e = absurd (cc e)
    by false (Ok rows) is e =
        subst (λ vs. IsCreated owner name world (after_writes vs world)) (ok_same (puts rows) ws e)
        (subst (IsCreated owner name world) (sym (written rows world)) (created world sound.closed owner name rows (rows_made_at world sound.closed (inherited world.mailboxes owner name) name rows is)))

-- ---- mailboxes under their new names

abbrev with_new : ℕ → Mailbox → Mailbox
with_new validity mailbox = record mailbox { validity = validity }

validity_at : (m : Names Mailbox) (name : Name) (validity : ℕ) (q : Name) → map.get (with_validity m name validity (map.get m name)) q ≡ cond (is_name_at q name) (option_map (with_new validity) (map.get m q)) (map.get m q)
validity_at m name validity q = by (map.get m name) refl (is_name_at q name) refl
  where
    same : (b : Bool) → is_name_at q name ≡ b → map.get m name ≡ None → map.get m q ≡ cond b (option_map (with_new validity) (map.get m q)) (map.get m q)
    same true at is = let none : map.get m q ≡ None = ap (map.get m) (equal_names q name at) ∙ is in none ∙ sym (ap (option_map (with_new validity)) none)
    same false at is = refl

    changed : (b : Bool) → is_name_at q name ≡ b → (before : Mailbox) → map.get m name ≡ Some before → cond b (Some (with_new validity before)) (map.get m q) ≡ cond b (option_map (with_new validity) (map.get m q)) (map.get m q)
    changed true at before is = sym (ap (option_map (with_new validity)) (ap (map.get m) (equal_names q name at) ∙ is))
    changed false at before is = refl

    by : (o : Option Mailbox) → map.get m name ≡ o → (b : Bool) → is_name_at q name ≡ b → map.get (with_validity m name validity o) q ≡ cond (is_name_at q name) (option_map (with_new validity) (map.get m q)) (map.get m q)
    by None is b at = same (is_name_at q name) refl is
    by (Some before) is b at = get_put m name (with_new validity before) q ∙ changed (is_name_at q name) refl before is

validities_at : (epochs : Names ℕ) (names : List Name) (m : Names Mailbox) (q : Name)
    → map.get (with_validities m (arrivals_at epochs names)) q ≡ cond (is_among q names) (option_map (with_new (epoch epochs q + 1)) (map.get m q)) (map.get m q)
validities_at epochs [] m q = refl
validities_at epochs (name ∷ names) m q =
    validities_at epochs names (with_validity m name (epoch epochs name + 1) (map.get m name)) q
    ∙ ap (λ o. cond (is_among q names) (option_map (with_new (epoch epochs q + 1)) o) o) (validity_at m name (epoch epochs name + 1) q)
    ∙ by (is_name_at q name) refl (is_among q names)
  where
    twice : (o : Option Mailbox) (n : ℕ) (rest : Bool) → cond rest (option_map (with_new n) (option_map (with_new n) o)) (option_map (with_new n) o) ≡ option_map (with_new n) o
    twice None n true = refl
    twice (Some mailbox) n true = refl
    twice o n false = refl

    by : (b : Bool) → is_name_at q name ≡ b → (rest : Bool)
        → cond rest (option_map (with_new (epoch epochs q + 1)) (cond b (option_map (with_new (epoch epochs name + 1)) (map.get m q)) (map.get m q))) (cond b (option_map (with_new (epoch epochs name + 1)) (map.get m q)) (map.get m q))
        ≡ cond (b || rest) (option_map (with_new (epoch epochs q + 1)) (map.get m q)) (map.get m q)
    by true at rest =
        ap (λ n. cond rest (option_map (with_new (epoch epochs q + 1)) (option_map (with_new (epoch epochs n + 1)) (map.get m q))) (option_map (with_new (epoch epochs n + 1)) (map.get m q))) (sym (equal_names q name at))
        ∙ twice (map.get m q) (epoch epochs q + 1) rest
    by false at rest = refl

module _ {X : Type 0} (old new q : Name) where
  -- what moves is at or below the new name
  among_within : (es : List (Name × X)) → list_all (λ e. is_within old e.0) es ≡ true → is_among q (map_list (λ e. moved old new e.0) es) ≡ true → is_within new q ≡ true
  among_within [] all e = absurd (true≢false (sym e))
  among_within (entry ∷ es) all e =
      let parts = and_parts (is_within old entry.0) (list_all (λ f. is_within old f.0) es) all in
      by (is_name_at q (moved old new entry.0)) refl parts.0 e (among_within es parts.1)
    where
      by : (b : Bool) → is_name_at q (moved old new entry.0) ≡ b → is_within old entry.0 ≡ true → (b || is_among q (map_list (λ f. moved old new f.0) es)) ≡ true
          → (is_among q (map_list (λ f. moved old new f.0) es) ≡ true → is_within new q ≡ true) → is_within new q ≡ true
      by true at within e rest = ap (is_within new) (equal_names q (moved old new entry.0) at) ∙ moved_within old new entry.0 within
      by false at within e rest = rest e

  -- and comes from a mailbox that is there
  among_found : (es : List (Name × X)) → list_all (λ e. is_within old e.0) es ≡ true → is_among q (map_list (λ e. moved old new e.0) es) ≡ true → is_some (find name_cmp (moved new old q) es) ≡ true
  among_found [] all e = absurd (true≢false (sym e))
  among_found (entry ∷ es) all e =
      let parts = and_parts (is_within old entry.0) (list_all (λ f. is_within old f.0) es) all in
      by (is_name_at q (moved old new entry.0)) refl parts.0 e (among_found es parts.1)
    where
      here : (b : Bool) → is_name_at (moved new old q) entry.0 ≡ b → is_name_at (moved new old q) entry.0 ≡ true → is_some (cond b (Some entry.1) (find name_cmp (moved new old q) es)) ≡ true
      here true at e = refl
      here false at e = absurd (true≢false (sym e ∙ at))

      later : (b : Bool) → is_some (find name_cmp (moved new old q) es) ≡ true → is_some (cond b (Some entry.1) (find name_cmp (moved new old q) es)) ≡ true
      later true e = refl
      later false e = e

      by : (b : Bool) → is_name_at q (moved old new entry.0) ≡ b → is_within old entry.0 ≡ true → (b || is_among q (map_list (λ f. moved old new f.0) es)) ≡ true
          → (is_among q (map_list (λ f. moved old new f.0) es) ≡ true → is_some (find name_cmp (moved new old q) es) ≡ true) → is_some (find name_cmp (moved new old q) (entry ∷ es)) ≡ true
      by true at within e rest =
          here (is_name_at (moved new old q) entry.0) refl
          (ap (λ n. is_name_at (moved new old n) entry.0) (equal_names q (moved old new entry.0) at) ∙ ap (λ n. is_name_at n entry.0) (there_and_back old new entry.0 within) ∙ is_name_at-same entry.0)
      by false at within e rest = later (is_name_at (moved new old q) entry.0) (rest e)

-- nothing is found at or below a free name
not_within_free : {X : Type 0} (m : Names X) (top q : Name) → run_of top m ≡ [] → map.contains_key m q ≡ true → is_within top q ≡ false
not_within_free {X} m top q free there = false_from_ne_true _ (λ e. true≢false (sym there ∙ ap is_some (none e)))
  where
    none : is_within top q ≡ true → map.get m q ≡ None
    none e =
        sym (get_in_run top m q ∙ ap (λ b. cond b (map.get m q) None) e)
        ∙ ap (λ (es : List (Name × X)). find name_cmp q es) free

module _ (world : World) (sound : IsSound world) (owner : List ℕ) (old : Name) (deepest : List ℕ) (above : Name) (rows : List NewMailbox)
    (is : rows_for world (inherited world.mailboxes owner above) above ≡ Ok rows) (there : map.contains_key world.mailboxes old ≡ true)
    (can : can_move old (deepest ∷ above) ≡ true) (free : has_within (deepest ∷ above) world.mailboxes ≡ false) where
  abbrev new : Name
  new = deepest ∷ above

  abbrev mid : World
  mid = with_rows world rows

  abbrev came : List (Name × ℕ)
  came = arrivals_at world.epochs (moved_names old new world.mailboxes)

  may : MayMove old new came mid
  may = move_may world old deepest above rows (inherited world.mailboxes owner above) is there can free

  abbrev names : List Name
  names = moved_names old new mid.mailboxes

  abbrev moved_world : World
  moved_world = with_moved mid old new (arrivals_at mid.epochs names)

  emptied : run_of new mid.mailboxes ≡ []
  emptied = run_is_empty new mid.mailboxes may.free

  outside : is_within old new ≡ false
  outside = moves_apart world.mailboxes old new there can free

  at_new : (q : Name) → is_within new q ≡ true → StaysAt q world mid
  at_new q e = stays_at q rows world (below_is_apart deepest above q rows (rows_are_tails world (inherited world.mailboxes owner above) above rows is) e)

  at_old : (q : Name) → is_within old q ≡ true → StaysAt q world mid
  at_old q e = stays_at q rows world (other_is_apart old deepest above q rows (rows_are_tails world (inherited world.mailboxes owner above) above rows is) outside e)

  made_rows : AreMadeAt world (inherited world.mailboxes owner above) above rows
  made_rows = rows_made_at world sound.closed (inherited world.mailboxes owner above) above rows is

  mailbox_after : (q : Name) → map.get moved_world.mailboxes q
      ≡ cond (is_among q names) (option_map (with_new (epoch mid.epochs q + 1)) (map.get (renamed old new mid.mailboxes) q)) (map.get (renamed old new mid.mailboxes) q)
  mailbox_after q = validities_at mid.epochs names (renamed old new mid.mailboxes) q

  epoch_after : (q : Name) → epoch moved_world.epochs q ≡ cond (is_among q names) (epoch mid.epochs q + 1) (epoch mid.epochs q)
  epoch_after q = counted mid.epochs names mid.epochs q

  -- ---- at and below the new name

  from_there : (q : Name) → is_within new q ≡ true → map.get mid.mailboxes (moved new old q) ≡ map.get world.mailboxes (moved new old q)
  from_there q e = (at_old (moved new old q) (moved_within new old q e)).mailbox

  came_at : (q : Name) → is_within new q ≡ true → map.get moved_world.mailboxes q ≡ option_map (entry_moved world q) (map.get world.mailboxes (moved new old q))
  came_at q e =
      mailbox_after q
      ∙ ap (λ o. cond (is_among q names) (option_map (with_new (epoch mid.epochs q + 1)) o) o) (renamed_comes old new mid.mailboxes q emptied e ∙ from_there q e)
      ∙ ap (λ o. cond (is_among q names) (option_map (with_new (unwrap_or o 0 + 1)) (map.get world.mailboxes (moved new old q))) (map.get world.mailboxes (moved new old q))) (at_new q e).epoch
      ∙ by (map.get world.mailboxes (moved new old q)) refl (is_among q names) refl
    where
      by : (o : Option Mailbox) → map.get world.mailboxes (moved new old q) ≡ o → (b : Bool) → is_among q names ≡ b → cond b (option_map (with_new (epoch world.epochs q + 1)) o) o ≡ option_map (entry_moved world q) o
      by None there true among = refl
      by None there false among = refl
      by (Some mailbox) there true among = refl
      by (Some mailbox) there false among = absurd (true≢false (sym (moved_is_among old new mid.mailboxes q e (ap is_some (from_there q e ∙ there))) ∙ among))

  among_there : (q : Name) → is_among q names ≡ true → map.contains_key mid.mailboxes (moved new old q) ≡ true
  among_there q among =
      let within : is_within new q ≡ true = among_within old new q (run_of old mid.mailboxes) (run_within old mid.mailboxes) among in
      sym (ap is_some (get_in_run old mid.mailboxes (moved new old q) ∙ ap (λ b. cond b (map.get mid.mailboxes (moved new old q)) None) (moved_within new old q within)))
      ∙ among_found old new q (run_of old mid.mailboxes) (run_within old mid.mailboxes) among

  some_moved : (q : Name) (o : Option Mailbox) → is_some (option_map (entry_moved world q) o) ≡ is_some o
  some_moved q None = refl
  some_moved q (Some mailbox) = refl

  -- whether a mailbox came there
  came_there : (q : Name) → is_within new q ≡ true → map.contains_key moved_world.mailboxes q ≡ map.contains_key mid.mailboxes (moved new old q)
  came_there q e = ap is_some (came_at q e) ∙ some_moved q (map.get world.mailboxes (moved new old q)) ∙ ap is_some (sym (from_there q e))

  counted_at : (q : Name) → is_within new q ≡ true → map.contains_key moved_world.mailboxes q ≡ true → epoch moved_world.epochs q ≡ epoch world.epochs q + 1
  counted_at q e here =
      epoch_after q
      ∙ ap (λ b. cond b (epoch mid.epochs q + 1) (epoch mid.epochs q)) (moved_is_among old new mid.mailboxes q e (sym (came_there q e) ∙ here))
      ∙ ap (λ o. unwrap_or o 0 + 1) (at_new q e).epoch

  uncounted_at : (q : Name) → is_within new q ≡ true → map.contains_key moved_world.mailboxes q ≡ false → epoch moved_world.epochs q ≡ epoch world.epochs q
  uncounted_at q e here =
      epoch_after q
      ∙ ap (λ b. cond b (epoch mid.epochs q + 1) (epoch mid.epochs q)) (false_from_ne_true _ (λ among. true≢false (sym (among_there q among) ∙ sym (came_there q e) ∙ here)))
      ∙ ap (λ o. unwrap_or o 0) (at_new q e).epoch

  -- ---- elsewhere

  not_among : (q : Name) → is_within new q ≡ false → is_among q names ≡ false
  not_among q out = false_from_ne_true _ (λ among. true≢false (sym (among_within old new q (run_of old mid.mailboxes) (run_within old mid.mailboxes) among) ∙ out))

  elsewhere : (q : Name) → is_within new q ≡ false → map.get moved_world.mailboxes q ≡ map.get (renamed old new mid.mailboxes) q
  elsewhere q out =
      mailbox_after q
      ∙ ap (λ b. cond b (option_map (with_new (epoch mid.epochs q + 1)) (map.get (renamed old new mid.mailboxes) q)) (map.get (renamed old new mid.mailboxes) q)) (not_among q out)

  stays_elsewhere : (q : Name) → is_within new q ≡ false → is_within old q ≡ false → map.get moved_world.mailboxes q ≡ map.get mid.mailboxes q
  stays_elsewhere q out apart = elsewhere q out ∙ renamed_stays old new mid.mailboxes q emptied out apart

  epoch_elsewhere : (q : Name) → is_within new q ≡ false → epoch moved_world.epochs q ≡ epoch mid.epochs q
  epoch_elsewhere q out = epoch_after q ∙ ap (λ b. cond b (epoch mid.epochs q + 1) (epoch mid.epochs q)) (not_among q out)

  -- what moved away isn't where others came to
  old_not_new : (q : Name) → is_within old q ≡ true → is_within new q ≡ false
  old_not_new q e = false_from_ne_true _ (λ f. by (comparable old new q e f))
    where
      by : (is_within old new ≡ true) ⊎ (is_within new old ≡ true) → ⊥
      by (inl within) = true≢false (sym within ∙ outside)
      by (inr within) = true≢false (sym within ∙ not_within_free world.mailboxes new old (run_is_empty new world.mailboxes free) there)

  gone_at : (q : Name) → is_within old q ≡ true → map.get moved_world.mailboxes q ≡ None
  gone_at q e = elsewhere q (old_not_new q e) ∙ renamed_goes old new mid.mailboxes q emptied (old_not_new q e) e

  -- another name than the new one is made with its superior, if it is made
  not_itself : (q : Name) → is_within new q ≡ false → is_name_at q new ≡ false
  not_itself q out = false_from_ne_true _ (λ at. true≢false (sym (ap (is_within new) (equal_names q new at) ∙ within_itself new) ∙ out))

  made_above : (q : Name) → is_within new q ≡ false → is_made_with world.mailboxes above q ≡ is_made_with world.mailboxes new q
  made_above q out = sym (made_step world.mailboxes deepest above q (not_itself q out))

  made_not_old : (q : Name) → is_made_with world.mailboxes new q ≡ true → is_within old q ≡ false
  made_not_old q e = false_from_ne_true _ (λ f. true≢false (sym (within_trans old q new f (and_parts (is_within q new) _ e).0) ∙ outside))

  made_at : (q : Name) → is_within new q ≡ false → is_made_with world.mailboxes new q ≡ true → map.get moved_world.mailboxes q ≡ Some (entry_made world owner q)
  made_at q out e =
      stays_elsewhere q out (made_not_old q e) ∙ found_made world sound.closed owner above rows made_rows q (made_above q out ∙ e)

  others_at : (q : Name) → is_within new q ≡ false → is_within old q ≡ false → is_made_with world.mailboxes new q ≡ false → map.get moved_world.mailboxes q ≡ map.get world.mailboxes q
  others_at q out apart e = stays_elsewhere q out apart ∙ found_other world sound.closed owner above rows made_rows q (made_above q out ∙ e)

  -- ---- an INBOX stays

  inbox_not_moved : (octet : ℕ) (octets : List ℕ) → is_within old (inbox (octet ∷ octets)) ≡ false
  inbox_not_moved octet octets = false_from_ne_true _ (λ e. by (within_cases old (codes "INBOX") ((octet ∷ octets) ∷ []) e))
    where
      by : (inbox (octet ∷ octets) ≡ old) ⊎ (is_within old ((octet ∷ octets) ∷ []) ≡ true) → ⊥
      by (inl same) =
          true≢false (sym (ap (λ b. not b && true) (ne_eqb (length (octet ∷ octets)) 0 (λ e. omega (arith, e)))) ∙ ap is_inbox same ∙ can_move-not_inbox old new can)
      by (inr within) = omega (arith, can_move-long old new can, within_no_shorter old ((octet ∷ octets) ∷ []) within)

  inbox_stays : (user : List ℕ) → 0 < length user → map.contains_key world.mailboxes (inbox user) ≡ true → map.get moved_world.mailboxes (inbox user) ≡ map.get world.mailboxes (inbox user)
  inbox_stays [] some here = absurd (omega (arith, some))
  inbox_stays (octet ∷ octets) some here =
      others_at (inbox (octet ∷ octets)) (not_within_free world.mailboxes new (inbox (octet ∷ octets)) (run_is_empty new world.mailboxes free) here) (inbox_not_moved octet octets)
      (ap (λ b. is_within (inbox (octet ∷ octets)) new && not b) here ∙ and_false (is_within (inbox (octet ∷ octets)) new))
    where
      and_false : (b : Bool) → (b && false) ≡ false
      and_false true = refl
      and_false false = refl

  is_renamed : IsRenamed owner old new world moved_world
  is_renamed = record {
    came = came_at;
    gone = gone_at;
    made = made_at;
    others = others_at;
    inboxes = inbox_stays;
    counted = counted_at;
    uncounted = uncounted_at;
    counted_above = λ q out e. epoch_elsewhere q out ∙ epoch_made world sound.closed owner above rows made_rows q (made_above q out ∙ e);
    uncounted_elsewhere = λ q out e. epoch_elsewhere q out ∙ epoch_other world sound.closed owner above rows made_rows q (made_above q out ∙ e);
    subscriptions = made_rows.subscriptions;
  }

  renamed_by : IsRenamed owner old new world (after_writes (puts rows ++ write.Move old new came ∷ []) world)
  renamed_by =
      subst (IsRenamed owner old new world) (sym (written_then rows (write.Move old new came) world))
      (subst (λ arrived. IsRenamed owner old new world (with_moved mid old new arrived)) (sym may.next) is_renamed)

pub renames_by_name : RenamesByName
renames_by_name world owner old new ws sound =
    by (map.contains_key world.mailboxes old) refl (can_move old new) refl (has_within new world.mailboxes) refl
  where
    moved_by : (new : Name) (rows : Result (List NewMailbox) WorldError) → superior_rows world owner new ≡ rows → (all : Bool) → map.contains_key world.mailboxes old ≡ true
        → can_move old new ≡ true → has_within new world.mailboxes ≡ false
        → move_after old new (puts_of rows) (cond all (Ok (arrivals_at world.epochs (moved_names old new world.mailboxes))) (Err Limit)) ≡ Ok ws → IsRenamed owner old new world (after_writes ws world)
    moved_by new (Err error) is all there can free e = absurd (cc e)
    moved_by new (Ok rows) is false there can free e = absurd (cc e)
    moved_by [] (Ok rows) is true there can free e = absurd (omega (arith, can_move-new_long old [] can))
    moved_by (deepest ∷ above) (Ok rows) is true there can free e =
        subst (λ vs. IsRenamed owner old (deepest ∷ above) world (after_writes vs world)) (ok_same _ ws e)
        (renamed_by world sound owner old deepest above rows is there can free)

    by : (there : Bool) → map.contains_key world.mailboxes old ≡ there → (can : Bool) → can_move old new ≡ can → (used : Bool) → has_within new world.mailboxes ≡ used
        → cond there (cond (not can) (Err Cannot) (cond used (Err Taken) (move_after old new (puts_of (superior_rows world owner new)) (arrivals world old new)))) (Err NoSuch) ≡ Ok ws
        → IsRenamed owner old new world (after_writes ws world)
    by false is can allowed used free e = absurd (cc e)
    by true is false allowed used free e = absurd (cc e)
    by true is true allowed true free e = absurd (cc e)
    by true is true allowed false free e = moved_by new (superior_rows world owner new) refl (list_all (can_arrive world.epochs) (moved_names old new world.mailboxes)) is allowed free e
