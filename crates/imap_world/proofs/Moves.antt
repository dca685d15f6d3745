-- Worlds in which mailboxes moved to other names.
use Rattle.std.proofs.Common.{◌≡◌, ◌⊎◌, inl, inr, ℕ, ◌+◌, ◌<◌, ◌≤◌, Bool, true, false, not, cond, List, [], ◌∷◌, ◌++◌, length, map as map_list, Option, Some, None, is_some, refl, sym, ap, subst, ◌∙◌, true≢false, arith}
use Rattle.std.specs.Prelude.{◌||◌, ◌&&◌, bytes_eq, nat_lt, unwrap_or}
use Rattle.std.specs.List.{list_any, list_all}
use Rattle.std.specs.FinMap as map
use Rattle.std.specs.FinMap.Entries.{find}
use Rattle.std.proofs.lemmas.Bool.{and_from, and_parts, false_from_ne_true, ltb-true, not-true, or_parts}
use Rattle.imap_name_map.specs.Renaming.{moved_names, renamed}
use Rattle.imap_name_map.specs.Rows.{has_within, inserted_all, run_of}
use Rattle.imap_name_map.proofs.ClosedLaws.{HasItsSuperior-from_test, HasItsSuperior-test, IsClosed, renamed_closed}
use Rattle.imap_name_map.proofs.LookUp.{get_renamed}
use Rattle.imap_name_map.proofs.Runs.{get_in_run}
use Rattle.imap_name_map.proofs.WithinLaws.{run_is_empty, run_within}
use Rattle.imap_names.specs.Name.{Name, is_inbox, root_of}
use Rattle.imap_names.specs.Order.{Names, name_cmp, is_below, is_within, moved}
use Rattle.imap_names.specs.Valid.{IsName}
use Rattle.imap_names.proofs.MovedLaws.{moved_within, there_and_back}
use Rattle.imap_names.proofs.NameLaws.{is_name_at, is_name_at-same, equal_names, get_put}
use Rattle.imap_names.proofs.PathLaws.{has_component}
use Rattle.imap_names.proofs.OrderLaws.{below_from_IsAbove, below_from_within}
use Rattle.imap_world.specs.Mailbox.{Mailbox}
use Rattle.imap_world.specs.Kept.{IsSound, is_there, superior_is_there}
use Rattle.imap_world.specs.Laws.{IsKeptOrNew, KeepsValidities}
use Rattle.imap_world.specs.Moving.{arrivals_at, can_move, with_moved, with_validities, with_validity}
use Rattle.imap_world.specs.Ready.{MayMove}
use Rattle.imap_world.specs.World.{World, epoch}
use Rattle.imap_world.proofs.Sound.{or_first, or_second}

abbrev pub is_among : Name → List Name → Bool
is_among q names = list_any (is_name_at q) names

-- ---- the mailboxes get their validities

-- which mailboxes are there stays
validity_keeps : (m : Names Mailbox) (name : Name) (validity : ℕ) (q : Name) → map.contains_key (with_validity m name validity (map.get m name)) q ≡ map.contains_key m q
validity_keeps m name validity q = by (map.get m name) refl
  where
    at : (before : Mailbox) → map.get m name ≡ Some before → (b : Bool) → is_name_at q name ≡ b → is_some (cond b (Some (record before { validity = validity })) (map.get m q)) ≡ is_some (map.get m q)
    at before is true e = sym (ap is_some (ap (map.get m) (equal_names q name e) ∙ is))
    at before is false e = refl

    by : (o : Option Mailbox) → map.get m name ≡ o → map.contains_key (with_validity m name validity o) q ≡ map.contains_key m q
    by None is = refl
    by (Some before) is = ap is_some (get_put m name (record before { validity = validity }) q) ∙ at before is (is_name_at q name) refl

validities_keep : (arrivals : List (Name × ℕ)) (m : Names Mailbox) (q : Name) → map.contains_key (with_validities m arrivals) q ≡ map.contains_key m q
validities_keep [] m q = refl
validities_keep (a ∷ arrivals) m q = validities_keep arrivals (with_validity m a.0 a.1 (map.get m a.0)) q ∙ validity_keeps m a.0 a.1 q

-- What holds of a mailbox with the next validity of each name that one gets, and of all other mailboxes, holds of all
-- mailboxes.
module _ (P : Name → Mailbox → Type 0) (epochs : Names ℕ) where
  abbrev HoldsOrComes : Names Mailbox → List Name → Type 0
  HoldsOrComes m names = (q : Name) (mailbox : Mailbox) → map.get m q ≡ Some mailbox → P q mailbox ⊎ (is_among q names ≡ true)

  abbrev IsNextOf : List Name → Type 0
  IsNextOf names = (q : Name) (mailbox : Mailbox) → is_among q names ≡ true → mailbox.validity ≡ epoch epochs q + 1 → P q mailbox

  not_here : (q name : Name) (names : List Name) → is_name_at q name ≡ false → {X : Type 0} → X ⊎ (is_among q (name ∷ names) ≡ true) → X ⊎ (is_among q names ≡ true)
  not_here q name names apart (inl here) = inl here
  not_here q name names apart (inr among) = inr (ap (λ b. b || is_among q names) (sym apart) ∙ among)

  one_more : (name : Name) (names : List Name) (m : Names Mailbox) → IsNextOf (name ∷ names) → HoldsOrComes m (name ∷ names) → HoldsOrComes (with_validity m name (epoch epochs name + 1) (map.get m name)) names
  one_more name names m next holds q mailbox = by (map.get m name) refl
    where
      none : map.get m name ≡ None → (b : Bool) → is_name_at q name ≡ b → map.get m q ≡ Some mailbox → P q mailbox ⊎ (is_among q names ≡ true)
      none is true e there = absurd (cc (sym there ∙ ap (map.get m) (equal_names q name e) ∙ is))
      none is false e there = not_here q name names e (holds q mailbox there)

      at : (before : Mailbox) → (b : Bool) → is_name_at q name ≡ b → cond b (Some (record before { validity = epoch epochs name + 1 })) (map.get m q) ≡ Some mailbox
          → P q mailbox ⊎ (is_among q names ≡ true)
      at before true e there =
          let same : epoch epochs q + 1 ≡ mailbox.validity = ap (λ n. epoch epochs n + 1) (equal_names q name e) ∙ ap (λ (o : Option Mailbox). (unwrap_or o mailbox).validity) there in
          inl (next q mailbox (or_first (is_name_at q name) (is_among q names) e) (sym same))
      at before false e there = not_here q name names e (holds q mailbox there)

      by : (o : Option Mailbox) → map.get m name ≡ o → map.get (with_validity m name (epoch epochs name + 1) o) q ≡ Some mailbox → P q mailbox ⊎ (is_among q names ≡ true)
      by None is there = none is (is_name_at q name) refl there
      by (Some before) is there = at before (is_name_at q name) refl (sym (get_put m name (record before { validity = epoch epochs name + 1 }) q) ∙ there)

  arrived : (names : List Name) (m : Names Mailbox) → IsNextOf names → HoldsOrComes m names → (q : Name) (mailbox : Mailbox) → map.get (with_validities m (arrivals_at epochs names)) q ≡ Some mailbox → P q mailbox
  arrived [] m next holds q mailbox there = by (holds q mailbox there)
    where
      by : P q mailbox ⊎ (false ≡ true) → P q mailbox
      by (inl here) = here
      by (inr e) = absurd (true≢false (sym e))
  arrived (name ∷ names) m next holds q mailbox there =
      arrived names (with_validity m name (epoch epochs name + 1) (map.get m name)) (λ p found e. next p found (or_second (is_name_at p name) (is_among p names) e)) (one_more name names m next holds) q mailbox there

-- the validities that are counted then
pub counted : (epochs : Names ℕ) (names : List Name) (m : Names ℕ) (q : Name) → epoch (inserted_all m (arrivals_at epochs names)) q ≡ cond (is_among q names) (epoch epochs q + 1) (epoch m q)
counted epochs [] m q = refl
counted epochs (name ∷ names) m q =
    counted epochs names (map.insert m name (epoch epochs name + 1)) q
    ∙ ap (λ o. cond (is_among q names) (epoch epochs q + 1) (unwrap_or o 0)) (get_put m name (epoch epochs name + 1) q)
    ∙ by (is_name_at q name) refl (is_among q names)
  where
    by : (b : Bool) → is_name_at q name ≡ b → (rest : Bool) → cond rest (epoch epochs q + 1) (unwrap_or (cond b (Some (epoch epochs name + 1)) (map.get m q)) 0) ≡ cond (b || rest) (epoch epochs q + 1) (epoch m q)
    by true e true = refl
    by true e false = ap (λ n. epoch epochs n + 1) (sym (equal_names q name e))
    by false e rest = refl

-- each of them is 1 or more
counted_some : (epochs : Names ℕ) (names : List Name) (m : Names ℕ) → ((q : Name) (validity : ℕ) → map.get m q ≡ Some validity → 0 < validity)
    → (q : Name) (validity : ℕ) → map.get (inserted_all m (arrivals_at epochs names)) q ≡ Some validity → 0 < validity
counted_some epochs [] m before = before
counted_some epochs (name ∷ names) m before = counted_some epochs names (map.insert m name (epoch epochs name + 1)) one
  where
    by : (q : Name) (validity : ℕ) (b : Bool) → cond b (Some (epoch epochs name + 1)) (map.get m q) ≡ Some validity → 0 < validity
    by q validity true e = omega (arith, ap (λ o. unwrap_or o 0) e)
    by q validity false e = before q validity e

    one : (q : Name) (validity : ℕ) → map.get (map.insert m name (epoch epochs name + 1)) q ≡ Some validity → 0 < validity
    one q validity e = by q validity (is_name_at q name) (sym (get_put m name (epoch epochs name + 1) q) ∙ e)

-- ---- a mailbox at a new name is one of those that moved

module _ {X : Type 0} (old new : Name) where
  among_moved : (p : Name) → (es : List (Name × X)) → is_some (find name_cmp p es) ≡ true → is_among (moved old new p) (map_list (λ e. moved old new e.0) es) ≡ true
  among_moved p [] e = absurd (true≢false (sym e))
  among_moved p (entry ∷ es) e = by (is_name_at p entry.0) refl e (among_moved p es)
    where
      by : (b : Bool) → is_name_at p entry.0 ≡ b → is_some (cond b (Some entry.1) (find name_cmp p es)) ≡ true
          → (is_some (find name_cmp p es) ≡ true → is_among (moved old new p) (map_list (λ e. moved old new e.0) es) ≡ true)
          → is_among (moved old new p) (map_list (λ e. moved old new e.0) (entry ∷ es)) ≡ true
      by true at e rest = or_first (is_name_at (moved old new p) (moved old new entry.0)) _ (ap (λ n. is_name_at (moved old new p) (moved old new n)) (sym (equal_names p entry.0 at)) ∙ is_name_at-same (moved old new p))
      by false at e rest = or_second (is_name_at (moved old new p) (moved old new entry.0)) _ (rest e)

  pub moved_is_among : (m : Names X) (q : Name) → is_within new q ≡ true → map.contains_key m (moved new old q) ≡ true → is_among q (moved_names old new m) ≡ true
  moved_is_among m q e there =
      let from : Name = moved new old q in
      ap (λ n. is_among n (moved_names old new m)) (sym (there_and_back new old q e))
      ∙ among_moved from (run_of old m) (ap is_some (get_in_run old m from) ∙ ap (λ b. is_some (cond b (map.get m from) None)) (moved_within new old q e) ∙ there)

-- a mailbox stands at a new name, or stands where it stood
module _ (world : World) (old new : Name) (free : run_of new world.mailboxes ≡ []) where
  came_or_stayed : (q : Name) (mailbox : Mailbox) → map.get (renamed old new world.mailboxes) q ≡ Some mailbox
      → (map.get world.mailboxes q ≡ Some mailbox) ⊎ (is_among q (moved_names old new world.mailboxes) ≡ true)
  came_or_stayed q mailbox there =
      by (is_within new q) refl (is_within old q) (sym (get_renamed old new world.mailboxes q free) ∙ there)
    where
      by : (b : Bool) → is_within new q ≡ b → (d : Bool) → cond b (map.get world.mailboxes (moved new old q)) (cond d None (map.get world.mailboxes q)) ≡ Some mailbox
          → (map.get world.mailboxes q ≡ Some mailbox) ⊎ (is_among q (moved_names old new world.mailboxes) ≡ true)
      by true e d is = inr (moved_is_among old new world.mailboxes q e (ap is_some is))
      by false e true is = absurd (cc is)
      by false e false is = inl is

-- the names alone
pub names_of_arrivals : (epochs : Names ℕ) (names : List Name) → map_list (λ (a : Name × ℕ). a.0) (arrivals_at epochs names) ≡ names
names_of_arrivals epochs [] = refl
names_of_arrivals epochs (name ∷ names) = ap (λ l. name ∷ l) (names_of_arrivals epochs names)

within_new : {X : Type 0} (epochs : Names ℕ) (old new : Name) (es : List (Name × X)) → list_all (λ e. is_within old e.0) es ≡ true
    → list_all (λ (a : Name × ℕ). is_within new a.0) (arrivals_at epochs (map_list (λ e. moved old new e.0) es)) ≡ true
within_new epochs old new [] all = refl
within_new epochs old new (e ∷ es) all =
    let parts = and_parts (is_within old e.0) _ all in
    and_from _ _ (moved_within old new e.0 parts.0) (within_new epochs old new es parts.1)

pub arrivals_within : {X : Type 0} (epochs : Names ℕ) (old new : Name) (m : Names X) → list_all (λ (a : Name × ℕ). is_within new a.0) (arrivals_at epochs (moved_names old new m)) ≡ true
arrivals_within epochs old new m = within_new epochs old new (run_of old m) (run_within old m)

-- ---- what may move

-- the test, by its parts
pub can_move_is : (old new : Name) → IsName old → IsName new → (same inbox above : Bool) → bytes_eq (root_of old) (root_of new) ≡ same → is_inbox old ≡ inbox → is_below old new ≡ above
    → can_move old new ≡ (same && (not inbox && not above))
can_move_is old new valid valid' same inbox above s i a =
    ap (λ b. b && (nat_lt 1 (length new) && (bytes_eq (root_of old) (root_of new) && (not (is_inbox old) && not (is_below old new))))) (has_component old valid)
    ∙ ap (λ b. b && (bytes_eq (root_of old) (root_of new) && (not (is_inbox old) && not (is_below old new)))) (has_component new valid')
    ∙ (λ k. s k && (not (i k) && not (a k)))

pub can_move-long : (old new : Name) → can_move old new ≡ true → 1 < length old
can_move-long old new e = ltb-true _ _ (and_parts (nat_lt 1 (length old)) _ e).0

pub can_move-new_long : (old new : Name) → can_move old new ≡ true → 1 < length new
can_move-new_long old new e =
    let a = (and_parts (nat_lt 1 (length old)) _ e).1 in
    ltb-true _ _ (and_parts (nat_lt 1 (length new)) _ a).0

pub can_move-not_below : (old new : Name) → can_move old new ≡ true → is_below old new ≡ false
can_move-not_below old new e =
    let a = (and_parts (nat_lt 1 (length old)) _ e).1 in
    let b = (and_parts (nat_lt 1 (length new)) _ a).1 in
    let d = (and_parts (bytes_eq (root_of old) (root_of new)) _ b).1 in
    not-true (is_below old new) (and_parts (not (is_inbox old)) _ d).1

pub can_move-not_inbox : (old new : Name) → can_move old new ≡ true → is_inbox old ≡ false
can_move-not_inbox old new e =
    let a = (and_parts (nat_lt 1 (length old)) _ e).1 in
    let b = (and_parts (nat_lt 1 (length new)) _ a).1 in
    let d = (and_parts (bytes_eq (root_of old) (root_of new)) _ b).1 in
    not-true (is_inbox old) (and_parts (not (is_inbox old)) _ d).0

-- it doesn't move onto or below itself
pub moves_apart : {X : Type 0} (m : Names X) (old new : Name) → map.contains_key m old ≡ true → can_move old new ≡ true → has_within new m ≡ false → is_within old new ≡ false
moves_apart m old new there can free = false_from_ne_true _ (λ e. let (x, is) = below_from_within old new e in by x is)
  where
    by : (x : Name) → new ≡ x ++ old → ⊥
    by [] is = true≢false (sym there ∙ ap (map.contains_key m) (sym is) ∙ (or_parts _ _ free).0)
    by (part ∷ x) is = true≢false (sym (below_from_IsAbove old new (part, x, is)) ∙ can_move-not_below old new can)

-- ---- the world stays sound, and no validity is used twice

module _ (world : World) (old new : Name) (arrivals : List (Name × ℕ)) (may : MayMove old new arrivals world) where
  abbrev names : List Name
  names = moved_names old new world.mailboxes

  abbrev after : World
  after = with_moved world old new (arrivals_at world.epochs names)

  free : run_of new world.mailboxes ≡ []
  free = run_is_empty new world.mailboxes may.free

  epoch_after : (q : Name) → epoch after.epochs q ≡ cond (is_among q names) (epoch world.epochs q + 1) (epoch world.epochs q)
  epoch_after q = counted world.epochs names world.epochs q

  -- ---- superiors

  closed_before : IsSound world → IsClosed world.mailboxes
  closed_before sound name there = HasItsSuperior-from_test world.mailboxes name (is_there world.mailboxes) (λ above. refl) (sound.closed name there)

  closed_renamed : IsSound world → IsClosed (renamed old new world.mailboxes)
  closed_renamed sound =
      renamed_closed old new world.mailboxes free (can_move-long old new may.allowed) (closed_before sound)
      (moves_apart world.mailboxes old new may.there may.allowed may.free)
      (HasItsSuperior-from_test world.mailboxes new (is_there world.mailboxes) (λ above. refl) may.superior)

  closed_after : IsSound world → (name : Name) → map.contains_key after.mailboxes name ≡ true → superior_is_there after.mailboxes name ≡ true
  closed_after sound name there =
      HasItsSuperior-test (renamed old new world.mailboxes) name (is_there after.mailboxes) (λ above. validities_keep (arrivals_at world.epochs names) (renamed old new world.mailboxes) above) refl
      (closed_renamed sound name (sym (validities_keep (arrivals_at world.epochs names) (renamed old new world.mailboxes) name) ∙ there))

  -- ---- validities

  abbrev IsCounted : Name → ℕ → Type 0
  IsCounted q validity = validity ≤ epoch after.epochs q

  next_is_counted : (q : Name) → is_among q names ≡ true → IsCounted q (epoch world.epochs q + 1)
  next_is_counted q e = subst (λ n. epoch world.epochs q + 1 ≤ n) (sym (epoch_after q ∙ ap (λ b. cond b (epoch world.epochs q + 1) (epoch world.epochs q)) e)) (omega arith)

  epochs_rise : (q : Name) → epoch world.epochs q ≤ epoch after.epochs q
  epochs_rise q = subst (λ n. epoch world.epochs q ≤ n) (sym (epoch_after q)) (by (is_among q names))
    where
      by : (b : Bool) → epoch world.epochs q ≤ cond b (epoch world.epochs q + 1) (epoch world.epochs q)
      by true = omega arith
      by false = omega arith

  used_or_comes : IsSound world → HoldsOrComes (λ q mailbox. IsCounted q mailbox.validity) world.epochs (renamed old new world.mailboxes) names
  used_or_comes sound q mailbox there = by (came_or_stayed world old new free q mailbox there)
    where
      by : (map.get world.mailboxes q ≡ Some mailbox) ⊎ (is_among q names ≡ true) → IsCounted q mailbox.validity ⊎ (is_among q names ≡ true)
      by (inl stayed) = inl (omega (arith, sound.used q mailbox stayed, epochs_rise q))
      by (inr came) = inr came

  some_or_comes : IsSound world → HoldsOrComes (λ q mailbox. 0 < mailbox.validity) world.epochs (renamed old new world.mailboxes) names
  some_or_comes sound q mailbox there = by (came_or_stayed world old new free q mailbox there)
    where
      by : (map.get world.mailboxes q ≡ Some mailbox) ⊎ (is_among q names ≡ true) → (0 < mailbox.validity) ⊎ (is_among q names ≡ true)
      by (inl stayed) = inl (sound.positive q mailbox stayed)
      by (inr came) = inr came

  sound_after : IsSound world → IsSound after
  sound_after sound = record {
    closed = closed_after sound;
    used = arrived (λ q mailbox. IsCounted q mailbox.validity) world.epochs names (renamed old new world.mailboxes) (λ q mailbox e is. subst (IsCounted q) (sym is) (next_is_counted q e)) (used_or_comes sound);
    positive = arrived (λ q mailbox. 0 < mailbox.validity) world.epochs names (renamed old new world.mailboxes) (λ q mailbox e is. omega (arith, is)) (some_or_comes sound);
    counted = counted_some world.epochs names world.epochs sound.counted;
  }

  pub moved_is_sound : IsSound world → IsSound (with_moved world old new arrivals)
  moved_is_sound sound = subst (λ came. IsSound (with_moved world old new came)) (sym may.next) (sound_after sound)

  -- what holds of a mailbox with the next validity, and of those that were there, holds of each
  pub moved_each : (P : Name → Mailbox → Type 0) → ((q : Name) (mailbox : Mailbox) → mailbox.validity ≡ epoch world.epochs q + 1 → P q mailbox)
      → ((q : Name) (mailbox : Mailbox) → map.get world.mailboxes q ≡ Some mailbox → P q mailbox)
      → (q : Name) (mailbox : Mailbox) → map.get (with_moved world old new arrivals).mailboxes q ≡ Some mailbox → P q mailbox
  moved_each P next stayed =
      subst (λ came. (q : Name) (mailbox : Mailbox) → map.get (with_moved world old new came).mailboxes q ≡ Some mailbox → P q mailbox) (sym may.next)
      (arrived P world.epochs names (renamed old new world.mailboxes) (λ q mailbox e is. next q mailbox is) holds)
    where
      holds : HoldsOrComes P world.epochs (renamed old new world.mailboxes) names
      holds q mailbox there = by (came_or_stayed world old new free q mailbox there)
        where
          by : (map.get world.mailboxes q ≡ Some mailbox) ⊎ (is_among q names ≡ true) → P q mailbox ⊎ (is_among q names ≡ true)
          by (inl is) = inl (stayed q mailbox is)
          by (inr came) = inr came

  -- ---- against an earlier world

  module _ (base : World) (keeps : KeepsValidities base world) where
    next_is_new : (q : Name) → is_among q names ≡ true → IsKeptOrNew base q (epoch world.epochs q + 1)
    next_is_new q e = inr (omega (arith, keeps.epochs q))

    kept_or_comes : HoldsOrComes (λ q mailbox. IsKeptOrNew base q mailbox.validity) world.epochs (renamed old new world.mailboxes) names
    kept_or_comes q mailbox there = by (came_or_stayed world old new free q mailbox there)
      where
        by : (map.get world.mailboxes q ≡ Some mailbox) ⊎ (is_among q names ≡ true) → IsKeptOrNew base q mailbox.validity ⊎ (is_among q names ≡ true)
        by (inl stayed) = inl (keeps.mailboxes q mailbox stayed)
        by (inr came) = inr came

    kept_after : KeepsValidities base after
    kept_after = record {
      epochs = λ q. omega (arith, keeps.epochs q, epochs_rise q);
      mailboxes = arrived (λ q mailbox. IsKeptOrNew base q mailbox.validity) world.epochs names (renamed old new world.mailboxes) (λ q mailbox e is. subst (IsKeptOrNew base q) (sym is) (next_is_new q e)) kept_or_comes;
    }

    pub moved_is_kept : KeepsValidities base (with_moved world old new arrivals)
    moved_is_kept = subst (λ came. KeepsValidities base (with_moved world old new came)) (sym may.next) kept_after
