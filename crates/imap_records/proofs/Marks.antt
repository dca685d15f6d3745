-- A user's own changes by their rows.
use Rattle.std.proofs.Common.{◌≡◌, ◌≢◌, ◌⊎◌, inl, inr, ℕ, ℤ, eqb, Bool, true, false, cond, not, List, [], ◌∷◌, ◌++◌, map, Some, refl, sym, ap, subst, ◌∙◌, true≢false}
use Rattle.std.specs.Prelude.{◌↔◌, bytes_eq}
use Rattle.std.proofs.lemmas.Bool.{eq-eqb, ne_eqb}
use Rattle.std.proofs.lemmas.Slice.Eq.{bytes_eq-Decides}
use Rattle.sqlite.specs.declared.types.Value.TheVariants.{Int, Text as Words}
use Rattle.sqlite.specs.Order.{Row, column}
use Rattle.sqlite.specs.Tree.{Trees}
use Rattle.sqlite_rules.specs.Lists.{Has}
use Rattle.sqlite_rules.proofs.ListLemmas.{has_either, has_filtered, has_kept, has_left, has_right}
use Rattle.imap_batch.specs.Entered.{without_rows}
use Rattle.imap_mailbox.specs.declared.kept_change.KeptChange.{KeptChange}
use Rattle.imap_mailbox.specs.KeptRows.{without_row}
use Rattle.imap_names.specs.Name.{Name}
use Rattle.imap_world.specs.World.{World}
use Rattle.imap_records.specs.Columns.{mark_values, place_value}
use Rattle.imap_records.specs.Standing.{IsMark, Kept}
use Rattle.imap_records.specs.Steps.{drop_step, mark_step}
use Rattle.imap_records.proofs.Beside.{IsBeside, IsFree, IsMarkAt, alike, mark_added, mark_removed}
use Rattle.imap_records.proofs.Injective.{same_place}
use Rattle.imap_records.proofs.Keys.{same_text}
use Rattle.imap_records.proofs.Making.{MakesBelowAll}

-- ---- rows that are added

-- the row is of one of these changes
pub record IsNew (i : ℤ) (user : List ℕ) (own : List KeptChange) (v : Row) : Type 0 where
  pub change : KeptChange
  pub there : Has own change
  pub shown : v ≡ mark_values i user change

first_or_later : (i : ℤ) (user : List ℕ) (c : KeptChange) (own : List KeptChange) (K : Row → Type 0) (v : Row)
    → ((K v ⊎ (v ≡ mark_values i user c)) ⊎ IsNew i user own v) ↔ (K v ⊎ IsNew i user (c ∷ own) v)
first_or_later i user c own K v = (to, from)
  where
    to : (K v ⊎ (v ≡ mark_values i user c)) ⊎ IsNew i user own v → K v ⊎ IsNew i user (c ∷ own) v
    to (inl (inl k)) = inl k
    to (inl (inr is)) = inr (record { change = c; there = inl refl; shown = is })
    to (inr n) = inr (record { change = n.change; there = inr n.there; shown = n.shown })

    found : (change : KeptChange) → Has (c ∷ own) change → v ≡ mark_values i user change → (K v ⊎ (v ≡ mark_values i user c)) ⊎ IsNew i user own v
    found change (inl same) shown = inl (inr (shown ∙ ap (mark_values i user) same))
    found change (inr there) shown = inr (record { change = change; there = there; shown = shown })

    from : K v ⊎ IsNew i user (c ∷ own) v → (K v ⊎ (v ≡ mark_values i user c)) ⊎ IsNew i user own v
    from (inl k) = inl (inl k)
    from (inr n) = found n.change n.there n.shown

none_new : (i : ℤ) (user : List ℕ) (K : Row → Type 0) (v : Row) → K v ↔ (K v ⊎ IsNew i user [] v)
none_new i user K v = (λ k. inl k, from)
  where
    from : K v ⊎ IsNew i user [] v → K v
    from (inl k) = k
    from (inr n) = absurd n.there

-- ---- rows that go

-- the rows with K are left, but for the user's own changes at these places
abbrev pub IsLeft : (i : ℤ) (user : List ℕ) (places : List ℕ) → (K : Row → Type 0) → Row → Type 0
IsLeft i user [] K v = K v
IsLeft i user (p ∷ places) K v = IsLeft i user places (λ w. K w × ¬ IsMarkAt i user (place_value p) w) v

module _ (B : World) (id : Name → ℤ) (kept : Name → Kept) (i : ℤ) (own_row : Row) (E M G : Row → Type 0) where
  pub all_marked : (user : List ℕ) (own : List KeptChange) (K : Row → Type 0) (db new : Trees) → MakesBelowAll i (map (mark_step user) own) db new
      → IsBeside B id kept db own_row E M G K → IsBeside B id kept new own_row E M G (λ v. K v ⊎ IsNew i user own v)
  all_marked user [] K db new made b =
      alike B id kept new own_row E M G K (subst (λ (d : Trees). IsBeside B id kept d own_row E M G K) (sym made) b)
      E M G (λ v. K v ⊎ IsNew i user [] v) (λ v. (λ h. h, λ h. h)) (λ v. (λ h. h, λ h. h)) (λ v. (λ h. h, λ h. h)) (none_new i user K)
  all_marked user (c ∷ own) K db new (mid, adds, rest) b =
      alike B id kept new own_row E M G (λ v. (K v ⊎ (v ≡ mark_values i user c)) ⊎ IsNew i user own v)
      (all_marked user own (λ v. K v ⊎ (v ≡ mark_values i user c)) mid new rest (mark_added B id kept db mid own_row E M G K b (mark_values i user c) adds))
      E M G (λ v. K v ⊎ IsNew i user (c ∷ own) v) (λ v. (λ h. h, λ h. h)) (λ v. (λ h. h, λ h. h)) (λ v. (λ h. h, λ h. h)) (first_or_later i user c own K)

  pub all_dropped : IsFree B id i → (user : List ℕ) (places : List ℕ) (K : Row → Type 0) (db new : Trees) → MakesBelowAll i (map (drop_step user) places) db new
      → IsBeside B id kept db own_row E M G K → IsBeside B id kept new own_row E M G (IsLeft i user places K)
  all_dropped free user [] K db new made b = subst (λ (d : Trees). IsBeside B id kept d own_row E M G K) (sym made) b
  all_dropped free user (p ∷ places) K db new (mid, removes, rest) b =
      all_dropped free user places (λ w. K w × ¬ IsMarkAt i user (place_value p) w) mid new rest (mark_removed B id kept db mid own_row E M G K b i free user (place_value p) removes)

-- ---- they are those that are kept afterwards

-- one user's own changes are these
abbrev pub kept_with : Kept → (user : List ℕ) → List KeptChange → Kept
kept_with k user own q = cond (bytes_eq q user) own (k q)

pub kept_same : (k : Kept) (user q : List ℕ) → kept_with k user (k user) q ≡ k q
kept_same k user q = by (bytes_eq q user) refl
  where
    by : (b : Bool) → bytes_eq q user ≡ b → cond b (k user) (k q) ≡ k q
    by true e = ap k (sym ((bytes_eq-Decides q user).0 e))
    by false e = refl

module _ (i : ℤ) (user : List ℕ) (k : Kept) where
  marks_same : (v : Row) → IsMark k i v ↔ IsMark (kept_with k user (k user)) i v
  marks_same v = (
    λ m. record { user = m.user; change = m.change; there = subst (λ l. Has l m.change) (sym (kept_same k user m.user)) m.there; shown = m.shown },
    λ m. record { user = m.user; change = m.change; there = subst (λ l. Has l m.change) (kept_same k user m.user) m.there; shown = m.shown },
  )

  -- the change of the row is the user's, at the place
  at_place : (p : ℕ) (v : Row) (q : List ℕ) (c : KeptChange) → v ≡ mark_values i q c → q ≡ user → c.place ≡ p → IsMarkAt i user (place_value p) v
  at_place p v q c shown same at = (
    ap (λ (r : Row). column r 0) shown,
    ap (λ (r : Row). column r 1) shown ∙ ap Words same,
    ap (λ (r : Row). column r 2) shown ∙ ap (λ n. Int (place_value n)) at,
  )

  without_to : (own : List KeptChange) (p : ℕ) (v : Row) → IsMark (kept_with k user own) i v × ¬ IsMarkAt i user (place_value p) v → IsMark (kept_with k user (without_row (Some p) own)) i v
  without_to own p v (m, not_at) = by (bytes_eq m.user user) refl m.there
    where
      by : (b : Bool) → bytes_eq m.user user ≡ b → Has (cond b own (k m.user)) m.change → IsMark (kept_with k user (without_row (Some p) own)) i v
      by true e there = record {
        user = m.user;
        change = m.change;
        there = subst (λ b. Has (cond b (without_row (Some p) own) (k m.user)) m.change) (sym e)
            (has_kept (λ (c : KeptChange). not (eqb c.place p)) own m.change there
            (ap not (ne_eqb m.change.place p (λ at. not_at (at_place p v m.user m.change m.shown ((bytes_eq-Decides m.user user).0 e) at)))));
        shown = m.shown;
      }
      by false e there = record {
        user = m.user;
        change = m.change;
        there = subst (λ b. Has (cond b (without_row (Some p) own) (k m.user)) m.change) (sym e) there;
        shown = m.shown;
      }

  without_from : (own : List KeptChange) (p : ℕ) (v : Row) → IsMark (kept_with k user (without_row (Some p) own)) i v → IsMark (kept_with k user own) i v × ¬ IsMarkAt i user (place_value p) v
  without_from own p v m = by (bytes_eq m.user user) refl m.there
    where
      by : (b : Bool) → bytes_eq m.user user ≡ b → Has (cond b (without_row (Some p) own) (k m.user)) m.change → IsMark (kept_with k user own) i v × ¬ IsMarkAt i user (place_value p) v
      by true e there =
          let h = has_filtered (λ (c : KeptChange). not (eqb c.place p)) own m.change there in (
            record { user = m.user; change = m.change; there = subst (λ b. Has (cond b own (k m.user)) m.change) (sym e) h.0; shown = m.shown },
            λ at.
                let same = same_place m.change.place p (sym (ap (λ (r : Row). column r 2) m.shown) ∙ at.2) in
                true≢false (sym h.1 ∙ ap not (eq-eqb m.change.place p same)),
          )
      by false e there = (
        record { user = m.user; change = m.change; there = subst (λ b. Has (cond b own (k m.user)) m.change) (sym e) there; shown = m.shown },
        λ at. true≢false (sym ((bytes_eq-Decides m.user user).1 (same_text m.user user (sym (ap (λ (r : Row). column r 1) m.shown) ∙ at.1))) ∙ e),
      )

  left_alike : (places : List ℕ) (K L : Row → Type 0) → ((v : Row) → K v ↔ L v) → (v : Row) → IsLeft i user places K v ↔ IsLeft i user places L v
  left_alike [] K L iff v = iff v
  left_alike (p ∷ places) K L iff v =
      left_alike places (λ w. K w × ¬ IsMarkAt i user (place_value p) w) (λ w. L w × ¬ IsMarkAt i user (place_value p) w) (λ w. (λ h. ((iff w).0 h.0, h.1), λ h. ((iff w).1 h.0, h.1))) v

  marks_left : (places : List ℕ) (own : List KeptChange) (v : Row) → IsLeft i user places (IsMark (kept_with k user own) i) v ↔ IsMark (kept_with k user (without_rows places own)) i v
  marks_left [] own v = (λ h. h, λ h. h)
  marks_left (p ∷ places) own v =
      let one = left_alike places (λ w. IsMark (kept_with k user own) i w × ¬ IsMarkAt i user (place_value p) w) (IsMark (kept_with k user (without_row (Some p) own)) i)
      (λ w. (without_to own p w, without_from own p w)) v in
      let rest = marks_left places (without_row (Some p) own) v in
      (λ h. rest.0 (one.0 h), λ h. one.1 (rest.1 h))

  grown_to : (own news : List KeptChange) (v : Row) → IsMark (kept_with k user own) i v ⊎ IsNew i user news v → IsMark (kept_with k user (own ++ news)) i v
  grown_to own news v (inr n) = record {
    user = user;
    change = n.change;
    there = subst (λ b. Has (cond b (own ++ news) (k user)) n.change) (sym ((bytes_eq-Decides user user).1 refl)) (has_right own news n.change n.there);
    shown = n.shown;
  }
  grown_to own news v (inl m) = by (bytes_eq m.user user) refl m.there
    where
      by : (b : Bool) → bytes_eq m.user user ≡ b → Has (cond b own (k m.user)) m.change → IsMark (kept_with k user (own ++ news)) i v
      by true e there =
          record { user = m.user; change = m.change; there = subst (λ b. Has (cond b (own ++ news) (k m.user)) m.change) (sym e) (has_left own news m.change there); shown = m.shown }
      by false e there = record { user = m.user; change = m.change; there = subst (λ b. Has (cond b (own ++ news) (k m.user)) m.change) (sym e) there; shown = m.shown }

  grown_from : (own news : List KeptChange) (v : Row) → IsMark (kept_with k user (own ++ news)) i v → IsMark (kept_with k user own) i v ⊎ IsNew i user news v
  grown_from own news v m = by (bytes_eq m.user user) refl m.there
    where
      here : bytes_eq m.user user ≡ true → Has own m.change ⊎ Has news m.change → IsMark (kept_with k user own) i v ⊎ IsNew i user news v
      here e (inl h) = inl (record { user = m.user; change = m.change; there = subst (λ b. Has (cond b own (k m.user)) m.change) (sym e) h; shown = m.shown })
      here e (inr h) = inr (record { change = m.change; there = h; shown = m.shown ∙ ap (λ u. mark_values i u m.change) ((bytes_eq-Decides m.user user).0 e) })

      by : (b : Bool) → bytes_eq m.user user ≡ b → Has (cond b (own ++ news) (k m.user)) m.change → IsMark (kept_with k user own) i v ⊎ IsNew i user news v
      by true e there = here e (has_either own news m.change there)
      by false e there = inl (record { user = m.user; change = m.change; there = subst (λ b. Has (cond b own (k m.user)) m.change) (sym e) there; shown = m.shown })

  pub marks_grown : (places : List ℕ) (news : List KeptChange) (v : Row)
      → (IsLeft i user places (IsMark k i) v ⊎ IsNew i user news v) ↔ IsMark (kept_with k user (without_rows places (k user) ++ news)) i v
  marks_grown places news v = (to, from)
    where
      left : IsLeft i user places (IsMark k i) v ↔ IsMark (kept_with k user (without_rows places (k user))) i v
      left =
          let same = left_alike places (IsMark k i) (IsMark (kept_with k user (k user)) i) marks_same v in
          let are = marks_left places (k user) v in
          (λ h. are.0 (same.0 h), λ h. same.1 (are.1 h))

      to : IsLeft i user places (IsMark k i) v ⊎ IsNew i user news v → IsMark (kept_with k user (without_rows places (k user) ++ news)) i v
      to (inl h) = grown_to (without_rows places (k user)) news v (inl (left.0 h))
      to (inr n) = grown_to (without_rows places (k user)) news v (inr n)

      from : IsMark (kept_with k user (without_rows places (k user) ++ news)) i v → IsLeft i user places (IsMark k i) v ⊎ IsNew i user news v
      from m = by (grown_from (without_rows places (k user)) news v m)
        where
          by : IsMark (kept_with k user (without_rows places (k user))) i v ⊎ IsNew i user news v → IsLeft i user places (IsMark k i) v ⊎ IsNew i user news v
          by (inl h) = inl (left.1 h)
          by (inr n) = inr n
