-- Access control lists by their rows.
use Rattle.std.proofs.Common.{◌≡◌, ◌⊎◌, inl, inr, ℕ, ℤ, List, [], ◌∷◌, map, refl, sym, ap, subst, ◌∙◌}
use Rattle.std.specs.Prelude.{◌↔◌}
use Rattle.std.specs.FinMap as fin
use Rattle.sqlite.specs.Order.{Row}
use Rattle.sqlite.specs.Tree.{Trees}
use Rattle.sqlite_rules.specs.Lists.{Has}
use Rattle.imap_names.specs.Name.{Name}
use Rattle.imap_rights.specs.Acl.{AclMap}
use Rattle.imap_world.specs.World.{World}
use Rattle.imap_records.specs.Columns.{entry_values}
use Rattle.imap_records.specs.Standing.{IsEntry, Kept}
use Rattle.imap_records.specs.Steps.{acl_steps, entry_step}
use Rattle.imap_records.proofs.Beside.{IsBeside, alike, entry_added}
use Rattle.imap_records.proofs.Making.{MakesBelowAll}

-- the row is of one of these entries
pub record IsListed (i : ℤ) (entries : List (List ℕ × ℕ)) (v : Row) : Type 0 where
  pub entry : List ℕ × ℕ
  pub there : Has entries entry
  pub shown : v ≡ entry_values i entry.0 entry.1

none_listed : (i : ℤ) (E : Row → Type 0) (v : Row) → E v ↔ (E v ⊎ IsListed i [] v)
none_listed i E v = (λ e. inl e, from)
  where
    from : E v ⊎ IsListed i [] v → E v
    from (inl e) = e
    from (inr l) = absurd l.there

first_listed : (i : ℤ) (x : List ℕ × ℕ) (entries : List (List ℕ × ℕ)) (E : Row → Type 0) (v : Row)
    → ((E v ⊎ (v ≡ entry_values i x.0 x.1)) ⊎ IsListed i entries v) ↔ (E v ⊎ IsListed i (x ∷ entries) v)
first_listed i x entries E v = (to, from)
  where
    to : (E v ⊎ (v ≡ entry_values i x.0 x.1)) ⊎ IsListed i entries v → E v ⊎ IsListed i (x ∷ entries) v
    to (inl (inl e)) = inl e
    to (inl (inr is)) = inr (record { entry = x; there = inl refl; shown = is })
    to (inr l) = inr (record { entry = l.entry; there = inr l.there; shown = l.shown })

    found : (entry : List ℕ × ℕ) → Has (x ∷ entries) entry → v ≡ entry_values i entry.0 entry.1 → (E v ⊎ (v ≡ entry_values i x.0 x.1)) ⊎ IsListed i entries v
    found entry (inl same) shown = inl (inr (shown ∙ ap (λ (e : List ℕ × ℕ). entry_values i e.0 e.1) same))
    found entry (inr there) shown = inr (record { entry = entry; there = there; shown = shown })

    from : E v ⊎ IsListed i (x ∷ entries) v → (E v ⊎ (v ≡ entry_values i x.0 x.1)) ⊎ IsListed i entries v
    from (inl e) = inl (inl e)
    from (inr l) = found l.entry l.there l.shown

module _ (B : World) (id : Name → ℤ) (kept : Name → Kept) (i : ℤ) (own : Row) (M G K : Row → Type 0) where
  all_listed : (entries : List (List ℕ × ℕ)) (E : Row → Type 0) (db new : Trees) → MakesBelowAll i (map entry_step entries) db new → IsBeside B id kept db own E M G K
      → IsBeside B id kept new own (λ v. E v ⊎ IsListed i entries v) M G K
  all_listed [] E db new made b =
      alike B id kept new own E M G K (subst (λ (d : Trees). IsBeside B id kept d own E M G K) (sym made) b)
      (λ v. E v ⊎ IsListed i [] v) M G K (none_listed i E) (λ v. (λ h. h, λ h. h)) (λ v. (λ h. h, λ h. h)) (λ v. (λ h. h, λ h. h))
  all_listed (x ∷ entries) E db new (mid, adds, rest) b =
      alike B id kept new own (λ v. (E v ⊎ (v ≡ entry_values i x.0 x.1)) ⊎ IsListed i entries v) M G K
      (all_listed entries (λ v. E v ⊎ (v ≡ entry_values i x.0 x.1)) mid new rest (entry_added B id kept db mid own E M G K b (entry_values i x.0 x.1) adds))
      (λ v. E v ⊎ IsListed i (x ∷ entries) v) M G K (first_listed i x entries E) (λ v. (λ h. h, λ h. h)) (λ v. (λ h. h, λ h. h)) (λ v. (λ h. h, λ h. h))

  -- no entry, and then those of the list
  pub list_put : (acl : AclMap) (db new : Trees) → MakesBelowAll i (acl_steps acl) db new → IsBeside B id kept db own (λ v. ⊥) M G K → IsBeside B id kept new own (IsEntry acl i) M G K
  list_put acl db new made b =
      alike B id kept new own (λ v. ⊥ ⊎ IsListed i (fin.entries acl) v) M G K (all_listed (fin.entries acl) (λ v. ⊥) db new made b)
      (IsEntry acl i) M G K (λ v. (to v, from v)) (λ v. (λ h. h, λ h. h)) (λ v. (λ h. h, λ h. h)) (λ v. (λ h. h, λ h. h))
    where
      to : (v : Row) → ⊥ ⊎ IsListed i (fin.entries acl) v → IsEntry acl i v
      to v (inl none) = absurd none
      to v (inr l) = record { identifier = l.entry.0; rights = l.entry.1; there = l.there; shown = l.shown }

      from : (v : Row) → IsEntry acl i v → ⊥ ⊎ IsListed i (fin.entries acl) v
      from v e = inr (record { entry = (e.identifier, e.rights); there = e.there; shown = e.shown })
