-- New validities change nothing that is seen, and no name in use.
use Rattle.std.proofs.Common.{◌≡◌, ℕ, Bool, true, false, cond, List, [], ◌∷◌, Option, Some, None, refl, sym, ap, ◌∙◌}
use Rattle.std.specs.FinMap as map
use Rattle.imap_world.specs.NameMapRows.{inserted_all}
use Rattle.imap_names.specs.Name.{Name}
use Rattle.imap_names.specs.Order.{Names}
use Rattle.imap_names.proofs.NameLaws.{is_name_at, equal_names, get_put}
use Rattle.imap_world.specs.Mailbox.{Mailbox}
use Rattle.imap_world.specs.Moving.{with_validity, with_validities}

-- ---- what doesn't look at the validity of a mailbox

abbrev pub IgnoresValidity : {Y : Type 0} → (Option Mailbox → Y) → Type 0
IgnoresValidity f = (m : Mailbox) (validity : ℕ) → f (Some (record m { validity = validity })) ≡ f (Some m)

module _ {Y : Type 0} (f : Option Mailbox → Y) (ignores : IgnoresValidity f) where
  one_arrived : (mailboxes : Names Mailbox) (name : Name) (validity : ℕ) (q : Name)
      → f (map.get (with_validity mailboxes name validity (map.get mailboxes name)) q) ≡ f (map.get mailboxes q)
  one_arrived mailboxes name validity q = by (map.get mailboxes name) refl
    where
      at : (m : Mailbox) → map.get mailboxes name ≡ Some m → (b : Bool) → is_name_at q name ≡ b
          → f (cond b (Some (record m { validity = validity })) (map.get mailboxes q)) ≡ f (map.get mailboxes q)
      at m is true e = ignores m validity ∙ ap f (sym (ap (map.get mailboxes) (equal_names q name e) ∙ is))
      at m is false e = refl

      by : (o : Option Mailbox) → map.get mailboxes name ≡ o → f (map.get (with_validity mailboxes name validity o) q) ≡ f (map.get mailboxes q)
      by None is = refl
      by (Some m) is = ap f (get_put mailboxes name (record m { validity = validity }) q) ∙ at m is (is_name_at q name) refl

  pub all_arrived : (mailboxes : Names Mailbox) (arrivals : List (Name × ℕ)) (q : Name) → f (map.get (with_validities mailboxes arrivals) q) ≡ f (map.get mailboxes q)
  all_arrived mailboxes [] q = refl
  all_arrived mailboxes (a ∷ arrivals) q =
      all_arrived (with_validity mailboxes a.0 a.1 (map.get mailboxes a.0)) arrivals q ∙ one_arrived mailboxes a.0 a.1 q

-- ---- the validities

-- values that are the same under a name stay so
pub inserted_alike : {X : Type 0} (a b : Names X) (entries : List (Name × X)) (q : Name) → map.get a q ≡ map.get b q → map.get (inserted_all a entries) q ≡ map.get (inserted_all b entries) q
inserted_alike a b [] q same = same
inserted_alike a b (e ∷ entries) q same =
    inserted_alike (map.insert a e.0 e.1) (map.insert b e.0 e.1) entries q
    (get_put a e.0 e.1 q ∙ ap (cond (is_name_at q e.0) (Some e.1)) same ∙ sym (get_put b e.0 e.1 q))
