-- What a user finds of a name that may be unknown.
use Rattle.std.proofs.Common.{◌≡◌, ℕ, ◌+◌, ◌<◌, Bool, true, false, cond, not, ◌||◌, List, Option, None, Some, is_some, refl, sym, ap, ◌∙◌, arith}
use Rattle.std.specs.Prelude.{MatchOption, nat_lt, unwrap_or}
use Rattle.std.proofs.lemmas.Bool.Decides.{nat_tests}
use Rattle.std.specs.FinMap as map
use Rattle.imap_names.specs.Name.{Name}
use Rattle.imap_world.specs.declared.site.Site.{Site}
use Rattle.imap_world.specs.World.{World, epoch, max_validity}
use Rattle.imap_view.specs.View.{view_of, seen_in, may_know_name, may_know_name_in}
use Rattle.imap_view.proofs.Narrowing.{get_epochs}

-- a name of which the user may not know has a UIDVALIDITY left
pub validity_known : (site : Site) (user : List ℕ) (world : World) (name : Name)
    → (not (may_know_name_in (view_of site user world) name) || nat_lt (epoch world.epochs name) max_validity)
    ≡ nat_lt (epoch (view_of site user world).epochs name) max_validity
unfolding view_of
validity_known site user world name =
    by (may_know_name site user (seen_in site user world) name)
    ∙ ap (λ o. nat_lt (unwrap_or o 0) max_validity) (sym (get_epochs site user (seen_in site user world) world name))
  where
    by : (known : Bool) → (not known || nat_lt (epoch world.epochs name) max_validity) ≡ nat_lt (unwrap_or (cond known (map.get world.epochs name) None) 0) max_validity
    by true = refl
    by false = refl

-- whether there is a next UIDVALIDITY
pub left_by : (next : Option ℕ) (used : ℕ) → MatchOption next (used ≡ max_validity) (λ validity. (validity ≡ used + 1) × (used < max_validity)) → is_some next ≡ nat_lt used max_validity
left_by None used h = grind (arith, nat_tests)
left_by (Some validity) used h = grind (arith, nat_tests)
