-- A map of which each value is changed.
use Rattle.std.proofs.Common.{◌≡◌, ℕ, List, map, Option, Some, None, refl, sym, ap, ◌∙◌}
use Rattle.std.specs.Prelude.{option_and_then}
use Rattle.std.specs.Option.{option_map}
use Rattle.std.specs.FinMap.{get, slice_cmp-IsAntisymmetric, nat_cmp-IsAntisymmetric}
use Rattle.std.specs.Ordering.{nat_cmp}
use Rattle.std.specs.Cmp.Lexicographic.{slice_cmp}
use Rattle.std.specs.Map.{lookup}
use Rattle.std.specs.declared.string.String.{String}
use Rattle.std.proofs.lemmas.Map.Made.{lookup-map_values}
use Rattle.imap_user_map.specs.Finite.{map_values}
use Rattle.imap_user_map.specs.Rows.{Users, by_octets}
use Rattle.imap_user_map.proofs.Entries.{is_at, get-by_octets, same_answers}
use Rattle.imap_user_map.proofs.KeptValues.{get-keep}

module _ {X Y : Type 0} (f : X → Y) where
  each : (o : Option X) → option_and_then (λ x. Some (f x)) o ≡ option_map f o
  each None = refl
  each (Some x) = refl

  -- what a user has then
  pub get-map_values : (m : Users X) (q : List ℕ) → get (map_values f m) q ≡ option_map f (get m q)
  get-map_values m q = get-keep (slice_cmp nat_cmp) (λ key x. Some (f x)) (slice_cmp-IsAntisymmetric nat_cmp-IsAntisymmetric) m q ∙ each (get m q)

-- by entries
pub mapped : {X Z : Type 0} (f : X → X) (es fs : List (String Z × X)) → fs ≡ map (λ e. (e.0, f e.1)) es → by_octets fs ≡ map_values f (by_octets es)
mapped f es fs is = same_answers _ _ (λ q.
    get-by_octets fs q ∙ ap (lookup (is_at q)) is ∙ lookup-map_values f (is_at q) es ∙ ap (option_map f) (sym (get-by_octets es q)) ∙ sym (get-map_values f (by_octets es) q))
