-- The order of names: by tree, and then component by component from the root. In it a name and all below it
-- stand together, as one run. The order of their texts has no such runs: `a!` would stand between `a` and
-- `a/b`.
use Rattle.std.specs.Prelude.{ℕ, ◌-◌, Bool, not, ◌&&◌, nat_lt, List, [], ◌∷◌, ◌++◌, reverse, length, take}
use Rattle.std.specs.Prelude.{if◌then◌else◌}
use Rattle.std.specs.declared.cmp.Ordering.{Ordering}
use Rattle.std.specs.declared.cmp.Ordering.TheVariants.{Less, Equal, Greater}
use Rattle.std.specs.Ordering.{nat_cmp, bool_cmp, ordering_then, is_eq, on}
use Rattle.std.specs.Cmp.Lexicographic.{slice_cmp}
use Rattle.std.specs.FinMap.{FinMap}
use Rattle.imap_names.specs.Name.{Name}
use Rattle.imap_names.specs.Text.{is_delimiter}

-- of components by their octets, from the outermost on
abbrev pub path_cmp : List (List ℕ) → List (List ℕ) → Ordering
path_cmp = slice_cmp (slice_cmp nat_cmp)

abbrev pub name_cmp : Name → Name → Ordering
name_cmp = on reverse path_cmp

-- finite maps whose keys are names
abbrev pub Names : Type 0 → Type 0
Names X = FinMap {K = Name} name_cmp X

-- where a list stands to those that begin with `top`: before them, among them or after them
abbrev pub front_cmp : {K : Type 0} → (K → K → Ordering) → List K → List K → Ordering
front_cmp R xs [] = Equal
front_cmp R [] (t ∷ top) = Less
front_cmp R (x ∷ xs) (t ∷ top) = ordering_then (R x t) (front_cmp R xs top)

abbrev pub path_run_cmp : List (List ℕ) → List (List ℕ) → Ordering
path_run_cmp = front_cmp (slice_cmp nat_cmp)

-- where a name stands to the run of `top`, that is to `top` and all names below it: before it, in it or
-- after it
abbrev pub run_cmp : Name → Name → Ordering
run_cmp = on reverse path_run_cmp

-- whether the name is `top` or below it
abbrev pub is_within : Name → Name → Bool
is_within top name = is_eq (run_cmp name top)

-- whether the name is below `top`
abbrev pub is_below : Name → Name → Bool
is_below top name = is_within top name && nat_lt (length top) (length name)

-- what a name at or below `old` becomes when `old` becomes `new`
abbrev pub moved : Name → Name → Name → Name
moved old new name = take (length name - length old) name ++ new

-- of two octets of paths: `/` comes before every other octet. So texts are in the order of their components
abbrev pub octet_cmp : ℕ → ℕ → Ordering
octet_cmp a b = ordering_then (bool_cmp (not (is_delimiter a)) (not (is_delimiter b))) (nat_cmp a b)

-- where a path stands to a run, if it is the text of the run's top and then this
abbrev pub end_cmp : List ℕ → Ordering
end_cmp [] = Equal
end_cmp (octet ∷ rest) = if is_delimiter octet then Equal else Greater
