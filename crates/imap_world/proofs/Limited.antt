-- What is refused by a limit alone, and whether it is.
use Rattle.std.proofs.Common.{◌≡◌, ℕ, ◌+◌, ◌<◌, Bool, true, false, cond, not, List, [], ◌∷◌, length, drop, Option, Some, None, Result, Ok, Err, refl, sym, ap, ◌∙◌, arith}
use Rattle.std.specs.Prelude.{◌==◌, ◌&&◌, ◌||◌, nat_lt}
use Rattle.std.proofs.lemmas.Bool.{ltb-true}
use Rattle.std.specs.Result.{is_ok}
use Rattle.std.specs.FinMap as map
use Rattle.std.specs.List.{list_all}
use Rattle.imap_name_map.specs.Renaming.{moved_names}
use Rattle.imap_names.specs.Name.{Name, superior}
use Rattle.imap_names.specs.Order.{Names}
use Rattle.imap_names.specs.Valid.{IsName, fits, if_fits}
use Rattle.imap_names.proofs.PathLaws.{has_component}
use Rattle.imap_rights.specs.Acl.{AclMap}
use Rattle.imap_world.specs.declared.change.Write.{Write}
use Rattle.imap_world.specs.declared.error.WorldError.{WorldError}
use Rattle.imap_world.specs.declared.error.WorldError.TheVariants.{Limit}
use Rattle.imap_world.specs.Effects.{move_after, puts_of}
use Rattle.imap_world.specs.Moving.{arrivals, arrivals_at, can_arrive, superior_rows}
use Rattle.imap_world.specs.NewMailbox.{NewMailbox}
use Rattle.imap_world.specs.Tree.{created_rows, inherited, new_row, rows_for, with_last}
use Rattle.imap_world.specs.World.{World, epoch, max_validity}
use Rattle.imap_world.proofs.Resolved.{IsLimited}

same_error : {A : Type 0} (x y : WorldError) → ◌≡◌ {A = Result A WorldError} (Err x) (Err y) → x ≡ y
same_error x y e = cc

new_row_limited : (epochs : Names ℕ) (name : Name) (acl : AclMap) → IsLimited (new_row epochs name acl)
new_row_limited epochs name acl error = by (epoch epochs name == max_validity)
  where
    by : (b : Bool) → ◌≡◌ {A = Result NewMailbox WorldError} (cond b (Err Limit) (Ok (record { name = name; validity = epoch epochs name + 1; acl = acl }))) (Err error) → error ≡ Limit
    by true e = sym (same_error {A = NewMailbox} Limit error e)
    by false e = absurd (cc e)

module _ (world : World) where
  rows_limited : (acl : AclMap) (name : Name) → IsLimited (rows_for world acl name)
  rows_limited acl [] error e = absurd (cc e)
  rows_limited acl (root ∷ []) error e = absurd (cc e)
  rows_limited acl (deepest ∷ above ∷ more) error e =
      by (map.contains_key world.mailboxes (deepest ∷ above ∷ more)) (rows_for world acl (above ∷ more)) (rows_limited acl (above ∷ more))
      (new_row world.epochs (deepest ∷ above ∷ more) acl) (new_row_limited world.epochs (deepest ∷ above ∷ more) acl) e
    where
      by : (b : Bool) (outer : Result (List NewMailbox) WorldError) → IsLimited outer → (last : Result NewMailbox WorldError) → IsLimited last
          → ◌≡◌ {A = Result (List NewMailbox) WorldError} (cond b (Ok []) (with_last outer last)) (Err error) → error ≡ Limit
      by true outer outers last lasts e = absurd (cc e)
      by false (Err first) outers last lasts e = outers error (ap Err (same_error {A = List NewMailbox} first error e))
      by false (Ok rows) outers (Err second) lasts e = lasts error (ap Err (same_error {A = List NewMailbox} second error e))
      by false (Ok rows) outers (Ok row) lasts e = absurd (cc e)

  puts_limited : (r : Result (List NewMailbox) WorldError) → IsLimited r → IsLimited (puts_of r)
  puts_limited (Err first) limited error e = limited error (ap Err (same_error {A = List Write} first error e))
  puts_limited (Ok rows) limited error e = absurd (cc e)

  pub created_limited : (owner : List ℕ) (name : Name) → IsLimited (puts_of (created_rows world owner name))
  created_limited owner name = puts_limited (created_rows world owner name) (rows_limited (inherited world.mailboxes owner name) name)

  superiors_limited : (owner : List ℕ) (name : Name) → IsLimited (puts_of (superior_rows world owner name))
  superiors_limited owner [] error e = absurd (cc e)
  superiors_limited owner (deepest ∷ above) error e = created_limited owner above error e

  arrivals_limited : (old new : Name) → IsLimited (arrivals world old new)
  arrivals_limited old new error = by (list_all (can_arrive world.epochs) (moved_names old new world.mailboxes))
    where
      by : (b : Bool) → ◌≡◌ {A = Result (List (Name × ℕ)) WorldError} (cond b (Ok (arrivals_at world.epochs (moved_names old new world.mailboxes))) (Err Limit)) (Err error) → error ≡ Limit
      by true e = absurd (cc e)
      by false e = sym (same_error {A = List (Name × ℕ)} Limit error e)

  after_limited : (old new : Name) (made : Result (List Write) WorldError) (came : Result (List (Name × ℕ)) WorldError) → IsLimited made → IsLimited came → IsLimited (move_after old new made came)
  after_limited old new (Err first) came mades cames error e = mades error (ap Err (same_error {A = List Write} first error e))
  after_limited old new (Ok ws) (Err second) mades cames error e = cames error (ap Err (same_error {A = List Write} second error e))
  after_limited old new (Ok ws) (Ok names) mades cames error e = absurd (cc e)

  pub move_limited : (owner : List ℕ) (old new : Name) → IsLimited (move_after old new (puts_of (superior_rows world owner new)) (arrivals world old new))
  move_limited owner old new = after_limited old new (puts_of (superior_rows world owner new)) (arrivals world old new) (superiors_limited owner new) (arrivals_limited old new)

-- ---- whether a limit is met

is_ok-puts_of : (rows : Result (List NewMailbox) WorldError) → is_ok (puts_of rows) ≡ is_ok rows
is_ok-puts_of (Err error) = refl
is_ok-puts_of (Ok rows) = refl

is_ok-with_last : (rows : Result (List NewMailbox) WorldError) (row : Result NewMailbox WorldError) → is_ok (with_last rows row) ≡ (is_ok row && is_ok rows)
is_ok-with_last (Err error) (Err last) = refl
is_ok-with_last (Err error) (Ok row) = refl
is_ok-with_last (Ok rows) (Err last) = refl
is_ok-with_last (Ok rows) (Ok row) = refl

is_ok-new_row : (epochs : Names ℕ) (name : Name) (acl : AclMap) → is_ok (new_row epochs name acl) ≡ not (epoch epochs name == max_validity)
is_ok-new_row epochs name acl = by (epoch epochs name == max_validity)
  where
    by : (b : Bool) → is_ok {T = NewMailbox} {E = WorldError} (cond b (Err Limit) (Ok (record { name = name; validity = epoch epochs name + 1; acl = acl }))) ≡ not b
    by true = refl
    by false = refl

module _ (world : World) where
  -- of a superior, if there is one
  abbrev pub is_above_ok : AclMap → Option Name → Bool
  is_above_ok acl None = true
  is_above_ok acl (Some above) = is_ok (rows_for world acl above)

  -- a mailbox can be made if it is there, or else has a UIDVALIDITY left, and its superior can be made
  rows_by : (acl : AclMap) (name : Name) (there : Bool) (outer : Result (List NewMailbox) WorldError)
      → is_ok (cond there (Ok []) (with_last outer (new_row world.epochs name acl))) ≡ (there || (not (epoch world.epochs name == max_validity) && is_ok outer))
  rows_by acl name true outer = refl
  rows_by acl name false outer = is_ok-with_last outer (new_row world.epochs name acl) ∙ ap (λ b. b && is_ok outer) (is_ok-new_row world.epochs name acl)

  pub rows_ok : (acl : AclMap) (name : Name) → 1 < length name
      → is_ok (rows_for world acl name) ≡ (map.contains_key world.mailboxes name || (not (epoch world.epochs name == max_validity) && is_above_ok acl (superior name)))
  rows_ok acl [] long = absurd (omega (arith, long))
  rows_ok acl (root ∷ []) long = absurd (omega (arith, long))
  rows_ok acl (outermost ∷ root ∷ []) long = rows_by acl (outermost ∷ root ∷ []) (map.contains_key world.mailboxes (outermost ∷ root ∷ [])) (Ok [])
  rows_ok acl (deepest ∷ above ∷ next ∷ more) long =
      rows_by acl (deepest ∷ above ∷ next ∷ more) (map.contains_key world.mailboxes (deepest ∷ above ∷ next ∷ more)) (rows_for world acl (above ∷ next ∷ more))

  module _ (acl : AclMap) (name : Name) (long : 1 < length name) where
    pub made_there : map.contains_key world.mailboxes name ≡ true → true ≡ is_ok (rows_for world acl name)
    made_there there = sym (rows_ok acl name long ∙ ap (λ b. b || (not (epoch world.epochs name == max_validity) && is_above_ok acl (superior name))) there)

    absent_ok : map.contains_key world.mailboxes name ≡ false → is_ok (rows_for world acl name) ≡ (not (epoch world.epochs name == max_validity) && is_above_ok acl (superior name))
    absent_ok absent = rows_ok acl name long ∙ ap (λ b. b || (not (epoch world.epochs name == max_validity) && is_above_ok acl (superior name))) absent

    pub not_made : map.contains_key world.mailboxes name ≡ false → (epoch world.epochs name == max_validity) ≡ true → false ≡ is_ok (rows_for world acl name)
    not_made absent full = sym (absent_ok absent ∙ ap (λ b. not b && is_above_ok acl (superior name)) full)

    pub made_by_superior : (above : Option Name) → superior name ≡ above → map.contains_key world.mailboxes name ≡ false → (epoch world.epochs name == max_validity) ≡ false
        → is_above_ok acl above ≡ is_ok (rows_for world acl name)
    made_by_superior above is absent left = sym (absent_ok absent ∙ ap (λ b. not b && is_above_ok acl (superior name)) left ∙ ap (is_above_ok acl) is)

  pub created_ok : (owner : List ℕ) (name : Name) → is_ok (puts_of (created_rows world owner name)) ≡ is_ok (rows_for world (inherited world.mailboxes owner name) name)
  created_ok owner name = is_ok-puts_of (created_rows world owner name)

  -- as for the superior, if there is one
  pub superiors_ok : (owner : List ℕ) (name : Name) → 1 < length name → is_ok (superior_rows world owner name) ≡ is_above_ok (inherited world.mailboxes owner (drop 1 name)) (superior name)
  superiors_ok owner [] long = absurd (omega (arith, long))
  superiors_ok owner (root ∷ []) long = absurd (omega (arith, long))
  superiors_ok owner (outermost ∷ root ∷ []) long = refl
  superiors_ok owner (deepest ∷ above ∷ next ∷ more) long = refl

  -- of a move
  after_ok : (old new : Name) (made : Result (List NewMailbox) WorldError) (came : Result (List (Name × ℕ)) WorldError) → is_ok (move_after old new (puts_of made) came) ≡ (is_ok made && is_ok came)
  after_ok old new (Err error) (Err last) = refl
  after_ok old new (Err error) (Ok came) = refl
  after_ok old new (Ok rows) (Err last) = refl
  after_ok old new (Ok rows) (Ok came) = refl

  pub move_ok : (owner : List ℕ) (old new : Name)
      → is_ok (move_after old new (puts_of (superior_rows world owner new)) (arrivals world old new)) ≡ (is_ok (superior_rows world owner new) && is_ok (arrivals world old new))
  move_ok owner old new = after_ok old new (superior_rows world owner new) (arrivals world old new)

  pub arrivals_ok : (old new : Name) → is_ok (arrivals world old new) ≡ list_all (can_arrive world.epochs) (moved_names old new world.mailboxes)
  arrivals_ok old new = by (list_all (can_arrive world.epochs) (moved_names old new world.mailboxes))
    where
      by : (b : Bool) → is_ok {T = List (Name × ℕ)} {E = WorldError} (cond b (Ok (arrivals_at world.epochs (moved_names old new world.mailboxes))) (Err Limit)) ≡ b
      by true = refl
      by false = refl

-- ---- a mailbox that gets a name

module _ (epochs : Names ℕ) (name : Name) where
  some_by : (b : Bool) → fits name ≡ b → (got : Name) → ◌≡◌ {A = Option Name} (Some got) (cond b (Some name) None) → nat_lt (epoch epochs got) max_validity ≡ can_arrive epochs name
  some_by true fit got is =
      let same : got ≡ name = cc in
      ap (λ n. nat_lt (epoch epochs n) max_validity) same ∙ ap (λ b. b && nat_lt (epoch epochs name) max_validity) (sym fit)
  some_by false fit got is = absurd (cc is)

  none_by : (b : Bool) → fits name ≡ b → ◌≡◌ {A = Option Name} None (cond b (Some name) None) → false ≡ can_arrive epochs name
  none_by true fit is = absurd (cc is)
  none_by false fit is = ap (λ b. b && nat_lt (epoch epochs name) max_validity) (sym fit)

  pub arrives_at : (got : Name) → Some got ≡ if_fits name → nat_lt (epoch epochs got) max_validity ≡ can_arrive epochs name
  arrives_at got is = some_by (fits name) refl got is

  pub does_not_fit : None ≡ if_fits name → false ≡ can_arrive epochs name
  does_not_fit is = none_by (fits name) refl is

-- a name has a component below its root
pub has_parts : (name : Name) → IsName name → 1 < length name
has_parts name valid = ltb-true 1 (length name) (has_component name valid)
