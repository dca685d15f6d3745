-- What is there once the superiors of a name are made.
use Rattle.std.proofs.Common.{◌≡◌, ℕ, ◌+◌, Bool, true, false, cond, List, [], ◌∷◌, ◌++◌, length, map as map_list, Some, is_some, Result, Ok, Err, refl, sym, ap, subst, ◌∙◌, true≢false, arith}
use Rattle.std.proofs.lemmas.Bool.{and_parts, false_from_ne_true}
use Rattle.std.proofs.lemmas.List.{length-append}
use Rattle.std.specs.FinMap as map
use Rattle.std.specs.List.{AllByRecursion, list_all}
use Rattle.imap_name_map.specs.Renaming.{moved_names}
use Rattle.imap_name_map.specs.Rows.{has_within, run_of}
use Rattle.imap_name_map.proofs.NamesMoved.{run_names_alike}
use Rattle.imap_name_map.proofs.WithinLaws.{none_within, run_is_empty, run_within}
use Rattle.imap_names.specs.Name.{Name}
use Rattle.imap_names.specs.Order.{Names, is_within, moved}
use Rattle.imap_names.proofs.MovedLaws.{moved_within, within_deeper, within_no_shorter}
use Rattle.imap_names.proofs.NameLaws.{is_name_at, equal_names, get_put}
use Rattle.imap_rights.specs.Acl.{AclMap}
use Rattle.imap_world.specs.declared.error.WorldError.{WorldError}
use Rattle.imap_world.specs.declared.error.WorldError.TheVariants.{Limit}
use Rattle.imap_world.specs.Moving.{arrivals_at}
use Rattle.imap_world.specs.NewMailbox.{NewMailbox, mailbox_in}
use Rattle.imap_world.specs.Tree.{new_row, rows_for, with_last, with_row, with_rows}
use Rattle.imap_world.specs.World.{World, epoch}

ok_rows : {A : Type 0} (x y : A) → ◌≡◌ {A = Result A WorldError} (Ok x) (Ok y) → x ≡ y
ok_rows x y e = cc

-- ---- each mailbox that is made has the name or one above it

abbrev IsTail : Name → NewMailbox → Type 0
IsTail name row = (deeper : List (List ℕ)) × (name ≡ deeper ++ row.name)

abbrev pub AreTails : Name → List NewMailbox → Type 0
AreTails name rows = AllByRecursion (IsTail name) rows

tails_deeper : (deepest : List ℕ) (name : Name) (rows : List NewMailbox) → AreTails name rows → AreTails (deepest ∷ name) rows
tails_deeper deepest name [] all = tt
tails_deeper deepest name (row ∷ rows) all =
    ((deepest ∷ all.0.0, ap (λ n. deepest ∷ n) all.0.1), tails_deeper deepest name rows all.1)

tails-last : (name : Name) (rows : List NewMailbox) (row : NewMailbox) → AreTails name rows → IsTail name row → AreTails name (rows ++ row ∷ [])
tails-last name [] row all last = (last, tt)
tails-last name (first ∷ rows) row all last = (all.0, tails-last name rows row all.1 last)

named_so : (epochs : Names ℕ) (name : Name) (acl : AclMap) (row : NewMailbox) → new_row epochs name acl ≡ Ok row → row.name ≡ name
named_so epochs name acl row made = by _ made
  where
    by : (b : Bool) → ◌≡◌ {A = Result NewMailbox WorldError} (cond b (Err Limit) (Ok (record { name = name; validity = epoch epochs name + 1; acl = acl }))) (Ok row) → row.name ≡ name
    by true e = absurd (cc e)
    by false e = ap (λ (r : NewMailbox). r.name) (sym (ok_rows _ row e))

module _ (world : World) (acl : AclMap) where
  pub rows_are_tails : (name : Name) (rows : List NewMailbox) → rows_for world acl name ≡ Ok rows → AreTails name rows
  rows_are_tails [] rows is = subst (AreTails []) (ok_rows [] rows is) tt
  rows_are_tails (root ∷ []) rows is = subst (AreTails (root ∷ [])) (ok_rows [] rows is) tt
  rows_are_tails (deepest ∷ above ∷ more) rows is =
      by (map.contains_key world.mailboxes (deepest ∷ above ∷ more)) (rows_for world acl (above ∷ more)) refl (new_row world.epochs (deepest ∷ above ∷ more) acl) refl is (rows_are_tails (above ∷ more))
    where
      by : (b : Bool) → (outer : Result (List NewMailbox) WorldError) → rows_for world acl (above ∷ more) ≡ outer
          → (last : Result NewMailbox WorldError) → new_row world.epochs (deepest ∷ above ∷ more) acl ≡ last
          → ◌≡◌ {A = Result (List NewMailbox) WorldError} (cond b (Ok []) (with_last outer last)) (Ok rows)
          → ((outers : List NewMailbox) → rows_for world acl (above ∷ more) ≡ Ok outers → AreTails (above ∷ more) outers) → AreTails (deepest ∷ above ∷ more) rows
      by true outer are last new e rest = subst (AreTails (deepest ∷ above ∷ more)) (ok_rows [] rows e) tt
      by false (Err error) are last new e rest = absurd (cc e)
      by false (Ok outers) are (Err error) new e rest = absurd (cc e)
      by false (Ok outers) are (Ok row) new e rest =
          subst (AreTails (deepest ∷ above ∷ more)) (ok_rows (outers ++ row ∷ []) rows e)
          (tails-last (deepest ∷ above ∷ more) outers row (tails_deeper deepest (above ∷ more) outers (rest outers are))
          ([], sym (named_so world.epochs (deepest ∷ above ∷ more) acl row new)))

-- ---- names apart from these stay as they were

abbrev IsApart : Name → List NewMailbox → Type 0
IsApart q rows = AllByRecursion (λ (row : NewMailbox). is_name_at q row.name ≡ false) rows

pub record StaysAt (q : Name) (before after : World) : Type 0 where
  pub mailbox : map.get after.mailboxes q ≡ map.get before.mailboxes q
  pub epoch : map.get after.epochs q ≡ map.get before.epochs q

pub stays_at : (q : Name) (rows : List NewMailbox) (world : World) → IsApart q rows → StaysAt q world (with_rows world rows)
stays_at q [] world apart = record { mailbox = refl; epoch = refl }
stays_at q (row ∷ rows) world apart =
    let rest = stays_at q rows (with_row world row) apart.1 in
    record {
      mailbox = rest.mailbox ∙ get_put world.mailboxes row.name (mailbox_in row) q ∙ ap (λ b. cond b (Some (mailbox_in row)) (map.get world.mailboxes q)) apart.0;
      epoch = rest.epoch ∙ get_put world.epochs row.name row.validity q ∙ ap (λ b. cond b (Some row.validity) (map.get world.epochs q)) apart.0;
    }

-- which mailboxes are there is never less
pub rows_keep : (q : Name) (rows : List NewMailbox) (world : World) → map.contains_key world.mailboxes q ≡ true → map.contains_key (with_rows world rows).mailboxes q ≡ true
rows_keep q [] world there = there
rows_keep q (row ∷ rows) world there = rows_keep q rows (with_row world row) (ap is_some (get_put world.mailboxes row.name (mailbox_in row) q) ∙ by (is_name_at q row.name))
  where
    by : (b : Bool) → is_some (cond b (Some (mailbox_in row)) (map.get world.mailboxes q)) ≡ true
    by true = refl
    by false = there

apart_if : (q above : Name) (rows : List NewMailbox) → AreTails above rows → ((deeper : List (List ℕ)) → above ≡ deeper ++ q → ⊥) → IsApart q rows
apart_if q above [] tails none = tt
apart_if q above (row ∷ rows) tails none =
    (false_from_ne_true _ (λ e. none tails.0.0 (tails.0.1 ∙ ap (λ n. tails.0.0 ++ n) (sym (equal_names q row.name e)))), apart_if q above rows tails.1 none)

within_far : (top q : Name) (deeper : List (List ℕ)) → is_within top q ≡ true → is_within top (deeper ++ q) ≡ true
within_far top q [] e = e
within_far top q (part ∷ deeper) e = within_deeper top part (deeper ++ q) (within_far top q deeper e)

-- a name at or below a new one is none of its superiors
pub below_is_apart : (deepest : List ℕ) (above q : Name) (rows : List NewMailbox) → AreTails above rows → is_within (deepest ∷ above) q ≡ true → IsApart q rows
below_is_apart deepest above q rows tails within =
    apart_if q above rows tails (λ deeper is. omega (arith, within_no_shorter (deepest ∷ above) q within, ap length is ∙ length-append deeper q))

-- nor is one at or below a mailbox that the new name isn't below
pub other_is_apart : (old : Name) (deepest : List ℕ) (above q : Name) (rows : List NewMailbox) → AreTails above rows → is_within old (deepest ∷ above) ≡ false → is_within old q ≡ true → IsApart q rows
other_is_apart old deepest above q rows tails out within =
    apart_if q above rows tails (λ deeper is. true≢false (sym (within_deeper old deepest above (ap (is_within old) is ∙ within_far old q deeper within)) ∙ out))

-- ---- what moves, and where to, stays

-- maps that have the same names at and below `top`
pub free_alike : {X Y : Type 0} (top : Name) (m : Names X) (n : Names Y) → ((q : Name) → is_within top q ≡ true → map.contains_key m q ≡ map.contains_key n q) → has_within top m ≡ false → has_within top n ≡ false
free_alike {X} {Y} top m n same free = none_within top n (emptied (run_of top n) (sym (run_names_alike top (λ q. q) m n same) ∙ ap (map_list (λ (e : Name × X). e.0)) (run_is_empty top m free)))
  where
    emptied : (es : List (Name × Y)) → map_list (λ (e : Name × Y). e.0) es ≡ [] → es ≡ []
    emptied [] e = refl
    emptied (entry ∷ es) e = absurd (cc e)

-- validities that are the same at and below the new name
arrivals_alike : {X : Type 0} (a b : Names ℕ) (old new : Name) (es : List (Name × X)) → ((q : Name) → is_within new q ≡ true → epoch a q ≡ epoch b q) → list_all (λ e. is_within old e.0) es ≡ true
    → arrivals_at a (map_list (λ e. moved old new e.0) es) ≡ arrivals_at b (map_list (λ e. moved old new e.0) es)
arrivals_alike a b old new [] same all = refl
arrivals_alike a b old new (e ∷ es) same all =
    let parts = and_parts (is_within old e.0) _ all in
    λ i. (moved old new e.0, same (moved old new e.0) (moved_within old new e.0 parts.0) i + 1) ∷ arrivals_alike a b old new es same parts.1 i

pub moved_arrivals_alike : {X : Type 0} (a b : Names ℕ) (old new : Name) (m : Names X) → ((q : Name) → is_within new q ≡ true → epoch a q ≡ epoch b q)
    → arrivals_at a (moved_names old new m) ≡ arrivals_at b (moved_names old new m)
moved_arrivals_alike a b old new m same = arrivals_alike a b old new (run_of old m) same (run_within old m)
