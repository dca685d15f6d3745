-- The view after RENAME: the superiors of the new name are made, and then the mailbox moves with all below it.
use Rattle.std.proofs.Common.{◌≡◌, ℕ, ◌<◌, ◌≤◌, Bool, true, false, cond, not, List, [], ◌∷◌, ◌++◌, length, Option, Some, None, Ok, refl, sym, ap, ◌∙◌, true≢false, arith}
use Rattle.std.specs.Prelude.{nat_lt, bytes_eq, option_and_then}
use Rattle.std.specs.List.{AllByRecursion}
use Rattle.std.specs.FinMap as map
use Rattle.std.proofs.lemmas.Bool.{and_parts, and_from, or_parts, not-true, not_from_false, ltb-true, false_from_ne_true}
use Rattle.imap_world.specs.NameMapRows.{has_within, run_of}
use Rattle.imap_world.proofs.WithinLaws.{run_is_empty, none_within}
use Rattle.imap_names.specs.Name.{Name, root_of}
use Rattle.imap_names.proofs.MovedLaws.{within_no_shorter}
use Rattle.imap_names.proofs.NameLaws.{is_name_at, equal_names}
use Rattle.imap_world.specs.Acl.{AclMap}
use Rattle.imap_world.specs.Rights.{delete_mailbox, has_any}
use Rattle.imap_world.specs.declared.site.Site.{Site}
use Rattle.imap_world.specs.Mailbox.{Mailbox}
use Rattle.imap_world.specs.Moving.{arrivals_at, can_move, superior_rows}
use Rattle.imap_world.specs.NewMailbox.{NewMailbox}
use Rattle.imap_world.specs.Tree.{inherited, new_row, rows_for, with_last, with_rows}
use Rattle.imap_world.specs.World.{World}
use Rattle.imap_view.specs.RenameAfter.{missing_above, names_after, view_with_above, view_with_moved, RenamingIsSeen}
use Rattle.imap_view.specs.Seen.{owner_of, seen_at}
use Rattle.imap_view.specs.TreeAfter.{is_known, missing_in, new_seen, validities_left, view_with_mailboxes}
use Rattle.imap_view.specs.View.{View, view_of, seen_in, may_know_name, may_know_name_in, may_create, rights_of, rights_in}
use Rattle.imap_view.proofs.ArrivalsKnown.{arrivals_known}
use Rattle.imap_view.proofs.Creating.{creatable_is_below, creatable_there, above_creatable, equal_octets, known_is_there, creates, IsFresh}
use Rattle.imap_view.proofs.Moving.{IsMove, none_found, no_run, taken_there, known_within, moved_is_seen, there}
use Rattle.imap_view.proofs.Narrowing.{in_use}
use Rattle.imap_view.proofs.Placed.{each_weaker, IsBelow, rows_places_same, rows_elsewhere}
use Rattle.imap_view.proofs.Views.{get_seen}

-- ---- names that can move

record CanMove (old new : Name) : Type 0 where
  old_named : 1 < length old
  new_named : 1 < length new
  one_tree : root_of new ≡ root_of old

can_move_parts : (old new : Name) → can_move old new ≡ true → CanMove old new
can_move_parts old new can =
    let a = and_parts (nat_lt 1 (length old)) _ can in
    let b = and_parts (nat_lt 1 (length new)) _ a.1 in
    let c = and_parts (bytes_eq (root_of old) (root_of new)) _ b.1 in
    record {
      old_named = ltb-true _ _ a.0;
      new_named = ltb-true _ _ b.0;
      one_tree = sym (equal_octets (root_of old) (root_of new) c.0);
    }

-- ---- the superiors of the new name

-- Rows are made for those that aren't there, all of names shorter than the new one. The view after them is as said.
record Superiors (site : Site) (user : List ℕ) (world : World) (new : Name) : Type 0 where
  rows : List NewMailbox
  made : superior_rows world (owner_of site new) new ≡ Ok rows
  longest : ℕ
  longer : longest < length new
  fresh : AllByRecursion (IsFresh site user world longest) rows
  seen : view_of site user (with_rows world rows) ≡ view_with_above (view_of site user world) new

superiors : (site : Site) (user : List ℕ) (world : World) (new : Name) → 1 < length new
    → may_create (view_of site user world) new ≡ true
    → validities_left (view_of site user world) (missing_above (view_of site user world) new) ≡ true
    → Superiors site user world new
superiors site user world [] named may left = absurd (omega (arith, named))
superiors site user world (root ∷ []) named may left = absurd (omega (arith, named))
superiors site user world (deepest ∷ root ∷ []) named may left =
    record { rows = []; made = refl; longest = 0; longer = omega arith; fresh = tt; seen = refl }
superiors site user world (deepest ∷ part ∷ next ∷ more) named may left = by (is_known view above) refl
  where
    view : View
    view = view_of site user world

    above : Name
    above = part ∷ next ∷ more

    acl : AclMap
    acl = inherited world.mailboxes (owner_of site above) above

    by : (b : Bool) → is_known view above ≡ b → Superiors site user world (deepest ∷ part ∷ next ∷ more)
    by true is = record {
      rows = [];
      made = ap (λ b. cond b (Ok []) (with_last (rows_for world acl (next ∷ more)) (new_row world.epochs above acl))) (known_is_there site user world above is);
      longest = 0;
      longer = omega arith;
      fresh = tt;
      seen = ap (λ b. view_with_mailboxes view (new_seen view above) view.epochs (cond b [] (missing_in view (next ∷ more) ++ above ∷ []))) (sym is);
    }
    by false is =
        let longer : length above < length (deepest ∷ above) = omega arith in
        let free : not (map.contains_key view.taken above) ≡ true = not_from_false _ (or_parts _ _ is).1 in
        let made = creates site user world above
        (and_from _ _ (above_creatable view deepest part (next ∷ more) may is refl) (and_from _ _ free left)) in
        record {
          rows = made.creation.rows;
          made = made.creation.made;
          longest = length above;
          longer = longer;
          fresh = made.fresh;
          seen = made.creation.seen;
        }

-- ---- the mailbox and the new name, before and after the superiors are made

module _ (site : Site) (user : List ℕ) (world : World) (new : Name) where
  -- nothing is there if the user knows of nothing
  free_there : may_know_name site user (seen_in site user world) new ≡ true → has_within new (view_of site user world).taken ≡ false → run_of new world.mailboxes ≡ []
  free_there known free =
      no_run new world.mailboxes
      (λ q e. unused (map.get world.mailboxes q)
      (taken_there site user world q (known_within site user world new known q e)
      ∙ none_found new (view_of site user world).taken q (run_is_empty new (view_of site user world).taken free) e))
    where
      unused : (o : Option Mailbox) → in_use o ≡ None → o ≡ None
      unused None e = refl
      unused (Some m) e = cc

module _ (site : Site) (user : List ℕ) (world : World) (old new : Name) (move : IsMove site user world old new) (superior : Superiors site user world new) where
  abbrev between : World
  between = with_rows world superior.rows

  old_stays : map.get between.mailboxes old ≡ map.get world.mailboxes old
  old_stays =
      rows_elsewhere superior.rows world old
      (each_weaker (IsFresh site user world superior.longest) (λ row. is_name_at old row.name ≡ false) superior.rows
      (λ row fresh. false_from_ne_true _ (λ e.
      true≢false (sym (there site user world old new move) ∙ ap (map.contains_key world.mailboxes) (equal_names old row.name e) ∙ fresh.absent)))
      superior.fresh)

  longer_stays : (q : Name) → superior.longest < length q → map.get between.mailboxes q ≡ map.get world.mailboxes q
  longer_stays q long =
      rows_elsewhere superior.rows world q
      (each_weaker (IsFresh site user world superior.longest) (λ row. is_name_at q row.name ≡ false) superior.rows
      (λ row fresh. false_from_ne_true _ (λ e. too_long (length q) (length row.name) (ap length (equal_names q row.name e)) fresh.short long))
      superior.fresh)
    where
      too_long : (m n : ℕ) → m ≡ n → n ≤ superior.longest → superior.longest < m → ⊥
      too_long m n is short long = omega (arith, is, short, long)

  deletable_still : has_any (rights_in (view_of site user between) old) delete_mailbox ≡ true
  deletable_still =
      ap (λ o. has_any (rights_of o) delete_mailbox)
      (get_seen site user between old ∙ ap (option_and_then (seen_at site user old)) old_stays ∙ sym (get_seen site user world old))
      ∙ move.deletable

  known_still : may_know_name_in (view_of site user between) new ≡ true
  unfolding view_of
  known_still =
      rows_places_same site user superior.rows world
      (each_weaker (IsFresh site user world superior.longest) (IsBelow site user world) superior.rows (λ row fresh. fresh.below) superior.fresh) new
      ∙ move.known

  move_still : IsMove site user between old new
  move_still = record {
    deletable = deletable_still;
    known = known_still;
    old_named = move.old_named;
    new_named = move.new_named;
    one_tree = move.one_tree;
    free = no_run new between.mailboxes
        (λ q e. longer_stays q (omega (arith, superior.longer, within_no_shorter new q e)) ∙ none_found new world.mailboxes q move.free e);
  }

-- ---- all of it

pub renaming : RenamingIsSeen
renaming site user world old new may =
    let view = view_of site user world in
    let deletable = and_parts (has_any (rights_in view old) delete_mailbox) _ may in
    let movable = and_parts (can_move old new) _ deletable.1 in
    let creatable = and_parts (may_create view new) _ movable.1 in
    let free = and_parts (not (has_within new view.taken)) _ creatable.1 in
    let arrive = and_parts _ _ free.1 in
    let can = can_move_parts old new movable.0 in
    let known = creatable_there site user world new creatable.0 in
    let move : IsMove site user world old new = record {
      deletable = deletable.0;
      known = creatable_is_below view new creatable.0;
      old_named = can.old_named;
      new_named = can.new_named;
      one_tree = can.one_tree;
      free = free_there site user world new known (not-true _ free.0);
    } in
    let superior = superiors site user world new can.new_named creatable.0 arrive.1 in
    let gets = arrivals_at view.epochs (names_after view old new) in
    record {
      rows = superior.rows;
      there = there site user world old new move;
      allowed = movable.0;
      free = none_within new world.mailboxes move.free;
      made = superior.made;
      arrive = arrivals_known site user world old new move arrive.0;
      seen = moved_is_seen site user (with_rows world superior.rows) old new (move_still site user world old new move superior) gets
          ∙ ap (λ v. view_with_moved v old new gets) superior.seen;
    }
