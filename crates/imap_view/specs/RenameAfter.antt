-- What the view of a user becomes when the user renames a mailbox (RFC 9051, section 6.3.6).
use Rattle.std.specs.Prelude.{◌≡◌, ℕ, Bool, true, false, not, ◌&&◌, List, [], ◌∷◌, Ok}
use Rattle.std.specs.Prelude.{Option, Some, None, option_map, map as map_list}
use Rattle.std.specs.FinMap as map
use Rattle.std.specs.List.{list_all}
use Rattle.imap_world.specs.Renaming.{renamed}
use Rattle.imap_world.specs.NameMapRows.{has_within, inserted_all}
use Rattle.imap_names.specs.Name.{Name}
use Rattle.imap_names.specs.Order.{Names, moved}
use Rattle.imap_world.specs.Rights.{delete_mailbox, has_any}
use Rattle.imap_world.specs.declared.site.Site.{Site}
use Rattle.imap_world.specs.Moving.{arrivals, arrivals_at, can_arrive, can_move, superior_rows, with_moved}
use Rattle.imap_world.specs.NewMailbox.{NewMailbox}
use Rattle.imap_world.specs.Tree.{with_rows}
use Rattle.imap_world.specs.World.{World}
use Rattle.imap_view.specs.Listing.{names_below}
use Rattle.imap_view.specs.Seen.{Seen, owner_of}
use Rattle.imap_view.specs.TreeAfter.{missing_in, narrowed, validities_left, view_with}
use Rattle.imap_view.specs.View.{View, view_of, may_create, rights_in}

-- The names that move with a mailbox on which the user holds x: so the user knows of all names below it.
abbrev pub moving_names : View → (old : Name) → List Name
moving_names view old = old ∷ names_below old view.taken

-- and what they become, in their order
abbrev pub names_after : View → (old new : Name) → List Name
names_after view old new = map_list (moved old new) (moving_names view old)

-- the superiors of a name that aren't there, as far as the user knows
abbrev pub missing_above : View → Name → List Name
missing_above view [] = []
missing_above view (deepest ∷ above) = missing_in view above

-- each name that a mailbox gets can be had, and each superior that isn't there can be made
abbrev pub can_all_arrive : View → (old new : Name) → Bool
can_all_arrive view old new =
    list_all (can_arrive view.epochs) (names_after view old new)
    && validities_left view (missing_above view new)

-- The user holds x on the mailbox, it can move, the new name may be made, neither it nor a name below it is
-- in use, and all can arrive.
abbrev pub may_rename : View → (old new : Name) → Bool
may_rename view old new =
    has_any (rights_in view old) delete_mailbox
    && (can_move old new
    && (may_create view new
    && (not (has_within new view.taken) && can_all_arrive view old new)))

-- with the superiors of a name
abbrev pub view_with_above : View → Name → View
view_with_above view [] = view
view_with_above view (deepest ∷ above) = view_with view above

-- with another UIDVALIDITY, where one is shown
abbrev pub seen_with_validity : (validity : ℕ) → Seen → Seen
seen_with_validity validity seen = record seen { validity = option_map (λ _. validity) seen.validity }

abbrev pub validity_shown : Names Seen → Name → (validity : ℕ) → Option Seen → Names Seen
validity_shown mailboxes name validity None = mailboxes
validity_shown mailboxes name validity (Some seen) =
    map.insert mailboxes name (seen_with_validity validity seen)

-- each of these mailboxes, if it is seen, has this UIDVALIDITY
abbrev pub validities_shown : Names Seen → List (Name × ℕ) → Names Seen
validities_shown mailboxes [] = mailboxes
validities_shown mailboxes (a ∷ arrivals) =
    validities_shown (validity_shown mailboxes a.0 a.1 (map.get mailboxes a.0)) arrivals

-- The mailbox `old` and all below it are called by `new` now, with their messages. By the right x the user
-- knows that `old` is in use, even if the user might not know of the name otherwise.
abbrev pub view_with_moved : View → (old new : Name) → (arrivals : List (Name × ℕ)) → View
view_with_moved view old new arrivals = narrowed (record view {
  seen = validities_shown (renamed old new view.seen) arrivals;
  taken = renamed old new (map.insert view.taken old tt);
  epochs = inserted_all view.epochs arrivals;
})

-- the superiors are made first
abbrev pub view_renamed : View → (old new : Name) → View
view_renamed view old new =
    view_with_moved (view_with_above view new) old new (arrivals_at view.epochs (names_after view old new))

-- The mailbox is there and can move to the new name, at and below which nothing is. Superiors are made for
-- it, and all mailboxes that move get the names and UIDVALIDITYs that the user expects, those that the user
-- doesn't see too. The view after it is as said.
pub record IsRenaming (site : Site) (user : List ℕ) (world : World) (old new : Name) : Type 0 where
  pub rows : List NewMailbox
  pub there : map.contains_key world.mailboxes old ≡ true
  pub allowed : can_move old new ≡ true
  pub free : has_within new world.mailboxes ≡ false
  pub made : superior_rows world (owner_of site new) new ≡ Ok rows
  pub arrive : let view = view_of site user world in
      arrivals world old new ≡ Ok (arrivals_at view.epochs (names_after view old new))
  pub seen : let view = view_of site user world in
      view_of site user
      (with_moved (with_rows world rows) old new (arrivals_at view.epochs (names_after view old new)))
      ≡ view_renamed view old new

-- Whether the mailbox may be renamed, and the view after it, are found from the view before alone.
abbrev pub RenamingIsSeen : Type 0
RenamingIsSeen =
    (site : Site) (user : List ℕ) (world : World) (old new : Name)
    → may_rename (view_of site user world) old new ≡ true
    → IsRenaming site user world old new
