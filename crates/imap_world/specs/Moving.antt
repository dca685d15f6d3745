-- What RENAME makes of the mailboxes (RFC 9051, section 6.3.6).
use Rattle.std.specs.Prelude.{ℕ, ◌+◌, Bool, not, ◌&&◌, nat_lt, bytes_eq, length, List, [], ◌∷◌, Option, Some}
use Rattle.std.specs.Prelude.{None, Result, Ok, Err, map as map_list, if◌then◌else◌}
use Rattle.std.specs.FinMap as map
use Rattle.std.specs.List.{list_all}
use Rattle.imap_name_map.specs.Renaming.{moved_names, renamed}
use Rattle.imap_name_map.specs.Rows.{inserted_all}
use Rattle.imap_names.specs.Name.{Name, is_inbox, root_of}
use Rattle.imap_names.specs.Order.{Names, is_below}
use Rattle.imap_names.specs.Valid.{fits}
use Rattle.imap_world.specs.Mailbox.{Mailbox}
use Rattle.imap_world.specs.declared.error.WorldError.{WorldError}
use Rattle.imap_world.specs.declared.error.WorldError.TheVariants.{Limit}
use Rattle.imap_world.specs.NewMailbox.{NewMailbox}
use Rattle.imap_world.specs.Tree.{created_rows}
use Rattle.imap_world.specs.World.{World, epoch, max_validity}

-- A mailbox moves within its tree, and not below itself. An INBOX stays, and the root of a tree is no
-- mailbox.
abbrev pub can_move : (old new : Name) → Bool
can_move old new =
    nat_lt 1 (length old) && (nat_lt 1 (length new) && (bytes_eq (root_of old) (root_of new)
    && (not (is_inbox old) && not (is_below old new))))

-- a mailbox may get the name: the name is short enough, and a UIDVALIDITY is left under it
abbrev pub can_arrive : Names ℕ → Name → Bool
can_arrive epochs name = fits name && nat_lt (epoch epochs name) max_validity

-- names that mailboxes get, each with the next UIDVALIDITY that was never used there
abbrev pub arrivals_at : Names ℕ → List Name → List (Name × ℕ)
arrivals_at epochs names = map_list (λ name. (name, epoch epochs name + 1)) names

abbrev pub arrival_at : Names ℕ → Name → Result (Name × ℕ) WorldError
arrival_at epochs name = if can_arrive epochs name then Ok (name, epoch epochs name + 1) else Err Limit

-- those of a mailbox and all below it, which move from `old` to `new`
abbrev pub arrivals : World → (old new : Name) → Result (List (Name × ℕ)) WorldError
arrivals world old new =
    let names = moved_names old new world.mailboxes in
    if list_all (can_arrive world.epochs) names then Ok (arrivals_at world.epochs names) else Err Limit

abbrev pub with_validity :
    Names Mailbox → Name → (validity : ℕ) → Option Mailbox → Names Mailbox
with_validity mailboxes name validity None = mailboxes
with_validity mailboxes name validity (Some mailbox) =
    map.insert mailboxes name (record mailbox { validity = validity })

-- each of these mailboxes has this UIDVALIDITY
abbrev pub with_validities : Names Mailbox → List (Name × ℕ) → Names Mailbox
with_validities mailboxes [] = mailboxes
with_validities mailboxes (a ∷ arrivals) =
    with_validities (with_validity mailboxes a.0 a.1 (map.get mailboxes a.0)) arrivals

-- The mailbox `old` and all below it are called by `new` now. They keep their lists.
abbrev pub with_moved : World → (old new : Name) → (arrivals : List (Name × ℕ)) → World
with_moved world old new arrivals = record world {
  mailboxes = with_validities (renamed old new world.mailboxes) arrivals;
  epochs = inserted_all world.epochs arrivals;
}

-- the superiors that are made for a name, as by CREATE
abbrev pub superior_rows : World → (owner : List ℕ) → Name → Result (List NewMailbox) WorldError
superior_rows world owner [] = Ok []
superior_rows world owner (deepest ∷ above) = created_rows world owner above
