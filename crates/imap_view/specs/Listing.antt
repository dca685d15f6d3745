-- What a view has, one after another, in the order of names.
use Rattle.std.specs.Prelude.{List, [], ◌∷◌, map, if◌then◌else◌}
use Rattle.std.specs.List.{filter_map}
use Rattle.std.specs.Coded.{Coded, coded_list, coded×}
use Rattle.imap_names.specs.Name.{Name}
use Rattle.imap_world.specs.NameMapRows.{below_of}
use Rattle.imap_world.specs.declared.mailbox_entry.MailboxEntry.{MailboxEntry}
use Rattle.imap_world.specs.Mailbox.{plain}
use Rattle.imap_user_map.specs.Finite.{kept_entry}
use Rattle.imap_world.specs.World.{NameSet, name_code}
use Rattle.imap_view.specs.Seen.{Seen, seen_at, seen_code}
use Rattle.imap_view.specs.View.{View, may_know_name_in}

-- the names of a set that lie below a name
abbrev pub names_below : Name → NameSet → List Name
names_below top names = map (λ e. e.0) (below_of top names)

-- of a list of mailboxes those of which the user may know that they are there, by their names
abbrev pub known_among : {X : Type 0} → View → List (Name × X) → List Name
known_among view [] = []
known_among view (e ∷ mailboxes) =
    if may_know_name_in view e.0 then e.0 ∷ known_among view mailboxes else known_among view mailboxes

-- of a list of mailboxes those that the user sees
abbrev pub seen_among : View → List (Name × MailboxEntry) → List (Name × Seen)
seen_among view mailboxes =
    filter_map (kept_entry (λ name entry. seen_at view.site view.user name (plain entry))) mailboxes

abbrev pub seen_names_code : Coded (List (Name × Seen))
seen_names_code = coded_list (coded× name_code seen_code)
