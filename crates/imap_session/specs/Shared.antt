-- The UIDs of a known list, its own or shared by copies.
use Rattle.std.specs.Prelude.{ℕ, suc, ◌-◌, List, vec_len}
use Rattle.std.specs.Arc.{arc_value}
use Rattle.std.specs.Vec.{vec_capacity}
use Rattle.imap_session.specs.declared.shared_uids.Place.{Place}
use Rattle.imap_session.specs.declared.shared_uids.Place.TheVariants as place

abbrev pub uids_in : Place → List ℕ
uids_in (place.Own uids empty) = uids.items
uids_in (place.Shared uids) = (arc_value uids).items

-- none if they are shared. One is for the change of own ones, and one for each UID that may be added
abbrev pub room_at : Place → ℕ
room_at (place.Own uids empty) = suc (vec_capacity uids - vec_len uids)
room_at (place.Shared uids) = 0
