-- What a session is told of its mailbox at the end of a command, and then knows: a change of the known list, and
-- the mod-sequence up to which the session was then told all.
use Rattle.std.specs.Prelude.{ℕ, suc, ◌==◌, Bool, not, ◌&&◌, List, [], length, Option, Some, None}
use Rattle.std.specs.Prelude.{refl, if◌then◌else◌}
use Rattle.std.specs.Coded.{Coded, code_by, coded×, coded_ℕ, coded_bool, coded_list}
use Rattle.imap_mailbox.specs.Lent.{row_uids}
use Rattle.imap_mailbox.specs.Rows.{Row}
use Rattle.imap_session.specs.declared.delta.Delta.{Delta}
use Rattle.imap_session.specs.Compared.{comparisons, new_rows, any_changed}
use Rattle.imap_session.specs.Notices.{expunged_uids}
use Rattle.imap_session.specs.Delta.{applied, IsChange}

-- whether messages changed that stay, the UIDs of messages that leave, and of those that come
pub record Telling : Type 0 where
  pub changed : Bool
  pub gone : List ℕ
  pub added : List ℕ
  pub up_to : ℕ

abbrev pub telling_code : Coded Telling
telling_code =
    code_by (Bool × (List ℕ × (List ℕ × ℕ)))
    (coded× coded_bool (coded× (coded_list coded_ℕ) (coded× (coded_list coded_ℕ) coded_ℕ)))
    (λ t. (t.changed, (t.gone, (t.added, t.up_to))))
    (λ p. record { changed = p.0; gone = p.1.0; added = p.1.1.0; up_to = p.1.1.1 }) (λ _. refl)

abbrev pub telling_of : Delta → (up_to : ℕ) → Telling
telling_of d up_to =
    record { changed = d.changed; gone = d.gone.items; added = d.added.items; up_to = up_to }

-- no message changed, left or came
abbrev pub is_empty : Telling → Bool
is_empty t = not t.changed && (length t.gone == 0 && length t.added == 0)

-- then nothing is told, not even that the mod-sequence is another
abbrev pub if_any : Telling → Option Telling
if_any t = if is_empty t then None else Some t

-- the known list afterwards
abbrev pub known_with : Telling → (uids : List ℕ) → List ℕ
known_with t uids = applied t.gone t.added uids

-- the room that it takes: one for the change of the known list, and one for each message that comes
abbrev pub room_for : Telling → ℕ
room_for t = suc (length t.added)

-- the UIDs of messages that leave rise, and so do all afterwards
abbrev pub IsTellingOf : (uids : List ℕ) → Telling → Type 0
IsTellingOf uids t = IsChange uids t.gone t.added

-- ---- what notices tell

-- the difference of what the session knows and the messages that are there
abbrev pub difference : (expunges : Bool) → (up_to : ℕ) → (uids : List ℕ) → List Row → (highest : ℕ) → Telling
difference expunges up_to uids rows highest = record {
  changed = any_changed up_to (comparisons uids rows);
  gone = if expunges then expunged_uids (comparisons uids rows) else [];
  added = row_uids (new_rows uids rows);
  up_to = highest;
}
