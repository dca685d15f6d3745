-- Messages that are lent.
use Rattle.std.specs.Prelude.{◌≡◌, ℕ, ◌+◌, ◌≤◌, ◌<◌, nat_lt, slice_index_or, Bool, true, false, ◌==◌}
use Rattle.std.specs.Prelude.{List, [], ◌∷◌, length, map, filter, Option, Some, None, option_map}
use Rattle.std.specs.Prelude.{if◌then◌else◌, refl}
use Rattle.std.specs.Coded.{Coded, code_by, coded×, coded_ℕ, coded_bool, coded_list}
use Rattle.std.specs.Borrow.{Bor}
use Rattle.std.specs.List.Sorted.{IsPartitionPoint}
use Rattle.imap_syntax.specs.Moments.{Moment}
use Rattle.imap_syntax.specs.contracts.date.DateTime as date_time
use Rattle.imap_modseq.specs.Numbers.{max_events}
use Rattle.imap_mailbox.specs.declared.flags.SharedFlags.{SharedFlags}
use Rattle.imap_mailbox.specs.contracts.flags.SharedFlags as shared_flags
use Rattle.imap_mailbox.specs.declared.message.Message.{Message}
use Rattle.imap_mailbox.specs.declared.message.GoneMessage.{GoneMessage}
use Rattle.imap_mailbox.specs.declared.row.Row as row
use Rattle.imap_mailbox.specs.declared.gone.GoneUid as gone_uid
use Rattle.imap_mailbox.specs.Owned.{Owned}
use Rattle.imap_mailbox.specs.Rows.{Row}
use Rattle.imap_mailbox.specs.Own.{Own, no_own}
use Rattle.imap_mailbox.specs.Summary.{ArePlacesBelow, Rises, uids_in, places_in}

abbrev pub row_shown : row.Row → Row
row_shown r = record {
  uid = r.uid;
  date = r.date;
  octets = r.octets.now;
  flags = r.flags.now;
  seen = r.seen;
  number = r.number;
}

abbrev pub row_code : Coded Row
row_code =
    code_by (ℕ × (Moment × (List ℕ × (SharedFlags × (Bool × ℕ)))))
    (coded× coded_ℕ (coded× date_time.the_row.coded (coded× (coded_list coded_ℕ)
    (coded× shared_flags.the_row.coded (coded× coded_bool coded_ℕ)))))
    (λ r. (r.uid, (r.date, (r.octets, (r.flags, (r.seen, r.number))))))
    (λ t. record {
      uid = t.0;
      date = t.1.0;
      octets = t.1.1.0;
      flags = t.1.1.1.0;
      seen = t.1.1.1.1.0;
      number = t.1.1.1.1.1;
    }) (λ _. refl)

-- the own changes of a user who may have none
abbrev pub own_lent : Option (Bor Owned) → Own
own_lent None = no_own
own_lent (Some own) = own.now.own

pub record IsLent (messages : List Message) : Type 0 where
  pub place : ArePlacesBelow (max_events + 1) messages
  pub uids : (low high : ℕ) × Rises low high (uids_in messages)

-- where the number stands in the list
abbrev pub place_in : ℕ → List ℕ → Option ℕ
place_in uid [] = None
place_in uid (u ∷ uids) = if u == uid then Some 0 else option_map (λ i. i + 1) (place_in uid uids)

-- the messages before the place have lower UIDs, and those from there on have not
abbrev pub IsPlaceFor : ℕ → List Message → ℕ → Type 0
IsPlaceFor uid messages place =
    IsPartitionPoint (λ (m : Message). nat_lt m.uid uid ≡ true) (λ m. nat_lt m.uid uid ≡ false) messages place

abbrev pub row_uids : List Row → List ℕ
row_uids rows = map (λ r. r.uid) rows

abbrev pub gone_shown : gone_uid.GoneUid → ℕ × ℕ
gone_shown g = (g.uid, g.number)

pub record AreGoneLent (gone : List GoneMessage) (first : ℕ) : Type 0 where
  pub within : first ≤ length gone
  pub places : (low : ℕ) × Rises low max_events (places_in gone)

-- the gone UIDs with a number greater than n
abbrev pub gone_after_number : ℕ → List (ℕ × ℕ) → List (ℕ × ℕ)
gone_after_number n gone = filter (λ g. nat_lt n g.1) gone

-- the numbers never fall from one to the next
abbrev pub NeverFall : List (ℕ × ℕ) → Type 0
NeverFall gone = (i j : ℕ) (d e : ℕ × ℕ) → i ≤ j → j < length gone
    → (slice_index_or gone i d).1 ≤ (slice_index_or gone j e).1
