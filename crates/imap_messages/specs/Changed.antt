-- CHANGEDSINCE of FETCH, and VANISHED of UID FETCH (RFC 7162, sections 3.1.4.1 and 3.2.6).
use Rattle.std.specs.Prelude.{◌≡◌, ℕ, ◌-◌, ◌<◌, ◌≤◌, nat_le, nat_lt, Bool, true, false, not, ◌&&◌}
use Rattle.std.specs.Prelude.{List, [], filter, length, slice_index_or, Option, Some, None, is_some}
use Rattle.imap_mailbox.specs.Rows.{Row, first_uid}
use Rattle.imap_names.specs.Name.{Name}
use Rattle.imap_print.specs.declared.response.Response.{Response}
use Rattle.imap_resync.specs.UidSet.{UidSet}
use Rattle.imap_resync.specs.Vanished.{earlier_line, vanished_in}
use Rattle.imap_syntax.specs.declared.set.SeqRange.{SeqRange}
use Rattle.imap_targets.specs.declared.message_numbers.Numbered.{Numbered}
use Rattle.imap_targets.specs.MessageNumbers.{is_unchanged, row_with}
use Rattle.imap_view.specs.View.{View}

-- ---- the messages whose mod-sequence is greater than the number, if one is given

abbrev pub is_changed : (since : Option ℕ) → Option Row → Bool
is_changed None row = true
is_changed (Some since) None = false
is_changed (Some since) (Some row) = nat_lt since row.number

-- the message is there, and its mod-sequence isn't greater
abbrev pub is_left : (since : Option ℕ) → Option Row → Bool
is_left None row = false
is_left (Some since) row = is_unchanged since row

abbrev pub changed_of : (since : Option ℕ) → List Row → List Numbered → List Numbered
changed_of since rows messages = filter (λ m. is_changed since (row_with m.uid rows)) messages

-- no message is, if HIGHESTMODSEQ isn't
abbrev pub is_up_to_date : (since : Option ℕ) → (highest : ℕ) → Bool
is_up_to_date None highest = false
is_up_to_date (Some since) highest = nat_le highest since

-- ---- along the known messages

-- those from the index `start` on and before `end` are there
abbrev pub AreThere : (rows : List Row) → (known : List ℕ) → (start end : ℕ) → Type 0
AreThere rows known start end = (index d : ℕ) → start ≤ index → index < end
    → is_some (row_with (slice_index_or known index d) rows) ≡ true

-- none of them refuses a command that names it
abbrev pub NoneRefuses : (by_uid : Bool) (rows : List Row) → (known : List ℕ) → (start end : ℕ) → Type 0
NoneRefuses by_uid rows known start end = (index d : ℕ) → start ≤ index → index < end
    → (not by_uid && not (is_some (row_with (slice_index_or known index d) rows))) ≡ false

-- those from the index `start` on and before `end` haven't changed after the number, or are gone
abbrev pub AreLeft : (since : ℕ) (rows : List Row) → (known : List ℕ) → (start end : ℕ) → Type 0
AreLeft since rows known start end = (index d : ℕ) → start ≤ index → index < end
    → index < length known
    → is_changed (Some since) (row_with (slice_index_or known index d) rows) ≡ false

-- they are skipped, if that is allowed
abbrev pub AreSkipped : (skips : Bool) (since : Option ℕ) (rows : List Row) → (known : List ℕ)
    → (start end : ℕ) → Type 0
AreSkipped skips since rows known start end = (index d : ℕ) → start ≤ index → index < end
    → index < length known
    → (skips ≡ true) × (is_changed since (row_with (slice_index_or known index d) rows) ≡ false)

-- ---- the messages that went

-- the UIDs of the command. `*` stands for the greatest one that was ever given
abbrev pub fetched_set : List SeqRange → (next_uid : ℕ) → UidSet
fetched_set ranges next_uid = record { last = next_uid - first_uid; ranges = ranges }

abbrev pub vanished_lines : View → Name → (asked : Bool) → (since : Option ℕ) → UidSet → List Response
vanished_lines view name true (Some since) uids = earlier_line (vanished_in view name since (Some uids))
vanished_lines view name _ _ uids = []
