-- A client that held what the first events gave, and is told what came after (RFC 7162, section 3.2.5).
use Rattle.std.specs.Prelude.{◌≡◌, ℕ, ◌-◌, nat_lt, Bool, false, not, ◌==◌, ◌||◌, List, [], ◌∷◌, ◌++◌, take}
use Rattle.std.specs.Prelude.{map, filter, if◌then◌else◌}
use Rattle.imap_mailbox.specs.declared.flags.SharedFlags.{SharedFlags}
use Rattle.imap_mailbox.specs.Rows.{Row, rows_after}
use Rattle.imap_mailbox.specs.History.{History, events_of, IsLawful}
use Rattle.imap_mailbox.specs.Summary.{Summary, summary_of, rows_of, gone_of}
use Rattle.imap_mailbox.specs.Lent.{gone_after_number}

-- what a client holds of a message, in the order of UIDs
pub record Known : Type 0 where
  pub uid : ℕ
  pub flags : SharedFlags
  pub seen : Bool

abbrev pub known_of : Row → Known
known_of r = record { uid = r.uid; flags = r.flags; seen = r.seen }

-- ---- what the client is told

-- the UIDs of VANISHED (EARLIER): of the messages that went with a number greater than n
abbrev pub vanished_since : ℕ → List (ℕ × ℕ) → List ℕ
vanished_since n gone = map (λ g. g.0) (gone_after_number n gone)

-- the FETCH lines: of the messages with a number greater than n
abbrev pub changed_since : ℕ → List Row → List Known
changed_since n rows = map known_of (filter (λ r. nat_lt n r.number) rows)

-- ---- what the client makes of it

abbrev pub vanish : ℕ → List Known → List Known
vanish uid client = filter (λ k. not (k.uid == uid)) client

abbrev pub vanish_all : List ℕ → List Known → List Known
vanish_all [] client = client
vanish_all (uid ∷ uids) client = vanish_all uids (vanish uid client)

abbrev pub has : ℕ → List Known → Bool
has uid [] = false
has uid (k ∷ client) = (k.uid == uid) || has uid client

-- flags of a message that the client has, or a message that is new to it
abbrev pub fetch : Known → List Known → List Known
fetch k client =
    if has k.uid client
    then map (λ x. if x.uid == k.uid then k else x) client
    else client ++ k ∷ []

abbrev pub fetch_all : List Known → List Known → List Known
fetch_all [] client = client
fetch_all (k ∷ lines) client = fetch_all lines (fetch k client)

-- a client that held what the first n - 1 events of the user give, and follows what the summary says of later
-- ones, holds what a fetch of all messages gives: whichever events have this summary
abbrev pub ClientIsBroughtUp : Type 0
ClientIsBroughtUp = (s : Summary) (history : History) (user : List ℕ) (n : ℕ)
    → summary_of history ≡ s → IsLawful history user →
    let held = map known_of (rows_after (take (n - 1) (events_of history user))) in
    fetch_all (changed_since n (rows_of s user)) (vanish_all (vanished_since n (gone_of s user)) held)
    ≡ map known_of (rows_of s user)
