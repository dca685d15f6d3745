-- A session that was told of a mailbox up to a mod-sequence (RFC 7162, section 3.1.2.1, HIGHESTMODSEQ).
use Rattle.std.specs.Prelude.{◌≡◌, ℕ, ◌<◌, ◌≤◌, ◌==◌, MatchBool, Bool, List, [], ◌∷◌, map}
use Rattle.imap_modseq.specs.Numbers.{highest_after}
use Rattle.imap_mailbox.specs.declared.known.KnownMessage.{KnownMessage}
use Rattle.imap_mailbox.specs.Rows.{Row, Event, Shared, IsGiven, first_uid}
use Rattle.imap_mailbox.specs.Summary.{Summary, Rises}
use Rattle.imap_mailbox.specs.Held.{IsKept}
use Rattle.imap_mailbox.specs.Order.{AreRowsInOrder}
use Rattle.imap_mailbox.specs.Shown.{Content, content_of, content_after, content_with_seen}

-- all that a session is told of the message
abbrev pub told_of : Row → KnownMessage
told_of r = record { uid = r.uid; flags = r.flags; seen = r.seen; number = r.number }

abbrev pub known_uids : List KnownMessage → List ℕ
known_uids known = map (λ k. k.uid) known

-- HIGHESTMODSEQ
abbrev pub highest_in : Content → ℕ
highest_in c = highest_after c.shared c.own

-- what is shown of a mailbox is in order
abbrev pub IsOrdered : Content → Type 0
IsOrdered c = AreRowsInOrder c.next (highest_in c) c.rows

-- ---- what agrees up to the mod-sequence n

abbrev pub AreAbove : ℕ → List Row → Type 0
AreAbove n [] = Unit {0}
AreAbove n (r ∷ rows) = (n < r.number) × AreAbove n rows

abbrev pub AreToldBy : ℕ → List KnownMessage → Type 0
AreToldBy n [] = Unit {0}
AreToldBy n (k ∷ known) = (k.number ≤ n) × AreToldBy n known

-- a row whose number is not above n is known as it is, and a row that is not known is above n. A known
-- message may be gone
abbrev pub Agree : ℕ → List KnownMessage → List Row → Type 0
Agree n [] rows = AreAbove n rows
Agree n (k ∷ known) [] = Agree n known []
Agree n (k ∷ known) (r ∷ rows) =
    MatchBool (k.uid == r.uid)
    ((r.number ≤ n → told_of r ≡ k) × Agree n known rows)
    ((k.uid < r.uid) × Agree n known (r ∷ rows))

-- the session was told all up to the mod-sequence `up_to`, but for messages that are gone
pub record IsBrought (up_to : ℕ) (known : List KnownMessage) (c : Content) : Type 0 where
  pub before : up_to ≤ highest_in c
  pub uids : Rises first_uid c.next (known_uids known)
  pub told : AreToldBy up_to known
  pub agree : Agree up_to known c.rows

-- whoever was brought up in one state is so in the other
abbrev pub IsLater : Content → Content → Type 0
IsLater c d =
    (up_to : ℕ) (known : List KnownMessage) → IsBrought up_to known c → IsBrought up_to known d

-- ---- who was brought up stays so

abbrev pub EventsAreLater : Type 0
EventsAreLater =
    (c : Content) (e : Event) → IsOrdered c → IsGiven c.next (Shared e) → IsLater c (content_after e c)

abbrev pub SeenIsLater : Type 0
SeenIsLater = (c : Content) (uid : ℕ) (seen : Bool) → IsLater c (content_with_seen uid seen c)

-- what a mailbox shows to a user is in order
abbrev pub ShownIsOrdered : Type 0
ShownIsOrdered = (s : Summary) (user : List ℕ) → IsKept s → IsOrdered (content_of user s)

-- a session that was told of all messages is brought up to HIGHESTMODSEQ
abbrev pub AllToldIsBrought : Type 0
AllToldIsBrought = (c : Content) → IsOrdered c → IsBrought (highest_in c) (map told_of c.rows) c
