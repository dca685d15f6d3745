-- A session that was told of a mailbox up to a mod-sequence, by the UIDs that it keeps (RFC 7162, section
-- 3.1.2.1, HIGHESTMODSEQ).
use Rattle.std.specs.Prelude.{◌≡◌, ℕ, ◌<◌, ◌==◌, MatchBool, List, [], ◌∷◌}
use Rattle.imap_mailbox.specs.declared.known.KnownMessage.{KnownMessage}
use Rattle.imap_mailbox.specs.Rows.{Row}
use Rattle.imap_mailbox.specs.Shown.{Content}
use Rattle.imap_mailbox.specs.Brought.{AreAbove, IsBrought, IsLater, known_uids}

-- the session was told all up to the mod-sequence `up_to`, but for messages that are gone. It keeps the UIDs
-- of the messages as it was told of them
pub record IsBroughtByUid (up_to : ℕ) (uids : List ℕ) (c : Content) : Type 0 where
  pub messages : List KnownMessage
  pub known : known_uids messages ≡ uids
  pub brought : IsBrought up_to messages c

-- a row that is not known is above n. A known message may be gone
abbrev pub AgreeByUid : ℕ → (uids : List ℕ) → List Row → Type 0
AgreeByUid n [] rows = AreAbove n rows
AgreeByUid n (u ∷ uids) [] = AgreeByUid n uids []
AgreeByUid n (u ∷ uids) (r ∷ rows) =
    MatchBool (u == r.uid) (AgreeByUid n uids rows) ((u < r.uid) × AgreeByUid n uids (r ∷ rows))

-- who was brought up in one state is so in the other, by UIDs too
abbrev pub LaterByUid : Type 0
LaterByUid =
    (c d : Content) (up_to : ℕ) (uids : List ℕ)
    → IsLater c d → IsBroughtByUid up_to uids c → IsBroughtByUid up_to uids d
