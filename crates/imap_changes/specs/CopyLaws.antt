-- What COPY and MOVE make of the mailboxes (RFC 9051, sections 6.4.7 and 6.4.8).
use Rattle.std.specs.Prelude.{◌≡◌, ℕ, true, false, List, [], ◌++◌, length, map, Option, Some, None}
use Rattle.std.specs.List.{range_with_len}
use Rattle.imap_batch.specs.declared.batch.Batch.{Batch}
use Rattle.imap_batch.specs.declared.batch.NewMessage.{NewMessage}
use Rattle.imap_batch.specs.Seen.{content_batched}
use Rattle.imap_batch.specs.Written.{with_added, with_batch}
use Rattle.imap_mailbox.specs.Expunging.{with_expunges}
use Rattle.imap_mailbox.specs.Lent.{row_uids}
use Rattle.imap_mailbox.specs.Rows.{Row}
use Rattle.imap_mailbox.specs.Shown.{Content}
use Rattle.imap_mailbox.specs.Summary.{Summary}
use Rattle.imap_names.specs.Name.{Name}
use Rattle.imap_syntax.specs.Moments.{Moment}
use Rattle.imap_world.specs.declared.effect.Effect.{Effect}
use Rattle.imap_world.specs.declared.effect.Effect.TheVariants as effect
use Rattle.imap_world.specs.Messages.{is_same_name}
use Rattle.imap_changes.specs.Copies.{copies_of}
use Rattle.imap_batch.specs.Batch.{adding}
use Rattle.imap_changes.specs.Transfer.{move_effect}

-- ---- copies

-- the internal date of a message, and its octets
abbrev pub text_of : Row → Moment × List ℕ
text_of r = (r.date, r.octets)

abbrev pub texts_of : List Row → List (Moment × List ℕ)
texts_of rows = map text_of rows

-- those of the copies stand after those that were there, and the copies have the UIDs from UIDNEXT on
abbrev pub CopiesAreAppended : Type 0
CopiesAreAppended =
    (user : List ℕ) (rights : ℕ) (rows : List Row) (target : Content) →
    let after = content_batched (adding user (copies_of rights rows)) target in
    (texts_of after.rows ≡ texts_of target.rows ++ texts_of rows)
    × (row_uids after.rows ≡ row_uids target.rows ++ range_with_len target.next (length rows))

-- ---- MOVE

-- whatever the mailbox, the batch adds the messages, and then expunges those with these UIDs
abbrev pub AddsThenExpunges : Batch → (user : List ℕ) → List NewMessage → (uids : List ℕ) → Type 0
AddsThenExpunges batch user copies uids =
    (s : Summary) → with_batch batch s ≡ with_expunges uids (with_added user copies s)

-- within one mailbox it is one batch. Between two mailboxes it is one change, of the target first
abbrev pub IsMove :
    (user : List ℕ) → (target source : Name) → List NewMessage → (uids : List ℕ) → Option Effect → Type 0
IsMove user target source copies uids None = uids ≡ []
IsMove user target source copies uids (Some (effect.Messages part None)) =
    (is_same_name source target ≡ true)
    × (part.name ≡ target) × AddsThenExpunges part.batch user copies uids
IsMove user target source copies uids (Some (effect.Messages part (Some other))) =
    (is_same_name source target ≡ false)
    × (part.name ≡ target) × AddsThenExpunges part.batch user copies []
    × (other.name ≡ source) × AddsThenExpunges other.batch user [] uids
IsMove user target source copies uids (Some _) = ⊥

abbrev pub MovesAddFirst : Type 0
MovesAddFirst =
    (user : List ℕ) (target source : Name) (copies : List NewMessage) (uids : List ℕ)
    → IsMove user target source copies uids (move_effect user target source copies uids)
