-- What COPY and MOVE find along the messages that they name.
use Rattle.std.specs.Prelude.{◌≡◌, ℕ, ◌++◌, List, [], ◌∷◌, Option, Some, None}
use Rattle.imap_mailbox.specs.Lent.{row_uids}
use Rattle.imap_mailbox.specs.Rows.{Row}
use Rattle.imap_print.specs.declared.copied.CopiedUids.{CopiedUids}
use Rattle.imap_print.specs.Sets.{set_of}
use Rattle.imap_targets.specs.declared.message_numbers.Numbered.{Numbered}
use Rattle.imap_targets.specs.MessageNumbers.{row_with}
use Rattle.imap_changes.specs.declared.copies.Copies.{Copies}
use Rattle.imap_changes.specs.Copies.{copies_of}

-- a message that is gone is passed over
abbrev pub row_if_there : Option Row → List Row
row_if_there None = []
row_if_there (Some row) = row ∷ []

-- in the order in which they are named
abbrev pub rows_found : List Row → List Numbered → List Row
rows_found rows [] = []
rows_found rows (m ∷ messages) = row_if_there (row_with m.uid rows) ++ rows_found rows messages

-- the copies of these messages
pub record AreCopies (rights : ℕ) (rows : List Row) (copies : Copies) : Type 0 where
  pub uids : copies.uids.items ≡ row_uids rows
  pub messages : copies.messages.items ≡ copies_of rights rows

-- and of these messages after those that were there before
pub record AddsCopies (rights : ℕ) (rows : List Row) (old new : Copies) : Type 0 where
  pub uids : new.uids.items ≡ old.uids.items ++ row_uids rows
  pub messages : new.messages.items ≡ old.messages.items ++ copies_of rights rows

-- ---- UIDs that are told

abbrev pub with_target : (validity : ℕ) → (source : List ℕ) → Option (List ℕ) → Option CopiedUids
with_target validity source None = None
with_target validity source (Some target) =
    Some (record { validity = validity; source = source; target = target })

abbrev pub with_sets : (validity : ℕ) → (source target : Option (List ℕ)) → Option CopiedUids
with_sets validity None target = None
with_sets validity (Some source) target = with_target validity source target

-- if both are sets of numbers
abbrev pub both_sets : (validity : ℕ) → (source target : List ℕ) → Option CopiedUids
both_sets validity source target = with_sets validity (set_of source) (set_of target)
