-- What STORE finds along the messages that it names.
use Rattle.std.specs.Prelude.{◌≡◌, ℕ, ◌+◌, Bool, true, false, List, [], ◌∷◌, ◌++◌, Option, Some, None, Vec}
use Rattle.std.specs.declared.alloc.Global.{Global}
use Rattle.imap_commands.specs.declared.commands.store.StoreSpec.{StoreSpec}
use Rattle.imap_mailbox.specs.Rows.{Row}
use Rattle.imap_targets.specs.State.{Selection}
use Rattle.imap_targets.specs.declared.message_numbers.Numbered.{Numbered}
use Rattle.imap_targets.specs.MessageNumbers.{row_with}
use Rattle.imap_changes.specs.declared.store_outcome.StoreOutcome.{StoreOutcome}
use Rattle.imap_changes.specs.Store.{are_many, event_count, stored_of}

-- a message that is gone is passed over
abbrev pub stored_if_there : (rights : ℕ) → StoreSpec → Selection → (number : ℕ) → Option Row →
    List StoreOutcome
stored_if_there rights spec s number None = []
stored_if_there rights spec s number (Some row) = stored_of rights spec s number row ∷ []

-- in the order in which they are named
abbrev pub stored_named : (rights : ℕ) → StoreSpec → Selection → List Row → List Numbered →
    List StoreOutcome
stored_named rights spec s rows [] = []
stored_named rights spec s rows (m ∷ messages) =
    stored_if_there rights spec s m.number (row_with m.uid rows)
    ++ stored_named rights spec s rows messages

-- these are the messages that are meant; or there are none, as one of them would have too many keywords
abbrev pub Stores : (meant : List StoreOutcome) → Option (Vec StoreOutcome Global) → Type 0
Stores meant None = are_many meant ≡ true
Stores meant (Some messages) = (messages.items ≡ meant) × (are_many meant ≡ false)

-- those that are meant were added; or not, as one of them would have too many keywords
abbrev pub AddsStored : (meant old new : List StoreOutcome) → Bool → Type 0
AddsStored meant old new true = (new ≡ old ++ meant) × (are_many meant ≡ false)
AddsStored meant old new false = are_many meant ≡ true

-- the events of all messages
abbrev pub events_in : List StoreOutcome → ℕ
events_in [] = 0
events_in (m ∷ messages) = event_count m + events_in messages
