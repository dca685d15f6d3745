-- What commands on messages ask of mailboxes.
use Rattle.std.specs.Prelude.{ℕ, List, [], ◌∷◌, Option, Some, None}
use Rattle.imap_batch.specs.Batch.{marking}
use Rattle.imap_batch.specs.declared.batch.Batch.{Batch}
use Rattle.imap_batch.specs.declared.batch.FlagUpdate.{FlagUpdate}
use Rattle.imap_names.specs.Name.{Name}
use Rattle.imap_view.specs.Effect.{Effect}
use Rattle.imap_view.specs.Effect.TheVariants as effect
use Rattle.imap_view.specs.NamedBatch.{NamedBatch}

abbrev pub named_batch : Name → Batch → NamedBatch
named_batch name batch = record { name = name; batch = batch }

-- a batch in one mailbox, and none in another
abbrev pub batch_effect : Name → Batch → Effect
batch_effect name batch = effect.Messages (named_batch name batch) None

-- flags change. Nothing is asked if there is no change
abbrev pub marking_effect : (user : List ℕ) → Name → List FlagUpdate → Option Effect
marking_effect user name [] = None
marking_effect user name (k ∷ marks) = Some (batch_effect name (marking user (k ∷ marks)))
