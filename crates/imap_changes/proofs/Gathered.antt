-- Messages with their new flags, one after another.
use Rattle.std.proofs.Common.{◌≡◌, ℕ, ◌+◌, ◌<◌, true, false, ◌||◌, List, [], ◌∷◌, ◌++◌, append_assoc, add-one, drop, drop-cons, get_or, length, Option, Some, None, refl, sym, ap, ◌∙◌}
use Rattle.std.specs.Prelude.{Vec}
use Rattle.std.specs.declared.alloc.Global.{Global}
use Rattle.std.proofs.lemmas.List.{append-nil}
use Rattle.std.proofs.lemmas.List.Folds.{list_any-append}
use Rattle.imap_commands.specs.declared.commands.store.StoreSpec.{StoreSpec}
use Rattle.imap_mailbox.specs.Flags.{has_too_many}
use Rattle.imap_mailbox.specs.Rows.{Row}
use Rattle.imap_targets.specs.declared.message_numbers.Numbered.{Numbered}
use Rattle.imap_targets.specs.MessageNumbers.{row_with}
use Rattle.imap_targets.specs.State.{Selection}
use Rattle.imap_changes.specs.declared.store_outcome.StoreOutcome.{StoreOutcome}
use Rattle.imap_changes.specs.Store.{are_many}
use Rattle.imap_changes.specs.Storing.{AddsStored, Stores, stored_if_there, stored_named}

module _ (rights : ℕ) (spec : StoreSpec) (selection : Selection) (rows : List Row) (messages : List Numbered) where
  -- those of the messages before the place i
  pub record IsGathered (i : ℕ) (stored : List StoreOutcome) : Type 0 where
    pub rest : stored ++ stored_named rights spec selection rows (drop i messages) ≡ stored_named rights spec selection rows messages
    pub few : are_many (stored_named rights spec selection rows (drop i messages)) ≡ are_many (stored_named rights spec selection rows messages)

  pub at_first : (stored : List StoreOutcome) → stored ≡ [] → IsGathered 0 stored
  at_first stored none = record { rest = ap (λ ms. ms ++ stored_named rights spec selection rows messages) none; few = refl }

  pub at_last : (i : ℕ) (stored : Vec StoreOutcome Global) → drop i messages ≡ [] → IsGathered i stored.items → Stores (stored_named rights spec selection rows messages) (Some stored)
  at_last i stored none before = (
    sym (append-nil stored.items) ∙ ap (λ ms. stored.items ++ stored_named rights spec selection rows ms) (sym none) ∙ before.rest,
    sym before.few ∙ ap (λ ms. are_many (stored_named rights spec selection rows ms)) none,
  )

  module _ (i : ℕ) (m d : Numbered) (within : i < length messages) (is : m ≡ get_or messages i d) (row : Option Row) (there : row ≡ row_with m.uid rows) where
    abbrev later : List StoreOutcome
    later = stored_named rights spec selection rows (drop (i + 1) messages)

    abbrev meant : List StoreOutcome
    meant = stored_if_there rights spec selection m.number row

    next : stored_named rights spec selection rows (drop i messages) ≡ meant ++ later
    next =
        ap (stored_named rights spec selection rows) (drop-cons messages i d within ∙ λ j. sym is j ∷ drop (sym (add-one i) j) messages)
        ∙ ap (λ r. stored_if_there rights spec selection m.number r ++ later) (sym there)

    split : are_many (stored_named rights spec selection rows (drop i messages)) ≡ (are_many meant || are_many later)
    split = ap are_many next ∙ list_any-append (λ (k : StoreOutcome). has_too_many k.flags) meant later

    pub added : (old new : List StoreOutcome) → AddsStored meant old new true → IsGathered i old → IsGathered (i + 1) new
    added old new made before = record {
      rest = ap (λ ms. ms ++ later) made.0 ∙ append_assoc old meant later ∙ ap (λ ms. old ++ ms) (sym next) ∙ before.rest;
      few = sym (split ∙ ap (λ b. b || are_many later) made.1) ∙ before.few;
    }

    pub refused : (old new : List StoreOutcome) → AddsStored meant old new false → IsGathered i old → Stores (stored_named rights spec selection rows messages) None
    refused old new many before = sym before.few ∙ split ∙ ap (λ b. b || are_many later) many
