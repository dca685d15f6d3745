-- When two worlds are one, by what is kept of their maps.
use Rattle.std.proofs.Common.{◌≡◌, Bool, false, Some, sym, ap, subst, ◌∙◌}
use Rattle.std.specs.Prelude.{◌↔◌, IsTrue}
use Rattle.imap_names.proofs.OrderLaws.{name_total, name_antisymmetric}
use Rattle.imap_user_map.specs.Finite.{keep}
use Rattle.imap_user_map.proofs.Within.{keep-some}
use Rattle.imap_world.specs.Mailbox.{plain_all}
use Rattle.imap_world.specs.Stored.{Stored, filled_sets, world_of}

abbrev pub AreMailboxesSame : Stored → Stored → Type 0
AreMailboxesSame a b = plain_all a.mailboxes.map ≡ plain_all b.mailboxes.map

abbrev pub AreEpochsSame : Stored → Stored → Type 0
AreEpochsSame a b = keep (λ name. Some) a.epochs.map ≡ keep (λ name. Some) b.epochs.map

abbrev pub AreSetsSame : Stored → Stored → Type 0
AreSetsSame a b = filled_sets a.subscriptions ≡ filled_sets b.subscriptions

module _ (a b : Stored) where
  epochs_same : AreEpochsSame a b → a.epochs.map ≡ b.epochs.map
  epochs_same e = sym (keep-some name_total name_antisymmetric a.epochs.map) ∙ e ∙ keep-some name_total name_antisymmetric b.epochs.map

  pub if_three : (r : Bool) → AreMailboxesSame a b → AreEpochsSame a b → (IsTrue r ↔ AreSetsSame a b) → (IsTrue r ↔ (world_of a ≡ world_of b))
  if_three r m e sets =
      (λ t. λ i. record { mailboxes = m i; epochs = epochs_same e i; subscriptions = sets.0 t i }, λ w. sets.1 (ap (λ k. k.subscriptions) w))

  pub if_not_second : (r : Bool) → r ≡ false → (AreEpochsSame a b → IsTrue r) → (IsTrue r ↔ (world_of a ≡ world_of b))
  if_not_second r fails second = (λ t. absurd (cc (sym t ∙ fails)), λ w. second (ap (λ k. keep (λ name. Some) k.epochs) w))

  pub if_not_first : (r : Bool) → r ≡ false → (AreMailboxesSame a b → IsTrue r) → (IsTrue r ↔ (world_of a ≡ world_of b))
  if_not_first r fails first = (λ t. absurd (cc (sym t ∙ fails)), λ w. first (ap (λ k. k.mailboxes) w))

  -- the worlds as they are seen from outside
  pub if_viewed : (c d : Stored) (r : Bool) → a ≡ c → b ≡ d → (IsTrue r ↔ (world_of a ≡ world_of b)) → (IsTrue r ↔ (world_of c ≡ world_of d))
  if_viewed c d r is other h = subst (λ k. IsTrue r ↔ (world_of k ≡ world_of d)) is (subst (λ k. IsTrue r ↔ (world_of a ≡ world_of k)) other h)
