-- A host that isn't refused.
use mathlib.Core.Logic.{inl, inr}
use Rattle.std.proofs.Common.{◌≡◌, ◌↔◌, ◌⊎◌, ℕ, ◌+◌, ◌<◌, ◌≤◌, nat_le, Bool, true, false, refl, subst, List, Result, Err, IsErrOf}
use Rattle.std.proofs.lemmas.Bool.Decides.{leb_tells}
use Rattle.imap_serve.specs.Journal.{JournalEntry}
use Rattle.imap_receipts.specs.Settling.{AreSettled, SeatNotes}
use Rattle.imap_receipts.specs.declared.settling.SettleError.{SettleError}
use Rattle.imap_receipts.specs.declared.settling.SettleError.TheVariants as error

-- its receipts agree with its journal
pub agreed : {T : Type 0} (ended : Result T SettleError) (left seats : ℕ) (agree : Bool)
    → (IsErrOf ended error.Missing ↔ (left + seats < 1048576))
    → (IsErrOf ended error.Mismatch ↔ ((1048576 ≤ left + seats) × (agree ≡ false)))
    → ((e : SettleError) → ended ≡ Err e → ⊥) → agree ≡ true
agreed ended left seats true missing mismatch ok = refl
agreed ended left seats false missing mismatch ok = by (leb_tells 1048576 (left + seats))
  where
    by : ((nat_le 1048576 (left + seats) ≡ true) × (1048576 ≤ left + seats)) ⊎ ((nat_le 1048576 (left + seats) ≡ false) × (left + seats < 1048576)) → false ≡ true
    by (inl all) = absurd (ok error.Mismatch (mismatch.1 (all.1, refl)))
    by (inr some) = absurd (ok error.Missing (missing.1 some.1))

-- the same of equal parts
pub settled_of : (before before' : ℕ) (journal journal' : List JournalEntry) (seats seats' : List SeatNotes)
    → before ≡ before' → journal ≡ journal' → seats ≡ seats' → AreSettled before journal seats → AreSettled before' journal' seats'
settled_of before before' journal journal' seats seats' b j s settled =
    subst (λ n. AreSettled n journal' seats') b (subst (λ l. AreSettled before l seats') j (subst (AreSettled before journal) s settled))
