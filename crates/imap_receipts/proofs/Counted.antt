-- Receipts that are compared one after the other.
use mathlib.Core.Logic.{inl, inr}
use Rattle.std.proofs.Common.{◌≡◌, ◌∙◌, ◌↔◌, ◌⊎◌, ℕ, ◌+◌, ◌<◌, ◌≤◌, true, false, List, [], ◌∷◌, ap, refl, sym, subst, length, nat_le, if◌then◌else◌, arith}
use Rattle.std.proofs.lemmas.Bool.{le-leb}
use Rattle.std.proofs.lemmas.Bool.Decides.{leb_tells}
use Rattle.imap_hall.specs.declared.journal.Receipt.{Receipt}
use Rattle.imap_hall.specs.Made.{Made}
use Rattle.imap_hall.specs.SessionId.{SessionId}
use Rattle.imap_hall.specs.Journal.{JournalEntry}
use Rattle.imap_receipts.specs.Settling.{AreOfEntries, IsOfEntry, Rise, since}

-- of all receipts since the base these are left, after one at this place and a number of others
pub record IsCounted (before : ℕ) (journal : List JournalEntry) (session : SessionId) (all left : List Made) (last count : ℕ) : Type 0 where
  pub rising : Rise last left ↔ Rise before all
  pub entries : AreOfEntries before journal session left ↔ AreOfEntries before journal session all
  pub number : count + length left ≡ length all
  pub bound : count + before ≤ last

not_le : (a b : ℕ) → b < a → nat_le a b ≡ false
not_le a b less = by (leb_tells a b)
  where
    by : ((nat_le a b ≡ true) × (a ≤ b)) ⊎ ((nat_le a b ≡ false) × (b < a)) → nat_le a b ≡ false
    by (inl at_most) = let most = at_most.1 in absurd (omega (arith, most, less))
    by (inr above) = above.0

since_old : (before : ℕ) (k : Made) (ks : List Made) → k.receipt.place ≤ before → since before (k ∷ ks) ≡ since before ks
since_old before k ks old = ap (λ b. if b then since before ks else k ∷ since before ks) (le-leb k.receipt.place before old)

since_new : (before : ℕ) (k : Made) (ks : List Made) → before < k.receipt.place → since before (k ∷ ks) ≡ k ∷ since before ks
since_new before k ks new = ap (λ b. if b then since before ks else k ∷ since before ks) (not_le k.receipt.place before new)

module _ (before : ℕ) (journal : List JournalEntry) (session : SessionId) where
  pub counted_first : (ks : List Made) → IsCounted before journal session (since before ks) (since before ks) before 0
  counted_first ks = record { rising = (λ h. h, λ h. h); entries = (λ h. h, λ h. h); number = omega arith; bound = omega arith }

  -- the next one is read, with this receipt
  module _ (all : List Made) (last count : ℕ) (rest : List Made) (k : Made) (ks : List Made) (r : Receipt) (read : r ≡ k.receipt) (is : rest ≡ k ∷ ks) (c : IsCounted before journal session all (since before rest) last count) where
    pub counted_old : r.place ≤ before → IsCounted before journal session all (since before ks) last count
    counted_old old = subst (λ left. IsCounted before journal session all left last count)
        (ap (since before) is ∙ since_old before k ks (subst (λ x. x.place ≤ before) read old)) c

    -- the next one is left
    counted_next : before < r.place → IsCounted before journal session all (k ∷ since before ks) last count
    counted_next new = subst (λ left. IsCounted before journal session all left last count)
        (ap (since before) is ∙ since_new before k ks (subst (λ x. before < x.place) read new)) c

    pub counted_new : before < r.place → last < r.place → IsOfEntry before journal session k
        → IsCounted before journal session all (since before ks) r.place (count + 1)
    counted_new new later of_entry = subst (λ x. IsCounted before journal session all (since before ks) x.place (count + 1)) (sym read)
        (by (counted_next new) (subst (λ x. last < x.place) read later))
      where
        by : IsCounted before journal session all (k ∷ since before ks) last count → last < k.receipt.place
            → IsCounted before journal session all (since before ks) k.receipt.place (count + 1)
        by d later = let number = d.number in let bound = d.bound in record {
          rising = (λ h. d.rising.0 (later, h), λ h. (d.rising.1 h).1);
          entries = (λ h. d.entries.0 (of_entry, h), λ h. (d.entries.1 h).1);
          number = omega (arith, number);
          bound = omega (arith, bound, later);
        }

    pub not_rising : before < r.place → r.place ≤ last → Rise before all → ⊥
    not_rising new late rising =
        let later = ((counted_next new).rising.1 rising).0 in
        let early = subst (λ x. x.place ≤ last) read late in
        absurd (omega (arith, later, early))

    pub not_entry : before < r.place → (IsOfEntry before journal session k → ⊥) → AreOfEntries before journal session all → ⊥
    not_entry new fails entries = fails ((counted_next new).entries.1 entries).0

  module _ (all : List Made) (last count : ℕ) (rest : List Made) (is : length rest ≡ 0) (c : IsCounted before journal session all (since before rest) last count) where
    -- none is left
    counted_none : IsCounted before journal session all [] last count
    counted_none = subst (λ left. IsCounted before journal session all left last count) (by rest is) c
      where
        by : (ks : List Made) → length ks ≡ 0 → since before ks ≡ []
        by [] none = refl
        by (k ∷ ks) none = absurd (omega (arith, none))

    pub all_rising : Rise before all
    all_rising = counted_none.rising.0 tt

    pub all_entries : AreOfEntries before journal session all
    all_entries = counted_none.entries.0 tt

    pub all_counted : count ≡ length all
    all_counted = let number = counted_none.number in omega (arith, number)
