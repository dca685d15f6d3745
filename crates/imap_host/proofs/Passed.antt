-- Seats that are compared one after the other.
use Rattle.std.proofs.Common.{◌≡◌, ◌∙◌, ◌↔◌, ℕ, ◌+◌, ◌-◌, ◌<◌, ◌≤◌, List, [], ◌∷◌, add-one, ap, refl, subst, suc, sym, drop, drop-cons, get_or, length, map, max, arith}
use Rattle.std.proofs.lemmas.List.Sums.{sum_by-cons}
use Rattle.imap_serve.specs.Journal.{JournalEntry}
use Rattle.imap_host.specs.declared.seat.Seat.{Seat}
use Rattle.imap_host.specs.Seats.{notes_of}
use Rattle.imap_receipts.specs.Settling.{AreEachSettled, AreSettled, IsSettled, SeatNotes, last_base, receipts_since, since}

-- of all seats these are left: this number of entries have no receipt yet, and this is the greatest base so far
pub record IsPassed (before : ℕ) (journal : List JournalEntry) (all rest : List SeatNotes) (left base : ℕ) : Type 0 where
  pub number : receipts_since before all + left ≡ receipts_since before rest + length journal
  pub each : AreEachSettled before journal rest ↔ AreEachSettled before journal all
  pub last : max base (last_base rest) ≡ last_base all

pub seat_left : {L : Type 0} (seats : List (Seat L)) (i : ℕ) (s : Seat L) → i < length seats → s ≡ get_or seats i s → map notes_of (drop i seats) ≡ notes_of s ∷ map notes_of (drop (i + 1) seats)
seat_left seats i s less is =
    let cut : drop i seats ≡ s ∷ drop (i + 1) seats = rw add-one (drop-cons seats i s less ∙ ap (λ x. x ∷ drop (suc i) seats) (sym is)) in
    ap (map notes_of) cut

module _ (before : ℕ) (journal : List JournalEntry) where
  pub passed_first : (all : List SeatNotes) → IsPassed before journal all all (length journal) 0
  passed_first all = record { number = refl; each = (λ h. h, λ h. h); last = omega arith }

  module _ (all rest : List SeatNotes) (left base : ℕ) (s : SeatNotes) (ss : List SeatNotes) (is : rest ≡ s ∷ ss) (p : IsPassed before journal all rest left base) where
    pub passed_next : IsPassed before journal all (s ∷ ss) left base
    passed_next = subst (λ r. IsPassed before journal all r left base) is p

    one_more : receipts_since before (s ∷ ss) ≡ length (since before s.receipts) + receipts_since before ss
    one_more = sum_by-cons (λ s. length (since before s.receipts)) s ss

    pub passed_more : (count : ℕ) → IsSettled before journal s.who s.receipts → count ≡ length (since before s.receipts) → count ≤ left
        → IsPassed before journal all ss (left - count) (max base s.base)
    passed_more count settled counts few = let number = passed_next.number in let last = passed_next.last in record {
      number = omega (arith, number, counts, few, one_more);
      each = (λ h. passed_next.each.0 (settled, h), λ h. (passed_next.each.1 h).1);
      last = omega (arith, last);
    }

    pub not_settled : (IsSettled before journal s.who s.receipts → ⊥) → AreSettled before journal all → ⊥
    not_settled fails h = fails (passed_next.each.1 h.each).0

    pub too_many : (count : ℕ) → count ≡ length (since before s.receipts) → left < count → AreSettled before journal all → ⊥
    too_many count counts many h = let number = passed_next.number in let all_of = h.count in absurd (omega (arith, number, all_of, counts, many, one_more))

  pub passed_all : (all : List SeatNotes) (left base : ℕ) → IsPassed before journal all [] left base → left ≡ 0 → base ≡ before → AreSettled before journal all
  passed_all all left base p none told = let number = p.number in let last = p.last in record {
    count = omega (arith, number, none);
    each = p.each.0 tt;
    base = omega (arith, last, told);
  }

  pub all_passed : (all : List SeatNotes) (left base : ℕ) → IsPassed before journal all [] left base → AreSettled before journal all → (left ≡ 0) × (base ≡ before)
  all_passed all left base p h = let number = p.number in let last = p.last in let all_of = h.count in let told = h.base in
      (omega (arith, number, all_of), omega (arith, last, told))
