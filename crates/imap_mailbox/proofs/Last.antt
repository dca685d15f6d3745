-- The last of own changes has the greatest mod-sequence.
use Rattle.std.proofs.Common.{◌≡◌, ℕ, ◌+◌, ◌-◌, ◌<◌, ◌≤◌, max, ltb, false, List, length, Option, Some, None, option_map, refl, arith}
use Rattle.std.proofs.lemmas.Bool.{le-ltb}
use Rattle.std.specs.FinMap.{get}
use Rattle.imap_modseq.specs.Merge.{AreInOrder}
use Rattle.imap_modseq.specs.Numbers.{own_number_at}
use Rattle.imap_modseq.proofs.Order.{before_most, order_rises}
use Rattle.imap_mailbox.specs.declared.kept_change.KeptChange.{KeptChange}
use Rattle.imap_mailbox.specs.declared.message.Message.{Message}
use Rattle.imap_mailbox.specs.Latest.{AreLast}
use Rattle.imap_mailbox.specs.Own.{Own}
use Rattle.imap_mailbox.specs.Summary.{IsLast, shown, latest, latest_number, row_in, number_at}

-- a last change has the number of the change at its place
pub number_there : (uid : ℕ) (own : Own) (k : KeptChange) → IsLast own.befores uid k → (shown k).0 ≡ own_number_at own.befores k.place
number_there uid own k last = let before = last.before in omega (arith, before)

-- later changes have greater numbers
pub numbers_rise : (high i j : ℕ) (bs : List ℕ) → AreInOrder 0 high bs → i ≤ j → j < length bs → own_number_at bs i ≤ own_number_at bs j
numbers_rise high i j bs order le lt = let rises = order_rises 0 high bs i j order le lt in omega (arith, rises, le)

pub latest_below_last : (high uid : ℕ) (own : Own) → AreInOrder 0 high own.befores → AreLast own → 0 < length own.befores
    → latest_number (latest uid own) ≤ own_number_at own.befores (length own.befores - 1)
latest_below_last high uid own order last some = by (get own.latest uid) refl
  where
    by : (o : Option KeptChange) → get own.latest uid ≡ o → latest_number (option_map shown o) ≤ own_number_at own.befores (length own.befores - 1)
    by None e = omega arith
    by (Some k) e =
        let place = (last uid k e).place in
        let rises = numbers_rise high k.place (length own.befores - 1) own.befores order (omega (arith, place)) (omega (arith, some)) in
        omega (arith, rises, number_there uid own k (last uid k e))

pub latest_of_none : (uid : ℕ) (own : Own) → AreLast own → length own.befores ≤ 0 → latest_number (latest uid own) ≤ 0
latest_of_none uid own last none = by (get own.latest uid) refl
  where
    by : (o : Option KeptChange) → get own.latest uid ≡ o → latest_number (option_map shown o) ≤ 0
    by None e = omega arith
    by (Some k) e = let place = (last uid k e).place in absurd (omega (arith, place, none))

pub not_above : (n late : ℕ) (own : Own) (m : Message) → ((uid : ℕ) → latest_number (latest uid own) ≤ late) → late ≤ n → 2 + (m.place + length own.befores) ≤ n
    → ltb n (row_in own m).number ≡ false
not_above n late own m bound le fits =
    let last = bound m.uid in
    let before = before_most own.befores m.place in
    le-ltb n (max (number_at own m.place) (latest_number (latest m.uid own))) (omega (arith, last, before, le, fits))
