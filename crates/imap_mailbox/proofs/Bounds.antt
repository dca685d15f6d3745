-- The order of rows and of gone UIDs, and the bounds of their numbers.
use Rattle.std.proofs.Common.{◌≡◌, ℕ, ◌+◌, ◌<◌, ◌≤◌, ltb, Bool, true, false, cond, List, [], ◌∷◌, length, map, refl, ap, subst, arith}
use Rattle.imap_modseq.specs.Merge.{AreInOrder}
use Rattle.imap_modseq.specs.Numbers.{highest_after}
use Rattle.imap_modseq.proofs.Order.{before_most, before_rises}
use Rattle.imap_mailbox.specs.declared.message.Message.{Message}
use Rattle.imap_mailbox.specs.declared.message.GoneMessage.{GoneMessage}
use Rattle.imap_mailbox.specs.Latest.{AreLast}
use Rattle.imap_mailbox.specs.Own.{Own, own_at}
use Rattle.imap_mailbox.specs.Summary.{Summary, row_in, gone_in, number_at, rows_of, gone_of, highest_of, count_of, gone_uids, places_in, ArePlacesBelow, Rises}
use Rattle.imap_mailbox.specs.Held.{HaveFewKeywords, IsKept}
use Rattle.imap_mailbox.specs.Lent.{gone_after_number}
use Rattle.imap_mailbox.specs.Order.{AreAtMost, AreOfFewKeywords, AreRowsInOrder, AreGoneInOrder, uids_gone, numbers_gone}
use Rattle.imap_mailbox.proofs.Counts.{count_more}
use Rattle.imap_mailbox.proofs.Fitting.{last_of_fits}
use Rattle.imap_mailbox.proofs.Joined.{latest_most}
use Rattle.imap_mailbox.proofs.Rising.{rises_lower}
use Rattle.imap_mailbox.proofs.Lending.{uids_lent}

-- ---- rows

number_most : (shared : ℕ) (own : Own) (m : Message) → AreInOrder 0 shared own.befores → AreLast own → m.place < shared → (row_in own m).number ≤ highest_after shared (length own.befores)
number_most shared own m order last lt =
    let late = latest_most shared m.uid own order last in
    let before = before_most own.befores m.place in
    omega (arith, late, before)

rows_at_most : (shared : ℕ) (own : Own) (messages : List Message) → AreInOrder 0 shared own.befores → AreLast own → ArePlacesBelow shared messages
    → AreAtMost (highest_after shared (length own.befores)) (map (row_in own) messages)
rows_at_most shared own [] order last h = tt
rows_at_most shared own (m ∷ messages) order last h = (number_most shared own m order last h.0, rows_at_most shared own messages order last h.1)

few_rows : (own : Own) (messages : List Message) → HaveFewKeywords messages → AreOfFewKeywords (map (row_in own) messages)
few_rows own [] h = tt
few_rows own (m ∷ messages) h = (h.0, few_rows own messages h.1)

pub rows_in_order : (s : Summary) (user : List ℕ) → IsKept s → AreRowsInOrder s.next (highest_of s user) (rows_of s user)
rows_in_order s user h = record {
  uids = subst (Rises 1 s.next) (uids_lent (own_at s.own user) s.messages) h.sound.uids;
  numbers = rows_at_most s.shared (own_at s.own user) s.messages (h.sound.fits user).order (last_of_fits s.shared s.next (own_at s.own user) (h.sound.fits user)) h.sound.place;
  keywords = few_rows (own_at s.own user) s.messages h.keywords;
}

-- ---- gone UIDs

uids_shown : (own : Own) (gone : List GoneMessage) → uids_gone (map (gone_in own) gone) ≡ gone_uids gone
uids_shown own [] = refl
uids_shown own (g ∷ gone) = ap (λ us. g.uid ∷ us) (uids_shown own gone)

numbers_rise : (own : Own) (low high : ℕ) (gone : List GoneMessage) → Rises low high (places_in gone)
    → Rises (number_at own low) (2 + (high + length own.befores)) (numbers_gone (map (gone_in own) gone))
numbers_rise own low high [] h = let end : low ≤ high = h in omega (arith, end, before_most own.befores low)
numbers_rise own low high (g ∷ gone) h =
    let first : low ≤ g.place = h.0 in
    let up = before_rises own.befores low g.place first in
    let next = before_rises own.befores g.place (g.place + 1) (omega arith) in (
      omega (arith, first, up),
      rises_lower (number_at own (g.place + 1)) (number_at own g.place + 1) (2 + (high + length own.befores)) (numbers_gone (map (gone_in own) gone)) (omega (arith, next)) (numbers_rise own (g.place + 1) high gone h.1),
    )

pub gone_in_order : (s : Summary) (user : List ℕ) → IsKept s → AreGoneInOrder s.next (highest_of s user) (gone_of s user)
gone_in_order s user h = record {
  uids = λ uid. let same = ap (count_of uid) (uids_shown own s.gone) in let once = h.sound.once uid in omega (arith, same, once);
  numbers = subst (λ n. Rises 2 n (numbers_gone (map (gone_in own) s.gone))) (let z : 2 + (s.shared + length own.befores) ≡ highest_after s.shared (length own.befores) + 1 = omega arith in z)
      (rises_lower (number_at own 0) 2 (2 + (s.shared + length own.befores)) (numbers_gone (map (gone_in own) s.gone)) (omega arith) (numbers_rise own 0 s.shared s.gone h.sound.places));
}
  where
    own : Own
    own = own_at s.own user

count_since : (n uid : ℕ) (gone : List (ℕ × ℕ)) → count_of uid (uids_gone (gone_after_number n gone)) ≤ count_of uid (uids_gone gone)
count_since n uid [] = omega arith
count_since n uid (g ∷ gone) = by (ltb n g.1) (count_since n uid gone)
  where
    by : (b : Bool) → count_of uid (uids_gone (gone_after_number n gone)) ≤ count_of uid (uids_gone gone)
        → count_of uid (uids_gone (cond b (g ∷ gone_after_number n gone) (gone_after_number n gone))) ≤ count_of uid (uids_gone (g ∷ gone))
    by true rest = omega (arith, rest, count_more uid g.0 (uids_gone (gone_after_number n gone)), count_more uid g.0 (uids_gone gone))
    by false rest = omega (arith, rest, count_more uid g.0 (uids_gone gone))

rises_since : (n low high : ℕ) (gone : List (ℕ × ℕ)) → Rises low high (numbers_gone gone) → Rises low high (numbers_gone (gone_after_number n gone))
rises_since n low high [] h = h
rises_since n low high (g ∷ gone) h = by (ltb n g.1) (rises_since n (g.1 + 1) high gone h.1)
  where
    by : (b : Bool) → Rises (g.1 + 1) high (numbers_gone (gone_after_number n gone))
        → Rises low high (numbers_gone (cond b (g ∷ gone_after_number n gone) (gone_after_number n gone)))
    by true rest = (h.0, rest)
    by false rest = let first : low ≤ g.1 = h.0 in rises_lower (g.1 + 1) low high (numbers_gone (gone_after_number n gone)) (omega (arith, first)) rest

pub since_in_order : (next highest n : ℕ) (gone : List (ℕ × ℕ)) → AreGoneInOrder next highest gone → AreGoneInOrder next highest (gone_after_number n gone)
since_in_order next highest n gone h = record {
  uids = λ uid. let once = h.uids uid in omega (arith, once, count_since n uid gone);
  numbers = rises_since n 2 (highest + 1) gone h.numbers;
}
