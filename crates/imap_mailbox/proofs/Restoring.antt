-- What is asked of the messages of a mailbox, by their UIDs and places in order.
use Rattle.std.proofs.Common.{length, drop, get_or, subst, ◌≡◌, ◌↔◌, ℕ, ◌+◌, ◌<◌, ◌≤◌, List, ◌∷◌, ◌++◌, ◌∙◌, arith, ⊎_elim, IsPermutation}
use Rattle.std.specs.List.Sorted.{IsNonDecreasing}
use Rattle.std.proofs.lemmas.Bool.{cases_lt}
use Rattle.std.proofs.lemmas.List.{drop_more}
use Rattle.imap_mailbox.specs.declared.message.GoneMessage.{GoneMessage}
use Rattle.imap_mailbox.specs.declared.message.Message.{Message}
use Rattle.imap_mailbox.specs.Restored.{IsRun, HaveAllUids, ArePlacesOf}
use Rattle.imap_mailbox.specs.Summary.{AreApart, Rises, count_of, given_once, uids_in, gone_uids, message_places, places_in}
use Rattle.imap_mailbox.proofs.Reordered.{count_moved, count_append, rises_sorted, within_risen, once_risen, run_rises, counted_run, run_counted, given_one, given_within, given_most}
use Rattle.imap_mailbox.proofs.Rising.{rises_end}

module _ (next : ℕ) (messages : List Message) (gone : List GoneMessage) (uids : List ℕ) (moved : IsPermutation (uids_in messages ++ gone_uids gone) uids) (sorted : IsNonDecreasing uids) where
  abbrev there : ℕ → ℕ
  there uid = count_of uid (uids_in messages) + count_of uid (gone_uids gone)

  counted : (uid : ℕ) → count_of uid uids ≡ count_of uid (uids_in messages) + count_of uid (gone_uids gone)
  counted uid = count_moved uid _ _ moved ∙ count_append uid (uids_in messages) (gone_uids gone)

  pub run_is : IsRun 1 next uids ↔ HaveAllUids next messages gone
  run_is = (
    (λ run.
        let rises = run_rises 1 next uids run in (
          rises_end 1 next uids rises,
          λ uid.
              let most = once_risen 1 next uids rises uid in
              ⊎_elim
              (λ (lt : 0 < given_once next uid).
              let within = given_within next uid lt in
              let some = counted_run 1 next uids run uid within.0 within.1 in
              omega (arith, counted uid, most, some, given_one next uid within.0 within.1))
              (λ (none : given_once next uid ≤ 0).
              ⊎_elim
              (λ (some : 0 < count_of uid uids). let within = within_risen 1 next uids rises uid some in omega (arith, none, given_one next uid within.0 within.1))
              (λ (no_more : count_of uid uids ≤ 0). omega (arith, counted uid, none, no_more))
              (cases_lt 0 (count_of uid uids)))
              (cases_lt 0 (given_once next uid)),
        )),
    λ have.
        let is = (λ (uid : ℕ). counted uid ∙ have.1 uid) in
        run_counted 1 next uids
        (rises_sorted 1 next uids have.0 sorted
        (λ uid. omega (arith, is uid, given_most next uid))
        (λ uid lt. given_within next uid (omega (arith, is uid, lt))))
        (λ uid le lt. omega (arith, is uid, given_one next uid le lt)),
  )

module _ (shared : ℕ) (messages : List Message) (gone : List GoneMessage) (places : List ℕ) (moved : IsPermutation (message_places messages ++ places_in gone) places) (sorted : IsNonDecreasing places) where
  counted_place : (place : ℕ) → count_of place places ≡ count_of place (message_places messages) + count_of place (places_in gone)
  counted_place place = count_moved place _ _ moved ∙ count_append place (message_places messages) (places_in gone)

  pub places_are : Rises 0 shared places ↔ (AreApart messages gone × ArePlacesOf shared messages gone)
  places_are = (
    (λ rises. (
      (λ place. omega (arith, counted_place place, once_risen 0 shared places rises place)),
      λ place lt. (within_risen 0 shared places rises place (omega (arith, counted_place place, lt))).1,
    )),
    λ have.
        rises_sorted 0 shared places (omega arith) sorted
        (λ place. let most = have.0 place in omega (arith, counted_place place, most))
        (λ place lt. (omega arith, have.1 place (omega (arith, counted_place place, lt)))),
  )

-- ---- a number past the end

pub past_end : (low high i : ℕ) (ns : List ℕ) → i < length ns → high ≤ get_or ns i 0 → Rises low high (drop i ns) → ⊥
past_end low high i ns lt le h =
    let at : Rises low high (get_or ns i 0 ∷ drop (i + 1) ns) = subst (Rises low high) (drop_more ns i 0 lt) h in
    let end = rises_end (get_or ns i 0 + 1) high (drop (i + 1) ns) at.1 in
    absurd (omega (arith, end, le))

pub run_past_end : (low high i : ℕ) (ns : List ℕ) → i < length ns → high ≤ get_or ns i 0 → IsRun low high (drop i ns) → ⊥
run_past_end low high i ns lt le h = past_end low high i ns lt le (run_rises low high (drop i ns) h)
