-- The places of own changes that go are found one after another.
use Rattle.std.proofs.Common.{◌≡◌, ◌<◌, ◌-◌, ◌+◌, ℕ, zero, suc, true, Bool, cond, List, [], ◌∷◌, ◌++◌, append_assoc, drop, take, get_or, length, refl, ap, sym, ◌∙◌, arith}
use Rattle.std.proofs.lemmas.List.{drop_more}
use Rattle.imap_modseq.specs.Numbers.{max_events}
use Rattle.imap_mailbox.specs.declared.own.SeenChange.{SeenChange}
use Rattle.imap_mailbox.specs.KeptRows.{dropped_for}
use Rattle.imap_mailbox.specs.Own.{Own}
use Rattle.imap_batch.specs.Batch.{before_first, dropped_from, dropped_with, place_list}

pub one_dropped : (before : ℕ) (own : Own) (changes : List SeenChange) (i at : ℕ) (d : SeenChange) (done next all : List ℕ) → i < length changes → at < max_events
    → next ≡ done ++ place_list (dropped_for (get_or changes i d).uid before own)
    → done ++ dropped_from before own (take (max_events - at) (drop i changes)) ≡ all
    → next ++ dropped_from before own (take (max_events - (at + 1)) (drop (i + 1) changes)) ≡ all
one_dropped before own changes i at d done next all lt low is so_far =
    let item = get_or changes i d in
    let rest = drop (i + 1) changes in
    let less : max_events - at ≡ suc (max_events - (at + 1)) = omega (arith, low) in
    let left : take (max_events - at) (drop i changes) ≡ item ∷ take (max_events - (at + 1)) rest = ap (take (max_events - at)) (drop_more changes i d lt) ∙ ap (λ n. take n (item ∷ rest)) less in
    ap (λ l. l ++ dropped_from before own (take (max_events - (at + 1)) rest)) is
    ∙ append_assoc done (place_list (dropped_for item.uid before own)) (dropped_from before own (take (max_events - (at + 1)) rest))
    ∙ ap (λ l. done ++ dropped_from before own l) (sym left) ∙ so_far

-- those that are taken begin with the first of all
pub first_taken : (own : Own) (n : ℕ) (changes : List SeenChange) → dropped_from (before_first changes) own (take n changes) ≡ dropped_with (take n changes) own
first_taken own zero changes = refl
first_taken own (suc n) [] = refl
first_taken own (suc n) (s ∷ changes) = refl
