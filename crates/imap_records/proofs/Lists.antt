-- Lists that are made one part after another.
use Rattle.std.proofs.Common.{◌≡◌, ◌<◌, ◌-◌, ◌+◌, ℕ, suc, List, [], ◌∷◌, ◌++◌, append_assoc, drop, take, get_or, length, ap, sym, ◌∙◌, arith}
use Rattle.std.proofs.lemmas.List.{drop_more}
use Rattle.imap_mailbox.specs.declared.own.SeenChange.{SeenChange}
use Rattle.imap_modseq.specs.Numbers.{max_events}
use Rattle.imap_records.specs.Steps.{StepBelow, mark_steps}

-- a part goes from what is left to what is done
pub part_done : {X : Type 0} (done next part rest all : List X) → next ≡ done ++ part → done ++ (part ++ rest) ≡ all → next ++ rest ≡ all
part_done done next part rest all is so_far = ap (λ l. l ++ rest) is ∙ append_assoc done part rest ∙ so_far

-- one is left fewer
one_less : (most n : ℕ) → n < most → most - n ≡ suc (most - (n + 1))
one_less most n low = omega (arith, low)

-- one more own change is written
pub mark_done : (user : List ℕ) (own : List SeenChange) (i at : ℕ) (d : SeenChange) (done next all : List StepBelow) → i < length own → at < max_events → next ≡ done ++ mark_steps user at (get_or own i d ∷ [])
    → done ++ mark_steps user at (take (max_events - at) (drop i own)) ≡ all → next ++ mark_steps user (at + 1) (take (max_events - (at + 1)) (drop (i + 1) own)) ≡ all
mark_done user own i at d done next all lt low is so_far =
    let item = get_or own i d in
    let rest = drop (i + 1) own in
    let left : take (max_events - at) (drop i own) ≡ item ∷ take (max_events - (at + 1)) rest =
    ap (take (max_events - at)) (drop_more own i d lt) ∙ ap (λ n. take n (item ∷ rest)) (one_less max_events at low) in
    part_done done next (mark_steps user at (item ∷ [])) (mark_steps user (at + 1) (take (max_events - (at + 1)) rest)) all is (ap (λ xs. done ++ mark_steps user at xs) (sym left) ∙ so_far)
