-- Own changes come after shared events that may be.
use Rattle.std.proofs.Common.{◌≡◌, ◌≤◌, ◌+◌, ℕ, Bool, true, false, cond, List, [], ◌∷◌, ◌++◌, length, Option, Some, None, is_some, subst, sym, arith, All}
use Rattle.std.specs.List.{AllByRecursion}
use Rattle.std.proofs.lemmas.List.Elements.{All-from_recursion}
use Rattle.imap_batch.specs.Batch.{flag_count, one_if, own_added, own_asked, own_change, own_marked}
use Rattle.imap_batch.specs.Entered.{mark_place}
use Rattle.imap_batch.specs.declared.batch.FlagUpdate.{FlagUpdate}
use Rattle.imap_batch.specs.declared.batch.NewMessage.{NewMessage}
use Rattle.imap_batch.specs.declared.write.BatchWrite.{BatchWrite}
use Rattle.imap_mailbox.specs.declared.own.SeenChange.{SeenChange}
use Rattle.imap_modseq.specs.Numbers.{max_events}
use Rattle.imap_records.specs.Bounds.{IsBounded}

abbrev IsLow : SeenChange → Type 0
IsLow s = s.before ≤ max_events

both_low : (xs ys : List SeenChange) → AllByRecursion IsLow xs → AllByRecursion IsLow ys → AllByRecursion IsLow (xs ++ ys)
both_low [] ys a b = b
both_low (x ∷ xs) ys (first, rest) b = (first, both_low xs ys rest b)

added_low : (uid place : ℕ) (added : List NewMessage) → place + length added ≤ max_events → AllByRecursion IsLow (own_added uid place added)
added_low uid place [] h = tt
added_low uid place (m ∷ added) h = both_low (cond m.seen (record { before = place + 1; uid = uid; seen = true } ∷ []) []) (own_added (uid + 1) (place + 1) added) (by m.seen) (added_low (uid + 1) (place + 1) added (omega (arith, h)))
  where
    by : (b : Bool) → AllByRecursion IsLow (cond b (record { before = place + 1; uid = uid; seen = true } ∷ []) [])
    by true = (omega (arith, h), tt)
    by false = tt

change_low : (place uid : ℕ) (seen : Option Bool) → place ≤ max_events → AllByRecursion IsLow (own_change place uid seen)
change_low place uid None h = tt
change_low place uid (Some seen) h = (h, tt)

marked_low : (place : ℕ) (marks : List FlagUpdate) → place + flag_count marks ≤ max_events → AllByRecursion IsLow (own_marked place marks)
marked_low place [] h = tt
marked_low place (k ∷ marks) h =
    both_low (own_change (place + one_if (is_some k.flags)) k.uid k.seen) (own_marked (place + one_if (is_some k.flags)) marks)
    (change_low (place + one_if (is_some k.flags)) k.uid k.seen (lower place (one_if (is_some k.flags)) (flag_count marks) max_events h))
    (marked_low (place + one_if (is_some k.flags)) marks (parts place (one_if (is_some k.flags)) (flag_count marks) max_events h))
  where
    lower : (p a b most : ℕ) → p + (a + b) ≤ most → p + a ≤ most
    lower p a b most h = omega (arith, h)

    parts : (p a b most : ℕ) → p + (a + b) ≤ most → p + a + b ≤ most
    parts p a b most h = omega (arith, h)

pub own_low : (w : BatchWrite) (own : List SeenChange) → IsBounded w → own ≡ own_asked w.first_uid w.first_place w.batch → All (λ s. s.before ≤ max_events) own
own_low w own bounded is =
    All-from_recursion IsLow own (subst (AllByRecursion IsLow) (sym is) (both_low (own_added w.first_uid w.first_place w.batch.added) (own_marked (mark_place w) w.batch.marks)
    (added_low w.first_uid w.first_place w.batch.added (first w.first_place (length w.batch.added) (flag_count w.batch.marks) (length w.batch.expunged) max_events bounded.places))
    (marked_low (mark_place w) w.batch.marks (second w.first_place (length w.batch.added) (flag_count w.batch.marks) (length w.batch.expunged) max_events bounded.places))))
  where
    first : (p a f e most : ℕ) → p + (a + (f + e)) ≤ most → p + a ≤ most
    first p a f e most h = omega (arith, h)

    second : (p a f e most : ℕ) → p + (a + (f + e)) ≤ most → p + a + f ≤ most
    second p a f e most h = omega (arith, h)
