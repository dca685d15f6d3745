-- Notices that a client reads as one line each.
use Rattle.std.proofs.Common.{◌≡◌, ℕ, ◌+◌, Bool, true, false, cond, List, [], ◌∷◌, ◌++◌, sym, subst}
use Rattle.std.specs.List.{AllByRecursion}
use Rattle.imap_print.specs.declared.response.Response.{Response}
use Rattle.imap_print.specs.Lines.{IsPrintable}
use Rattle.imap_mailbox.specs.Rows.{Row}
use Rattle.imap_session.specs.Compared.{Comparison, Expunged, Present}
use Rattle.imap_session.specs.Notices.{expunge_lines, vanished_line, exists_line}
use Rattle.imap_session.specs.Walked.{collected}

pub all_append : (xs ys : List Response) → AllByRecursion IsPrintable xs → AllByRecursion IsPrintable ys → AllByRecursion IsPrintable (xs ++ ys)
all_append [] ys front back = back
all_append (x ∷ xs) ys front back = (front.0, all_append xs ys front.1 back)

expunges_are : (n : ℕ) (cs : List Comparison) → AllByRecursion IsPrintable (expunge_lines n cs)
expunges_are n [] = tt
expunges_are n (Expunged k ∷ cs) = (record { plain = tt; held = tt }, expunges_are n cs)
expunges_are n (Present r ∷ cs) = expunges_are (n + 1) cs

collected_are : (b : Bool) (cs : List Comparison) → AllByRecursion IsPrintable (collected b (expunge_lines 1 cs))
collected_are true cs = expunges_are 1 cs
collected_are false cs = tt

vanished_is : (uids : List ℕ) → AllByRecursion IsPrintable (vanished_line uids)
vanished_is [] = tt
vanished_is (uid ∷ uids) = (record { plain = tt; held = tt }, tt)

exists_is : (count : ℕ) (new : List Row) → AllByRecursion IsPrintable (exists_line count new)
exists_is count [] = tt
exists_is count (r ∷ new) = (record { plain = tt; held = tt }, tt)

gone_are : (q : Bool) (uids : List ℕ) (expunges : List Response) → AllByRecursion IsPrintable expunges → AllByRecursion IsPrintable (cond q (vanished_line uids) expunges)
gone_are true uids expunges h = vanished_is uids
gone_are false uids expunges h = h

pub lines_are_printable : (q b : Bool) (uids : List ℕ) (expunges : List Response) (cs : List Comparison) (count : ℕ) (new : List Row) (fetches : List Response)
    → expunges ≡ collected b (expunge_lines 1 cs) → AllByRecursion IsPrintable fetches
    → AllByRecursion IsPrintable (cond q (vanished_line uids) expunges ++ (exists_line count new ++ fetches))
lines_are_printable q b uids expunges cs count new fetches is h =
    all_append (cond q (vanished_line uids) expunges) (exists_line count new ++ fetches)
    (gone_are q uids expunges (subst (AllByRecursion IsPrintable) (sym is) (collected_are b cs)))
    (all_append (exists_line count new) fetches (exists_is count new) h)
