-- A session to which no line is given is told nothing.
use Rattle.std.proofs.Common.{◌≡◌, ℕ, Bool, true, false, cond, List, [], ◌∷◌, ◌++◌, length, Option, Some, None, refl, ap}
use Rattle.imap_mailbox.specs.Lent.{row_uids}
use Rattle.imap_mailbox.specs.Rows.{Row}
use Rattle.imap_session.proofs.Differing.{none_changed, none_gone}
use Rattle.imap_session.specs.Compared.{Comparison, comparisons, known_after, new_rows}
use Rattle.imap_session.specs.declared.options.NoticeOptions.{NoticeOptions}
use Rattle.imap_session.specs.Notices.{exists_line, expunge_lines, expunge_notices, expunged_uids, fetch_lines, notices, vanished_line}
use Rattle.imap_session.specs.State.{Selection}
use Rattle.imap_session.specs.Telling.{Telling, difference, is_empty}
use Rattle.imap_view.specs.declared.readable.Readable.{Readable}
use Rattle.imap_sessions.specs.Notices.{notice_lines, notice_telling}

front_nil : {A : Type 0} (a b : List A) → a ++ b ≡ [] → a ≡ []
front_nil [] b e = refl
front_nil (x ∷ a) b e = absurd (cc e)

back_nil : {A : Type 0} (a b : List A) → a ++ b ≡ [] → b ≡ []
back_nil [] b e = e
back_nil (x ∷ a) b e = absurd (cc e)

none_new : (count : ℕ) (new : List Row) → exists_line count new ≡ [] → new ≡ []
none_new count [] e = refl
none_new count (r ∷ new) e = absurd (cc e)

none_left : (may qresync : Bool) (cs : List Comparison) → cond may (cond qresync (vanished_line (expunged_uids cs)) (expunge_lines 1 cs)) [] ≡ [] → cond may (expunged_uids cs) [] ≡ []
none_left true qresync cs e = none_gone true qresync cs e refl
none_left false qresync cs e = refl

nothing_differs : (o : NoticeOptions) (up_to : ℕ) (known : List ℕ) (rows : List Row) (highest : ℕ) → notices o up_to [] known rows ≡ [] → is_empty (difference o.expunges up_to known rows highest) ≡ true
nothing_differs o up_to known rows highest silent =
    let cs = comparisons known rows in
    let count = length (known_after o.expunges known rows) in
    let fetches = fetch_lines o up_to [] 1 cs in
    let rest = back_nil (expunge_notices o cs) (exists_line count (new_rows known rows) ++ fetches) silent in
    let gone = none_left o.expunges o.qresync cs (front_nil (expunge_notices o cs) (exists_line count (new_rows known rows) ++ fetches) silent) in
    let new = none_new count (new_rows known rows) (front_nil (exists_line count (new_rows known rows)) fetches rest) in
    let changed = none_changed o up_to 1 cs (back_nil (exists_line count (new_rows known rows)) fetches rest) in
    λ i. is_empty (record { changed = changed i; gone = gone i; added = row_uids (new i); up_to = highest })

pub silent_is_untold : (o : NoticeOptions) (selected : Option Selection) (mailbox : Option Readable) → notice_lines o [] selected mailbox ≡ [] → notice_telling o selected mailbox ≡ None
silent_is_untold o selected None silent = refl
silent_is_untold o None (Some mailbox) silent = refl
silent_is_untold o (Some s) (Some mailbox) silent =
    let told : Telling = difference o.expunges s.up_to s.known mailbox.rows mailbox.highest in
    ap (λ b. cond b None (Some told)) (nothing_differs o s.up_to s.known mailbox.rows mailbox.highest silent)
