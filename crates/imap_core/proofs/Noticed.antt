-- The lines that notices are: no test finds one of them that passes over each of their kinds.
use Rattle.std.proofs.Common.{◌≡◌, ℕ, ◌+◌, Bool, true, false, cond, List, [], ◌∷◌, ◌++◌, ◌||◌, Option, Some, None, length, refl, ap, ◌∙◌}
use Rattle.std.specs.List.{list_any}
use Rattle.std.proofs.lemmas.List.Folds.{list_any-append}
use Rattle.imap_mailbox.specs.Brought.{told_of}
use Rattle.imap_mailbox.specs.Rows.{Row}
use Rattle.imap_print.specs.declared.fetch.FetchedItems.{FetchedItems}
use Rattle.imap_print.specs.declared.response.Response.{Response}
use Rattle.imap_print.specs.declared.response.Response.TheVariants as response
use Rattle.imap_session.specs.Compared.{Comparison, Expunged, Present, comparisons, is_told, known_after, new_rows}
use Rattle.imap_session.specs.declared.options.NoticeOptions.{NoticeOptions}
use Rattle.imap_session.specs.Notices.{exists_line, expunge_lines, expunge_notices, expunged_uids, fetch_line, fetch_lines, notice_items, notices, vanished_line}
use Rattle.imap_session.specs.State.{Selection}
use Rattle.imap_view.specs.declared.readable.Readable.{Readable}
use Rattle.imap_sessions.specs.Notices.{notice_lines}

module _ (test : Response → Bool) (exists : (n : ℕ) → test (response.Exists n) ≡ false) (fetch : (n : ℕ) (items : FetchedItems) → test (response.Fetch n items) ≡ false) where
  first : (line : Response) (lines : List Response) → test line ≡ false → list_any test lines ≡ false → list_any test (line ∷ lines) ≡ false
  first line lines one rest = ap (λ b. b || list_any test lines) one ∙ rest

  both : (front back : List Response) → list_any test front ≡ false → list_any test back ≡ false → list_any test (front ++ back) ≡ false
  both front back one rest = list_any-append test front back ∙ ap (λ b. b || list_any test back) one ∙ rest

  no_exists : (count : ℕ) (new : List Row) → list_any test (exists_line count new) ≡ false
  no_exists count [] = refl
  no_exists count (r ∷ new) = first (response.Exists count) [] (exists count) refl

  no_fetch : (o : NoticeOptions) (up_to : ℕ) (told : List ℕ) (n : ℕ) (cs : List Comparison) → list_any test (fetch_lines o up_to told n cs) ≡ false
  no_fetch o up_to told n [] = refl
  no_fetch o up_to told n (Expunged k ∷ cs) = by o.expunges (no_fetch o up_to told n cs) (no_fetch o up_to told (n + 1) cs)
    where
      by : (b : Bool) → list_any test (fetch_lines o up_to told n cs) ≡ false → list_any test (fetch_lines o up_to told (n + 1) cs) ≡ false → list_any test (cond b (fetch_lines o up_to told n cs) (fetch_lines o up_to told (n + 1) cs)) ≡ false
      by true here next = here
      by false here next = next
  no_fetch o up_to told n (Present r ∷ cs) = by (is_told up_to told r) (no_fetch o up_to told (n + 1) cs)
    where
      by : (b : Bool) → list_any test (fetch_lines o up_to told (n + 1) cs) ≡ false → list_any test (cond b (fetch_lines o up_to told (n + 1) cs) (fetch_line o n (told_of r) ∷ fetch_lines o up_to told (n + 1) cs)) ≡ false
      by true next = next
      by false next = first (fetch_line o n (told_of r)) (fetch_lines o up_to told (n + 1) cs) (fetch n (notice_items o.condstore (told_of r))) next

  -- with these lines of expunged messages
  module _ (o : NoticeOptions) (gone : (cs : List Comparison) → list_any test (expunge_notices o cs) ≡ false) where
    no_notice : (up_to : ℕ) (told known : List ℕ) (rows : List Row) → list_any test (notices o up_to told known rows) ≡ false
    no_notice up_to told known rows =
        let cs = comparisons known rows in
        let count = length (known_after o.expunges known rows) in
        both (expunge_notices o cs) (exists_line count (new_rows known rows) ++ fetch_lines o up_to told 1 cs) (gone cs)
        (both (exists_line count (new_rows known rows)) (fetch_lines o up_to told 1 cs) (no_exists count (new_rows known rows)) (no_fetch o up_to told 1 cs))

    no_line_passes : (told : List ℕ) (selected : Option Selection) (mailbox : Option Readable) → list_any test (notice_lines o told selected mailbox) ≡ false
    no_line_passes told selected None = refl
    no_line_passes told None (Some mailbox) = refl
    no_line_passes told (Some s) (Some mailbox) = no_notice s.up_to told s.known mailbox.rows

  -- where expunges may not be told
  pub no_line_held_back : (o : NoticeOptions) → o.expunges ≡ false → (told : List ℕ) (selected : Option Selection) (mailbox : Option Readable) → list_any test (notice_lines o told selected mailbox) ≡ false
  no_line_held_back o held = no_line_passes o (λ cs. ap (λ b. list_any test (cond b (cond o.qresync (vanished_line (expunged_uids cs)) (expunge_lines 1 cs)) [])) held)

  module _ (expunge : (n : ℕ) → test (response.Expunge n) ≡ false) (vanished : (earlier : Bool) (uids : List ℕ) → test (response.Vanished earlier uids) ≡ false) where
    no_expunge : (n : ℕ) (cs : List Comparison) → list_any test (expunge_lines n cs) ≡ false
    no_expunge n [] = refl
    no_expunge n (Expunged k ∷ cs) = first (response.Expunge n) (expunge_lines n cs) (expunge n) (no_expunge n cs)
    no_expunge n (Present r ∷ cs) = no_expunge (n + 1) cs

    no_vanished : (uids : List ℕ) → list_any test (vanished_line uids) ≡ false
    no_vanished [] = refl
    no_vanished (u ∷ uids) = first (response.Vanished false (u ∷ uids)) [] (vanished false (u ∷ uids)) refl

    no_expunges : (o : NoticeOptions) (cs : List Comparison) → list_any test (expunge_notices o cs) ≡ false
    no_expunges o cs = by o.expunges o.qresync
      where
        by : (e q : Bool) → list_any test (cond e (cond q (vanished_line (expunged_uids cs)) (expunge_lines 1 cs)) []) ≡ false
        by false q = refl
        by true true = no_vanished (expunged_uids cs)
        by true false = no_expunge 1 cs

    pub no_line_refuses : (o : NoticeOptions) (told : List ℕ) (selected : Option Selection) (mailbox : Option Readable) → list_any test (notice_lines o told selected mailbox) ≡ false
    no_line_refuses o = no_line_passes o (no_expunges o)
