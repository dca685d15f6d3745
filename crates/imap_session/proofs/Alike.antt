-- Notices by what a session is told of the rows.
use Rattle.std.proofs.Common.{◌≡◌, ℕ, ◌+◌, eqb, Bool, true, false, cond, List, [], ◌∷◌, ◌++◌, length, map, refl, sym, ap, ◌∙◌}
use Rattle.imap_print.specs.declared.response.Response.TheVariants as response
use Rattle.imap_syntax.specs.Moments.{Moment}
use Rattle.imap_syntax.specs.declared.month.Month.TheVariants as month
use Rattle.imap_mailbox.specs.declared.known.KnownMessage.{KnownMessage}
use Rattle.imap_mailbox.specs.Rows.{Row}
use Rattle.imap_mailbox.specs.Brought.{told_of}
use Rattle.imap_mailbox.specs.Lent.{row_uids}
use Rattle.imap_session.specs.declared.options.NoticeOptions.{NoticeOptions}
use Rattle.imap_session.specs.Compared.{Comparison, Expunged, Present, comparisons, new_rows, uids_after, known_after, is_told}
use Rattle.imap_session.specs.Notices.{fetch_line, expunge_lines, expunged_uids, vanished_line, exists_line, fetch_lines, expunge_notices, notices}
use Rattle.imap_session.specs.Laws.{AlikeIsToldAlike}

some_moment : Moment
some_moment = record {
  date = record { year = 0; month = month.Jan; day = 0 };
  hour = 0;
  minute = 0;
  second = 0;
  zone = record { west = false; hours = 0; minutes = 0 };
}

-- a row of which a session is told this
abbrev bare : KnownMessage → Row
bare k = record { uid = k.uid; date = some_moment; octets = []; flags = k.flags; seen = k.seen; number = k.number }

abbrev bare_rows : List Row → List Row
bare_rows rows = map bare (map told_of rows)

abbrev bared : List Comparison → List Comparison
bared [] = []
bared (Expunged u ∷ cs) = Expunged u ∷ bared cs
bared (Present r ∷ cs) = Present (bare (told_of r)) ∷ bared cs

compared_bare : (known : List ℕ) (rows : List Row) → comparisons known (bare_rows rows) ≡ bared (comparisons known rows)
compared_bare [] rows = refl
compared_bare (k ∷ known) [] = ap (λ l. Expunged k ∷ l) (compared_bare known [])
compared_bare (k ∷ known) (r ∷ rows) = by (eqb k r.uid) (compared_bare known rows) (compared_bare known (r ∷ rows))
  where
    by : (b : Bool) → comparisons known (bare_rows rows) ≡ bared (comparisons known rows) → comparisons known (bare_rows (r ∷ rows)) ≡ bared (comparisons known (r ∷ rows))
        → cond b (Present (bare (told_of r)) ∷ comparisons known (bare_rows rows)) (Expunged k ∷ comparisons known (bare_rows (r ∷ rows)))
        ≡ bared (cond b (Present r ∷ comparisons known rows) (Expunged k ∷ comparisons known (r ∷ rows)))
    by true there gone = ap (λ l. Present (bare (told_of r)) ∷ l) there
    by false there gone = ap (λ l. Expunged k ∷ l) gone

new_bare : (known : List ℕ) (rows : List Row) → new_rows known (bare_rows rows) ≡ bare_rows (new_rows known rows)
new_bare [] rows = refl
new_bare (k ∷ known) [] = new_bare known []
new_bare (k ∷ known) (r ∷ rows) = by (eqb k r.uid) (new_bare known rows) (new_bare known (r ∷ rows))
  where
    by : (b : Bool) → new_rows known (bare_rows rows) ≡ bare_rows (new_rows known rows) → new_rows known (bare_rows (r ∷ rows)) ≡ bare_rows (new_rows known (r ∷ rows))
        → cond b (new_rows known (bare_rows rows)) (new_rows known (bare_rows (r ∷ rows))) ≡ bare_rows (cond b (new_rows known rows) (new_rows known (r ∷ rows)))
    by true there gone = there
    by false there gone = gone

after_bare : (may : Bool) (cs : List Comparison) → uids_after may (bared cs) ≡ uids_after may cs
after_bare may [] = refl
after_bare may (Expunged k ∷ cs) = ap (λ l. cond may l (k ∷ l)) (after_bare may cs)
after_bare may (Present r ∷ cs) = ap (λ l. r.uid ∷ l) (after_bare may cs)

uids_bare : (cs : List Comparison) → expunged_uids (bared cs) ≡ expunged_uids cs
uids_bare [] = refl
uids_bare (Expunged k ∷ cs) = ap (λ l. k ∷ l) (uids_bare cs)
uids_bare (Present r ∷ cs) = uids_bare cs

expunges_bare : (n : ℕ) (cs : List Comparison) → expunge_lines n (bared cs) ≡ expunge_lines n cs
expunges_bare n [] = refl
expunges_bare n (Expunged k ∷ cs) = ap (λ l. response.Expunge n ∷ l) (expunges_bare n cs)
expunges_bare n (Present r ∷ cs) = expunges_bare (n + 1) cs

fetches_bare : (o : NoticeOptions) (up_to : ℕ) (told : List ℕ) (n : ℕ) (cs : List Comparison) → fetch_lines o up_to told n (bared cs) ≡ fetch_lines o up_to told n cs
fetches_bare o up_to told n [] = refl
fetches_bare o up_to told n (Expunged u ∷ cs) = λ i. cond o.expunges (fetches_bare o up_to told n cs i) (fetches_bare o up_to told (n + 1) cs i)
fetches_bare o up_to told n (Present r ∷ cs) =
    λ i. cond (is_told up_to told r) (fetches_bare o up_to told (n + 1) cs i) (fetch_line o n (told_of r) ∷ fetches_bare o up_to told (n + 1) cs i)

exists_bare : (n : ℕ) (rows : List Row) → exists_line n (bare_rows rows) ≡ exists_line n rows
exists_bare n [] = refl
exists_bare n (r ∷ rows) = refl

told_bare : (rows : List Row) → row_uids (bare_rows rows) ≡ row_uids rows
told_bare [] = refl
told_bare (r ∷ rows) = ap (λ l. r.uid ∷ l) (told_bare rows)

bare_notices : (o : NoticeOptions) (up_to : ℕ) (told known : List ℕ) (rows : List Row) → notices o up_to told known (bare_rows rows) ≡ notices o up_to told known rows
bare_notices o up_to told known rows = λ i. gone i ++ (exists i ++ fetches i)
  where
    gone : expunge_notices o (comparisons known (bare_rows rows)) ≡ expunge_notices o (comparisons known rows)
    gone =
        ap (expunge_notices o) (compared_bare known rows)
        ∙ (λ i. cond o.expunges (cond o.qresync (vanished_line (uids_bare (comparisons known rows) i)) (expunges_bare 1 (comparisons known rows) i)) [])

    list : known_after o.expunges known (bare_rows rows) ≡ known_after o.expunges known rows
    list =
        (λ i. uids_after o.expunges (compared_bare known rows i) ++ row_uids (new_bare known rows i))
        ∙ (λ i. after_bare o.expunges (comparisons known rows) i ++ told_bare (new_rows known rows) i)

    exists : exists_line (length (known_after o.expunges known (bare_rows rows))) (new_rows known (bare_rows rows)) ≡ exists_line (length (known_after o.expunges known rows)) (new_rows known rows)
    exists =
        (λ i. exists_line (length (list i)) (new_bare known rows i))
        ∙ exists_bare (length (known_after o.expunges known rows)) (new_rows known rows)

    fetches : fetch_lines o up_to told 1 (comparisons known (bare_rows rows)) ≡ fetch_lines o up_to told 1 (comparisons known rows)
    fetches = ap (fetch_lines o up_to told 1) (compared_bare known rows) ∙ fetches_bare o up_to told 1 (comparisons known rows)

pub alike_is_told_alike : AlikeIsToldAlike
alike_is_told_alike o up_to told known rows others e =
    sym (bare_notices o up_to told known rows) ∙ ap (λ l. notices o up_to told known (map bare l)) e ∙ bare_notices o up_to told known others
