-- What a session knows after notices.
use Rattle.std.proofs.Common.{◌≡◌, ℕ, ◌+◌, ◌<◌, ◌≤◌, eqb, Bool, true, false, cond, MatchBool, List, [], ◌∷◌, ◌++◌, map, refl, sym, subst, ap, ◌∙◌, arith}
use Rattle.std.proofs.lemmas.Bool.{eq-eqb, eqb-true}
use Rattle.imap_mailbox.specs.declared.known.KnownMessage.{KnownMessage}
use Rattle.imap_mailbox.specs.Rows.{Row, first_uid}
use Rattle.imap_mailbox.specs.Summary.{Rises}
use Rattle.imap_mailbox.specs.Lent.{row_uids}
use Rattle.imap_mailbox.specs.Order.{AreAtMost}
use Rattle.imap_mailbox.specs.Shown.{Content}
use Rattle.imap_mailbox.specs.Brought.{told_of, known_uids, highest_in, AreToldBy, Agree, IsBrought, IsOrdered}
use Rattle.imap_mailbox.proofs.Rising.{rises_end}
use Rattle.imap_mailbox.proofs.BroughtUp.{rises_all}
use Rattle.imap_session.specs.ByUid.{IsBroughtByUid}
use Rattle.imap_session.specs.Compared.{Expunged, Present, comparisons, new_rows, uids_after, known_after}
use Rattle.imap_session.specs.Laws.{ToldIsThere}
use Rattle.imap_session.specs.Listed.{kept_with}
use Rattle.imap_session.specs.InStep.{NoticesKeepInStep}
use Rattle.imap_session.proofs.ByUid.{all_told_by_uid, told_uids}

agree_all : (n : ℕ) (rows : List Row) → Agree n (map told_of rows) rows
agree_all n [] = tt
agree_all n (r ∷ rows) =
    subst (λ b. MatchBool b ((r.number ≤ n → told_of r ≡ told_of r) × Agree n (map told_of rows) rows) ((r.uid < r.uid) × Agree n (map told_of rows) (r ∷ rows)))
    (sym (eq-eqb r.uid r.uid refl)) (λ le. refl, agree_all n rows)

-- ---- the messages, if expunged ones stay

pub kept_uids : (known : List KnownMessage) (rows : List Row) → known_uids (kept_with known rows) ≡ known_after false (known_uids known) rows
kept_uids [] rows = told_uids rows
kept_uids (k ∷ known) [] = ap (λ l. k.uid ∷ l) (kept_uids known [])
kept_uids (k ∷ known) (r ∷ rows) = by (eqb k.uid r.uid) (kept_uids known rows) (kept_uids known (r ∷ rows))
  where
    by : (b : Bool) → known_uids (kept_with known rows) ≡ known_after false (known_uids known) rows → known_uids (kept_with known (r ∷ rows)) ≡ known_after false (known_uids known) (r ∷ rows)
        → known_uids (cond b (told_of r ∷ kept_with known rows) (k ∷ kept_with known (r ∷ rows)))
        ≡ uids_after false (cond b (Present r ∷ comparisons (known_uids known) rows) (Expunged k.uid ∷ comparisons (known_uids known) (r ∷ rows))) ++ row_uids (cond b (new_rows (known_uids known) rows) (new_rows (known_uids known) (r ∷ rows)))
    by true there gone = ap (λ l. r.uid ∷ l) there
    by false there gone = ap (λ l. k.uid ∷ l) gone

agree_kept : (n m : ℕ) (known : List KnownMessage) (rows : List Row) → Agree n known rows → Agree m (kept_with known rows) rows
agree_kept n m [] rows h = agree_all m rows
agree_kept n m (k ∷ known) [] h = agree_kept n m known [] h
agree_kept n m (k ∷ known) (r ∷ rows) h = by (eqb k.uid r.uid) refl (agree_kept n m known rows) (agree_kept n m known (r ∷ rows)) h
  where
    by : (b : Bool) → eqb k.uid r.uid ≡ b → (Agree n known rows → Agree m (kept_with known rows) rows) → (Agree n known (r ∷ rows) → Agree m (kept_with known (r ∷ rows)) (r ∷ rows))
        → MatchBool b ((r.number ≤ n → told_of r ≡ k) × Agree n known rows) ((k.uid < r.uid) × Agree n known (r ∷ rows))
        → Agree m (cond b (told_of r ∷ kept_with known rows) (k ∷ kept_with known (r ∷ rows))) (r ∷ rows)
    by true is there gone h =
        subst (λ b. MatchBool b ((r.number ≤ m → told_of r ≡ told_of r) × Agree m (kept_with known rows) rows) ((r.uid < r.uid) × Agree m (kept_with known rows) (r ∷ rows)))
        (sym (eq-eqb r.uid r.uid refl)) (λ le. refl, there h.1)
    by false is there gone h =
        subst (λ b. MatchBool b ((r.number ≤ m → told_of r ≡ k) × Agree m (kept_with known (r ∷ rows)) rows) ((k.uid < r.uid) × Agree m (kept_with known (r ∷ rows)) (r ∷ rows)))
        (sym is) (h.0, gone h.1)

rises_kept : (n low high : ℕ) (known : List KnownMessage) (rows : List Row) → Agree n known rows → Rises low high (known_uids known) → Rises low high (row_uids rows)
    → Rises low high (known_uids (kept_with known rows))
rises_kept n low high [] rows h ks rs = rises_all low high rows rs
rises_kept n low high (k ∷ known) [] h ks rs = (ks.0, rises_kept n (k.uid + 1) high known [] h ks.1 (rises_end (k.uid + 1) high (known_uids known) ks.1))
rises_kept n low high (k ∷ known) (r ∷ rows) h ks rs =
    by (eqb k.uid r.uid) refl (λ h. rises_kept n (r.uid + 1) high known rows h) (λ h. rises_kept n (k.uid + 1) high known (r ∷ rows) h) h
  where
    by : (b : Bool) → eqb k.uid r.uid ≡ b
        → (Agree n known rows → Rises (r.uid + 1) high (known_uids known) → Rises (r.uid + 1) high (row_uids rows) → Rises (r.uid + 1) high (known_uids (kept_with known rows)))
        → (Agree n known (r ∷ rows) → Rises (k.uid + 1) high (known_uids known) → Rises (k.uid + 1) high (row_uids (r ∷ rows)) → Rises (k.uid + 1) high (known_uids (kept_with known (r ∷ rows))))
        → MatchBool b ((r.number ≤ n → told_of r ≡ k) × Agree n known rows) ((k.uid < r.uid) × Agree n known (r ∷ rows))
        → Rises low high (known_uids (cond b (told_of r ∷ kept_with known rows) (k ∷ kept_with known (r ∷ rows))))
    by true is there gone h = (rs.0, there h.1 (subst (λ u. Rises (u + 1) high (known_uids known)) (eqb-true k.uid r.uid is) ks.1) rs.1)
    by false is there gone h = let lt : k.uid < r.uid = h.0 in (ks.0, gone h.1 ks.1 (omega arith, rs.1))

told_by_more : (n m : ℕ) (known : List KnownMessage) → n ≤ m → AreToldBy n known → AreToldBy m known
told_by_more n m [] le h = tt
told_by_more n m (k ∷ known) le h = let first : k.number ≤ n = h.0 in (omega arith, told_by_more n m known le h.1)

told_by_all : (n : ℕ) (rows : List Row) → AreAtMost n rows → AreToldBy n (map told_of rows)
told_by_all n [] h = tt
told_by_all n (r ∷ rows) h = (h.0, told_by_all n rows h.1)

told_by_kept : (n : ℕ) (known : List KnownMessage) (rows : List Row) → AreToldBy n known → AreAtMost n rows → AreToldBy n (kept_with known rows)
told_by_kept n [] rows ks rs = told_by_all n rows rs
told_by_kept n (k ∷ known) [] ks rs = (ks.0, told_by_kept n known [] ks.1 rs)
told_by_kept n (k ∷ known) (r ∷ rows) ks rs = by (eqb k.uid r.uid) (told_by_kept n known rows ks.1 rs.1) (told_by_kept n known (r ∷ rows) ks.1 rs)
  where
    by : (b : Bool) → AreToldBy n (kept_with known rows) → AreToldBy n (kept_with known (r ∷ rows))
        → AreToldBy n (cond b (told_of r ∷ kept_with known rows) (k ∷ kept_with known (r ∷ rows)))
    by true there gone = (rs.0, there)
    by false there gone = (ks.0, gone)

told_all : (uids : List ℕ) (rows : List Row) → uids_after true (comparisons uids rows) ++ row_uids (new_rows uids rows) ≡ row_uids rows
told_all [] rows = refl
told_all (u ∷ uids) [] = told_all uids []
told_all (u ∷ uids) (r ∷ rows) = by (eqb u r.uid) (told_all uids rows) (told_all uids (r ∷ rows))
  where
    by : (b : Bool) → uids_after true (comparisons uids rows) ++ row_uids (new_rows uids rows) ≡ row_uids rows → uids_after true (comparisons uids (r ∷ rows)) ++ row_uids (new_rows uids (r ∷ rows)) ≡ row_uids (r ∷ rows)
        → uids_after true (cond b (Present r ∷ comparisons uids rows) (Expunged u ∷ comparisons uids (r ∷ rows))) ++ row_uids (cond b (new_rows uids rows) (new_rows uids (r ∷ rows))) ≡ row_uids (r ∷ rows)
    by true there gone = ap (λ l. r.uid ∷ l) there
    by false there gone = gone

pub told_is_there : ToldIsThere
told_is_there uids rows = told_all uids rows

pub kept_brought : (c : Content) (up_to : ℕ) (known : List KnownMessage) → IsOrdered c → IsBrought up_to known c → IsBrought (highest_in c) (kept_with known c.rows) c
kept_brought c up_to known ordered h = record {
  before = omega arith;
  uids = rises_kept up_to first_uid c.next known c.rows h.agree h.uids ordered.uids;
  told = told_by_kept (highest_in c) known c.rows (told_by_more up_to (highest_in c) known h.before h.told) ordered.numbers;
  agree = agree_kept up_to (highest_in c) known c.rows h.agree;
}

pub told_is_brought : (c : Content) (expunges : Bool) (up_to : ℕ) (uids : List ℕ) → IsOrdered c → IsBroughtByUid up_to uids c
    → IsBroughtByUid (highest_in c) (known_after expunges uids c.rows) c
told_is_brought c expunges up_to uids ordered h = by expunges
  where
    by : (b : Bool) → IsBroughtByUid (highest_in c) (known_after b uids c.rows) c
    by true = subst (λ l. IsBroughtByUid (highest_in c) l c) (sym (told_is_there uids c.rows)) (all_told_by_uid c ordered)
    by false = record {
      messages = kept_with h.messages c.rows;
      known = kept_uids h.messages c.rows ∙ ap (λ us. known_after false us c.rows) h.known;
      brought = kept_brought c up_to h.messages ordered h.brought;
    }

pub notices_keep_in_step : NoticesKeepInStep
notices_keep_in_step expunges up_to highest uids rows c h = record {
  shows = h.shows;
  ends = h.ends;
  ordered = h.ordered;
  brought = subst (λ n. IsBroughtByUid n (known_after expunges uids rows) c) h.ends
      (subst (λ rs. IsBroughtByUid (highest_in c) (known_after expunges uids rs) c) h.shows (told_is_brought c expunges up_to uids h.ordered h.brought));
  few = h.few;
}
