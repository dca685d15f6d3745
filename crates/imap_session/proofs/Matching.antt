-- Known UIDs beside the rows that have them.
use Rattle.std.proofs.Common.{◌≡◌, ℕ, ◌+◌, ◌<◌, ◌≤◌, eqb, ltb, not, ◌||◌, Bool, true, false, cond, List, [], ◌∷◌, refl, sym, ap, ◌∙◌, arith}
use Rattle.std.proofs.lemmas.Bool.{ne_eqb, eqb-true, ltb-false, le-ltb}
use Rattle.imap_mailbox.specs.Rows.{Row, is_among}
use Rattle.imap_mailbox.specs.Summary.{Rises}
use Rattle.imap_mailbox.proofs.Rising.{rises_lower}
use Rattle.imap_session.specs.Compared.{Comparison, Expunged, Present, comparisons, uids_after, is_known}
use Rattle.imap_session.specs.Notices.{expunged_uids}

-- if expunged messages stay, all do
pub known_is : (uids : List ℕ) (rows : List Row) → uids_after false (comparisons uids rows) ≡ uids
known_is [] rows = refl
known_is (u ∷ uids) [] = ap (λ l. u ∷ l) (known_is uids [])
known_is (u ∷ uids) (r ∷ rows) = by (eqb u r.uid) refl (known_is uids rows) (known_is uids (r ∷ rows))
  where
    by : (b : Bool) → eqb u r.uid ≡ b → uids_after false (comparisons uids rows) ≡ uids → uids_after false (comparisons uids (r ∷ rows)) ≡ uids
        → uids_after false (cond b (Present r ∷ comparisons uids rows) (Expunged u ∷ comparisons uids (r ∷ rows))) ≡ u ∷ uids
    by true is there gone = λ i. sym (eqb-true u r.uid is) i ∷ there i
    by false is there gone = ap (λ l. u ∷ l) gone

-- no expunged UID is below `low`
pub not_below : (low high uid : ℕ) (cs : List Comparison) → Rises low high (uids_after false cs) → uid < low → is_among uid (expunged_uids cs) ≡ false
not_below low high uid [] h lt = refl
not_below low high uid (Expunged u ∷ cs) h lt =
    let first : low ≤ u = h.0 in
    (λ i. ne_eqb u uid (λ e. omega arith) i || is_among uid (expunged_uids cs)) ∙ not_below (u + 1) high uid cs h.1 (omega arith)
not_below low high uid (Present r ∷ cs) h lt = let first : low ≤ r.uid = h.0 in not_below (r.uid + 1) high uid cs h.1 (omega arith)

pub expunged_rise : (low high : ℕ) (cs : List Comparison) → Rises low high (uids_after false cs) → Rises low high (expunged_uids cs)
expunged_rise low high [] h = h
expunged_rise low high (Expunged u ∷ cs) h = (h.0, expunged_rise (u + 1) high cs h.1)
expunged_rise low high (Present r ∷ cs) h =
    let first : low ≤ r.uid = h.0 in rises_lower (r.uid + 1) low high (expunged_uids cs) (omega arith) (expunged_rise (r.uid + 1) high cs h.1)

-- ---- what is known of a row

not_of_false : (b : Bool) → not b ≡ true → b ≡ false
not_of_false true e = absurd (cc e)
not_of_false false e = refl

pub known_low : (n : ℕ) (r : Row) → is_known n r ≡ true → r.number ≤ n
known_low n r e = ltb-false n r.number (not_of_false (ltb n r.number) e)

pub low_known : (n : ℕ) (r : Row) → r.number ≤ n → is_known n r ≡ true
low_known n r le = ap not (le-ltb n r.number le)
