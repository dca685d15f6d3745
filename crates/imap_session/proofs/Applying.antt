-- Changes of a known list that notices make.
use Rattle.std.proofs.Common.{◌≡◌, ℕ, ◌+◌, ◌<◌, ◌≤◌, not, ◌||◌, Bool, true, false, cond, List, [], ◌∷◌, ◌++◌, refl, sym, ap, subst, ◌∙◌, arith}
use Rattle.std.proofs.lemmas.Bool.{ne_eqb, eq-eqb}
use Rattle.imap_mailbox.specs.Rows.{Row, is_among, first_uid}
use Rattle.imap_mailbox.specs.Lent.{row_uids}
use Rattle.imap_mailbox.specs.Summary.{Rises, AreRising}
use Rattle.imap_session.specs.Compared.{Comparison, Expunged, Present, comparisons, known_after, new_rows, uids_after}
use Rattle.imap_session.specs.Delta.{applied, without_uids}
use Rattle.imap_session.specs.Held.{UidsRise, uid_limit}
use Rattle.imap_session.specs.declared.options.NoticeOptions.{NoticeOptions}
use Rattle.imap_session.specs.Notices.{expunged_uids}
use Rattle.imap_session.proofs.Matching.{expunged_rise, known_is, not_below}

-- a UID before all others
without_first : (low high uid : ℕ) (gone us : List ℕ) → Rises low high us → uid < low → without_uids (uid ∷ gone) us ≡ without_uids gone us
without_first low high uid gone [] h lt = refl
without_first low high uid gone (u ∷ us) h lt =
    let first : low ≤ u = h.0 in
    (λ i. cond (not (ne_eqb uid u (λ e. omega arith) i || is_among u gone)) (u ∷ without_uids (uid ∷ gone) us) (without_uids (uid ∷ gone) us))
    ∙ (λ i. cond (not (is_among u gone)) (u ∷ without_first (u + 1) high uid gone us h.1 (omega arith) i) (without_first (u + 1) high uid gone us h.1 (omega arith) i))

leaves : (low high : ℕ) (cs : List Comparison) → Rises low high (uids_after false cs) → without_uids (expunged_uids cs) (uids_after false cs) ≡ uids_after true cs
leaves low high [] h = refl
leaves low high (Expunged u ∷ cs) h =
    (λ i. cond (not (eq-eqb u u refl i || is_among u (expunged_uids cs))) (u ∷ without_uids (u ∷ expunged_uids cs) (uids_after false cs)) (without_uids (u ∷ expunged_uids cs) (uids_after false cs)))
    ∙ without_first (u + 1) high u (expunged_uids cs) (uids_after false cs) h.1 (omega arith)
    ∙ leaves (u + 1) high cs h.1
leaves low high (Present r ∷ cs) h =
    (λ i. cond (not (not_below (r.uid + 1) high r.uid cs h.1 (omega arith) i)) (r.uid ∷ without_uids (expunged_uids cs) (uids_after false cs)) (without_uids (expunged_uids cs) (uids_after false cs)))
    ∙ ap (λ l. r.uid ∷ l) (leaves (r.uid + 1) high cs h.1)

pub without_none : (us : List ℕ) → without_uids [] us ≡ us
without_none [] = refl
without_none (u ∷ us) = ap (λ l. u ∷ l) (without_none us)

pub changes_are_applied : (o : NoticeOptions) (uids : List ℕ) (rows : List Row) → AreRising uids
    → applied (cond o.expunges (expunged_uids (comparisons uids rows)) []) (row_uids (new_rows uids rows)) uids ≡ known_after o.expunges uids rows
changes_are_applied o uids rows h = ap (λ l. l ++ row_uids (new_rows uids rows)) (by o.expunges)
  where
    by : (b : Bool) → without_uids (cond b (expunged_uids (comparisons uids rows)) []) uids ≡ uids_after b (comparisons uids rows)
    by true =
        ap (without_uids (expunged_uids (comparisons uids rows))) (sym (known_is uids rows))
        ∙ leaves h.0 h.1 (comparisons uids rows) (subst (Rises h.0 h.1) (sym (known_is uids rows)) h.2)
    by false = without_none uids ∙ sym (known_is uids rows)

-- those that leave rise
pub leavers_rise : (may : Bool) (uids : List ℕ) (rows : List Row) → UidsRise uids → AreRising (cond may (expunged_uids (comparisons uids rows)) [])
leavers_rise true uids rows h =
    (first_uid, uid_limit, expunged_rise first_uid uid_limit (comparisons uids rows) (subst (Rises first_uid uid_limit) (sym (known_is uids rows)) h))
leavers_rise false uids rows h = (0, 0, omega arith)
