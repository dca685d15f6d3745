-- Sessions that have nothing to be told.
use Rattle.std.proofs.Common.{◌≡◌, ℕ, ◌+◌, ◌<◌, ◌≤◌, ◌⊎◌, inl, inr, eqb, not, ◌||◌, Bool, true, false, cond, MatchBool, List, [], ◌∷◌, ◌++◌, length, refl, sym, ap, subst, ◌∙◌, arith, ⊎_elim}
use Rattle.std.proofs.lemmas.Bool.{true≢false}
use Rattle.std.proofs.lemmas.List.{append-nil}
use Rattle.imap_mailbox.specs.Rows.{Row, is_among}
use Rattle.imap_mailbox.specs.Lent.{row_uids}
use Rattle.imap_mailbox.specs.Order.{AreAtMost}
use Rattle.imap_mailbox.specs.Shown.{Content}
use Rattle.imap_mailbox.specs.Brought.{told_of, highest_in}
use Rattle.imap_session.specs.ByUid.{AgreeByUid}
use Rattle.imap_session.specs.declared.options.NoticeOptions.{NoticeOptions}
use Rattle.imap_session.specs.Compared.{Comparison, Expunged, Present, comparisons, new_rows, uids_after, known_after, any_changed, is_known}
use Rattle.imap_session.specs.Notices.{fetch_line, expunge_lines, expunged_uids, vanished_line, exists_line, fetch_lines, expunge_notices, notices}
use Rattle.imap_session.specs.InStep.{IsInStep, NoneHeldBack, InStepIsQuiet}
use Rattle.imap_session.proofs.ByUid.{agree_of}
use Rattle.imap_session.proofs.Matching.{known_is, low_known}

-- a session that was told all up to the highest mod-sequence knows all that is there
pub record KnowsAll (up_to : ℕ) (uids : List ℕ) (rows : List Row) : Type 0 where
  pub none_new : new_rows uids rows ≡ []
  pub all_known : any_changed up_to (comparisons uids rows) ≡ false
  pub gone : length uids ≡ length rows → expunged_uids (comparisons uids rows) ≡ []
  pub stays : (may : Bool) → NoneHeldBack may uids rows → known_after may uids rows ≡ uids

none_new : (n : ℕ) (uids : List ℕ) (rows : List Row) → AreAtMost n rows → AgreeByUid n uids rows → new_rows uids rows ≡ []
none_new n [] [] most h = refl
none_new n [] (r ∷ rows) most h = absurd (omega (arith, most.0, h.0))
none_new n (u ∷ uids) [] most h = none_new n uids [] most h
none_new n (u ∷ uids) (r ∷ rows) most h = by (eqb u r.uid) (none_new n uids rows most.1) (none_new n uids (r ∷ rows) most) h
  where
    by : (b : Bool) → (AgreeByUid n uids rows → new_rows uids rows ≡ []) → (AgreeByUid n uids (r ∷ rows) → new_rows uids (r ∷ rows) ≡ [])
        → MatchBool b (AgreeByUid n uids rows) ((u < r.uid) × AgreeByUid n uids (r ∷ rows))
        → cond b (new_rows uids rows) (new_rows uids (r ∷ rows)) ≡ []
    by true there gone h = there h
    by false there gone h = gone h.1

pub all_known : (n : ℕ) (uids : List ℕ) (rows : List Row) → AreAtMost n rows → any_changed n (comparisons uids rows) ≡ false
all_known n [] rows most = refl
all_known n (u ∷ uids) [] most = all_known n uids [] most
all_known n (u ∷ uids) (r ∷ rows) most = by (eqb u r.uid) (all_known n uids rows most.1) (all_known n uids (r ∷ rows) most)
  where
    by : (b : Bool) → any_changed n (comparisons uids rows) ≡ false → any_changed n (comparisons uids (r ∷ rows)) ≡ false
        → any_changed n (cond b (Present r ∷ comparisons uids rows) (Expunged u ∷ comparisons uids (r ∷ rows))) ≡ false
    by true there gone = (λ i. not (low_known n r most.0 i) || any_changed n (comparisons uids rows)) ∙ there
    by false there gone = gone

-- what is known is gone or there
counted : (uids : List ℕ) (rows : List Row) → length (expunged_uids (comparisons uids rows)) + length rows ≡ length uids + length (new_rows uids rows)
counted [] rows = refl
counted (u ∷ uids) [] = let rest = counted uids [] in omega (arith, rest)
counted (u ∷ uids) (r ∷ rows) = by (eqb u r.uid) (counted uids rows) (counted uids (r ∷ rows))
  where
    by : (b : Bool) → length (expunged_uids (comparisons uids rows)) + length rows ≡ length uids + length (new_rows uids rows)
        → length (expunged_uids (comparisons uids (r ∷ rows))) + length (r ∷ rows) ≡ length uids + length (new_rows uids (r ∷ rows))
        → length (expunged_uids (cond b (Present r ∷ comparisons uids rows) (Expunged u ∷ comparisons uids (r ∷ rows)))) + length (r ∷ rows) ≡ length (u ∷ uids) + length (cond b (new_rows uids rows) (new_rows uids (r ∷ rows)))
    by true there gone = omega (arith, there)
    by false there gone = omega (arith, gone)

pub told_same : (cs : List Comparison) → expunged_uids cs ≡ [] → uids_after true cs ≡ uids_after false cs
told_same [] e = refl
told_same (Expunged u ∷ cs) e = absurd (cc e)
told_same (Present r ∷ cs) e = ap (λ l. r.uid ∷ l) (told_same cs e)

nil_of : (us : List ℕ) → length us ≡ 0 → us ≡ []
nil_of [] e = refl
nil_of (u ∷ us) e = absurd (omega arith)

pub quiet_by : (n : ℕ) (uids : List ℕ) (rows : List Row) → AreAtMost n rows → AgreeByUid n uids rows → KnowsAll n uids rows
quiet_by n uids rows most h = record {
  none_new = new;
  all_known = all_known n uids rows most;
  gone = gone;
  stays = λ may quiet. (λ i. uids_after may (comparisons uids rows) ++ row_uids (new i)) ∙ append-nil (uids_after may (comparisons uids rows)) ∙ by may quiet;
}
  where
    new : new_rows uids rows ≡ []
    new = none_new n uids rows most h

    gone : length uids ≡ length rows → expunged_uids (comparisons uids rows) ≡ []
    gone same = let count = counted uids rows in let none = ap length new in nil_of (expunged_uids (comparisons uids rows)) (omega (arith, count, none, same))

    by : (may : Bool) → (may ≡ false) ⊎ (length uids ≡ length rows) → uids_after may (comparisons uids rows) ≡ uids
    by false quiet = known_is uids rows
    by true quiet = ⊎_elim (λ f. absurd (cc f)) (λ same. told_same (comparisons uids rows) (gone same) ∙ known_is uids rows) quiet

-- ---- the lines of such a session

or_parts : (a b : Bool) → (a || b) ≡ false → (a ≡ false) × (b ≡ false)
or_parts true b e = absurd (cc e)
or_parts false b e = (refl, e)

or_right : (a b : Bool) → b ≡ true → (a || b) ≡ true
or_right true b e = refl
or_right false b e = e

not_false : (b : Bool) → not b ≡ false → b ≡ true
not_false true e = refl
not_false false e = absurd (cc e)

pub no_fetches : (o : NoticeOptions) (up_to : ℕ) (told : List ℕ) (n : ℕ) (cs : List Comparison) → any_changed up_to cs ≡ false → fetch_lines o up_to told n cs ≡ []
no_fetches o up_to told n [] h = refl
no_fetches o up_to told n (Expunged u ∷ cs) h = by o.expunges (no_fetches o up_to told n cs h) (no_fetches o up_to told (n + 1) cs h)
  where
    by : (b : Bool) → fetch_lines o up_to told n cs ≡ [] → fetch_lines o up_to told (n + 1) cs ≡ [] → cond b (fetch_lines o up_to told n cs) (fetch_lines o up_to told (n + 1) cs) ≡ []
    by true x y = x
    by false x y = y
no_fetches o up_to told n (Present r ∷ cs) h =
    let parts = or_parts (not (is_known up_to r)) (any_changed up_to cs) h in
    ap (λ b. cond b (fetch_lines o up_to told (n + 1) cs) (fetch_line o n (told_of r) ∷ fetch_lines o up_to told (n + 1) cs))
    (or_right (is_among r.uid told) (is_known up_to r) (not_false (is_known up_to r) parts.0))
    ∙ no_fetches o up_to told (n + 1) cs parts.1

no_gone : (n : ℕ) (cs : List Comparison) → expunged_uids cs ≡ [] → expunge_lines n cs ≡ []
no_gone n [] e = refl
no_gone n (Expunged u ∷ cs) e = absurd (cc e)
no_gone n (Present r ∷ cs) e = no_gone (n + 1) cs e

pub quiet_lines : (o : NoticeOptions) (up_to : ℕ) (told uids : List ℕ) (rows : List Row) → new_rows uids rows ≡ [] → any_changed up_to (comparisons uids rows) ≡ false
    → (o.expunges ≡ true → expunged_uids (comparisons uids rows) ≡ []) → notices o up_to told uids rows ≡ []
quiet_lines o up_to told uids rows new there gone =
    (λ i. none i ++ (exists_line (length (known_after o.expunges uids rows)) (new i) ++ no_fetches o up_to told 1 (comparisons uids rows) there i))
  where
    some : (b q : Bool) → (b ≡ true → expunged_uids (comparisons uids rows) ≡ []) → cond b (cond q (vanished_line (expunged_uids (comparisons uids rows))) (expunge_lines 1 (comparisons uids rows))) [] ≡ []
    some false q gone = refl
    some true true gone = ap vanished_line (gone refl)
    some true false gone = no_gone 1 (comparisons uids rows) (gone refl)

    none : expunge_notices o (comparisons uids rows) ≡ []
    none = some o.expunges o.qresync gone

pub none_gone : (may : Bool) (up_to : ℕ) (uids : List ℕ) (rows : List Row) → KnowsAll up_to uids rows → NoneHeldBack may uids rows → may ≡ true → expunged_uids (comparisons uids rows) ≡ []
none_gone may up_to uids rows h (inl f) t = absurd (true≢false (sym t ∙ f))
none_gone may up_to uids rows h (inr same) t = h.gone same

pub at_most_more : (n m : ℕ) (rows : List Row) → n ≤ m → AreAtMost n rows → AreAtMost m rows
at_most_more n m [] le h = tt
at_most_more n m (r ∷ rows) le h = let first : r.number ≤ n = h.0 in (omega arith, at_most_more n m rows le h.1)

pub knows_all : (up_to highest : ℕ) (uids : List ℕ) (rows : List Row) (c : Content) → IsInStep up_to highest uids rows c → highest ≤ up_to → KnowsAll up_to uids rows
knows_all up_to highest uids rows c h le =
    subst (KnowsAll up_to uids) h.shows (quiet_by up_to uids c.rows (at_most_more (highest_in c) up_to c.rows (omega (arith, h.ends, le)) h.ordered.numbers) (agree_of up_to uids c h.brought))

pub in_step_is_quiet : InStepIsQuiet
in_step_is_quiet o up_to highest uids rows c h le quiet =
    let all = knows_all up_to highest uids rows c h le in
    record {
      lines = λ told. quiet_lines o up_to told uids rows all.none_new all.all_known (none_gone o.expunges up_to uids rows all quiet);
      list = all.stays o.expunges quiet;
      changed = all.all_known;
    }
