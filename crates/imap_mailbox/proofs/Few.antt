-- How many changes are kept.
use Rattle.std.proofs.Common.{◌≡◌, ℕ, ◌+◌, ◌-◌, ◌<◌, ◌≤◌, eqb, Bool, true, false, cond, ◌&&◌, ◌||◌, List, [], ◌∷◌, length, refl, sym, ap, subst, ◌∙◌, arith, ⊎_elim}
use Rattle.std.proofs.lemmas.Bool.{cases_lt, eqb-true, eq-eqb}
use Rattle.imap_mailbox.specs.declared.kept_change.KeptChange.{KeptChange}
use Rattle.imap_mailbox.specs.KeptRows.{runs_on, is_overtaken, shortened, AreKept}
use Rattle.imap_mailbox.specs.KeptLaws.{AreOf, FewAreKept}
use Rattle.imap_mailbox.specs.Rows.{is_among}

-- the last changes of messages, and the last of runs
abbrev lasts : List KeptChange → ℕ
lasts [] = 0
lasts (k ∷ kept) = cond (is_overtaken k.uid kept) (lasts kept) (1 + lasts kept)

abbrev runs : List KeptChange → ℕ
runs [] = 0
runs (k ∷ kept) = cond (runs_on k kept) (runs kept) (1 + runs kept)

short_most : (kept : List KeptChange) → length (shortened kept) ≤ lasts kept + runs kept
short_most [] = omega arith
short_most (k ∷ kept) = by (runs_on k kept) (is_overtaken k.uid kept) (short_most kept)
  where
    by : (a b : Bool) → length (shortened kept) ≤ lasts kept + runs kept
        → length (cond (a && b) (shortened kept) (k ∷ shortened kept)) ≤ cond b (lasts kept) (1 + lasts kept) + cond a (runs kept) (1 + runs kept)
    by true true h = h
    by true false h = omega (arith, h)
    by false true h = omega (arith, h)
    by false false h = omega (arith, h)

-- ---- the runs

runs_most : (kept : List KeptChange) (done low high : ℕ) → AreKept done low high kept → low ≤ high + 1 → runs kept ≤ high + 1 - low
runs_most [] done low high h le = omega arith
runs_most (k ∷ []) done low high h le =
    let after = h.0.after in
    let within = h.0.within in
    omega (arith, after, within)
runs_most (k ∷ n ∷ kept) done low high h le =
    let after = h.0.after in
    let next = h.1.0.after in
    let within = h.1.0.within in
    let same = runs_most (n ∷ kept) (k.place + 1) k.before high h.1 (omega (arith, next, within)) in
    let more = runs_most (n ∷ kept) (k.place + 1) n.before high (record { place = h.1.0.place; few = h.1.0.few; after = omega arith; within = within }, h.1.1) (omega (arith, within)) in
    by (eqb n.before k.before) refl (omega (arith, same, after)) (λ lt. omega (arith, more, after, lt, within))
  where
    by : (t : Bool) → eqb n.before k.before ≡ t → runs (n ∷ kept) ≤ high + 1 - low → (k.before < n.before → 1 + runs (n ∷ kept) ≤ high + 1 - low)
        → cond t (runs (n ∷ kept)) (1 + runs (n ∷ kept)) ≤ high + 1 - low
    by true e same more = same
    by false e same more = ⊎_elim (λ (lt : k.before < n.before). more lt)
        (λ (ge : n.before ≤ k.before). absurd (let z : true ≡ false = sym (eq-eqb n.before k.before (let next = h.1.0.after in omega (arith, next, ge))) ∙ e in cc z)) (cases_lt k.before n.before)

-- ---- the messages

-- how many of the UIDs are those of changes
abbrev had : List ℕ → List KeptChange → ℕ
had [] kept = 0
had (u ∷ uids) kept = cond (is_overtaken u kept) (1 + had uids kept) (had uids kept)

had_most : (uids : List ℕ) (kept : List KeptChange) → had uids kept ≤ length uids
had_most [] kept = omega arith
had_most (u ∷ uids) kept = by (is_overtaken u kept) (had_most uids kept)
  where
    by : (t : Bool) → had uids kept ≤ length uids → cond t (1 + had uids kept) (had uids kept) ≤ length (u ∷ uids)
    by true h = omega (arith, h)
    by false h = omega (arith, h)

had_more : (uids : List ℕ) (k : KeptChange) (kept : List KeptChange) → had uids kept ≤ had uids (k ∷ kept)
had_more [] k kept = omega arith
had_more (u ∷ uids) k kept = by (eqb k.uid u) (is_overtaken u kept) (had_more uids k kept)
  where
    by : (a b : Bool) → had uids kept ≤ had uids (k ∷ kept) → cond b (1 + had uids kept) (had uids kept) ≤ cond (a || b) (1 + had uids (k ∷ kept)) (had uids (k ∷ kept))
    by true true h = omega (arith, h)
    by true false h = omega (arith, h)
    by false true h = omega (arith, h)
    by false false h = h

had_one : (uids : List ℕ) (k : KeptChange) (kept : List KeptChange) → is_among k.uid uids ≡ true → is_overtaken k.uid kept ≡ false → 1 + had uids kept ≤ had uids (k ∷ kept)
had_one [] k kept e none = absurd (cc e)
had_one (u ∷ uids) k kept e none = by (eqb u k.uid) refl (is_overtaken u kept) refl e (had_more uids k kept) (λ f. had_one uids k kept f none)
  where
    by : (a : Bool) → eqb u k.uid ≡ a → (b : Bool) → is_overtaken u kept ≡ b → (a || is_among k.uid uids) ≡ true → had uids kept ≤ had uids (k ∷ kept)
        → (is_among k.uid uids ≡ true → 1 + had uids kept ≤ had uids (k ∷ kept))
        → 1 + cond b (1 + had uids kept) (had uids kept) ≤ cond (eqb k.uid u || b) (1 + had uids (k ∷ kept)) (had uids (k ∷ kept))
    by true same true there e more one = absurd (let z : true ≡ false = sym there ∙ ap (λ v. is_overtaken v kept) (eqb-true u k.uid same) ∙ none in cc z)
    by true same false there e more one =
        subst (λ t. 1 + had uids kept ≤ cond (t || false) (1 + had uids (k ∷ kept)) (had uids (k ∷ kept))) (sym (eq-eqb k.uid u (sym (eqb-true u k.uid same)))) (omega (arith, more))
    by false other b there e more one = last (eqb k.uid u) b (one e)
      where
        last : (t b : Bool) → 1 + had uids kept ≤ had uids (k ∷ kept) → 1 + cond b (1 + had uids kept) (had uids kept) ≤ cond (t || b) (1 + had uids (k ∷ kept)) (had uids (k ∷ kept))
        last true true h = omega (arith, h)
        last true false h = omega (arith, h)
        last false true h = omega (arith, h)
        last false false h = h

lasts_most : (kept : List KeptChange) (uids : List ℕ) → AreOf uids kept → lasts kept ≤ had uids kept
lasts_most [] uids h = omega arith
lasts_most (k ∷ kept) uids h = by (is_overtaken k.uid kept) refl (lasts_most kept uids h.1)
  where
    by : (t : Bool) → is_overtaken k.uid kept ≡ t → lasts kept ≤ had uids kept → cond t (lasts kept) (1 + lasts kept) ≤ had uids (k ∷ kept)
    by true e rest = omega (arith, rest, had_more uids k kept)
    by false e rest = omega (arith, rest, had_one uids k kept h.0 e)

pub few_are_kept : FewAreKept
few_are_kept kept uids shared h of =
    omega (arith, short_most kept, runs_most kept 0 0 shared h (omega arith), lasts_most kept uids of, had_most uids kept)
