-- Known messages that stayed as they are, which are passed at once.
use Rattle.std.proofs.Common.{◌≡◌, ℕ, zero, suc, ◌+◌, ◌<◌, ◌≤◌, MatchBool, List, [], ◌∷◌, length, take, drop, get_or, sym, ap, refl, subst, ◌∙◌, arith}
use Rattle.std.proofs.lemmas.Bool.{eq-eqb}
use Rattle.std.proofs.lemmas.List.{drop-drop, drop_more, length-drop}
use Rattle.imap_mailbox.specs.Rows.{Row}
use Rattle.imap_mailbox.specs.Lent.{row_uids}
use Rattle.imap_mailbox.specs.Order.{AreAtMost}
use Rattle.imap_session.specs.ByUid.{AgreeByUid}
use Rattle.imap_session.specs.declared.options.NoticeOptions.{NoticeOptions}
use Rattle.imap_session.specs.declared.walk.Walk.{Walk}
use Rattle.imap_session.specs.Cursors.{IsKnownRun}
use Rattle.imap_session.specs.Walked.{finished, Passes, PassesTo}
use Rattle.imap_session.proofs.Matching.{low_known}
use Rattle.imap_session.proofs.Walking.{none_changed, passes_present}

-- ---- one known list and its rows

-- the first known UID and the first row, of a run
record IsFirst (u : ℕ) (r : Row) (m : ℕ) (uids : List ℕ) (rows : List Row) : Type 0 where
  same : u ≡ r.uid
  rest : take m uids ≡ row_uids (take m rows)

first_of : (u : ℕ) (r : Row) (m : ℕ) (uids : List ℕ) (rows : List Row)
    → take (suc m) (u ∷ uids) ≡ row_uids (take (suc m) (r ∷ rows)) → IsFirst u r m uids rows
first_of u r m uids rows e = record { same = cc e; rest = cc e }

agree_after : (n m : ℕ) (uids : List ℕ) (rows : List Row) → m ≤ length uids → take m uids ≡ row_uids (take m rows)
    → AgreeByUid n uids rows → AgreeByUid n (drop m uids) (drop m rows)
agree_after n zero uids rows le e h = h
agree_after n (suc m) [] rows le e h = absurd (omega (arith, le))
agree_after n (suc m) (u ∷ uids) [] le e h = absurd (cc e)
agree_after n (suc m) (u ∷ uids) (r ∷ rows) le e h =
    let first = first_of u r m uids rows e in
    agree_after n m uids rows (omega (arith, le)) first.rest
    (subst (λ b. MatchBool b (AgreeByUid n uids rows) ((u < r.uid) × AgreeByUid n uids (r ∷ rows))) (eq-eqb u r.uid first.same) h)

moved : (told : List ℕ) (o : NoticeOptions) (up_to n m : ℕ) (w : Walk) (uids : List ℕ) (rows : List Row) → n ≡ m
    → finished told o up_to (record w { number = n }) uids rows ≡ finished told o up_to (record w { number = m }) uids rows
moved told o up_to n m w uids rows same = λ j. finished told o up_to (record w { number = same j }) uids rows

found_after : (told : List ℕ) (o : NoticeOptions) (n m : ℕ) (uids : List ℕ) (rows : List Row) (w : Walk) → m ≤ length uids
    → take m uids ≡ row_uids (take m rows) → AreAtMost n (take m rows)
    → finished told o n (record w { number = w.number + m }) (drop m uids) (drop m rows) ≡ finished told o n w uids rows
found_after told o n zero uids rows w le e low = moved told o n (w.number + 0) w.number w uids rows (omega arith)
found_after told o n (suc m) [] rows w le e low = absurd (omega (arith, le))
found_after told o n (suc m) (u ∷ uids) [] w le e low = absurd (cc e)
found_after told o n (suc m) (u ∷ uids) (r ∷ rows) w le e low =
    let first = first_of u r m uids rows e in
    let one = passes_present told o n u (r ∷ rows) rows r rows w w refl refl first.same (none_changed told o n r w (low_known n r low.0)) in
    moved told o n (w.number + suc m) (w.number + 1 + m) w (drop m uids) (drop m rows) (omega arith)
    ∙ found_after told o n m uids rows (record w { number = w.number + 1 }) (omega (arith, le)) first.rest low.1
    ∙ one.finds uids

-- ---- from a place on

pub known_from : (uids : List ℕ) (p u : ℕ) → p < length uids → u ≡ get_or uids p u → drop p uids ≡ u ∷ drop (p + 1) uids
known_from uids p u lt is = drop_more uids p u lt ∙ ap (λ x. x ∷ drop (p + 1) uids) (sym is)

pub passes_run : (told : List ℕ) (o : NoticeOptions) (n p m : ℕ) (uids : List ℕ) (rows left : List Row) (w : Walk) → 0 < m
    → IsKnownRun n m (drop p uids) rows → left ≡ drop m rows → AgreeByUid n (drop p uids) rows → p < length uids → w.number ≤ p + 1
    → PassesTo told o n p (p + m) uids rows left w (record w { number = w.number + m })
passes_run told o n p m uids rows left w some run is agree there number = record {
  more = omega (arith, some);
  within = omega (arith, run.few, length-drop p uids, there);
  finds = (λ j. finished told o n (record w { number = w.number + m }) (sym (drop-drop m p uids) j) (is j)) ∙ found_after told o n m (drop p uids) rows w run.few run.same run.low;
  agree = subst (AgreeByUid n (drop (p + m) uids)) (sym is) (subst (λ l. AgreeByUid n l (drop m rows)) (drop-drop m p uids) (agree_after n m (drop p uids) rows run.few run.same agree));
  number = omega (arith, number);
}

pub passes_to_next : (told : List ℕ) (o : NoticeOptions) (n p : ℕ) (uids : List ℕ) (u : ℕ) (rows left : List Row) (old new : Walk) → p < length uids
    → u ≡ get_or uids p u → AgreeByUid n (drop p uids) rows → old.number ≤ p + 1 → Passes told o n u rows left old new
    → PassesTo told o n p (p + 1) uids rows left old new
passes_to_next told o n p uids u rows left old new lt is agree number passed = record {
  more = omega arith;
  within = omega (arith, lt);
  finds = passed.finds (drop (p + 1) uids) ∙ ap (λ l. finished told o n old l rows) (sym (known_from uids p u lt is));
  agree = passed.agree (drop (p + 1) uids) (subst (λ l. AgreeByUid n l rows) (known_from uids p u lt is) agree);
  number = omega (arith, passed.number, number);
}
