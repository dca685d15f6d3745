-- A walk along known UIDs and rows.
use Rattle.std.proofs.Common.{◌≡◌, ℕ, suc, Result, Ok, Err, OnOk, ◌+◌, ◌<◌, ◌≤◌, eqb, ltb, not, ◌&&◌, ◌||◌, Bool, true, false, cond, MatchBool, List, [], ◌∷◌, ◌++◌, length, drop, refl, sym, ap, subst, ◌∙◌, arith}
use Rattle.std.proofs.lemmas.Bool.{eq-eqb, eqb-true, ltb-true, ltb-false, lt-ltb, and_parts}
use Rattle.std.specs.declared.alloc.AllocError.{AllocError}
use Rattle.std.proofs.lemmas.List.{append_assoc, append-nil}
use Rattle.imap_print.specs.declared.response.Response.{Response}
use Rattle.imap_print.specs.declared.response.Response.TheVariants as response
use Rattle.imap_mailbox.specs.Rows.{Row, is_among}
use Rattle.imap_mailbox.specs.Brought.{told_of}
use Rattle.imap_session.specs.ByUid.{AgreeByUid}
use Rattle.imap_session.specs.declared.options.NoticeOptions.{NoticeOptions}
use Rattle.imap_session.specs.declared.walk.Walk.{Walk}
use Rattle.imap_session.specs.Compared.{Comparison, Expunged, Present, comparisons, new_rows, uids_after, any_changed, is_known}
use Rattle.imap_session.specs.Notices.{expunge_lines, expunged_uids, fetch_line, fetch_lines}
use Rattle.imap_session.specs.Cursors.{is_next, is_unchanged}
use Rattle.imap_session.specs.Walked.{Findings, collected, by_number, by_uid, finished, found, Passes, PassesChanged, PassesExpunged}
use Rattle.imap_session.proofs.Matching.{low_known}

-- ---- lists that are collected

collect_step : {X : Type 0} (b : Bool) (front : List X) (x : X) (rest : List X) → (front ++ collected b (x ∷ [])) ++ collected b rest ≡ front ++ collected b (x ∷ rest)
collect_step true front x rest = append_assoc front (x ∷ []) rest
collect_step false front x rest = append-nil (front ++ [])

pub choose_step : {X : Type 0} (b : Bool) (front : List X) (x : X) (rest : List X) → (front ++ collected (not b) (x ∷ [])) ++ rest ≡ front ++ cond b rest (x ∷ rest)
choose_step true front x rest = ap (λ l. l ++ rest) (append-nil front)
choose_step false front x rest = append_assoc front (x ∷ []) rest

told_step : {X : Type 0} (t b : Bool) (front : List X) (x : X) (rest : List X) → (front ++ collected (not t && not b) (x ∷ [])) ++ rest ≡ front ++ cond (t || b) rest (x ∷ rest)
told_step true b front x rest = ap (λ l. l ++ rest) (append-nil front)
told_step false b front x rest = choose_step b front x rest

number_step : {X : Type 0} (b q : Bool) (n : ℕ) (front : List X) (x : X) (rest : ℕ → List X)
    → (front ++ collected (b && not q) (x ∷ [])) ++ collected (b && not q) (rest (cond b n (n + 1))) ≡ front ++ collected (b && not q) (x ∷ rest n)
number_step true q n front x rest = collect_step (not q) front x (rest n)
number_step false q n front x rest = append-nil (front ++ [])

collected_none : {X : Type 0} (b : Bool) (front : List X) → front ++ collected b [] ≡ front
collected_none true front = append-nil front
collected_none false front = append-nil front

or_assoc : (a b d : Bool) → ((a || b) || d) ≡ (a || (b || d))
or_assoc true b d = refl
or_assoc false b d = refl

or_none : (a : Bool) → (a || false) ≡ a
or_none true = refl
or_none false = refl

or_all : (a : Bool) → (a || true) ≡ true
or_all true = refl
or_all false = refl

-- ---- one known UID

abbrev out : List ℕ → NoticeOptions → ℕ → ℕ → List ℕ → List Response → List ℕ → Bool → List Response → List Comparison → List Row → Findings
out told o up_to n gone expunges vanished changed fetches cs new = record {
  gone = gone ++ collected o.expunges (expunged_uids cs);
  expunges = expunges ++ collected (by_number o) (expunge_lines n cs);
  vanished = vanished ++ collected (by_uid o) (expunged_uids cs);
  changed = changed || any_changed up_to cs;
  fetches = fetches ++ fetch_lines o up_to told n cs;
  new = new;
  number = n + length (uids_after o.expunges cs);
}

pub longer : (n m : ℕ) → n + 1 + m ≡ n + suc m
longer n m = omega arith

after_longer : (may : Bool) (n u : ℕ) (t : List ℕ) → cond may n (n + 1) + length t ≡ n + length (cond may t (u ∷ t))
after_longer true n u t = refl
after_longer false n u t = longer n (length t)

lines_chosen : (b : Bool) (told : List ℕ) (o : NoticeOptions) (up_to n : ℕ) (cs : List Comparison)
    → fetch_lines o up_to told (cond b n (n + 1)) cs ≡ cond b (fetch_lines o up_to told n cs) (fetch_lines o up_to told (n + 1) cs)
lines_chosen true told o up_to n cs = refl
lines_chosen false told o up_to n cs = refl

expunged_out : (told : List ℕ) (o : NoticeOptions) (up_to n : ℕ) (gone : List ℕ) (expunges : List Response) (vanished : List ℕ) (changed : Bool) (fetches : List Response)
    (u : ℕ) (cs : List Comparison) (new : List Row)
    → out told o up_to (cond o.expunges n (n + 1)) (gone ++ collected o.expunges (u ∷ [])) (expunges ++ collected (by_number o) (response.Expunge n ∷ []))
    (vanished ++ collected (by_uid o) (u ∷ [])) changed fetches cs new
    ≡ out told o up_to n gone expunges vanished changed fetches (Expunged u ∷ cs) new
expunged_out told o up_to n gone expunges vanished changed fetches u cs new = λ j. record {
  gone = collect_step o.expunges gone u (expunged_uids cs) j;
  expunges = number_step o.expunges o.qresync n expunges (response.Expunge n) (λ m. expunge_lines m cs) j;
  vanished = collect_step (by_uid o) vanished u (expunged_uids cs) j;
  changed = changed || any_changed up_to cs;
  fetches = fetches ++ lines_chosen o.expunges told o up_to n cs j;
  new = new;
  number = after_longer o.expunges n u (uids_after o.expunges cs) j;
}

present_out : (told : List ℕ) (o : NoticeOptions) (up_to n : ℕ) (gone : List ℕ) (expunges : List Response) (vanished : List ℕ) (changed : Bool) (fetches : List Response)
    (r : Row) (cs : List Comparison) (new : List Row)
    → out told o up_to (n + 1) gone expunges vanished (changed || not (is_known up_to r))
    (fetches ++ collected (not (is_among r.uid told) && not (is_known up_to r)) (fetch_line o n (told_of r) ∷ [])) cs new
    ≡ out told o up_to n gone expunges vanished changed fetches (Present r ∷ cs) new
present_out told o up_to n gone expunges vanished changed fetches r cs new = λ j. record {
  gone = gone ++ collected o.expunges (expunged_uids cs);
  expunges = expunges ++ collected (by_number o) (expunge_lines (n + 1) cs);
  vanished = vanished ++ collected (by_uid o) (expunged_uids cs);
  changed = or_assoc changed (not (is_known up_to r)) (any_changed up_to cs) j;
  fetches = told_step (is_among r.uid told) (is_known up_to r) fetches (fetch_line o n (told_of r)) (fetch_lines o up_to told (n + 1) cs) j;
  new = new;
  number = longer n (length (uids_after o.expunges cs)) j;
}

-- the known message is not the first row
pub record IsGone (u : ℕ) (rows : List Row) : Type 0 where
  pub fate : (uids : List ℕ) → comparisons (u ∷ uids) rows ≡ Expunged u ∷ comparisons uids rows
  pub new : (uids : List ℕ) → new_rows (u ∷ uids) rows ≡ new_rows uids rows
  pub agree : (n : ℕ) (uids : List ℕ) → AgreeByUid n (u ∷ uids) rows → AgreeByUid n uids rows

pub gone_here : (u : ℕ) (rows : List Row) → is_next u rows ≡ false → IsGone u rows
gone_here u [] is = record { fate = λ uids. refl; new = λ uids. refl; agree = λ n uids h. h }
gone_here u (r ∷ rows) is = record {
  fate = λ uids. ap (λ b. cond b (Present r ∷ comparisons uids rows) (Expunged u ∷ comparisons uids (r ∷ rows))) is;
  new = λ uids. ap (λ b. cond b (new_rows uids rows) (new_rows uids (r ∷ rows))) is;
  agree = λ n uids h. (subst (λ b. MatchBool b (AgreeByUid n uids rows) ((u < r.uid) × AgreeByUid n uids (r ∷ rows))) is h).1;
}

number_chosen : (b : Bool) (n : ℕ) → cond b n (n + 1) ≤ n + 1
number_chosen true n = omega arith
number_chosen false n = omega arith

pub passes_expunged : (told : List ℕ) (o : NoticeOptions) (n u : ℕ) (rows : List Row) (old new : Walk) → is_next u rows ≡ false
    → PassesExpunged o u old new → Passes told o n u rows rows old new
passes_expunged told o n u rows old new is h = record {
  finds = λ uids.
      (λ j. out told o n (h.number j) (h.gone j) (h.expunges j) (h.vanished j) (h.changed j) (h.fetches j) (comparisons uids rows) (new_rows uids rows))
      ∙ expunged_out told o n old.number old.gone.items old.expunges.items old.vanished.items old.changed old.fetches u (comparisons uids rows) (new_rows uids rows)
      ∙ (λ j. out told o n old.number old.gone.items old.expunges.items old.vanished.items old.changed old.fetches (sym (gone.fate uids) j) (sym (gone.new uids) j));
  agree = λ uids a. gone.agree n uids a;
  number = omega (arith, h.number, number_chosen o.expunges old.number);
}
  where
    gone : IsGone u rows
    gone = gone_here u rows is

-- what is found of a message that is there, before its number is passed
pub record FindsPresent (told : List ℕ) (o : NoticeOptions) (up_to : ℕ) (r : Row) (old new : Walk) : Type 0 where
  gone : new.gone.items ≡ old.gone.items
  expunges : new.expunges.items ≡ old.expunges.items
  vanished : new.vanished.items ≡ old.vanished.items
  changed : new.changed ≡ (old.changed || not (is_known up_to r))
  fetches : new.fetches ≡ old.fetches ++ collected (not (is_among r.uid told) && not (is_known up_to r)) (fetch_line o old.number (told_of r) ∷ [])
  number : new.number ≡ old.number

pub passes_present : (told : List ℕ) (o : NoticeOptions) (n u : ℕ) (rows left : List Row) (r : Row) (later : List Row) (old mid : Walk)
    → rows ≡ r ∷ later → left ≡ later → u ≡ r.uid → FindsPresent told o n r old mid → Passes told o n u rows left old (record mid { number = mid.number + 1 })
passes_present told o n u rows left r later old mid is is_left same h = record {
  finds = λ uids.
      (λ j. out told o n (h.number j + 1) (h.gone j) (h.expunges j) (h.vanished j) (h.changed j) (h.fetches j) (comparisons uids (is_left j)) (new_rows uids (is_left j)))
      ∙ present_out told o n old.number old.gone.items old.expunges.items old.vanished.items old.changed old.fetches r (comparisons uids later) (new_rows uids later)
      ∙ (λ j. out told o n old.number old.gone.items old.expunges.items old.vanished.items old.changed old.fetches
      (cond (sym test j) (Present r ∷ comparisons uids later) (Expunged u ∷ comparisons uids (r ∷ later))) (cond (sym test j) (new_rows uids later) (new_rows uids (r ∷ later))))
      ∙ (λ j. out told o n old.number old.gone.items old.expunges.items old.vanished.items old.changed old.fetches (comparisons (u ∷ uids) (sym is j)) (new_rows (u ∷ uids) (sym is j)));
  agree = λ uids a. subst (AgreeByUid n uids) (sym is_left)
      (subst (λ b. MatchBool b (AgreeByUid n uids later) ((u < r.uid) × AgreeByUid n uids (r ∷ later))) test (subst (AgreeByUid n (u ∷ uids)) is a));
  number = omega (arith, h.number);
}
  where
    test : eqb u r.uid ≡ true
    test = eq-eqb u r.uid same

-- ---- the first row

pub record IsFirst (uid : ℕ) (rows : List Row) : Type 0 where
  pub row : Row
  pub later : List Row
  pub is : rows ≡ row ∷ later
  pub same : uid ≡ row.uid

pub first_is : (uid : ℕ) (rows : List Row) → is_next uid rows ≡ true → IsFirst uid rows
first_is uid [] e = absurd (cc e)
first_is uid (r ∷ rows) e = record { row = r; later = rows; is = refl; same = eqb-true uid r.uid e }

pub next_there : (uid : ℕ) (rows : List Row) → is_next uid rows ≡ true → 0 < length rows
next_there uid [] e = absurd (cc e)
next_there uid (r ∷ rows) e = omega arith

-- the first row is known
pub record IsUnchanged (uid n : ℕ) (rows : List Row) : Type 0 where
  pub row : Row
  pub later : List Row
  pub is : rows ≡ row ∷ later
  pub same : uid ≡ row.uid
  pub low : row.number ≤ n

not_true : (b : Bool) → not b ≡ true → b ≡ false
not_true true e = absurd (cc e)
not_true false e = refl

not_false : (b : Bool) → not b ≡ false → b ≡ true
not_false true e = refl
not_false false e = absurd (cc e)

pub first_unchanged : (uid n : ℕ) (rows : List Row) → is_unchanged uid n rows ≡ true → IsUnchanged uid n rows
first_unchanged uid n [] e = absurd (cc e)
first_unchanged uid n (r ∷ rows) e =
    let both = and_parts (eqb uid r.uid) (not (ltb n r.number)) e in
    record { row = r; later = rows; is = refl; same = eqb-true uid r.uid both.0; low = ltb-false n r.number (not_true (ltb n r.number) both.1) }

first_changed : (uid n : ℕ) (r : Row) (later : List Row) → uid ≡ r.uid → is_unchanged uid n (r ∷ later) ≡ false → n < r.number
first_changed uid n r later same e =
    ltb-true n r.number (not_false (ltb n r.number) (ap (λ b. b && not (ltb n r.number)) (sym (eq-eqb uid r.uid same)) ∙ e))

-- ---- along the known list

zero_more : (n : ℕ) → n + 0 ≡ n
zero_more n = omega arith

-- at the end of the known list
pub ended : (told : List ℕ) (o : NoticeOptions) (up_to : ℕ) (w : Walk) (rows : List Row) → finished told o up_to w [] rows ≡ found w rows
ended told o up_to w rows = λ j. record {
  gone = collected_none o.expunges w.gone.items j;
  expunges = collected_none (by_number o) w.expunges.items j;
  vanished = collected_none (by_uid o) w.vanished.items j;
  changed = or_none w.changed j;
  fetches = append-nil w.fetches j;
  new = rows;
  number = zero_more w.number j;
}

-- ---- what is found of a message that is there

-- all of it is known
pub none_changed : (told : List ℕ) (o : NoticeOptions) (up_to : ℕ) (r : Row) (w : Walk) → is_known up_to r ≡ true → FindsPresent told o up_to r w w
none_changed told o up_to r w is = record {
  gone = refl;
  expunges = refl;
  vanished = refl;
  changed = sym (ap (λ b. w.changed || not b) is ∙ or_none w.changed);
  fetches = sym ((λ j. w.fetches ++ none (is_among r.uid told) (is_known up_to r) is j) ∙ append-nil w.fetches);
  number = refl;
}
  where
    none : (t b : Bool) → b ≡ true → collected (not t && not b) (fetch_line o w.number (told_of r) ∷ []) ≡ []
    none true b e = refl
    none false true e = refl
    none false false e = absurd (cc e)

-- it changed
one_changed : (told : List ℕ) (o : NoticeOptions) (up_to : ℕ) (r : Row) (old new : Walk) → is_known up_to r ≡ false
    → new.gone.items ≡ old.gone.items → new.expunges.items ≡ old.expunges.items → new.vanished.items ≡ old.vanished.items
    → new.changed ≡ true
    → new.fetches ≡ old.fetches ++ collected (not (is_among r.uid told)) (fetch_line o old.number (told_of r) ∷ []) → new.number ≡ old.number
    → FindsPresent told o up_to r old new
one_changed told o up_to r old new is gone expunges vanished changed fetches number = record {
  gone = gone;
  expunges = expunges;
  vanished = vanished;
  changed = changed ∙ sym (or_all old.changed) ∙ (λ j. old.changed || not (sym is j));
  fetches = fetches ∙ (λ j. old.fetches ++ collected (both (is_among r.uid told) (is_known up_to r) is j) (fetch_line o old.number (told_of r) ∷ []));
  number = number;
}
  where
    both : (a b : Bool) → b ≡ false → not a ≡ (not a && not b)
    both true b e = refl
    both false true e = absurd (cc e)
    both false false e = refl

-- ---- the walk passes a message that is there

pub passes_unchanged : (told : List ℕ) (o : NoticeOptions) (n u : ℕ) (rows left : List Row) (old : Walk)
    → is_unchanged u n rows ≡ true → left ≡ drop 1 rows → Passes told o n u rows left old (record old { number = old.number + 1 })
passes_unchanged told o n u rows left old e is_left =
    let first = first_unchanged u n rows e in
    passes_present told o n u rows left first.row first.later old old first.is (is_left ∙ ap (drop 1) first.is) first.same
    (none_changed told o n first.row old (low_known n first.row first.low))

pub passes_changed : (told : List ℕ) (o : NoticeOptions) (n u : ℕ) (rows left : List Row) (old new : Walk)
    → is_next u rows ≡ true → is_unchanged u n rows ≡ false → left ≡ drop 1 rows
    → ((r : Row) (later : List Row) → rows ≡ r ∷ later → PassesChanged told o r old new) → Passes told o n u rows left old new
passes_changed told o n u rows left old new next changed is_left found =
    let first = first_is u rows next in
    let r = first.row in
    let h = found r first.later first.is in
    let above = first_changed u n r first.later first.same (sym (ap (is_unchanged u n) first.is) ∙ changed) in
    let mid : Walk = record new { number = old.number } in
    let one = one_changed told o n r old mid (ap not (lt-ltb n r.number above)) h.gone h.expunges h.vanished h.changed h.fetches refl in
    subst (Passes told o n u rows left old) (λ j. record new { number = sym h.number j })
    (passes_present told o n u rows left r first.later old mid first.is (is_left ∙ ap (drop 1) first.is) first.same one)

-- ---- results

pub on_ok_both : {A B P : Type 0} (r : Result (Unit {0}) AllocError) → OnOk r A → OnOk r B → (A → B → P) → OnOk r P
on_ok_both (Ok x) a b both = both a b
on_ok_both (Err x) a b both = tt
