-- What is told where something differs, and what is not.
use Rattle.std.proofs.Common.{◌≡◌, ℕ, ◌+◌, eqb, not, ◌||◌, Bool, true, false, cond, List, [], ◌∷◌, ◌++◌, length, filter, refl, sym, ap, subst, ◌∙◌, arith}
use Rattle.std.proofs.lemmas.Bool.{eq-eqb, true≢false}
use Rattle.std.proofs.lemmas.List.{append-nil, length-append, length-map}
use Rattle.imap_print.specs.declared.response.Response.{Response}
use Rattle.imap_mailbox.specs.Rows.{Row, is_among}
use Rattle.imap_mailbox.specs.Lent.{row_uids}
use Rattle.imap_mailbox.specs.Order.{AreAtMost}
use Rattle.imap_mailbox.specs.Brought.{told_of}
use Rattle.imap_session.specs.declared.options.NoticeOptions.{NoticeOptions}
use Rattle.imap_session.specs.Compared.{Comparison, Expunged, Present, comparisons, new_rows, uids_after, known_after, any_changed, is_known}
use Rattle.imap_session.specs.Notices.{fetch_line, expunge_lines, expunged_uids, vanished_line, exists_line, fetch_lines, expunge_notices, notices}
use Rattle.imap_session.specs.Laws.{StaysKnown, ToldIfDifferent, AllKnownIsQuiet, ToldOnce, tells_of}
use Rattle.imap_session.proofs.Kept.{told_is_there}
use Rattle.imap_session.proofs.Matching.{known_is, known_low}
use Rattle.imap_session.proofs.Quieting.{all_known, quiet_lines, told_same}

-- ---- nothing is told

front_nil : {A : Type 0} (a b : List A) → a ++ b ≡ [] → a ≡ []
front_nil [] b e = refl
front_nil (x ∷ a) b e = absurd (cc e)

back_nil : {A : Type 0} (a b : List A) → a ++ b ≡ [] → b ≡ []
back_nil [] b e = e
back_nil (x ∷ a) b e = absurd (cc e)

no_exists : (n : ℕ) (rows : List Row) → exists_line n rows ≡ [] → rows ≡ []
no_exists n [] e = refl
no_exists n (r ∷ rows) e = absurd (cc e)

no_expunges : (n : ℕ) (cs : List Comparison) → expunge_lines n cs ≡ [] → expunged_uids cs ≡ []
no_expunges n [] e = refl
no_expunges n (Expunged u ∷ cs) e = absurd (cc e)
no_expunges n (Present r ∷ cs) e = no_expunges (n + 1) cs e

no_vanished : (us : List ℕ) → vanished_line us ≡ [] → us ≡ []
no_vanished [] e = refl
no_vanished (u ∷ us) e = absurd (cc e)

no_fetch : (b : Bool) (x : Response) (rest : List Response) → cond b rest (x ∷ rest) ≡ [] → (b ≡ true) × (rest ≡ [])
no_fetch true x rest e = (refl, e)
no_fetch false x rest e = absurd (cc e)

pub none_changed : (o : NoticeOptions) (up_to n : ℕ) (cs : List Comparison) → fetch_lines o up_to [] n cs ≡ [] → any_changed up_to cs ≡ false
none_changed o up_to n [] e = refl
none_changed o up_to n (Expunged u ∷ cs) e = by o.expunges (λ e. none_changed o up_to n cs e) (λ e. none_changed o up_to (n + 1) cs e) e
  where
    by : (b : Bool) → (fetch_lines o up_to [] n cs ≡ [] → any_changed up_to cs ≡ false) → (fetch_lines o up_to [] (n + 1) cs ≡ [] → any_changed up_to cs ≡ false)
        → cond b (fetch_lines o up_to [] n cs) (fetch_lines o up_to [] (n + 1) cs) ≡ [] → any_changed up_to cs ≡ false
    by true here later e = here e
    by false here later e = later e
none_changed o up_to n (Present r ∷ cs) e =
    let h = no_fetch (is_known up_to r) (fetch_line o n (told_of r)) (fetch_lines o up_to [] (n + 1) cs) e in
    (λ i. not (h.0 i) || any_changed up_to cs) ∙ none_changed o up_to (n + 1) cs h.1

pub none_gone : (may qresync : Bool) (cs : List Comparison) → cond may (cond qresync (vanished_line (expunged_uids cs)) (expunge_lines 1 cs)) [] ≡ [] → may ≡ true → expunged_uids cs ≡ []
none_gone true true cs e = λ t. no_vanished (expunged_uids cs) e
none_gone true false cs e = λ t. no_expunges 1 cs e
none_gone false qresync cs e = λ t. absurd (true≢false (sym t))

stays : (may : Bool) (uids : List ℕ) (rows : List Row) → (may ≡ true → expunged_uids (comparisons uids rows) ≡ []) → uids_after may (comparisons uids rows) ≡ uids
stays true uids rows none = told_same (comparisons uids rows) (none refl) ∙ known_is uids rows
stays false uids rows none = known_is uids rows

none_told : (o : NoticeOptions) (up_to : ℕ) (uids : List ℕ) (rows : List Row) → notices o up_to [] uids rows ≡ [] → StaysKnown o up_to uids rows
none_told o up_to uids rows e =
    quiet_by (expunge_notices o (comparisons uids rows)) (exists_line (length (known_after o.expunges uids rows)) (new_rows uids rows)) (fetch_lines o up_to [] 1 (comparisons uids rows)) refl refl refl e
  where
    quiet_by : (a b c : List Response) → a ≡ expunge_notices o (comparisons uids rows) → b ≡ exists_line (length (known_after o.expunges uids rows)) (new_rows uids rows) → c ≡ fetch_lines o up_to [] 1 (comparisons uids rows)
        → a ++ (b ++ c) ≡ [] → StaysKnown o up_to uids rows
    quiet_by a b c is_a is_b is_c e =
        let rest = back_nil a (b ++ c) e in
        let none = none_gone o.expunges o.qresync (comparisons uids rows) (sym is_a ∙ front_nil a (b ++ c) e) in
        let no_new = no_exists (length (known_after o.expunges uids rows)) (new_rows uids rows) (sym is_b ∙ front_nil b c rest) in
        record {
          list = (λ i. uids_after o.expunges (comparisons uids rows) ++ row_uids (no_new i)) ∙ append-nil (uids_after o.expunges (comparisons uids rows)) ∙ stays o.expunges uids rows none;
          changed = none_changed o up_to 1 (comparisons uids rows) (sym is_c ∙ back_nil b c rest);
        }

-- ---- all is known

record IsThere (rows : List Row) : Type 0 where
  new : new_rows (row_uids rows) rows ≡ []
  gone : expunged_uids (comparisons (row_uids rows) rows) ≡ []

is_there : (rows : List Row) → IsThere rows
is_there [] = record { new = refl; gone = refl }
is_there (r ∷ rows) =
    let rest = is_there rows in
    let same : eqb r.uid r.uid ≡ true = eq-eqb r.uid r.uid refl in
    record {
      new = ap (λ b. cond b (new_rows (row_uids rows) rows) (new_rows (row_uids rows) (r ∷ rows))) same ∙ rest.new;
      gone = ap (λ b. expunged_uids (cond b (Present r ∷ comparisons (row_uids rows) rows) (Expunged r.uid ∷ comparisons (row_uids rows) (r ∷ rows)))) same ∙ rest.gone;
    }

pub all_known_is_quiet : AllKnownIsQuiet
all_known_is_quiet o up_to told rows most =
    let there = is_there rows in
    quiet_lines o up_to told (row_uids rows) rows there.new (all_known up_to (row_uids rows) rows most) (λ may. there.gone)

-- ---- the known list stays

nil_of : (rows : List Row) → length rows ≡ 0 → rows ≡ []
nil_of [] e = refl
nil_of (r ∷ rows) e = absurd (omega arith)

told_length : (may : Bool) (uids : List ℕ) (rows : List Row) → length (known_after may uids rows) ≡ length (uids_after may (comparisons uids rows)) + length (new_rows uids rows)
told_length may uids rows =
    let sum = length-append (uids_after may (comparisons uids rows)) (row_uids (new_rows uids rows)) in
    let len = length-map (new_rows uids rows) (λ (r : Row). r.uid) in
    omega (arith, sum, len)

kept_length : (uids : List ℕ) (rows : List Row) → length (uids_after false (comparisons uids rows)) ≡ length uids
kept_length uids rows = ap length (known_is uids rows)

none_differs : (o : NoticeOptions) (up_to : ℕ) (uids : List ℕ) (rows : List Row) → StaysKnown o up_to uids rows → notices o up_to [] uids rows ≡ []
none_differs o up_to uids rows h = by o.expunges refl h.list
  where
    by : (b : Bool) → o.expunges ≡ b → known_after b uids rows ≡ uids → notices o up_to [] uids rows ≡ []
    by true is e =
        let all : uids ≡ row_uids rows = sym e ∙ told_is_there uids rows in
        let there = is_there rows in
        quiet_lines o up_to [] uids rows (ap (λ us. new_rows us rows) all ∙ there.new) h.changed (λ may. ap (λ us. expunged_uids (comparisons us rows)) all ∙ there.gone)
    by false is e =
        let len = told_length false uids rows in
        let kept = kept_length uids rows in
        let same = ap length e in
        quiet_lines o up_to [] uids rows (nil_of (new_rows uids rows) (omega (arith, len, kept, same))) h.changed (λ may. absurd (true≢false (sym may ∙ is)))

pub told_if_different : ToldIfDifferent
told_if_different o up_to uids rows = ((λ e. none_told o up_to uids rows e), (λ h. none_differs o up_to uids rows h))

-- ---- each row is told

or_parts : (a b : Bool) → (a || b) ≡ false → (a ≡ false) × (b ≡ false)
or_parts true b e = absurd (cc e)
or_parts false b e = (refl, e)

not_false : (b : Bool) → not b ≡ false → b ≡ true
not_false true e = refl
not_false false e = absurd (cc e)

-- if no message is new, and none is changed
pub rows_told : (up_to : ℕ) (uids : List ℕ) (rows : List Row) → new_rows uids rows ≡ [] → any_changed up_to (comparisons uids rows) ≡ false → AreAtMost up_to rows
rows_told up_to [] rows new e = subst (AreAtMost up_to) (sym new) tt
rows_told up_to (u ∷ uids) [] new e = tt
rows_told up_to (u ∷ uids) (r ∷ rows) new e = by (eqb u r.uid) (rows_told up_to uids rows) (rows_told up_to uids (r ∷ rows)) new e
  where
    by : (b : Bool) → (new_rows uids rows ≡ [] → any_changed up_to (comparisons uids rows) ≡ false → AreAtMost up_to rows)
        → (new_rows uids (r ∷ rows) ≡ [] → any_changed up_to (comparisons uids (r ∷ rows)) ≡ false → AreAtMost up_to (r ∷ rows))
        → cond b (new_rows uids rows) (new_rows uids (r ∷ rows)) ≡ []
        → any_changed up_to (cond b (Present r ∷ comparisons uids rows) (Expunged u ∷ comparisons uids (r ∷ rows))) ≡ false → AreAtMost up_to (r ∷ rows)
    by true there gone new e =
        let parts = or_parts (not (is_known up_to r)) (any_changed up_to (comparisons uids rows)) e in
        (known_low up_to r (not_false (is_known up_to r) parts.0), there new parts.1)
    by false there gone new e = gone new e

-- ---- messages of which the command's own lines told

told_parts : (a b : Bool) (line : Response) (rest : List Response) → cond (a || b) rest (line ∷ rest) ≡ cond b rest (cond (not a) (line ∷ rest) rest)
told_parts true true line rest = refl
told_parts true false line rest = refl
told_parts false true line rest = refl
told_parts false false line rest = refl

pub told_once : ToldOnce
told_once o up_to told n [] = refl
told_once o up_to told n (Expunged u ∷ cs) = by o.expunges (told_once o up_to told n cs) (told_once o up_to told (n + 1) cs)
  where
    by : (b : Bool) → fetch_lines o up_to told n cs ≡ filter (λ line. not (tells_of told line)) (fetch_lines o up_to [] n cs)
        → fetch_lines o up_to told (n + 1) cs ≡ filter (λ line. not (tells_of told line)) (fetch_lines o up_to [] (n + 1) cs)
        → cond b (fetch_lines o up_to told n cs) (fetch_lines o up_to told (n + 1) cs) ≡ filter (λ line. not (tells_of told line)) (cond b (fetch_lines o up_to [] n cs) (fetch_lines o up_to [] (n + 1) cs))
    by true here later = here
    by false here later = later
told_once o up_to told n (Present r ∷ cs) =
    told_parts (is_among r.uid told) (is_known up_to r) (fetch_line o n (told_of r)) (fetch_lines o up_to told (n + 1) cs)
    ∙ by (is_known up_to r) (told_once o up_to told (n + 1) cs)
  where
    by : (b : Bool) → fetch_lines o up_to told (n + 1) cs ≡ filter (λ line. not (tells_of told line)) (fetch_lines o up_to [] (n + 1) cs)
        → cond b (fetch_lines o up_to told (n + 1) cs) (cond (not (is_among r.uid told)) (fetch_line o n (told_of r) ∷ fetch_lines o up_to told (n + 1) cs) (fetch_lines o up_to told (n + 1) cs))
        ≡ filter (λ line. not (tells_of told line)) (cond b (fetch_lines o up_to [] (n + 1) cs) (fetch_line o n (told_of r) ∷ fetch_lines o up_to [] (n + 1) cs))
    by true rest = rest
    by false rest = λ i. cond (not (is_among r.uid told)) (fetch_line o n (told_of r) ∷ rest i) (rest i)
