-- The messages that a command names.
use Rattle.std.proofs.Common.{◌≡◌, ℕ, zero, suc, ◌+◌, ◌-◌, ◌<◌, ◌≤◌, Bool, true, false, cond, List, [], ◌∷◌, length, get_or, eqb, Option, Some, None, option_map, is_some, not, refl, sym, ap, ◌∙◌, arith}
use Rattle.std.specs.Prelude.{nat_lt}
use Rattle.std.proofs.lemmas.Bool.{eq-eqb, ne_eqb}
use Rattle.std.proofs.lemmas.List.{length-map}
use Rattle.imap_mailbox.specs.Lent.{place_in, row_uids}
use Rattle.imap_mailbox.specs.Rows.{Row}
use Rattle.imap_mailbox.specs.Summary.{Rises}
use Rattle.imap_mailbox.proofs.Finding.{at_least, inside}
use Rattle.imap_session.specs.Held.{UidsRise, uid_limit}
use Rattle.imap_session.proofs.Telling.{length_fits}
use Rattle.imap_session.proofs.Worded.{row_at as standing}
use Rattle.imap_targets.specs.MessageNumbers.{is_unchanged, last_uid, row_with}

-- ---- the last UID

pub none_is_last : (next : ℕ) (known : List ℕ) → length known ≡ 0 → next ≡ last_uid next known
none_is_last next [] e = refl
none_is_last next (k ∷ known) e = absurd (omega (arith, e))

pub last_is_last : (next : ℕ) (known : List ℕ) (d : ℕ) → 0 < length known → get_or known (length known - 1) d ≡ last_uid next known
last_is_last next [] d some = absurd (omega (arith, some))
last_is_last next (k ∷ []) d some = refl
last_is_last next (k ∷ l ∷ known) d some =
    let here : length (k ∷ l ∷ known) - 1 ≡ suc (length known) = omega arith in
    let there : length known ≡ length (l ∷ known) - 1 = omega arith in
    ap (λ n. get_or (k ∷ l ∷ known) n d) here ∙ ap (λ n. get_or (l ∷ known) n d) there ∙ last_is_last k (l ∷ known) d (omega arith)

-- so few that each has a number
pub known_fit : (known : List ℕ) → UidsRise known → length known + 1 ≤ uid_limit
known_fit known rise = length_fits known uid_limit rise

-- ---- a row by its UID

row_by : (uid : ℕ) (b : Bool) (r d : Row) (rows : List Row) (o : Option ℕ) (i : ℕ) → cond b (Some 0) (option_map (λ n. n + 1) o) ≡ Some i
    → ((j : ℕ) → o ≡ Some j → row_with uid rows ≡ Some (get_or rows j d)) → cond b (Some r) (row_with uid rows) ≡ Some (get_or (r ∷ rows) i d)
row_by uid true r d rows o i e later = let z : 0 ≡ i = cc e in ap (λ n. Some (get_or (r ∷ rows) n d)) z
row_by uid false r d rows None i e later = absurd (cc e)
row_by uid false r d rows (Some j) i e later =
    let z : j + 1 ≡ i = cc e in let y : suc j ≡ i = omega (arith, z) in later j refl ∙ ap (λ n. Some (get_or (r ∷ rows) n d)) y

pub row_at : (uid : ℕ) (rows : List Row) (i : ℕ) (d : Row) → place_in uid (row_uids rows) ≡ Some i → row_with uid rows ≡ Some (get_or rows i d)
row_at uid [] i d e = absurd (cc e)
row_at uid (r ∷ rows) i d e = row_by uid (eqb r.uid uid) r d rows (place_in uid (row_uids rows)) i e (λ j. row_at uid rows j d)

none_by : (uid : ℕ) (b : Bool) (r : Row) (rows : List Row) (o : Option ℕ) → cond b (Some 0) (option_map (λ n. n + 1) o) ≡ None
    → (o ≡ None → row_with uid rows ≡ None) → cond b (Some r) (row_with uid rows) ≡ None
none_by uid true r rows o e later = absurd (cc e)
none_by uid false r rows None e later = later refl
none_by uid false r rows (Some j) e later = absurd (cc e)

pub row_nowhere : (uid : ℕ) (rows : List Row) → place_in uid (row_uids rows) ≡ None → row_with uid rows ≡ None
row_nowhere uid [] e = refl
row_nowhere uid (r ∷ rows) e = none_by uid (eqb r.uid uid) r rows (place_in uid (row_uids rows)) e (row_nowhere uid rows)

pub row_within : (uid : ℕ) (rows : List Row) (i : ℕ) → place_in uid (row_uids rows) ≡ Some i → i < length rows
row_within uid rows i e = omega (arith, inside uid (row_uids rows) i e, length-map rows (λ (r : Row). r.uid))

-- the message at the place of the UID, of which it is known whether it is above the number
pub unchanged_at : (uid number : ℕ) (rows : List Row) (i : ℕ) (above : Bool) → place_in uid (row_uids rows) ≡ Some i
    → ((row : Row) → row ≡ get_or rows i row → above ≡ nat_lt number row.number) → is_unchanged number (row_with uid rows) ≡ not above
unchanged_at uid number rows i above there known =
    let stands = standing rows i (row_within uid rows i there) in
    ap (is_unchanged number) (row_at uid rows i stands.row there ∙ ap Some (sym stands.is)) ∙ ap not (sym (known stands.row stands.is))

mapped : (o : Option ℕ) → is_some (option_map (λ n. n + 1) o) ≡ is_some o
mapped None = refl
mapped (Some i) = refl

there_is : (uid : ℕ) (rows : List Row) → is_some (place_in uid (row_uids rows)) ≡ is_some (row_with uid rows)
there_is uid [] = refl
there_is uid (r ∷ rows) = by (eqb r.uid uid) (there_is uid rows)
  where
    by : (b : Bool) → is_some (place_in uid (row_uids rows)) ≡ is_some (row_with uid rows)
        → is_some (cond b (Some 0) (option_map (λ n. n + 1) (place_in uid (row_uids rows)))) ≡ is_some (cond b (Some r) (row_with uid rows))
    by true later = refl
    by false later = mapped (place_in uid (row_uids rows)) ∙ later

turned : (a b : Bool) → a ≡ not b → b ≡ not a
turned a true e = ap not (sym e)
turned a false e = ap not (sym e)

pub is_nowhere : (uid : ℕ) (rows : List Row) (index : Option ℕ) (b : Bool) → index ≡ place_in uid (row_uids rows) → is_some index ≡ not b → b ≡ not (is_some (row_with uid rows))
is_nowhere uid rows index b is none = turned (is_some (row_with uid rows)) b (sym (there_is uid rows) ∙ ap is_some (sym is) ∙ none)

-- numbers that rise stand once
pub place_here : (uid low high : ℕ) (us : List ℕ) (i d : ℕ) → Rises low high us → i < length us → get_or us i d ≡ uid → place_in uid us ≡ Some i
place_here uid low high [] i d h lt e = absurd (omega (arith, lt))
place_here uid low high (u ∷ us) zero d h lt e = ap (λ b. cond b (Some 0) (option_map (λ n. n + 1) (place_in uid us))) (eq-eqb u uid e)
place_here uid low high (u ∷ us) (suc i) d h lt e =
    let more : u + 1 ≤ get_or us i d = at_least (u + 1) high us i d h.1 (omega (arith, lt)) in
    let next : i + 1 ≡ suc i = omega arith in
    ap (λ b. cond b (Some 0) (option_map (λ n. n + 1) (place_in uid us))) (ne_eqb u uid (λ same. omega (arith, same, e, more)))
    ∙ ap (option_map (λ n. n + 1)) (place_here uid (u + 1) high us i d h.1 (omega (arith, lt)) e) ∙ ap Some next

-- none, if all UIDs are greater
pub row_below : (uid low high : ℕ) (rows : List Row) → uid < low → Rises low high (row_uids rows) → row_with uid rows ≡ None
row_below uid low high [] lt h = refl
row_below uid low high (r ∷ rows) lt h =
    let at : low ≤ r.uid = h.0 in
    ap (λ b. cond b (Some r) (row_with uid rows)) (ne_eqb r.uid uid (λ e. omega (arith, e, at, lt)))
    ∙ row_below uid (r.uid + 1) high rows (omega (arith, at, lt)) h.1
