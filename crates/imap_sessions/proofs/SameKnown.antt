-- What is known of a mailbox up to two mod-sequences.
use Rattle.std.proofs.Common.{◌≡◌, ℕ, ◌+◌, ◌<◌, ◌≤◌, eqb, nat_lt, not, ◌||◌, Bool, true, false, cond, MatchBool, List, [], ◌∷◌, ◌++◌, map, length, refl, sym, subst, ap, ◌∙◌, arith}
use Rattle.std.specs.List.{AllByRecursion}
use Rattle.std.proofs.lemmas.Bool.{eq-eqb, ltb-true, ltb-false}
use Rattle.imap_mailbox.specs.declared.known.KnownMessage.{KnownMessage}
use Rattle.imap_mailbox.specs.Rows.{Row, first_uid, is_among}
use Rattle.imap_mailbox.specs.Lent.{row_uids}
use Rattle.imap_mailbox.specs.Shown.{Content}
use Rattle.imap_mailbox.specs.Summary.{Rises}
use Rattle.imap_mailbox.specs.Brought.{Agree, AreAbove, AreToldBy, IsBrought, IsLater, IsOrdered, highest_in, known_uids, told_of}
use Rattle.imap_session.specs.Compared.{Comparison, Expunged, Present, any_changed, comparisons, is_known, known_after, new_rows}
use Rattle.imap_session.specs.declared.options.NoticeOptions.{NoticeOptions}
use Rattle.imap_session.specs.Notices.{exists_line, expunge_notices, fetch_line, fetch_lines, notices}
use Rattle.imap_session.specs.Telling.{difference}
use Rattle.imap_sessions.specs.Alike.{KnowTheSame}

-- ---- what a row's number tells

known_at : (n : ℕ) (r : Row) → r.number ≤ n → is_known n r ≡ true
known_at n r le = by (nat_lt n r.number) refl
  where
    by : (b : Bool) → nat_lt n r.number ≡ b → not b ≡ true
    by true is = let lt = ltb-true n r.number is in absurd (omega (arith, lt, le))
    by false is = refl

unknown_at : (n : ℕ) (r : Row) → n < r.number → is_known n r ≡ false
unknown_at n r lt = by (nat_lt n r.number) refl
  where
    by : (b : Bool) → nat_lt n r.number ≡ b → not b ≡ false
    by true is = refl
    by false is = let le = ltb-false n r.number is in absurd (omega (arith, lt, le))

known_below : (n : ℕ) (r : Row) (b : Bool) → is_known n r ≡ b → cond b r.number 0 ≤ n
known_below n r false is = omega arith
known_below n r true is = by (nat_lt n r.number) refl is
  where
    by : (b : Bool) → nat_lt n r.number ≡ b → not b ≡ true → r.number ≤ n
    by true lt is = absurd (cc is)
    by false ge is = let le = ltb-false n r.number ge in omega (arith, le)

-- ---- known messages by which one was told all up to a mod-sequence

-- of a message that is not known as it is, an older state is
abbrev remembered : ℕ → Row → KnownMessage
remembered n r = record { uid = r.uid; flags = r.flags; seen = r.seen; number = cond (is_known n r) r.number 0 }

abbrev all_remembered : ℕ → List Row → List KnownMessage
all_remembered n rows = map (remembered n) rows

rises_remembered : (n low high : ℕ) (rows : List Row) → Rises low high (row_uids rows) → Rises low high (known_uids (all_remembered n rows))
rises_remembered n low high [] h = h
rises_remembered n low high (r ∷ rows) h = (h.0, rises_remembered n (r.uid + 1) high rows h.1)

told_remembered : (n : ℕ) (rows : List Row) → AreToldBy n (all_remembered n rows)
told_remembered n [] = tt
told_remembered n (r ∷ rows) = (known_below n r (is_known n r) refl, told_remembered n rows)

as_it_is : (n : ℕ) (r : Row) → r.number ≤ n → told_of r ≡ remembered n r
as_it_is n r le = ap (λ b. record { uid = r.uid; flags = r.flags; seen = r.seen; number = cond b r.number 0 }) (sym (known_at n r le))

agree_remembered : (n : ℕ) (rows : List Row) → Agree n (all_remembered n rows) rows
agree_remembered n [] = tt
agree_remembered n (r ∷ rows) =
    subst (λ b. MatchBool b ((r.number ≤ n → told_of r ≡ remembered n r) × Agree n (all_remembered n rows) rows) ((r.uid < r.uid) × Agree n (all_remembered n rows) (r ∷ rows)))
    (sym (eq-eqb r.uid r.uid refl)) (as_it_is n r, agree_remembered n rows)

brought_up : (n : ℕ) (c : Content) → IsOrdered c → n ≤ highest_in c → IsBrought n (all_remembered n c.rows) c
brought_up n c ordered le = record {
  before = le;
  uids = rises_remembered n first_uid c.next c.rows ordered.uids;
  told = told_remembered n c.rows;
  agree = agree_remembered n c.rows;
}

one_memory : (m n : ℕ) (rows : List Row) → AllByRecursion (λ r. is_known m r ≡ is_known n r) rows → all_remembered m rows ≡ all_remembered n rows
one_memory m n [] h = refl
one_memory m n (r ∷ rows) h =
    λ i. record { uid = r.uid; flags = r.flags; seen = r.seen; number = cond (h.0 i) r.number 0 } ∷ one_memory m n rows h.1 i

-- ---- and what follows from one list of them for both

none_known : (m n : ℕ) (rows : List Row) → AreAbove m rows → AreAbove n rows → AllByRecursion (λ r. is_known m r ≡ is_known n r) rows
none_known m n [] a b = tt
none_known m n (r ∷ rows) a b = (unknown_at m r a.0 ∙ sym (unknown_at n r b.0), none_known m n rows a.1 b.1)

-- a row that one of them knows as it is was told to both
one_row : (m n : ℕ) (k : KnownMessage) (r : Row) → k.number ≤ m → k.number ≤ n → (r.number ≤ m → told_of r ≡ k) → (r.number ≤ n → told_of r ≡ k) → is_known m r ≡ is_known n r
one_row m n k r km kn a b = by (nat_lt m r.number) refl (nat_lt n r.number) refl
  where
    by : (x : Bool) → nat_lt m r.number ≡ x → (y : Bool) → nat_lt n r.number ≡ y → not x ≡ not y
    by true p true q = refl
    by false p false q = refl
    by true p false q =
        let above = ltb-true m r.number p in
        let same : r.number ≡ k.number = ap (λ (k : KnownMessage). k.number) (b (ltb-false n r.number q)) in
        absurd (omega (arith, above, same, km))
    by false p true q =
        let above = ltb-true n r.number q in
        let same : r.number ≡ k.number = ap (λ (k : KnownMessage). k.number) (a (ltb-false m r.number p)) in
        absurd (omega (arith, above, same, kn))

agree_both : (m n : ℕ) (known : List KnownMessage) (rows : List Row) → AreToldBy m known → AreToldBy n known → Agree m known rows → Agree n known rows
    → AllByRecursion (λ r. is_known m r ≡ is_known n r) rows
agree_both m n [] rows tm tn a b = none_known m n rows a b
agree_both m n (k ∷ known) [] tm tn a b = tt
agree_both m n (k ∷ known) (r ∷ rows) tm tn a b = by (eqb k.uid r.uid) (agree_both m n known rows tm.1 tn.1) (agree_both m n known (r ∷ rows) tm.1 tn.1) a b
  where
    by : (t : Bool) → (Agree m known rows → Agree n known rows → AllByRecursion (λ r. is_known m r ≡ is_known n r) rows)
        → (Agree m known (r ∷ rows) → Agree n known (r ∷ rows) → AllByRecursion (λ r. is_known m r ≡ is_known n r) (r ∷ rows))
        → MatchBool t ((r.number ≤ m → told_of r ≡ k) × Agree m known rows) ((k.uid < r.uid) × Agree m known (r ∷ rows))
        → MatchBool t ((r.number ≤ n → told_of r ≡ k) × Agree n known rows) ((k.uid < r.uid) × Agree n known (r ∷ rows))
        → AllByRecursion (λ r. is_known m r ≡ is_known n r) (r ∷ rows)
    by true there gone a b = (one_row m n k r tm.0 tn.0 a.0 b.0, there a.1 b.1)
    by false there gone a b = gone a.1 b.1

pub known_by_both : (m n : ℕ) (known : List KnownMessage) (c : Content) → IsBrought m known c → IsBrought n known c → KnowTheSame m n c
known_by_both m n known c a b = record {
  before = a.before;
  other_before = b.before;
  rows = agree_both m n known c.rows a.told b.told a.agree b.agree;
}

pub one_list : (m n : ℕ) (c : Content) → IsOrdered c → KnowTheSame m n c → (known : List KnownMessage) × IsBrought m known c × IsBrought n known c
one_list m n c ordered h = (
  all_remembered m c.rows,
  brought_up m c ordered h.before,
  subst (λ known. IsBrought n known c) (sym (one_memory m n c.rows h.rows)) (brought_up n c ordered h.other_before),
)

-- so it goes on
pub later_known : (m n : ℕ) (c d : Content) → IsOrdered c → IsLater c d → KnowTheSame m n c → KnowTheSame m n d
later_known m n c d ordered later h =
    let both = one_list m n c ordered h in
    known_by_both m n both.0 d (later m both.0 both.1) (later n both.0 both.2)

-- ---- notices are the same

abbrev AreSame : ℕ → ℕ → List Comparison → Type 0
AreSame m n [] = Unit {0}
AreSame m n (Expunged uid ∷ cs) = AreSame m n cs
AreSame m n (Present r ∷ cs) = (is_known m r ≡ is_known n r) × AreSame m n cs

compared : (m n : ℕ) (uids : List ℕ) (rows : List Row) → AllByRecursion (λ r. is_known m r ≡ is_known n r) rows → AreSame m n (comparisons uids rows)
compared m n [] rows h = tt
compared m n (u ∷ uids) [] h = compared m n uids [] h
compared m n (u ∷ uids) (r ∷ rows) h = by (eqb u r.uid) (compared m n uids rows h.1) (compared m n uids (r ∷ rows) h)
  where
    by : (b : Bool) → AreSame m n (comparisons uids rows) → AreSame m n (comparisons uids (r ∷ rows)) → AreSame m n (cond b (Present r ∷ comparisons uids rows) (Expunged u ∷ comparisons uids (r ∷ rows)))
    by true there gone = (h.0, there)
    by false there gone = gone

same_changed : (m n : ℕ) (cs : List Comparison) → AreSame m n cs → any_changed m cs ≡ any_changed n cs
same_changed m n [] h = refl
same_changed m n (Expunged uid ∷ cs) h = same_changed m n cs h
same_changed m n (Present r ∷ cs) h = λ i. not (h.0 i) || same_changed m n cs h.1 i

same_fetches : (o : NoticeOptions) (m n : ℕ) (told : List ℕ) (at : ℕ) (cs : List Comparison) → AreSame m n cs → fetch_lines o m told at cs ≡ fetch_lines o n told at cs
same_fetches o m n told at [] h = refl
same_fetches o m n told at (Expunged uid ∷ cs) h = λ i. cond o.expunges (same_fetches o m n told at cs h i) (same_fetches o m n told (at + 1) cs h i)
same_fetches o m n told at (Present r ∷ cs) h =
    λ i. cond (is_among r.uid told || h.0 i) (same_fetches o m n told (at + 1) cs h.1 i) (fetch_line o at (told_of r) ∷ same_fetches o m n told (at + 1) cs h.1 i)

module _ (o : NoticeOptions) (m n : ℕ) (uids : List ℕ) (rows : List Row) (h : AllByRecursion (λ r. is_known m r ≡ is_known n r) rows) where
  pub same_notices : (told : List ℕ) → notices o m told uids rows ≡ notices o n told uids rows
  same_notices told =
      ap (λ lines. expunge_notices o (comparisons uids rows) ++ (exists_line (length (known_after o.expunges uids rows)) (new_rows uids rows) ++ lines))
      (same_fetches o m n told 1 (comparisons uids rows) (compared m n uids rows h))

  pub same_difference : (highest : ℕ) → difference o.expunges m uids rows highest ≡ difference o.expunges n uids rows highest
  same_difference highest =
      ap (λ (changed : Bool). record (difference o.expunges m uids rows highest) { changed = changed }) (same_changed m n (comparisons uids rows) (compared m n uids rows h))
