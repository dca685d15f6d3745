-- Which messages EXPUNGE takes.
use Rattle.std.proofs.Common.{◌≡◌, ℕ, zero, suc, ◌≤◌, Bool, true, false, cond, ◌||◌, ◌&&◌, List, [], ◌∷◌, eqb, filter, length, take, Option, refl, sym, ap, ◌∙◌, arith}
use Rattle.std.proofs.lemmas.Bool.{eqb-true}
use Rattle.imap_mailbox.specs.Lent.{row_uids}
use Rattle.imap_mailbox.specs.Rows.{Row, is_among}
use Rattle.imap_syntax.specs.declared.set.MessageSet.{MessageSet}
use Rattle.imap_syntax.specs.declared.set.Numbering.TheVariants as numbering
use Rattle.imap_targets.specs.Left.{events_left}
use Rattle.imap_targets.specs.MessageNumbers.{last_of}
use Rattle.imap_changes.specs.Expunge.{is_taken, is_wanted}
use Rattle.imap_changes.specs.Laws.{ExpungesAll, ExpungesDeleted, is_deleted}

or_true : (b : Bool) → b || true ≡ true
or_true true = refl
or_true false = refl

and_false : (b : Bool) → b && false ≡ false
and_false true = refl
and_false false = refl

-- ---- the first of a list

first_among : (uid n : ℕ) (uids : List ℕ) → is_among uid (take n uids) ≡ true → is_among uid uids ≡ true
first_among uid zero uids e = absurd (cc e)
first_among uid (suc n) [] e = e
first_among uid (suc n) (u ∷ uids) e = by (eqb u uid) e (first_among uid n uids)
  where
    by : (b : Bool) → (b || is_among uid (take n uids)) ≡ true → (is_among uid (take n uids) ≡ true → is_among uid uids ≡ true) → (b || is_among uid uids) ≡ true
    by true e later = refl
    by false e later = later e

all_taken : (n : ℕ) (uids : List ℕ) → length uids ≤ n → take n uids ≡ uids
all_taken zero [] le = refl
all_taken zero (u ∷ uids) le = absurd (omega (arith, le))
all_taken (suc n) [] le = refl
all_taken (suc n) (u ∷ uids) le = ap (λ us. u ∷ us) (all_taken n uids (omega (arith, le)))

fewer : (p : Row → Bool) (rows : List Row) → length (row_uids (filter p rows)) ≤ length rows
fewer p [] = omega arith
fewer p (r ∷ rows) = by (p r) (fewer p rows)
  where
    by : (b : Bool) → length (row_uids (filter p rows)) ≤ length rows → length (row_uids (cond b (r ∷ filter p rows) (filter p rows))) ≤ length (r ∷ rows)
    by true le = omega (arith, le)
    by false le = omega (arith, le)

-- ---- the rows that are taken

module _ (set : Option MessageSet) (last : ℕ) (known : List ℕ) (uid : ℕ) where
  among_taken : (rows : List Row) → is_among uid (row_uids (filter (is_taken set last known) rows)) ≡ (is_deleted uid rows && is_wanted set last known uid)
  among_taken [] = refl
  among_taken (r ∷ rows) = by (eqb r.uid uid) refl r.flags.deleted (is_wanted set last known r.uid) refl (among_taken rows)
    where
      by : (b : Bool) → eqb r.uid uid ≡ b → (d w : Bool) → is_wanted set last known r.uid ≡ w
          → is_among uid (row_uids (filter (is_taken set last known) rows)) ≡ (is_deleted uid rows && is_wanted set last known uid)
          → is_among uid (row_uids (cond (d && w) (r ∷ filter (is_taken set last known) rows) (filter (is_taken set last known) rows)))
          ≡ (((b && d) || is_deleted uid rows) && is_wanted set last known uid)
      by true e true true h before =
          ap (λ t. t || is_among uid (row_uids (filter (is_taken set last known) rows))) e
          ∙ sym h ∙ ap (is_wanted set last known) (eqb-true r.uid uid e)
      by true e true false h before =
          let none : is_wanted set last known uid ≡ false = sym (ap (is_wanted set last known) (eqb-true r.uid uid e)) ∙ h in
          before ∙ ap (λ t. is_deleted uid rows && t) none ∙ and_false (is_deleted uid rows) ∙ sym none
      by true e false w h before = before
      by false e true true h before = ap (λ t. t || is_among uid (row_uids (filter (is_taken set last known) rows))) e ∙ before
      by false e true false h before = before
      by false e false w h before = before

pub only_deleted : ExpungesDeleted
only_deleted set known mailbox uid e =
    let last = last_of numbering.Uid mailbox.next_uid known in
    sym (among_taken set last known uid mailbox.rows)
    ∙ first_among uid (events_left mailbox) (row_uids (filter (is_taken set last known) mailbox.rows)) e

pub all_deleted : ExpungesAll
all_deleted set known mailbox uid few =
    let last = last_of numbering.Uid mailbox.next_uid known in
    let le = fewer (is_taken set last known) mailbox.rows in
    ap (is_among uid) (all_taken (events_left mailbox) (row_uids (filter (is_taken set last known) mailbox.rows)) (omega (arith, le, few)))
    ∙ among_taken set last known uid mailbox.rows
