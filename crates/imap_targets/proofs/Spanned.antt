-- The places among which the messages of a set stand.
use Rattle.std.proofs.Common.{◌≡◌, ℕ, zero, suc, ◌+◌, ◌<◌, ◌≤◌, Bool, true, false, cond, ◌||◌, ◌&&◌, List, [], ◌∷◌, length, drop, drop-cons, get_or, ◌⊎◌, inl, inr, refl, sym, ap, ◌∙◌, arith}
use Rattle.std.specs.Prelude.{nat_le, nat_lt}
use Rattle.std.specs.List.{prefix_len}
use Rattle.std.proofs.lemmas.Bool.{leb-true, ltb-true, ltb-false}
use Rattle.std.proofs.lemmas.List.{get_or-drop, length-drop}
use Rattle.imap_mailbox.specs.Summary.{Rises}
use Rattle.imap_session.specs.Held.{UidsRise}
use Rattle.imap_syntax.specs.declared.set.Numbering.{Numbering}
use Rattle.imap_syntax.specs.declared.set.SeqRange.{SeqRange}
use Rattle.imap_targets.specs.declared.message_numbers.MessageNumbers.{MessageNumbers}
use Rattle.imap_targets.specs.Spans.{AreBounds, IsSpan, IsWithin, name_at}
use Rattle.imap_targets.specs.declared.message_numbers.Numbered.{Numbered}
use Rattle.imap_targets.specs.MessageNumbers.{end_of, in_range, in_set, is_between, messages_from, number_by}

-- ---- a set between its bounds

-- a number between two ends lies between all that they lie between
pub between : (first second n : ℕ) → is_between first second n ≡ true → ((first ≤ n) × (n ≤ second)) ⊎ ((second ≤ n) × (n ≤ first))
between first second n e = by (nat_le first n) (nat_le n second) (nat_le second n) (nat_le n first) refl refl refl refl e
  where
    by : (a b c d : Bool) → nat_le first n ≡ a → nat_le n second ≡ b → nat_le second n ≡ c → nat_le n first ≡ d → ((a && b) || (c && d)) ≡ true
        → ((first ≤ n) × (n ≤ second)) ⊎ ((second ≤ n) × (n ≤ first))
    by true true c d p q r s e = inl (leb-true first n p, leb-true n second q)
    by true false true true p q r s e = inr (leb-true second n r, leb-true n first s)
    by false b true true p q r s e = inr (leb-true second n r, leb-true n first s)
    by true false true false p q r s e = absurd (cc e)
    by true false false d p q r s e = absurd (cc e)
    by false b true false p q r s e = absurd (cc e)
    by false b false d p q r s e = absurd (cc e)

-- so far: a number of the set lies between the bounds, or is one of what is left
abbrev pub AreBoundsFor : (last : ℕ) → (ranges left : List SeqRange) → (low high : ℕ) → Type 0
AreBoundsFor last ranges left low high = (n : ℕ) → in_set last ranges n ≡ true → ((low ≤ n) × (n ≤ high)) ⊎ (in_set last left n ≡ true)

-- one range more
pub one_more : (last low high : ℕ) (ranges left : List SeqRange) (range : SeqRange) (less more : ℕ)
    → less ≤ low → less ≤ end_of last range.first → less ≤ end_of last range.last → high ≤ more → end_of last range.first ≤ more → end_of last range.last ≤ more
    → AreBoundsFor last ranges (range ∷ left) low high → AreBoundsFor last ranges left less more
one_more last low high ranges left range less more a b c d e f before n named = by (before n named)
  where
    inside : ((end_of last range.first ≤ n) × (n ≤ end_of last range.last)) ⊎ ((end_of last range.last ≤ n) × (n ≤ end_of last range.first)) → (less ≤ n) × (n ≤ more)
    inside (inl h) = let x = h.0 in let y = h.1 in (omega (arith, b, x), omega (arith, y, f))
    inside (inr h) = let x = h.0 in let y = h.1 in (omega (arith, c, x), omega (arith, y, e))

    of_range : (t : Bool) → in_range last n range ≡ t → (t || in_set last left n) ≡ true → ((less ≤ n) × (n ≤ more)) ⊎ (in_set last left n ≡ true)
    of_range true is h = inl (inside (between (end_of last range.first) (end_of last range.last) n is))
    of_range false is h = inr h

    by : ((low ≤ n) × (n ≤ high)) ⊎ (in_set last (range ∷ left) n ≡ true) → ((less ≤ n) × (n ≤ more)) ⊎ (in_set last left n ≡ true)
    by (inl h) = let x = h.0 in let y = h.1 in inl (omega (arith, a, x), omega (arith, y, d))
    by (inr h) = of_range (in_range last n range) refl h

pub none_left : (last low high : ℕ) (ranges : List SeqRange) → AreBoundsFor last ranges [] low high → AreBounds last ranges low high
none_left last low high ranges h n named = by (h n named)
  where
    by : ((low ≤ n) × (n ≤ high)) ⊎ (false ≡ true) → (low ≤ n) × (n ≤ high)
    by (inl e) = e
    by (inr e) = absurd (cc e)

unnamed : (last low high n : ℕ) (ranges : List SeqRange) → AreBounds last ranges low high → (((low ≤ n) × (n ≤ high)) → ⊥) → in_set last ranges n ≡ false
unnamed last low high n ranges bounds out = by (in_set last ranges n) refl
  where
    by : (b : Bool) → in_set last ranges n ≡ b → b ≡ false
    by true e = absurd (out (bounds n e))
    by false e = refl

-- ---- along the known list

module _ (by : Numbering) (last : ℕ) (ranges : List SeqRange) (known : List ℕ) where
  -- none of the first messages is named
  skipped_to : (i : ℕ) (d : ℕ) → i ≤ length known → ((k : ℕ) → k < i → in_set last ranges (name_at by known k d) ≡ false) → messages_from by last ranges (i + 1) (drop i known) ≡ messages_from by last ranges 1 known
  skipped_to zero d le none = refl
  skipped_to (suc i) d le none =
      let m : Numbered = record { number = i + 1; uid = get_or known i d } in
      sym (
      ap (messages_from by last ranges (i + 1)) (drop-cons known i d (omega arith))
      ∙ ap (λ b. cond b (m ∷ messages_from by last ranges (i + 1 + 1) (drop (suc i) known)) (messages_from by last ranges (i + 1 + 1) (drop (suc i) known))) (none i (omega arith))
      ∙ ap (λ n. messages_from by last ranges n (drop (suc i) known)) (let z : i + 1 + 1 ≡ suc i + 1 = omega arith in z))
      ∙ skipped_to i d (omega arith) (λ k lt. none k (omega (arith, lt)))

-- none of the messages is named
none_named : (by : Numbering) (last : ℕ) (ranges : List SeqRange) (n : ℕ) (known : List ℕ) (d : ℕ)
    → ((k : ℕ) → k < length known → in_set last ranges (number_by by (record { number = n + k; uid = get_or known k d })) ≡ false) → messages_from by last ranges n known ≡ []
none_named by last ranges n [] d none = refl
none_named by last ranges n (k ∷ known) d none =
    let m : Numbered = record { number = n; uid = k } in
    let first : in_set last ranges (number_by by m) ≡ false = ap (λ i. in_set last ranges (number_by by (record { number = i; uid = k }))) (let z : n ≡ n + 0 = omega arith in z) ∙ none 0 (omega arith) in
    ap (λ b. cond b (m ∷ messages_from by last ranges (n + 1) known) (messages_from by last ranges (n + 1) known)) first
    ∙ none_named by last ranges (n + 1) known d (λ j lt.
    ap (λ i. in_set last ranges (number_by by (record { number = i; uid = get_or known j d }))) (let z : (n + 1) + j ≡ n + suc j = omega arith in z) ∙ none (suc j) (omega (arith, lt)))

module _ (m : MessageNumbers) (low high : ℕ) (bounds : AreBounds m.last m.ranges.now low high) where
  with_one : (known : List ℕ) (d : ℕ) (start end : ℕ) → UidsRise known → IsWithin m.numbering low high known start end → IsSpan m known start end
  with_one known d start end rise is = record {
    rise = rise;
    order = is.order;
    within = is.within;
    before = skipped_to m.numbering m.last m.ranges.now known start d (omega (arith, is.order, is.within)) (λ k lt.
        unnamed m.last low high (name_at m.numbering known k d) m.ranges.now bounds (λ h. let x = h.0 in let y = is.less k d lt in omega (arith, x, y)));
    after = none_named m.numbering m.last m.ranges.now (end + 1) (drop end known) d (λ k lt.
        ap (in_set m.last m.ranges.now) (λ j. number_by m.numbering (record { number = turn k j; uid = get_or-drop end known k d j }))
        ∙ unnamed m.last low high (name_at m.numbering known (end + k) d) m.ranges.now bounds
        (λ h. let x = h.1 in let y = is.more (end + k) d (omega arith) (omega (arith, lt, length-drop end known)) in omega (arith, x, y)));
  }
    where
      turn : (k : ℕ) → (end + 1) + k ≡ (end + k) + 1
      turn k = omega arith

  pub span_is : (known : List ℕ) (start end : ℕ) → UidsRise known → IsWithin m.numbering low high known start end → IsSpan m known start end
  span_is [] start end rise is =
      let none : end ≡ 0 = omega (arith, is.within) in
      let first : start ≡ 0 = omega (arith, none, is.order) in
      record {
        rise = rise;
        order = is.order;
        within = is.within;
        before = ap (λ i. messages_from m.numbering m.last m.ranges.now (i + 1) (drop i [])) first;
        after = ap (λ i. messages_from m.numbering m.last m.ranges.now (i + 1) (drop i [])) none;
      }
  span_is (k ∷ known) start end rise is = with_one (k ∷ known) k start end rise is

-- ---- UIDs that rise

below : (f : ℕ → Bool) (known : List ℕ) (k : ℕ) (d : ℕ) → k < prefix_len f known → f (get_or known k d) ≡ true
below f [] k d lt = absurd (omega (arith, lt))
below f (m ∷ known) k d lt = by (f m) refl k lt (λ j. below f known j d)
  where
    by : (b : Bool) → f m ≡ b → (k : ℕ) → k < cond b (1 + prefix_len f known) 0 → ((j : ℕ) → j < prefix_len f known → f (get_or known j d) ≡ true) → f (get_or (m ∷ known) k d) ≡ true
    by true e zero lt later = e
    by true e (suc k) lt later = later k (omega (arith, lt))
    by false e k lt later = absurd (omega (arith, lt))

pub lower_uids : (uid : ℕ) (known : List ℕ) (k : ℕ) (d : ℕ) → k < prefix_len (λ (m : ℕ). nat_lt m uid) known → get_or known k d < uid
lower_uids uid known k d lt = ltb-true (get_or known k d) uid (below (λ (m : ℕ). nat_lt m uid) known k d lt)

rising : (low high : ℕ) (known : List ℕ) (k : ℕ) (d : ℕ) → Rises low high known → k < length known → low ≤ get_or known k d
rising low high [] k d h lt = absurd (omega (arith, lt))
rising low high (m ∷ known) zero d h lt = h.0
rising low high (m ∷ known) (suc k) d h lt = let at : low ≤ m = h.0 in let rest = rising (m + 1) high known k d h.1 (omega (arith, lt)) in omega (arith, at, rest)

pub upper_uids : (uid low high : ℕ) (known : List ℕ) (k : ℕ) (d : ℕ) → Rises low high known → prefix_len (λ (m : ℕ). nat_lt m uid) known ≤ k → k < length known → uid ≤ get_or known k d
upper_uids uid low high [] k d h le lt = absurd (omega (arith, lt))
upper_uids uid low high (m ∷ known) k d h le lt = by (nat_lt m uid) refl k le lt (λ j. upper_uids uid (m + 1) high known j d h.1)
  where
    by : (b : Bool) → nat_lt m uid ≡ b → (k : ℕ) → cond b (1 + prefix_len (λ (m : ℕ). nat_lt m uid) known) 0 ≤ k → k < length (m ∷ known)
        → ((j : ℕ) → prefix_len (λ (m : ℕ). nat_lt m uid) known ≤ j → j < length known → uid ≤ get_or known j d) → uid ≤ get_or (m ∷ known) k d
    by true e zero le lt later = absurd (omega (arith, le))
    by true e (suc k) le lt later = later k (omega (arith, le)) (omega (arith, lt))
    by false e zero le lt later = ltb-false m uid e
    by false e (suc k) le lt later = let at = ltb-false m uid e in let rest = rising (m + 1) high known k d h.1 (omega (arith, lt)) in omega (arith, at, rest)
