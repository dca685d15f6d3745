-- Where the messages that SEARCH finds stand.
use Rattle.std.proofs.Common.{◌≡◌, ◌∙◌, ℕ, zero, suc, ◌+◌, ◌<◌, ◌≤◌, Bool, true, false, cond, ◌&&◌, List, [], ◌∷◌, ◌++◌, append-nil, drop, drop-cons, get_or, ◌-◌, length, map, eqb, min, ◌⊎◌, inl, inr, Option, Some, None, refl, sym, ap, subst, arith}
use Rattle.std.specs.List.{list_all}
use Rattle.std.proofs.lemmas.Bool.{cases_lt, eqb-true}
use Rattle.std.proofs.lemmas.List.{get_or-drop, length-drop}
use Rattle.imap_mailbox.specs.Rows.{Row}
use Rattle.imap_query.specs.declared.search.SearchKey.{SearchKey}
use Rattle.imap_query.specs.Keys.{Key, all_tokens, key_of, numbers, plain}
use Rattle.imap_syntax.specs.declared.set.MessageSet.{MessageSet}
use Rattle.imap_syntax.specs.declared.set.Numbering.{Numbering}
use Rattle.imap_syntax.specs.declared.set.Numbering.TheVariants.{Sequence}
use Rattle.imap_syntax.specs.declared.set.SeqRange.{SeqRange}
use Rattle.imap_targets.specs.declared.message_numbers.MessageNumbers.{MessageNumbers}
use Rattle.imap_targets.specs.declared.message_numbers.Numbered.{Numbered}
use Rattle.imap_targets.specs.MessageNumbers.{in_set, messages_from, number_by, ranges_of, row_with}
use Rattle.imap_targets.specs.Spans.{IsSpan, name_at}
use Rattle.imap_search.specs.declared.results.FoundMessage.{FoundMessage}
use Rattle.imap_search.specs.Finds.{Candidate, finds}
use Rattle.imap_search.specs.Search.{SearchArguments, candidate_of, found_from, found_if_there, found_of}
use Rattle.imap_search.specs.Span.{AreAmong, AreNamedAmong, FindsAmong, IsMissed}
use Rattle.imap_search.specs.Tokens.{finds_all}
use Rattle.imap_search.proofs.Finding.{tokens_find}

-- ---- one set

module _ (by : Numbering) (last : ℕ) (ranges : List SeqRange) where
  abbrev named : (n : ℕ) → ℕ → Bool
  named n k = in_set last ranges (number_by by (record { number = n; uid = k }))

  abbrev first_if : (n : ℕ) → ℕ → List ℕ → Bool → List Numbered
  first_if n k known b = cond b (record { number = n; uid = k } ∷ messages_from by last ranges (n + 1) known) (messages_from by last ranges (n + 1) known)

  abbrev count : (n : ℕ) → List ℕ → ℕ
  count n known = length (messages_from by last ranges n known)

  -- no more messages are named among some of them
  fewer : (i n : ℕ) (known : List ℕ) → count (n + i) (drop i known) ≤ count n known
  fewer zero n known =
      let same : count (n + 0) known ≡ count n known = ap (λ m. count m known) (let z : n + 0 ≡ n = omega arith in z) in
      omega (arith, same)
  fewer (suc i) n [] = omega arith
  fewer (suc i) n (k ∷ known) = either (named n k) (fewer i (n + 1) known)
    where
      turned : count ((n + 1) + i) (drop i known) ≡ count (n + suc i) (drop i known)
      turned = ap (λ m. count m (drop i known)) (let z : (n + 1) + i ≡ n + suc i = omega arith in z)

      either : (b : Bool) → count ((n + 1) + i) (drop i known) ≤ count (n + 1) known → count (n + suc i) (drop i known) ≤ length (first_if n k known b)
      either true rest = let same = turned in omega (arith, rest, same)
      either false rest = let same = turned in omega (arith, rest, same)

  -- where no more are named than among the others, none of the first is named
  not_first : (i n : ℕ) (known : List ℕ) (index : ℕ) (d : ℕ) → index < i → index < length known
      → count (n + i) (drop i known) ≡ count n known → named (n + index) (get_or known index d) ≡ false
  not_first zero n known index d lt le same = absurd (omega (arith, lt))
  not_first (suc i) n [] index d lt le same = absurd (omega (arith, le))
  not_first (suc i) n (k ∷ known) index d lt le same =
      either (named n k) refl same index lt le (λ j l m e. not_first i (n + 1) known j d l m e)
    where
      turned : count ((n + 1) + i) (drop i known) ≡ count (n + suc i) (drop i known)
      turned = ap (λ m. count m (drop i known)) (let z : (n + 1) + i ≡ n + suc i = omega arith in z)

      Later : Type 0
      Later = (j : ℕ) → j < i → j < length known → count ((n + 1) + i) (drop i known) ≡ count (n + 1) known → named ((n + 1) + j) (get_or known j d) ≡ false

      by_index : (index : ℕ) → index < suc i → index < suc (length known) → named n k ≡ false → count (n + suc i) (drop i known) ≡ count (n + 1) known → Later
          → named (n + index) (get_or (k ∷ known) index d) ≡ false
      by_index zero lt le unnamed same later = ap (λ m. named m k) (let z : n + 0 ≡ n = omega arith in z) ∙ unnamed
      by_index (suc j) lt le unnamed same later =
          ap (λ m. named m (get_or known j d)) (let z : n + suc j ≡ (n + 1) + j = omega arith in z)
          ∙ later j (omega (arith, lt)) (omega (arith, le)) (turned ∙ same)

      either : (b : Bool) → named n k ≡ b → count (n + suc i) (drop i known) ≡ length (first_if n k known b) → (index : ℕ) → index < suc i → index < suc (length known) → Later
          → named (n + index) (get_or (k ∷ known) index d) ≡ false
      either true named_here same index lt le later =
          absurd (let rest = fewer i (n + 1) known in let turn = turned in omega (arith, rest, same, turn))
      either false unnamed same index lt le later = by_index index lt le unnamed same later

  -- where none is named, none of them is
  not_one : (n : ℕ) (known : List ℕ) (index : ℕ) (d : ℕ) → index < length known → messages_from by last ranges n known ≡ [] → named (n + index) (get_or known index d) ≡ false
  not_one n [] index d le none = absurd (omega (arith, le))
  not_one n (k ∷ known) index d le none = either (named n k) refl none index le (λ j l e. not_one (n + 1) known j d l e)
    where
      Later : Type 0
      Later = (j : ℕ) → j < length known → messages_from by last ranges (n + 1) known ≡ [] → named ((n + 1) + j) (get_or known j d) ≡ false

      by_index : (index : ℕ) → index < suc (length known) → named n k ≡ false → messages_from by last ranges (n + 1) known ≡ [] → Later → named (n + index) (get_or (k ∷ known) index d) ≡ false
      by_index zero le unnamed none later = ap (λ m. named m k) (let z : n + 0 ≡ n = omega arith in z) ∙ unnamed
      by_index (suc j) le unnamed none later =
          ap (λ m. named m (get_or known j d)) (let z : n + suc j ≡ (n + 1) + j = omega arith in z) ∙ later j (omega (arith, le)) none

      either : (b : Bool) → named n k ≡ b → first_if n k known b ≡ [] → (index : ℕ) → index < suc (length known) → Later → named (n + index) (get_or (k ∷ known) index d) ≡ false
      either true named_here none index le later = absurd (cc none)
      either false unnamed none index le later = by_index index le unnamed none later

pub named_among : (m : MessageNumbers) (known : List ℕ) (start end : ℕ) → IsSpan m known start end → AreNamedAmong m.numbering m.last m.ranges.now known start end
named_among m known start end is = record {
  order = is.order;
  within = is.within;
  before = λ index d lt.
      ap (λ n. named m.numbering m.last m.ranges.now n (get_or known index d)) (let z : index + 1 ≡ 1 + index = omega arith in z)
      ∙ not_first m.numbering m.last m.ranges.now start 1 known index d lt (omega (arith, lt, is.order, is.within))
      (ap (λ n. length (messages_from m.numbering m.last m.ranges.now n (drop start known))) (let z : 1 + start ≡ start + 1 = omega arith in z) ∙ ap length is.before);
  after = λ index d le lt. later (index - end) index d (omega (arith, le)) lt;
}
  where
    turn : (j : ℕ) → (end + 1) + j ≡ (end + j) + 1
    turn j = omega arith

    later : (j index : ℕ) (d : ℕ) → index ≡ end + j → index < length known → in_set m.last m.ranges.now (name_at m.numbering known index d) ≡ false
    later j index d is_at lt =
        ap (λ i. named m.numbering m.last m.ranges.now (i + 1) (get_or known i d)) is_at
        ∙ sym (λ i. named m.numbering m.last m.ranges.now (turn j i) (get_or-drop end known j d i))
        ∙ not_one m.numbering m.last m.ranges.now (end + 1) (drop end known) j d (omega (arith, lt, is_at, length-drop end known)) is.after

-- ---- keys

pub whole : (keys : List Key) (last last_uid : ℕ) (known : List ℕ) (end : ℕ) → end ≡ length known → AreAmong keys last last_uid known 0 end
whole keys last last_uid known end all = record {
  order = omega arith;
  within = omega (arith, all);
  before = λ index lt. absurd (omega (arith, lt));
  after = λ index le lt. absurd (omega (arith, le, lt, all));
}

pub numbers_among : (messages : MessageSet) (last last_uid : ℕ) (known : List ℕ) (start end : ℕ) → AreNamedAmong Sequence last (ranges_of messages) known start end → AreAmong (plain (numbers messages) ∷ []) last last_uid known start end
numbers_among messages last last_uid known start end is = record {
  order = is.order;
  within = is.within;
  before = λ index lt d row at. ap (λ b. b && true) (is.before index d lt);
  after = λ index le lt d row at. ap (λ b. b && true) (is.after index d le lt);
}

and_false : (a b : Bool) → a ≡ false → (a && b) ≡ false
and_false true b e = absurd (cc e)
and_false false b e = refl

and_second : (a b : Bool) → b ≡ false → (a && b) ≡ false
and_second true b e = e
and_second false b e = refl

one_of : (a : Bool) → (a && true) ≡ false → a ≡ false
one_of true e = e
one_of false e = e

-- one key of several that doesn't find the message
missed_by : (c : Candidate) (keys : List SearchKey) (i : ℕ) (d : SearchKey) → i < length keys → finds c (key_of (get_or keys i d)) ≡ false → list_all (finds c) (map key_of keys) ≡ false
missed_by c [] i d lt e = absurd (omega (arith, lt))
missed_by c (k ∷ keys) zero d lt e = and_false (finds c (key_of k)) (list_all (finds c) (map key_of keys)) e
missed_by c (k ∷ keys) (suc i) d lt e = and_second (finds c (key_of k)) (list_all (finds c) (map key_of keys)) (missed_by c keys i d (omega (arith, lt)) e)

pub narrowed : (keys : List SearchKey) (i : ℕ) (k : SearchKey) (last last_uid : ℕ) (known : List ℕ) (start end first after later s e : ℕ) (t : Bool)
    → later ≡ cond t start first → e ≡ min end after → s ≡ min later e → i < length keys → k ≡ get_or keys i k
    → AreAmong (key_of k ∷ []) last last_uid known first after → AreAmong (map key_of keys) last last_uid known start end
    → AreAmong (map key_of keys) last last_uid known s e
narrowed keys i k last last_uid known start end first after later s e t is_later is_e is_s within at one all = record {
  order = omega (arith, is_s);
  within = omega (arith, all.within, is_e);
  before = λ index lt. by_start t index (let far : index < later = omega (arith, lt, is_s) in subst (λ m. index < m) is_later far);
  after = λ index le lt. by_end index (omega (arith, le, is_e)) lt;
}
  where
    missed : (index : ℕ) → IsMissed (key_of k ∷ []) last last_uid known index → IsMissed (map key_of keys) last last_uid known index
    missed index is d row at_uid =
        let c = candidate_of last last_uid (index + 1) row in
        missed_by c keys i k within (ap (λ (s : SearchKey). finds c (key_of s)) (sym at) ∙ one_of (finds c (key_of k)) (is d row at_uid))

    by_start : (t : Bool) (index : ℕ) → index < cond t start first → IsMissed (map key_of keys) last last_uid known index
    by_start true index lt = all.before index lt
    by_start false index lt = missed index (one.before index lt)

    by_end : (index : ℕ) → min end after ≤ index → index < length known → IsMissed (map key_of keys) last last_uid known index
    by_end index le lt = either (cases_lt index end)
      where
        either : (index < end) ⊎ (end ≤ index) → IsMissed (map key_of keys) last last_uid known index
        either (inl less) = missed index (one.after index (omega (arith, le, less)) lt)
        either (inr more) = all.after index more lt

-- ---- what a command finds

row_uid : (uid : ℕ) (rows : List Row) (r : Row) → row_with uid rows ≡ Some r → r.uid ≡ uid
row_uid uid [] r e = absurd (cc e)
row_uid uid (s ∷ rows) r e = by (eqb s.uid uid) refl e (row_uid uid rows r)
  where
    by : (b : Bool) → eqb s.uid uid ≡ b → cond b (Some s) (row_with uid rows) ≡ Some r → (row_with uid rows ≡ Some r → r.uid ≡ uid) → r.uid ≡ uid
    by true is e later = let same : s ≡ r = cc e in ap (λ (x : Row). x.uid) (sym same) ∙ eqb-true s.uid uid is
    by false is e later = later e

module _ (arguments : SearchArguments) (last last_uid : ℕ) (rows : List Row) where
  abbrev here : (n : ℕ) → ℕ → List FoundMessage
  here n k = found_if_there arguments last last_uid n (row_with k rows)

  skipped_to : (known : List ℕ) (i : ℕ) (d : ℕ) → i ≤ length known → ((k : ℕ) → k < i → here (k + 1) (get_or known k d) ≡ [])
      → found_from arguments last last_uid rows (i + 1) (drop i known) ≡ found_from arguments last last_uid rows 1 known
  skipped_to known zero d le none = refl
  skipped_to known (suc i) d le none =
      sym (
      ap (found_from arguments last last_uid rows (i + 1)) (drop-cons known i d (omega arith))
      ∙ ap (λ f. f ++ found_from arguments last last_uid rows (i + 1 + 1) (drop (suc i) known)) (none i (omega arith))
      ∙ ap (λ n. found_from arguments last last_uid rows n (drop (suc i) known)) (let z : i + 1 + 1 ≡ suc i + 1 = omega arith in z))
      ∙ skipped_to known i d (omega arith) (λ k lt. none k (omega (arith, lt)))

  none_found : (n : ℕ) (known : List ℕ) (d : ℕ) → ((k : ℕ) → k < length known → here (n + k) (get_or known k d) ≡ []) → found_from arguments last last_uid rows n known ≡ []
  none_found n [] d none = refl
  none_found n (k ∷ known) d none =
      ap (λ f. f ++ found_from arguments last last_uid rows (n + 1) known) (ap (λ i. here i k) (let z : n ≡ n + 0 = omega arith in z) ∙ none 0 (omega arith))
      ∙ none_found (n + 1) known d (λ j lt. ap (λ i. here i (get_or known j d)) (let z : (n + 1) + j ≡ n + suc j = omega arith in z) ∙ none (suc j) (omega (arith, lt)))

  module _ (keys : List SearchKey) (are : all_tokens (map key_of keys) ≡ arguments.keys) where
    missed : (known : List ℕ) (index : ℕ) (d : ℕ) → IsMissed (map key_of keys) last last_uid known index → here (index + 1) (get_or known index d) ≡ []
    missed known index d is = by (row_with (get_or known index d) rows) refl
      where
        by : (o : Option Row) → row_with (get_or known index d) rows ≡ o → found_if_there arguments last last_uid (index + 1) o ≡ []
        by None e = refl
        by (Some r) e =
            let c = candidate_of last last_uid (index + 1) r in
            let found : finds_all c arguments.keys ≡ false = ap (finds_all c) (sym are) ∙ tokens_find c (map key_of keys) ∙ is d r (row_uid (get_or known index d) rows r e) in
            ap (λ b. cond b (found_of arguments.numbering (index + 1) r ∷ []) []) found

    before_all : (known : List ℕ) (start end : ℕ) → AreAmong (map key_of keys) last last_uid known start end
        → found_from arguments last last_uid rows (start + 1) (drop start known) ≡ found_from arguments last last_uid rows 1 known
    before_all [] start end is = ap (λ i. found_from arguments last last_uid rows (i + 1) (drop i [])) (let z : start ≡ 0 = omega (arith, is.order, is.within) in z)
    before_all (d ∷ ks) start end is = skipped_to (d ∷ ks) start d (omega (arith, is.order, is.within)) (λ k lt. missed (d ∷ ks) k d (is.before k lt))

    after_all : (known : List ℕ) (start end : ℕ) → AreAmong (map key_of keys) last last_uid known start end
        → found_from arguments last last_uid rows (end + 1) (drop end known) ≡ []
    after_all [] start end is = ap (λ i. found_from arguments last last_uid rows (i + 1) (drop i [])) (let z : end ≡ 0 = omega (arith, is.within) in z)
    after_all (d ∷ ks) start end is =
        none_found (end + 1) (drop end (d ∷ ks)) d (λ k lt.
        (λ i. here (turn k i) (get_or-drop end (d ∷ ks) k d i))
        ∙ missed (d ∷ ks) (end + k) d (is.after (end + k) (omega arith) (omega (arith, lt, length-drop end (d ∷ ks)))))
      where
        turn : (k : ℕ) → (end + 1) + k ≡ (end + k) + 1
        turn k = omega arith

pub found_among : (arguments : SearchArguments) (last last_uid : ℕ) (keys : List SearchKey) → all_tokens (map key_of keys) ≡ arguments.keys
    → (known : List ℕ) (start end : ℕ) → AreAmong (map key_of keys) last last_uid known start end → FindsAmong arguments last last_uid known start end
found_among arguments last last_uid keys are known start end is = record {
  order = is.order;
  within = is.within;
  before = λ rows. before_all arguments last last_uid rows keys are known start end is;
  after = λ rows. after_all arguments last last_uid rows keys are known start end is;
}

-- ---- the walk
pub at_end : (arguments : SearchArguments) (last last_uid : ℕ) (rows : List Row) (known : List ℕ) (start end : ℕ) (found all : List FoundMessage) → FindsAmong arguments last last_uid known start end
    → found ++ found_from arguments last last_uid rows (end + 1) (drop end known) ≡ all → found ≡ all
at_end arguments last last_uid rows known start end found all among is = sym (append-nil found) ∙ ap (λ l. found ++ l) (sym (among.after rows)) ∙ is
