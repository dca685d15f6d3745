-- The sessions of a user as entries, with their room and without.
use Rattle.std.proofs.Common.{◌≡◌, ℕ, zero, suc, ◌<◌, Bool, true, false, cond, not, eqb, ltb, ◌&&◌, ◌||◌, List, [], ◌∷◌, ◌++◌, length, get_or, set, map as map_list, Option, Some, None, refl, sym, ap, ◌∙◌, arith}
use Rattle.std.specs.List.{list_any, position, position_or_len}
use Rattle.std.proofs.lemmas.Bool.{eqb-true, ltb-false}
use Rattle.std.proofs.lemmas.Bool.Decides.{nat_tests}
use Rattle.std.proofs.lemmas.List.Quantifiers.{position-Some}
use Rattle.std.proofs.lemmas.List.Sums.{fails_before_first}
use Rattle.std.specs.Ordering.{nat_cmp, eq_by_cmp}
use Rattle.std.specs.Cmp.{nat_cmp_total}
use Rattle.std.specs.FinMap as map
use Rattle.std.specs.FinMap.{find, FinMap, from_entries, get-from_entries, get-insert, same_map, nat_cmp-IsAntisymmetric}
use Rattle.imap_sessions.specs.Held.{HeldSession}
use Rattle.imap_sessions.specs.Sessions.{HeldOwn, are_apart, states_of}
use Rattle.imap_sessions.proofs.Numbered.{at_number, others, turned}

-- ---- what is taken out and put

pub states_others : (es : List (ℕ × HeldSession)) (k : ℕ) → states_of (others k es) ≡ others k (states_of es)
states_others [] k = refl
states_others (e ∷ es) k = by (eqb e.0 k) (states_others es k)
  where
    by : (b : Bool) → states_of (others k es) ≡ others k (states_of es) → states_of (cond (not b) (e ∷ others k es) (others k es)) ≡ cond (not b) ((e.0, e.1.state) ∷ others k (states_of es)) (others k (states_of es))
    by true rest = rest
    by false rest = ap (λ l. (e.0, e.1.state) ∷ l) rest

pub states_push : (es : List (ℕ × HeldSession)) (e : ℕ × HeldSession) → states_of (es ++ e ∷ []) ≡ states_of es ++ (e.0, e.1.state) ∷ []
states_push [] e = refl
states_push (f ∷ es) e = ap (λ l. (f.0, f.1.state) ∷ l) (states_push es e)

pub states_length : (es : List (ℕ × HeldSession)) → length (states_of es) ≡ length es
states_length [] = refl
states_length (e ∷ es) = ap suc (states_length es)

any_states : (es : List (ℕ × HeldSession)) (n : ℕ) → list_any (λ e. eqb e.0 n) (states_of es) ≡ list_any (λ e. eqb e.0 n) es
any_states [] n = refl
any_states (e ∷ es) n = ap (λ b. eqb e.0 n || b) (any_states es n)

pub states_apart : (es : List (ℕ × HeldSession)) → are_apart (states_of es) ≡ are_apart es
states_apart [] = refl
states_apart (e ∷ es) = λ i. not (any_states es e.0 i) && states_apart es i

-- ---- the entry with a number

abbrev pub has_number : (k : ℕ) → ℕ × HeldSession → Bool
has_number k e = eqb e.0 k

-- no earlier entry has the number
abbrev NoneBefore : (k : ℕ) → List (ℕ × HeldSession) → ℕ → ℕ × HeldSession → Type 0
NoneBefore k es i d = (j : ℕ) → j < i → eqb (get_or es j d).0 k ≡ false

pub number_at : (k : ℕ) (es : List (ℕ × HeldSession)) (i : ℕ) (e : ℕ × HeldSession) → position (has_number k) es ≡ Some i → e ≡ get_or es i e → eqb e.0 k ≡ true
number_at k es i e at is = ap (has_number k) is ∙ (position-Some (has_number k) es i e at).1

-- of each session what g gives, as its state, or the session itself
module _ {Y : Type 0} (g : HeldSession → Y) (k : ℕ) where
  abbrev shown : List (ℕ × HeldSession) → List (ℕ × Y)
  shown es = map_list (λ e. (e.0, g e.1)) es

  -- a look-up passes an entry with another number
  passed : (e : ℕ × HeldSession) (o : Option Y) → eqb e.0 k ≡ false → cond (eq_by_cmp nat_cmp k e.0) (Some (g e.1)) o ≡ o
  passed e o other = rw (at_number k e.0, turned k e.0, other) refl

  found_at : (es : List (ℕ × HeldSession)) (i : ℕ) (d : ℕ × HeldSession) → i < length es → eqb (get_or es i d).0 k ≡ true → NoneBefore k es i d
      → find nat_cmp k (shown es) ≡ Some (g (get_or es i d).1)
  found_at [] i d lt is none = absurd (omega (arith, lt))
  found_at (e ∷ es) zero d lt is none = rw (at_number k e.0, turned k e.0, is) refl
  found_at (e ∷ es) (suc i) d lt is none = passed e (find nat_cmp k (shown es)) (none 0 (omega arith)) ∙ found_at es i d (omega (arith, lt)) is (λ j less. none (suc j) (omega (arith, less)))

  nowhere : (es : List (ℕ × HeldSession)) (d : ℕ × HeldSession) → NoneBefore k es (length es) d → find nat_cmp k (shown es) ≡ None
  nowhere [] d none = refl
  nowhere (e ∷ es) d none = passed e (find nat_cmp k (shown es)) (none 0 (omega arith)) ∙ nowhere es d (λ j less. none (suc j) (omega (arith, less)))

  -- another one in its place
  found_set : (es : List (ℕ × HeldSession)) (f : ℕ × HeldSession) (i q : ℕ) (d : ℕ × HeldSession) → eqb f.0 k ≡ true → i < length es → eqb (get_or es i d).0 k ≡ true → NoneBefore k es i d
      → find nat_cmp q (shown (set es i f)) ≡ cond (eq_by_cmp nat_cmp q k) (Some (g f.1)) (find nat_cmp q (shown es))
  found_set [] f i q d same lt is none = absurd (omega (arith, lt))
  found_set (e ∷ es) f zero q d same lt is none =
      ap (λ b. cond b (Some (g f.1)) (find nat_cmp q (shown es))) (key f.0 same)
      ∙ here (eq_by_cmp nat_cmp q k)
      ∙ ap (λ b. cond (eq_by_cmp nat_cmp q k) (Some (g f.1)) (cond b (Some (g e.1)) (find nat_cmp q (shown es)))) (sym (key e.0 is))
    where
      key : (n : ℕ) → eqb n k ≡ true → eq_by_cmp nat_cmp q n ≡ eq_by_cmp nat_cmp q k
      key n is = ap (eq_by_cmp nat_cmp q) (eqb-true n k is)

      here : (b : Bool) → cond b (Some (g f.1)) (find nat_cmp q (shown es)) ≡ cond b (Some (g f.1)) (cond b (Some (g e.1)) (find nat_cmp q (shown es)))
      here true = refl
      here false = refl
  found_set (e ∷ es) f (suc i) q d same lt is none =
      ap (λ o. cond (eq_by_cmp nat_cmp q e.0) (Some (g e.1)) o) (found_set es f i q d same (omega (arith, lt)) is (λ j less. none (suc j) (omega (arith, less))))
      ∙ later (eq_by_cmp nat_cmp q e.0) (eq_by_cmp nat_cmp q k) (Some (g e.1)) (find nat_cmp q (shown es)) (apart e.0 (none 0 (omega arith)))
    where
      apart : (n : ℕ) → eqb n k ≡ false → eq_by_cmp nat_cmp q n ≡ true → eq_by_cmp nat_cmp q k ≡ false
      apart n other h = at_number q k ∙ ap (λ m. eqb m k) (eqb-true q n (sym (at_number q n) ∙ h)) ∙ other

      later : (b c : Bool) (x y : Option Y) → (b ≡ true → c ≡ false) → cond b x (cond c (Some (g f.1)) y) ≡ cond c (Some (g f.1)) (cond b x y)
      later true true x y h = absurd (cc (h refl))
      later true false x y h = refl
      later false c x y h = refl

  abbrev own : List (ℕ × HeldSession) → FinMap {K = ℕ} nat_cmp Y
  own es = from_entries (shown es)

  pub get_at : (es : List (ℕ × HeldSession)) (i : ℕ) (e : ℕ × HeldSession) → position (has_number k) es ≡ Some i → e ≡ get_or es i e → map.get (own es) k ≡ Some (g e.1)
  get_at es i e at is =
      let first = position-Some (has_number k) es i e at in
      get-from_entries nat_cmp_total (shown es) k ∙ found_at es i e first.0 first.1 first.2 ∙ ap (λ (e : ℕ × HeldSession). Some (g e.1)) (sym is)

  pub get_nowhere : (es : List (ℕ × HeldSession)) → position (has_number k) es ≡ None → map.get (own es) k ≡ None
  get_nowhere [] at = get-from_entries nat_cmp_total [] k
  get_nowhere (e ∷ es) at = get-from_entries nat_cmp_total (shown (e ∷ es)) k ∙ nowhere (e ∷ es) e (λ j less. fails_before_first (has_number k) (e ∷ es) j e (past (position_or_len (has_number k) (e ∷ es)) (length (e ∷ es)) j at less))
    where
      past : (p n j : ℕ) → cond (ltb p n) (Some p) None ≡ None → j < n → j < p
      past p n j at less = by (ltb p n) refl at
        where
          by : (b : Bool) → ltb p n ≡ b → cond b (Some p) None ≡ None → j < p
          by true is h = absurd (cc h)
          by false is h = omega (arith, ltb-false p n is, less)

  -- a session that stays under its number
  pub own_set : (es : List (ℕ × HeldSession)) (i : ℕ) (e f : ℕ × HeldSession) → position (has_number k) es ≡ Some i → e ≡ get_or es i e → f.0 ≡ e.0 → own (set es i f) ≡ map.insert (own es) k (g f.1)
  own_set es i e f at is same =
      let first = position-Some (has_number k) es i e at in
      let key : eqb f.0 k ≡ true = ap (λ n. eqb n k) same ∙ number_at k es i e at is in
      same_map nat_cmp_total nat_cmp-IsAntisymmetric _ _ (λ q. get-from_entries nat_cmp_total (shown (set es i f)) q ∙ found_set es f i q e key first.0 first.1 first.2
      ∙ ap (λ o. cond (eq_by_cmp nat_cmp q k) (Some (g f.1)) o) (sym (get-from_entries nat_cmp_total (shown es) q))
      ∙ sym (get-insert nat_cmp_total (own es) k (g f.1) q))

any_set : (es : List (ℕ × HeldSession)) (i n : ℕ) (e f : ℕ × HeldSession) → i < length es → e ≡ get_or es i e → f.0 ≡ e.0 → list_any (λ g. eqb g.0 n) (set es i f) ≡ list_any (λ g. eqb g.0 n) es
any_set [] i n e f lt is same = absurd (omega (arith, lt))
any_set (g ∷ es) zero n e f lt is same = ap (λ m. eqb m n || list_any (λ g. eqb g.0 n) es) (same ∙ ap (λ (h : ℕ × HeldSession). h.0) is)
any_set (g ∷ es) (suc i) n e f lt is same = ap (λ b. eqb g.0 n || b) (any_set es i n e f (omega (arith, lt)) is same)

-- and all stay apart
pub apart_set : (es : List (ℕ × HeldSession)) (i : ℕ) (e f : ℕ × HeldSession) → i < length es → e ≡ get_or es i e → f.0 ≡ e.0 → are_apart (set es i f) ≡ are_apart es
apart_set [] i e f lt is same = absurd (omega (arith, lt))
apart_set (g ∷ es) zero e f lt is same = ap (λ n. not (list_any (λ h. eqb h.0 n) es) && are_apart es) (same ∙ ap (λ (h : ℕ × HeldSession). h.0) is)
apart_set (g ∷ es) (suc i) e f lt is same = λ t. not (any_set es i g.0 e f (omega (arith, lt)) is same t) && apart_set es i e f (omega (arith, lt)) is same t

-- ---- with their room

itself : (n : ℕ) → eqb n n ≡ true
itself n = grind (arith, nat_tests)

shown_whole : (es : List (ℕ × HeldSession)) → map_list (λ e. (e.0, e.1)) es ≡ es
shown_whole [] = refl
shown_whole (e ∷ es) = ap (λ (l : List (ℕ × HeldSession)). e ∷ l) (shown_whole es)

abbrev held : List (ℕ × HeldSession) → HeldOwn
held es = from_entries es

pub held_at : (k : ℕ) (es : List (ℕ × HeldSession)) (i : ℕ) (e : ℕ × HeldSession) → position (has_number k) es ≡ Some i → e ≡ get_or es i e → map.get (held es) k ≡ Some e.1
held_at k es i e at is = ap (λ l. map.get (held l) k) (sym (shown_whole es)) ∙ get_at (λ (h : HeldSession). h) k es i e at is

pub held_nowhere : (k : ℕ) (es : List (ℕ × HeldSession)) → position (has_number k) es ≡ None → map.get (held es) k ≡ None
held_nowhere k es at = ap (λ l. map.get (held l) k) (sym (shown_whole es)) ∙ get_nowhere (λ (h : HeldSession). h) k es at

pub held_set : (k : ℕ) (es : List (ℕ × HeldSession)) (i : ℕ) (e f : ℕ × HeldSession) → position (has_number k) es ≡ Some i → e ≡ get_or es i e → f.0 ≡ e.0 → held (set es i f) ≡ map.insert (held es) k f.1
held_set k es i e f at is same =
    ap held (sym (shown_whole (set es i f))) ∙ own_set (λ (h : HeldSession). h) k es i e f at is same ∙ ap (λ l. map.insert (held l) k f.1) (shown_whole es)

pub held_put : (k : ℕ) (es : List (ℕ × HeldSession)) (i : ℕ) (e f : ℕ × HeldSession) → position (has_number k) es ≡ Some i → e ≡ get_or es i e → f.0 ≡ e.0 → map.get (held (set es i f)) k ≡ Some f.1
held_put k es i e f at is same =
    ap (λ (own : HeldOwn). map.get own k) (held_set k es i e f at is same) ∙ get-insert nat_cmp_total (held es) k f.1 k
    ∙ ap (λ b. cond b (Some f.1) (map.get (held es) k)) (at_number k k ∙ itself k)

-- a session that changes its room alone
pub states_set : (es : List (ℕ × HeldSession)) (i : ℕ) (e f : ℕ × HeldSession) → i < length es → e ≡ get_or es i e → f.0 ≡ e.0 → f.1.state ≡ e.1.state → states_of (set es i f) ≡ states_of es
states_set [] i e f lt is same state = absurd (omega (arith, lt))
states_set (g ∷ es) zero e f lt is same state =
    λ t. ((same ∙ ap (λ (h : ℕ × HeldSession). h.0) is) t, (state ∙ ap (λ (h : ℕ × HeldSession). h.1.state) is) t) ∷ states_of es
states_set (g ∷ es) (suc i) e f lt is same state = ap (λ l. (g.0, g.1.state) ∷ l) (states_set es i e f (omega (arith, lt)) is same state)
