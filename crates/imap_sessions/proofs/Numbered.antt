-- What a list of entries by their numbers is as a map.
use Rattle.std.proofs.Common.{◌≡◌, ℕ, suc, ◌-◌, ◌<◌, ◌≤◌, ◌⊎◌, inl, inr, Bool, true, false, cond, not, eqb, ◌&&◌, ◌||◌, List, [], ◌∷◌, ◌++◌, length, Option, Some, None, is_some, refl, sym, ap, ◌∙◌, arith}
use Rattle.std.specs.List.{list_any, filter}
use Rattle.std.specs.Ordering.{nat_cmp, eq_by_cmp}
use Rattle.std.specs.Cmp.{nat_cmp_total}
use Rattle.std.proofs.lemmas.Bool.Decides.{nat_tests}
use Rattle.std.specs.FinMap.{FinMap, find, get, insert, remove, contains_key, len, from_entries, get-from_entries, get-insert, get-remove, len-insert, len-empty, len-remove, same_map, nat_cmp-IsAntisymmetric, from_entries_push}
use Rattle.std.specs.FinMap.Entries.{find-where_key}
use Rattle.imap_sessions.specs.Sessions.{are_apart}

pub at_number : (m n : ℕ) → eq_by_cmp nat_cmp m n ≡ eqb m n
at_number m n = grind (arith, nat_tests)

pub both_true : (a b : Bool) → (a && b) ≡ true → (a ≡ true) × (b ≡ true)
both_true true b h = (refl, h)
both_true false b h = absurd (cc)

neither : (a b : Bool) → (a || b) ≡ false → (a ≡ false) × (b ≡ false)
neither true b h = absurd (cc)
neither false b h = (refl, h)

not_true : (b : Bool) → not b ≡ true → b ≡ false
not_true true h = absurd (cc)
not_true false h = refl

pub turned : (m n : ℕ) → eqb m n ≡ eqb n m
turned m n = grind (arith, nat_tests)

module _ {X : Type 0} where
  abbrev numbered : List (ℕ × X) → FinMap {K = ℕ} nat_cmp X
  numbered es = from_entries es

  abbrev pub others : ℕ → List (ℕ × X) → List (ℕ × X)
  others k es = filter (λ e. not (eqb e.0 k)) es

  find_there : (es : List (ℕ × X)) (k : ℕ) → is_some (find nat_cmp k es) ≡ list_any (λ e. eqb e.0 k) es
  find_there [] k = refl
  find_there (e ∷ es) k = by (eqb e.0 k) refl (find_there es k)
    where
      by : (b : Bool) → eqb e.0 k ≡ b → is_some (find nat_cmp k es) ≡ list_any (λ e. eqb e.0 k) es → is_some (cond (eq_by_cmp nat_cmp k e.0) (Some e.1) (find nat_cmp k es)) ≡ (b || list_any (λ e. eqb e.0 k) es)
      by true is rest = rw (at_number k e.0, turned k e.0, is) refl
      by false is rest = rw (at_number k e.0, turned k e.0, is) rest

  -- a number is a key where an entry has it
  pub contains_key-numbered : (es : List (ℕ × X)) (k : ℕ) → contains_key (numbered es) k ≡ list_any (λ e. eqb e.0 k) es
  contains_key-numbered es k = ap is_some (get-from_entries nat_cmp_total es k) ∙ find_there es k

  pub len-numbered : (es : List (ℕ × X)) → are_apart es ≡ true → len (numbered es) ≡ length es
  len-numbered [] h = len-empty nat_cmp X
  len-numbered (e ∷ es) h =
      let parts = both_true _ _ h in
      let absent : contains_key (numbered es) e.0 ≡ false = contains_key-numbered es e.0 ∙ not_true _ parts.0 in
      let rest = len-numbered es parts.1 in
      len-insert nat_cmp_total (numbered es) e.0 e.1 ∙ rw absent (omega arith)

  -- a walk that leaves away a number takes its key away
  find_others : (es : List (ℕ × X)) (k q : ℕ) → find nat_cmp q (others k es) ≡ cond (eqb q k) None (find nat_cmp q es)
  find_others es k q = find-where_key nat_cmp (λ n. not (eqb n k)) q (λ n t. ap (λ m. not (eqb m k)) (sym (nat_cmp-IsAntisymmetric q n t))) es ∙ turn (eqb q k)
    where
      turn : (b : Bool) → cond (not b) (find nat_cmp q es) None ≡ cond b None (find nat_cmp q es)
      turn true = refl
      turn false = refl

  pub numbered-others : (es : List (ℕ × X)) (k : ℕ) → numbered (others k es) ≡ remove (numbered es) k
  numbered-others es k = same_map nat_cmp_total nat_cmp-IsAntisymmetric _ _ (λ q. get-from_entries nat_cmp_total (others k es) q ∙ find_others es k q
      ∙ ap (λ o. cond (eqb q k) None o) (sym (get-from_entries nat_cmp_total es q)) ∙ ap (λ b. cond b None (get (numbered es) q)) (sym (at_number q k))
      ∙ sym (get-remove nat_cmp_total (numbered es) k q))

  none_left : (es : List (ℕ × X)) (k : ℕ) → list_any (λ e. eqb e.0 k) (others k es) ≡ false
  none_left es k = sym (find_there (others k es) k) ∙ ap is_some (find_others es k k) ∙ rw (itself k) refl
    where
      itself : (n : ℕ) → eqb n n ≡ true
      itself n = grind (arith, nat_tests)

  -- and a push after it puts the key
  pub numbered-put : (es : List (ℕ × X)) (k : ℕ) (x : X) → numbered (others k es ++ (k, x) ∷ []) ≡ insert (numbered es) k x
  numbered-put es k x = from_entries_push nat_cmp_total nat_cmp-IsAntisymmetric (others k es) k x (find_others es k k ∙ rw (itself k) refl) ∙ ap (λ m. insert m k x) (numbered-others es k) ∙ twice
    where
      itself : (n : ℕ) → eqb n n ≡ true
      itself n = grind (arith, nat_tests)

      same : (b : Bool) (o : Option X) → cond b (Some x) (cond b None o) ≡ cond b (Some x) o
      same true o = refl
      same false o = refl

      twice : insert (remove (numbered es) k) k x ≡ insert (numbered es) k x
      twice = same_map nat_cmp_total nat_cmp-IsAntisymmetric _ _ (λ q. get-insert nat_cmp_total (remove (numbered es) k) k x q ∙ ap (λ o. cond (eq_by_cmp nat_cmp q k) (Some x) o) (get-remove nat_cmp_total (numbered es) k q)
          ∙ same (eq_by_cmp nat_cmp q k) (get (numbered es) q) ∙ sym (get-insert nat_cmp_total (numbered es) k x q))

  any_others : (es : List (ℕ × X)) (k n : ℕ) → list_any (λ e. eqb e.0 n) es ≡ false → list_any (λ e. eqb e.0 n) (others k es) ≡ false
  any_others es k n h = sym (find_there (others k es) n) ∙ ap is_some (find_others es k n) ∙ by (eqb n k) (find_there es n ∙ h)
    where
      by : (b : Bool) → is_some (find nat_cmp n es) ≡ false → is_some (cond b None (find nat_cmp n es)) ≡ false
      by true e = refl
      by false e = e

  pub are_apart-others : (es : List (ℕ × X)) (k : ℕ) → are_apart es ≡ true → are_apart (others k es) ≡ true
  are_apart-others [] k h = refl
  are_apart-others (e ∷ es) k h = by (eqb e.0 k) (λ rest. are_apart-others es k rest)
    where
      parts : (not (list_any (λ f. eqb f.0 e.0) es) ≡ true) × (are_apart es ≡ true)
      parts = both_true _ _ h

      by : (b : Bool) → (are_apart es ≡ true → are_apart (others k es) ≡ true) → are_apart (cond (not b) (e ∷ others k es) (others k es)) ≡ true
      by true rest = rest parts.1
      by false rest = rw (any_others es k e.0 (not_true _ parts.0)) (rest parts.1)

  any_push : (es : List (ℕ × X)) (e : ℕ × X) (n : ℕ) → list_any (λ f. eqb f.0 n) es ≡ false → eqb e.0 n ≡ false → list_any (λ f. eqb f.0 n) (es ++ e ∷ []) ≡ false
  any_push [] e n h d = rw d refl
  any_push (f ∷ es) e n h d = by (eqb f.0 n) h (λ rest. any_push es e n rest d)
    where
      by : (b : Bool) → (b || list_any (λ f. eqb f.0 n) es) ≡ false → (list_any (λ f. eqb f.0 n) es ≡ false → list_any (λ f. eqb f.0 n) (es ++ e ∷ []) ≡ false) → (b || list_any (λ f. eqb f.0 n) (es ++ e ∷ [])) ≡ false
      by true h rest = h
      by false h rest = rest h

  push_apart : (es : List (ℕ × X)) (k : ℕ) (x : X) → list_any (λ e. eqb e.0 k) es ≡ false → are_apart es ≡ true → are_apart (es ++ (k, x) ∷ []) ≡ true
  push_apart [] k x none h = refl
  push_apart (e ∷ es) k x none h =
      let parts = both_true _ _ h in
      let here = neither _ _ none in
      rw (any_push es (k, x) e.0 (not_true _ parts.0) (turned k e.0 ∙ here.0)) (push_apart es k x here.1 parts.1)

  pub are_apart-put : (es : List (ℕ × X)) (k : ℕ) (x : X) → are_apart es ≡ true → are_apart (others k es ++ (k, x) ∷ []) ≡ true
  are_apart-put es k x h = push_apart (others k es) k x (none_left es k) (are_apart-others es k h)

  -- once it is taken out there is room for one
  pub fewer_others : (es : List (ℕ × X)) (k : ℕ) → are_apart es ≡ true → length es ≤ 16 → (len (numbered es) < 16) ⊎ (contains_key (numbered es) k ≡ true) → length (others k es) < 16
  fewer_others es k h few room =
      let after : length (others k es) ≡ len (remove (numbered es) k) = sym (len-numbered (others k es) (are_apart-others es k h)) ∙ ap len (numbered-others es k) in
      let before : len (numbered es) ≡ length es = len-numbered es h in
      let change = len-remove nat_cmp_total (numbered es) k in
      by (contains_key (numbered es) k) refl room (after ∙ change)
    where
      by : (b : Bool) → contains_key (numbered es) k ≡ b → (len (numbered es) < 16) ⊎ (contains_key (numbered es) k ≡ true) → length (others k es) ≡ cond b (len (numbered es) - 1) (len (numbered es)) → length (others k es) < 16
      by true is room e = let before : len (numbered es) ≡ length es = len-numbered es h in omega arith
      by false is (inl lt) e = omega arith
      by false is (inr there) e = absurd (cc)

  pub length-others : (es : List (ℕ × X)) (k : ℕ) → length (others k es) ≤ length es
  length-others [] k = omega arith
  length-others (e ∷ es) k = by (eqb e.0 k) (length-others es k)
    where
      by : (b : Bool) → length (others k es) ≤ length es → length (cond (not b) (e ∷ others k es) (others k es)) ≤ suc (length es)
      by true h = omega arith
      by false h = omega arith
