-- Mailboxes that move to other names.
use Rattle.std.proofs.Common.{◌≡◌, ℕ, ◌+◌, ◌<◌, Bool, true, false, cond, List, [], ◌∷◌, length, get_or, drop, drop-cons, add-one, map, suc, zero, ◌||◌, eqb, ◌⊎◌, inl, inr, Option, Some, None, refl, sym, ap, subst, ◌∙◌, arith}
use Rattle.std.specs.Prelude.{bytes_eq, is_some}
use Rattle.std.specs.FinMap as fin
use Rattle.std.specs.List.{Contains}
use Rattle.std.proofs.lemmas.Bool.{eqb-true, eqb-false}
use Rattle.std.proofs.lemmas.Option.{same_Some, none-some}
use Rattle.imap_names.specs.Name.{Name, root_of}
use Rattle.imap_names.specs.Order.{is_within, moved}
use Rattle.imap_names.proofs.MovedLaws.{moved_within, moved_injective, root_of-moved, root_of-within, there_and_back}
use Rattle.imap_rights.specs.Acl.{AclMap}
use Rattle.imap_identifier_index.specs.Index.{AreFound, IsRun, Lists, finds_at, finds_named, moved_lists}
use Rattle.imap_identifier_index.specs.Names.{IsPut, MayMove, name_at, renamed, renamed_at}

pub none_held : {X : Type 0} (n : X) → Contains [] n → ⊥
none_held n c = let l : c.0 < 0 = c.1 in absurd (omega arith)

-- ---- one name after another

-- Each number has the name that it had, or what this becomes. It has the latter if its name is of the run, and
-- not among those that are left.
pub record IsMoving (names now : List (Option Name)) (old new : Name) (run rest : List Name) : Type 0 where
  pub either : (k : ℕ) → (name_at now k ≡ name_at names k) ⊎ (name_at now k ≡ renamed_at old new (name_at names k))
  pub done : (k : ℕ) (q : Name) → name_at names k ≡ Some q → Contains run q
      → Contains rest q ⊎ (name_at now k ≡ renamed_at old new (name_at names k))

pub moving_begins : (names : List (Option Name)) (old new : Name) (run : List Name) → IsMoving names names old new run run
moving_begins names old new run = record {
  either = λ k. inl refl;
  done = λ k q is c. inl c;
}

module _ (names : List (Option Name)) (old new : Name) (run : List Name) (may : MayMove names old new run) where
  -- a name of the run that stands there now stood there before
  stood : (now : List (Option Name)) (rest : List Name) → IsMoving names now old new run rest → (n : ℕ) (q : Name) → Contains run q → name_at now n ≡ Some q → name_at names n ≡ Some q
  stood now rest moving n q in_run is = by (moving.either n)
    where
      outside : (p : Name) → Contains run p → is_within new p ≡ true → ⊥
      outside p c inside = absurd (cc (sym inside ∙ may.apart p c))

      not_moved : (o : Option Name) → name_at names n ≡ o → Some q ≡ renamed_at old new o → o ≡ Some q
      not_moved None e f = absurd (none-some q (sym f))
      not_moved (Some x) e f = at (is_within old x) refl
        where
          at : (b : Bool) → is_within old x ≡ b → Some x ≡ Some q
          at true w =
              let same : q ≡ moved old new x = same_Some q _ (f ∙ ap (λ b. Some (cond b (moved old new x) x)) w) in
              let inside : is_within new q ≡ true = ap (is_within new) same ∙ moved_within old new x w in
              absurd (outside q in_run inside)
          at false w = sym (f ∙ ap (λ b. Some (cond b (moved old new x) x)) w)

      by : (name_at now n ≡ name_at names n) ⊎ (name_at now n ≡ renamed_at old new (name_at names n)) → name_at names n ≡ Some q
      by (inl e) = sym e ∙ is
      by (inr e) = not_moved (name_at names n) refl (sym is ∙ e)

  -- the first that is left has its new name
  pub moving_goes_on : (now after : List (Option Name)) (first : Name) (rest : List Name) (n : ℕ) → Contains run first
      → IsPut n (Some first) (Some (moved old new first)) now after → IsMoving names now old new run (first ∷ rest) → IsMoving names after old new run rest
  moving_goes_on now after first rest n in_run put moving = record {
    either = λ k. one k (eqb k n) refl;
    done = λ k q is c. two k q is c (eqb k n) refl (moving.done k q is c);
  }
    where
      before : name_at names n ≡ Some first
      before = stood now (first ∷ rest) moving n first in_run put.was

      put_there : (k : ℕ) → eqb k n ≡ true → name_at after k ≡ renamed_at old new (name_at names k)
      put_there k e =
          put.is k ∙ ap (λ b. cond b (Some (moved old new first)) (name_at now k)) e
          ∙ sym (ap (renamed_at old new) (ap (name_at names) (eqb-true k n e) ∙ before) ∙ ap (λ b. Some (cond b (moved old new first) first)) (may.within first in_run))

      left : (k : ℕ) → eqb k n ≡ false → name_at after k ≡ name_at now k
      left k e = put.is k ∙ ap (λ b. cond b (Some (moved old new first)) (name_at now k)) e

      one : (k : ℕ) (b : Bool) → eqb k n ≡ b → (name_at after k ≡ name_at names k) ⊎ (name_at after k ≡ renamed_at old new (name_at names k))
      one k true e = inr (put_there k e)
      one k false e = by (moving.either k)
        where
          by : (name_at now k ≡ name_at names k) ⊎ (name_at now k ≡ renamed_at old new (name_at names k)) → (name_at after k ≡ name_at names k) ⊎ (name_at after k ≡ renamed_at old new (name_at names k))
          by (inl f) = inl (left k e ∙ f)
          by (inr f) = inr (left k e ∙ f)

      two : (k : ℕ) (q : Name) → name_at names k ≡ Some q → Contains run q → (b : Bool) → eqb k n ≡ b
          → Contains (first ∷ rest) q ⊎ (name_at now k ≡ renamed_at old new (name_at names k)) → Contains rest q ⊎ (name_at after k ≡ renamed_at old new (name_at names k))
      two k q is c true e h = inr (put_there k e)
      two k q is c false e (inr f) = inr (left k e ∙ f)
      two k q is c false e (inl (zero, lt, same)) = absurd (eqb-false k n e (may.alone k n first (is ∙ ap Some (sym same)) before))
      two k q is c false e (inl (suc i, lt, same)) = inl (i, (let l : suc i < length (first ∷ rest) = lt in omega arith), same)

  -- once none is left, all have theirs
  pub moving_ends : (now : List (Option Name)) → IsMoving names now old new run [] → (k : ℕ) → name_at now k ≡ renamed_at old new (name_at names k)
  moving_ends now moving k = by (name_at names k) refl (moving.either k)
    where
      by : (o : Option Name) → name_at names k ≡ o → (name_at now k ≡ name_at names k) ⊎ (name_at now k ≡ renamed_at old new (name_at names k)) → name_at now k ≡ renamed_at old new (name_at names k)
      by None is (inr e) = e
      by (Some q) is (inr e) = e
      by None is (inl e) = e ∙ is ∙ sym (ap (renamed_at old new) is)
      by (Some q) is (inl e) = at (is_within old q) refl
        where
          at : (b : Bool) → is_within old q ≡ b → name_at now k ≡ renamed_at old new (name_at names k)
          at true w = ends (moving.done k q is (may.whole k q is w))
            where
              ends : Contains [] q ⊎ (name_at now k ≡ renamed_at old new (name_at names k)) → name_at now k ≡ renamed_at old new (name_at names k)
              ends (inl c) = absurd (none_held q c)
              ends (inr f) = f
          at false w = e ∙ is ∙ sym (ap (renamed_at old new) is ∙ ap (λ b. Some (cond b (moved old new q) q)) w)

-- the names that are left, and those to which they move
pub record IsWalking (names now : List (Option Name)) (old new : Name) (run rest came : List Name) : Type 0 where
  pub left : came ≡ map (moved old new) rest
  pub among : (q : Name) → Contains rest q → Contains run q
  pub moving : MayMove names old new run → IsMoving names now old new run rest

pub walk_begins : (names : List (Option Name)) (old new : Name) (run came : List Name) → came ≡ map (moved old new) run → IsWalking names names old new run run came
walk_begins names old new run came left = record {
  left = left;
  among = λ q c. c;
  moving = λ may. moving_begins names old new run;
}

pub walk_goes_on : (names now after : List (Option Name)) (old new : Name) (run : List Name) (first : Name) (rest : List Name) (to : Name) (came : List Name) (n : ℕ)
    → IsWalking names now old new run (first ∷ rest) (to ∷ came) → IsPut n (Some first) (Some to) now after → IsWalking names after old new run rest came
walk_goes_on names now after old new run first rest to came n walking put =
    let heads : to ≡ moved old new first = ap (λ l. get_or l 0 to) walking.left in
    let tails : came ≡ map (moved old new) rest = ap (drop 1) walking.left in
    record {
      left = tails;
      among = λ q c. walking.among q (suc c.0, (let l : c.0 < length rest = c.1 in omega (arith, l)), c.2);
      moving = λ may. moving_goes_on names old new run may now after first rest n (walking.among first (0, omega arith, refl))
          (subst (λ (t : Name). IsPut n (Some first) (Some t) now after) heads put) (walking.moving may);
    }

pub walk_ends : (names now : List (Option Name)) (old new : Name) (run rest came : List Name) → IsWalking names now old new run rest came → came ≡ []
    → MayMove names old new run → (k : ℕ) → name_at now k ≡ renamed_at old new (name_at names k)
walk_ends names now old new run [] came walking none may = moving_ends names old new run may now (walking.moving may)
walk_ends names now old new run (q ∷ rest) came walking none may = absurd (some (sym none ∙ walking.left))
  where
    some : [] ≡ moved old new q ∷ map (moved old new) rest → ⊥
    some e = let l : 0 ≡ suc (length (map (moved old new) rest)) = ap length e in absurd (omega (arith, l))

-- ---- all of them

module _ (names after : ℕ → Option Name) (set : List ℕ → ℕ → Bool) (lists : Lists) (old new : Name) (run : List Name)
    (is_run : IsRun lists old new run) (found : AreFound names set lists)
    (named : (k : ℕ) → after k ≡ renamed_at old new (names k)) where
  not_new : (k : ℕ) (q : Name) → names k ≡ Some q → is_within new q ≡ false
  not_new k q is = by (is_within new q) refl
    where
      by : (b : Bool) → is_within new q ≡ b → b ≡ false
      by true w = absurd (cc (sym (found.numbers.there k q is) ∙ ap is_some (is_run.free q w)))
      by false w = refl

  -- the list moves with the name
  moves : (k : ℕ) (q : Name) → names k ≡ Some q → moved_lists old new lists (renamed old new q) ≡ lists q
  moves k q is = by (is_within old q) refl
    where
      by : (b : Bool) → is_within old q ≡ b → moved_lists old new lists (cond b (moved old new q) q) ≡ lists q
      by true w =
          ap (λ b. cond b (lists (moved new old (moved old new q))) (cond (is_within old (moved old new q)) None (lists (moved old new q)))) (moved_within old new q w)
          ∙ ap lists (there_and_back old new q w)
      by false w =
          ap (λ b. cond b (lists (moved new old q)) (cond (is_within old q) None (lists q))) (not_new k q is)
          ∙ ap (λ b. cond b None (lists q)) w

  which : (k : ℕ) (q : Name) → after k ≡ Some q → (p : Name) × (names k ≡ Some p) × (renamed old new p ≡ q)
  which k q is = by (names k) refl (sym (named k) ∙ is)
    where
      by : (o : Option Name) → names k ≡ o → renamed_at old new o ≡ Some q → (p : Name) × (names k ≡ Some p) × (renamed old new p ≡ q)
      by None e f = absurd (none-some q f)
      by (Some p) e f = (p, e, same_Some _ q f)

  numbered : (q : Name) → is_some (moved_lists old new lists q) ≡ true → (k : ℕ) × (after k ≡ Some q)
  numbered q some = by (is_within new q) refl (is_within old q) refl some
    where
      by : (b : Bool) → is_within new q ≡ b → (c : Bool) → is_within old q ≡ c → is_some (cond b (lists (moved new old q)) (cond c None (lists q))) ≡ true → (k : ℕ) × (after k ≡ Some q)
      by true w c v s =
          let (k, is) = found.numbers.numbered (moved new old q) s in
          (k, named k ∙ ap (renamed_at old new) is ∙ ap (λ b. Some (cond b (moved old new (moved new old q)) (moved new old q))) (moved_within new old q w) ∙ ap Some (there_and_back new old q w))
      by false w true v s = cc
      by false w false v s =
          let (k, is) = found.numbers.numbered q s in
          (k, named k ∙ ap (renamed_at old new) is ∙ ap (λ b. Some (cond b (moved old new q) q)) v)

  there : (k : ℕ) (q : Name) → after k ≡ Some q → is_some (moved_lists old new lists q) ≡ true
  there k q is =
      let (p, was, same) = which k q is in
      ap (λ x. is_some (moved_lists old new lists x)) (sym same) ∙ ap is_some (moves k p was) ∙ found.numbers.there k p was

  one : (a b : ℕ) (x y : Name) → names a ≡ Some x → names b ≡ Some y → renamed old new x ≡ renamed old new y → x ≡ y
  one a b x y ea eb same = by (is_within old x) refl (is_within old y) refl same
    where
      apart : (k : ℕ) (p q : Name) → names k ≡ Some p → is_within old q ≡ true → moved old new q ≡ p → ⊥
      apart k p q is w e = absurd (cc (sym (ap (is_within new) (sym e) ∙ moved_within old new q w) ∙ not_new k p is))

      by : (c : Bool) → is_within old x ≡ c → (d : Bool) → is_within old y ≡ d → cond c (moved old new x) x ≡ cond d (moved old new y) y → x ≡ y
      by true w true v e = moved_injective old new x y w v e
      by true w false v e = absurd (apart b y x eb w e)
      by false w true v e = absurd (apart a x y ea v (sym e))
      by false w false v e = e

  alone : (a b : ℕ) (q : Name) → after a ≡ Some q → after b ≡ Some q → a ≡ b
  alone a b q ea eb =
      let (x, was_x, is_x) = which a q ea in
      let (y, was_y, is_y) = which b q eb in
      found.numbers.alone a b y (was_x ∙ ap Some (one a b x y was_x was_y (is_x ∙ sym is_y))) was_y

  -- it stays in its tree
  root_stays : (q : Name) → root_of (renamed old new q) ≡ root_of q
  root_stays q = by (is_within old q) refl
    where
      by : (b : Bool) → is_within old q ≡ b → root_of (cond b (moved old new q) q) ≡ root_of q
      by true w = root_of-moved old new q is_run.rooted.1 w ∙ is_run.tree ∙ sym (root_of-within old q is_run.rooted.0 w)
      by false w = refl

  finds_same : (id : List ℕ) (p q : Name) (o : Option AclMap) → root_of p ≡ root_of q → finds_at id p o ≡ finds_at id q o
  finds_same id p q None same = refl
  finds_same id p q (Some acl) same = ap (λ r. fin.contains_key acl id || bytes_eq id r) same

  entered : (id : List ℕ) (k : ℕ) → set id k ≡ finds_named id (moved_lists old new lists) (after k)
  entered id k = found.entered id k ∙ by (names k) refl ∙ ap (finds_named id (moved_lists old new lists)) (sym (named k))
    where
      by : (o : Option Name) → names k ≡ o → finds_named id lists o ≡ finds_named id (moved_lists old new lists) (renamed_at old new o)
      by None is = refl
      by (Some q) is =
          sym (finds_same id (renamed old new q) q (lists q) (root_stays q)) ∙ ap (finds_at id (renamed old new q)) (sym (moves k q is))

  pub all_moved : AreFound after set (moved_lists old new lists)
  all_moved = record { numbers = record { numbered = numbered; there = there; alone = alone }; entered = entered }

-- what an index of the lists has may move
pub may_move : (names : List (Option Name)) (set : List ℕ → ℕ → Bool) (lists : Lists) (old new : Name) (run : List Name)
    → IsRun lists old new run → AreFound (name_at names) set lists → MayMove names old new run
may_move names set lists old new run is_run found = record {
  alone = found.numbers.alone;
  whole = λ k q is w. is_run.whole q w (found.numbers.there k q is);
  within = is_run.within;
  apart = λ q c. outside q (is_within new q) refl (is_run.listed q c);
}
  where
    outside : (q : Name) (b : Bool) → is_within new q ≡ b → is_some (lists q) ≡ true → b ≡ false
    outside q true w some = absurd (cc (sym some ∙ ap is_some (is_run.free q w)))
    outside q false w some = refl

pub firsts_moved : {V : Type 0} (f : Name → Name) (run : List (Name × V)) → map (λ e. f e.0) run ≡ map f (map (λ e. e.0) run)
firsts_moved f [] = refl
firsts_moved f (e ∷ run) = ap (λ l. f e.0 ∷ l) (firsts_moved f run)

pub cut_next : (es : List (Name × ℕ)) (i : ℕ) (e : Name × ℕ) → i < length es → e ≡ get_or es i e → map (λ a. a.0) (drop i es) ≡ e.0 ∷ map (λ a. a.0) (drop (i + 1) es)
cut_next es i e lt is =
    let cut : drop i es ≡ e ∷ drop (i + 1) es = rw add-one (drop-cons es i e lt ∙ ap (λ x. x ∷ drop (suc i) es) (sym is)) in
    ap (map (λ a. a.0)) cut
