-- The laws of tests, flags, counts and lists.
use Rattle.std.proofs.Common.{◌≡◌, ℕ, zero, suc, ◌<◌, ◌≤◌, Bool, true, false, cond, eqb, ltb, List, [], ◌∷◌, ◌++◌, length, take, drop, Option, Some, None, refl, sym, ap, subst, ◌∙◌, append_assoc, arith, inl, inr, ◌⊎◌}
use Rattle.std.specs.Option.{option_and_then}
use Rattle.std.proofs.lemmas.Bool.{ltb-false, le-ltb, eqb-true}
use Rattle.std.proofs.lemmas.Bool.Decides.{nat_tests}
use Rattle.std.proofs.lemmas.List.{take_at, drop_at, take-append-drop, length-append, length-take}
use Rattle.std.proofs.lemmas.Option.{some_pair_parts, cond_some, same_Some}
use Rattle.imap_syntax.specs.Rule.{Rule, ◌>>=◌, fail, when, flag, flag_read, IsFlag, counted, IsSeparated, with_front, others_read, separated_read, items_read, separated, judged}
use Rattle.imap_syntax.proofs.RuleLaws.{StopsAt, Lawful, MayFollow, and_then_some, some_unless, give_lawful, give_follows}
use Rattle.imap_syntax.proofs.Opens.{Opens}

-- ---- no text, and tests

pub fail_lawful : {A : Type 0} {After : List ℕ → Type 0} → Lawful {A = A} After fail
fail_lawful = record { sound = λ input a rest e. absurd cc; complete = λ a text rest h n. absurd h }

pub fail_follows : {A : Type 0} {Before After : List ℕ → Type 0} → MayFollow {B = A} Before After fail
fail_follows = record { stands = λ a text rest h n. absurd h }

pub when_lawful : {A : Type 0} {After : List ℕ → Type 0} (test : Bool) (value : A) → Lawful After (when test value)
when_lawful test value = record {
  sound = λ input b rest e. let g = cond_some test (value, input) (b, rest) e in ([], (g.0, sym (ap (λ (x : _ × List ℕ). x.0) g.1), refl), ap (λ (x : _ × List ℕ). x.1) g.1);
  complete = λ b text rest h n. rw (h.0, h.1, h.2) refl;
}

pub when_follows : {A : Type 0} {After : List ℕ → Type 0} (test : Bool) (value : A) → MayFollow After After (when test value)
when_follows {After = After} test value = record { stands = λ b text rest h n. subst (λ (t : List ℕ). After (t ++ rest)) (sym h.2) n }

pub judged_lawful : {A : Type 0} {After : List ℕ → Type 0} (found : Option A) → Lawful After (judged found)
judged_lawful None = fail_lawful
judged_lawful (Some value) = give_lawful value

pub judged_follows : {A : Type 0} {After : List ℕ → Type 0} (found : Option A) → MayFollow After After (judged found)
judged_follows None = fail_follows
judged_follows (Some value) = give_follows value

-- ---- an octet or nothing

flag_is_by : (b x : ℕ) (xs : List ℕ) (v : Bool) (rest : List ℕ) (t : Bool) → eqb x b ≡ t → cond {A = Option (Bool × List ℕ)} t (Some (true, xs)) (Some (false, x ∷ xs)) ≡ Some (v, rest) → (text : List ℕ) × IsFlag b v text × (x ∷ xs ≡ text ++ rest)
flag_is_by b x xs v rest true k e = let g = some_pair_parts true v xs rest e in (b ∷ [], subst (λ (w : Bool). IsFlag b w (b ∷ [])) g.0 refl, rw (eqb-true x b k, ← g.1) refl)
flag_is_by b x xs v rest false k e = let g = some_pair_parts false v (x ∷ xs) rest e in ([], subst (λ (w : Bool). IsFlag b w []) g.0 refl, g.1)

flag_whole : (b : ℕ) (v : Bool) (text rest : List ℕ) → IsFlag b v text → StopsAt (λ x. eqb x b) rest → flag_read b (text ++ rest) ≡ Some (v, rest)
flag_whole b true text rest h n = rw h (grind arith)
flag_whole b false text [] h n = rw h refl
flag_whole b false text (x ∷ rest) h n = rw h (rw n refl)

flag_may : (Before : List ℕ → Type 0) (b : ℕ) → ((rest : List ℕ) → Before (b ∷ rest)) → (v : Bool) (text rest : List ℕ) → IsFlag b v text → Before rest → Before (text ++ rest)
flag_may Before b may true text rest h n = subst (λ (t : List ℕ). Before (t ++ rest)) (sym h) (may rest)
flag_may Before b may false text rest h n = subst (λ (t : List ℕ). Before (t ++ rest)) (sym h) n

flag_is : (b : ℕ) (input : List ℕ) (v : Bool) (rest : List ℕ) → flag_read b input ≡ Some (v, rest) → (text : List ℕ) × IsFlag b v text × (input ≡ text ++ rest)
flag_is b [] v rest e = let g = some_pair_parts false v [] rest e in ([], subst (λ (w : Bool). IsFlag b w []) g.0 refl, g.1)
flag_is b (x ∷ xs) v rest e = flag_is_by b x xs v rest (eqb x b) refl e

pub flag_lawful : (b : ℕ) → Lawful (StopsAt (λ x. eqb x b)) (flag b)
flag_lawful b = record { sound = flag_is b; complete = flag_whole b }

pub flag_follows : {Before : List ℕ → Type 0} (b : ℕ) → ((rest : List ℕ) → Before (b ∷ rest)) → MayFollow Before Before (flag b)
flag_follows {Before = Before} b may = record { stands = flag_may Before b may }

-- ---- an octet or nothing, and then by which

by_flag : {B : Type 0} {After : List ℕ → Type 0} (q : Bool → Rule B) → Lawful After (q true) → Lawful After (q false) → (v : Bool) → Lawful After (q v)
by_flag q held failed true = held
by_flag q held failed false = failed

flag_taken : (b : ℕ) (rest : List ℕ) → flag_read b (b ∷ rest) ≡ Some (true, rest)
flag_taken b rest = grind (arith, nat_tests)

flag_then_complete : {B : Type 0} {After : List ℕ → Type 0} (b : ℕ) (q : Bool → Rule B) → Lawful After (q true) → Lawful After (q false) → MayFollow (StopsAt (λ x. eqb x b)) After (q false) → (v : Bool) (front back : List ℕ) (x : B) (rest : List ℕ) → (flag b).spells v front → (q v).spells x back → After rest → (flag b >>= q).read (front ++ (back ++ rest)) ≡ Some (x, rest)
flag_then_complete b q held failed follows true front back x rest hf hb n = rw hf (rw (flag_taken b (back ++ rest)) (held.complete x back rest hb n))
flag_then_complete b q held failed follows false front back x rest hf hb n =
    rw hf (rw ((flag_lawful b).complete false [] (back ++ rest) refl (follows.stands x back rest hb n)) (failed.complete x back rest hb n))

pub flag_then_lawful : {B : Type 0} {After : List ℕ → Type 0} (b : ℕ) (q : Bool → Rule B) → Lawful After (q true) → Lawful After (q false) → MayFollow (StopsAt (λ x. eqb x b)) After (q false) → Lawful After (flag b >>= q)
flag_then_lawful b q held failed follows = record {
  sound = λ input y rest e.
      let x = and_then_some (λ found. (q found.0).read found.1) (flag_read b input) (y, rest) e in
      let f = (flag_lawful b).sound input x.0.0 x.0.1 x.1 in
      let g = (by_flag q held failed x.0.0).sound x.0.1 y rest x.2 in
      (f.0 ++ g.0, (x.0.0, f.0, g.0, f.1, g.1, refl), f.2 ∙ ap (λ (t : List ℕ). f.0 ++ t) g.2 ∙ sym (append_assoc f.0 g.0 rest));
  complete = λ x text rest h n. ap (flag b >>= q).read (ap (λ (t : List ℕ). t ++ rest) h.5 ∙ append_assoc h.1 h.2 rest) ∙ flag_then_complete b q held failed follows h.0 h.1 h.2 x rest h.3 h.4 n;
}

flag_then_stands : {B : Type 0} (Before : List ℕ → Type 0) {After : List ℕ → Type 0} (b : ℕ) (q : Bool → Rule B) → ((rest : List ℕ) → Before (b ∷ rest)) → MayFollow Before After (q false) → (v : Bool) (front back : List ℕ) (x : B) (rest : List ℕ) → (flag b).spells v front → (q v).spells x back → After rest → Before (front ++ (back ++ rest))
flag_then_stands Before b q may follows true front back x rest hf hb n = subst (λ (t : List ℕ). Before (t ++ (back ++ rest))) (sym hf) (may (back ++ rest))
flag_then_stands Before b q may follows false front back x rest hf hb n = subst (λ (t : List ℕ). Before (t ++ (back ++ rest))) (sym hf) (follows.stands x back rest hb n)

pub flag_then_follows : {B : Type 0} {Before After : List ℕ → Type 0} (b : ℕ) (q : Bool → Rule B) → ((rest : List ℕ) → Before (b ∷ rest)) → MayFollow Before After (q false) → MayFollow Before After (flag b >>= q)
flag_then_follows {Before = Before} b q may follows = record {
  stands = λ x text rest h n. subst Before (sym (ap (λ (t : List ℕ). t ++ rest) h.5 ∙ append_assoc h.1 h.2 rest)) (flag_then_stands Before b q may follows h.0 h.1 h.2 x rest h.3 h.4 n);
}

flag_opens_by : {B : Type 0} {test : ℕ → Bool} (b : ℕ) (q : Bool → Rule B) → test b ≡ true → Opens test (q false) → (v : Bool) (front back : List ℕ) (x : B) → (flag b).spells v front → (q v).spells x back → (c : ℕ) × (more : List ℕ) × (front ++ back ≡ c ∷ more) × (test c ≡ true)
flag_opens_by b q passes o true front back x hf hb = (b, back, ap (λ (t : List ℕ). t ++ back) hf, passes)
flag_opens_by b q passes o false front back x hf hb = let f = o.first x back hb in (f.0, f.1, ap (λ (t : List ℕ). t ++ back) hf ∙ f.2, f.3)

pub flag_then_opens : {B : Type 0} {test : ℕ → Bool} (b : ℕ) (q : Bool → Rule B) → test b ≡ true → Opens test (q false) → Opens test (flag b >>= q)
flag_then_opens b q passes o = record { first = λ x text h. let f = flag_opens_by b q passes o h.0 h.1 h.2 x h.3 h.4 in (f.0, f.1, h.5 ∙ f.2, f.3) }

-- ---- a number of octets

length-take-le : (n : ℕ) (input : List ℕ) → n ≤ length input → length (take n input) ≡ n
length-take-le n input le = omega (arith, length-take n input)

pub counted_lawful : {After : List ℕ → Type 0} (n : ℕ) → Lawful After (counted n)
counted_lawful n = record {
  sound = λ input a rest e.
      let g = some_unless (ltb (length input) n) (take n input, drop n input) (a, rest) e in
      let long : n ≤ length input = ltb-false _ _ g.0 in
      let a-is : take n input ≡ a = ap (λ (x : List ℕ × List ℕ). x.0) g.1 in
      let rest-is : drop n input ≡ rest = ap (λ (x : List ℕ × List ℕ). x.1) g.1 in
      (a, (refl, rw (← a-is) (length-take-le n input long)), sym (take-append-drop n input) ∙ rw (a-is, rest-is) refl);
  complete = λ a text rest h m.
      let long : ltb (length (a ++ rest)) n ≡ false = le-ltb _ _ (omega (arith, length-append a rest, h.1)) in
      rw h.0 (rw (long, take_at a rest n h.1, drop_at a rest n h.1) refl);
}

-- ---- lists

and_then_same : {A B : Type 0} (o : Option A) (f g : A → Option B) → ((x : A) → o ≡ Some x → f x ≡ g x) → option_and_then f o ≡ option_and_then g o
and_then_same None f g h = refl
and_then_same (Some x) f g h = h x refl

pub shrinks : {A : Type 0} {After : List ℕ → Type 0} {p : Rule A} → Lawful After p → (input : List ℕ) (x : A × List ℕ) → p.read input ≡ Some x → length x.1 ≤ length input
shrinks law input x e = let t = law.sound input x.0 x.1 e in omega (arith, ap length t.2, length-append t.0 x.1)

abbrev others_by : {A : Type 0} → A → (List ℕ → Option (List A × List ℕ)) → Bool × List ℕ → Option (List A × List ℕ)
others_by a read found = cond found.0 (with_front (a ∷ []) (read found.1)) (Some (a ∷ [], found.1))

abbrev flag_by : Bool → ℕ → List ℕ → Option (Bool × List ℕ)
flag_by t x rest = cond t (Some (true, rest)) (Some (false, x ∷ rest))

others_same_by : {A : Type 0} (read again : List ℕ → Option (List A × List ℕ)) (a : A) (x : ℕ) (rest : List ℕ) (t : Bool) → read rest ≡ again rest → option_and_then (others_by a read) (flag_by t x rest) ≡ option_and_then (others_by a again) (flag_by t x rest)
others_same_by read again a x rest true h = ap (with_front (a ∷ [])) h
others_same_by read again a x rest false h = refl

others_same : {A : Type 0} (b : ℕ) (a : A) (rest : List ℕ) (read again : List ℕ → Option (List A × List ℕ)) → ((i : List ℕ) → length i < length rest → read i ≡ again i) → others_read b a read rest ≡ others_read b a again rest
others_same b a [] read again h = refl
others_same b a (x ∷ rest) read again h = others_same_by read again a x rest (eqb x b) (h rest (omega arith))

-- it doesn't matter how many items are allowed, where there are more than octets
enough : {A : Type 0} {After : List ℕ → Type 0} (b : ℕ) (p : Rule A) → Lawful After p → (m n : ℕ) (input : List ℕ) → length input < m → length input < n → separated_read b p.read m input ≡ separated_read b p.read n input
enough b p law zero n input hm hn = absurd (omega arith)
enough b p law (suc m) zero input hm hn = absurd (omega arith)
enough b p law (suc m) (suc n) input hm hn =
    and_then_same (p.read input) _ _ (λ x e. let s = shrinks law input x e in others_same b x.0 x.1 (separated_read b p.read m) (separated_read b p.read n) (λ i lt. enough b p law m n i (omega (arith, s)) (omega (arith, s))))

items_step : {A : Type 0} {After : List ℕ → Type 0} (b : ℕ) (p : Rule A) → Lawful After p → (input : List ℕ) → items_read b p.read input ≡ option_and_then (λ found. others_read b found.0 (items_read b p.read) found.1) (p.read input)
unfolding items_read
items_step b p law input =
    and_then_same (p.read input) _ _ (λ x e. let s = shrinks law input x e in others_same b x.0 x.1 (separated_read b p.read (length input)) (λ i. separated_read b p.read (suc (length i)) i) (λ i lt. enough b p law (length input) (suc (length i)) i (omega (arith, s)) (omega arith)))

with_front_some : {A : Type 0} (front : List A) (o : Option (List A × List ℕ)) (y : List A × List ℕ) → with_front front o ≡ Some y → (z : List A × List ℕ) × (o ≡ Some z) × ((front ++ z.0, z.1) ≡ y)
with_front_some front None y e = absurd cc
with_front_some front (Some z) y e = (z, refl, same_Some _ _ e)

others_cases_by : {A : Type 0} (b : ℕ) (a : A) (x : ℕ) (rest : List ℕ) (read : List ℕ → Option (List A × List ℕ)) (y : List A × List ℕ) (t : Bool) → eqb x b ≡ t → option_and_then (others_by a read) (flag_by t x rest) ≡ Some y
    → ((a ∷ [], x ∷ rest) ≡ y) ⊎ ((after : List ℕ) × (z : List A × List ℕ) × (x ∷ rest ≡ b ∷ after) × (read after ≡ Some z) × ((a ∷ z.0, z.1) ≡ y))
others_cases_by b a x rest read y true k e =
    let z = with_front_some (a ∷ []) (read rest) y e in
    inr (rest, z.0, ap (λ (n : ℕ). n ∷ rest) (eqb-true x b k), z.1, z.2)
others_cases_by b a x rest read y false k e = inl (same_Some _ _ e)

others_cases : {A : Type 0} (b : ℕ) (a : A) (rest : List ℕ) (read : List ℕ → Option (List A × List ℕ)) (y : List A × List ℕ) → others_read b a read rest ≡ Some y
    → ((a ∷ [], rest) ≡ y) ⊎ ((after : List ℕ) × (z : List A × List ℕ) × (rest ≡ b ∷ after) × (read after ≡ Some z) × ((a ∷ z.0, z.1) ≡ y))
others_cases b a [] read y e = inl (same_Some _ _ e)
others_cases b a (x ∷ rest) read y e = others_cases_by b a x rest read y (eqb x b) refl e

joined : {A : Type 0} (b : ℕ) (spells : A → List ℕ → Type 0) (a : A) (others : List A) (front back : List ℕ) → spells a front → IsSeparated b spells others back → IsSeparated b spells (a ∷ others) (front ++ (b ∷ back))
joined b spells a [] front back ha h = absurd h
joined b spells a (c ∷ others) front back ha h = (front, back, ha, h, refl)

separated_sound : {A : Type 0} {After : List ℕ → Type 0} (b : ℕ) (p : Rule A) → Lawful After p → (n : ℕ) (input : List ℕ) (y : List A × List ℕ) → separated_read b p.read n input ≡ Some y → (text : List ℕ) × IsSeparated b p.spells y.0 text × (input ≡ text ++ y.1)
separated_sound b p law zero input y e = absurd cc
separated_sound b p law (suc n) input y e =
    let x = and_then_some (λ found. others_read b found.0 (separated_read b p.read n) found.1) (p.read input) y e in
    let t = law.sound input x.0.0 x.0.1 x.1 in
    let Goal : List _ × List ℕ → Type 0 = λ y. (text : List ℕ) × IsSeparated b p.spells y.0 text × (input ≡ text ++ y.1) in
    elim (others_cases b x.0.0 x.0.1 (separated_read b p.read n) y x.2) [
      | inl same ↦ subst Goal same (t.0, t.1, t.2)
      | inr more ↦
          let u = separated_sound b p law n more.0 more.1 more.3 in
          subst Goal more.4 (t.0 ++ (b ∷ u.0), joined b p.spells x.0.0 more.1.0 t.0 u.0 t.1 u.1, t.2 ∙ ap (λ (r : List ℕ). t.0 ++ r) (more.2 ∙ ap (λ (r : List ℕ). b ∷ r) u.2) ∙ sym (append_assoc t.0 (b ∷ u.0) more.1.1))
    ]

-- what may stand behind a list
abbrev pub EndsList : ℕ → (List ℕ → Type 0) → List ℕ → Type 0
EndsList b After rest = After rest × StopsAt (λ x. eqb x b) rest

last_read : {A : Type 0} (b : ℕ) (a : A) (rest : List ℕ) (read : List ℕ → Option (List A × List ℕ)) → StopsAt (λ x. eqb x b) rest → others_read b a read rest ≡ Some (a ∷ [], rest)
last_read b a [] read n = refl
last_read b a (x ∷ rest) read n = rw n refl

more_read : {A : Type 0} (b : ℕ) (a : A) (rest : List ℕ) (read : List ℕ → Option (List A × List ℕ)) → others_read b a read (b ∷ rest) ≡ with_front (a ∷ []) (read rest)
more_read b a rest read = let same : eqb b b ≡ true = grind (arith, nat_tests) in rw same refl

separated_complete : {A : Type 0} {After : List ℕ → Type 0} (b : ℕ) (p : Rule A) → Lawful After p → ((rest : List ℕ) → After (b ∷ rest)) → (all : List A) (text rest : List ℕ) → IsSeparated b p.spells all text → EndsList b After rest → items_read b p.read (text ++ rest) ≡ Some (all, rest)
separated_complete b p law may [] text rest h n = absurd h
separated_complete b p law may (a ∷ []) text rest h n =
    items_step b p law (text ++ rest) ∙ rw (law.complete a text rest h n.0) (last_read b a rest (items_read b p.read) n.1)
separated_complete b p law may (a ∷ c ∷ others) text rest h n =
    let after = h.1 ++ rest in
    let grouped : text ++ rest ≡ h.0 ++ (b ∷ after) = ap (λ (t : List ℕ). t ++ rest) h.4 ∙ append_assoc h.0 (b ∷ h.1) rest in
    let one : p.read (text ++ rest) ≡ Some (a, b ∷ after) = ap p.read grouped ∙ law.complete a h.0 (b ∷ after) h.2 (may after) in
    items_step b p law (text ++ rest) ∙ rw one (more_read b a after (items_read b p.read) ∙ rw (separated_complete b p law may (c ∷ others) h.1 rest h.3 n) refl)

pub separated_lawful : {A : Type 0} {After : List ℕ → Type 0} {p : Rule A} (b : ℕ) → ((rest : List ℕ) → After (b ∷ rest)) → Lawful After p → Lawful (EndsList b After) (separated b p)
unfolding items_read
separated_lawful {p = p} b may law = record {
  sound = λ input all rest e. separated_sound b p law (suc (length input)) input (all, rest) e;
  complete = λ all text rest h n. separated_complete b p law may all text rest h n;
}

separated_first : {A : Type 0} {test : ℕ → Bool} {q : Rule A} (b : ℕ) → Opens test q → (all : List A) (text : List ℕ) → (separated b q).spells all text → (c : ℕ) × (back : List ℕ) × (text ≡ c ∷ back) × (test c ≡ true)
separated_first b o [] text h = absurd h
separated_first b o (a ∷ []) text h = o.first a text h
separated_first b o (a ∷ c ∷ others) text h = let f = o.first a h.0 h.2 in (f.0, f.1 ++ (b ∷ h.1), h.4 ∙ ap (λ (t : List ℕ). t ++ (b ∷ h.1)) f.2, f.3)

pub separated_opens : {A : Type 0} {test : ℕ → Bool} {q : Rule A} (b : ℕ) → Opens test q → Opens test (separated b q)
separated_opens b o = record { first = separated_first b o }
