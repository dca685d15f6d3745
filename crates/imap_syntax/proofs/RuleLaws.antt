-- The laws of rules: what is read is spelt so, and what is spelt is read. Each combinator hands them on.
use Rattle.std.proofs.Common.{◌≡◌, ◌≢◌, ℕ, suc, ◌+◌, Bool, true, false, cond, eqb, List, [], ◌∷◌, ◌++◌, length, take, drop, Option, Some, None, refl, sym, ap, subst, ◌∙◌, append_assoc, arith, inl, inr, ◌⊎◌}
use Rattle.std.specs.List.{prefix_len}
use Rattle.std.specs.Option.{option_and_then, option_or}
use Rattle.std.proofs.lemmas.Bool.{eqb-false}
use Rattle.std.proofs.lemmas.Bool.Decides.{nat_tests}
use Rattle.std.proofs.lemmas.List.{take_at, drop_at, take-append-drop}
use Rattle.std.proofs.lemmas.List.Folds.{length-prefix_len}
use Rattle.std.proofs.lemmas.List.Sums.{prefix_len-le-length}
use Rattle.std.proofs.lemmas.Option.{some_pair_parts}
use Rattle.imap_syntax.specs.Rule.{Rule, give, ◌>>=◌, ◌<|>◌, octet, octet_read, some_of, some_read, front_read, ConsistsOf}

-- ---- what may stand behind a text

abbrev pub Anything : List ℕ → Type 0
Anything rest = Unit {0}

-- nothing, or an octet that doesn't pass the test
abbrev pub StopsAt : (ℕ → Bool) → List ℕ → Type 0
StopsAt test [] = Unit {0}
StopsAt test (b ∷ rest) = test b ≡ false

-- What is read is spelt so; and what is spelt is read, where what stands behind it may stand there.
pub record Lawful {A : Type 0} (After : List ℕ → Type 0) (p : Rule A) : Type 0 where
  pub sound : (input : List ℕ) (a : A) (rest : List ℕ) → p.read input ≡ Some (a, rest) → (text : List ℕ) × p.spells a text × (input ≡ text ++ rest)
  pub complete : (a : A) (text rest : List ℕ) → p.spells a text → After rest → p.read (text ++ rest) ≡ Some (a, rest)

-- A text of q, with such behind it as may stand behind q, may stand where Before is asked for.
pub record MayFollow {B : Type 0} (Before After : List ℕ → Type 0) (q : Rule B) : Type 0 where
  pub stands : (b : B) (text rest : List ℕ) → q.spells b text → After rest → Before (text ++ rest)

-- what may have anything behind it may have some things behind it
pub any_after : {A : Type 0} {After : List ℕ → Type 0} {p : Rule A} → Lawful Anything p → Lawful After p
any_after law = record { sound = law.sound; complete = λ a text rest h n. law.complete a text rest h tt }

pub after_anything : {B : Type 0} {After : List ℕ → Type 0} (q : Rule B) → MayFollow Anything After q
after_anything q = record { stands = λ b text rest h n. tt }

-- ---- give

pub give_lawful : {A : Type 0} {After : List ℕ → Type 0} (value : A) → Lawful After (give value)
give_lawful value = record {
  sound = λ input a rest e. let parts = some_pair_parts value a input rest e in ([], (sym parts.0, refl), parts.1);
  complete = λ a text rest h n. rw (h.0, h.1) refl;
}

pub give_follows : {A : Type 0} {After : List ℕ → Type 0} (value : A) → MayFollow After After (give value)
give_follows {After = After} value = record { stands = λ a text rest h n. subst (λ (t : List ℕ). After (t ++ rest)) (sym h.1) n }

-- ---- one rule and then another

pub and_then_some : {A B : Type 0} (f : A → Option B) (o : Option A) (y : B) → option_and_then f o ≡ Some y → (x : A) × (o ≡ Some x) × (f x ≡ Some y)
and_then_some f None y e = absurd cc
and_then_some f (Some x) y e = (x, refl, e)

pub then_lawful : {A B : Type 0} {Middle After : List ℕ → Type 0} {p : Rule A} {next : A → Rule B} → Lawful Middle p → ((a : A) → Lawful After (next a)) → ((a : A) → MayFollow Middle After (next a)) → Lawful After (p >>= next)
then_lawful {A = A} {p = p} {next = next} first second follows = record {
  sound = λ input b rest e.
      let x = and_then_some (λ found. (next found.0).read found.1) (p.read input) (b, rest) e in
      let front = first.sound input x.0.0 x.0.1 x.1 in
      let back = (second x.0.0).sound x.0.1 b rest x.2 in
      (front.0 ++ back.0, (x.0.0, front.0, back.0, front.1, back.1, refl), front.2 ∙ ap (λ (t : List ℕ). front.0 ++ t) back.2 ∙ sym (append_assoc front.0 back.0 rest));
  complete = λ b text rest h n.
      let a = h.0 in
      let front = h.1 in
      let back = h.2 in
      let grouped : text ++ rest ≡ front ++ (back ++ rest) = ap (λ (t : List ℕ). t ++ rest) h.5 ∙ append_assoc front back rest in
      let read_first : p.read (text ++ rest) ≡ Some (a, back ++ rest) = ap p.read grouped ∙ first.complete a front (back ++ rest) h.3 ((follows a).stands b back rest h.4 n) in
      ap (λ (o : Option (A × List ℕ)). option_and_then (λ found. (next found.0).read found.1) o) read_first ∙ (second a).complete b back rest h.4 n;
}

pub then_follows : {A B : Type 0} {Before Middle After : List ℕ → Type 0} {p : Rule A} {next : A → Rule B} → MayFollow Before Middle p → ((a : A) → MayFollow Middle After (next a)) → MayFollow Before After (p >>= next)
then_follows {Before = Before} first second = record {
  stands = λ b text rest h n.
      let inner = first.stands h.0 h.1 (h.2 ++ rest) h.3 ((second h.0).stands b h.2 rest h.4 n) in
      subst Before (sym (ap (λ (t : List ℕ). t ++ rest) h.5 ∙ append_assoc h.1 h.2 rest)) inner;
}

-- a rule whose texts show their own end, and then another
pub ended_lawful : {A B : Type 0} {After : List ℕ → Type 0} {p : Rule A} {next : A → Rule B} → Lawful Anything p → ((a : A) → Lawful After (next a)) → Lawful After (p >>= next)
ended_lawful {next = next} first second = then_lawful first second (λ a. after_anything (next a))

-- ---- either

or_cases : {A : Type 0} (o other : Option A) (y : A) → option_or o other ≡ Some y → (o ≡ Some y) ⊎ (other ≡ Some y)
or_cases None other y e = inr e
or_cases (Some x) other y e = inl e

-- where the first rule reads nothing of what the second spells
pub or_lawful : {A : Type 0} {After : List ℕ → Type 0} {p q : Rule A} → Lawful After p → Lawful After q → ((b : A) (text rest : List ℕ) → q.spells b text → After rest → p.read (text ++ rest) ≡ None) → Lawful After (p <|> q)
or_lawful {p = p} {q = q} first second apart = record {
  sound = λ input b rest e.
      elim (or_cases (p.read input) (q.read input) (b, rest) e) [
        | inl here ↦ let f = first.sound input b rest here in (f.0, inl f.1, f.2)
        | inr there ↦ let f = second.sound input b rest there in (f.0, inr f.1, f.2)
      ];
  complete = λ b text rest h n.
      elim h [
        | inl hp ↦ rw (first.complete b text rest hp n) refl
        | inr hq ↦ rw (apart b text rest hq n) (second.complete b text rest hq n)
      ];
}

-- ---- one octet

octet_read-some : (b : ℕ) (input : List ℕ) (u : Unit {0}) (rest : List ℕ) → octet_read b input ≡ Some (u, rest) → input ≡ b ∷ rest
octet_read-some b [] u rest e = absurd cc
octet_read-some b (x ∷ xs) u rest e = grind (arith)

pub octet_lawful : {After : List ℕ → Type 0} (b : ℕ) → Lawful After (octet b)
octet_lawful b = record {
  sound = λ input u rest e. (b ∷ [], refl, octet_read-some b input u rest e);
  complete = λ u text rest h n. rw h (grind arith);
}

pub octet_follows : {Before After : List ℕ → Type 0} (b : ℕ) → ((rest : List ℕ) → Before (b ∷ rest)) → MayFollow Before After (octet b)
octet_follows {Before = Before} b may = record { stands = λ u text rest h n. subst (λ (t : List ℕ). Before (t ++ rest)) (sym h) (may rest) }

pub octet_then_follows : {B : Type 0} {Before After : List ℕ → Type 0} (next : Unit {0} → Rule B) (b : ℕ) → ((rest : List ℕ) → Before (b ∷ rest)) → MayFollow Before After (octet b >>= next)
octet_then_follows next b may = then_follows {Middle = Anything} (octet_follows b may) (λ u. after_anything (next u))

-- ---- one octet or more

pub some_unless : {A : Type 0} (b : Bool) (x y : A) → cond b None (Some x) ≡ Some y → (b ≡ false) × (x ≡ y)
some_unless true x y e = absurd cc
some_unless false x y e = (refl, cc)

pub prefix_len-whole : (test : ℕ → Bool) (text rest : List ℕ) → ConsistsOf test text → StopsAt test rest → prefix_len test (text ++ rest) ≡ length text
prefix_len-whole test [] [] h n = refl
prefix_len-whole test [] (b ∷ rest) h n = rw n refl
prefix_len-whole test (b ∷ text) rest h n = rw (h.0, prefix_len-whole test text rest h.1 n) (omega arith)

passes_by : (test : ℕ → Bool) (b : ℕ) (input : List ℕ) (v : Bool) → test b ≡ v → ConsistsOf test (take (prefix_len test input) input) → ConsistsOf test (take (cond v (1 + prefix_len test input) 0) (b ∷ input))
passes_by test b input true e h = let k : 1 + prefix_len test input ≡ suc (prefix_len test input) = omega arith in rw k (e, h)
passes_by test b input false e h = tt

pub prefix_passes : (test : ℕ → Bool) (input : List ℕ) → ConsistsOf test (take (prefix_len test input) input)
prefix_passes test [] = tt
prefix_passes test (b ∷ input) = passes_by test b input (test b) refl (prefix_passes test input)

pub some_read-some : (test : ℕ → Bool) (input a rest : List ℕ) → some_read test input ≡ Some (a, rest) → (a ≡ take (prefix_len test input) input) × (rest ≡ drop (prefix_len test input) input) × ConsistsOf test a × (a ≢ [])
some_read-some test input a rest e =
    let found = some_unless (eqb (prefix_len test input) 0) (take (prefix_len test input) input, drop (prefix_len test input) input) (a, rest) e in
    let a-is : take (prefix_len test input) input ≡ a = ap (λ (x : List ℕ × List ℕ). x.0) found.1 in (
      sym a-is,
      sym (ap (λ (x : List ℕ × List ℕ). x.1) found.1),
      subst (ConsistsOf test) a-is (prefix_passes test input),
      λ empty. absurd (omega (arith, length-prefix_len test input, eqb-false _ _ found.0, ap length (a-is ∙ empty))),
    )

pub some_read-whole : (test : ℕ → Bool) (text rest : List ℕ) → ConsistsOf test text → text ≢ [] → StopsAt test rest → some_read test (text ++ rest) ≡ Some (text, rest)
some_read-whole test [] rest h filled n = absurd (filled refl)
some_read-whole test (b ∷ text) rest h filled n =
    let whole : prefix_len test ((b ∷ text) ++ rest) ≡ length (b ∷ text) = prefix_len-whole test (b ∷ text) rest h n in
    let longer : eqb (length (b ∷ text)) 0 ≡ false = grind (arith, nat_tests) in
    ap (λ (n : ℕ). front_read n ((b ∷ text) ++ rest)) whole
    ∙ rw (longer, take_at (b ∷ text) rest (length (b ∷ text)) refl, drop_at (b ∷ text) rest (length (b ∷ text)) refl) refl

pub some_of_lawful : (test : ℕ → Bool) → Lawful (StopsAt test) (some_of test)
some_of_lawful test = record {
  sound = λ input a rest e.
      let x = some_read-some test input a rest e in
      (a, (refl, x.2, x.3), sym (take-append-drop (prefix_len test input) input) ∙ rw (← x.0, ← x.1) refl);
  complete = λ a text rest h n. some_read-whole test text rest h.1 h.2 n ∙ ap (λ (t : List ℕ). Some (t, rest)) h.0;
}

-- for code that counts what passes a test
pub ruleset lengths = (length-prefix_len, prefix_len-le-length)
