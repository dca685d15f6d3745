-- What stands behind the items of a command.
use Rattle.std.proofs.Common.{◌≡◌, ℕ, Bool, true, false, eqb, ◌==◌, ◌||◌, List, [], ◌∷◌, ◌++◌, refl, sym, subst, arith}
use Rattle.std.proofs.lemmas.Bool.{eqb-true}
use Rattle.std.proofs.lemmas.Bool.Decides.{nat_tests}
use Rattle.imap_syntax.specs.Rule.{Rule, give, keyword, separated, listed, listed_behind, listed_end, listed_or_none}
use Rattle.imap_syntax.proofs.RuleLaws.{StopsAt, Lawful, MayFollow, ended_lawful, then_lawful, give_lawful, octet_lawful, octet_then_follows}
use Rattle.imap_syntax.proofs.Lists.{EndsList, flag_then_lawful, separated_lawful, separated_opens}
use Rattle.imap_syntax.proofs.Words.{IsTable, spelt_passes}
use Rattle.imap_syntax.proofs.Opens.{Opens, consists_opens, opens_follows, octet_opens, then_opens}

-- nothing, or CR
abbrev pub AtCr : List ℕ → Type 0
AtCr [] = Unit {0}
AtCr (b ∷ rest) = b ≡ 13

-- nothing, a space, a closing parenthesis or CR
abbrev pub AtEnd : List ℕ → Type 0
AtEnd [] = Unit {0}
AtEnd (b ∷ rest) = (b == 32 || b == 41 || b == 13) ≡ true

pub cr_ends : (rest : List ℕ) → AtCr rest → AtEnd rest
cr_ends [] n = tt
cr_ends (b ∷ rest) n = rw n refl

pub cr_stops : (test : ℕ → Bool) → test 13 ≡ false → (rest : List ℕ) → AtCr rest → StopsAt test rest
cr_stops test e [] n = tt
cr_stops test e (b ∷ rest) n = subst (λ (x : ℕ). test x ≡ false) (sym n) e

by_ends : (test : ℕ → Bool) (b : ℕ) → test 32 ≡ false → test 41 ≡ false → test 13 ≡ false → (v w : Bool) → eqb b 32 ≡ v → eqb b 41 ≡ w → (b == 32 || b == 41 || b == 13) ≡ true → test b ≡ false
by_ends test b e32 e41 e13 true w k l h = subst (λ (x : ℕ). test x ≡ false) (sym (eqb-true b 32 k)) e32
by_ends test b e32 e41 e13 false true k l h = subst (λ (x : ℕ). test x ≡ false) (sym (eqb-true b 41 l)) e41
by_ends test b e32 e41 e13 false false k l h = let cr : b ≡ 13 = grind (arith, nat_tests) in subst (λ (x : ℕ). test x ≡ false) (sym cr) e13

pub end_stops : (test : ℕ → Bool) → test 32 ≡ false → test 41 ≡ false → test 13 ≡ false → (rest : List ℕ) → AtEnd rest → StopsAt test rest
end_stops test e32 e41 e13 [] n = tt
end_stops test e32 e41 e13 (b ∷ rest) n = by_ends test b e32 e41 e13 (eqb b 32) (eqb b 41) refl refl n

-- where less is asked for
pub before : {A : Type 0} {Less More : List ℕ → Type 0} {q : Rule A} → ((rest : List ℕ) → More rest → Less rest) → Lawful Less q → Lawful More q
before f law = record { sound = law.sound; complete = λ a text rest h n. law.complete a text rest h (f rest n) }

pub give_before : {A : Type 0} {Before After : List ℕ → Type 0} (a : A) → ((rest : List ℕ) → After rest → Before rest) → MayFollow Before After (give a)
give_before {Before = Before} a f = record { stands = λ b text rest h n. subst (λ (t : List ℕ). Before (t ++ rest)) (sym h.1) (f rest n) }

-- an octet that passes is none that doesn't
pub differs : (test : ℕ → Bool) (c : ℕ) → test c ≡ false → (b : ℕ) → test b ≡ true → eqb b c ≡ false
differs test c e b h = by (eqb b c) refl
  where
    by : (v : Bool) → eqb b c ≡ v → eqb b c ≡ false
    by true k = let same : b ≡ c = eqb-true b c k in let no : test b ≡ false = subst (λ (x : ℕ). test x ≡ false) (sym same) e in absurd cc
    by false k = k

pub keyword_opens : {V : Type 0} {test : ℕ → Bool} {name : V → List ℕ} {all : List V} → IsTable test name all → Opens test (keyword test name all)
keyword_opens table = record { first = λ v text h. let w = spelt_passes table v text h in consists_opens _ text w.0 w.1 }

-- ---- lists in parentheses

pub items_lawful : {A : Type 0} {p : Rule A} → Lawful AtEnd p → Lawful (EndsList 32 AtEnd) (separated 32 p)
items_lawful law = separated_lawful 32 (λ rest. refl) law

pub listed_lawful : {A : Type 0} {p : Rule A} {After : List ℕ → Type 0} → Lawful AtEnd p → Lawful After (listed p)
listed_lawful law =
    ended_lawful (octet_lawful 40) (λ u.
    then_lawful (items_lawful law)
    (λ items. ended_lawful (octet_lawful 41) (λ v. give_lawful _))
    (λ items. octet_then_follows _ 41 (λ rest. (refl, refl))))

pub listed_end_lawful : {A : Type 0} {p : Rule A} {After : List ℕ → Type 0} (test : ℕ → Bool) → test 41 ≡ false → Opens test p → Lawful AtEnd p → Lawful After (listed_end p)
listed_end_lawful {p = p} test e o law =
    flag_then_lawful 41 (listed_behind p)
    (give_lawful _)
    (then_lawful (items_lawful law) (λ items. ended_lawful (octet_lawful 41) (λ v. give_lawful _)) (λ items. octet_then_follows _ 41 (λ rest. (refl, refl))))
    (opens_follows (then_opens _ (separated_opens 32 o)) (λ b rest h. differs test 41 e b h))

pub listed_or_none_lawful : {A : Type 0} {p : Rule A} {After : List ℕ → Type 0} (test : ℕ → Bool) → test 41 ≡ false → Opens test p → Lawful AtEnd p → Lawful After (listed_or_none p)
listed_or_none_lawful test e o law = ended_lawful (octet_lawful 40) (λ u. listed_end_lawful test e o law)

pub listed_opens : {A : Type 0} (p : Rule A) → Opens (λ b. eqb b 40) (listed p)
listed_opens p = then_opens _ (octet_opens _ 40 refl)

pub listed_or_none_opens : {A : Type 0} (p : Rule A) → Opens (λ b. eqb b 40) (listed_or_none p)
listed_or_none_opens p = then_opens _ (octet_opens _ 40 refl)
