-- The laws of a choice that the first octet makes.
use Rattle.std.proofs.Common.{◌≡◌, ℕ, Bool, true, false, List, ◌++◌, sym, ap, ◌∙◌, inl, inr}
use Rattle.imap_syntax.specs.Rule.{Rule}
use Rattle.imap_syntax.specs.First.{begins, by_first}
use Rattle.imap_syntax.proofs.RuleLaws.{Lawful}
use Rattle.imap_syntax.proofs.Opens.{Opens}
use Rattle.imap_syntax.proofs.Strings.{by_test}

-- where there is a first octet, what stands behind the text doesn't matter
begins_front : {A : Type 0} {passes : ℕ → Bool} {q : Rule A} → Opens passes q → (test : ℕ → Bool) (a : A) (text rest : List ℕ) → q.spells a text → begins test (text ++ rest) ≡ begins test text
begins_front o test a text rest h = let x = o.first a text h in ap (λ (t : List ℕ). begins test (t ++ rest)) x.2 ∙ sym (ap (begins test) x.2)

pub by_first_lawful : {A : Type 0} {After : List ℕ → Type 0} {m n : ℕ → Bool} {p q : Rule A} (test : ℕ → Bool) → Lawful After p → Lawful After q → Opens m p → Opens n q → Lawful After (by_first test p q)
by_first_lawful {p = p} {q = q} test lp lq op oq = record {
  sound = λ input a rest e.
      elim (by_test (begins test input) (p.read input) (q.read input) _ e) [
        | inl here ↦ let f = lp.sound input a rest here.1 in (f.0, inl (sym (begins_front op test a f.0 rest f.1) ∙ sym (ap (begins test) f.2) ∙ here.0, f.1), f.2)
        | inr there ↦ let f = lq.sound input a rest there.1 in (f.0, inr (sym (begins_front oq test a f.0 rest f.1) ∙ sym (ap (begins test) f.2) ∙ there.0, f.1), f.2)
      ];
  complete = λ a text rest h n.
      elim h [
        | inl hp ↦ let k : begins test (text ++ rest) ≡ true = begins_front op test a text rest hp.1 ∙ hp.0 in rw k (lp.complete a text rest hp.1 n)
        | inr hq ↦ let k : begins test (text ++ rest) ≡ false = begins_front oq test a text rest hq.1 ∙ hq.0 in rw k (lq.complete a text rest hq.1 n)
      ];
}

pub by_first_opens : {A : Type 0} {passes : ℕ → Bool} {p q : Rule A} (test : ℕ → Bool) → Opens passes p → Opens passes q → Opens passes (by_first test p q)
by_first_opens test op oq = record { first = λ a text h. elim h [ inl hp ↦ op.first a text hp.1 | inr hq ↦ oq.first a text hq.1 ] }
