-- With which octets the texts of a rule begin: so a reader tells rules apart, and where a text ends.
use Rattle.std.proofs.Common.{◌≡◌, ◌≢◌, ℕ, Bool, true, List, [], ◌∷◌, ◌++◌, None, refl, sym, ap, subst, ◌∙◌, inl, inr}
use Rattle.imap_syntax.specs.Rule.{Rule, ◌>>=◌, ◌<|>◌, octet, some_of, ConsistsOf}
use Rattle.imap_syntax.proofs.RuleLaws.{Lawful, MayFollow, or_lawful}

-- each text of q begins with an octet that passes the test
pub record Opens {A : Type 0} (test : ℕ → Bool) (q : Rule A) : Type 0 where
  pub first : (a : A) (text : List ℕ) → q.spells a text → (b : ℕ) × (back : List ℕ) × (text ≡ b ∷ back) × (test b ≡ true)

pub consists_opens : (test : ℕ → Bool) (text : List ℕ) → ConsistsOf test text → text ≢ [] → (b : ℕ) × (back : List ℕ) × (text ≡ b ∷ back) × (test b ≡ true)
consists_opens test [] all filled = absurd (filled refl)
consists_opens test (b ∷ back) all filled = (b, back, refl, all.0)

pub some_of_opens : (test : ℕ → Bool) → Opens test (some_of test)
some_of_opens test = record { first = λ a text h. consists_opens test text h.1 h.2 }

pub octet_opens : (test : ℕ → Bool) (b : ℕ) → test b ≡ true → Opens test (octet b)
octet_opens test b passes = record { first = λ u text h. (b, [], h, passes) }

pub then_opens : {A B : Type 0} {test : ℕ → Bool} {q : Rule A} (next : A → Rule B) → Opens test q → Opens test (q >>= next)
then_opens next o = record {
  first = λ b text h. let f = o.first h.0 h.1 h.3 in (f.0, f.1 ++ h.2, h.5 ∙ ap (λ (t : List ℕ). t ++ h.2) f.2, f.3);
}

pub or_opens : {A : Type 0} {test : ℕ → Bool} {q r : Rule A} → Opens test q → Opens test r → Opens test (q <|> r)
or_opens oq or = record { first = λ a text h. elim h [ inl hq ↦ oq.first a text hq | inr hr ↦ or.first a text hr ] }

pub opens_follows : {B : Type 0} {Before After : List ℕ → Type 0} {test : ℕ → Bool} {q : Rule B} → Opens test q → ((b : ℕ) (rest : List ℕ) → test b ≡ true → Before (b ∷ rest)) → MayFollow Before After q
opens_follows {Before = Before} o may = record {
  stands = λ b text rest h n. let x = o.first b text h in subst (λ (t : List ℕ). Before (t ++ rest)) (sym x.2) (may x.0 (x.1 ++ rest) x.3);
}

-- a choice that the first octet makes
pub or_apart : {A : Type 0} {After : List ℕ → Type 0} {test : ℕ → Bool} {q r : Rule A} → Lawful After q → Lawful After r → Opens test r → ((b : ℕ) (rest : List ℕ) → test b ≡ true → q.read (b ∷ rest) ≡ None) → Lawful After (q <|> r)
or_apart {q = q} lq lr o apart = or_lawful lq lr (λ a text rest h n. let x = o.first a text h in ap (λ (t : List ℕ). q.read (t ++ rest)) x.2 ∙ apart x.0 (x.1 ++ rest) x.3)

-- where more octets pass
pub opens_weaker : {A : Type 0} {test weaker : ℕ → Bool} {q : Rule A} → ((b : ℕ) → test b ≡ true → weaker b ≡ true) → Opens test q → Opens weaker q
opens_weaker f o = record { first = λ a text h. let x = o.first a text h in (x.0, x.1, x.2, f x.0 x.3) }
