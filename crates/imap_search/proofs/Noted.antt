-- What keys ask for, along their tree and along their tokens.
use Rattle.std.proofs.Common.{◌≡◌, ◌∙◌, ℕ, Bool, true, false, ◌||◌, List, [], ◌∷◌, refl, sym, ap}
use Rattle.imap_query.specs.Keys.{Plain, Key, plain, negated, either, group, Keys, end, more, keys_of, Token, tokens, row_tokens, all_tokens}
use Rattle.imap_search.specs.declared.key_facts.KeyFacts.{KeyFacts}
use Rattle.imap_search.specs.Search.{is_mod_seq, is_unserved, names_unknown}
use Rattle.imap_search.specs.KeyFacts.{both, facts_of_each, facts_of_key, no_facts}
use Rattle.imap_search.specs.Tokens.{has_plain}

or_assoc : (a b c : Bool) → ((a || b) || c) ≡ (a || (b || c))
or_assoc true b c = refl
or_assoc false b c = refl

or_false : (a : Bool) → (a || false) ≡ a
or_false true = refl
or_false false = refl

pub both_assoc : (f g h : KeyFacts) → both (both f g) h ≡ both f (both g h)
both_assoc f g h = λ i. record {
  unknown = or_assoc f.unknown g.unknown h.unknown i;
  unserved = or_assoc f.unserved g.unserved h.unserved i;
  mod_seq = or_assoc f.mod_seq g.mod_seq h.mod_seq i;
}

pub both_none : (f : KeyFacts) → both f no_facts ≡ f
both_none f = λ i. record {
  unknown = or_false f.unknown i;
  unserved = or_false f.unserved i;
  mod_seq = or_false f.mod_seq i;
}

-- ---- each of the three, token by token

module _ (count : ℕ) (fact : KeyFacts → Bool) (test : Plain → Bool)
    (none : fact no_facts ≡ false) (joins : (f g : KeyFacts) → fact (both f g) ≡ (fact f || fact g))
    (by_plain : (key : Plain) → fact (facts_of_key count (plain key)) ≡ test key) where
  mutual
    of_key : (k : Key) (rest : List Token) → has_plain test (tokens k rest) ≡ (fact (facts_of_key count k) || has_plain test rest)
    of_key (plain key) rest = ap (λ b. b || has_plain test rest) (sym (by_plain key))
    of_key (negated key) rest = of_key key rest
    of_key (either left right) rest =
        of_key left (tokens right rest)
        ∙ ap (λ b. fact (facts_of_key count left) || b) (of_key right rest)
        ∙ sym (or_assoc (fact (facts_of_key count left)) (fact (facts_of_key count right)) (has_plain test rest))
        ∙ ap (λ b. b || has_plain test rest) (sym (joins (facts_of_key count left) (facts_of_key count right)))
    of_key (group keys) rest = of_row keys rest

    of_row : (row : Keys) (rest : List Token) → has_plain test (row_tokens row rest) ≡ (fact (facts_of_each count row) || has_plain test rest)
    of_row end rest = ap (λ b. b || has_plain test rest) (sym none)
    of_row (more key others) rest =
        of_key key (row_tokens others rest)
        ∙ ap (λ b. fact (facts_of_key count key) || b) (of_row others rest)
        ∙ sym (or_assoc (fact (facts_of_key count key)) (fact (facts_of_each count others)) (has_plain test rest))
        ∙ ap (λ b. b || has_plain test rest) (sym (joins (facts_of_key count key) (facts_of_each count others)))

  of_all : (ks : List Key) → has_plain test (all_tokens ks) ≡ fact (facts_of_each count (keys_of ks))
  of_all [] = sym none
  of_all (k ∷ ks) =
      of_key k (all_tokens ks)
      ∙ ap (λ b. fact (facts_of_key count k) || b) (of_all ks)
      ∙ sym (joins (facts_of_key count k) (facts_of_each count (keys_of ks)))

pub unknown_of : (count : ℕ) (ks : List Key) → has_plain (names_unknown count) (all_tokens ks) ≡ (facts_of_each count (keys_of ks)).unknown
unknown_of count ks = of_all count (λ f. f.unknown) (names_unknown count) refl (λ f g. refl) (λ key. refl) ks

pub unserved_of : (count : ℕ) (ks : List Key) → has_plain is_unserved (all_tokens ks) ≡ (facts_of_each count (keys_of ks)).unserved
unserved_of count ks = of_all count (λ f. f.unserved) is_unserved refl (λ f g. refl) (λ key. refl) ks

pub mod_seq_of : (count : ℕ) (ks : List Key) → has_plain is_mod_seq (all_tokens ks) ≡ (facts_of_each count (keys_of ks)).mod_seq
mod_seq_of count ks = of_all count (λ f. f.mod_seq) is_mod_seq refl (λ f g. refl) (λ key. refl) ks
