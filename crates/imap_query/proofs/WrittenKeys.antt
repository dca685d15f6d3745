-- Tokens and the keys that they are; keys as contracts see them, and as code holds them.
use Rattle.std.proofs.Common.{rules, Vec, Global, ◌≡◌, Bool, false, not, eqb, ◌&&◌, List, [], ◌∷◌, length, map, Option, Some, None, refl, sym, ap, ◌∙◌, arith}
use Rattle.std.specs.List.{list_all}
use Rattle.std.specs.Option.{option_and_then}
use Rattle.std.proofs.lemmas.Option.{same_Some}
use Rattle.std.proofs.lemmas.Bool.Decides.{nat_tests}
use Rattle.imap_query.specs.declared.search.SearchKey.{SearchKey}
use Rattle.imap_query.specs.declared.search.SearchKey.TheViews.{Group, the_lemmas}
use Rattle.imap_query.specs.Keys.{key_of, Key, plain, negated, either, group, Keys, end, more, keys_of, Token, one, not_next, or_next, group_end, group_more, tokens, row_tokens, all_tokens}
use Rattle.imap_syntax.specs.Writing.{joined, further}
use Rattle.imap_query.proofs.Rows.{same_keys}
use Rattle.imap_query.specs.WrittenSearch.{onto, keys_from, fits_over, row_fits, key_text, row_text, further_text}

-- ---- the tokens of keys are read as these keys

mutual
  from-key : (k : Key) (rest : List Token) (ks : List Key) → keys_from rest ≡ Some ks → keys_from (tokens k rest) ≡ Some (k ∷ ks)
  from-key (plain key) rest ks e = rw e refl
  from-key (negated key) rest ks e = rw (from-key key rest ks e) refl
  from-key (either left right) rest ks e = rw (from-key left (tokens right rest) (right ∷ ks) (from-key right rest ks e)) refl
  from-key (group keys) rest ks e = from-row keys rest ks e

  from-row : (row : Keys) (rest : List Token) (ks : List Key) → keys_from rest ≡ Some ks → keys_from (row_tokens row rest) ≡ Some (group row ∷ ks)
  from-row end rest ks e = rw e refl
  from-row (more key others) rest ks e = rw (from-key key (row_tokens others rest) (group others ∷ ks) (from-row others rest ks e)) refl

pub keys_from-all : (ks : List Key) → keys_from (all_tokens ks) ≡ Some ks
keys_from-all [] = refl
keys_from-all (k ∷ ks) = from-key k (all_tokens ks) ks (keys_from-all ks)

pub same_tokens : (ks ls : List Key) → all_tokens ks ≡ all_tokens ls → ks ≡ ls
same_tokens ks ls e = same_Some _ _ (sym (keys_from-all ks) ∙ ap keys_from e ∙ keys_from-all ls)

-- ---- what is read as keys are their tokens

onto_tokens : (t : Token) (ks ls : List Key) → onto t ks ≡ Some ls → t ∷ all_tokens ks ≡ all_tokens ls
onto_tokens (one key) ks ls e = ap all_tokens (same_Some _ _ e)
onto_tokens not_next [] ls e = absurd cc
onto_tokens not_next (k ∷ ks) ls e = ap all_tokens (same_Some _ _ e)
onto_tokens or_next [] ls e = absurd cc
onto_tokens or_next (k ∷ []) ls e = absurd cc
onto_tokens or_next (k ∷ l ∷ ks) ls e = ap all_tokens (same_Some _ _ e)
onto_tokens group_end ks ls e = ap all_tokens (same_Some _ _ e)
onto_tokens group_more [] ls e = absurd cc
onto_tokens group_more (k ∷ []) ls e = absurd cc
onto_tokens group_more (k ∷ plain key ∷ ks) ls e = absurd cc
onto_tokens group_more (k ∷ negated key ∷ ks) ls e = absurd cc
onto_tokens group_more (k ∷ either left right ∷ ks) ls e = absurd cc
onto_tokens group_more (k ∷ group others ∷ ks) ls e = ap all_tokens (same_Some _ _ e)

onto_read : (t : Token) (ts : List Token) (o : Option (List Key)) (ls : List Key) → ((ks : List Key) → o ≡ Some ks → ts ≡ all_tokens ks) → option_and_then (onto t) o ≡ Some ls → t ∷ ts ≡ all_tokens ls
onto_read t ts None ls h e = absurd cc
onto_read t ts (Some ks) ls h e = ap (λ (rest : List Token). t ∷ rest) (h ks refl) ∙ onto_tokens t ks ls e

pub keys_from-some : (ts : List Token) (ks : List Key) → keys_from ts ≡ Some ks → ts ≡ all_tokens ks
keys_from-some [] ks e = ap all_tokens (same_Some _ _ e)
keys_from-some (t ∷ ts) ks e = onto_read t ts (keys_from ts) ks (λ ls f. keys_from-some ts ls f) e

-- ---- rows of keys and lists of keys

further-row : (ks : List Key) → further_text (keys_of ks) ≡ further 32 key_text ks
further-row [] = refl
further-row (k ∷ ks) = rw (further-row ks) refl

pub row-joined : (ks : List Key) → row_text (keys_of ks) ≡ joined 32 key_text ks
row-joined [] = refl
row-joined (k ∷ ks) = rw (further-row ks) refl

row-all : (f : Key → Bool) (ks : List Key) → row_fits f (keys_of ks) ≡ list_all f ks
row-all f [] = refl
row-all f (k ∷ ks) = rw (row-all f ks) refl

pub group-all : (f : Key → Bool) (ks : List Key) → fits_over f (group (keys_of ks)) ≡ (not (eqb (length ks) 0) && list_all f ks)
group-all f [] = refl
group-all f (k ∷ ks) = rw (row-all f ks) (let filled : eqb (length (k ∷ ks)) 0 ≡ false = grind (arith, nat_tests) in rw filled refl)

pub key_of-Group : (keys : Vec SearchKey Global) → key_of (Group keys) ≡ group (keys_of (map key_of keys.items))
key_of-Group keys = ap group (search (rules, the_lemmas, same_keys))

-- ---- equal rows of keys are of equal lists

abbrev others_of : Keys → List Key
others_of end = []
others_of (more k others) = k ∷ others_of others

abbrev row_of : Key → Keys
row_of (plain key) = end
row_of (negated key) = end
row_of (either left right) = end
row_of (group others) = others

others_of-keys : (ks : List Key) → others_of (keys_of ks) ≡ ks
others_of-keys [] = refl
others_of-keys (k ∷ ks) = ap (λ (rest : List Key). k ∷ rest) (others_of-keys ks)

pub same_group : (ks ls : List Key) → group (keys_of ks) ≡ group (keys_of ls) → ks ≡ ls
same_group ks ls e = sym (others_of-keys ks) ∙ ap (λ k. others_of (row_of k)) e ∙ others_of-keys ls
