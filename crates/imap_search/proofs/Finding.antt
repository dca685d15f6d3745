-- The messages that keys find, by their tokens and by their tree.
use Rattle.std.proofs.Common.{◌≡◌, ◌∙◌, Bool, ◌&&◌, List, [], ◌∷◌, map, refl, sym, ap}
use Rattle.std.specs.List.{list_all}
use Rattle.imap_query.specs.Keys.{keys_of, Key, plain, negated, either, group, Keys, end, more, Token, not_next, or_next, group_more, tokens, row_tokens, all_tokens}
use Rattle.imap_search.specs.Finds.{Candidate, finds, finds_each}
use Rattle.imap_search.specs.Tokens.{TokensFind, found_by, finds_all, is_true, onto}

-- ---- tokens

mutual
  found-key : (s : Candidate) (k : Key) (rest : List Token) → found_by s (tokens k rest) ≡ finds s k ∷ found_by s rest
  found-key s (plain key) rest = refl
  found-key s (negated key) rest = ap (onto s not_next) (found-key s key rest)
  found-key s (either left right) rest =
      ap (onto s or_next) (found-key s left (tokens right rest) ∙ ap (λ (l : List Bool). finds s left ∷ l) (found-key s right rest))
  found-key s (group keys) rest = found-row s keys rest

  found-row : (s : Candidate) (row : Keys) (rest : List Token) → found_by s (row_tokens row rest) ≡ finds_each s row ∷ found_by s rest
  found-row s end rest = refl
  found-row s (more key others) rest =
      ap (onto s group_more) (found-key s key (row_tokens others rest) ∙ ap (λ (l : List Bool). finds s key ∷ l) (found-row s others rest))

pub found-all : (s : Candidate) (keys : List Key) → found_by s (all_tokens keys) ≡ map (finds s) keys
found-all s [] = refl
found-all s (k ∷ keys) = found-key s k (all_tokens keys) ∙ ap (λ (l : List Bool). finds s k ∷ l) (found-all s keys)

all-map : (s : Candidate) (keys : List Key) → list_all is_true (map (finds s) keys) ≡ list_all (finds s) keys
all-map s [] = refl
all-map s (k ∷ keys) = ap (λ b. finds s k && b) (all-map s keys)

pub tokens_find : TokensFind
tokens_find s keys = ap (list_all is_true) (found-all s keys) ∙ all-map s keys

-- ---- keys in a row

pub each-all : (s : Candidate) (keys : List Key) → finds_each s (keys_of keys) ≡ list_all (finds s) keys
each-all s [] = refl
each-all s (k ∷ keys) = ap (λ b. finds s k && b) (each-all s keys)

pub each_finds : (s : Candidate) (keys : List Key) → finds_each s (keys_of keys) ≡ finds_all s (all_tokens keys)
each_finds s keys = each-all s keys ∙ sym (tokens_find s keys)
