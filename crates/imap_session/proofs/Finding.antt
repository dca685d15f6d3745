-- The place of a UID.
use Rattle.std.proofs.Common.{◌≡◌, ℕ, suc, ◌+◌, ◌<◌, ◌≤◌, ltb, Bool, true, false, cond, List, [], ◌∷◌, length, get_or, Some, None, option_map, refl, sym, ap, subst, ◌∙◌, arith}
use Rattle.std.proofs.lemmas.Bool.{ne_eqb, eq-eqb, ltb-true, ltb-false}
use Rattle.std.specs.List.{prefix_len}
use Rattle.std.specs.List.Sorted.{IsNonDecreasingBy}
use Rattle.imap_mailbox.specs.Summary.{Rises}
use Rattle.imap_mailbox.specs.Lent.{place_in}
use Rattle.imap_mailbox.proofs.Finding.{up}
use Rattle.imap_mailbox.specs.Rows.{first_uid}
use Rattle.imap_session.specs.Held.{UidsRise, uid_limit}

pub no_decrease : (low high : ℕ) (us : List ℕ) → Rises low high us → IsNonDecreasingBy (λ (u : ℕ). u) us
no_decrease low high us h i j d le lt = up low high us i j d h le lt

above : (low high uid : ℕ) (known : List ℕ) → uid < low → Rises low high known → place_in uid known ≡ None
above low high uid [] lt h = refl
above low high uid (k ∷ known) lt h =
    let first : low ≤ k = h.0 in
    (λ i. cond (ne_eqb k uid (λ e. omega arith) i) (Some 0) (option_map (λ n. n + 1) (place_in uid known)))
    ∙ ap (option_map (λ n. n + 1)) (above (k + 1) high uid known (omega arith) h.1)

-- i is the number of messages with a lower UID
pub record IsPlaceOf (uid : ℕ) (known : List ℕ) (i : ℕ) : Type 0 where
  pub found : (d : ℕ) → i < length known → get_or known i d ≡ uid → place_in uid known ≡ Some i
  pub other : (d : ℕ) → i < length known → (get_or known i d ≡ uid → ⊥) → place_in uid known ≡ None
  pub past : length known ≤ i → place_in uid known ≡ None

first_of : (low high uid : ℕ) (k : ℕ) (known : List ℕ) → Rises low high (k ∷ known) → uid ≤ k → IsPlaceOf uid (k ∷ known) 0
first_of low high uid k known h le = record {
  found = λ d lt e. ap (λ b. cond b (Some 0) (option_map (λ n. n + 1) (place_in uid known))) (eq-eqb k uid e);
  other = λ d lt apart.
      (λ i. cond (ne_eqb k uid apart i) (Some 0) (option_map (λ n. n + 1) (place_in uid known)))
      ∙ ap (option_map (λ n. n + 1)) (above (k + 1) high uid known (omega arith) h.1);
  past = λ none. absurd (omega arith);
}

later_of : (uid i : ℕ) (k : ℕ) (known : List ℕ) → k < uid → IsPlaceOf uid known i → IsPlaceOf uid (k ∷ known) (suc i)
later_of uid i k known lt h = record {
  found = λ d within e. skip ∙ ap (option_map (λ n. n + 1)) (h.found d (omega arith) e) ∙ ap Some (omega arith);
  other = λ d within apart. skip ∙ ap (option_map (λ n. n + 1)) (h.other d (omega arith) apart);
  past = λ within. skip ∙ ap (option_map (λ n. n + 1)) (h.past (omega arith));
}
  where
    skip : place_in uid (k ∷ known) ≡ option_map (λ n. n + 1) (place_in uid known)
    skip = ap (λ b. cond b (Some 0) (option_map (λ n. n + 1) (place_in uid known))) (ne_eqb k uid (λ e. omega arith))

one_more : (n : ℕ) → suc n ≡ 1 + n
one_more n = omega arith

pub place_is : (low high uid : ℕ) (known : List ℕ) → Rises low high known → IsPlaceOf uid known (prefix_len (λ (k : ℕ). ltb k uid) known)
place_is low high uid [] h = record { found = λ d lt e. absurd (omega arith); other = λ d lt e. refl; past = λ le. refl }
place_is low high uid (k ∷ known) h = by (ltb k uid) refl (place_is (k + 1) high uid known h.1)
  where
    by : (b : Bool) → ltb k uid ≡ b → IsPlaceOf uid known (prefix_len (λ (x : ℕ). ltb x uid) known)
        → IsPlaceOf uid (k ∷ known) (cond b (1 + prefix_len (λ (x : ℕ). ltb x uid) known) 0)
    by true is rest =
        subst (IsPlaceOf uid (k ∷ known)) (one_more (prefix_len (λ (x : ℕ). ltb x uid) known)) (later_of uid (prefix_len (λ (x : ℕ). ltb x uid) known) k known (ltb-true k uid is) rest)
    by false is rest = first_of low high uid k known h (ltb-false k uid is)

pub place_at : (uid : ℕ) (us : List ℕ) (i : ℕ) → UidsRise us → i ≡ prefix_len (λ (u : ℕ). ltb u uid) us → IsPlaceOf uid us i
place_at uid us i h e = subst (IsPlaceOf uid us) (sym e) (place_is first_uid uid_limit uid us h)
