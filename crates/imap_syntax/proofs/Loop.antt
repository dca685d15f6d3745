-- Reading a list item by item, as a loop does.
use Rattle.std.proofs.Common.{◌≡◌, ℕ, suc, true, List, [], ◌∷◌, ◌++◌, length, Option, Some, None, refl, sym, ap, ◌∙◌, append_assoc}
use Rattle.imap_syntax.specs.Rule.{with_front, flag_read, separated_read, items_read}

regroup : {A : Type 0} (front : List A) (a : A) (read : Option (List A × List ℕ)) → with_front front (with_front (a ∷ []) read) ≡ with_front (front ++ a ∷ []) read
regroup front a None = refl
regroup front a (Some x) = ap (λ (all : List _). Some (all, x.1)) (sym (append_assoc front (a ∷ []) x.0))

with_front_nil : {A : Type 0} (read : Option (List A × List ℕ)) → with_front [] read ≡ read
with_front_nil None = refl
with_front_nil (Some x) = refl

pub begins : {A : Type 0} (b : ℕ) (read : List ℕ → Option (A × List ℕ)) (input : List ℕ) → with_front [] (separated_read b read (suc (length input)) input) ≡ items_read b read input
unfolding items_read
begins b read input = with_front_nil (separated_read b read (suc (length input)) input)

goes_on : {A : Type 0} (b : ℕ) (read : List ℕ → Option (A × List ℕ)) (n : ℕ) (front : List A) (rest middle after : List ℕ) (a : A) (whole : Option (List A × List ℕ))
    → read rest ≡ Some (a, middle) → flag_read b middle ≡ Some (true, after)
    → with_front front (separated_read b read (suc n) rest) ≡ whole → with_front (front ++ a ∷ []) (separated_read b read n after) ≡ whole
goes_on b read n front rest middle after a whole item separator so_far =
    let one : separated_read b read (suc n) rest ≡ with_front (a ∷ []) (separated_read b read n after) = rw item (rw separator refl) in
    sym (regroup front a (separated_read b read n after)) ∙ ap (with_front front) (sym one) ∙ so_far

-- another item is allowed
pub goes_further : {A : Type 0} (b : ℕ) (read : List ℕ → Option (A × List ℕ)) (n m : ℕ) (front : List A) (rest middle after : List ℕ) (a : A) (whole : Option (List A × List ℕ))
    → n ≡ suc m → read rest ≡ Some (a, middle) → flag_read b middle ≡ Some (true, after)
    → with_front front (separated_read b read (suc n) rest) ≡ whole → with_front (front ++ a ∷ []) (separated_read b read (suc m) after) ≡ whole
goes_further b read n m front rest middle after a whole left item separator so_far =
    ap (λ (k : ℕ). with_front (front ++ a ∷ []) (separated_read b read k after)) (sym left) ∙ goes_on b read n front rest middle after a whole item separator so_far
