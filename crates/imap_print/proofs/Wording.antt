-- Words after words.
use Rattle.std.proofs.Common.{◌≡◌, ℕ, Bool, true, false, ◌||◌, List, [], ◌∷◌, ◌++◌, refl, sym, ap, ◌∙◌, append_assoc, append-nil}
use Rattle.imap_print.specs.Words.{before_each, joined, further, space, are_there, GoesOn}

pub before_each-append : (octet : ℕ) (words more : List (List ℕ)) → before_each octet (words ++ more) ≡ before_each octet words ++ before_each octet more
before_each-append octet [] more = refl
before_each-append octet (word ∷ words) more =
    ap (λ (t : List ℕ). octet ∷ (word ++ t)) (before_each-append octet words more) ∙ sym (append_assoc (octet ∷ word) (before_each octet words) (before_each octet more))

-- whether there are words by now
abbrev any_by : Bool → List (List ℕ) → Bool
any_by begun words = begun || are_there words

further-append : (begun : Bool) (words more : List (List ℕ)) → further begun 32 (words ++ more) ≡ further begun 32 words ++ further (any_by begun words) 32 more
further-append true words more = before_each-append 32 words more
further-append false [] more = refl
further-append false (word ∷ words) more =
    ap (λ (t : List ℕ). word ++ t) (before_each-append 32 words more) ∙ sym (append_assoc word (before_each 32 words) (before_each 32 more))

any_by-append : (begun : Bool) (words more : List (List ℕ)) → any_by (any_by begun words) more ≡ any_by begun (words ++ more)
any_by-append true words more = refl
any_by-append false [] more = refl
any_by-append false (word ∷ words) more = refl

pub goes_on_none : (old : List ℕ) (begun : Bool) → GoesOn old begun [] old begun
goes_on_none old true = record { printed = sym (append-nil old); any = refl }
goes_on_none old false = record { printed = sym (append-nil old); any = refl }

further-one : (begun : Bool) (word : List ℕ) → further begun 32 (word ∷ []) ≡ space begun ++ word
further-one true word = ap (λ (t : List ℕ). 32 ∷ t) (append-nil word)
further-one false word = append-nil word

any_by-one : (begun : Bool) (word : List ℕ) → true ≡ any_by begun (word ∷ [])
any_by-one true word = refl
any_by-one false word = refl

pub goes_on_word : (old : List ℕ) (begun : Bool) (word spaced new : List ℕ) → spaced ≡ old ++ space begun → new ≡ spaced ++ word → GoesOn old begun (word ∷ []) new true
goes_on_word old begun word spaced new s n = record {
  printed = n ∙ ap (λ (t : List ℕ). t ++ word) s ∙ append_assoc old (space begun) word ∙ ap (λ (t : List ℕ). old ++ t) (sym (further-one begun word));
  any = any_by-one begun word;
}

pub goes_on-append : {a c e : List ℕ} {b d f : Bool} {words more : List (List ℕ)} → GoesOn a b words c d → GoesOn c d more e f → GoesOn a b (words ++ more) e f
goes_on-append {a = a} {b = b} {d = d} {words = words} {more = more} g h = record {
  printed =
      h.printed ∙ ap (λ (t : List ℕ). t ++ further d 32 more) g.printed ∙ append_assoc a (further b 32 words) (further d 32 more)
      ∙ ap (λ (n : Bool). a ++ (further b 32 words ++ further n 32 more)) g.any ∙ ap (λ (t : List ℕ). a ++ t) (sym (further-append b words more));
  any = h.any ∙ ap (λ (n : Bool). any_by n more) g.any ∙ any_by-append b words more;
}

-- after other octets
pub goes_on_after : (front : List ℕ) {a c : List ℕ} {b d : Bool} {words : List (List ℕ)} → GoesOn a b words c d → GoesOn (front ++ a) b words (front ++ c) d
goes_on_after front {a = a} {b = b} {words = words} g = record {
  printed = ap (λ (t : List ℕ). front ++ t) g.printed ∙ sym (append_assoc front a (further b 32 words));
  any = g.any;
}

-- what stands between parentheses
pub enclosed : (out opened closed : List ℕ) (words : List (List ℕ)) (now : Bool) (done : List ℕ) → opened ≡ out ++ 40 ∷ [] → GoesOn opened false words closed now → done ≡ closed ++ 41 ∷ [] → done ≡ out ++ (40 ∷ joined 32 words ++ 41 ∷ [])
enclosed out opened closed words now done o g d =
    d ∙ ap (λ (t : List ℕ). t ++ 41 ∷ []) (g.printed ∙ ap (λ (t : List ℕ). t ++ joined 32 words) o)
    ∙ append_assoc (out ++ 40 ∷ []) (joined 32 words) (41 ∷ []) ∙ append_assoc out (40 ∷ []) (joined 32 words ++ 41 ∷ [])

-- one text after another
pub appended : (out a b : List ℕ) {m n : List ℕ} → m ≡ out ++ a → n ≡ m ++ b → n ≡ out ++ (a ++ b)
appended out a b e f = f ∙ ap (λ (t : List ℕ). t ++ b) e ∙ append_assoc out a b
