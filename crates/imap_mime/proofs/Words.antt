-- The words of an envelope, one after another.
use Rattle.std.proofs.Common.{◌≡◌, ◌∙◌, ap, sym, refl, List, ℕ, [], ◌∷◌, ◌++◌, append_assoc, append-nil}
use Rattle.imap_print.specs.Words.{before_each}

before-append : (words more : List (List ℕ)) → before_each 32 (words ++ more) ≡ before_each 32 words ++ before_each 32 more
before-append [] more = refl
before-append (word ∷ words) more = ap (λ (l : List ℕ). (32 ∷ word) ++ l) (before-append words more) ∙ sym (append_assoc (32 ∷ word) (before_each 32 words) (before_each 32 more))

-- words that go on after these
after_words : (out new : List ℕ) (words more : List (List ℕ)) (front : List ℕ) → out ≡ front ++ before_each 32 words → new ≡ out ++ before_each 32 more → new ≡ front ++ before_each 32 (words ++ more)
after_words out new words more front e f =
    f ∙ ap (λ (l : List ℕ). l ++ before_each 32 more) e ∙ append_assoc front (before_each 32 words) (before_each 32 more) ∙ ap (λ (l : List ℕ). front ++ l) (sym (before-append words more))

one_word : (out new word : List ℕ) → new ≡ out ++ 32 ∷ word → new ≡ out ++ before_each 32 (word ∷ [])
one_word out new word e = e ∙ ap (λ (l : List ℕ). out ++ (32 ∷ l)) (sym (append-nil word))

pub all_words : (subject irt id : List ℕ) (senders recipients : List (List ℕ)) (out a b c d e : List ℕ)
    → a ≡ out ++ 32 ∷ subject → b ≡ a ++ before_each 32 senders → c ≡ b ++ before_each 32 recipients → d ≡ c ++ 32 ∷ irt → e ≡ d ++ 32 ∷ id
    → e ≡ out ++ before_each 32 (subject ∷ senders ++ recipients ++ irt ∷ id ∷ [])
all_words subject irt id senders recipients out a b c d e ea eb ec ed ee =
    let first = one_word out a subject ea in
    let second = after_words a b (subject ∷ []) senders out first eb in
    let last = after_words d e (irt ∷ []) (id ∷ []) c (one_word c d irt ed) (one_word d e id ee) in
    let third = after_words b c (subject ∷ senders) recipients out second ec in
    after_words c e (subject ∷ senders ++ recipients) (irt ∷ id ∷ []) out third last
