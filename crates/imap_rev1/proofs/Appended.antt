-- Texts that are appended one after another.
use Rattle.std.proofs.Common.{◌≡◌, ◌∙◌, ℕ, List, ap, sym, ◌++◌, append_assoc}
use Rattle.imap_print.specs.Words.{before_each}
use Rattle.imap_print.proofs.Wording.{before_each-append}

pub two_appended : (out a b x y : List ℕ) → x ≡ out ++ a → y ≡ x ++ b → y ≡ out ++ (a ++ b)
two_appended out a b x y e f = f ∙ ap (λ l. l ++ b) e ∙ append_assoc out a b

pub three_appended : (out a b c x y z : List ℕ) → x ≡ out ++ a → y ≡ x ++ b → z ≡ y ++ c → z ≡ out ++ ((a ++ b) ++ c)
three_appended out a b c x y z e f g = two_appended out (a ++ b) c y z (two_appended out a b x y e f) g

pub four_appended : (out a b c d w x y z : List ℕ) → w ≡ out ++ a → x ≡ w ++ b → y ≡ x ++ c → z ≡ y ++ d → z ≡ out ++ (((a ++ b) ++ c) ++ d)
four_appended out a b c d w x y z e f g h = two_appended out ((a ++ b) ++ c) d y z (three_appended out a b c w x y e f g) h

grouped : (out e x y z : List ℕ) → (((out ++ e) ++ x) ++ y) ++ z ≡ out ++ (e ++ ((x ++ y) ++ z))
grouped out e x y z = ap (λ (l : List ℕ). l ++ z) (append_assoc (out ++ e) x y) ∙ append_assoc (out ++ e) (x ++ y) z ∙ append_assoc out e ((x ++ y) ++ z)

-- a text, words after it, and two texts
words_appended : (out front end last : List ℕ) (xs ys zs : List (List ℕ))
    → (((((out ++ front) ++ before_each 32 xs) ++ before_each 32 ys) ++ before_each 32 zs) ++ end) ++ last ≡ out ++ (((front ++ before_each 32 ((xs ++ ys) ++ zs)) ++ end) ++ last)
words_appended out front end last xs ys zs =
    let words : before_each 32 ((xs ++ ys) ++ zs) ≡ (before_each 32 xs ++ before_each 32 ys) ++ before_each 32 zs =
    before_each-append 32 (xs ++ ys) zs ∙ ap (λ (l : List ℕ). l ++ before_each 32 zs) (before_each-append 32 xs ys) in
    ap (λ (l : List ℕ). (l ++ end) ++ last) (grouped out front (before_each 32 xs) (before_each 32 ys) (before_each 32 zs))
    ∙ ap (λ (l : List ℕ). ((out ++ (front ++ l)) ++ end) ++ last) (sym words)
    ∙ ap (λ (l : List ℕ). l ++ last) (append_assoc out (front ++ before_each 32 ((xs ++ ys) ++ zs)) end)
    ∙ append_assoc out ((front ++ before_each 32 ((xs ++ ys) ++ zs)) ++ end) last

pub words_pushed : (out front end last : List ℕ) (xs ys zs : List (List ℕ)) (a b c d e z : List ℕ)
    → a ≡ out ++ front → b ≡ a ++ before_each 32 xs → c ≡ b ++ before_each 32 ys → d ≡ c ++ before_each 32 zs → e ≡ d ++ end → z ≡ e ++ last
    → z ≡ out ++ (((front ++ before_each 32 ((xs ++ ys) ++ zs)) ++ end) ++ last)
words_pushed out front end last xs ys zs a b c d e z ea eb ec ed ee ez =
    let first : b ≡ (out ++ front) ++ before_each 32 xs = eb ∙ ap (λ (l : List ℕ). l ++ before_each 32 xs) ea in
    let second : d ≡ (((out ++ front) ++ before_each 32 xs) ++ before_each 32 ys) ++ before_each 32 zs =
    ed ∙ ap (λ (l : List ℕ). l ++ before_each 32 zs) (ec ∙ ap (λ (l : List ℕ). l ++ before_each 32 ys) first) in
    ez ∙ ap (λ (l : List ℕ). l ++ last) (ee ∙ ap (λ (l : List ℕ). l ++ end) second) ∙ words_appended out front end last xs ys zs
