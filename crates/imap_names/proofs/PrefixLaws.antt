-- Where a text points to by its prefix.
use Rattle.std.proofs.Common.{◌≡◌, ◌≢◌, ℕ, true, false, List, [], ◌∷◌, ◌++◌, length, take, drop, refl, sym, ap, ◌∙◌, inl, inr, append_assoc}
use Rattle.std.specs.Prelude.{codes, nat_eq, bytes_eq}
use Rattle.std.specs.List.{list_any, starts_with, after_first}
use Rattle.std.proofs.lemmas.Bool.{cases_Bool, cond-true, cond-false, or_from, false_from_ne_true}
use Rattle.std.proofs.lemmas.Slice.Eq.{bytes_eq-Decides}
use Rattle.std.proofs.lemmas.List.{take-append-drop}
use Rattle.imap_names.specs.declared.read.Namespace.TheVariants.{Personal, OtherUsers}
use Rattle.imap_names.specs.Text.{is_delimiter, components_of}
use Rattle.imap_names.specs.Reading.{other_parts, parts_of}
use Rattle.imap_names.specs.Valid.{is_prefix_word}
use Rattle.imap_names.proofs.Parts.{components_of-whole, components_of-front, before_first-front, after_first-front, list_any-delimited}

pub begins : (text word : List ℕ) → starts_with nat_eq text word ≡ true → text ≡ word ++ drop (length word) text
begins text word h =
    sym (take-append-drop (length word) text) ∙ ap (λ front. front ++ drop (length word) text) (sym ((bytes_eq-Decides word (take (length word) text)).0 h))

begins_not : (text word : List ℕ) → ((rest : List ℕ) → text ≢ word ++ rest) → starts_with nat_eq text word ≡ false
begins_not text word never = false_from_ne_true _ (λ fits. never (drop (length word) text) (begins text word fits))

parts_of-else : (text : List ℕ) → is_prefix_word text ≡ false → starts_with nat_eq text (codes "Shared/") ≡ false → starts_with nat_eq text (codes "Other Users/") ≡ false → parts_of text ≡ record { namespace = Personal; owner = []; path = text }
parts_of-else text word shared other = cond-false _ _ _ word ∙ cond-false _ _ _ shared ∙ cond-false _ _ _ other

pub parts_of-unprefixed : (text : List ℕ) → is_prefix_word text ≡ false → ((rest : List ℕ) → text ≢ codes "Shared/" ++ rest) → ((rest : List ℕ) → text ≢ codes "Other Users/" ++ rest) → parts_of text ≡ record { namespace = Personal; owner = []; path = text }
parts_of-unprefixed text word shared other = parts_of-else text word (begins_not text (codes "Shared/") shared) (begins_not text (codes "Other Users/") other)

head_same : {A : Type 0} (x y : A) (xs ys : List A) → x ∷ xs ≡ y ∷ ys → x ≡ y
head_same x y xs ys e = cc

-- a text with a prefix has a prefix's word as its first part
no_prefix : (text word first : List ℕ) (more : List (List ℕ)) → list_any is_delimiter word ≡ false → is_prefix_word word ≡ true → components_of text ≡ first ∷ more → is_prefix_word first ≡ false → starts_with nat_eq text (word ++ 47 ∷ []) ≡ false
no_prefix text word first more whole is parts not_word =
    elim (cases_Bool (starts_with nat_eq text (word ++ 47 ∷ []))) [
      | inl fits ↦
          let rest : List ℕ = drop (length (word ++ 47 ∷ [])) text in
          let e : text ≡ word ++ 47 ∷ rest = begins text (word ++ 47 ∷ []) fits ∙ append_assoc word (47 ∷ []) rest in
          let same : word ≡ first = head_same _ _ _ _ (sym (components_of-front word rest whole) ∙ ap components_of (sym e) ∙ parts) in
          let clash : true ≡ false = sym is ∙ ap is_prefix_word same ∙ not_word in cc
      | inr fails ↦ fails
    ]

prefix_word_alone : (text first : List ℕ) (more : List (List ℕ)) → components_of text ≡ first ∷ more → is_prefix_word first ≡ false → is_prefix_word text ≡ false
prefix_word_alone text first more parts not_word =
    or_from _ _ (differs (codes "Other Users") refl refl) (differs (codes "Shared") refl refl)
  where
    differs : (word : List ℕ) → list_any is_delimiter word ≡ false → is_prefix_word word ≡ true → bytes_eq text word ≡ false
    differs word whole is =
        elim (cases_Bool (bytes_eq text word)) [
          | inl fits ↦
              let e : text ≡ word = (bytes_eq-Decides text word).0 fits in
              let same : word ≡ first = head_same _ _ _ _ (sym (components_of-whole word whole) ∙ ap components_of (sym e) ∙ parts) in
              let clash : true ≡ false = sym is ∙ ap is_prefix_word same ∙ not_word in cc
          | inr fails ↦ fails
        ]

pub parts_of-personal : (text first : List ℕ) (more : List (List ℕ)) → components_of text ≡ first ∷ more → is_prefix_word first ≡ false → parts_of text ≡ record { namespace = Personal; owner = []; path = text }
parts_of-personal text first more parts not_word =
    parts_of-else text (prefix_word_alone text first more parts not_word)
    (no_prefix text (codes "Shared") first more refl refl parts not_word)
    (no_prefix text (codes "Other Users") first more refl refl parts not_word)

pub other_parts-user : (owner path : List ℕ) → list_any is_delimiter owner ≡ false → other_parts (owner ++ 47 ∷ path) ≡ record { namespace = OtherUsers; owner = owner; path = path }
other_parts-user owner path whole =
    cond-true _ _ _ (list_any-delimited owner path)
    ∙ ap (λ o. record { namespace = OtherUsers; owner = o; path = after_first is_delimiter (owner ++ 47 ∷ path) }) (before_first-front owner path whole)
    ∙ ap (λ p. record { namespace = OtherUsers; owner = owner; path = p }) (after_first-front owner path whole)
