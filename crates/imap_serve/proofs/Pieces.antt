-- Replies that are told and written in pieces.
use Rattle.std.proofs.Common.{◌≡◌, ◌∙◌, ◌+◌, ◌<◌, get_or, length, sym, ap, refl, ℕ, List, [], ◌∷◌, ◌++◌, take, drop, flat_map, Option, append_assoc, append-nil, subst}
use Rattle.std.proofs.lemmas.List.{take-append-drop, take_more}
use Rattle.std.proofs.lemmas.List.Folds.{concat-append}
use Rattle.std.proofs.Math.Seq.{take-add}
use Rattle.std.specs.Io.KnownBytes.{Appends}
use Rattle.std.specs.List.{concat}
use Rattle.imap_print.specs.declared.response.Response.{Response}
use Rattle.imap_lex.specs.declared.frame.Frame.{Frame}
use Rattle.imap_dialect.specs.Telling.{IsRule, Telling, retold}
use Rattle.imap_serve.specs.Reading.{AppendsPart}
use Rattle.imap_serve.proofs.Bytes.{appends_more}
use Rattle.imap_serve.proofs.Turns.{flat_map_more}

front_own : (xs ys : List ℕ) → xs ≡ take (length xs) (xs ++ ys)
front_own [] ys = refl
front_own (x ∷ xs) ys = ap (λ l. x ∷ l) (front_own xs ys)

-- octets that stand at the front of all were written
part_of : (a b : Option (List ℕ)) (xs ys whole : List ℕ) → Appends a b xs → xs ++ ys ≡ whole → AppendsPart a b whole
part_of a b xs ys whole h is = (length xs, subst (Appends a b) (front_own xs ys ∙ ap (take (length xs)) is) h)

-- a part of the first octets is a part of all
part_more : (a b : Option (List ℕ)) (xs ys whole : List ℕ) → AppendsPart a b xs → xs ++ ys ≡ whole → AppendsPart a b whole
part_more a b xs ys whole h is =
    part_of a b (take h.0 xs) (drop h.0 xs ++ ys) whole h.1
    (sym (append_assoc (take h.0 xs) (drop h.0 xs) ys) ∙ (ap (λ l. l ++ ys) (take-append-drop h.0 xs) ∙ is))

module _ {X : Type 0} (f : X → List ℕ) where
  all_parts : (n : ℕ) (xs : List X) → flat_map f (take n xs) ++ flat_map f (drop n xs) ≡ flat_map f xs
  all_parts n xs = sym (flat_map_more f (take n xs) (drop n xs)) ∙ ap (flat_map f) (take-append-drop n xs)

  pub part_of_piece : (a b : Option (List ℕ)) (n : ℕ) (xs : List X) → AppendsPart a b (flat_map f (take n xs)) → AppendsPart a b (flat_map f xs)
  part_of_piece a b n xs h = part_more a b (flat_map f (take n xs)) (flat_map f (drop n xs)) (flat_map f xs) h (all_parts n xs)

  module _ (a b c : Option (List ℕ)) (done : ℕ) (xs : List X) (h : Appends a b (flat_map f (take done xs))) where
    -- one more piece was written
    pub pieces_more : (n : ℕ) → Appends b c (flat_map f (take n (drop done xs))) → Appends a c (flat_map f (take (done + n) xs))
    pieces_more n k = subst (Appends a c) (sym (flat_map_more f (take done xs) (take n (drop done xs))) ∙ ap (flat_map f) (sym (take-add done n xs))) (appends_more a b c (flat_map f (take done xs)) (flat_map f (take n (drop done xs))) h k)

    -- a part of one more piece was written
    pub pieces_part : AppendsPart b c (flat_map f (drop done xs)) → AppendsPart a c (flat_map f xs)
    pieces_part k = part_of a c (flat_map f (take done xs) ++ take k.0 (flat_map f (drop done xs))) (drop k.0 (flat_map f (drop done xs))) (flat_map f xs)
        (appends_more a b c (flat_map f (take done xs)) (take k.0 (flat_map f (drop done xs))) h k.1)
        (append_assoc (flat_map f (take done xs)) (take k.0 (flat_map f (drop done xs))) (drop k.0 (flat_map f (drop done xs))) ∙ (ap (λ l. flat_map f (take done xs) ++ l) (take-append-drop k.0 (flat_map f (drop done xs))) ∙ all_parts done xs))

-- ---- told by a rule

-- the same told of each is the same of all
flat_map_same : {X : Type 0} (f h : X → List ℕ) (xs : List X) → ((x : X) → f x ≡ h x) → flat_map f xs ≡ flat_map h xs
flat_map_same f h [] same = refl
flat_map_same f h (x ∷ xs) same = ap (λ l. l ++ flat_map f xs) (same x) ∙ ap (λ l. h x ++ l) (flat_map_same f h xs same)

module _ {S : Type 0} (f : Response → List ℕ) (t : Telling S) (state : S) (by : Option Frame) (xs : List Response) (rule : IsRule f t state by) where
  ruled : flat_map f xs ≡ retold t state by xs
  ruled = flat_map_same f (t.told state by) xs rule

  pub ruled_all : (a b : Option (List ℕ)) → Appends a b (flat_map f xs) → Appends a b (retold t state by xs)
  ruled_all a b h = subst (Appends a b) ruled h

  pub ruled_part : (a b : Option (List ℕ)) → AppendsPart a b (flat_map f xs) → AppendsPart a b (retold t state by xs)
  ruled_part a b h = subst (AppendsPart a b) ruled h

-- ---- pieces of octets

concat_one : (i : ℕ) (xs : List (List ℕ)) (d : List ℕ) → i < length xs → concat (take (i + 1) xs) ≡ concat (take i xs) ++ get_or xs i d
concat_one i xs d lt =
    ap concat (take_more xs i d lt) ∙ concat-append (take i xs) (get_or xs i d ∷ [])
    ∙ ap (λ (t : List ℕ). concat (take i xs) ++ t) (append-nil (get_or xs i d))

concat_parts : (n : ℕ) (xs : List (List ℕ)) → concat (take n xs) ++ concat (drop n xs) ≡ concat xs
concat_parts n xs = sym (concat-append (take n xs) (drop n xs)) ∙ ap concat (take-append-drop n xs)

-- one more piece was written
pub octets_more : (a b c : Option (List ℕ)) (i : ℕ) (xs : List (List ℕ)) (d : List ℕ) → i < length xs → Appends a b (concat (take i xs)) → Appends b c (get_or xs i d) → Appends a c (concat (take (i + 1) xs))
octets_more a b c i xs d lt h k = subst (Appends a c) (sym (concat_one i xs d lt)) (appends_more a b c (concat (take i xs)) (get_or xs i d) h k)

-- a part of one more piece was written
pub octets_part : (a b c : Option (List ℕ)) (i : ℕ) (xs : List (List ℕ)) (d : List ℕ) → i < length xs → Appends a b (concat (take i xs)) → AppendsPart b c (get_or xs i d) → AppendsPart a c (concat xs)
octets_part a b c i xs d lt h k =
    let x = get_or xs i d in
    let front = concat (take i xs) in
    let rest = concat (drop (i + 1) xs) in
    part_of a c (front ++ take k.0 x) (drop k.0 x ++ rest) (concat xs)
    (appends_more a b c front (take k.0 x) h k.1)
    (sym (append_assoc (front ++ take k.0 x) (drop k.0 x) rest)
    ∙ ap (λ (l : List ℕ). l ++ rest) (append_assoc front (take k.0 x) (drop k.0 x) ∙ ap (λ (l : List ℕ). front ++ l) (take-append-drop k.0 x) ∙ sym (concat_one i xs d lt))
    ∙ concat_parts (i + 1) xs)
