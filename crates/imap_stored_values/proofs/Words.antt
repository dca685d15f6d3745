-- Keywords of a text.
use Rattle.std.proofs.Common.{◌≡◌, ◌≢◌, ℕ, zero, suc, ◌<◌, true, not, List, [], ◌∷◌, ◌++◌, append_assoc, get_or, length, Result, Ok, Err, Option, Some, None, refl, sym, ap, subst, ◌∙◌, true≢false, arith, rules}
use Rattle.std.specs.Prelude.{IfSome, IsUtf8, MatchOption, ◌==◌}
use Rattle.std.specs.Borrow.{Bor}
use Rattle.std.specs.BTreeSet.{insert_key}
use Rattle.std.specs.Cmp.Lexicographic.{nat_list_cmp_total, slice_cmp}
use Rattle.std.specs.List.{list_all}
use Rattle.std.specs.Ordering.{match_ordering, nat_cmp, ordering_reverse}
use Rattle.std.specs.Str.{str_to_ascii_lowercase}
use Rattle.std.specs.declared.cmp.Ordering.TheVariants.{Less}
use Rattle.std.proofs.lemmas.Bool.{and_parts}
use Rattle.std.proofs.lemmas.List.{length-append}
use Rattle.std.proofs.lemmas.Str.Pattern.{IsSplitOnceResult, split_after, split_parts}
use Rattle.std.proofs.lemmas.Str.{IsCharBoundary-before_ascii, IsUtf8-drop, IsUtf8-past_char}
use Rattle.std.proofs.Math.Seq.{drop-append_seam, get_or-append_seam}
use Rattle.imap_mailbox.specs.declared.parts.PartsError.{PartsError}
use Rattle.imap_mailbox.specs.declared.parts.PartsError.TheVariants.{Bad, Memory}
use Rattle.imap_syntax.specs.Atoms.{IsAtom}
use Rattle.imap_syntax.specs.Keywords.{AreAtoms, AreKeywords, AreLower, AreRising, IsBefore, with_word}
use Rattle.imap_syntax.specs.Lexical.{is_atom_char}
use Rattle.imap_records.specs.Columns.{keywords_text}
use Rattle.imap_stored_values.specs.Restored.{IsFront, IsLast}

-- ---- words in a text

no_space : (word : List ℕ) → list_all is_atom_char word ≡ true → (i : ℕ) → i < length word → get_or word i 0 ≢ 32
no_space [] e i lt is = omega (arith, lt)
no_space (c ∷ cs) e zero lt is = true≢false (sym (and_parts (is_atom_char c) (list_all is_atom_char cs) e).0 ∙ ap is_atom_char is)
no_space (c ∷ cs) e (suc i) lt is = no_space cs (and_parts (is_atom_char c) (list_all is_atom_char cs) e).1 i (omega (arith, lt)) is

all_atoms : (word : List ℕ) → IsAtom word → list_all is_atom_char word ≡ true
all_atoms word h = (and_parts (not (length word == 0)) (list_all is_atom_char word) h).1

-- a text with a space in it
seam : (a b : List ℕ) → get_or (a ++ 32 ∷ b) (length a) 0 ≡ 32
seam a b = get_or-append_seam a 32 b 0

within : (a b : List ℕ) → length a < length (a ++ 32 ∷ b)
within a b = omega (arith, length-append a (32 ∷ b))

pub split_words : (text : List ℕ) (r : Option (Bor (List ℕ) × Bor (List ℕ))) → IsSplitOnceResult 32 text r → MatchOption r (IsLast text) (λ x. IsFront text x.0.now x.1.now)
split_words text r h = by r (split_parts 32 text r h (omega arith)) (λ xs ys is none. split_after 32 text xs ys r h (omega arith) is none)
  where
    by : (r : Option (Bor (List ℕ) × Bor (List ℕ))) → MatchOption r ((i : ℕ) → i < length text → get_or text i 0 ≢ 32) (λ x. (text ≡ x.0.now ++ (32 ∷ x.1.now)) × ((i : ℕ) → i < length x.0.now → get_or x.0.now i 0 ≢ 32))
        → ((xs ys : List ℕ) → text ≡ xs ++ (32 ∷ ys) → ((i : ℕ) → i < length xs → get_or xs i 0 ≢ 32) → MatchOption r ⊥ (λ x. (x.0.now ≡ xs) × (x.1.now ≡ ys)))
        → MatchOption r (IsLast text) (λ x. IsFront text x.0.now x.1.now)
    by None none after = last
      where
        last : IsLast text
        last [] filled atoms is = absurd (filled refl)
        last (w ∷ []) filled atoms is = ap (λ t. t ∷ []) is
        last (w ∷ v ∷ vs) filled atoms is =
            absurd (none (length w) (subst (λ t. length w < length t) is (within w (keywords_text (v ∷ vs)))) (ap (λ t. get_or t (length w) 0) (sym is) ∙ seam w (keywords_text (v ∷ vs))))
    by (Some x) parts after = front
      where
        front : IsFront text x.0.now x.1.now
        front [] filled atoms is = absurd (filled refl)
        front (w ∷ []) filled atoms is =
            let cut : w ≡ x.0.now ++ 32 ∷ x.1.now = is ∙ parts.0 in
            absurd (no_space w (all_atoms w atoms.0) (length x.0.now) (subst (λ t. length x.0.now < length t) (sym cut) (within x.0.now x.1.now)) (ap (λ t. get_or t (length x.0.now) 0) cut ∙ seam x.0.now x.1.now))
        front (w ∷ v ∷ vs) filled atoms is =
            let found = after w (keywords_text (v ∷ vs)) (sym is) (no_space w (all_atoms w atoms.0)) in
            (v ∷ vs, ap (λ t. t ∷ v ∷ vs) (sym found.0), λ e. cc e, sym found.1)

pub split_cut : (text : List ℕ) (r : Option (Bor (List ℕ) × Bor (List ℕ))) → IsSplitOnceResult 32 text r → IfSome r (λ x. text ≡ x.0.now ++ 32 ∷ x.1.now)
split_cut text r h = by r (split_parts 32 text r h (omega arith))
  where
    by : (r : Option (Bor (List ℕ) × Bor (List ℕ))) → MatchOption r ((i : ℕ) → i < length text → get_or text i 0 ≢ 32) (λ x. (text ≡ x.0.now ++ (32 ∷ x.1.now)) × ((i : ℕ) → i < length x.0.now → get_or x.0.now i 0 ≢ 32))
        → IfSome r (λ x. text ≡ x.0.now ++ 32 ∷ x.1.now)
    by None none = search rules
    by (Some x) parts = parts.0

-- what stands after a space is text
pub utf8_after : (word more : List ℕ) → IsUtf8 (word ++ 32 ∷ more) → IsUtf8 more
unfolding lib.Utf8.encode
utf8_after word more utf8 =
    let ascii : get_or (word ++ 32 ∷ more) (length word) 0 < 128 = omega (arith, seam word more) in
    let back : IsUtf8 (32 ∷ more) =
    subst IsUtf8 (drop-append_seam word (32 ∷ more))
    (IsUtf8-drop (word ++ 32 ∷ more) (length word) utf8 (IsCharBoundary-before_ascii (word ++ 32 ∷ more) (length word) (within word more) ascii)) in
    IsUtf8-past_char (32 ∷ more) more 32 back refl

-- ---- words that are put in turn

before_later : (x : List ℕ) (xs : List (List ℕ)) (w : List ℕ) (ws : List (List ℕ)) → IsBefore x (xs ++ w ∷ ws) → slice_cmp nat_cmp x w ≡ Less
before_later x [] w ws h = h.0
before_later x (y ∷ xs) w ws h = before_later x xs w ws h.1

last_put : (done : List (List ℕ)) (w : List ℕ) (ws : List (List ℕ)) → AreRising (done ++ w ∷ ws) → insert_key (slice_cmp nat_cmp) done w ≡ done ++ w ∷ []
last_put [] w ws h = refl
last_put (x ∷ xs) w ws h =
    ap (λ o. match_ordering o (w ∷ x ∷ xs) (x ∷ xs) (x ∷ insert_key (slice_cmp nat_cmp) xs w)) (nat_list_cmp_total.antisymm w x ∙ ap ordering_reverse (before_later x xs w ws h.0))
    ∙ ap (λ l. x ∷ l) (last_put xs w ws h.1)

lower_at : (done : List (List ℕ)) (w : List ℕ) (ws : List (List ℕ)) → AreLower (done ++ w ∷ ws) → str_to_ascii_lowercase w ≡ w
lower_at [] w ws h = h.0
lower_at (x ∷ xs) w ws h = lower_at xs w ws h.1

pub atom_at : (done : List (List ℕ)) (w : List ℕ) (ws : List (List ℕ)) → AreAtoms (done ++ w ∷ ws) → IsAtom w
atom_at [] w ws h = h.0
atom_at (x ∷ xs) w ws h = atom_at xs w ws h.1

atoms_from : (done left : List (List ℕ)) → AreAtoms (done ++ left) → AreAtoms left
atoms_from [] left h = h
atoms_from (x ∷ xs) left h = atoms_from xs left h.1

put_next : (done : List (List ℕ)) (w : List ℕ) (ws : List (List ℕ)) → AreKeywords (done ++ w ∷ ws) → with_word w done ≡ done ++ w ∷ []
put_next done w ws h = ap (insert_key (slice_cmp nat_cmp) done) (lower_at done w ws h.lower) ∙ last_put done w ws h.rising

-- the words are those that are done, and those of the rest of the text
pub record IsCut (others done : List (List ℕ)) (rest : List ℕ) : Type 0 where
  pub left : List (List ℕ)
  pub are : others ≡ done ++ left
  pub filled : left ≢ []
  pub text : keywords_text left ≡ rest

pub cut_start : (others : List (List ℕ)) (text : List ℕ) → others ≢ [] → keywords_text others ≡ text → IsCut others [] text
cut_start others text filled is = record { left = others; are = refl; filled = filled; text = is }

pub cut_next : (others done next : List (List ℕ)) (rest word more : List ℕ) → AreKeywords others → IsFront rest word more → next ≡ with_word word done → IsCut others done rest → IsCut others next more
cut_next others done next rest word more valid front put cut =
    let f = front cut.left cut.filled (atoms_from done cut.left (subst AreAtoms cut.are valid.atoms)) cut.text in
    let all : others ≡ done ++ word ∷ f.0 = cut.are ∙ ap (λ l. done ++ l) f.1 in
    record {
      left = f.0;
      are = all ∙ sym (append_assoc done (word ∷ []) f.0) ∙ ap (λ l. l ++ f.0) (sym (put ∙ put_next done word f.0 (subst AreKeywords all valid)));
      filled = f.2;
      text = f.3;
    }

pub cut_atom : (others done : List (List ℕ)) (rest word more : List ℕ) → AreKeywords others → IsFront rest word more → IsCut others done rest → IsAtom word
cut_atom others done rest word more valid front cut =
    let f = front cut.left cut.filled (atoms_from done cut.left (subst AreAtoms cut.are valid.atoms)) cut.text in
    atom_at done word f.0 (subst AreAtoms (cut.are ∙ ap (λ l. done ++ l) f.1) valid.atoms)

last_all : (others done : List (List ℕ)) (rest : List ℕ) → AreKeywords others → IsLast rest → IsCut others done rest → others ≡ done ++ rest ∷ []
last_all others done rest valid last cut = cut.are ∙ ap (λ l. done ++ l) (last cut.left cut.filled (atoms_from done cut.left (subst AreAtoms cut.are valid.atoms)) cut.text)

pub cut_end : (others done next : List (List ℕ)) (rest : List ℕ) → AreKeywords others → IsLast rest → next ≡ with_word rest done → IsCut others done rest → others ≡ next
cut_end others done next rest valid last put cut =
    let all = last_all others done rest valid last cut in
    all ∙ sym (put ∙ put_next done rest [] (subst AreKeywords all valid))

pub cut_last_atom : (others done : List (List ℕ)) (rest : List ℕ) → AreKeywords others → IsLast rest → IsCut others done rest → IsAtom rest
cut_last_atom others done rest valid last cut = atom_at done rest [] (subst AreAtoms (last_all others done rest valid last cut) valid.atoms)

-- ---- faults

abbrev fault : {X : Type 0} → Result X PartsError → PartsError
fault (Ok x) = Memory
fault (Err e) = e

-- an error that is handed on is the same
pub same_fault : {X Y : Type 0} (e : PartsError) → ◌≡◌ {A = Result X PartsError} (Err e) (Err Bad) → ◌≡◌ {A = Result Y PartsError} (Err e) (Err Bad)
same_fault e is = ap (λ r. Err (fault r)) is
