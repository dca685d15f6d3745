-- How a match is walked through.
use Rattle.std.proofs.Common.{◌≡◌, ◌≢◌, ℕ, zero, suc, ◌+◌, ◌-◌, ◌<◌, ◌≤◌, Bool, true, false, List, [], ◌∷◌, ◌++◌, length, get_or, ltb, take, drop, length-drop, refl, sym, ap, ◌∙◌, subst, append_assoc, arith}
use Rattle.std.specs.Prelude.{◌||◌, ◌↔◌}
use Rattle.std.specs.List.{list_any}
use Rattle.std.proofs.lemmas.Bool.{ltb-true, ltb-false}
use Rattle.std.proofs.lemmas.List.{take-append-drop, take_all, take_more, drop-drop, drop_all}
use Rattle.std.proofs.lemmas.List.Folds.{list_any-append}
use Rattle.std.proofs.Math.Seq.{drop-append_seam}
use Rattle.imap_names.specs.declared.letters.Letter.{Letter}
use Rattle.imap_names.specs.declared.token.Token.{Token}
use Rattle.imap_names.specs.declared.token.Token.TheVariants.{Any, AnyInLevel}
use Rattle.imap_names.specs.Letters.{blank}
use Rattle.imap_names.specs.Pattern.{ends_level, Cut, Matches}
use Rattle.imap_names.specs.Walk.{Runs, Reaches, Fails}
use Rattle.imap_names.proofs.Spelling.{Spelt, Slid, parts, meets, passes, slides, put_last, either-false, at_place, percent_further, percent_stops, ends, nothing_fits}

-- a letter from the i-th on, from which the text matches
pub record Later (p : List Token) (t : List Letter) (i : ℕ) : Type 0 where
  pub at : ℕ
  pub from : i ≤ at
  pub there : Matches p (drop at t)

pub later_in : (w : Token) (p : List Token) (t : List Letter) (i : ℕ) → Matches (w ∷ p) (drop i t) → Later p t i
later_in w p t i m = record {
  at = i + length m.piece;
  from = omega arith;
  there = subst (Matches p) (sym (drop-append_seam m.piece m.rest) ∙ ap (drop (length m.piece)) (sym m.are) ∙ drop-drop (length m.piece) i t) m.after;
}

-- a `*` may begin earlier
pub star_earlier : (p : List Token) (t : List Letter) (i j : ℕ) → j ≤ i → Matches (Any ∷ p) (drop i t) → Matches (Any ∷ p) (drop j t)
star_earlier p t i j le m =
    let whole : drop (i - j) (drop j t) ≡ drop i t = drop-drop (i - j) j t ∙ ap (λ k. drop k t) (omega arith) in
    record {
      piece = take (i - j) (drop j t) ++ m.piece;
      rest = m.rest;
      are = sym (take-append-drop (i - j) (drop j t)) ∙ ap (λ z. take (i - j) (drop j t) ++ z) (whole ∙ m.are) ∙ sym (append_assoc (take (i - j) (drop j t)) m.piece m.rest);
      fits = tt;
      after = m.after;
    }

module _ (w : Token) (ps : List Token) (xs : List Letter) (n : ℕ) (r : Runs w ps xs n) where
  le : n ≤ length ps
  le = let h : n < length ps = r.in_pattern in omega arith

  -- after the letters that are spelled, in any text
  pub runs_at : (t : List Letter) → Matches ps t → Matches (w ∷ drop (n + 1) ps) (drop n t)
  runs_at t m = subst (λ (z : List Token). Matches z (drop n t)) r.here (passes ps (take n xs) n t le r.same m)

  pub runs_from : Matches (w ∷ drop (n + 1) ps) (drop n xs) → Matches ps xs
  runs_from m = meets ps xs n r.same (subst (λ (z : List Token). Matches z (drop n xs)) (sym r.here) m)

  pub runs_later : (t : List Letter) (k : ℕ) → Matches ps (drop k t) → Matches (w ∷ drop (n + 1) ps) (drop (k + n) t)
  runs_later t k m = subst (Matches (w ∷ drop (n + 1) ps)) (drop-drop n k t) (runs_at (drop k t) m)

-- the first of two `%` may end as early as it can
pub percent_passes : (ps : List Token) (xs : List Letter) (n : ℕ) → Runs AnyInLevel ps xs n → Matches (AnyInLevel ∷ ps) xs → Matches (AnyInLevel ∷ drop (n + 1) ps) (drop n xs)
percent_passes ps xs n r m =
    let b : Spelt (take n ps) (drop n ps) m.rest = parts ps (take n xs) n m.rest r.same m.after in
    let c : Cut AnyInLevel (Matches (drop (n + 1) ps)) b.rest = subst (λ (z : List Token). Matches z b.rest) r.here b.after in
    let both : m.piece ++ (b.front ++ b.rest) ≡ take n xs ++ drop n xs = ap (λ z. m.piece ++ z) (sym b.are) ∙ sym m.are ∙ sym (take-append-drop n xs) in
    let s : Slid b.rest (drop n xs) = slides (take n ps) (take n xs) b.front m.piece b.rest (drop n xs) r.same b.same m.fits both in
    record {
      piece = s.piece ++ c.piece;
      rest = c.rest;
      are = s.are ∙ ap (λ z. s.piece ++ z) c.are ∙ sym (append_assoc s.piece c.piece c.rest);
      fits = list_any-append ends_level s.piece c.piece ∙ ap (λ z. z || list_any ends_level c.piece) s.free ∙ c.fits;
      after = c.after;
    }

-- ---- steps of the loops

-- the first `*` that is reached serves for all that could be reached later
pub reaches_star : (ps : List Token) (t o : ℕ) (text : List Letter) → Reaches ps text t o → Matches (Any ∷ ps) text ↔ Matches (Any ∷ drop (t + 1) ps) (drop o text)
reaches_star ps t o text r = (
  λ m.
      let l : Later ps text 0 = later_in Any ps text 0 m in
      subst (λ (z : List Token). Matches z (drop o text)) r.here (r.earliest l.at l.there),
  λ m. (nothing_fits ps text (r.suffices (subst (λ (z : List Token). Matches z (drop o text)) (sym r.here) m))).1,
)

pub reaches_here : (ps : List Token) (t o : ℕ) (text : List Letter) → Reaches ps text t o → Matches ps text ↔ Matches (Any ∷ drop (t + 1) ps) (drop o text)
reaches_here ps t o text r = (
  λ m. subst (λ (z : List Token). Matches z (drop o text)) r.here (r.earliest 0 m),
  λ m. r.suffices (subst (λ (z : List Token). Matches z (drop o text)) (sym r.here) m),
)

pub runs_reach : (ps : List Token) (xs : List Letter) (n : ℕ) → Runs Any ps xs n → Reaches ps xs n n
runs_reach ps xs n r = record {
  in_pattern = r.in_pattern;
  in_text = r.in_text;
  here = r.here;
  suffices = λ m. runs_from Any ps xs n r (subst (λ (z : List Token). Matches z (drop n xs)) r.here m);
  earliest = λ k m. subst (λ (z : List Token). Matches z (drop n xs)) (sym r.here) (star_earlier (drop (n + 1) ps) xs (k + n) n (omega arith) (runs_later Any ps xs n r xs k m));
}

-- what a loop after a `%` keeps
pub record Kept (pattern : List Token) (text : List Letter) (token letter : ℕ) : Type 0 where
  pub in_pattern : token ≤ length pattern
  pub in_text : letter ≤ length text
  pub goes_on : Matches pattern text ↔ Matches (AnyInLevel ∷ drop token pattern) (drop letter text)
  pub later : (k : ℕ) → Matches pattern (drop k text) → Later (drop token pattern) text letter

pub kept_first : (ps : List Token) (xs : List Letter) (n : ℕ) → Runs AnyInLevel ps xs n → Kept ps xs (n + 1) n
kept_first ps xs n r = record {
  in_pattern = let h : n < length ps = r.in_pattern in omega arith;
  in_text = r.in_text;
  goes_on = (λ m. runs_at AnyInLevel ps xs n r xs m, λ m. runs_from AnyInLevel ps xs n r m);
  later = λ k m.
      let l : Later (drop (n + 1) ps) xs (k + n) = later_in AnyInLevel (drop (n + 1) ps) xs (k + n) (runs_later AnyInLevel ps xs n r xs k m) in
      let f : k + n ≤ l.at = l.from in
      record { at = l.at; from = omega arith; there = l.there };
}

pub kept_further : (ps : List Token) (xs : List Letter) (token letter : ℕ) → Kept ps xs token letter → letter < length xs → ends_level (get_or xs letter blank) ≡ false → ¬ (Matches (drop token ps) (drop letter xs)) → Kept ps xs token (letter + 1)
kept_further ps xs token letter k lt plain not =
    let here : drop letter xs ≡ get_or xs letter blank ∷ drop (letter + 1) xs = at_place xs letter lt in
    let step = percent_further (drop token ps) (get_or xs letter blank) (drop (letter + 1) xs) plain (subst (λ (z : List Letter). ¬ (Matches (drop token ps) z)) here not) in
    record {
      in_pattern = k.in_pattern;
      in_text = omega arith;
      goes_on = (
        λ m. step.0 (subst (Matches (AnyInLevel ∷ drop token ps)) here (k.goes_on.0 m)),
        λ m. k.goes_on.1 (subst (Matches (AnyInLevel ∷ drop token ps)) (sym here) (step.1 m)),
      );
      later = λ i m. after (k.later i m);
    }
  where
    after : Later (drop token ps) xs letter → Later (drop token ps) xs (letter + 1)
    after l =
        let f : letter ≤ l.at = l.from in
        let other : l.at ≢ letter = λ e. not (subst (λ i. Matches (drop token ps) (drop i xs)) e l.there) in
        record { at = l.at; from = omega arith; there = l.there }

pub kept_fails : (ps : List Token) (xs : List Letter) (token letter : ℕ) → Kept ps xs token letter → letter < length xs → ends_level (get_or xs letter blank) ≡ true → ¬ (Matches (drop token ps) (drop letter xs)) → ¬ (Matches ps xs)
kept_fails ps xs token letter k lt delimits not m =
    let here : drop letter xs ≡ get_or xs letter blank ∷ drop (letter + 1) xs = at_place xs letter lt in
    percent_stops (drop token ps) (get_or xs letter blank) (drop (letter + 1) xs) delimits
    (subst (λ (z : List Letter). ¬ (Matches (drop token ps) z)) here not)
    (subst (Matches (AnyInLevel ∷ drop token ps)) here (k.goes_on.0 m))

pub kept_ends : (ps : List Token) (xs : List Letter) (token letter : ℕ) → Kept ps xs token letter → length xs ≤ letter → ¬ (Matches (drop token ps) (drop letter xs)) → ¬ (Matches ps xs)
kept_ends ps xs token letter k le not m =
    let none : drop letter xs ≡ [] = drop_all letter xs le in
    ends AnyInLevel (drop token ps) (subst (λ (z : List Letter). ¬ (Matches (drop token ps) z)) none not) (subst (Matches (AnyInLevel ∷ drop token ps)) none (k.goes_on.0 m))

pub kept_found : (ps : List Token) (xs : List Letter) (token letter : ℕ) → Kept ps xs token letter → Matches (drop token ps) (drop letter xs) → Matches ps xs
kept_found ps xs token letter k m = k.goes_on.1 (nothing_fits (drop token ps) (drop letter xs) m).0

same_place : (token n : ℕ) (ps : List Token) → drop (n + 1) (drop token ps) ≡ drop (token + n + 1) ps
same_place token n ps = drop-drop (n + 1) token ps ∙ ap (λ k. drop k ps) (omega arith)

further : (token n : ℕ) (ps : List Token) → token ≤ length ps → n < length (drop token ps) → token + n < length ps
further token n ps le h =
    let l : length (drop token ps) ≡ length ps - token = length-drop token ps in
    omega arith

pub further_text : (letter n : ℕ) (xs : List Letter) → letter ≤ length xs → n ≤ length (drop letter xs) → letter + n ≤ length xs
further_text letter n xs le h =
    let l : length (drop letter xs) ≡ length xs - letter = length-drop letter xs in
    omega arith

pub kept_percent : (ps : List Token) (xs : List Letter) (token letter n : ℕ) → Kept ps xs token letter → Runs AnyInLevel (drop token ps) (drop letter xs) n → Kept ps xs (token + n + 1) (letter + n)
kept_percent ps xs token letter n k r = record {
  in_pattern = let h : token + n < length ps = further token n ps k.in_pattern r.in_pattern in omega arith;
  in_text = further_text letter n xs k.in_text r.in_text;
  goes_on = (
    λ m. moved (percent_passes (drop token ps) (drop letter xs) n r (k.goes_on.0 m)),
    λ m. k.goes_on.1 (nothing_fits (drop token ps) (drop letter xs) (runs_from AnyInLevel (drop token ps) (drop letter xs) n r (back m))).0,
  );
  later = λ i m. after (k.later i m);
}
  where
    moved : Matches (AnyInLevel ∷ drop (n + 1) (drop token ps)) (drop n (drop letter xs)) → Matches (AnyInLevel ∷ drop (token + n + 1) ps) (drop (letter + n) xs)
    moved m = subst (λ (z : List Token). Matches (AnyInLevel ∷ z) (drop (letter + n) xs)) (same_place token n ps)
        (subst (Matches (AnyInLevel ∷ drop (n + 1) (drop token ps))) (drop-drop n letter xs) m)

    back : Matches (AnyInLevel ∷ drop (token + n + 1) ps) (drop (letter + n) xs) → Matches (AnyInLevel ∷ drop (n + 1) (drop token ps)) (drop n (drop letter xs))
    back m = subst (λ (z : List Token). Matches (AnyInLevel ∷ z) (drop n (drop letter xs))) (sym (same_place token n ps))
        (subst (Matches (AnyInLevel ∷ drop (token + n + 1) ps)) (sym (drop-drop n letter xs)) m)

    after : Later (drop token ps) xs letter → Later (drop (token + n + 1) ps) xs (letter + n)
    after l =
        let m : Matches (AnyInLevel ∷ drop (n + 1) (drop token ps)) (drop (l.at + n) xs) = runs_later AnyInLevel (drop token ps) (drop letter xs) n r xs l.at l.there in
        let q : Later (drop (n + 1) (drop token ps)) xs (l.at + n) = later_in AnyInLevel (drop (n + 1) (drop token ps)) xs (l.at + n) m in
        let f : letter ≤ l.at = l.from in
        let g : l.at + n ≤ q.at = q.from in
        record { at = q.at; from = omega arith; there = subst (λ (z : List Token). Matches z (drop q.at xs)) (same_place token n ps) q.there }

pub kept_star : (ps : List Token) (xs : List Letter) (token letter n : ℕ) → Kept ps xs token letter → Runs Any (drop token ps) (drop letter xs) n → Reaches ps xs (token + n) (letter + n)
kept_star ps xs token letter n k r = record {
  in_pattern = further token n ps k.in_pattern r.in_pattern;
  in_text = further_text letter n xs k.in_text r.in_text;
  here = here;
  suffices = λ m. k.goes_on.1 (nothing_fits (drop token ps) (drop letter xs) (runs_from Any (drop token ps) (drop letter xs) n r (back m))).0;
  earliest = λ i m. subst (λ (z : List Token). Matches z (drop (letter + n) xs)) (sym here) (after (k.later i m));
}
  where
    here : drop (token + n) ps ≡ Any ∷ drop (token + n + 1) ps
    here = sym (drop-drop n token ps) ∙ r.here ∙ ap (λ z. Any ∷ z) (same_place token n ps)

    back : Matches (drop (token + n) ps) (drop (letter + n) xs) → Matches (Any ∷ drop (n + 1) (drop token ps)) (drop n (drop letter xs))
    back m = subst (λ (z : List Token). Matches z (drop n (drop letter xs))) (sym (drop-drop n token ps) ∙ r.here)
        (subst (Matches (drop (token + n) ps)) (sym (drop-drop n letter xs)) m)

    after : Later (drop token ps) xs letter → Matches (Any ∷ drop (token + n + 1) ps) (drop (letter + n) xs)
    after l =
        let m : Matches (Any ∷ drop (n + 1) (drop token ps)) (drop (l.at + n) xs) = runs_later Any (drop token ps) (drop letter xs) n r xs l.at l.there in
        let f : letter ≤ l.at = l.from in
        subst (λ (z : List Token). Matches (Any ∷ z) (drop (letter + n) xs)) (same_place token n ps) (star_earlier (drop (n + 1) (drop token ps)) xs (l.at + n) (letter + n) (omega arith) m)

-- ---- the rest of a slice

tail_is : {X : Type 0} → (n : ℕ) (xs : List X) → take (length xs - n) (drop n xs) ≡ drop n xs
tail_is n xs = let l : length (drop n xs) ≡ length xs - n = length-drop n xs in take_all (length xs - n) (drop n xs) (omega arith)

pub on_rests : (P : List Token → List Letter → Type 0) (ps : List Token) (xs ys : List Letter) (t o : ℕ) → ys ≡ drop o xs → P (take (length ps - t) (drop t ps)) ys → P (drop t ps) (drop o xs)
on_rests P ps xs ys t o e h = subst (P (drop t ps)) e (subst (λ (z : List Token). P z ys) (tail_is t ps) h)

-- what a loop after a `*` keeps
pub record StarKept (pattern : List Token) (text : List Letter) (token letter : ℕ) : Type 0 where
  pub in_pattern : token ≤ length pattern
  pub in_text : letter ≤ length text
  pub goes_on : Matches (Any ∷ pattern) text ↔ Matches (Any ∷ drop token pattern) (drop letter text)

pub star_first : (ps : List Token) (xs : List Letter) → StarKept ps xs 0 0
star_first ps xs = record { in_pattern = omega arith; in_text = omega arith; goes_on = (λ m. m, λ m. m) }

pub star_fails : (ps : List Token) (xs : List Letter) (token letter places : ℕ) → StarKept ps xs token letter → letter + places ≤ length xs → Fails (drop token ps) (drop letter xs) places → StarKept ps xs token (letter + places)
star_fails ps xs token letter places k lt f = record {
  in_pattern = k.in_pattern;
  in_text = lt;
  goes_on = (
    λ m. past (later_in Any (drop token ps) (drop letter xs) 0 (k.goes_on.0 m)),
    λ m. k.goes_on.1 (star_earlier (drop token ps) xs (letter + places) letter (omega arith) m),
  );
}
  where
    past : Later (drop token ps) (drop letter xs) 0 → Matches (Any ∷ drop token ps) (drop (letter + places) xs)
    past l =
        let far : places ≤ l.at = at_least (λ less. f.none l.at less l.there) in
        let there : Matches (drop token ps) (drop (letter + l.at) xs) = subst (Matches (drop token ps)) (drop-drop l.at letter xs) l.there in
        star_earlier (drop token ps) xs (letter + l.at) (letter + places) (omega arith) (nothing_fits (drop token ps) (drop (letter + l.at) xs) there).1
      where
        at_least : (l.at < places → ⊥) → places ≤ l.at
        at_least h = omega arith

pub star_ends : (ps : List Token) (xs : List Letter) (token letter places : ℕ) → StarKept ps xs token letter → length xs < letter + places → Fails (drop token ps) (drop letter xs) places → ¬ (Matches (Any ∷ ps) xs)
star_ends ps xs token letter places k lt f m = by (later_in Any (drop token ps) (drop letter xs) 0 (k.goes_on.0 m))
  where
    by : Later (drop token ps) (drop letter xs) 0 → ⊥
    by l = cases (ltb l.at places) refl
      where
        cases : (b : Bool) → ltb l.at places ≡ b → ⊥
        cases true e = f.none l.at (ltb-true l.at places e) l.there
        cases false e =
            let far : places ≤ l.at = ltb-false l.at places e in
            let le : letter ≤ length xs = k.in_text in
            let size : length (drop letter xs) ≡ length xs - letter = length-drop letter xs in
            let end : ℕ = length (drop letter xs) in
            let near : end < places = omega arith in
            let same : drop l.at (drop letter xs) ≡ drop end (drop letter xs) = drop_all l.at (drop letter xs) (omega arith) ∙ sym (drop_all end (drop letter xs) (omega arith)) in
            f.none end near (subst (Matches (drop token ps)) same l.there)

pub star_found : (ps : List Token) (xs : List Letter) (token letter : ℕ) → StarKept ps xs token letter → Matches (drop token ps) (drop letter xs) → Matches (Any ∷ ps) xs
star_found ps xs token letter k m = k.goes_on.1 (nothing_fits (drop token ps) (drop letter xs) m).1

pub star_reached : (ps : List Token) (xs : List Letter) (token letter t o : ℕ) → StarKept ps xs token letter → Reaches (drop token ps) (drop letter xs) t o → StarKept ps xs (token + (t + 1)) (letter + o)
star_reached ps xs token letter t o k r = record {
  in_pattern = let h : token + t < length ps = further token t ps k.in_pattern r.in_pattern in omega arith;
  in_text = further_text letter o xs k.in_text r.in_text;
  goes_on = (λ m. moved (step.0 (k.goes_on.0 m)), λ m. k.goes_on.1 (step.1 (back m)));
}
  where
    step : Matches (Any ∷ drop token ps) (drop letter xs) ↔ Matches (Any ∷ drop (t + 1) (drop token ps)) (drop o (drop letter xs))
    step = reaches_star (drop token ps) t o (drop letter xs) r

    place : drop (t + 1) (drop token ps) ≡ drop (token + (t + 1)) ps
    place = drop-drop (t + 1) token ps

    moved : Matches (Any ∷ drop (t + 1) (drop token ps)) (drop o (drop letter xs)) → Matches (Any ∷ drop (token + (t + 1)) ps) (drop (letter + o) xs)
    moved m = subst (λ (z : List Token). Matches (Any ∷ z) (drop (letter + o) xs)) place (subst (Matches (Any ∷ drop (t + 1) (drop token ps))) (drop-drop o letter xs) m)

    back : Matches (Any ∷ drop (token + (t + 1)) ps) (drop (letter + o) xs) → Matches (Any ∷ drop (t + 1) (drop token ps)) (drop o (drop letter xs))
    back m = subst (λ (z : List Token). Matches (Any ∷ z) (drop o (drop letter xs))) (sym place) (subst (Matches (Any ∷ drop (token + (t + 1)) ps)) (sym (drop-drop o letter xs)) m)

-- ---- a `%` may begin earlier in its level

pub percent_earlier : (p : List Token) (t : List Letter) (i j : ℕ) → j ≤ i → list_any ends_level (take (i - j) (drop j t)) ≡ false → Matches (AnyInLevel ∷ p) (drop i t) → Matches (AnyInLevel ∷ p) (drop j t)
percent_earlier p t i j le plain m =
    let whole : drop (i - j) (drop j t) ≡ drop i t = drop-drop (i - j) j t ∙ ap (λ k. drop k t) (omega arith) in
    record {
      piece = take (i - j) (drop j t) ++ m.piece;
      rest = m.rest;
      are = sym (take-append-drop (i - j) (drop j t)) ∙ ap (λ z. take (i - j) (drop j t) ++ z) (whole ∙ m.are) ∙ sym (append_assoc (take (i - j) (drop j t)) m.piece m.rest);
      fits = list_any-append ends_level (take (i - j) (drop j t)) m.piece ∙ ap (λ z. z || list_any ends_level m.piece) plain ∙ m.fits;
      after = m.after;
    }

plain_front : (m n : ℕ) (xs : List Letter) → m ≤ n → list_any ends_level (take n xs) ≡ false → list_any ends_level (take m xs) ≡ false
plain_front zero n xs le h = refl
plain_front (suc m) zero xs le h = absurd (omega arith)
plain_front (suc m) (suc n) [] le h = refl
plain_front (suc m) (suc n) (x ∷ xs) le h =
    let parts : (ends_level x ≡ false) × (list_any ends_level (take n xs) ≡ false) = either-false (ends_level x) (list_any ends_level (take n xs)) h in
    ap (λ b. b || list_any ends_level (take m xs)) parts.0 ∙ plain_front m n xs (omega arith) parts.1

-- what fails, fails from each letter from which the first `%` lies in the same level
pub fails_level : (ps : List Token) (xs : List Letter) (n end : ℕ) → Runs AnyInLevel ps xs n → n ≤ end → list_any ends_level (take (end - n) (drop n xs)) ≡ false → ¬ (Matches ps xs) → Fails ps xs (end + 1 - n)
fails_level ps xs n end r le plain not = record {
  some = omega arith;
  none = λ k lt m. not (runs_from AnyInLevel ps xs n r (percent_earlier (drop (n + 1) ps) xs (k + n) n (omega arith)
      (plain_front (k + n - n) (end - n) (drop n xs) (omega arith) plain)
      (runs_later AnyInLevel ps xs n r xs k m)));
}

pub fails_here : (ps : List Token) (xs : List Letter) → ¬ (Matches ps xs) → Fails ps xs 1
fails_here ps xs not = record { some = omega arith; none = λ k lt m. let e : k ≡ 0 = omega arith in not (subst (λ z. Matches ps (drop z xs)) e m) }

pub plain_more : (xs : List Letter) (from end : ℕ) → from ≤ end → end < length xs → list_any ends_level (take (end - from) (drop from xs)) ≡ false → ends_level (get_or xs end blank) ≡ false → list_any ends_level (take (end + 1 - from) (drop from xs)) ≡ false
plain_more xs from end le lt plain other =
    let size : length (drop from xs) ≡ length xs - from = length-drop from xs in
    let in_rest : end - from < length (drop from xs) = omega arith in
    let place : drop (end - from) (drop from xs) ≡ drop end xs = drop-drop (end - from) from xs ∙ ap (λ k. drop k xs) (omega arith) in
    let same : get_or (drop from xs) (end - from) blank ≡ get_or xs end blank = ap (λ z. get_or z 0 blank) (sym (at_place (drop from xs) (end - from) in_rest) ∙ place ∙ at_place xs end lt) in
    let count : end + 1 - from ≡ (end - from) + 1 = omega arith in
    let grown : take (end + 1 - from) (drop from xs) ≡ take (end - from) (drop from xs) ++ get_or (drop from xs) (end - from) blank ∷ [] = ap (λ k. take k (drop from xs)) count ∙ take_more (drop from xs) (end - from) blank in_rest in
    ap (list_any ends_level) grown ∙ put_last (take (end - from) (drop from xs)) (get_or (drop from xs) (end - from) blank) plain (ap ends_level same ∙ other)
