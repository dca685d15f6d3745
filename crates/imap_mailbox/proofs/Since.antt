-- The gone UIDs with a greater number, by a search.
use Rattle.std.proofs.Common.{◌≡◌, ℕ, zero, suc, ◌+◌, ◌<◌, ◌≤◌, cond, List, [], ◌∷◌, length, map, drop, get_or, refl, sym, ap, ◌∙◌, arith}
use Rattle.std.proofs.lemmas.Bool.{lt-ltb, le-ltb}
use Rattle.std.proofs.lemmas.List.{length-map, length-drop}
use Rattle.imap_modseq.proofs.Order.{before_rises}
use Rattle.imap_mailbox.specs.declared.message.GoneMessage.{GoneMessage}
use Rattle.imap_mailbox.specs.Own.{Own}
use Rattle.imap_mailbox.specs.Summary.{Rises, places_in, gone_in}
use Rattle.imap_mailbox.specs.Lent.{gone_after_number, NeverFall}
use Rattle.imap_mailbox.proofs.Finding.{up}

-- those before `low` have a number of at most n, and those from `high` on a greater one
pub record IsCut (n : ℕ) (gs : List (ℕ × ℕ)) (low high : ℕ) : Type 0 where
  pub order : low ≤ high
  pub within : high ≤ length gs
  pub before : (k : ℕ) (d : ℕ × ℕ) → k < low → (get_or gs k d).1 ≤ n
  pub after : (k : ℕ) (d : ℕ × ℕ) → high ≤ k → k < length gs → n < (get_or gs k d).1

pub cut_none : (n : ℕ) (gs : List (ℕ × ℕ)) (high : ℕ) → high ≡ length gs → IsCut n gs 0 high
cut_none n gs high is = record {
  order = omega arith;
  within = omega (arith, is);
  before = λ k d lt. absurd (omega arith);
  after = λ k d le lt. absurd (omega (arith, is));
}

module _ (n : ℕ) (gs : List (ℕ × ℕ)) (low high middle : ℕ) (rise : NeverFall gs) (lo : low ≤ middle) (hi : middle < high) (h : IsCut n gs low high) where
  pub cut_low : (d : ℕ × ℕ) → (get_or gs middle d).1 ≤ n → IsCut n gs (middle + 1) high
  cut_low d le = record {
    order = omega arith;
    within = h.within;
    before = λ k e lt. let more = rise k middle e d (omega arith) (let end = h.within in omega (arith, end)) in omega (arith, more);
    after = h.after;
  }

  pub cut_high : (d : ℕ × ℕ) → n < (get_or gs middle d).1 → IsCut n gs low middle
  cut_high d lt = record {
    order = lo;
    within = let end = h.within in omega (arith, end);
    before = h.before;
    after = λ k e le within. let more = rise middle k d e le within in omega (arith, more);
  }

keeps_all : (n : ℕ) (gs : List (ℕ × ℕ)) → ((k : ℕ) (d : ℕ × ℕ) → k < length gs → n < (get_or gs k d).1) → gs ≡ gone_after_number n gs
keeps_all n [] after = refl
keeps_all n (g ∷ gs) after =
    (λ i. g ∷ keeps_all n gs (λ k d lt. after (suc k) d (omega arith)) i)
    ∙ ap (λ b. cond b (g ∷ gone_after_number n gs) (gone_after_number n gs)) (sym (lt-ltb n g.1 (after 0 g (omega arith))))

pub cut_is : (n : ℕ) (gs : List (ℕ × ℕ)) (at : ℕ) → ((k : ℕ) (d : ℕ × ℕ) → k < at → (get_or gs k d).1 ≤ n) → ((k : ℕ) (d : ℕ × ℕ) → at ≤ k → k < length gs → n < (get_or gs k d).1)
    → drop at gs ≡ gone_after_number n gs
cut_is n [] zero before after = refl
cut_is n [] (suc at) before after = refl
cut_is n (g ∷ gs) zero before after = keeps_all n (g ∷ gs) (λ k d lt. after k d (omega arith) lt)
cut_is n (g ∷ gs) (suc at) before after =
    cut_is n gs at (λ k d lt. before (suc k) d (omega arith)) (λ k d le lt. after (suc k) d (omega arith) (omega arith))
    ∙ ap (λ b. cond b (g ∷ gone_after_number n gs) (gone_after_number n gs)) (sym (le-ltb n g.1 (before 0 g (omega arith))))

-- ---- the gone UIDs of a mailbox

mapped : (own : Own) (gone : List GoneMessage) (i e : ℕ) (d : ℕ × ℕ) → i < length gone
    → (get_or (map (gone_in own) gone) i d).1 ≡ (gone_in own (record { uid = 0; place = get_or (places_in gone) i e })).1
mapped own [] i e d lt = absurd (omega arith)
mapped own (g ∷ gone) zero e d lt = refl
mapped own (g ∷ gone) (suc i) e d lt = mapped own gone i e d (omega arith)

gone_rise : (own : Own) (low high : ℕ) (gone : List GoneMessage) → Rises low high (places_in gone) → NeverFall (map (gone_in own) gone)
gone_rise own low high gone h i j d e le lt =
    let count = length-map gone (gone_in own) in
    let places = length-map gone (λ (g : GoneMessage). g.place) in
    let more = up low high (places_in gone) i j 0 h le (omega (arith, count, places, lt)) in
    let earlier = before_rises own.befores (get_or (places_in gone) i 0) (get_or (places_in gone) j 0) more in
    omega (arith, more, earlier, mapped own gone i 0 d (omega (arith, count, lt)), mapped own gone j 0 e (omega (arith, count, lt)))

get_dropped : (k : ℕ) (gs : List (ℕ × ℕ)) (i : ℕ) (d : ℕ × ℕ) → get_or (drop k gs) i d ≡ get_or gs (k + i) d
get_dropped zero gs i d = ap (λ k. get_or gs k d) (let z : i ≡ 0 + i = omega arith in z)
get_dropped (suc k) [] i d = refl
get_dropped (suc k) (g ∷ gs) i d = get_dropped k gs i d ∙ ap (λ n. get_or (g ∷ gs) n d) (let z : suc (k + i) ≡ suc k + i = omega arith in z)

pub rest_rises : (own : Own) (low high first : ℕ) (gone : List GoneMessage) → Rises low high (places_in gone) → NeverFall (drop first (map (gone_in own) gone))
rest_rises own low high first gone h i j d e le lt =
    let count = length-drop first (map (gone_in own) gone) in
    let more = gone_rise own low high gone h (first + i) (first + j) d e (omega arith) (omega (arith, count, lt)) in
    omega (arith, more, ap (λ (g : ℕ × ℕ). g.1) (get_dropped first (map (gone_in own) gone) i d), ap (λ (g : ℕ × ℕ). g.1) (get_dropped first (map (gone_in own) gone) j e))
