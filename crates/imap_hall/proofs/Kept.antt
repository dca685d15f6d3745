-- What the type of a hall keeps, after one entry more and after none.
use Rattle.std.proofs.Common.{◌≡◌, ◌⊎◌, ◌∙◌, inl, inr, sym, ap, refl, subst, arith, ℕ, ◌+◌, ◌<◌, ◌≤◌, ◌==◌, ◌&&◌, Bool, true, false, List, [], ◌∷◌, ◌++◌, length, map, length-append, Result, Ok, Err, IfOk, OnOk, OnErr}
use Rattle.std.proofs.lemmas.List.{length-map}
use Rattle.std.specs.Str.{bytes_eq}
use Rattle.std.proofs.lemmas.Bool.Decides.{nat_tests}
use Rattle.std.proofs.lemmas.Slice.Eq.{bytes_eq-Decides}
use Rattle.imap_saving.specs.Step.{Step}
use Rattle.imap_saving.specs.SessionId.{SessionId}
use Rattle.imap_saving.specs.Machine.{Machine, answer, next}
use Rattle.imap_world.specs.World.{World}
use Rattle.std.specs.FinMap as fin
use Rattle.std.specs.FinMap.{get-empty}
use Rattle.std.specs.Ordering.{nat_cmp}
use Rattle.std.specs.Cmp.Lexicographic.{slice_cmp}
use Rattle.imap_hall.specs.Counts.{Counts, AreSameCounts, IsCounted, count_in, count_of}
use Rattle.imap_hall.specs.declared.error.HallError.{HallError}
use Rattle.imap_hall.specs.declared.journal.Entry.{Entry}
use Rattle.imap_hall.specs.declared.journal.Receipt.{Receipt}
use Rattle.imap_hall.specs.Hall.{HallState, IsFresh, IsKept, IsTurnedOver, IsUntouched, IsStepped, entry_of, hall_state, journal_entry}
use Rattle.imap_hall.specs.Journal.{Follows, IsMade, IsRefused, IsRun, IsSamePoint, JournalEntry, Point, max_entries, point}

same_twice : (p q r : Point) → IsSamePoint p q → IsSamePoint q r → IsSamePoint p r
same_twice p q r h k = record { state = k.state ∙ h.state; counts = λ user number. k.counts user number ∙ h.counts user number }

pub run_same : (p : Point) (es : List JournalEntry) (q r : Point) → IsRun p es q → IsSamePoint q r → IsRun p es r
run_same p [] q r run same = same_twice p q r run same
run_same p (e ∷ es) q r run same = (run.0, run.1, run_same run.0 es q r run.2 same)

pub counted_from : (who : SessionId) (old mid new : Counts) → AreSameCounts old mid → IsCounted who mid new → IsCounted who old new
counted_from who old mid new same counted = record {
  one = counted.one ∙ ap (λ n. n + 1) (same who.user who.number);
  others = λ user number other. counted.others user number other ∙ same user number;
}

made_from : (p q r : Point) (e : JournalEntry) → q.state ≡ p.state → IsMade q e r ⊎ IsRefused q e r → IsMade p e r ⊎ IsRefused p e r
made_from p q r e same (inl made) = inl (record { replies = made.replies ∙ ap (λ s. answer s e.step) same; state = made.state ∙ ap (λ s. next s e.step) same })
made_from p q r e same (inr refused) = inr (record { replies = refused.replies; state = refused.state ∙ same })

follows_from : (p q r : Point) (e : JournalEntry) → IsSamePoint p q → Follows q e r → Follows p e r
follows_from p q r e same f = record {
  own = f.own ∙ ap (λ n. n + 1) (same.counts e.step.who.user e.step.who.number);
  counts = counted_from e.step.who p.counts q.counts r.counts same.counts f.counts;
  made = made_from p q r e same.state f.made;
}

same_point : (p : Point) → IsSamePoint p p
same_point p = record { state = refl; counts = λ user number. refl }

pub run_snoc : (p : Point) (es : List JournalEntry) (q r : Point) (e : JournalEntry) → IsRun p es q → Follows q e r → IsRun p (es ++ e ∷ []) r
run_snoc p [] q r e run f = (r, follows_from p q r e run f, same_point r)
run_snoc p (x ∷ xs) q r e run f = (run.0, run.1, run_snoc run.0 xs q r e run.2 f)

-- a session's count rises by one, and no other one does
pub few_more : (who : SessionId) (old new : Counts) (n : ℕ) → IsCounted who old new → ((user : List ℕ) (number : ℕ) → count_of old user number ≤ n)
    → (user : List ℕ) (number : ℕ) → count_of new user number ≤ n + 1
few_more who old new n counted few user number = by (bytes_eq who.user user) (who.number == number) refl refl
  where
    raised : who.user ≡ user → who.number ≡ number → count_of new user number ≡ count_of old user number + 1
    raised u m = subst (λ v. count_of new v number ≡ count_of old v number + 1) u (subst (λ k. count_of new who.user k ≡ count_of old who.user k + 1) m counted.one)

    other : (bytes_eq who.user user && (who.number == number)) ≡ false → count_of new user number ≤ n + 1
    other apart = let same : count_of new user number ≡ count_of old user number = counted.others user number apart in
        let less : count_of old user number ≤ n = few user number in omega (arith, same, less)

    by : (b c : Bool) → bytes_eq who.user user ≡ b → (who.number == number) ≡ c → count_of new user number ≤ n + 1
    by true true u m = let more : count_of new user number ≡ count_of old user number + 1 = raised ((bytes_eq-Decides who.user user).0 u) (grind (arith, nat_tests, m)) in
        let less : count_of old user number ≤ n = few user number in omega (arith, more, less)
    by true false u m = other (ap (λ b. b && (who.number == number)) u ∙ m)
    by false c u m = other (ap (λ b. b && (who.number == number)) u)

module _ {K : Type 0} (Content : K → World → Type 0) where
  pub kept_more : (h : HallState K) (e : JournalEntry) (q : Point) (keeper : K) → IsKept Content h → Follows h.now e q → Content keeper q.state.world
      → h.before + length h.entries < max_entries
      → IsKept Content (record { now = q; base = h.base; before = h.before; entries = h.entries ++ e ∷ []; keeper = keeper })
  kept_more h e q keeper kept f stored less =
      let one : length (h.entries ++ e ∷ []) ≡ length h.entries + 1 = length-append h.entries (e ∷ []) in
      let more : h.before + length h.entries + 1 ≡ h.before + length (h.entries ++ e ∷ []) = omega (arith, one) in
      record {
        run = run_snoc h.base h.entries h.now q e kept.run f;
        stored = stored;
        bound = λ user number. subst (λ n. count_of q.counts user number ≤ n) more (few_more e.step.who h.now.counts q.counts (h.before + length h.entries) f.counts kept.bound user number);
        room = omega (arith, one, less);
      }

  pub kept_same : (h : HallState K) (q : Point) (keeper : K) → IsKept Content h → IsSamePoint h.now q → Content keeper q.state.world
      → IsKept Content (record { now = q; base = h.base; before = h.before; entries = h.entries; keeper = keeper })
  kept_same h q keeper kept same stored = record {
    run = run_same h.base h.entries h.now q kept.run same;
    stored = stored;
    bound = λ user number. subst (λ n. n ≤ h.before + length h.entries) (sym (same.counts user number)) (kept.bound user number);
    room = kept.room;
  }

-- ---- the fields of a hall

follows_of : (p q : Point) (step : Step) (r : Receipt) (failed fails : ℕ) → r.own ≡ count_of p.counts step.who.user step.who.number + 1 → IsCounted step.who p.counts q.counts → IsStepped p failed (entry_of step r) q fails
    → Follows p (entry_of step r) q
follows_of p q step r failed fails own counts made = record { own = own; counts = counts; made = by made }
  where
    by : IsStepped p failed (entry_of step r) q fails → IsMade p (entry_of step r) q ⊎ IsRefused p (entry_of step r) q
    by (inl h) = inl h
    by (inr h) = inr h.0

module _ {K : Type 0} (Content : K → World → Type 0) (core after base : Machine) (counts raised base_counts : Counts) (before : ℕ) (journal grown : List Entry) (keeper saved : K) (kept : IsKept Content (hall_state core counts base base_counts before journal keeper)) where
  pub kept_advanced : (step : Step) (r : Receipt) (failed fails : ℕ) → map journal_entry grown ≡ map journal_entry journal ++ entry_of step r ∷ [] → r.own ≡ count_of counts step.who.user step.who.number + 1 → IsCounted step.who counts raised
      → IsStepped (point core.state counts) failed (entry_of step r) (point after.state raised) fails → Content saved after.state.world → before + length journal < max_entries
      → IsKept Content (hall_state after raised base base_counts before grown saved)
  kept_advanced step r failed fails is own counted made stored less =
      let h : HallState K = hall_state core counts base base_counts before journal keeper in
      let q : Point = point after.state raised in
      subst (λ es. IsKept Content (record { now = q; base = h.base; before = before; entries = es; keeper = saved })) (sym is)
      (kept_more Content h (entry_of step r) q saved kept (follows_of h.now q step r failed fails own counted made) stored (omega (arith, length-map journal journal_entry, less)))

  pub kept_refused : after.state ≡ core.state → AreSameCounts counts raised → grown ≡ journal → Content saved after.state.world
      → IsKept Content (hall_state after raised base base_counts before grown saved)
  kept_refused state same is stored =
      let h : HallState K = hall_state core counts base base_counts before journal keeper in
      let q : Point = point after.state raised in
      subst (λ js. IsKept Content (record { now = q; base = h.base; before = before; entries = map journal_entry js; keeper = saved })) (sym is)
      (kept_same Content h q saved kept (record { state = state; counts = same }) stored)

  pub kept_result : (step : Step) (failed fails : ℕ) (result : Result (Receipt × Receipt) HallError)
      → IfOk result (λ r. map journal_entry grown ≡ map journal_entry journal ++ entry_of step r.0 ∷ [])
      → IfOk result (λ r. r.0.own ≡ count_of counts step.who.user step.who.number + 1)
      → OnOk result (IsCounted step.who counts raised)
      → IfOk result (λ r. IsStepped (point core.state counts) failed (entry_of step r.0) (point after.state raised) fails)
      → OnErr result ((after.state ≡ core.state) × AreSameCounts counts raised × (grown ≡ journal) × (fails ≡ failed))
      → Content saved after.state.world → before + length journal < max_entries
      → IsKept Content (hall_state after raised base base_counts before grown saved)
  kept_result step failed fails (Ok r) is own counted made err stored less = kept_advanced step r.0 failed fails is own counted made stored less
  kept_result step failed fails (Err e) is own counted made err stored less = kept_refused err.0 err.1 err.2 stored

pub untouched_result : {K : Type 0} (failures : K → ℕ) (core after base : Machine) (counts raised base_counts : Counts) (before : ℕ) (journal grown : List Entry) (keeper saved : K) (result : Result (Receipt × Receipt) HallError)
    → OnErr result ((after.state ≡ core.state) × AreSameCounts counts raised × (grown ≡ journal) × (failures saved ≡ failures keeper))
    → OnErr result (IsUntouched failures (hall_state core counts base base_counts before journal keeper) (hall_state after raised base base_counts before grown saved))
untouched_result failures core after base counts raised base_counts before journal grown keeper saved (Ok r) err = tt
untouched_result failures core after base counts raised base_counts before journal grown keeper saved (Err e) err = record {
  now = record { state = err.0; counts = err.1 };
  base = refl;
  before = refl;
  entries = ap (map journal_entry) err.2;
  failures = err.3;
}

module _ {K : Type 0} (core now base : Machine) where
  -- another machine in the same state
  pub alike_view : (counts base_counts : Counts) (before : ℕ) (journal : List Entry) (keeper : K) → now.state ≡ core.state
      → hall_state now counts base base_counts before journal keeper ≡ hall_state core counts base base_counts before journal keeper
  alike_view counts base_counts before journal keeper same = λ i. record {
    now = point (same i) counts;
    base = point base.state base_counts;
    before = before;
    entries = map journal_entry journal;
    keeper = keeper;
  }

  pub turned : (base_after : Machine) (counts base_counts copied : Counts) (before n : ℕ) (journal cleared : List Entry) (keeper : K) → now.state ≡ core.state → base_after.state ≡ core.state → copied ≡ counts → n ≡ length journal → cleared ≡ []
      → IsTurnedOver (hall_state core counts base base_counts before journal keeper) (hall_state now counts base_after copied (before + n) cleared keeper)
  turned base_after counts base_counts copied before n journal cleared keeper unchanged state same many none = record {
    now = λ i. point (unchanged i) counts;
    base = λ i. point (state i) (same i);
    before = ap (λ m. before + m) (many ∙ sym (length-map journal journal_entry));
    entries = ap (map journal_entry) none;
    keeper = refl;
  }

module _ {K : Type 0} (Content : K → World → Type 0) where
  pub kept_turned : (core now base turned : Machine) (counts base_counts copied : Counts) (before n : ℕ) (journal cleared : List Entry) (keeper : K) → IsKept Content (hall_state core counts base base_counts before journal keeper)
      → now.state ≡ core.state → turned.state ≡ core.state → copied ≡ counts → n ≡ length journal → cleared ≡ []
      → IsKept Content (hall_state now counts turned copied (before + n) cleared keeper)
  kept_turned core now base turned counts base_counts copied before n journal cleared keeper kept unchanged state same many none =
      subst (λ js. IsKept Content (hall_state now counts turned copied (before + n) js keeper)) (sym none)
      (record {
        run = record { state = unchanged ∙ sym state; counts = λ user number. ap (λ m. count_of m user number) (sym same) };
        stored = subst (λ s. Content keeper s.world) (sym unchanged) kept.stored;
        bound = λ user number. let few : count_of counts user number ≤ before + length (map journal_entry journal) = kept.bound user number in omega (arith, few, length-map journal journal_entry, many);
        room = let few = kept.room in omega (arith, few, length-map journal journal_entry, many);
      })

  -- another machine in the same state
  pub kept_alike : (core now base : Machine) (counts base_counts : Counts) (before : ℕ) (journal : List Entry) (keeper : K) → IsKept Content (hall_state core counts base base_counts before journal keeper)
      → now.state ≡ core.state → IsKept Content (hall_state now counts base base_counts before journal keeper)
  kept_alike core now base counts base_counts before journal keeper kept unchanged =
      subst (λ s. IsKept Content (record {
        now = point s counts;
        base = point base.state base_counts;
        before = before;
        entries = map journal_entry journal;
        keeper = keeper;
      })) (sym unchanged) kept

  zero : (counts : Counts) → counts ≡ fin.empty → (user : List ℕ) (number : ℕ) → count_of counts user number ≡ 0
  zero counts is user number = ap (λ m. count_of m user number) is ∙ ap (λ o. count_in o number) (get-empty (slice_cmp nat_cmp) user)

  module _ (core base : Machine) (counts base_counts : Counts) (journal : List Entry) (keeper : K) (state : base.state ≡ core.state) (counted : counts ≡ fin.empty) (base_counted : base_counts ≡ fin.empty) (none : journal ≡ []) where
    same_start : IsSamePoint (point base.state base_counts) (point core.state counts)
    same_start = record { state = sym state; counts = λ user number. zero counts counted user number ∙ sym (zero base_counts base_counted user number) }

    pub fresh_kept : Content keeper core.state.world → IsKept Content (hall_state core counts base base_counts 0 journal keeper)
    fresh_kept stored =
        subst (λ js. IsKept Content (hall_state core counts base base_counts 0 js keeper)) (sym none)
        (record {
          run = same_start;
          stored = stored;
          bound = λ user number. let is : count_of counts user number ≡ 0 = zero counts counted user number in omega (arith, is);
          room = omega arith;
        })

    pub fresh : IsFresh (hall_state core counts base base_counts 0 journal keeper)
    fresh = record {
      base = same_start;
      counts = zero counts counted;
      before = refl;
      entries = ap (map journal_entry) none;
    }
