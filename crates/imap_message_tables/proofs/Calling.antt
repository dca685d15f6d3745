-- Calls of a transaction one after the other.
use Rattle.std.proofs.Common.{◌≡◌, OnOk, IsTrue, List, [], ◌∷◌, Ok, Err, Result, sym, ap, subst, true≢false, ◌∙◌, arith}
use Rattle.std.specs.Prelude.{IsOk, MatchResult}
use Rattle.sqlite.specs.Effect.{Database}
use Rattle.sqlite.specs.State.{State, HasCleanDisk, IsUnchanged, KeepsCommit, Survives}
use Rattle.sqlite.specs.Tree.{Trees}
use Rattle.sqlite.proofs.Callers.{unchanged_then}
use Rattle.sqlite.proofs.InsideLemmas.{keeps_then}
use Rattle.sqlite.proofs.StateLemmas.{survives_then}
use Rattle.imap_message_tables.specs.Going.{Goes}
use Rattle.imap_tables.specs.Changes.{Then}
use Rattle.imap_tables.specs.Rows.{IsOrderly}
use Rattle.imap_tables.specs.Steps.{HasOrder, HasSchema, IsBegun, IsCall, Turns}
use Rattle.imap_tables.specs.Tables.{store_schema}

-- ---- one call

pub turns_so : (old new : State) {X E : Type 0} (P Q : Trees → Trees → Type 0) (r : Result X E) → (IsOrderly new.now.trees → P old.now.trees new.now.trees → Q old.now.trees new.now.trees)
    → IsCall old new (OnOk r (Turns P old new)) → IsCall old new (OnOk r (Turns Q old new))
turns_so old new {X} {E} P Q r so call = record { made = λ clean inside. by r (call.made clean inside); kept = call.kept; survives = call.survives }
  where
    by : (s : Result X E) → OnOk s (Turns P old new) → OnOk s (Turns Q old new)
    by (Err e) h = tt
    by (Ok x) h = record { was_open = h.was_open; made = λ order. let it = h.made order in (so it.1 it.0, it.1); schema = h.schema; mode = h.mode }

goes : (old new : State) (P : Trees → Trees → Type 0) → Turns P old new → Goes P old new
goes old new P h = record { made = λ order. h.made (λ live. order); schema = h.schema; mode = h.mode }

pub goes_so : (old new : State) {X E : Type 0} (P : Trees → Trees → Type 0) (r : Result X E) → IsCall old new (OnOk r (Turns P old new)) → IsCall old new (OnOk r (Goes P old new))
goes_so old new {X} {E} P r call = record { made = λ clean inside. by r (call.made clean inside); kept = call.kept; survives = call.survives }
  where
    by : (s : Result X E) → OnOk s (Turns P old new) → OnOk s (Goes P old new)
    by (Err e) h = tt
    by (Ok x) h = goes old new P h

-- the count of the rows that were written is dropped
pub made_so : (old new : State) {X Y E : Type 0} (A : Type 0) (r : Result X E) (made : Result Y E) → MatchResult made (λ _. IsOk r) (λ error. r ≡ Err error) → IsCall old new (OnOk r A) → IsCall old new (OnOk made A)
made_so old new {X} {Y} {E} A r made h call = record { made = λ clean inside. by r made h (call.made clean inside); kept = call.kept; survives = call.survives }
  where
    by : (s : Result X E) (m : Result Y E) → MatchResult m (λ _. IsOk s) (λ error. s ≡ Err error) → OnOk s A → OnOk m A
    by s (Err e) h it = tt
    by (Ok x) (Ok y) h it = it
    by (Err e) (Ok y) h it = absurd (true≢false (sym h))

-- ---- two calls

module _ (old mid new : State) where
  both_survive : Survives old mid (λ _. ⊥) → Survives mid new (λ _. ⊥) → Survives old new (λ _. ⊥)
  both_survive = survives_then old mid new _ _ _ (λ _ db none. none) (λ _ db none. none)

  early : Survives mid new (λ _. ⊥) → HasCleanDisk new → HasCleanDisk mid
  early s clean = omega (arith, s.clean, clean)

  -- the transaction goes on
  pub still_begun : {A : Type 0} → IsBegun old → IsCall old mid A → (A → IsTrue mid.in_transaction) → IsBegun mid
  still_begun begun call mode clean = mode (call.made clean (begun (omega (arith, call.survives.clean, clean))))

  pub still_has : {A : Type 0} → IsBegun old → IsCall old mid A → (A → HasSchema store_schema mid) → HasSchema store_schema mid
  still_has begun call has clean = has (call.made clean (begun (omega (arith, call.survives.clean, clean)))) clean

  pub turns_then : {X E : Type 0} (P Q : Trees → Trees → Type 0) (r : Result X E) → IsCall old mid (Turns P old mid) → IsCall mid new (OnOk r (Goes Q mid new)) → IsCall old new (OnOk r (Turns (Then P Q) old new))
  turns_then {X} {E} P Q r a b = record {
    made = λ clean inside. let was = a.made (early b.survives clean) inside in by r was (b.made clean was.mode);
    kept = λ clean inside. let was = a.made (early b.survives clean) inside in keeps_then old mid new (a.kept (early b.survives clean) inside) (b.kept clean was.mode);
    survives = both_survive a.survives b.survives;
  }
    where
      by : (s : Result X E) → Turns P old mid → OnOk s (Goes Q mid new) → OnOk s (Turns (Then P Q) old new)
      by (Err e) was h = tt
      by (Ok x) was h = record {
        was_open = was.was_open;
        made = λ orderly. let first = was.made orderly in let next = h.made first.1 in ((mid.now.trees, first.0, next.0), next.1);
        schema = h.schema;
        mode = h.mode;
      }

  pub goes_then : {X E : Type 0} (P Q : Trees → Trees → Type 0) (r : Result X E) → IsCall old mid (Goes P old mid) → IsCall mid new (OnOk r (Goes Q mid new)) → IsCall old new (OnOk r (Goes (Then P Q) old new))
  goes_then {X} {E} P Q r a b = record {
    made = λ clean inside. let was = a.made (early b.survives clean) inside in by r was (b.made clean was.mode);
    kept = λ clean inside. let was = a.made (early b.survives clean) inside in keeps_then old mid new (a.kept (early b.survives clean) inside) (b.kept clean was.mode);
    survives = both_survive a.survives b.survives;
  }
    where
      by : (s : Result X E) → Goes P old mid → OnOk s (Goes Q mid new) → OnOk s (Goes (Then P Q) old new)
      by (Err e) was h = tt
      by (Ok x) was h = record {
        made = λ orderly. let first = was.made orderly in let next = h.made first.1 in ((mid.now.trees, first.0, next.0), next.1);
        schema = h.schema;
        mode = h.mode;
      }

  -- ---- after a query

  abbrev pub Finds : Type 0 → Type 0
  Finds A = (HasOrder old → A) × IsUnchanged old mid

  pub found_begun : (A : Type 0) → IsBegun old → IsCall old mid (Finds A) → IsBegun mid
  found_begun A begun call clean = let inside = begun (omega (arith, call.survives.clean, clean)) in subst IsTrue (sym (call.made clean inside).1.0.mode) inside

  pub found_has : (A : Type 0) → IsBegun old → HasSchema store_schema old → IsCall old mid (Finds A) → HasSchema store_schema mid
  found_has A begun has call clean live =
      let before : HasCleanDisk old = omega (arith, call.survives.clean, clean) in
      let same = (call.made clean (begun before)).1 in
      ap (λ (d : Database). d.schema) same.0.now_is ∙ has before same.0.was_open

  found_order : IsUnchanged old mid → HasOrder old → HasOrder mid
  found_order same order live = subst IsOrderly (sym (ap (λ (d : Database). d.trees) same.0.now_is)) (order same.0.was_open)

  pub found_then : {X E : Type 0} (A : Type 0) (P Q : Trees → Trees → Type 0) (r : Result X E) → IsBegun old → IsCall old mid (Finds A) → IsCall mid new (OnOk r (Turns P mid new))
      → (A → P old.now.trees new.now.trees → Q old.now.trees new.now.trees) → IsCall old new (OnOk r (Turns Q old new))
  found_then {X} {E} A P Q r begun a b combine = record {
    made = λ clean inside. let was = a.made (early b.survives clean) inside in by r was (b.made clean (subst IsTrue (sym was.1.0.mode) inside));
    kept = λ clean inside. let was = a.made (early b.survives clean) inside in keeps_then old mid new (a.kept (early b.survives clean) inside) (b.kept clean (subst IsTrue (sym was.1.0.mode) inside));
    survives = both_survive a.survives b.survives;
  }
    where
      by : (s : Result X E) → Finds A → OnOk s (Turns P mid new) → OnOk s (Turns Q old new)
      by (Err e) was h = tt
      by (Ok x) was h =
          let same : mid.now.trees ≡ old.now.trees = ap (λ (d : Database). d.trees) was.1.0.now_is in
          record {
            was_open = was.1.0.was_open;
            made = λ order. let it = h.made (found_order was.1 order) in (combine (was.0 order) (subst (λ db. P db new.now.trees) same it.0), it.1);
            schema = h.schema;
            mode = h.mode;
          }

  -- two queries
  pub both_found : (A : Type 0) (B : Trees → Type 0) (C : Type 0) → IsCall old mid (Finds A)
      → IsCall mid new ((HasOrder mid → B mid.now.trees) × IsUnchanged mid new) → (A → B old.now.trees → C)
      → IsCall old new ((HasOrder old → C) × IsUnchanged old new)
  both_found A B C a b combine = record {
    made = λ clean inside.
        let was = a.made (early b.survives clean) inside in
        let h = b.made clean (subst IsTrue (sym was.1.0.mode) inside) in (
          λ order. combine (was.0 order) (subst B (ap (λ (d : Database). d.trees) was.1.0.now_is) (h.0 (found_order was.1 order))),
          unchanged_then old mid new was.1 h.1,
        );
    kept = λ clean inside. let was = a.made (early b.survives clean) inside in keeps_then old mid new (a.kept (early b.survives clean) inside) (b.kept clean (subst IsTrue (sym was.1.0.mode) inside));
    survives = both_survive a.survives b.survives;
  }

-- ---- a loop

-- what holds of a transaction that has some changes left
abbrev pub HasGone : {C : Type 0} → (List C → Trees → Trees → Type 0) → (changes rest : List C) → (old now : State) → Type 0
HasGone All changes rest old now =
    Survives old now (λ _. ⊥) × HasSchema store_schema now
    × (HasCleanDisk now → KeepsCommit old now × IsTrue now.in_transaction
    × (IsOrderly old.now.trees → IsOrderly now.now.trees × ((after : Trees) → All rest now.now.trees after → All changes old.now.trees after)))

-- one more is made
pub goes_on : {C : Type 0} (One : C → Trees → Trees → Type 0) (All : List C → Trees → Trees → Type 0)
    → ((c : C) (cs : List C) (db mid after : Trees) → One c db mid → All cs mid after → All (c ∷ cs) db after)
    → (changes rest later : List C) (c : C) (old mid new : State) → rest ≡ c ∷ later → HasGone All changes rest old mid → IsCall mid new (Turns (One c) mid new) → HasGone All changes later old new
goes_on One All cons changes rest later c old mid new is h call = (
  both_survive old mid new h.0 call.survives,
  λ clean. let was = h.2 (before clean) in (call.made clean was.1).schema clean,
  λ clean.
      let was = h.2 (before clean) in
      let it = call.made clean was.1 in (
        keeps_then old mid new was.0 (call.kept clean was.1),
        it.mode,
        λ orderly.
            let so_far = was.2 orderly in
            let one = it.made (λ _. so_far.0) in
            (one.1, λ after more. so_far.1 after (subst (λ cs. All cs mid.now.trees after) (sym is) (cons c later mid.now.trees new.now.trees after one.0 more))),
      ),
)
  where
    before : HasCleanDisk new → HasCleanDisk mid
    before clean = omega (arith, call.survives.clean, clean)

-- a call that fails ends it
pub ends_on : {C A Made : Type 0} (All : List C → Trees → Trees → Type 0) (changes rest : List C) (old mid new : State) → HasGone All changes rest old mid → IsCall mid new A → Made → IsCall old new Made
ends_on All changes rest old mid new h call made = record {
  made = λ clean inside. made;
  kept = λ clean inside. let was = h.2 (before clean) in keeps_then old mid new was.0 (call.kept clean was.1);
  survives = both_survive old mid new h.0 call.survives;
}
  where
    before : HasCleanDisk new → HasCleanDisk mid
    before clean = omega (arith, call.survives.clean, clean)

-- after the last
pub gone_all : {C : Type 0} (All : List C → Trees → Trees → Type 0) → ((db : Trees) → All [] db db)
    → (changes rest : List C) (old now : State) → rest ≡ [] → HasGone All changes rest old now → IsCall old now (Goes (All changes) old now)
gone_all All none changes rest old now is h = record {
  made = λ clean inside.
      let it = h.2 clean in
      record {
        made = λ orderly. let all = it.2 orderly in (all.1 now.now.trees (subst (λ cs. All cs now.now.trees now.now.trees) (sym is) (none now.now.trees)), all.0);
        schema = h.1;
        mode = it.1;
      };
  kept = λ clean inside. (h.2 clean).0;
  survives = h.0;
}
