-- The names that mailboxes get, one name further.
use Rattle.std.proofs.Common.{◌≡◌, ℕ, ◌+◌, ◌<◌, ◌≤◌, Bool, true, false, cond, List, [], ◌∷◌, ◌++◌, length, get_or, take, drop, drop-cons, add-one, suc, map as map_list, Result, Ok, Err, refl, sym, ap, subst, ◌∙◌, true≢false}
use Rattle.std.specs.Prelude.{◌&&◌}
use Rattle.std.specs.List.{list_all}
use Rattle.std.specs.FinMap as map
use Rattle.std.proofs.lemmas.List.{take_all, take_more}
use Rattle.std.proofs.lemmas.List.Folds.{list_all_at, list_all_more, list_all-map}
use Rattle.imap_name_map.specs.Rows.{run_of}
use Rattle.imap_name_map.proofs.WithinLaws.{run_within}
use Rattle.imap_names.specs.Name.{Name}
use Rattle.imap_names.specs.Order.{Names, is_within}
use Rattle.imap_world.specs.declared.error.WorldError.{WorldError}
use Rattle.imap_world.specs.declared.error.WorldError.TheVariants.{Limit}
use Rattle.imap_world.specs.Mailbox.{Mailbox}
use Rattle.imap_world.specs.Changing.{AnswersOrMemory}
use Rattle.imap_world.specs.Moving.{arrival_at, arrivals_at, can_arrive, with_validities, with_validity}
use Rattle.imap_world.specs.World.{epoch}
use Rattle.imap_world.proofs.Resolved.{out_of_memory}

module _ {X : Type 0} (epochs : Names ℕ) (f : Name → Name) where
  abbrev pub can : Name × X → Bool
  can = λ e. can_arrive epochs (f e.0)

  abbrev arrivals_of : List (Name × X) → List (Name × ℕ)
  arrivals_of es = arrivals_at epochs (map_list (λ e. f e.0) es)

  -- what is meant by all entries
  abbrev pub meant : List (Name × X) → Result (List (Name × ℕ)) WorldError
  meant es = cond (list_all (can_arrive epochs) (map_list (λ e. f e.0) es)) (Ok (arrivals_of es)) (Err Limit)

  pub all_meant : (es : List (Name × X)) → list_all can es ≡ true → meant es ≡ Ok (arrivals_of es)
  all_meant es all = ap (λ b. cond b (Ok (arrivals_of es)) (Err Limit)) (list_all-map (can_arrive epochs) (λ (e : Name × X). f e.0) es ∙ all)

  arrivals_of-append : (es more : List (Name × X)) → arrivals_of (es ++ more) ≡ arrivals_of es ++ arrivals_of more
  arrivals_of-append [] more = refl
  arrivals_of-append (e ∷ es) more = ap (λ came. (f e.0, epoch epochs (f e.0) + 1) ∷ came) (arrivals_of-append es more)

  found : (e : Name × X) (came : Name × ℕ) → AnswersOrMemory (Ok came) (arrival_at epochs (f e.0)) → (can e ≡ true) × (came ≡ (f e.0, epoch epochs (f e.0) + 1))
  found e came = by (can e) refl
    where
      by : (b : Bool) → can e ≡ b → AnswersOrMemory (Ok came) (cond b (Ok (f e.0, epoch epochs (f e.0) + 1)) (Err Limit)) → (can e ≡ true) × (came ≡ (f e.0, epoch epochs (f e.0) + 1))
      by true is h = (is, h)
      by false is h = absurd h

  -- one entry more has its name
  pub one_came : (es : List (Name × X)) (i : ℕ) (e : Name × X) (came : Name × ℕ) → i < length es → e ≡ get_or es i e → AnswersOrMemory (Ok came) (arrival_at epochs (f e.0))
      → (arrivals_of (take i es) ++ came ∷ [] ≡ arrivals_of (take (i + 1) es))
      × (list_all can (take i es) ≡ true → list_all can (take (i + 1) es) ≡ true)
  one_came es i e came lt is h =
      let (here, there) = found e came h in (
        ap (λ c. arrivals_of (take i es) ++ c ∷ []) there
            ∙ sym (ap arrivals_of (take_more es i e lt ∙ ap (λ x. take i es ++ x ∷ []) (sym is)) ∙ arrivals_of-append (take i es) (e ∷ [])),
        λ all. list_all_more can es i e lt ∙ ap (λ b. b && can (get_or es i e)) all ∙ ap can (sym is) ∙ here,
      )

  -- or is refused, and so is the whole
  pub one_refused : (es : List (Name × X)) (i : ℕ) (e : Name × X) (error : WorldError) → i < length es → e ≡ get_or es i e
      → AnswersOrMemory {A = Name × ℕ} (Err error) (arrival_at epochs (f e.0)) → AnswersOrMemory {A = List (Name × ℕ)} (Err error) (meant es)
  one_refused es i e error lt is = by (can e) refl
    where
      none : can e ≡ false → meant es ≡ Err Limit
      none can_not =
          ap (λ b. cond b (Ok (arrivals_of es)) (Err Limit))
          (list_all-map (can_arrive epochs) (λ (x : Name × X). f x.0) es ∙ list_all_at can es i e lt (ap can (sym is) ∙ can_not))

      by : (b : Bool) → can e ≡ b → AnswersOrMemory {A = Name × ℕ} (Err error) (cond b (Ok (f e.0, epoch epochs (f e.0) + 1)) (Err Limit)) → AnswersOrMemory {A = List (Name × ℕ)} (Err error) (meant es)
      by true may h = subst (λ r. AnswersOrMemory {A = List (Name × ℕ)} (Err r) (meant es)) (sym h) (out_of_memory (meant es))
      by false may h = subst (AnswersOrMemory {A = List (Name × ℕ)} (Err error)) (sym (none may)) h

  -- without the names: one entry more can have its name
  pub can_more : (es : List (Name × X)) (i : ℕ) (e : Name × X) → i < length es → e ≡ get_or es i e → can e ≡ true → list_all can (take i es) ≡ true → list_all can (take (i + 1) es) ≡ true
  can_more es i e lt is here all = list_all_more can es i e lt ∙ ap (λ b. b && can (get_or es i e)) all ∙ ap can (sym is) ∙ here

  -- or can't, and so not all can
  pub can_not : (es : List (Name × X)) (i : ℕ) (e : Name × X) → i < length es → e ≡ get_or es i e → can e ≡ false → false ≡ list_all (can_arrive epochs) (map_list (λ e. f e.0) es)
  can_not es i e lt is here = sym (list_all-map (can_arrive epochs) (λ (x : Name × X). f x.0) es ∙ list_all_at can es i e lt (ap can (sym is) ∙ here))

  pub can_all : (es : List (Name × X)) (i : ℕ) → length es ≤ i → list_all can (take i es) ≡ true → true ≡ list_all (can_arrive epochs) (map_list (λ e. f e.0) es)
  can_all es i le all = sym (list_all-map (can_arrive epochs) (λ (x : Name × X). f x.0) es ∙ ap (list_all can) (sym (take_all i es le)) ∙ all)

  -- all have come
  pub all_came : (es : List (Name × X)) (i : ℕ) (came : List (Name × ℕ)) → length es ≤ i → came ≡ arrivals_of (take i es) → list_all can (take i es) ≡ true → AnswersOrMemory (Ok came) (meant es)
  all_came es i came le made all =
      let whole : take i es ≡ es = take_all i es le in
      subst (AnswersOrMemory (Ok came)) (sym (all_meant es (ap (list_all can) (sym whole) ∙ all))) (made ∙ ap arrivals_of whole)

-- each name of a run is its top or below it
pub within_run : {X : Type 0} (old : Name) (m : Names X) (es : List (Name × X)) (i : ℕ) (e : Name × X) → es ≡ run_of old m → i < length es → e ≡ get_or es i e → is_within old e.0 ≡ true
within_run {X} old m es i e run lt is = by (is_within old e.0) refl
  where
    by : (b : Bool) → is_within old e.0 ≡ b → is_within old e.0 ≡ true
    by true h = h
    by false h =
        let none : list_all (λ (x : Name × X). is_within old x.0) es ≡ false = list_all_at (λ x. is_within old x.0) es i e lt (ap (λ (x : Name × X). is_within old x.0) (sym is) ∙ h) in
        absurd (true≢false (sym (ap (list_all (λ (x : Name × X). is_within old x.0)) run ∙ run_within old m) ∙ none))

-- ---- the mailboxes get their validities, one further

pub one_set : (m new : Names Mailbox) (validities : List (Name × ℕ)) (i : ℕ) (e : Name × ℕ) → i < length validities → e ≡ get_or validities i e
    → new ≡ with_validity m e.0 e.1 (map.get m e.0) → with_validities new (drop (i + 1) validities) ≡ with_validities m (drop i validities)
one_set m new validities i e lt is set =
    let cut : drop i validities ≡ e ∷ drop (i + 1) validities = rw add-one (drop-cons validities i e lt ∙ ap (λ x. x ∷ drop (suc i) validities) (sym is)) in
    ap (λ k. with_validities k (drop (i + 1) validities)) set ∙ sym (ap (with_validities m) cut)
