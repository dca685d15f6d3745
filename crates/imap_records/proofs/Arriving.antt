-- What RENAME makes of the mailboxes, one after the other.
use Rattle.std.proofs.Common.{◌≡◌, ◌≢◌, ◌⊎◌, inl, inr, ℕ, ◌+◌, Bool, true, false, cond, List, [], ◌∷◌, length, map as map_list, Option, Some, None, is_some, refl, sym, ap, subst, ◌∙◌, true≢false, arith}
use Rattle.std.specs.Prelude.{◌||◌, bytes_eq, nat_lt}
use Rattle.std.specs.FinMap as map
use Rattle.std.specs.FinMap.Entries.{below_all, find, is_sorted}
use Rattle.std.specs.Ordering.{is_eq, is_lt}
use Rattle.std.specs.declared.cmp.Ordering.{Ordering}
use Rattle.std.specs.declared.cmp.Ordering.TheVariants.{Less, Equal, Greater}
use Rattle.std.specs.List.{AllByRecursion, list_all}
use Rattle.std.proofs.lemmas.Bool.{and_parts, false_from_ne_true}
use Rattle.std.proofs.lemmas.Slice.Eq.{bytes_eq-Decides}
use Rattle.sqlite.specs.Tree.{Trees}
use Rattle.sqlite_rules.specs.Lists.{Has}
use Rattle.imap_name_map.specs.Renaming.{moved_names, renamed}
use Rattle.imap_name_map.specs.Rows.{run_of}
use Rattle.imap_name_map.proofs.LookUp.{renamed_comes, renamed_goes, renamed_stays}
use Rattle.imap_name_map.proofs.Maps.{sorted_entries, sorted_where}
use Rattle.imap_name_map.proofs.Runs.{get_in_run}
use Rattle.imap_name_map.proofs.WithinLaws.{run_is_empty, run_within}
use Rattle.imap_names.specs.Name.{Name, root_of}
use Rattle.imap_names.specs.Order.{Names, is_within, moved, name_cmp}
use Rattle.imap_names.specs.Valid.{IsName}
use Rattle.imap_names.proofs.MovedLaws.{moved_injective, moved_within, there_and_back, within_cases, within_no_shorter}
use Rattle.imap_names.proofs.NameLaws.{equal_names, get_put, is_name_at, is_name_at-same}
use Rattle.imap_world.specs.Mailbox.{Mailbox}
use Rattle.imap_world.specs.Moving.{arrivals_at, with_moved, with_validities, with_validity}
use Rattle.imap_world.specs.Ready.{MayMove}
use Rattle.imap_world.specs.World.{World, epoch}
use Rattle.imap_world.proofs.Moves.{can_move-long, can_move-new_long, is_among, moved_is_among, moves_apart, names_of_arrivals}
use Rattle.imap_records.specs.Standing.{StandFor}
use Rattle.imap_records.specs.Steps.{arrival_steps}
use Rattle.imap_records.proofs.Making.{MakesSteps}
use Rattle.imap_records.proofs.Moving.{IsMixed, MayAllArrive, all_arrive, names_in}

-- ---- UIDVALIDITYs that are set

validity_other : (m : Names Mailbox) (name : Name) (v : ℕ) (q : Name) → is_name_at q name ≡ false → (o : Option Mailbox) → map.get (with_validity m name v o) q ≡ map.get m q
validity_other m name v q apart None = refl
validity_other m name v q apart (Some k) = get_put m name (record k { validity = v }) q ∙ ap (λ b. cond b (Some (record k { validity = v })) (map.get m q)) apart

validities_other : (list : List (Name × ℕ)) (m : Names Mailbox) (q : Name) → is_among q (names_in list) ≡ false → map.get (with_validities m list) q ≡ map.get m q
validities_other [] m q none = refl
validities_other (a ∷ list) m q none =
    validities_other list (with_validity m a.0 a.1 (map.get m a.0)) q (later (is_name_at q a.0) (is_among q (names_in list)) none) ∙ validity_other m a.0 a.1 q (first (is_name_at q a.0) (is_among q (names_in list)) none) (map.get m a.0)
  where
    first : (b c : Bool) → (b || c) ≡ false → b ≡ false
    first true c e = e
    first false c e = refl

    later : (b c : Bool) → (b || c) ≡ false → c ≡ false
    later true c e = absurd (true≢false e)
    later false c e = e

validity_here : (m : Names Mailbox) (name : Name) (v : ℕ) (k : Mailbox) → map.get m name ≡ Some k → map.get (with_validity m name v (map.get m name)) name ≡ Some (record k { validity = v })
validity_here m name v k there =
    ap (λ o. map.get (with_validity m name v o) name) there ∙ get_put m name (record k { validity = v }) name ∙ ap (λ b. cond b (Some (record k { validity = v })) (map.get m name)) (is_name_at-same name)

-- ---- entries in order

not_both : (o : Ordering) → is_eq o ≡ true → is_lt o ≡ true → ⊥
not_both Less e l = true≢false (sym e)
not_both Equal e l = true≢false (sym l)
not_both Greater e l = true≢false (sym e)

differ : (x : Name) (es : List (Name × Mailbox)) → below_all name_cmp x es ≡ true → (f : Name × Mailbox) → Has es f → x ≢ f.0
differ x [] e f none is = absurd none
differ x (g ∷ es) e f (inl same) is =
    not_both (name_cmp x x) (is_name_at-same x) (ap (λ n. is_lt (name_cmp x n)) (is ∙ ap (λ (h : Name × Mailbox). h.0) same) ∙ (and_parts (is_lt (name_cmp x g.0)) (below_all name_cmp x es) e).0)
differ x (g ∷ es) e f (inr there) is = differ x es (and_parts (is_lt (name_cmp x g.0)) (below_all name_cmp x es) e).1 f there is

found_some : (es : List (Name × Mailbox)) (e : Name × Mailbox) → Has es e → is_some (find name_cmp e.0 es) ≡ true
found_some [] e none = absurd none
found_some (g ∷ es) e (inl same) =
    ap (λ b. is_some (cond b (Some g.1) (find name_cmp e.0 es))) (ap (λ n. is_name_at n g.0) (ap (λ (h : Name × Mailbox). h.0) same) ∙ is_name_at-same g.0)
found_some (g ∷ es) e (inr there) = by (is_name_at e.0 g.0) (found_some es e there)
  where
    by : (b : Bool) → is_some (find name_cmp e.0 es) ≡ true → is_some (cond b (Some g.1) (find name_cmp e.0 es)) ≡ true
    by true later = refl
    by false later = later

within_each : (top : Name) (es : List (Name × Mailbox)) → list_all (λ e. is_within top e.0) es ≡ true → (f : Name × Mailbox) → Has es f → is_within top f.0 ≡ true
within_each top [] e f none = absurd none
within_each top (g ∷ es) e f (inl same) = ap (λ (h : Name × Mailbox). is_within top h.0) same ∙ (and_parts (is_within top g.0) (list_all (λ e. is_within top e.0) es) e).0
within_each top (g ∷ es) e f (inr there) = within_each top es (and_parts (is_within top g.0) (list_all (λ e. is_within top e.0) es) e).1 f there

record IsSome (o : Option Mailbox) : Type 0 where
  value : Mailbox
  is : o ≡ Some value

some_from : (o : Option Mailbox) → is_some o ≡ true → IsSome o
some_from None e = absurd (true≢false (sym e))
some_from (Some k) e = record { value = k; is = refl }

module _ (old new : Name) (before : Names Mailbox) (epochs : Names ℕ) where
  abbrev moved_of : List (Name × Mailbox) → List Name
  moved_of es = map_list (λ e. moved old new e.0) es

  -- none comes twice
  once : (e : Name × Mailbox) (es : List (Name × Mailbox)) → is_within old e.0 ≡ true → ((f : Name × Mailbox) → Has es f → is_within old f.0 ≡ true) → ((f : Name × Mailbox) → Has es f → e.0 ≢ f.0)
      → is_among (moved old new e.0) (moved_of es) ≡ false
  once e [] w ws apart = refl
  once e (f ∷ es) w ws apart = λ j.
      false_from_ne_true (is_name_at (moved old new e.0) (moved old new f.0))
      (λ h. apart f (inl refl) (moved_injective old new e.0 f.0 w (ws f (inl refl)) (equal_names (moved old new e.0) (moved old new f.0) h))) j
      || once e es w (λ g there. ws g (inr there)) (λ g there. apart g (inr there)) j

  all_may : (es : List (Name × Mailbox)) (m : Names Mailbox) → is_sorted name_cmp es ≡ true → ((f : Name × Mailbox) → Has es f → is_within old f.0 ≡ true)
      → ((f : Name × Mailbox) → Has es f → IsSome (map.get before f.0)) → ((f : Name × Mailbox) → Has es f → map.get m (moved old new f.0) ≡ map.get before f.0)
      → MayAllArrive old new before (with_validities m (arrivals_at epochs (moved_of es))) (arrivals_at epochs (moved_of es))
  all_may [] m sorted ws there same = tt
  all_may (e ∷ es) m sorted ws there same =
      let order = and_parts (below_all name_cmp e.0 es) (is_sorted name_cmp es) sorted in
      let name : Name = moved old new e.0 in
      let v : ℕ = epoch epochs name + 1 in
      let k : Mailbox = (there e (inl refl)).value in
      let here : map.get m name ≡ Some k = same e (inl refl) ∙ (there e (inl refl)).is in
      let apart : (f : Name × Mailbox) → Has es f → e.0 ≢ f.0 = differ e.0 es order.0 in
      let alone : is_among name (names_in (arrivals_at epochs (moved_of es))) ≡ false =
      ap (is_among name) (names_of_arrivals epochs (moved_of es)) ∙ once e es (ws e (inl refl)) (λ f h. ws f (inr h)) apart in
      let m1 : Names Mailbox = with_validity m name v (map.get m name) in
      let still : (f : Name × Mailbox) → Has es f → map.get m1 (moved old new f.0) ≡ map.get before f.0 =
      λ f h. validity_other m name v (moved old new f.0)
      (false_from_ne_true (is_name_at (moved old new f.0) name)
      (λ t. apart f h (sym (moved_injective old new f.0 e.0 (ws f (inr h)) (ws e (inl refl)) (equal_names (moved old new f.0) name t)))))
      (map.get m name)
      ∙ same f (inr h) in (
        record {
          within = moved_within old new e.0 (ws e (inl refl));
          mailbox = k;
          there = ap (map.get before) (there_and_back old new e.0 (ws e (inl refl))) ∙ (there e (inl refl)).is;
          afterwards = validities_other (arrivals_at epochs (moved_of es)) m1 name alone ∙ validity_here m name v k here;
        },
        alone,
        all_may es m1 order.1 (λ f h. ws f (inr h)) (λ f h. there f (inr h)) still,
      )

  among_within : (es : List (Name × Mailbox)) → ((f : Name × Mailbox) → Has es f → is_within old f.0 ≡ true) → (q : Name) → is_among q (moved_of es) ≡ true → is_within new q ≡ true
  among_within [] ws q e = absurd (true≢false (sym e))
  among_within (f ∷ es) ws q e = by (is_name_at q (moved old new f.0)) refl e (among_within es (λ g there. ws g (inr there)) q)
    where
      by : (b : Bool) → is_name_at q (moved old new f.0) ≡ b → (b || is_among q (moved_of es)) ≡ true → (is_among q (moved_of es) ≡ true → is_within new q ≡ true) → is_within new q ≡ true
      by true at h later = ap (is_within new) (equal_names q (moved old new f.0) at) ∙ moved_within old new f.0 (ws f (inl refl))
      by false at h later = later h

-- ---- a mailbox moves with all below it

module _ (world : World) (old new : Name) (arrivals : List (Name × ℕ)) (may : MayMove old new arrivals world) where
  abbrev before : Names Mailbox
  before = world.mailboxes

  abbrev names : List Name
  names = moved_names old new before

  abbrev coming : List (Name × ℕ)
  coming = arrivals_at world.epochs names

  abbrev target : Names Mailbox
  target = with_validities (renamed old new before) coming

  free : run_of new before ≡ []
  free = run_is_empty new before may.free

  nothing_at : (q : Name) → is_within new q ≡ true → map.get before q ≡ None
  nothing_at q n = sym (ap (λ b. cond b (map.get before q) None) n) ∙ sym (get_in_run new before q) ∙ ap (find name_cmp q) free

  not_among : (q : Name) → is_within new q ≡ false → is_among q names ≡ false
  not_among q n = false_from_ne_true (is_among q names) (λ e. true≢false (sym (among_within old new before world.epochs (run_of old before) (within_each old (run_of old before) (run_within old before)) q e) ∙ n))

  target_is : (q : Name) → is_among q names ≡ false → map.get target q ≡ map.get (renamed old new before) q
  target_is q none = validities_other coming (renamed old new before) q (ap (is_among q) (names_of_arrivals world.epochs names) ∙ none)

  -- where nothing moves to, nothing comes from
  nothing_comes : (q : Name) → is_within new q ≡ true → is_among q names ≡ false → map.get before (moved new old q) ≡ None
  nothing_comes q n none = by (map.get before (moved new old q)) refl
    where
      by : (o : Option Mailbox) → map.get before (moved new old q) ≡ o → o ≡ None
      by None e = refl
      by (Some k) e = absurd (true≢false (sym (moved_is_among old new before q n (ap is_some e)) ∙ none))

  not_under : is_within old new ≡ false
  not_under = moves_apart before old new may.there may.allowed may.free

  not_above : is_within new old ≡ false
  not_above = false_from_ne_true (is_within new old) (λ e. true≢false (sym may.there ∙ ap is_some (nothing_at old e)))

  disjoint : (q : Name) → is_within old q ≡ true → is_within new q ≡ false
  disjoint q o = false_from_ne_true (is_within new q) (λ n. never q o n)
    where
      never : (q : Name) → is_within old q ≡ true → is_within new q ≡ true → ⊥
      never [] o n = omega (arith, within_no_shorter old [] o, can_move-long old new may.allowed)
      never (part ∷ q) o n = by (within_cases old part q o) (within_cases new part q n) (never q)
        where
          by : (part ∷ q ≡ old) ⊎ (is_within old q ≡ true) → (part ∷ q ≡ new) ⊎ (is_within new q ≡ true) → (is_within old q ≡ true → is_within new q ≡ true → ⊥) → ⊥
          by (inl is) w deeper = true≢false (sym (ap (is_within new) (sym is) ∙ n) ∙ not_above)
          by (inr h) (inl is) deeper = true≢false (sym (ap (is_within old) (sym is) ∙ o) ∙ not_under)
          by (inr h) (inr k) deeper = deeper h k

  roots : root_of old ≡ root_of new
  roots =
      let a = (and_parts (nat_lt 1 (length old)) _ may.allowed).1 in
      let b = (and_parts (nat_lt 1 (length new)) _ a).1 in
      (bytes_eq-Decides (root_of old) (root_of new)).0 (and_parts (bytes_eq (root_of old) (root_of new)) _ b).0

  may_all : MayAllArrive old new before target coming
  may_all =
      all_may old new before world.epochs (run_of old before) (renamed old new before) (sorted_where (is_within old) (map.entries before) (sorted_entries before (map.entries before) refl))
      (within_each old (run_of old before) (run_within old before)) there comes
    where
      there : (f : Name × Mailbox) → Has (run_of old before) f → IsSome (map.get before f.0)
      there f h = some_from (map.get before f.0)
          (sym (ap is_some (get_in_run old before f.0 ∙ ap (λ b. cond b (map.get before f.0) None) (within_each old (run_of old before) (run_within old before) f h))) ∙ found_some (run_of old before) f h)

      comes : (f : Name × Mailbox) → Has (run_of old before) f → map.get (renamed old new before) (moved old new f.0) ≡ map.get before f.0
      comes f h =
          let w = within_each old (run_of old before) (run_within old before) f h in
          renamed_comes old new before (moved old new f.0) free (moved_within old new f.0 w) ∙ ap (map.get before) (there_and_back old new f.0 w)

  starts : IsMixed old new before target names before
  starts = record {
    came = λ q n none. nothing_at q n ∙ sym (target_is q none ∙ renamed_comes old new before q free n ∙ nothing_comes q n none);
    coming = λ q n among. nothing_at q n;
    waiting = λ q o among. refl;
    went = λ q o none. sym (ap (map.get before) (there_and_back old new q o)) ∙ nothing_comes (moved old new q) (moved_within old new q o) none;
    apart = λ q n o. refl;
  }

  pub all_moved : (db after : Trees) → AllByRecursion (λ (a : Name × ℕ). IsName a.0) arrivals → StandFor db world → MakesSteps (arrival_steps old new arrivals) db after → StandFor after (with_moved world old new arrivals)
  all_moved db after valid stand made =
      subst (λ came. StandFor after (with_moved world old new came)) (sym may.next)
      (all_arrive old new before target disjoint world
      (omega (arith, can_move-new_long old new may.allowed)) (omega (arith, can_move-long old new may.allowed)) roots
      (λ q n o. target_is q (not_among q n) ∙ renamed_goes old new before q free n o) (λ q n o. target_is q (not_among q n) ∙ renamed_stays old new before q free n o)
      coming before world.epochs db after may_all
      (subst (λ came. AllByRecursion (λ (a : Name × ℕ). IsName a.0) came) may.next valid)
      (subst (λ left. IsMixed old new before target left before) (sym (names_of_arrivals world.epochs names)) starts)
      stand (subst (λ came. MakesSteps (arrival_steps old new came) db after) may.next made))
