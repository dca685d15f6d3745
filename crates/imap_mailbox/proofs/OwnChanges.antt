-- Own changes of all users, from a list in the order of their places.
use Rattle.std.proofs.Common.{◌≡◌, ℕ, zero, suc, ◌+◌, ◌-◌, ◌<◌, ◌≤◌, Bool, true, false, cond, List, [], ◌∷◌, ◌++◌, length, replicate, map, Option, Some, None, Err, sum_by, refl, sym, ap, ◌∙◌, subst, arith, inl, inr, IsPermutation, ◌↔◌, IsTrue}
use Rattle.std.specs.Prelude.{bytes_eq}
use Rattle.std.specs.FinMap as fin
use Rattle.std.specs.FinMap.{get}
use Rattle.std.specs.List.Sorted.{IsNonDecreasingBy}
use Rattle.std.proofs.lemmas.Slice.Eq.{bytes_eq-Decides}
use Rattle.std.proofs.lemmas.List.{append_assoc, map-append}
use Rattle.std.proofs.lemmas.List.Sums.{sum_by-cons}
use Rattle.std.proofs.lemmas.List.Sorted.{sum_by-IsPermutation, IsPermutation-sym, IsPermutation-trans}
use Rattle.imap_modseq.specs.Merge.{AreInOrder}
use Rattle.imap_modseq.specs.Numbers.{max_events}
use Rattle.imap_user_map.specs.Rows as table
use Rattle.imap_user_map.specs.Rows.{Users}
use Rattle.imap_mailbox.specs.declared.kept_change.KeptChange.{KeptChange}
use Rattle.imap_mailbox.specs.declared.parts.PartsError.{PartsError}
use Rattle.imap_mailbox.specs.declared.parts.PartsError.TheVariants.{Bad, Memory}
use Rattle.imap_mailbox.specs.Held.{lists}
use Rattle.imap_mailbox.specs.KeptRows.{MayStand, AreKept}
use Rattle.imap_mailbox.specs.Own.{Own, own_at, filled, found_in, with_kept}
use Rattle.imap_mailbox.specs.Owned.{Owned}
use Rattle.imap_mailbox.specs.Parts.{AreInPlace}
use Rattle.imap_mailbox.specs.Restored.{Appends, AppendsAll, FitAll, MayFollow, RestoresOwn}
use Rattle.imap_mailbox.specs.Rows.{WasGiven}
use Rattle.imap_mailbox.specs.Summary.{Fits, Rises, count_of}
use Rattle.imap_mailbox.specs.UserChange.{UserChange, of_user, row_of, rows_of_user}
use Rattle.imap_mailbox.proofs.Changes.{fits_put, len_put}
use Rattle.imap_mailbox.proofs.Counts.{one, count_more}
use Rattle.imap_mailbox.proofs.Following.{end_of, front_kept, found_push, length-filled}
use Rattle.imap_mailbox.proofs.Merged.{own_at-put, own_at-apart}
use Rattle.imap_mailbox.proofs.Reordered.{Has, has_moved, ordered_by, ordered_kept, once_risen, rises_ordered, same_rising, within_risen}
use Rattle.imap_mailbox.proofs.Short.{has_overtaken, none_found}

-- ---- one row more

-- the number of shared events before the last row, or `low`
abbrev last_of : (low : ℕ) → List KeptChange → ℕ
last_of low [] = low
last_of low (k ∷ kept) = last_of k.before kept

last_rises : (kept : List KeptChange) (done low high : ℕ) → AreKept done low high kept → low ≤ last_of low kept
last_rises [] done low high h = omega arith
last_rises (k ∷ kept) done low high h = let after = h.0.after in omega (arith, after, last_rises kept (k.place + 1) k.before high h.1)

kept_join : (kept : List KeptChange) (k : KeptChange) (done low high : ℕ) → AreKept done low high kept → MayStand (end_of done kept) (last_of low kept) high k → AreKept done low high (kept ++ k ∷ [])
kept_join [] k done low high h may = (may, tt)
kept_join (r ∷ kept) k done low high h may = (h.0, kept_join kept k (r.place + 1) r.before high h.1 may)

kept_last : (kept : List KeptChange) (k : KeptChange) (done low high : ℕ) → AreKept done low high (kept ++ k ∷ []) → MayStand (end_of done kept) (last_of low kept) high k
kept_last [] k done low high h = h.0
kept_last (r ∷ kept) k done low high h = kept_last kept k (r.place + 1) r.before high h.1

-- ---- the order of what is found

lower : (from low high : ℕ) (bs : List ℕ) → from ≤ low → AreInOrder low high bs → AreInOrder from high bs
lower from low high [] le h = tt
lower from low high (b ∷ bs) le h = let first : low ≤ b = h.0 in (omega (arith, first, le), h.1, h.2)

joined : (n b from high : ℕ) (bs : List ℕ) → from ≤ b → b ≤ high → AreInOrder b high bs → AreInOrder from high (replicate n b ++ bs)
joined zero b from high bs le most h = lower from b high bs le h
joined (suc n) b from high bs le most h = (le, most, joined n b b high bs (omega arith) most h)

parted : (n b from high : ℕ) (bs : List ℕ) → 0 < n → AreInOrder from high (replicate n b ++ bs) → (b ≤ high) × AreInOrder b high bs
parted zero b from high bs some h = absurd (omega (arith, some))
parted (suc zero) b from high bs some h = (h.1, h.2)
parted (suc (suc n)) b from high bs some h = parted (suc n) b b high bs (omega arith) h.2

in_order : (kept : List KeptChange) (done low high b : ℕ) → AreKept done low high kept → last_of low kept ≤ b → AreInOrder low b (filled done kept)
in_order [] done low high b h le = tt
in_order (k ∷ kept) done low high b h le =
    joined (k.place + 1 - done) k.before low b (filled (k.place + 1) kept) h.0.after
    (let up = last_rises kept (k.place + 1) k.before high h.1 in omega (arith, up, le))
    (in_order kept (k.place + 1) k.before high b h.1 le)

last_in : (kept : List KeptChange) (done low high b from : ℕ) → AreKept done low high kept → low ≤ b → AreInOrder from b (filled done kept) → last_of low kept ≤ b
last_in [] done low high b from h le order = le
last_in (k ∷ kept) done low high b from h le order =
    let place = h.0.place in
    let parts = parted (k.place + 1 - done) k.before from b (filled (k.place + 1) kept) (omega (arith, place)) order in
    last_in kept (k.place + 1) k.before high b k.before h.1 parts.0 parts.1

-- ---- whether a change may follow

ends_at : (kept : List KeptChange) (shared : ℕ) → AreKept 0 0 shared kept → length (filled 0 kept) ≡ end_of 0 kept
ends_at kept shared h = omega (arith, length-filled kept 0 0 shared h)

follows : (kept : List KeptChange) (next shared : ℕ) (c : UserChange) → AreKept 0 0 shared kept → MayFollow next shared (found_in kept) c → AreKept 0 0 shared (kept ++ row_of c ∷ [])
follows kept next shared c h may = kept_join kept (row_of c) 0 0 shared h (record {
  place = let place = may.place in omega (arith, place, ends_at kept shared h);
  few = may.few;
  after = last_in kept 0 0 shared c.change.before 0 h (omega arith) may.order;
  within = may.within;
})

may_follow : (kept : List KeptChange) (next shared : ℕ) (c : UserChange) → AreKept 0 0 shared (kept ++ row_of c ∷ []) → WasGiven next c.change.uid → MayFollow next shared (found_in kept) c
may_follow kept next shared c h given =
    let front = front_kept kept (row_of c) 0 0 shared h in
    let last = kept_last kept (row_of c) 0 0 shared h in
    record {
      place = let place = last.place in omega (arith, place, ends_at kept shared front);
      few = last.few;
      order = in_order kept 0 0 shared c.change.before front last.after;
      within = last.within;
      given = given;
    }

-- as the code tests it
pub next_is : (own list : Own) (c : UserChange) (next shared len before : ℕ) (t : Bool) → own ≡ list → len ≡ length list.befores → before ≡ c.change.before → AreInOrder 0 before list.befores
    → (IsTrue t ↔ ((len ≤ c.place) × (c.place < max_events) × (c.change.before ≤ shared) × WasGiven next c.change.uid)) → IsTrue t ↔ MayFollow next shared own c
next_is own list c next shared len before t same count at order tested = subst (λ o. IsTrue t ↔ MayFollow next shared o c) (sym same) (
  λ is.
      let all = tested.0 is in
      record { place = let place = all.0 in omega (arith, place, count); few = all.1; order = subst (λ b. AreInOrder 0 b list.befores) at order; within = all.2; given = all.3 },
  λ may. tested.1 (let place = may.place in omega (arith, place, count), may.few, may.within, may.given),
)

pub not_next : (own list : Own) (c : UserChange) (next shared before : ℕ) (t : Bool) → own ≡ list → before ≡ c.change.before → t ≡ false → (IsTrue t ↔ AreInOrder 0 before list.befores)
    → IsTrue t ↔ MayFollow next shared own c
not_next own list c next shared before t same at is_false tested = subst (λ o. IsTrue t ↔ MayFollow next shared o c) (sym same) (
  λ is. let z : true ≡ false = sym is ∙ is_false in absurd (cc z),
  λ may. tested.1 (subst (λ b. AreInOrder 0 b list.befores) (sym at) may.order),
)

-- ---- the rows of a user

of_append : (user : List ℕ) (xs ys : List UserChange) → of_user user (xs ++ ys) ≡ of_user user xs ++ of_user user ys
of_append user [] ys = refl
of_append user (x ∷ xs) ys = by (bytes_eq x.user user) (of_append user xs ys)
  where
    by : (b : Bool) → of_user user (xs ++ ys) ≡ of_user user xs ++ of_user user ys
        → cond b (x ∷ of_user user (xs ++ ys)) (of_user user (xs ++ ys)) ≡ cond b (x ∷ of_user user xs) (of_user user xs) ++ of_user user ys
    by true h = ap (λ l. x ∷ l) h
    by false h = h

rows_append : (user : List ℕ) (xs ys : List UserChange) → rows_of_user user (xs ++ ys) ≡ rows_of_user user xs ++ rows_of_user user ys
rows_append user xs ys = ap (map row_of) (of_append user xs ys) ∙ map-append row_of (of_user user xs) (of_user user ys)

rows_here : (user : List ℕ) (c : UserChange) (rest : List UserChange) → bytes_eq c.user user ≡ true → rows_of_user user (c ∷ rest) ≡ row_of c ∷ rows_of_user user rest
rows_here user c rest t = ap (λ b. map row_of (cond b (c ∷ of_user user rest) (of_user user rest))) t

rows_apart : (user : List ℕ) (c : UserChange) (rest : List UserChange) → bytes_eq c.user user ≡ false → rows_of_user user (c ∷ rest) ≡ rows_of_user user rest
rows_apart user c rest t = ap (λ b. map row_of (cond b (c ∷ of_user user rest) (of_user user rest))) t

append_none : (kept : List KeptChange) → kept ++ [] ≡ kept
append_none [] = refl
append_none (k ∷ kept) = ap (λ l. k ∷ l) (append_none kept)

-- ---- a change that is appended

-- what the rows of one user say
abbrev IsPlaced : (shared : ℕ) → List KeptChange → Own → Type 0
IsPlaced shared kept own = AreKept 0 0 shared kept × (found_in kept ≡ own)

module _ (next shared : ℕ) (done : List UserChange) (c : UserChange) (old new : Users Own) (may : MayFollow next shared (own_at old c.user) c) (made : new ≡ fin.insert old c.user (with_kept (row_of c) (own_at old c.user))) where
  own_same : (user : List ℕ) → c.user ≡ user → own_at new user ≡ with_kept (row_of c) (own_at old user)
  own_same user is = subst (λ u. own_at new u ≡ with_kept (row_of c) (own_at old u)) is (ap (λ o. own_at o c.user) made ∙ own_at-put old c.user (with_kept (row_of c) (own_at old c.user)))

  own_kept : (user : List ℕ) → bytes_eq c.user user ≡ false → own_at new user ≡ own_at old user
  own_kept user apart = ap (λ o. own_at o user) made
      ∙ own_at-apart old user c.user (with_kept (row_of c) (own_at old c.user)) (λ e. let z : true ≡ false = sym ((bytes_eq-Decides c.user user).1 (sym e)) ∙ apart in cc z)

  pub appended : AreInPlace shared done old → AreInPlace shared (done ++ c ∷ []) new
  appended placed user = subst (λ l. IsPlaced shared l (own_at new user)) (sym (rows_append user done (c ∷ []))) (by (bytes_eq c.user user) refl)
    where
      rows : List KeptChange
      rows = rows_of_user user done

      by : (b : Bool) → bytes_eq c.user user ≡ b → IsPlaced shared (rows ++ rows_of_user user (c ∷ [])) (own_at new user)
      by true t =
          let is = (bytes_eq-Decides c.user user).0 t in
          let here : MayFollow next shared (found_in rows) c =
          subst (λ o. MayFollow next shared o c) (sym (placed user).1) (subst (λ u. MayFollow next shared (own_at old u) c) is may) in
          let kept = follows rows next shared c (placed user).0 here in
          subst (λ l. IsPlaced shared (rows ++ l) (own_at new user)) (sym (rows_here user c [] t))
          (kept, found_push rows (row_of c) shared kept ∙ ap (with_kept (row_of c)) (placed user).1 ∙ sym (own_same user is))
      by false t =
          subst (λ l. IsPlaced shared (rows ++ l) (own_at new user)) (sym (rows_apart user c [] t))
          (subst (λ l. IsPlaced shared l (own_at new user)) (sym (append_none rows)) ((placed user).0, (placed user).1 ∙ sym (own_kept user t)))

  pub fit_all : FitAll next shared old → FitAll next shared new
  fit_all h user = by (bytes_eq c.user user) refl
    where
      by : (b : Bool) → bytes_eq c.user user ≡ b → Fits shared next (own_at new user) × (length (own_at new user).befores ≤ max_events)
      by true t =
          let is = (bytes_eq-Decides c.user user).0 t in
          let len = len_put (row_of c) (own_at old c.user) may.place in
          let few = may.few in
          subst (λ u. Fits shared next (own_at new u) × (length (own_at new u).befores ≤ max_events)) is
          (subst (λ (o : Own). Fits shared next o × (length o.befores ≤ max_events)) (sym (own_same c.user refl))
          (fits_put shared next (row_of c) (own_at old c.user) may.place may.order may.within may.given (h c.user).0, omega (arith, len, few)))
      by false t = subst (λ (o : Own). Fits shared next o × (length o.befores ≤ max_events)) (sym (own_kept user t)) (h user)

-- ---- a change that may not follow is in no own changes

front_all : (kept later : List KeptChange) (done low high : ℕ) → AreKept done low high (kept ++ later) → AreKept done low high kept
front_all [] later done low high h = tt
front_all (k ∷ kept) later done low high h = (h.0, front_all kept later (k.place + 1) k.before high h.1)

-- the UID of a row was given
given_there : (next shared : ℕ) (front back : List KeptChange) (k : KeptChange) → Fits shared next (found_in (front ++ k ∷ back)) → WasGiven next k.uid
given_there next shared front back k fits = by (get (found_in (front ++ k ∷ back)).latest k.uid) refl
  where
    by : (o : Option KeptChange) → get (found_in (front ++ k ∷ back)).latest k.uid ≡ o → WasGiven next k.uid
    by None e = let z : true ≡ false = sym (has_overtaken front back k k.uid refl) ∙ none_found (front ++ k ∷ back) fin.empty k.uid e in absurd (cc z)
    by (Some x) e = (fits.known k.uid x e).0

misfit : (next shared : ℕ) (done rest : List UserChange) (c : UserChange) (so_far own : Users Own) → AreInPlace shared done so_far
    → (MayFollow next shared (own_at so_far c.user) c → ⊥) → AreInPlace shared (done ++ c ∷ rest) own → FitAll next shared own → ⊥
misfit next shared done rest c so_far own before not placed fit =
    let rows = rows_of_user c.user done in
    let later = rows_of_user c.user rest in
    let whole : rows_of_user c.user (done ++ c ∷ rest) ≡ rows ++ row_of c ∷ later =
    rows_append c.user done (c ∷ rest) ∙ ap (λ l. rows ++ l) (rows_here c.user c rest ((bytes_eq-Decides c.user c.user).1 refl)) in
    let all = subst (λ l. IsPlaced shared l (own_at own c.user)) whole (placed c.user) in
    let given = given_there next shared rows later (row_of c) (subst (Fits shared next) (sym all.1) (fit c.user).0) in
    let kept = front_all (rows ++ row_of c ∷ []) later 0 0 shared (subst (AreKept 0 0 shared) (sym (append_assoc rows (row_of c ∷ []) later)) all.0) in
    not (subst (λ o. MayFollow next shared o c) (before c.user).1 (may_follow rows next shared c kept given))

-- ---- the order of places is the order of each user's own changes

-- how often a user has a change at the place
abbrev there : List ℕ → ℕ → UserChange → ℕ
there user m c = cond (bytes_eq c.user user) (one c.place m) 0

abbrev places : List ℕ → List UserChange → List ℕ
places user changes = map (λ (c : UserChange). c.place) (of_user user changes)

count_there : (user : List ℕ) (m : ℕ) (changes : List UserChange) → count_of m (places user changes) ≡ sum_by (there user m) changes
count_there user m [] = refl
count_there user m (c ∷ changes) = by (bytes_eq c.user user) refl (count_there user m changes)
  where
    by : (b : Bool) → bytes_eq c.user user ≡ b → count_of m (places user changes) ≡ sum_by (there user m) changes
        → count_of m (map (λ (c : UserChange). c.place) (cond b (c ∷ of_user user changes) (of_user user changes))) ≡ sum_by (there user m) (c ∷ changes)
    by true t h =
        let here : there user m c ≡ one c.place m = ap (λ b. cond b (one c.place m) 0) t in
        omega (arith, h, here, sum_by-cons (there user m) c changes, count_more m c.place (places user changes))
    by false t h =
        let here : there user m c ≡ 0 = ap (λ b. cond b (one c.place m) 0) t in
        omega (arith, h, here, sum_by-cons (there user m) c changes)

pub has_kept : (user : List ℕ) (changes : List UserChange) (x : UserChange) → Has (of_user user changes) x → Has changes x × (bytes_eq x.user user ≡ true)
has_kept user [] x h = absurd h
has_kept user (c ∷ changes) x h = by (bytes_eq c.user user) refl (has_kept user changes x) h
  where
    by : (b : Bool) → bytes_eq c.user user ≡ b → (Has (of_user user changes) x → Has changes x × (bytes_eq x.user user ≡ true))
        → Has (cond b (c ∷ of_user user changes) (of_user user changes)) x → Has (c ∷ changes) x × (bytes_eq x.user user ≡ true)
    by true t later (inl e) = (inl e, subst (λ (y : UserChange). bytes_eq y.user user ≡ true) e t)
    by true t later (inr h) = let rest = later h in (inr rest.0, rest.1)
    by false t later h = let rest = later h in (inr rest.0, rest.1)

pub has_of : (user : List ℕ) (changes : List UserChange) (x : UserChange) → Has changes x → bytes_eq x.user user ≡ true → Has (of_user user changes) x
has_of user [] x h t = absurd h
has_of user (c ∷ changes) x (inl e) t = subst (λ b. Has (cond b (c ∷ of_user user changes) (of_user user changes)) x) (sym (subst (λ (y : UserChange). bytes_eq y.user user ≡ true) (sym e) t)) (inl e)
has_of user (c ∷ changes) x (inr h) t = by (bytes_eq c.user user) (has_of user changes x h t)
  where
    by : (b : Bool) → Has (of_user user changes) x → Has (cond b (c ∷ of_user user changes) (of_user user changes)) x
    by true h = inr h
    by false h = h

-- the places of rows rise
kept_rises : (kept : List KeptChange) (done low high : ℕ) → AreKept done low high kept → Rises done (end_of done kept) (map (λ (k : KeptChange). k.place) kept)
kept_rises [] done low high h = omega arith
kept_rises (k ∷ kept) done low high h = (h.0.place, kept_rises kept (k.place + 1) k.before high h.1)

same_places : (changes : List UserChange) → map (λ (k : KeptChange). k.place) (map row_of changes) ≡ map (λ (c : UserChange). c.place) changes
same_places [] = refl
same_places (c ∷ changes) = ap (λ l. c.place ∷ l) (same_places changes)

pub places_rise : (user : List ℕ) (shared : ℕ) (changes : List UserChange) → AreKept 0 0 shared (rows_of_user user changes)
    → Rises 0 (end_of 0 (rows_of_user user changes)) (map (λ (c : UserChange). c.place) (of_user user changes))
places_rise user shared changes h =
    subst (Rises 0 (end_of 0 (rows_of_user user changes))) (same_places (of_user user changes)) (kept_rises (rows_of_user user changes) 0 0 shared h)

-- in the order of places, the changes of a user are those of any list of the same changes in which they are in place
in_place : (shared : ℕ) (changes ordered other : List UserChange) (own : Users Own) → IsPermutation changes ordered → IsNonDecreasingBy (λ c. c.place) ordered
    → IsPermutation changes other → AreInPlace shared other own → AreInPlace shared ordered own
in_place shared changes ordered other own moved sorted also placed user = subst (λ l. IsPlaced shared (map row_of l) (own_at own user)) (sym same) (placed user)
  where
    between : IsPermutation ordered other
    between = IsPermutation-trans _ _ _ (IsPermutation-sym _ _ moved) also

    back : IsPermutation other ordered
    back = IsPermutation-sym _ _ between

    end : ℕ
    end = end_of 0 (rows_of_user user other)

    rising : Rises 0 end (places user other)
    rising = places_rise user shared other (placed user).0

    counted : (m : ℕ) → count_of m (places user ordered) ≡ count_of m (places user other)
    counted m = count_there user m ordered ∙ sum_by-IsPermutation (there user m) other ordered back ∙ sym (count_there user m other)

    rises : Rises 0 end (places user ordered)
    rises =
        rises_ordered 0 end 0 (places user ordered) (omega arith)
        (ordered_kept (λ (c : UserChange). c.place) (λ c. bytes_eq c.user user) 0 ordered (ordered_by (λ (c : UserChange). c.place) ordered sorted))
        (λ m. omega (arith, counted m, once_risen 0 end (places user other) rising m))
        (λ m lt. within_risen 0 end (places user other) rising m (omega (arith, counted m, lt)))

    same : of_user user ordered ≡ of_user user other
    same =
        same_rising (λ (c : UserChange). c.place) 0 end 0 end (of_user user ordered) (of_user user other) rises rising
        (λ x h. let at = has_kept user ordered x h in has_of user other x (has_moved ordered other between x at.0) at.1)
        (λ x h. let at = has_kept user other x h in has_of user ordered x (has_moved other ordered back x at.0) at.1)

-- ---- refusals

pub refused : (next shared : ℕ) (changes done rest : List UserChange) (c : UserChange) (old new all : table.Rows Owned) (error : PartsError)
    → changes ≡ done ++ c ∷ rest → AreInPlace shared done (lists old) → Appends next shared c old new (Err error) → AppendsAll next shared changes all (Err error)
refused next shared changes done rest c old new all Bad parts before h = λ own placed fit.
    misfit next shared done rest c (lists old) own before h (subst (λ l. AreInPlace shared l own) parts placed) fit
refused next shared changes done rest c old new all Memory parts before h = tt

pub none_own : (next shared : ℕ) (changes ordered : List UserChange) (new : table.Rows Owned) (error : PartsError)
    → IsPermutation changes ordered → IsNonDecreasingBy (λ c. c.place) ordered
    → AppendsAll next shared ordered new (Err error) → RestoresOwn next shared changes (Err error)
none_own next shared changes ordered new Bad moved sorted h = λ own also fit. h own (in_place shared changes ordered also.0 own moved sorted also.1 also.2) fit
none_own next shared changes ordered new Memory moved sorted h = tt

-- nothing is read yet
pub none_in_place : (shared : ℕ) (own : Users Own) → ((user : List ℕ) → own_at own user ≡ found_in []) → AreInPlace shared [] own
none_in_place shared own none user = (tt, sym (none user))
