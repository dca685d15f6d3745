-- The first row above a mod-sequence, found by the UIDs of last events.
use Rattle.std.proofs.Common.{◌≡◌, ◌⊎◌, inl, inr, ℕ, zero, suc, ◌+◌, ◌-◌, ◌<◌, ◌≤◌, eqb, leb, ltb, Bool, true, false, ◌||◌, ◌&&◌, List, [], ◌∷◌, ◌++◌, length, map, take, get_or, Option, Some, None, IfSome, refl, sym, ap, subst, ◌∙◌, arith}
use Rattle.std.proofs.lemmas.Bool.{cases_lt, eq-eqb, eqb-true, leb-true, le-leb, lt-ltb, ltb-true, ltb-false}
use Rattle.std.proofs.lemmas.List.{get_or-map, length-map, take_more}
use Rattle.std.specs.FinMap.{get-empty}
use Rattle.std.specs.Option.{option_map}
use Rattle.std.specs.Ordering.{nat_cmp}
use Rattle.imap_modseq.proofs.Order.{before_most}
use Rattle.imap_mailbox.specs.Above.{IsFirstAbove}
use Rattle.imap_mailbox.specs.Own.{Own, no_own}
use Rattle.imap_mailbox.specs.Lent.{place_in, row_uids}
use Rattle.imap_mailbox.specs.Looked.{AreAmong, IsFirstOf}
use Rattle.imap_mailbox.specs.Recent.{Recent, AreRecent, IsRecent}
use Rattle.imap_mailbox.specs.Rows.{Row, is_among}
use Rattle.imap_mailbox.specs.Summary.{Rises, AreRising, shown, latest, latest_number, row_in}
use Rattle.imap_mailbox.specs.declared.message.Message.{Message}
use Rattle.imap_mailbox.proofs.Finding.{at_least, number_there, among_nowhere}

-- ---- one UID

strictly : (low high : ℕ) (us : List ℕ) (i j d : ℕ) → Rises low high us → i < j → j < length us → get_or us i d < get_or us j d
strictly low high [] i j d h lt within = absurd (omega arith)
strictly low high (u ∷ us) i zero d h lt within = absurd (omega arith)
strictly low high (u ∷ us) zero (suc j) d h lt within = let rest = at_least (u + 1) high us j d h.1 (omega arith) in omega (arith, rest)
strictly low high (u ∷ us) (suc i) (suc j) d h lt within = strictly (u + 1) high us i j d h.1 (omega arith) (omega arith)

uid_at : (rows : List Row) (i : ℕ) (r : Row) → i < length rows → r ≡ get_or rows i r → get_or (row_uids rows) i 0 ≡ r.uid
uid_at rows i r lt is = get_or-map (λ (x : Row). x.uid) rows i r 0 lt ∙ ap (λ (x : Row). x.uid) (sym is)

pub count : (rows : List Row) → length (row_uids rows) ≡ length rows
count rows = length-map rows (λ (x : Row). x.uid)

-- two places of one UID are one
one_place : (rows : List Row) (i j : ℕ) → AreRising (row_uids rows) → i < length rows → j < length rows → get_or (row_uids rows) i 0 ≡ get_or (row_uids rows) j 0 → i ≡ j
one_place rows i j (low, high, rises) lt within same = by (cases_lt i j) (cases_lt j i)
  where
    by : (i < j) ⊎ (j ≤ i) → (j < i) ⊎ (i ≤ j) → i ≡ j
    by (inl below) other = absurd (omega (arith, strictly low high (row_uids rows) i j 0 rises below (omega (arith, within, count rows)), same))
    by (inr least) (inl below) = absurd (omega (arith, strictly low high (row_uids rows) j i 0 rises below (omega (arith, lt, count rows)), same))
    by (inr least) (inr most) = omega (arith, least, most)

row_there : (rows : List Row) (i : ℕ) → i < length rows → (r : Row) × (r ≡ get_or rows i r)
row_there [] i lt = absurd (omega (arith, lt))
row_there (r ∷ rows) zero lt = (r, refl)
row_there (r ∷ rows) (suc i) lt = row_there rows i (omega (arith, lt))

both : (a b : Bool) → (a && b) ≡ true → (a ≡ true) × (b ≡ true)
both true b e = (refl, e)
both false b e = cc

module _ (uid number start end place : ℕ) (rows : List Row) (rising : AreRising (row_uids rows)) (order : start ≤ end) (within : end ≤ length rows) (there : place_in uid (row_uids rows) ≡ Some place) (inside : place < length rows) where
  at_place : (i : ℕ) (r : Row) → i < length rows → r ≡ get_or rows i r → eqb r.uid uid ≡ true → i ≡ place
  at_place i r lt is named =
      one_place rows i place rising lt inside (uid_at rows i r lt is ∙ eqb-true r.uid uid named ∙ sym (number_there uid (row_uids rows) place 0 there))

  first_at : ((r : Row) → r ≡ get_or rows place r → true ≡ (leb start place && (ltb place end && ltb number r.number))) → (d : Row) → d ≡ get_or rows place d
      → IsFirstOf (λ other. eqb other uid) number start end place rows
  first_at tests d is =
      let one = both (leb start place) (ltb place end && ltb number d.number) (sym (tests d is)) in
      let two = both (ltb place end) (ltb number d.number) one.1 in
      let after : start ≤ place = leb-true start place one.0 in
      let before : place < end = ltb-true place end two.0 in record {
        after = after;
        within = omega (arith, before);
        low = λ i r from to shown named. absurd (omega (arith, at_place i r (omega (arith, to, before, within)) shown named, to));
        above = λ lt r shown.
            let parts = both (leb start place) (ltb place end && ltb number r.number) (sym (tests r shown)) in
            ltb-true number r.number (both (ltb place end) (ltb number r.number) parts.1).1;
      }

  -- it is the first
  pub first_there : ((r : Row) → r ≡ get_or rows place r → true ≡ (leb start place && (ltb place end && ltb number r.number))) → IsFirstOf (λ other. eqb other uid) number start end place rows
  first_there tests = let at = row_there rows place inside in first_at tests at.0 at.1

  -- it isn't
  pub first_not_there : ((r : Row) → r ≡ get_or rows place r → false ≡ (leb start place && (ltb place end && ltb number r.number))) → IsFirstOf (λ other. eqb other uid) number start end end rows
  first_not_there tests = record {
    after = order;
    within = omega (arith);
    low = λ i r from to shown named.
        let same : i ≡ place = at_place i r (omega (arith, to, within)) shown named in
        not_above r (le-leb start place (omega (arith, from, same))) (lt-ltb place end (omega (arith, to, same)))
        (tests r (shown ∙ ap (λ j. get_or rows j r) same));
    above = λ lt. absurd (omega (arith, lt));
  }
    where
      not_above : (r : Row) → leb start place ≡ true → ltb place end ≡ true → false ≡ (leb start place && (ltb place end && ltb number r.number)) → r.number ≤ number
      not_above r from to is = ltb-false number r.number (ap (λ b. b && ltb number r.number) (sym to) ∙ ap (λ b. b && (ltb place end && ltb number r.number)) (sym from) ∙ sym is)

among_at : (uid : ℕ) (us : List ℕ) (i : ℕ) → i < length us → get_or us i 0 ≡ uid → is_among uid us ≡ true
among_at uid [] i lt is = absurd (omega (arith, lt))
among_at uid (u ∷ us) zero lt is = ap (λ b. b || is_among uid us) (eq-eqb u uid is)
among_at uid (u ∷ us) (suc i) lt is = by (eqb u uid) (among_at uid us i (omega (arith, lt)) is)
  where
    by : (b : Bool) → is_among uid us ≡ true → (b || is_among uid us) ≡ true
    by true e = refl
    by false e = e

-- no row has the UID
pub first_absent : (uid number start end : ℕ) (rows : List Row) → start ≤ end → end ≤ length rows → place_in uid (row_uids rows) ≡ None → IsFirstOf (λ other. eqb other uid) number start end end rows
first_absent uid number start end rows order within none = record {
  after = order;
  within = omega (arith);
  low = λ i r from to shown named.
      let lt : i < length rows = omega (arith, to, within) in
      absurd (nowhere i (omega (arith, lt, count rows)) (uid_at rows i r lt shown ∙ eqb-true r.uid uid named));
  above = λ lt. absurd (omega (arith, lt));
}
  where
    nowhere : (i : ℕ) → i < length (row_uids rows) → get_or (row_uids rows) i 0 ≡ uid → ⊥
    nowhere i lt is = let e : true ≡ false = sym (among_at uid (row_uids rows) i lt is) ∙ among_nowhere uid (row_uids rows) none in cc e

-- ---- several UIDs

-- nothing is looked for
pub first_of_none : (number start end : ℕ) (rows : List Row) (test : ℕ → Bool) → start ≤ end → ((uid : ℕ) → test uid ≡ false) → IsFirstOf test number start end end rows
first_of_none number start end rows test order none = record {
  after = order;
  within = omega (arith);
  low = λ i r from to shown named. let e : true ≡ false = sym named ∙ none r.uid in absurd (cc e);
  above = λ lt. absurd (omega (arith, lt));
}

-- the first of some, and then of others before it
pub first_joined : (test other all : ℕ → Bool) (number start end middle place : ℕ) (rows : List Row) → ((uid : ℕ) → all uid ≡ true → (test uid ≡ true) ⊎ (other uid ≡ true))
    → IsFirstOf test number start end middle rows → IsFirstOf other number start middle place rows → IsFirstOf all number start end place rows
first_joined test other all number start end middle place rows either first next = record {
  after = next.after;
  within = omega (arith, first.within, next.within);
  low = λ i r from to shown named. by i r from to shown (either r.uid named);
  above = λ lt r shown. at r shown (cases_lt place middle) lt;
}
  where
    by : (i : ℕ) (r : Row) → start ≤ i → i < place → r ≡ get_or rows i r → (test r.uid ≡ true) ⊎ (other r.uid ≡ true) → r.number ≤ number
    by i r from to shown (inl named) = first.low i r from (omega (arith, to, next.within)) shown named
    by i r from to shown (inr named) = next.low i r from to shown named

    at : (r : Row) → r ≡ get_or rows place r → (place < middle) ⊎ (middle ≤ place) → place < end → number < r.number
    at r shown (inl less) lt = next.above less r shown
    at r shown (inr most) lt =
        let same : place ≡ middle = omega (arith, most, next.within) in
        first.above (omega (arith, lt, same)) r (shown ∙ ap (λ j. get_or rows j r) same)

pub or_parts : (a b : Bool) → (a || b) ≡ true → (a ≡ true) ⊎ (b ≡ true)
or_parts true b e = inl refl
or_parts false b e = inr e

-- one more of a list
pub among_more : (uid new : ℕ) (uids : List ℕ) → is_among uid (uids ++ new ∷ []) ≡ true → (is_among uid uids ≡ true) ⊎ (eqb uid new ≡ true)
among_more uid new [] e = by (eqb new uid) refl e
  where
    by : (b : Bool) → eqb new uid ≡ b → (b || false) ≡ true → (is_among uid [] ≡ true) ⊎ (eqb uid new ≡ true)
    by true is h = inr (eq-eqb uid new (sym (eqb-true new uid is)))
    by false is h = cc
among_more uid new (u ∷ uids) e = by (eqb u uid) (among_more uid new uids) e
  where
    by : (b : Bool) → (is_among uid (uids ++ new ∷ []) ≡ true → (is_among uid uids ≡ true) ⊎ (eqb uid new ≡ true)) → (b || is_among uid (uids ++ new ∷ [])) ≡ true
        → ((b || is_among uid uids) ≡ true) ⊎ (eqb uid new ≡ true)
    by true rest h = inl refl
    by false rest h = rest h

pub first_with_more : (number start end middle place i : ℕ) (rows : List Row) (uids : List ℕ) → i < length uids → IsFirstOf (λ u. is_among u (take i uids)) number start end middle rows
    → IsFirstOf (λ u. eqb u (get_or uids i 0)) number start middle place rows → IsFirstOf (λ u. is_among u (take (i + 1) uids)) number start end place rows
first_with_more number start end middle place i rows uids lt first next =
    first_joined (λ u. is_among u (take i uids)) (λ u. eqb u (get_or uids i 0)) (λ u. is_among u (take (i + 1) uids)) number start end middle place rows
    (λ u e. among_more u (get_or uids i 0) (take i uids) (subst (λ l. is_among u l ≡ true) (take_more uids i 0 lt) e)) first next

-- if all that are above the number are among them, it is the first of all
pub first_of_all : (test : ℕ → Bool) (number start end place : ℕ) (rows : List Row) → end ≤ length rows → AreAmong test number rows → IsFirstOf test number start end place rows → IsFirstAbove number start end place rows
first_of_all test number start end place rows within among first = record {
  after = first.after;
  within = first.within;
  low = λ i r from to shown. by i r from to shown (cases_lt number r.number);
  above = first.above;
}
  where
    by : (i : ℕ) (r : Row) → start ≤ i → i < place → r ≡ get_or rows i r → (number < r.number) ⊎ (r.number ≤ number) → r.number ≤ number
    by i r from to shown (inl above) = first.low i r from to shown (among i r (omega (arith, to, first.within, within)) shown above)
    by i r from to shown (inr most) = most

-- ---- rows above the number have UIDs of last events

pub rows_among : (test : ℕ → Bool) (number : ℕ) (own : Own) (recent : Recent) (messages : List Message) → AreRecent recent messages
    → ((m : Message) → IsRecent recent m → number < (row_in own m).number → test m.uid ≡ true) → AreAmong test number (map (row_in own) messages)
rows_among test number own recent [] were has i r lt shown above = absurd (omega (arith, lt))
rows_among test number own recent (m ∷ messages) were has zero r lt shown above =
    subst (λ (x : Row). test x.uid ≡ true) (sym shown) (has m were.0 (subst (λ (x : Row). number < x.number) shown above))
rows_among test number own recent (m ∷ messages) were has (suc i) r lt shown above = rows_among test number own recent messages were.1 has i r (omega (arith, lt)) shown above

-- its last shared event is above the number, if its last own change isn't
pub shared_late : (number quiet : ℕ) (own : Own) (m : Message) → quiet ≡ number - (1 + length own.befores) → latest_number (latest m.uid own) ≤ number → number < (row_in own m).number → quiet ≤ m.place
shared_late number quiet own m is early above =
    let before = before_most own.befores m.place in
    omega (arith, is, above, early, before)

pub plain_late : (number quiet : ℕ) (m : Message) → quiet ≡ number - 1 → number < (row_in no_own m).number → quiet ≤ m.place
plain_late number quiet m is above = shared_late number quiet no_own m is (let none : latest_number (latest m.uid no_own) ≡ 0 = ap (λ o. latest_number (option_map shown o)) (get-empty nat_cmp m.uid) in omega (arith, none)) above

pub if_some_weaker : {X : Type 0} (o : Option X) (P Q : X → Type 0) → ((x : X) → P x → Q x) → IfSome o P → IfSome o Q
if_some_weaker None P Q f h = tt
if_some_weaker (Some x) P Q f h = f x h

-- ---- the first of all rows

abbrev among_either : (uids others : List ℕ) → ℕ → Bool
among_either uids others uid = is_among uid uids || is_among uid others

module _ (number start end : ℕ) (own : Own) (recent : Recent) (messages : List Message) (within : end ≤ length messages) (noted : AreRecent recent messages) where
  rows_within : end ≤ length (map (row_in own) messages)
  rows_within = omega (arith, within, length-map messages (row_in own))

  -- found by shared events alone
  pub first_by_uids : (uids : List ℕ) (place : ℕ) → ((m : Message) → IsRecent recent m → number < (row_in own m).number → is_among m.uid uids ≡ true)
      → IsFirstOf (λ u. is_among u uids) number start end place (map (row_in own) messages) → IsFirstAbove number start end place (map (row_in own) messages)
  first_by_uids uids place found first =
      first_of_all (λ u. is_among u uids) number start end place (map (row_in own) messages) rows_within (rows_among (λ u. is_among u uids) number own recent messages noted found) first

  -- found by shared events and own changes
  pub first_by_both : (uids others : List ℕ) (middle place : ℕ)
      → ((m : Message) → IsRecent recent m → latest_number (latest m.uid own) ≤ number → number < (row_in own m).number → is_among m.uid uids ≡ true)
      → ((uid : ℕ) → number < latest_number (latest uid own) → is_among uid others ≡ true)
      → IsFirstOf (λ u. is_among u uids) number start end middle (map (row_in own) messages) → IsFirstOf (λ u. is_among u others) number start middle place (map (row_in own) messages)
      → IsFirstAbove number start end place (map (row_in own) messages)
  first_by_both uids others middle place found late first next =
      first_of_all (among_either uids others) number start end place (map (row_in own) messages) rows_within
      (rows_among (among_either uids others) number own recent messages noted (λ m is above. by m is above (cases_lt number (latest_number (latest m.uid own)))))
      (first_joined (λ u. is_among u uids) (λ u. is_among u others) (among_either uids others) number start end middle place (map (row_in own) messages) (λ u e. or_parts (is_among u uids) (is_among u others) e) first next)
    where
      right : (a b : Bool) → b ≡ true → (a || b) ≡ true
      right true b e = refl
      right false b e = e

      by : (m : Message) → IsRecent recent m → number < (row_in own m).number → (number < latest_number (latest m.uid own)) ⊎ (latest_number (latest m.uid own) ≤ number) → among_either uids others m.uid ≡ true
      by m is above (inl is_late) = right (is_among m.uid uids) (is_among m.uid others) (late m.uid is_late)
      by m is above (inr early) = ap (λ b. b || is_among m.uid others) (found m is early above)
