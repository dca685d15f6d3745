-- What keeps an index: mailboxes that are added, that go, and that get another list.
use Rattle.std.proofs.Common.{◌≡◌, ℕ, Bool, true, false, cond, not, ◌&&◌, ◌||◌, List, eqb, ◌⊎◌, inl, inr, Option, Some, None, refl, sym, ap, ◌∙◌}
use Rattle.std.specs.Prelude.{is_some}
use Rattle.std.proofs.lemmas.Bool.{eqb-true, eqb-false, eq-eqb}
use Rattle.std.proofs.lemmas.Option.{same_Some, none-some}
use Rattle.imap_names.specs.Name.{Name}
use Rattle.imap_names.proofs.NameLaws.{is_name_at, equal_names, is_name_at-same}
use Rattle.imap_rights.specs.Acl.{AclMap}
use Rattle.imap_identifier_index.specs.Index.{AreFound, AreNumbered, Lists, finds, finds_at, finds_named, with_list}

abbrev pub Named : Type 0
Named = ℕ → Option Name

abbrev pub Sets : Type 0
Sets = List ℕ → ℕ → Bool

pub some_is : {X : Type 0} (o : Option X) (x : X) → o ≡ Some x → is_some o ≡ true
some_is o x e = ap is_some e

not_none : {X : Type 0} (o : Option X) → is_some o ≡ true → o ≡ None → ⊥
not_none o some none = absurd (cc (sym some ∙ ap is_some none))

-- ---- names and numbers

module _ (names : Named) (lists : Lists) (are : AreNumbered names lists) (n : ℕ) (name : Name) where
  -- another number has another name
  pub other_name : names n ≡ Some name → (k : ℕ) (q : Name) → names k ≡ Some q → eqb k n ≡ false → is_name_at q name ≡ false
  other_name here k q there apart = by (is_name_at q name) refl
    where
      by : (b : Bool) → is_name_at q name ≡ b → b ≡ false
      by true e = absurd (eqb-false k n apart (are.alone k n name (there ∙ ap Some (equal_names q name e)) here))
      by false e = refl

  -- another name has another number
  pub other_number : names n ≡ Some name → (k : ℕ) (q : Name) → names k ≡ Some q → is_name_at q name ≡ false → eqb k n ≡ false
  other_number here k q there apart = by (eqb k n) refl
    where
      by : (b : Bool) → eqb k n ≡ b → b ≡ false
      by true e =
          let same : q ≡ name = same_Some q name (sym there ∙ ap names (eqb-true k n e) ∙ here) in
          absurd (cc (sym (is_name_at-same name) ∙ ap (λ x. is_name_at x name) (sym same) ∙ apart))
      by false e = refl

  -- a name without a list has no number
  pub no_name : lists name ≡ None → (k : ℕ) (q : Name) → names k ≡ Some q → is_name_at q name ≡ false
  no_name absent k q there = by (is_name_at q name) refl
    where
      by : (b : Bool) → is_name_at q name ≡ b → b ≡ false
      by true e = absurd (not_none (lists name) (are.there k name (there ∙ ap Some (equal_names q name e))) absent)
      by false e = refl

-- ---- a mailbox is added

and_true : (b : Bool) → ((b && true) || false) ≡ b
and_true true = refl
and_true false = refl

and_false : (b c : Bool) → ((b && false) || c) ≡ c
and_false true c = refl
and_false false c = refl

module _ (names after : Named) (set then_set : Sets) (lists : Lists) (name : Name) (acl : AclMap) (n : ℕ)
    (found : AreFound names set lists) (absent : lists name ≡ None) (free : names n ≡ None)
    (named : (k : ℕ) → after k ≡ cond (eqb k n) (Some name) (names k))
    (entered : (id : List ℕ) (k : ℕ) → then_set id k ≡ ((finds id name acl && eqb k n) || set id k)) where
  here : after n ≡ Some name
  here = named n ∙ ap (λ b. cond b (Some name) (names n)) (eq-eqb n n refl)

  kept : (k : ℕ) (q : Name) → names k ≡ Some q → after k ≡ Some q
  kept k q is = named k ∙ by (eqb k n) refl
    where
      by : (b : Bool) → eqb k n ≡ b → cond b (Some name) (names k) ≡ Some q
      by true e = absurd (none-some q (sym free ∙ ap names (sym (eqb-true k n e)) ∙ is))
      by false e = is

  which : (k : ℕ) (q : Name) → after k ≡ Some q → ((k ≡ n) × (q ≡ name)) ⊎ (names k ≡ Some q)
  which k q is = by (eqb k n) refl
    where
      by : (b : Bool) → eqb k n ≡ b → ((k ≡ n) × (q ≡ name)) ⊎ (names k ≡ Some q)
      by true e = inl (eqb-true k n e, same_Some q name (sym is ∙ named k ∙ ap (λ b. cond b (Some name) (names k)) e))
      by false e = inr (sym (ap (λ b. cond b (Some name) (names k)) e) ∙ sym (named k) ∙ is)

  still : (q : Name) → is_some (lists q) ≡ true → is_some (with_list lists name (Some acl) q) ≡ true
  still q some = by (is_name_at q name)
    where
      by : (b : Bool) → is_some (cond b (Some acl) (lists q)) ≡ true
      by true = refl
      by false = some

  at_name : is_some (with_list lists name (Some acl) name) ≡ true
  at_name = ap (λ b. is_some (cond b (Some acl) (lists name))) (is_name_at-same name)

  numbered : (q : Name) → is_some (with_list lists name (Some acl) q) ≡ true → (k : ℕ) × (after k ≡ Some q)
  numbered q some = by (is_name_at q name) refl some
    where
      by : (b : Bool) → is_name_at q name ≡ b → is_some (cond b (Some acl) (lists q)) ≡ true → (k : ℕ) × (after k ≡ Some q)
      by true e s = (n, here ∙ ap Some (sym (equal_names q name e)))
      by false e s = let (k, is) = found.numbers.numbered q s in (k, kept k q is)

  there : (k : ℕ) (q : Name) → after k ≡ Some q → is_some (with_list lists name (Some acl) q) ≡ true
  there k q is = by (which k q is)
    where
      by : ((k ≡ n) × (q ≡ name)) ⊎ (names k ≡ Some q) → is_some (with_list lists name (Some acl) q) ≡ true
      by (inl e) = ap (λ x. is_some (with_list lists name (Some acl) x)) e.1 ∙ at_name
      by (inr e) = still q (found.numbers.there k q e)

  alone : (a b : ℕ) (q : Name) → after a ≡ Some q → after b ≡ Some q → a ≡ b
  alone a b q ea eb = by (which a q ea) (which b q eb)
    where
      by : ((a ≡ n) × (q ≡ name)) ⊎ (names a ≡ Some q) → ((b ≡ n) × (q ≡ name)) ⊎ (names b ≡ Some q) → a ≡ b
      by (inl e) (inl f) = e.0 ∙ sym f.0
      by (inl e) (inr f) = absurd (not_none (lists name) (ap (λ x. is_some (lists x)) (sym e.1) ∙ found.numbers.there b q f) absent)
      by (inr e) (inl f) = absurd (not_none (lists name) (ap (λ x. is_some (lists x)) (sym f.1) ∙ found.numbers.there a q e) absent)
      by (inr e) (inr f) = found.numbers.alone a b q e f

  not_there : (id : List ℕ) (k : ℕ) → eqb k n ≡ true → set id k ≡ false
  not_there id k e = ap (set id) (eqb-true k n e) ∙ found.entered id n ∙ ap (finds_named id lists) free

  others : (id : List ℕ) (o : Option Name) (k : ℕ) → names k ≡ o → finds_named id lists o ≡ finds_named id (with_list lists name (Some acl)) o
  others id None k is = refl
  others id (Some q) k is = sym (ap (λ b. finds_at id q (cond b (Some acl) (lists q))) (no_name names lists found.numbers n name absent k q is))

  now_entered : (id : List ℕ) (k : ℕ) → then_set id k ≡ finds_named id (with_list lists name (Some acl)) (after k)
  now_entered id k = entered id k ∙ by (eqb k n) refl ∙ ap (finds_named id (with_list lists name (Some acl))) (sym (named k))
    where
      by : (b : Bool) → eqb k n ≡ b
          → ((finds id name acl && b) || set id k) ≡ finds_named id (with_list lists name (Some acl)) (cond b (Some name) (names k))
      by true e =
          ap (λ s. (finds id name acl && true) || s) (not_there id k e) ∙ and_true (finds id name acl)
          ∙ sym (ap (λ b. finds_at id name (cond b (Some acl) (lists name))) (is_name_at-same name))
      by false e = and_false (finds id name acl) (set id k) ∙ found.entered id k ∙ others id (names k) k refl

  pub added : AreFound after then_set (with_list lists name (Some acl))
  added = record {
    numbers = record { numbered = numbered; there = there; alone = alone };
    entered = now_entered;
  }

-- ---- a mailbox goes

taken_here : (b : Bool) → (not (b && true) && b) ≡ false
taken_here true = refl
taken_here false = refl

taken_elsewhere : (b c : Bool) → (not (b && false) && c) ≡ c
taken_elsewhere true c = refl
taken_elsewhere false c = refl

module _ (names after : Named) (set then_set : Sets) (lists : Lists) (name : Name) (acl : AclMap) (n : ℕ)
    (found : AreFound names set lists) (listed : lists name ≡ Some acl) (here : names n ≡ Some name)
    (named : (k : ℕ) → after k ≡ cond (eqb k n) None (names k))
    (entered : (id : List ℕ) (k : ℕ) → then_set id k ≡ (not (finds id name acl && eqb k n) && set id k)) where
  was : (k : ℕ) (q : Name) → after k ≡ Some q → (eqb k n ≡ false) × (names k ≡ Some q)
  was k q is = by (eqb k n) refl
    where
      by : (b : Bool) → eqb k n ≡ b → (b ≡ false) × (names k ≡ Some q)
      by true e = absurd (none-some q (sym (named k ∙ ap (λ b. cond b None (names k)) e) ∙ is))
      by false e = (refl, sym (named k ∙ ap (λ b. cond b None (names k)) e) ∙ is)

  less_numbered : (q : Name) → is_some (with_list lists name None q) ≡ true → (k : ℕ) × (after k ≡ Some q)
  less_numbered q some = by (is_name_at q name) refl some
    where
      by : (b : Bool) → is_name_at q name ≡ b → is_some (cond b None (lists q)) ≡ true → (k : ℕ) × (after k ≡ Some q)
      by true e s = cc
      by false e s =
          let (k, is) = found.numbers.numbered q s in
          (k, named k ∙ ap (λ b. cond b None (names k)) (other_number names lists found.numbers n name here k q is e) ∙ is)

  less_there : (k : ℕ) (q : Name) → after k ≡ Some q → is_some (with_list lists name None q) ≡ true
  less_there k q is =
      let (apart, there) = was k q is in
      ap (λ b. is_some (cond b None (lists q))) (other_name names lists found.numbers n name here k q there apart) ∙ found.numbers.there k q there

  less_others : (id : List ℕ) (o : Option Name) (k : ℕ) → names k ≡ o → eqb k n ≡ false → finds_named id lists o ≡ finds_named id (with_list lists name None) o
  less_others id None k is apart = refl
  less_others id (Some q) k is apart = sym (ap (λ b. finds_at id q (cond b None (lists q))) (other_name names lists found.numbers n name here k q is apart))

  had : (id : List ℕ) (k : ℕ) → eqb k n ≡ true → set id k ≡ finds id name acl
  had id k e = ap (set id) (eqb-true k n e) ∙ found.entered id n ∙ ap (finds_named id lists) here ∙ ap (finds_at id name) listed

  less_entered : (id : List ℕ) (k : ℕ) → then_set id k ≡ finds_named id (with_list lists name None) (after k)
  less_entered id k = entered id k ∙ by (eqb k n) refl ∙ ap (finds_named id (with_list lists name None)) (sym (named k))
    where
      by : (b : Bool) → eqb k n ≡ b
          → (not (finds id name acl && b) && set id k) ≡ finds_named id (with_list lists name None) (cond b None (names k))
      by true e = ap (λ s. not (finds id name acl && true) && s) (had id k e) ∙ taken_here (finds id name acl)
      by false e = taken_elsewhere (finds id name acl) (set id k) ∙ found.entered id k ∙ less_others id (names k) k refl e

  pub taken : AreFound after then_set (with_list lists name None)
  taken = record {
    numbers = record {
      numbered = less_numbered;
      there = less_there;
      alone = λ a b q ea eb. found.numbers.alone a b q (was a q ea).1 (was b q eb).1;
    };
    entered = less_entered;
  }

-- ---- a mailbox gets another list

set_here : (new old : Bool) → ((new && true) || (not (old && true) && old)) ≡ new
set_here true true = refl
set_here true false = refl
set_here false true = refl
set_here false false = refl

set_elsewhere : (new old c : Bool) → ((new && false) || (not (old && false) && c)) ≡ c
set_elsewhere true true c = refl
set_elsewhere true false c = refl
set_elsewhere false true c = refl
set_elsewhere false false c = refl

module _ (names : Named) (set then_set : Sets) (lists : Lists) (name : Name) (old new : AclMap) (n : ℕ)
    (found : AreFound names set lists) (listed : lists name ≡ Some old) (here : names n ≡ Some name)
    (entered : (id : List ℕ) (k : ℕ) → then_set id k ≡ ((finds id name new && eqb k n) || (not (finds id name old && eqb k n) && set id k))) where
  same_numbered : (q : Name) → is_some (with_list lists name (Some new) q) ≡ true → (k : ℕ) × (names k ≡ Some q)
  same_numbered q some = by (is_name_at q name) refl some
    where
      by : (b : Bool) → is_name_at q name ≡ b → is_some (cond b (Some new) (lists q)) ≡ true → (k : ℕ) × (names k ≡ Some q)
      by true e s = (n, here ∙ ap Some (sym (equal_names q name e)))
      by false e s = found.numbers.numbered q s

  same_there : (k : ℕ) (q : Name) → names k ≡ Some q → is_some (with_list lists name (Some new) q) ≡ true
  same_there k q is = by (is_name_at q name)
    where
      by : (b : Bool) → is_some (cond b (Some new) (lists q)) ≡ true
      by true = refl
      by false = found.numbers.there k q is

  same_others : (id : List ℕ) (o : Option Name) (k : ℕ) → names k ≡ o → eqb k n ≡ false → finds_named id lists o ≡ finds_named id (with_list lists name (Some new)) o
  same_others id None k is apart = refl
  same_others id (Some q) k is apart = sym (ap (λ b. finds_at id q (cond b (Some new) (lists q))) (other_name names lists found.numbers n name here k q is apart))

  held : (id : List ℕ) (k : ℕ) → eqb k n ≡ true → set id k ≡ finds id name old
  held id k e = ap (set id) (eqb-true k n e) ∙ found.entered id n ∙ ap (finds_named id lists) here ∙ ap (finds_at id name) listed

  other_entered : (id : List ℕ) (k : ℕ) → then_set id k ≡ finds_named id (with_list lists name (Some new)) (names k)
  other_entered id k = entered id k ∙ by (eqb k n) refl
    where
      by : (b : Bool) → eqb k n ≡ b
          → ((finds id name new && b) || (not (finds id name old && b) && set id k)) ≡ finds_named id (with_list lists name (Some new)) (names k)
      by true e =
          ap (λ s. (finds id name new && true) || (not (finds id name old && true) && s)) (held id k e)
          ∙ set_here (finds id name new) (finds id name old)
          ∙ sym (ap (finds_named id (with_list lists name (Some new))) (ap names (eqb-true k n e) ∙ here) ∙ ap (λ b. finds_at id name (cond b (Some new) (lists name))) (is_name_at-same name))
      by false e =
          set_elsewhere (finds id name new) (finds id name old) (set id k) ∙ found.entered id k ∙ same_others id (names k) k refl e

  pub set_again : AreFound names then_set (with_list lists name (Some new))
  set_again = record {
    numbers = record { numbered = same_numbered; there = same_there; alone = found.numbers.alone };
    entered = other_entered;
  }
