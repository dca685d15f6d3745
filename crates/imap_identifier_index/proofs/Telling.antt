-- What an index tells.
use Rattle.std.proofs.Common.{◌≡◌, ℕ, ◌<◌, suc, zero, Bool, true, false, ◌||◌, List, [], ◌∷◌, ◌++◌, length, eqb, ◌⊎◌, inl, inr, Option, Some, None, Result, Ok, Err, OnOk, refl, sym, ap, subst, ◌∙◌, arith}
use Rattle.std.specs.Prelude.{is_some}
use Rattle.std.specs.List.{Contains, cons_option, filter_map}
use Rattle.std.proofs.lemmas.Bool.{eqb-true, eq-eqb}
use Rattle.imap_names.specs.Name.{Name}
use Rattle.imap_rights.specs.Acl.{AclMap}
use Rattle.imap_identifier_index.specs.Index.{AreFound, Lists, PushesNames, finds_at, finds_named}
use Rattle.imap_identifier_index.specs.Sets.{has_number}
use Rattle.imap_identifier_index.proofs.Renaming.{none_held}

holds_first : {X : Type 0} (x : X) (xs : List X) → Contains (x ∷ xs) x
holds_first x xs = (0, omega arith, refl)

holds_later : {X : Type 0} (x : X) (xs : List X) (n : X) → Contains xs n → Contains (x ∷ xs) n
holds_later x xs n c = (suc c.0, (let l : c.0 < length xs = c.1 in omega arith), c.2)

first_or_later : {X : Type 0} (x : X) (xs : List X) (n : X) → Contains (x ∷ xs) n → (x ≡ n) ⊎ Contains xs n
first_or_later x xs n (zero, lt, e) = inl e
first_or_later x xs n (suc k, lt, e) = inr (k, omega arith, e)

or_right : (a : Bool) → (a || true) ≡ true
or_right true = refl
or_right false = refl

-- the names of numbers
module _ (names : ℕ → Option Name) where
  pub from_names : (numbers : List ℕ) (name : Name) → Contains (filter_map names numbers) name → (k : ℕ) × (has_number k numbers ≡ true) × (names k ≡ Some name)
  from_names [] name c = absurd (none_held name c)
  from_names (n ∷ numbers) name c = by (from_names numbers name) (names n) refl c
    where
      later : (k : ℕ) × (has_number k numbers ≡ true) × (names k ≡ Some name) → (k : ℕ) × (has_number k (n ∷ numbers) ≡ true) × (names k ≡ Some name)
      later (k, has, is) = (k, ap (λ b. eqb k n || b) has ∙ or_right (eqb k n), is)

      by : (Contains (filter_map names numbers) name → (k : ℕ) × (has_number k numbers ≡ true) × (names k ≡ Some name))
          → (o : Option Name) → names n ≡ o → Contains (cons_option o (filter_map names numbers)) name → (k : ℕ) × (has_number k (n ∷ numbers) ≡ true) × (names k ≡ Some name)
      by deeper None e d = later (deeper d)
      by deeper (Some q) e d = at (first_or_later q (filter_map names numbers) name d)
        where
          at : (q ≡ name) ⊎ Contains (filter_map names numbers) name → (k : ℕ) × (has_number k (n ∷ numbers) ≡ true) × (names k ≡ Some name)
          at (inl same) = (n, ap (λ b. b || has_number n numbers) (eq-eqb n n refl), e ∙ ap Some same)
          at (inr f) = later (deeper f)

  pub to_names : (numbers : List ℕ) (name : Name) (k : ℕ) → has_number k numbers ≡ true → names k ≡ Some name → Contains (filter_map names numbers) name
  to_names [] name k has is = cc
  to_names (n ∷ numbers) name k has is = by (λ h. to_names numbers name k h is) (eqb k n) refl has
    where
      put_before : (o : Option Name) → Contains (filter_map names numbers) name → Contains (cons_option o (filter_map names numbers)) name
      put_before None c = c
      put_before (Some q) c = holds_later q (filter_map names numbers) name c

      by : (has_number k numbers ≡ true → Contains (filter_map names numbers) name)
          → (b : Bool) → eqb k n ≡ b → (b || has_number k numbers) ≡ true → Contains (cons_option (names n) (filter_map names numbers)) name
      by deeper true e h =
          subst (λ (o : Option Name). Contains (cons_option o (filter_map names numbers)) name) (sym (ap names (sym (eqb-true k n e)) ∙ is)) (holds_first name (filter_map names numbers))
      by deeper false e h = put_before (names n) (deeper h)

-- of an identifier with this set
module _ (names : ℕ → Option Name) (set : List ℕ → ℕ → Bool) (lists : Lists) (id : List ℕ) (found : AreFound names set lists) where
  pub told : (numbers : List ℕ) → ((k : ℕ) → set id k ≡ has_number k numbers) → (old new : List Name) → new ≡ old ++ filter_map names numbers → PushesNames lists id old new
  told numbers same old new appended = record {
    more = filter_map names numbers;
    appended = appended;
    names = λ name. (λ c. forth name (from_names names numbers name c), λ e. back name e);
  }
    where
      forth : (name : Name) → (k : ℕ) × (has_number k numbers ≡ true) × (names k ≡ Some name) → finds_at id name (lists name) ≡ true
      forth name (k, has, is) = ap (finds_named id lists) (sym is) ∙ sym (found.entered id k) ∙ same k ∙ has

      entry_some : (name : Name) (o : Option AclMap) → finds_at id name o ≡ true → is_some o ≡ true
      entry_some name None e = cc
      entry_some name (Some acl) e = refl

      back : (name : Name) → finds_at id name (lists name) ≡ true → Contains (filter_map names numbers) name
      back name e =
          let (k, is) = found.numbers.numbered name (entry_some name (lists name) e) in
          to_names names numbers name k (sym (same k) ∙ found.entered id k ∙ ap (finds_named id lists) is ∙ e) is

  -- of one without a set
  pub told_none : ((k : ℕ) → set id k ≡ false) → (old : List Name) → PushesNames lists id old old
  told_none none old = told [] none old old (sym (append_nil old))
    where
      append_nil : (xs : List Name) → xs ++ [] ≡ xs
      append_nil [] = refl
      append_nil (x ∷ xs) = ap (λ r. x ∷ r) (append_nil xs)

pub on_ok : {T E P Q : Type 0} (r : Result T E) → OnOk r P → (P → Q) → OnOk r Q
on_ok (Ok x) p f = f p
on_ok (Err e) p f = tt
