-- The sets of identifiers, once numbers were entered or taken out.
use Rattle.std.proofs.Common.{◌≡◌, ℕ, ◌+◌, ◌<◌, Bool, true, false, cond, not, ◌&&◌, ◌||◌, List, [], ◌∷◌, ◌++◌, length, get_or, map, filter, take, eqb, Option, Some, None, refl, sym, ap, ◌∙◌}
use Rattle.std.specs.Prelude.{bytes_eq, is_some}
use Rattle.std.specs.List.{list_any}
use Rattle.std.specs.Option.{OnSome}
use Rattle.std.specs.Ordering.{nat_cmp, eq_by_cmp}
use Rattle.std.specs.Cmp.Lexicographic.{slice_cmp, nat_list_cmp_total}
use Rattle.std.proofs.lemmas.Bool.{eqb-true}
use Rattle.std.specs.FinMap as fin
use Rattle.std.specs.FinMap.{contains_key-keys, get-insert}
use Rattle.std.proofs.lemmas.List.{take_more}
use Rattle.std.proofs.lemmas.List.Folds.{list_any-append}
use Rattle.std.proofs.lemmas.Map.Text.{is_eq-slice_cmp}
use Rattle.std.proofs.lemmas.Slice.Eq.{bytes_eq-Decides}
use Rattle.imap_rights.specs.Acl.{AclMap}
use Rattle.imap_rights.specs.Entries.{pairs_of}
use Rattle.imap_rights.specs.declared.acl.Entry.{Entry}
use Rattle.imap_user_map.specs.Rows.{Users}
use Rattle.imap_identifier_index.specs.Sets.{AreSame, IsAdded, IsTaken, has_number, is_in, is_listed, is_numbered}

pub of_some : {X : Type 0} (o : Option X) (x : X) {P : Type 0} → o ≡ Some x → OnSome o P → P
of_some None x e h = absurd (cc)
of_some (Some y) x e h = h

pub none_of : {X : Type 0} (o : Option X) → is_some o ≡ false → o ≡ None
none_of None e = refl
none_of (Some x) e = cc

-- ---- one set

-- a number that is there is no other one
pub once_more : (n : ℕ) (numbers : List ℕ) → has_number n numbers ≡ true → (k : ℕ) → has_number k numbers ≡ (eqb k n || has_number k numbers)
once_more n numbers has k = by (eqb k n) refl
  where
    by : (b : Bool) → eqb k n ≡ b → has_number k numbers ≡ (b || has_number k numbers)
    by true e = ap (λ x. has_number x numbers) (eqb-true k n e) ∙ has
    by false e = refl

pub one_more : (k n : ℕ) (numbers : List ℕ) → has_number k (numbers ++ n ∷ []) ≡ (eqb k n || has_number k numbers)
one_more k n numbers = list_any-append (λ other. eqb k other) numbers (n ∷ []) ∙ by (eqb k n) (has_number k numbers)
  where
    by : (b c : Bool) → (c || (b || false)) ≡ (b || c)
    by true true = refl
    by true false = refl
    by false true = refl
    by false false = refl

module _ (s t : Users (List ℕ)) (u : List ℕ) (numbers : List ℕ) (is : t ≡ fin.insert s u numbers) where
  at : (id : List ℕ) → fin.get t id ≡ cond (bytes_eq id u) (Some numbers) (fin.get s id)
  at id = ap (λ m. fin.get m id) is ∙ get-insert nat_list_cmp_total s u numbers id ∙ ap (λ b. cond b (Some numbers) (fin.get s id)) (is_eq-slice_cmp id u)

  in_after : (id : List ℕ) (k : ℕ) → is_in t id k ≡ cond (bytes_eq id u) (has_number k numbers) (is_in s id k)
  in_after id k = ap (is_numbered k) (at id) ∙ by (bytes_eq id u)
    where
      by : (b : Bool) → is_numbered k (cond b (Some numbers) (fin.get s id)) ≡ cond b (has_number k numbers) (is_in s id k)
      by true = refl
      by false = refl

  had : (o : Option (List ℕ)) → fin.get s u ≡ o → (id : List ℕ) (k : ℕ) → bytes_eq id u ≡ true → is_in s id k ≡ is_numbered k o
  had o there id k e = ap (λ x. is_in s x k) ((bytes_eq-Decides id u).0 e) ∙ ap (is_numbered k) there

  pub put_same : (o : Option (List ℕ)) → fin.get s u ≡ o → ((k : ℕ) → has_number k numbers ≡ is_numbered k o) → AreSame s t
  put_same o there same id k = in_after id k ∙ by (bytes_eq id u) refl
    where
      by : (b : Bool) → bytes_eq id u ≡ b → cond b (has_number k numbers) (is_in s id k) ≡ is_in s id k
      by true e = same k ∙ sym (had o there id k e)
      by false e = refl

  pub put_added : (n : ℕ) (before : List ℕ) → fin.get s u ≡ Some before → ((k : ℕ) → has_number k numbers ≡ (eqb k n || has_number k before))
      → IsAdded (λ other. bytes_eq other u) n s t
  put_added n before there more id k = in_after id k ∙ by (bytes_eq id u) refl
    where
      by : (b : Bool) → bytes_eq id u ≡ b → cond b (has_number k numbers) (is_in s id k) ≡ ((b && eqb k n) || is_in s id k)
      by true e = more k ∙ ap (λ h. eqb k n || h) (sym (had (Some before) there id k e))
      by false e = refl

  pub put_taken : (n : ℕ) (before : List ℕ) → fin.get s u ≡ Some before → ((k : ℕ) → has_number k numbers ≡ (not (eqb k n) && has_number k before))
      → IsTaken (λ other. bytes_eq other u) n s t
  put_taken n before there less id k = in_after id k ∙ by (bytes_eq id u) refl
    where
      by : (b : Bool) → bytes_eq id u ≡ b → cond b (has_number k numbers) (is_in s id k) ≡ (not (b && eqb k n) && is_in s id k)
      by true e = less k ∙ ap (λ h. not (eqb k n) && h) (sym (had (Some before) there id k e))
      by false e = refl

-- an identifier without a set has no number to be taken
pub none_taken : (s : Users (List ℕ)) (u : List ℕ) (n : ℕ) → fin.get s u ≡ None → IsTaken (λ other. bytes_eq other u) n s s
none_taken s u n absent id k = by (bytes_eq id u) refl
  where
    none : bytes_eq id u ≡ true → is_in s id k ≡ false
    none e = ap (λ x. is_in s x k) ((bytes_eq-Decides id u).0 e) ∙ ap (is_numbered k) absent

    and_none : (b : Bool) → (b && false) ≡ false
    and_none true = refl
    and_none false = refl

    by : (b : Bool) → bytes_eq id u ≡ b → is_in s id k ≡ (not (b && eqb k n) && is_in s id k)
    by true e = none e ∙ sym (ap (λ h. not (eqb k n) && h) (none e) ∙ and_none (not (eqb k n)))
    by false e = refl

-- ---- the sets of a list, one after another

listed_more : (id : List ℕ) (entries : List Entry) (i : ℕ) (e : Entry) → i < length entries → e ≡ get_or entries i e
    → is_listed id (take (i + 1) entries) ≡ (bytes_eq id e.identifier || is_listed id (take i entries))
listed_more id entries i e lt is =
    ap (is_listed id) (take_more entries i e lt ∙ ap (λ x. take i entries ++ x ∷ []) (sym is))
    ∙ list_any-append (λ (x : Entry). bytes_eq id x.identifier) (take i entries) (e ∷ []) ∙ by (is_listed id (take i entries)) (bytes_eq id e.identifier)
  where
    by : (b c : Bool) → (b || (c || false)) ≡ (c || b)
    by true true = refl
    by true false = refl
    by false true = refl
    by false false = refl

module _ (n : ℕ) (entries : List Entry) (s t v : Users (List ℕ)) (i : ℕ) (e : Entry) (lt : i < length entries) (is : e ≡ get_or entries i e) where
  pub added_more : IsAdded (λ id. is_listed id (take i entries)) n s t → IsAdded (λ id. bytes_eq id e.identifier) n t v → IsAdded (λ id. is_listed id (take (i + 1) entries)) n s v
  added_more before step id k =
      step id k ∙ ap (λ h. (bytes_eq id e.identifier && eqb k n) || h) (before id k)
      ∙ by (bytes_eq id e.identifier) (is_listed id (take i entries)) (eqb k n) (is_in s id k)
      ∙ ap (λ l. (l && eqb k n) || is_in s id k) (sym (listed_more id entries i e lt is))
    where
      by : (a b c d : Bool) → ((a && c) || ((b && c) || d)) ≡ (((a || b) && c) || d)
      by true b true d = refl
      by true true false d = refl
      by true false false d = refl
      by false b c d = refl

  pub taken_more : IsTaken (λ id. is_listed id (take i entries)) n s t → IsTaken (λ id. bytes_eq id e.identifier) n t v → IsTaken (λ id. is_listed id (take (i + 1) entries)) n s v
  taken_more before step id k =
      step id k ∙ ap (λ h. not (bytes_eq id e.identifier && eqb k n) && h) (before id k)
      ∙ by (bytes_eq id e.identifier) (is_listed id (take i entries)) (eqb k n) (is_in s id k)
      ∙ ap (λ l. not (l && eqb k n) && is_in s id k) (sym (listed_more id entries i e lt is))
    where
      by : (a b c d : Bool) → (not (a && c) && (not (b && c) && d)) ≡ (not ((a || b) && c) && d)
      by true b true d = refl
      by true true false d = refl
      by true false false d = refl
      by false b c d = refl

-- ---- the entries of a list are its keys

keys_of : (id : List ℕ) (entries : List Entry) → is_listed id entries ≡ list_any (eq_by_cmp (slice_cmp nat_cmp) id) (map (λ p. p.0) (pairs_of entries))
keys_of id [] = refl
keys_of id (e ∷ entries) = λ i. sym (is_eq-slice_cmp id e.identifier) i || keys_of id entries i

pub listed_key : (id : List ℕ) (entries : List Entry) (acl : AclMap) → pairs_of entries ≡ fin.entries acl → is_listed id entries ≡ fin.contains_key acl id
listed_key id entries acl is =
    keys_of id entries ∙ ap (λ ps. list_any (eq_by_cmp (slice_cmp nat_cmp) id) (map (λ p. p.0) ps)) is ∙ sym (contains_key-keys acl id)

-- the numbers but one
pub others_left : (k n : ℕ) (numbers : List ℕ) → has_number k (filter (λ x. not (eqb x n)) numbers) ≡ (not (eqb k n) && has_number k numbers)
others_left k n [] = by (eqb k n)
  where
    by : (b : Bool) → false ≡ (not b && false)
    by true = refl
    by false = refl
others_left k n (x ∷ numbers) = by (eqb x n) refl (eqb k x) refl (others_left k n numbers)
  where
    by : (b : Bool) → eqb x n ≡ b → (c : Bool) → eqb k x ≡ c → has_number k (filter (λ x. not (eqb x n)) numbers) ≡ (not (eqb k n) && has_number k numbers)
        → has_number k (cond (not b) (x ∷ filter (λ x. not (eqb x n)) numbers) (filter (λ x. not (eqb x n)) numbers)) ≡ (not (eqb k n) && (eqb k x || has_number k numbers))
    by true e true f rest =
        let same : eqb k n ≡ true = ap (λ z. eqb z n) (eqb-true k x f) ∙ e in
        rest ∙ ap (λ b. not b && has_number k numbers) same ∙ sym (ap (λ b. not b && (eqb k x || has_number k numbers)) same)
    by true e false f rest = rest ∙ ap (λ c. not (eqb k n) && (c || has_number k numbers)) (sym f)
    by false e true f rest =
        let apart : eqb k n ≡ false = ap (λ z. eqb z n) (eqb-true k x f) ∙ e in
        ap (λ c. c || has_number k (filter (λ x. not (eqb x n)) numbers)) f ∙ sym ((λ i. not (apart i) && (f i || has_number k numbers)))
    by false e false f rest =
        ap (λ c. c || has_number k (filter (λ x. not (eqb x n)) numbers)) f ∙ rest ∙ ap (λ c. not (eqb k n) && (c || has_number k numbers)) (sym f)

-- with the root of a tree
pub added_both : (n : ℕ) (entries : List Entry) (root : List ℕ) (s t v : Users (List ℕ)) → IsAdded (λ text. bytes_eq text root) n s t → IsAdded (λ text. is_listed text entries) n t v
    → IsAdded (λ text. is_listed text entries || bytes_eq text root) n s v
added_both n entries root s t v first second text k =
    second text k ∙ ap (λ h. (is_listed text entries && eqb k n) || h) (first text k) ∙ by (is_listed text entries) (bytes_eq text root) (eqb k n) (is_in s text k)
  where
    by : (a b c d : Bool) → ((a && c) || ((b && c) || d)) ≡ (((a || b) && c) || d)
    by true b true d = refl
    by true true false d = refl
    by true false false d = refl
    by false b c d = refl

module _ (n : ℕ) (entries : List Entry) (acl : AclMap) (s t : Users (List ℕ)) (is : pairs_of entries ≡ fin.entries acl) where
  pub taken_keys : IsTaken (λ text. is_listed text entries) n s t → IsTaken (λ text. fin.contains_key acl text) n s t
  taken_keys taken text k = taken text k ∙ ap (λ b. not (b && eqb k n) && is_in s text k) (listed_key text entries acl is)

  pub added_keys : (root : List ℕ) → IsAdded (λ text. is_listed text entries || bytes_eq text root) n s t → IsAdded (λ text. fin.contains_key acl text || bytes_eq text root) n s t
  added_keys root added text k = added text k ∙ ap (λ b. ((b || bytes_eq text root) && eqb k n) || is_in s text k) (listed_key text entries acl is)
