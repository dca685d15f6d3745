-- What a change of a hash table's entries does to the map by the octets of their keys.
use Rattle.std.proofs.Common.{◌≡◌, ℕ, List, [], ◌∷◌, map, Bool, true, false, cond, Option, Some, None, IsSome, Result, Ok, Err, IsOk, OnOk, ◌⊎◌, inl, inr, refl, sym, ap, subst, ◌∙◌}
use mathlib.Core.Logic.{⊎_elim}
use Rattle.std.specs.Ordering.{nat_cmp}
use Rattle.std.specs.Str.{bytes_eq}
use Rattle.std.specs.Cmp.Lexicographic.{slice_cmp, nat_list_cmp_total, nat_list_eq_equiv}
use Rattle.std.specs.FinMap.{find, get, insert, get-from_entries, get-insert, same_map, slice_cmp-IsAntisymmetric, nat_cmp-IsAntisymmetric}
use Rattle.std.specs.Map.{lookup, IsKeyTest, AreApart, KeepsOthers}
use Rattle.std.specs.HashMap.{HashMap, UpdatesBy, IsReordered, WritesThrough, get_by}
use Rattle.std.specs.String.{string_bytes, string_eq}
use Rattle.std.specs.declared.string.String.{String}
use Rattle.std.proofs.lemmas.Bool.{cases_Bool, cond-true, cond-false}
use Rattle.std.proofs.lemmas.Map.Text.{is_eq-slice_cmp}
use Rattle.std.proofs.lemmas.Slice.Eq.{bytes_eq-Decides}
use Rattle.std.specs.List.{All}
use Rattle.std.proofs.lemmas.List.Elements.{All-head, All-tail}
use Rattle.std.specs.Option.{option_copied_mut, option_or, OnSome}
use Rattle.std.specs.Borrow.{MutBor}
use Rattle.imap_user_map.specs.Rows.{Users, by_octets, rows_of, with_value}

-- the test by which the octets q are looked up
abbrev pub is_at : {Z : Type 0} → List ℕ → String Z → Bool
is_at q k = bytes_eq q (string_bytes k)

-- maps that answer alike are one
pub same_answers : {X : Type 0} (m n : Users X) → ((q : List ℕ) → get m q ≡ get n q) → m ≡ n
same_answers m n is = same_map nat_list_cmp_total (slice_cmp-IsAntisymmetric nat_cmp-IsAntisymmetric) m n is

apart : (bs cs ks : List ℕ) → bytes_eq bs cs ≡ false → bytes_eq bs ks ≡ true → bytes_eq cs ks ≡ false
apart bs cs ks n y = nat_list_eq_equiv.symm cs ks ∙ sym (nat_list_eq_equiv.congr bs ks cs y) ∙ n

-- what holds of a value holds, where there is one
pub of_ok : {T E P : Type 0} (r : Result T E) → IsOk r → OnOk r P → P
of_ok (Ok x) is p = p
of_ok (Err e) is p = absurd (cc)

module _ {X Z : Type 0} where
  find_octets : (es : List (String Z × X)) (q : List ℕ) → find (slice_cmp nat_cmp) q (map (λ e. (string_bytes e.0, e.1)) es) ≡ lookup (is_at q) es
  find_octets [] q = refl
  find_octets (e ∷ es) q = ap (λ b. cond b (Some e.1) (find (slice_cmp nat_cmp) q (map (λ e. (string_bytes e.0, e.1)) es))) (is_eq-slice_cmp q (string_bytes e.0)) ∙ ap (cond (bytes_eq q (string_bytes e.0)) (Some e.1)) (find_octets es q)

  -- what the map has at the octets q
  pub get-by_octets : (es : List (String Z × X)) (q : List ℕ) → get (by_octets es) q ≡ lookup (is_at q) es
  get-by_octets es q = get-from_entries nat_list_cmp_total _ q ∙ find_octets es q

  -- a key has the octets q, or they are not found
  key_or_none : (es : List (String Z × X)) (q : List ℕ) → ((k : String Z) × (string_bytes k ≡ q)) ⊎ (lookup (is_at q) es ≡ None)
  key_or_none [] q = inr refl
  key_or_none (e ∷ es) q =
      ⊎_elim
      (λ y. inl (e.0, sym ((bytes_eq-Decides q (string_bytes e.0)).0 y)))
      (λ n. ⊎_elim (λ found. inl found) (λ none. inr (cond-false (bytes_eq q (string_bytes e.0)) (Some e.1) (lookup (is_at q) es) n ∙ none)) (key_or_none es q))
      (cases_Bool (bytes_eq q (string_bytes e.0)))

  other_entries : (eq : String Z → String Z → Bool) (test : String Z → Bool) (old new : List (String Z × X)) → KeepsOthers eq test old new → (other : String Z → Bool) → IsKeyTest eq other → AreApart test other → lookup other new ≡ lookup other old
  unfolding KeepsOthers
  other_entries eq test old new h = h

module _ {X Z S : Type 0} (m n : HashMap (String Z) X S) where
  -- the order of the entries is not seen
  pub reordered : IsReordered string_eq m n → by_octets n.entries ≡ by_octets m.entries
  reordered h = same_answers _ _ (λ q. get-by_octets n.entries q ∙ alike q ∙ sym (get-by_octets m.entries q))
    where
      at_key : (q : List ℕ) → (k : String Z) × (string_bytes k ≡ q) → lookup (is_at q) n.entries ≡ lookup (is_at q) m.entries
      at_key q (k, is) = subst (λ bs. lookup (is_at bs) n.entries ≡ lookup (is_at bs) m.entries) is (h.2 k)

      alike : (q : List ℕ) → lookup (is_at q) n.entries ≡ lookup (is_at q) m.entries
      alike q = ⊎_elim (at_key q) (λ e. ⊎_elim (at_key q) (λ f. e ∙ sym f) (key_or_none m.entries q)) (key_or_none n.entries q)

  -- what is found after a change at the octets bs
  found_after : (bs : List ℕ) (w : Option X) → UpdatesBy string_eq (is_at bs) m n w → (cs : List ℕ) → get (by_octets n.entries) cs ≡ cond (bytes_eq bs cs) w (get (by_octets m.entries) cs)
  found_after bs w h cs =
      ⊎_elim
      (λ y. subst (λ l. get (by_octets n.entries) l ≡ w) ((bytes_eq-Decides bs cs).0 y) (get-by_octets n.entries bs ∙ h.1) ∙ sym (cond-true (bytes_eq bs cs) w (get (by_octets m.entries) cs) y))
      (λ no. get-by_octets n.entries cs ∙ other_entries string_eq (is_at bs) m.entries n.entries h.3 (is_at cs) (λ x y. nat_list_eq_equiv.congr cs (string_bytes x) (string_bytes y)) (λ k. apart bs cs (string_bytes k) no) ∙ sym (get-by_octets m.entries cs) ∙ sym (cond-false (bytes_eq bs cs) w (get (by_octets m.entries) cs) no))
      (cases_Bool (bytes_eq bs cs))

  turned : (bs q : List ℕ) (w : Option X) → cond (bytes_eq bs q) w (get (by_octets m.entries) q) ≡ cond (bytes_eq q bs) w (get (by_octets m.entries) q)
  turned bs q w = ap (λ b. cond b w (get (by_octets m.entries) q)) (nat_list_eq_equiv.symm bs q)

  pub inserted : (bs : List ℕ) (v : X) → UpdatesBy string_eq (is_at bs) m n (Some v) → by_octets n.entries ≡ insert (by_octets m.entries) bs v
  inserted bs v h = same_answers _ _ (λ q. found_after bs (Some v) h q ∙ turned bs q (Some v)
      ∙ ap (λ b. cond b (Some v) (get (by_octets m.entries) q)) (sym (is_eq-slice_cmp q bs))
      ∙ sym (get-insert nat_list_cmp_total (by_octets m.entries) bs v q))

  -- the table after the value behind a `get_mut` ends as w
  pub written : (bs : List ℕ) (w : X) (r : Option (MutBor X)) → option_copied_mut r ≡ get_by (is_at bs) m → WritesThrough string_eq (is_at bs) m w n
      → OnSome r (rows_of n ≡ with_value (rows_of m) bs w)
  written bs w None e h = tt
  written bs w (Some x) e h =
      let found : IsSome (get_by (is_at bs) m) = subst IsSome e refl in
      λ i. record { map = inserted bs w (h.3 found) i; spare = h.6 i }

-- ---- a map that is copied entry by entry

or_none : {X : Type 0} (o : Option X) → option_or o None ≡ o
or_none None = refl
or_none (Some x) = refl

module _ {X Z S : Type 0} (all : HashMap (String Z) X S) where
  -- the entry is what the map has at its key
  abbrev pub IsEntry : String Z × X → Type 0
  IsEntry e = lookup (is_at (string_bytes e.0)) all.entries ≡ Some e.1

  -- what isn't copied yet is found in what is left
  pub record IsCopying (rest : List (String Z × X)) (copy : HashMap (String Z) X S) : Type 0 where
    pub entries : All IsEntry rest
    pub whole : (q : List ℕ) → option_or (get (by_octets copy.entries) q) (lookup (is_at q) rest) ≡ lookup (is_at q) all.entries

  pub copying_all : (copy : HashMap (String Z) X S) → copy.entries ≡ [] → All IsEntry all.entries → IsCopying all.entries copy
  copying_all copy empty each = record {
    entries = each;
    whole = λ q. ap (λ o. option_or o (lookup (is_at q) all.entries)) (ap (λ es. get (by_octets es) q) empty ∙ get-by_octets {Z = Z} [] q);
  }

  module _ (e : String Z × X) (next : List (String Z × X)) (copy new : HashMap (String Z) X S) (puts : UpdatesBy string_eq (is_at (string_bytes e.0)) copy new (Some e.1)) (h : IsCopying (e ∷ next) copy) where
    by_test : (q : List ℕ) (b : Bool) → bytes_eq (string_bytes e.0) q ≡ b → option_or (cond b (Some e.1) (get (by_octets copy.entries) q)) (lookup (is_at q) next) ≡ lookup (is_at q) all.entries
    by_test q true here =
        sym (All-head IsEntry e next h.entries) ∙ ap (λ k. lookup (is_at k) all.entries) ((bytes_eq-Decides (string_bytes e.0) q).0 here)
    by_test q false here =
        ap (λ b. option_or (get (by_octets copy.entries) q) (cond b (Some e.1) (lookup (is_at q) next))) (sym (nat_list_eq_equiv.symm q (string_bytes e.0) ∙ here)) ∙ h.whole q

    copying_more : IsCopying next new
    copying_more = record {
      entries = All-tail IsEntry e next h.entries;
      whole = λ q. ap (λ o. option_or o (lookup (is_at q) next)) (found_after copy new (string_bytes e.0) (Some e.1) puts q) ∙ by_test q (bytes_eq (string_bytes e.0) q) refl;
    }

  -- the same of a copy of the next entry
  pub copying_put : (rest next : List (String Z × X)) (user name : String Z) (value copied : X) (copy new : HashMap (String Z) X S)
      → rest ≡ (user, value) ∷ next → string_bytes name ≡ string_bytes user → copied ≡ value → UpdatesBy string_eq (is_at (string_bytes name)) copy new (Some copied)
      → IsCopying rest copy → IsCopying next new
  copying_put rest next user name value copied copy new here named same puts h =
      copying_more (user, value) next copy new
      (subst (λ v. UpdatesBy string_eq (is_at (string_bytes user)) copy new (Some v)) same (subst (λ bs. UpdatesBy string_eq (is_at bs) copy new (Some copied)) named puts))
      (subst (λ r. IsCopying r copy) here h)

  pub copying_none : (copy : HashMap (String Z) X S) → IsCopying [] copy → by_octets copy.entries ≡ by_octets all.entries
  copying_none copy h = same_answers _ _ (λ q. sym (or_none (get (by_octets copy.entries) q)) ∙ h.whole q ∙ sym (get-by_octets all.entries q))
