-- Counts of all users, after those of one user were put.
use Rattle.std.proofs.Common.{◌≡◌, ◌∙◌, ℕ, ◌+◌, ◌==◌, ◌&&◌, Bool, true, false, cond, List, [], Option, Some, None, is_some, sym, ap, refl, subst, arith}
use Rattle.std.specs.Option.{option_copied_mut, OnSome}
use Rattle.std.specs.Borrow.{MutBor}
use Rattle.std.specs.Str.{bytes_eq}
use Rattle.std.specs.Cmp.Lexicographic.{nat_list_cmp_total}
use Rattle.std.specs.FinMap as map
use Rattle.std.specs.FinMap.{get-insert}
use Rattle.std.proofs.lemmas.Bool.Decides.{nat_tests}
use Rattle.std.proofs.lemmas.Map.Text.{is_eq-slice_cmp}
use Rattle.std.proofs.lemmas.Slice.Eq.{bytes_eq-Decides}
use Rattle.imap_user_map.specs.Rows.{Rows, with_value}
use Rattle.imap_saving.specs.SessionId.{SessionId}
use Rattle.imap_hall.specs.Counts.{AreSameCounts, Counts, IsCounted, IsCountedAt, OwnCounts, count_at, count_in, count_of}

itself : (user : List ℕ) → bytes_eq user user ≡ true
itself user = (bytes_eq-Decides user user).1 refl

put_own : (counts : Counts) (user other : List ℕ) (own : OwnCounts) → map.get (map.insert counts user own) other ≡ cond (bytes_eq other user) (Some own) (map.get counts other)
put_own counts user other own = get-insert nat_list_cmp_total counts user own other ∙ ap (λ b. cond b (Some own) (map.get counts other)) (is_eq-slice_cmp other user)

put_here : (counts : Counts) (user : List ℕ) (own : OwnCounts) → map.get (map.insert counts user own) user ≡ Some own
put_here counts user own = put_own counts user user own ∙ ap (λ b. cond b (Some own) (map.get counts user)) (itself user)

-- the counts of the user are the same
same_put : (counts : Counts) (user : List ℕ) (own : OwnCounts) → ((number : ℕ) → count_at own number ≡ count_of counts user number) → AreSameCounts counts (map.insert counts user own)
same_put counts user own same other number = ap (λ o. count_in o number) (put_own counts user other own) ∙ by (bytes_eq other user) refl
  where
    by : (b : Bool) → bytes_eq other user ≡ b → count_in (cond b (Some own) (map.get counts other)) number ≡ count_of counts other number
    by true is = same number ∙ ap (λ u. count_of counts u number) (sym ((bytes_eq-Decides other user).0 is))
    by false is = refl

counted_put : (counts : Counts) (who : SessionId) (before own : OwnCounts) → map.get counts who.user ≡ Some before → IsCountedAt who.number before own → IsCounted who counts (map.insert counts who.user own)
counted_put counts who before own there counted = record {
  one = ap (λ o. count_in o who.number) (put_here counts who.user own) ∙ counted.one ∙ ap (λ o. count_in o who.number + 1) (sym there);
  others = others;
}
  where
    others : (user : List ℕ) (number : ℕ) → (bytes_eq who.user user && (who.number == number)) ≡ false → count_of (map.insert counts who.user own) user number ≡ count_of counts user number
    others user number apart = ap (λ o. count_in o number) (put_own counts who.user user own) ∙ by (bytes_eq user who.user) refl
      where
        by : (b : Bool) → bytes_eq user who.user ≡ b → count_in (cond b (Some own) (map.get counts user)) number ≡ count_of counts user number
        by true is =
            let same : user ≡ who.user = (bytes_eq-Decides user who.user).0 is in
            let t : bytes_eq who.user user ≡ true = (bytes_eq-Decides who.user user).1 (sym same) in
            let other : (who.number == number) ≡ false = sym (ap (λ b. b && (who.number == number)) t) ∙ apart in
            counted.others number (grind (arith, nat_tests, other)) ∙ ap (λ o. count_in o number) (sym there) ∙ ap (λ u. count_of counts u number) (sym same)
        by false is = refl

-- ---- a user who had none

none_zero : (o : Option OwnCounts) (number : ℕ) → is_some o ≡ false → 0 ≡ count_in o number
none_zero None number is = refl
none_zero (Some own) number is = absurd (cc)

module _ (old new : Counts) (key text user : List ℕ) (put : new ≡ map.insert old key []) (is : key ≡ text) (same : text ≡ user) where
  pub same_added : is_some (map.get old text) ≡ false → AreSameCounts old new
  same_added none = subst (AreSameCounts old) (sym put) (same_put old key [] (λ number. none_zero (map.get old key) number (ap (λ k. is_some (map.get old k)) is ∙ none)))

  pub user_added : map.contains_key new user ≡ true
  user_added = ap (λ m. map.contains_key m user) put ∙ ap (λ u. map.contains_key (map.insert old key []) u) (sym (is ∙ same)) ∙ ap is_some (put_here old key [])

-- ---- counts that are lent

module _ (old new : Rows OwnCounts) (lent : List ℕ) (found : MutBor OwnCounts) (own : OwnCounts) (r : Option (MutBor OwnCounts)) (is : r ≡ Some found) (value : option_copied_mut r ≡ map.get old.map lent) (lends : OnSome r (new ≡ with_value old lent own)) where
  pub there : map.get old.map lent ≡ Some found.now
  there = sym value ∙ ap option_copied_mut is

  pub put : new.map ≡ map.insert old.map lent own
  put = ap (λ (rows : Rows OwnCounts). rows.map) (subst (λ o. OnSome o (new ≡ with_value old lent own)) is lends)

  pub lent_same : ((number : ℕ) → count_at own number ≡ count_at found.now number) → AreSameCounts old.map new.map
  lent_same same = subst (AreSameCounts old.map) (sym put) (same_put old.map lent own (λ number. same number ∙ sym (ap (λ o. count_in o number) there)))

  pub lent_there : map.get new.map lent ≡ Some own
  lent_there = ap (λ m. map.get m lent) put ∙ put_here old.map lent own

  pub lent_counted : (who : SessionId) → lent ≡ who.user → IsCountedAt who.number found.now own → IsCounted who old.map new.map
  lent_counted who same counted =
      subst (IsCounted who old.map) (sym (put ∙ ap (λ u. map.insert old.map u own) same))
      (counted_put old.map who found.now own (ap (map.get old.map) (sym same) ∙ there) counted)
