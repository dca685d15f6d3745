-- An index, once it changed.
use Rattle.std.proofs.Common.{◌≡◌, ℕ, Bool, true, false, not, ◌&&◌, ◌||◌, List, [], eqb, Option, Some, None, refl, sym, ap, subst, ◌∙◌}
use Rattle.std.specs.Prelude.{bytes_eq}
use Rattle.std.specs.Ordering.{nat_cmp}
use Rattle.std.specs.Cmp.Lexicographic.{slice_cmp}
use Rattle.std.specs.FinMap as fin
use Rattle.std.specs.FinMap.{get-empty}
use Rattle.std.proofs.lemmas.Option.{none-some}
use Rattle.imap_names.specs.Name.{Name, root_of}
use Rattle.imap_rights.specs.Acl.{AclMap}
use Rattle.imap_user_map.specs.Rows.{Users}
use Rattle.imap_identifier_index.specs.Index.{AreFound, AreNumbered, Index, IsIndexOf, IsKept, IsRun, Lists, finds, finds_named, moved_lists, with_list}
use Rattle.imap_identifier_index.specs.Names.{IsPut, MayMove, name_at, renamed_at}
use Rattle.imap_identifier_index.specs.Sets.{IsAdded, IsTaken, is_in, is_numbered}
use Rattle.imap_identifier_index.proofs.Keeping.{added, set_again, taken}
use Rattle.imap_identifier_index.proofs.Renaming.{all_moved, may_move}

pub lost : (index : Index) (lists : Lists) → index.is_whole ≡ false → IsIndexOf index lists
lost index lists is whole = absurd (cc (sym whole ∙ is))

pub none : (index : Index) → index.names ≡ [] → index.sets ≡ fin.empty → IsIndexOf index (λ name. None)
none index names sets whole = record {
  numbers = record {
    numbered = λ q e. absurd (cc e);
    there = λ n q e. absurd (unnamed n q e);
    alone = λ a b q e f. absurd (unnamed a q e);
  };
  entered = λ text n. ap (λ (s : Users (List ℕ)). is_in s text n) sets ∙ ap (is_numbered n) (get-empty (slice_cmp nat_cmp) text)
      ∙ sym (ap (λ l. finds_named text (λ name. None) (name_at l n)) names);
}
  where
    unnamed : (n : ℕ) (q : Name) → name_at index.names n ≡ Some q → ⊥
    unnamed n q e = none-some q (sym (ap (λ l. name_at l n) names) ∙ e)

pub kept : (old new : Index) → new.names ≡ old.names → ((text : List ℕ) (k : ℕ) → is_in new.sets text k ≡ is_in old.sets text k) → new.is_whole ≡ old.is_whole → IsKept old new
kept old new names same whole lists is t =
    let found : AreFound (name_at old.names) (is_in old.sets) lists = is (sym whole ∙ t) in
    record {
      numbers = subst (λ (l : List (Option Name)). AreNumbered (name_at l) lists) (sym names) found.numbers;
      entered = λ text k. same text k ∙ found.entered text k ∙ ap (λ (l : List (Option Name)). finds_named text lists (name_at l k)) (sym names);
    }

module _ (old new : Index) (lists : Lists) (name : Name) (n : ℕ) (is : IsIndexOf old lists) where
  -- a mailbox is added
  pub with_one : (acl : AclMap) (between : Index) → between.sets ≡ old.sets → between.is_whole ≡ old.is_whole → IsPut n None (Some name) old.names between.names
      → new.names ≡ between.names → (new.is_whole ≡ true → between.is_whole ≡ true)
      → (new.is_whole ≡ true → IsAdded (λ text. fin.contains_key acl text || bytes_eq text (root_of name)) n between.sets new.sets)
      → lists name ≡ None → IsIndexOf new (with_list lists name (Some acl))
  with_one acl between sets whole put names was entered absent t =
      added (name_at old.names) (name_at new.names) (is_in old.sets) (is_in new.sets) lists name acl n (is (sym whole ∙ was t)) absent put.was
      (λ k. ap (λ (l : List (Option Name)). name_at l k) names ∙ put.is k)
      (λ text k. entered t text k ∙ ap (λ (s : Users (List ℕ)). (finds text name acl && eqb k n) || is_in s text k) sets)

  -- one goes
  pub without_one : (acl : AclMap) (between : Users (List ℕ)) → IsPut n (Some name) None old.names new.names
      → IsTaken (λ text. fin.contains_key acl text) n old.sets between → IsTaken (λ text. bytes_eq text (root_of name)) n between new.sets
      → new.is_whole ≡ old.is_whole → lists name ≡ Some acl → IsIndexOf new (with_list lists name None)
  without_one acl between put first second whole listed t =
      taken (name_at old.names) (name_at new.names) (is_in old.sets) (is_in new.sets) lists name acl n (is (sym whole ∙ t)) listed put.was put.is
      (λ text k. both_taken old.sets between new.sets acl first second text k)
    where
      both_taken : (s t v : Users (List ℕ)) (acl : AclMap) → IsTaken (λ text. fin.contains_key acl text) n s t → IsTaken (λ text. bytes_eq text (root_of name)) n t v
          → (text : List ℕ) (k : ℕ) → is_in v text k ≡ (not (finds text name acl && eqb k n) && is_in s text k)
      both_taken s t v acl first second text k =
          second text k ∙ ap (λ h. not (bytes_eq text (root_of name) && eqb k n) && h) (first text k)
          ∙ by (bytes_eq text (root_of name)) (fin.contains_key acl text) (eqb k n) (is_in s text k)
        where
          by : (a b c d : Bool) → (not (a && c) && (not (b && c) && d)) ≡ (not ((b || a) && c) && d)
          by true true true d = refl
          by true true false d = refl
          by true false true d = refl
          by true false false d = refl
          by false true true d = refl
          by false true false d = refl
          by false false c d = refl

  -- one gets another list
  pub with_other : (acl other : AclMap) (first second : Users (List ℕ)) → name_at old.names n ≡ Some name → new.names ≡ old.names
      → IsTaken (λ text. fin.contains_key acl text) n old.sets first → IsTaken (λ text. bytes_eq text (root_of name)) n first second
      → (new.is_whole ≡ true → old.is_whole ≡ true)
      → (new.is_whole ≡ true → IsAdded (λ text. fin.contains_key other text || bytes_eq text (root_of name)) n second new.sets)
      → lists name ≡ Some acl → IsIndexOf new (with_list lists name (Some other))
  with_other acl other first second here names one two was entered listed t =
      subst (λ (l : List (Option Name)). AreFound (name_at l) (is_in new.sets) (with_list lists name (Some other))) (sym names)
      (set_again (name_at old.names) (is_in old.sets) (is_in new.sets) lists name acl other n (is (was t)) listed here (λ text k.
      entered t text k ∙ ap (λ h. (finds text name other && eqb k n) || h) (two text k ∙ ap (λ h. not (bytes_eq text (root_of name) && eqb k n) && h) (one text k))
      ∙ by (finds text name other && eqb k n) (bytes_eq text (root_of name)) (fin.contains_key acl text) (eqb k n) (is_in old.sets text k)))
    where
      by : (e a b c d : Bool) → (e || (not (a && c) && (not (b && c) && d))) ≡ (e || (not ((b || a) && c) && d))
      by e true true true d = refl
      by e true true false d = refl
      by e true false true d = refl
      by e true false false d = refl
      by e false true true d = refl
      by e false true false d = refl
      by e false false c d = refl

-- mailboxes move
pub with_moved : (before after : Index) (lists : Lists) (old new : Name) (run : List Name) → IsRun lists old new run → IsIndexOf before lists
    → after.sets ≡ before.sets → after.is_whole ≡ before.is_whole
    → (MayMove before.names old new run → (k : ℕ) → name_at after.names k ≡ renamed_at old new (name_at before.names k))
    → IsIndexOf after (moved_lists old new lists)
with_moved before after lists old new run is_run is sets whole named t =
    let found : AreFound (name_at before.names) (is_in before.sets) lists = is (sym whole ∙ t) in
    subst (λ (s : Users (List ℕ)). AreFound (name_at after.names) (is_in s) (moved_lists old new lists)) (sym sets)
    (all_moved (name_at before.names) (name_at after.names) (is_in before.sets) lists old new run is_run found
    (named (may_move before.names (is_in before.sets) lists old new run is_run found)))
