-- What the entries of an access control list are after a change, for who reads it by `entry`.
use Rattle.std.proofs.Common.{◌≡◌, ℕ, List, [], Bool, true, false, cond, ◌==◌, Option, Some, None, refl, sym, ap, ◌∙◌}
use Rattle.std.specs.Option.{unwrap_or}
use Rattle.std.specs.Str.{bytes_eq}
use Rattle.std.specs.Ordering.{nat_cmp, eq_by_cmp}
use Rattle.std.specs.Cmp.Lexicographic.{slice_cmp, nat_list_cmp_total}
use Rattle.std.specs.FinMap as map
use Rattle.std.specs.FinMap.{get-empty, get-insert, get-remove}
use Rattle.std.proofs.lemmas.Bool.{eqb-true}
use Rattle.std.proofs.lemmas.Map.Text.{is_eq-slice_cmp}
use Rattle.bitflags.specs.Sets.{known_from, known_bits}
use Rattle.imap_rights.specs.Rights.{no_rights, all_rights, known, flag_names, less, union}
use Rattle.imap_rights.specs.Acl.{AclMap, with_entry, owner_acl}
use Rattle.imap_rights.specs.Effective.{entry, owner_rights, effective}
use Rattle.imap_rights.specs.Groups.{Members, groups_of, stands_for, takes_from, union_where}
use Rattle.imap_rights.proofs.Finite.{entries-map_of, map_of-nil}

chosen : (b : Bool) (o p : Option ℕ) → unwrap_or (cond b o p) no_rights ≡ cond b (unwrap_or o no_rights) (unwrap_or p no_rights)
chosen true o p = refl
chosen false o p = refl

at_key : (q k : List ℕ) (o p : Option ℕ) → unwrap_or (cond (eq_by_cmp (slice_cmp nat_cmp) q k) o p) no_rights ≡ cond (bytes_eq q k) (unwrap_or o no_rights) (unwrap_or p no_rights)
at_key q k o p =
    chosen (eq_by_cmp (slice_cmp nat_cmp) q k) o p ∙ ap (λ t. cond t (unwrap_or o no_rights) (unwrap_or p no_rights)) (is_eq-slice_cmp q k)

pub entry-empty : (q : List ℕ) → entry map.empty q ≡ no_rights
entry-empty q = ap (λ o. unwrap_or o no_rights) (get-empty (slice_cmp nat_cmp) q)

pub entry-insert : (acl : AclMap) (k : List ℕ) (rights : ℕ) (q : List ℕ) → entry (map.insert acl k rights) q ≡ cond (bytes_eq q k) rights (entry acl q)
entry-insert acl k rights q = ap (λ o. unwrap_or o no_rights) (get-insert nat_list_cmp_total acl k rights q) ∙ at_key q k (Some rights) (map.get acl q)

pub entry-remove : (acl : AclMap) (k q : List ℕ) → entry (map.remove acl k) q ≡ cond (bytes_eq q k) no_rights (entry acl q)
entry-remove acl k q = ap (λ o. unwrap_or o no_rights) (get-remove nat_list_cmp_total acl k q) ∙ at_key q k None (map.get acl q)

-- the entry that was set has the rights, and the others are as they were
pub entry-with_entry : (acl : AclMap) (k : List ℕ) (rights : ℕ) (q : List ℕ) → entry (with_entry acl k rights) q ≡ cond (bytes_eq q k) (known rights) (entry acl q)
entry-with_entry acl k rights q = by_test (known rights == no_rights) refl
  where
    by_test : (b : Bool) → (known rights == no_rights) ≡ b → entry (cond b (map.remove acl k) (map.insert acl k (known rights))) q ≡ cond (bytes_eq q k) (known rights) (entry acl q)
    by_test true none = entry-remove acl k q ∙ ap (λ r. cond (bytes_eq q k) r (entry acl q)) (sym (eqb-true (known rights) no_rights none))
    by_test false some = entry-insert acl k (known rights) q

pub entry-owner_acl : (owner q : List ℕ) → entry (owner_acl owner) q ≡ cond (bytes_eq q owner) all_rights no_rights
entry-owner_acl owner q = entry-insert map.empty owner all_rights q ∙ ap (cond (bytes_eq q owner) all_rights) (entry-empty q)

-- without entries the owner has l and a, and nobody else has a right
pub effective-empty : (user owner : List ℕ) (groups : Members) → effective user owner groups map.empty ≡ cond (bytes_eq user owner) owner_rights no_rights
effective-empty user owner groups =
    ap (λ granted. cond (bytes_eq user owner) (union granted owner_rights) granted)
    (λ i. less (union_where (stands_for (groups_of groups user) user) (no_entries i)) (union_where (takes_from (groups_of groups user) user) (no_entries i)))
  where
    no_entries : map.entries (map.empty {X = ℕ} {R = slice_cmp nat_cmp}) ≡ []
    no_entries = ap map.entries (sym map_of-nil) ∙ entries-map_of [] refl

-- the bits that are rights
pub known_bits-flag_names : known_bits flag_names ≡ all_rights
unfolding known_from
known_bits-flag_names = refl
