-- What a list by which one user has rights gives to another one, whatever groups this one is in.
use Rattle.std.proofs.Common.{◌≡◌, ℕ, List, [], ◌∷◌, Bool, false, drop, ◌&&◌, ◌||◌, refl, sym, ap, ◌∙◌}
use Rattle.std.specs.Prelude.{nat_eq}
use Rattle.std.specs.Int.RustNames.{bit_xor}
use Rattle.std.specs.Int.Bits.{and_zero_l, or_zero_r, xor_zero_r}
use Rattle.std.specs.List.{starts_with}
use Rattle.std.specs.Ordering.{nat_cmp}
use Rattle.std.specs.Str.{bytes_eq}
use Rattle.std.specs.Cmp.Lexicographic.{slice_cmp, nat_list_cmp_total}
use Rattle.std.specs.FinMap as map
use Rattle.std.specs.FinMap.{entries-insert, put}
use Rattle.imap_rights.proofs.Finite.{entries-map_of, map_of-nil}
use Rattle.std.proofs.lemmas.Bool.{or_parts}
use Rattle.imap_names.proofs.UserLaws.{user_name_facts}
use Rattle.imap_rights.specs.Laws.{AnothersListGivesNothing}
use Rattle.imap_rights.specs.Acl.{owner_acl}
use Rattle.imap_rights.specs.Effective.{granted}
use Rattle.imap_rights.specs.Groups.{Members, Names, anyone, group_prefix, groups_of, if_counts, is_group_in, stands_for, takes_from, union_where}
use Rattle.imap_rights.specs.Rights.{all_rights, less, no_rights, union}

one_entry : (owner : List ℕ) → map.entries (owner_acl owner) ≡ (owner, all_rights) ∷ []
one_entry owner = entries-insert nat_list_cmp_total map.empty owner all_rights ∙ ap (put (slice_cmp nat_cmp) owner all_rights) (ap map.entries (sym map_of-nil) ∙ entries-map_of [] refl)

neither : (a b c : Bool) → a ≡ false → b ≡ false → c ≡ false → (a || b || c) ≡ false
neither a b c d e f = cc

module _ (groups : Names) (user other : List ℕ) where
  no_group : starts_with nat_eq other group_prefix ≡ false → is_group_in groups other ≡ false
  no_group plain = ap (λ b. b && map.contains_key groups (drop 6 other)) plain

  stands_not : bytes_eq other user ≡ false → bytes_eq other anyone ≡ false → starts_with nat_eq other group_prefix ≡ false → stands_for groups user other ≡ false
  stands_not named someone plain = neither _ _ _ named someone (no_group plain)

-- no right comes of a list that is another user's alone
none_of_anothers : (members : Members) (user other : List ℕ)
    → bytes_eq other user ≡ false → bytes_eq other anyone ≡ false → starts_with nat_eq other group_prefix ≡ false → granted user members (owner_acl other) ≡ no_rights
none_of_anothers members user other named someone plain =
    let groups = groups_of members user in
    let taken = union_where (takes_from groups user) (map.entries (owner_acl other)) in
    let given : union_where (stands_for groups user) (map.entries (owner_acl other)) ≡ no_rights =
    ap (union_where (stands_for groups user)) (one_entry other)
    ∙ ap (λ b. union (if_counts b all_rights) no_rights) (stands_not groups user other named someone plain)
    ∙ or_zero_r no_rights in
    ap (λ n. less n taken) given ∙ ap (bit_xor no_rights) (and_zero_l taken) ∙ xor_zero_r no_rights

pub anothers : AnothersListGivesNothing
anothers groups user other valid named =
    let facts = or_parts _ _ (user_name_facts other valid).user in
    none_of_anothers groups user other named (or_parts _ _ facts.0).0 facts.1
