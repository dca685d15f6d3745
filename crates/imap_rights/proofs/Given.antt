-- Which rights a user has, right by right.
use Rattle.std.proofs.Common.{◌≡◌, ℕ, ◌^◌, List, [], ◌∷◌, Bool, true, false, cond, not, ◌&&◌, ◌||◌, ◌==◌, refl, ap, ◌∙◌}
use Rattle.std.specs.FinMap as map
use Rattle.std.specs.List.{list_any}
use Rattle.std.specs.Int.Bits.{and_zero_l}
use Rattle.std.specs.Str.{bytes_eq}
use Rattle.imap_rights.specs.Rights.{no_rights, union}
use Rattle.imap_rights.specs.Acl.{AclMap}
use Rattle.imap_rights.specs.Effective.{granted, owner_rights}
use Rattle.imap_rights.specs.Groups.{Members, groups_of, if_counts, stands_for, takes_from, union_where}
use Rattle.imap_rights.specs.Laws.{has_right, is_in_some, RightsAreThoseGiven}
use Rattle.imap_rights.proofs.Sets.{has_any-union, has_any-less}

-- no rights have none
none_has : (bit : ℕ) → has_right no_rights bit ≡ false
none_has bit = ap (λ n. not (n == 0)) (and_zero_l (2 ^ bit))

of_one : (b : Bool) (rights bit : ℕ) → has_right (if_counts b rights) bit ≡ (b && has_right rights bit)
of_one true rights bit = refl
of_one false rights bit = none_has bit

of_all : (counts : List ℕ → Bool) (bit : ℕ) (entries : List (List ℕ × ℕ)) → has_right (union_where counts entries) bit ≡ list_any (λ e. counts e.0 && has_right e.1 bit) entries
of_all counts bit [] = none_has bit
of_all counts bit (e ∷ entries) =
    has_any-union (if_counts (counts e.0) e.1) (union_where counts entries) (2 ^ bit)
    ∙ (λ i. of_one (counts e.0) e.1 bit i || of_all counts bit entries i)

granted_is : (bit : ℕ) (user : List ℕ) (groups : Members) (acl : AclMap)
    → has_right (granted user groups acl) bit ≡ (is_in_some (stands_for (groups_of groups user) user) acl bit && not (is_in_some (takes_from (groups_of groups user) user) acl bit))
granted_is bit user groups acl =
    let given = stands_for (groups_of groups user) user in
    let taken = takes_from (groups_of groups user) user in
    has_any-less (union_where given (map.entries acl)) (union_where taken (map.entries acl)) bit
    ∙ (λ i. of_all given bit (map.entries acl) i && not (of_all taken bit (map.entries acl) i))

owners : (b : Bool) (rights bit : ℕ) → has_right (cond b (union rights owner_rights) rights) bit ≡ (has_right rights bit || (b && has_right owner_rights bit))
owners true rights bit = has_any-union rights owner_rights (2 ^ bit)
owners false rights bit = or_false (has_right rights bit)
  where
    or_false : (b : Bool) → b ≡ (b || false)
    or_false true = refl
    or_false false = refl

pub given : RightsAreThoseGiven
given bit user owner groups acl =
    owners (bytes_eq user owner) (granted user groups acl) bit
    ∙ ap (λ b. b || (bytes_eq user owner && has_right owner_rights bit)) (granted_is bit user groups acl)
