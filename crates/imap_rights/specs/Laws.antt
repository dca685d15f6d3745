-- What holds of the definitions, in words that do not repeat them.
use Rattle.std.specs.Prelude.{◌≡◌, ℕ, ◌^◌, Bool, true, false, List, Some, bytes_eq, not, ◌&&◌, ◌||◌}
use Rattle.std.specs.FinMap as map
use Rattle.std.specs.List.{list_any}
use Rattle.imap_names.specs.UserName.{is_user_name}
use Rattle.imap_rights.specs.Rights.{known, has_any, letters_of, no_rights}
use Rattle.imap_rights.specs.Identifier.{is_identifier, identifier_read}
use Rattle.imap_rights.specs.Change.{rights_read, replacing}
use Rattle.imap_rights.specs.Acl.{AclMap, owner_acl}
use Rattle.imap_rights.specs.Effective.{effective, granted, owner_rights}
use Rattle.imap_rights.specs.Groups.{Members, groups_of, is_member, stands_for, takes_from, with_member}

-- an identifier is read as itself
abbrev pub IdentifiersAreRead : Type 0
IdentifiersAreRead = (text : List ℕ) → is_identifier text ≡ true → identifier_read text ≡ Some text

-- the letters that are printed for rights are read as these rights
abbrev pub LettersAreRead : Type 0
LettersAreRead =
    (rights : ℕ) → known rights ≡ rights → rights_read (letters_of rights) ≡ Some (replacing rights)

-- whether a set has the right with this bit
abbrev pub has_right : ℕ → ℕ → Bool
has_right rights bit = has_any rights (2 ^ bit)

-- whether the entry of some identifier that passes the test has the right
abbrev pub is_in_some : (test : List ℕ → Bool) → AclMap → ℕ → Bool
is_in_some test acl bit = list_any (λ e. test e.0 && has_right e.1 bit) (map.entries acl)

-- a user has just the rights that some entry gives and none takes away (RFC 4314, section 2): of the user, of
-- everyone, or of a group that the user is in; and an owner has l and a besides
abbrev pub RightsAreThoseGiven : Type 0
RightsAreThoseGiven =
    (bit : ℕ) (user owner : List ℕ) (groups : Members) (acl : AclMap)
    → has_right (effective user owner groups acl) bit
    ≡ ((is_in_some (stands_for (groups_of groups user) user) acl bit
    && not (is_in_some (takes_from (groups_of groups user) user) acl bit))
    || (bytes_eq user owner && has_right owner_rights bit))

-- a list by which another user alone has rights gives a user none, whatever groups this one is in
abbrev pub AnothersListGivesNothing : Type 0
AnothersListGivesNothing =
    (groups : Members) (user other : List ℕ)
    → is_user_name other ≡ true → bytes_eq other user ≡ false
    → granted user groups (owner_acl other) ≡ no_rights

-- a user is in just the groups that the user was put into
abbrev pub MembersAreThoseAdded : Type 0
MembersAreThoseAdded =
    (members : Members) (group user other_group other : List ℕ)
    → is_member (with_member members group user) other_group other
    ≡ ((bytes_eq other user && bytes_eq other_group group) || is_member members other_group other)

-- the order in which users are put into groups doesn't matter
abbrev pub OrderOfMembersIsLost : Type 0
OrderOfMembersIsLost =
    (members : Members) (group user other_group other : List ℕ)
    → with_member (with_member members group user) other_group other
    ≡ with_member (with_member members other_group other) group user
