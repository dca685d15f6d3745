-- The rights that a user holds on a mailbox (RFC 4314, section 2).
use Rattle.std.specs.Prelude.{ℕ, List, bytes_eq, if◌then◌else◌, unwrap_or}
use Rattle.std.specs.FinMap as map
use Rattle.imap_rights.specs.Rights.{no_rights, union, less, lookup, administer}
use Rattle.imap_rights.specs.Acl.{AclMap}
use Rattle.imap_rights.specs.Groups.{Members, Names, groups_of, stands_for, takes_from, union_where}

-- the rights of an entry, and no rights if there is no entry
abbrev pub entry : AclMap → List ℕ → ℕ
entry acl identifier = unwrap_or (map.get acl identifier) no_rights

-- what the entries give the user of these groups, less what the negative ones take away
abbrev pub granted_by : Names → (user : List ℕ) → AclMap → ℕ
granted_by groups user acl =
    less (union_where (stands_for groups user) (map.entries acl))
    (union_where (takes_from groups user) (map.entries acl))

abbrev pub granted : (user : List ℕ) → Members → AclMap → ℕ
granted user groups acl = granted_by (groups_of groups user) user acl

-- what an owner always has: to see the mailbox and to change its list
abbrev pub owner_rights : ℕ
owner_rights = union lookup administer

abbrev pub effective : (user owner : List ℕ) → Members → AclMap → ℕ
effective user owner groups acl =
    if bytes_eq user owner then union (granted user groups acl) owner_rights else granted user groups acl
