-- Groups of users, and the identifiers that stand for a user (RFC 4314, section 2).
use Rattle.std.specs.Prelude.{◌≡◌, ◌↔◌, ℕ, Bool, true, false, List, [], ◌∷◌, ◌==◌, ◌&&◌, ◌||◌, not, codes, bytes_eq, drop}
use Rattle.std.specs.Prelude.{if◌then◌else◌, nat_eq, unwrap_or}
use Rattle.std.specs.Coded.{Coded}
use base.Stored.{coded_unit}
use Rattle.std.specs.FinMap as map
use Rattle.std.specs.List.{Contains, starts_with}
use Rattle.imap_names.specs.UserName.{is_user_name}
use Rattle.imap_user_map.specs.Finite.{map_values}
use Rattle.imap_user_map.specs.Rows.{Rows, Users, users_code}
use Rattle.imap_rights.specs.Identifier.{minus}
use Rattle.imap_rights.specs.Rights.{no_rights, union}

-- a set of names
abbrev pub Names : Type 0
Names = Users (Unit {0})

-- the groups of each user who is in one
abbrev pub Members : Type 0
Members = Users Names

abbrev pub members_code : Coded Members
members_code = users_code (users_code coded_unit)

-- the same of a table with room for more
abbrev pub members_of : Rows (Rows (Unit {0})) → Members
members_of rows = map_values (λ names. names.map) rows.map

-- the groups of a user
abbrev pub groups_of : Members → (user : List ℕ) → Names
groups_of members user = unwrap_or (map.get members user) map.empty

abbrev pub is_member : Members → (group user : List ℕ) → Bool
is_member members group user = map.contains_key (groups_of members user) group

abbrev pub with_member : Members → (group user : List ℕ) → Members
with_member members group user = map.insert members user (map.insert (groups_of members user) group tt)

-- ---- identifiers

-- what begins an identifier that stands for the members of a group
abbrev pub group_prefix : List ℕ
group_prefix = codes "group:"

-- the identifier that stands for every user
abbrev pub anyone : List ℕ
anyone = codes "anyone"

-- the subject is one of the groups
abbrev pub is_group_in : Names → (subject : List ℕ) → Bool
is_group_in groups subject =
    starts_with nat_eq subject group_prefix && map.contains_key groups (drop 6 subject)

-- the identifiers are those that stand for the members of these groups
abbrev pub AreIdentifiersOf : Names → List (List ℕ) → Type 0
AreIdentifiersOf groups identifiers =
    (subject : List ℕ) → (is_group_in groups subject ≡ true) ↔ Contains identifiers subject

-- the subject is the user, everyone, or a group of the user's
abbrev pub stands_for : Names → (user subject : List ℕ) → Bool
stands_for groups user subject =
    bytes_eq subject user || bytes_eq subject anyone || is_group_in groups subject

-- the identifier has `-` before such a subject
abbrev pub takes_from : Names → (user identifier : List ℕ) → Bool
takes_from groups user [] = false
takes_from groups user (c ∷ subject) = (c == minus) && stands_for groups user subject

-- the subject begins as that of a group, and names none
abbrev pub is_misnamed : (subject : List ℕ) → Bool
is_misnamed subject = starts_with nat_eq subject group_prefix && not (is_user_name (drop 6 subject))

-- ---- entries

-- the rights of an entry that counts
abbrev pub if_counts : Bool → ℕ → ℕ
if_counts counts rights = if counts then rights else no_rights

-- the union of the rights of the entries that count
abbrev pub union_where : (List ℕ → Bool) → List (List ℕ × ℕ) → ℕ
union_where counts [] = no_rights
union_where counts (e ∷ entries) = union (if_counts (counts e.0) e.1) (union_where counts entries)
