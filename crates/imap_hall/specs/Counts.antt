-- How many entries the journal has of each session.
use Rattle.std.specs.Prelude.{◌≡◌, ℕ, ◌+◌, ◌==◌, ◌&&◌, true, false, List, [], ◌∷◌, bytes_eq}
use Rattle.std.specs.Prelude.{if◌then◌else◌, is_some, Option, Some, None}
use Rattle.std.specs.Coded.{Coded, coded×, coded_ℕ, coded_list}
use Rattle.std.specs.List.{position}
use Rattle.std.specs.FinMap as map
use Rattle.imap_user_map.specs.Rows.{Users, users_code}
use Rattle.imap_saving.specs.SessionId.{SessionId}

-- ---- of one user

-- the numbers of sessions, each with its count
abbrev pub OwnCounts : Type 0
OwnCounts = List (ℕ × ℕ)

abbrev pub own_counts_code : Coded OwnCounts
own_counts_code = coded_list (coded× coded_ℕ coded_ℕ)

abbrev pub count_at : OwnCounts → (number : ℕ) → ℕ
count_at [] number = 0
count_at (e ∷ es) number = if e.0 == number then e.1 else count_at es number

abbrev pub HasNumber : OwnCounts → (number : ℕ) → Type 0
HasNumber counts number = is_some (position (λ e. e.0 == number) counts) ≡ true

-- with one more
abbrev pub raised : ℕ × ℕ → ℕ × ℕ
raised e = (e.0, e.1 + 1)

-- one more of this number
pub record IsCountedAt (number : ℕ) (old new : OwnCounts) : Type 0 where
  pub one : count_at new number ≡ count_at old number + 1
  pub others : (other : ℕ) → (other == number) ≡ false → count_at new other ≡ count_at old other

-- ---- of all users

abbrev pub Counts : Type 0
Counts = Users OwnCounts

abbrev pub counts_code : Coded Counts
counts_code = users_code own_counts_code

abbrev pub count_in : Option OwnCounts → (number : ℕ) → ℕ
count_in None number = 0
count_in (Some own) number = count_at own number

abbrev pub count_of : Counts → (user : List ℕ) → (number : ℕ) → ℕ
count_of counts user number = count_in (map.get counts user) number

abbrev pub AreSameCounts : (old new : Counts) → Type 0
AreSameCounts old new =
    (user : List ℕ) (number : ℕ) → count_of new user number ≡ count_of old user number

-- one more of this session
pub record IsCounted (who : SessionId) (old new : Counts) : Type 0 where
  pub one : count_of new who.user who.number ≡ count_of old who.user who.number + 1
  pub others : (user : List ℕ) (number : ℕ)
      → (bytes_eq who.user user && (who.number == number)) ≡ false
      → count_of new user number ≡ count_of old user number

-- each is 0
abbrev pub AreZero : Counts → Type 0
AreZero counts = (user : List ℕ) (number : ℕ) → count_of counts user number ≡ 0

abbrev pub HasSessionIn : Option OwnCounts → (number : ℕ) → Type 0
HasSessionIn None number = ⊥
HasSessionIn (Some own) number = HasNumber own number

-- a count of the session can be raised without memory
abbrev pub HasSession : Counts → SessionId → Type 0
HasSession counts who = HasSessionIn (map.get counts who.user) who.number
