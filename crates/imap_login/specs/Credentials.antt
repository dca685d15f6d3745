-- What a user's clients log in with.
use Rattle.std.specs.Prelude.{ℕ, Bool, ◌&&◌, ◌||◌, List, [], ◌∷◌, ◌++◌}
use Rattle.imap_login.specs.Differences.{are_same}

-- the user's name, and the secret
pub record Known : Type 0 where
  pub name : List ℕ
  pub password : List ℕ

abbrev pub known_by : (name password : List ℕ) → Known
known_by name password = record { name = name; password = password }

-- of LOGIN (RFC 9051, section 6.2.3)
abbrev pub are_right : Known → (name password : List ℕ) → Bool
are_right known name password = are_same known.name name && are_same known.password password

-- a message of PLAIN (RFC 4616, section 2), by which the user acts as `authorized`
abbrev pub plain_message : (authorized : List ℕ) → Known → List ℕ
plain_message authorized known = authorized ++ (0 ∷ (known.name ++ 0 ∷ known.password))

-- the user acts as the user, whether the message names the user once or twice
abbrev pub is_right_message : Known → (message : List ℕ) → Bool
is_right_message known message =
    are_same (plain_message [] known) message || are_same (plain_message known.name known) message
