-- The runs of a text: ASCII, and other characters.
use Rattle.std.specs.Prelude.{◌≡◌, ℕ, ◌<◌, ◌≤◌, List, ◌++◌, length, slice_index, IsAscii, IsUtf8}

-- ASCII stands before it
pub record FollowsAscii (octets rest : List ℕ) : Type 0 where
  pub front : List ℕ
  pub ascii : IsAscii front
  pub is : octets ≡ front ++ rest

-- a text may be cut at this place, which is past the first octet, or at the end
pub record IsOtherLength (octets : List ℕ) (n : ℕ) : Type 0 where
  pub within : n ≤ length octets
  pub some : 0 < length octets → 0 < n
  pub seam : n < length octets → slice_index octets n < 128

-- ASCII, other characters, and what follows, which begins with ASCII. One of both is there, if the text isn't empty
pub record IsRun (text ascii other later : List ℕ) : Type 0 where
  pub whole : text ≡ ascii ++ (other ++ later)
  pub is_ascii : IsAscii ascii
  pub other_utf8 : IsUtf8 other
  pub later_utf8 : IsUtf8 later
  pub seam : 0 < length later → slice_index later 0 < 128
  pub some : 0 < length text → length later < length text

-- the first octet of ASCII stands at this place, which is the end if there is none
pub record IsBeforeAscii (octets : List ℕ) (n : ℕ) : Type 0 where
  pub within : n ≤ length octets
  pub seam : n < length octets → slice_index octets n < 128
