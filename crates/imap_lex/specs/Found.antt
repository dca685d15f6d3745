-- How a piece goes on with a command, and the state that the fields of a framer give.
use Rattle.std.specs.Prelude.{ℕ, ◌+◌, ◌-◌, ◌<◌, ◌≤◌, Bool, List, [], ◌∷◌, ◌++◌}
use Rattle.std.specs.Prelude.{length, take, drop, if◌then◌else◌}
use Rattle.imap_lex.specs.declared.place.Place.{Place}
use Rattle.imap_lex.specs.declared.reading.Found.{Found}
use Rattle.imap_lex.specs.declared.reading.Found.TheVariants.{Unended, Ended, HungUp}
use Rattle.imap_lex.specs.Framing.{Framing, awaiting, hung_up, Outcome, start, goes_on, after, run}
use Rattle.imap_lex.specs.Places.{begun, IsPlace, frame_of}

-- the last `count` octets
abbrev pub last_octets : ℕ → List ℕ → List ℕ
last_octets count octets = drop (length octets - count) octets

-- The place and the number of octets are within the line and the piece, whose lengths these are.
abbrev pub IsFound : ℕ → ℕ → Found → Type 0
IsFound line piece (Unended p count) = IsPlace p × (count ≤ line + piece)
IsFound line piece (Ended len e) = (0 < len) × (len ≤ piece)
IsFound line piece HungUp = Unit {0}

-- the outcome for a command with these octets, if `so_far` has come of its last line,
-- after the frames before its end
abbrev pub found_outcome : ℕ → (octets so_far piece : List ℕ) → Found → Outcome
found_outcome limit octets so_far piece (Unended p count) =
    goes_on limit [] (begun (octets ++ piece) (last_octets count (so_far ++ piece)) p)
found_outcome limit octets so_far piece (Ended len e) =
    after (frame_of e (octets ++ take len piece) ∷ []) (run (awaiting limit (start limit)) (drop len piece))
found_outcome limit octets so_far piece HungUp = record { frames = []; next = hung_up }

-- the state that the fields of a framer give
abbrev pub framing : Bool → ℕ → List ℕ → ℕ → Place → Framing
framing closed limit held line p =
    if closed then hung_up else awaiting limit (begun held (last_octets line held) p)
