-- What holds of the first line of each connection.
use Rattle.std.specs.Prelude.{◌≡◌, ℕ, List, ◌++◌}
use Rattle.imap_service.specs.FirstLine.{LineState, after_octets, first_state, opening_at, opening_of}

-- Where the octets are cut makes no difference.
abbrev pub AnyCut : Type 0
AnyCut = (s : LineState) (first second : List ℕ) →
    after_octets s (first ++ second) ≡ after_octets (after_octets s first) second

-- What a line begins is found octet by octet.
abbrev pub BeginsByWord : Type 0
BeginsByWord = (octets : List ℕ) → opening_at (after_octets first_state octets).place ≡ opening_of octets
