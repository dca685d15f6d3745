-- ENABLE UTF8=ACCEPT (RFC 6855, section 3).
use Rattle.std.specs.Prelude.{ℕ, Bool, false, ◌&&◌, ◌||◌, List, [], ◌∷◌, codes, Option, Some, None}
use Rattle.imap_lex.specs.declared.frame.Frame.{Frame}
use Rattle.imap_lex.specs.declared.frame.Frame.TheVariants.{Whole, Continue, Reject, Hangup}
use Rattle.imap_rev1_frames.specs.Named.{after_tag, begins}

-- the word stands at the front, after a space, and ends there
abbrev pub is_utf8_word : List ℕ → Bool
is_utf8_word octets =
    begins (codes " UTF8=ACCEPT ") octets || begins (codes " UTF8=ACCEPT\r\n") octets

-- the word stands among the octets
abbrev pub has_utf8 : List ℕ → Bool
has_utf8 [] = false
has_utf8 (octet ∷ octets) = is_utf8_word (octet ∷ octets) || has_utf8 octets

abbrev pub asks_utf8_in : (command : List ℕ) → Bool
asks_utf8_in command = begins (codes "ENABLE ") command && has_utf8 command

-- the frame is an ENABLE that names it
abbrev pub asks_utf8 : (by : Option Frame) → Bool
asks_utf8 (Some (Whole octets)) = asks_utf8_in (after_tag octets)
asks_utf8 (Some Continue) = false
asks_utf8 (Some (Reject tag)) = false
asks_utf8 (Some Hangup) = false
asks_utf8 None = false
