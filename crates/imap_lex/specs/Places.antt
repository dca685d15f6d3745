-- The place of a command, and steps from it.
use Rattle.std.specs.Prelude.{ℕ, ◌<◌, ◌≤◌, List, [], ◌∷◌, ◌++◌, take, drop}
use Rattle.imap_lex.specs.declared.frame.Frame.{Frame}
use Rattle.imap_lex.specs.declared.frame.Frame.TheVariants as frame
use Rattle.imap_lex.specs.declared.frame.End.{End}
use Rattle.imap_lex.specs.declared.frame.End.TheVariants as end
use Rattle.imap_lex.specs.declared.place.Part.{Part as PlacePart}
use Rattle.imap_lex.specs.declared.place.Part.TheVariants as part
use Rattle.imap_lex.specs.declared.place.Place.{Place}
use Rattle.imap_lex.specs.declared.place.Step.{Step}
use Rattle.imap_lex.specs.declared.place.Step.TheVariants as step
use Rattle.imap_lex.specs.declared.place.Turn.{Turn}
use Rattle.imap_lex.specs.declared.place.Turn.TheVariants as turn
use Rattle.imap_lex.specs.CommandTag.{tag_of}
use Rattle.imap_lex.specs.Limits.{max_command_octets}
use Rattle.imap_lex.specs.Framing.{Part, line, literal, Begun, Outcome, goes_on, ends, hangs_up, after, run}

-- the part that comes next, if `so_far` has come of the line
abbrev pub part_of : List ℕ → PlacePart → Part
part_of so_far part.Line = line so_far
part_of so_far (part.Literal left) = literal left

abbrev pub begun : List ℕ → List ℕ → Place → Begun
begun octets so_far p =
    record { octets = octets; part = part_of so_far p.part; outside = p.outside; room = p.room }

-- a command with these octets and this part, at the place
abbrev pub begun_with : Place → List ℕ → Part → Begun
begun_with p octets part = record { octets = octets; part = part; outside = p.outside; room = p.room }

-- at least one octet of a literal is to come
abbrev pub IsComing : PlacePart → Type 0
IsComing part.Line = Unit {0}
IsComing (part.Literal left) = 0 < left

-- a place at which a command can be
pub record IsPlace (p : Place) : Type 0 where
  pub part : IsComing p.part
  pub outside : p.outside ≤ max_command_octets

abbrev pub IsTurn : Turn → Type 0
IsTurn (turn.On p) = IsPlace p
IsTurn (turn.Continue p) = IsPlace p
IsTurn (turn.Ended e) = Unit {0}
IsTurn turn.Hangup = Unit {0}

abbrev pub IsStep : Step → Type 0
IsStep (step.Unended p) = IsPlace p
IsStep (step.Turn len t) = IsTurn t

-- a turn comes after at least one octet of the piece, of which there are `most`
abbrev pub IsWithin : ℕ → Step → Type 0
IsWithin most (step.Unended p) = Unit {0}
IsWithin most (step.Turn len t) = (0 < len) × (len ≤ most)

-- the frame of a command that ends
abbrev pub frame_of : End → List ℕ → Frame
frame_of end.Whole octets = frame.Whole octets
frame_of end.Rejected octets = frame.Reject (tag_of octets)

-- the outcome of a turn for a command with these octets
abbrev pub turn_outcome : ℕ → List ℕ → Turn → Outcome
turn_outcome limit octets (turn.On p) = goes_on limit [] (begun octets [] p)
turn_outcome limit octets (turn.Continue p) = goes_on limit (frame.Continue ∷ []) (begun octets [] p)
turn_outcome limit octets (turn.Ended e) = ends limit (frame_of e octets)
turn_outcome limit octets turn.Hangup = hangs_up

-- the outcome of a step for a command with these octets, if `so_far` has come of its last line
abbrev pub step_outcome : ℕ → (octets so_far piece : List ℕ) → Step → Outcome
step_outcome limit octets so_far piece (step.Unended p) =
    goes_on limit [] (begun (octets ++ piece) (so_far ++ piece) p)
step_outcome limit octets so_far piece (step.Turn len t) =
    let o = turn_outcome limit (octets ++ take len piece) t in after o.frames (run o.next (drop len piece))
