-- The request that a frame makes.
use Rattle.std.specs.Prelude.{◌≡◌, ℕ, List, [], ◌∷◌, Option, Some, None}
use Rattle.imap_lex.specs.CommandTag.{tag_of}
use Rattle.imap_commands.specs.declared.command.Command.{Command}
use Rattle.imap_commands.specs.declared.request.Request.{Request}
use Rattle.imap_commands.specs.declared.request.Request.TheVariants as request
use Rattle.imap_commands.specs.Reading.{command}

abbrev pub IsNoCommand : List ℕ → Type 0
IsNoCommand frame = (tag : List ℕ) (c : Command) → command.spells (tag, c) frame → ⊥

abbrev pub Spells : List ℕ → Request → Type 0
Spells frame (request.Command tag c) = command.spells (tag, c) frame
Spells frame (request.Malformed tag) = IsNoCommand frame × (tag_of frame ≡ tag)
Spells frame (request.TooBig tag) = ⊥

-- whatever the frame spells is this request
abbrev pub SpellsNoOther : List ℕ → Request → Type 0
SpellsNoOther frame r = (other : Request) → Spells frame other → other ≡ r

-- each frame spells a request
abbrev pub EachSpells : Type 0
EachSpells = (frame : List ℕ) → (r : Request) × Spells frame r

-- and no two
abbrev pub SpellsOnce : Type 0
SpellsOnce = (frame : List ℕ) (r s : Request) → Spells frame r → Spells frame s → r ≡ s

-- ---- what reading finds

-- a command is only what takes the whole frame
abbrev pub request_by : Option ((List ℕ × Command) × List ℕ) → Option (List ℕ) → Request
request_by (Some (c, [])) tag = request.Command c.0 c.1
request_by (Some (c, b ∷ rest)) tag = request.Malformed tag
request_by None tag = request.Malformed tag

abbrev pub request_read : List ℕ → Request
request_read frame = request_by (command.read frame) (tag_of frame)
