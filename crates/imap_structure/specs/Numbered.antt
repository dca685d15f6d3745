-- Parts of messages by their numbers (RFC 9051, section 6.4.5.1).
use Rattle.std.specs.Prelude.{ℕ, ◌-◌, ◌==◌, Bool, false, List, [], ◌∷◌, codes, map, Option, Some, None, option_map}
use Rattle.std.specs.Prelude.{if◌then◌else◌}
use Rattle.std.specs.Option.{option_and_then}
use Rattle.imap_text.specs.Sections.{text}
use Rattle.imap_structure.specs.declared.media.Kind.{Kind}
use Rattle.imap_structure.specs.declared.media.Kind.TheVariants as kind
use Rattle.imap_structure.specs.declared.media.MediaType.{MediaType}
use Rattle.imap_structure.specs.Media.{boundary_of, is_digest, kind_of, media_of, plain_type}
use Rattle.imap_structure.specs.Parts.{parts_of}
use Rattle.imap_structure.specs.Structure.{max_depth}

-- A message, or a part that may stand in a digest. Others are read in it to a depth.
pub record Entity : Type 0 where
  pub octets : List ℕ
  pub in_digest : Bool
  pub depth : ℕ

-- its media type. What stands too deep isn't read
abbrev pub media_at : Entity → MediaType
media_at e =
    if e.depth == 0 then plain_type (codes "application") (codes "octet-stream")
    else media_of e.in_digest e.octets

abbrev pub kind_at : Entity → Kind
kind_at e = kind_of (media_at e)

-- ---- what stands in it

-- a part of a multipart
abbrev pub part_in : MediaType → Entity → (octets : List ℕ) → Entity
part_in m e octets = record { octets = octets; in_digest = is_digest m; depth = e.depth - 1 }

-- the parts of a multipart, as its structure tells them
abbrev pub parts_in : MediaType → Entity → List Entity
parts_in m e = map (part_in m e) (parts_of (boundary_of m.params) (text e.octets))

-- the message that a part is
abbrev pub message_in : Entity → Entity
message_in e = record { octets = text e.octets; in_digest = false; depth = e.depth - 1 }

-- ---- one number

-- counted from 1
abbrev pub nth : {A : Type 0} → List A → (number : ℕ) → Option A
nth [] number = None
nth (a ∷ more) number = if number == 1 then Some a else nth more (number - 1)

abbrev pub numbered_by : Kind → Entity → (number : ℕ) → Option Entity
numbered_by kind.Multipart e number = nth (parts_in (media_at e) e) number
numbered_by _ e number = if number == 1 then Some e else None

-- the part of a message or a multipart. A message that is no multipart is its part 1
abbrev pub numbered : Entity → (number : ℕ) → Option Entity
numbered e number = numbered_by (kind_at e) e number

-- ---- further numbers

abbrev pub entered_by : Kind → Entity → Option Entity
entered_by kind.Multipart e = Some e
entered_by kind.Message e = Some (message_in e)
entered_by _ e = None

-- what the further numbers after those of a part count in: a multipart, or the message that the part is
abbrev pub entered : Entity → Option Entity
entered e = entered_by (kind_at e) e

abbrev pub further : Entity → (number : ℕ) → Option Entity
further e number = option_and_then (λ f. numbered f number) (entered e)

abbrev pub further_at : Entity → (numbers : List ℕ) → Option Entity
further_at e [] = Some e
further_at e (number ∷ numbers) = option_and_then (λ f. further_at f numbers) (further e number)

-- ---- in a message

abbrev pub whole : (message : List ℕ) → Entity
whole message = record { octets = message; in_digest = false; depth = max_depth }

abbrev pub entity_at : (numbers message : List ℕ) → Option Entity
entity_at [] message = None
entity_at (number ∷ numbers) message =
    option_and_then (λ e. further_at e numbers) (numbered (whole message) number)

-- the octets of the part of these numbers, from its header on
abbrev pub part_at : (numbers message : List ℕ) → Option (List ℕ)
part_at numbers message = option_map (λ e. e.octets) (entity_at numbers message)

abbrev pub message_by : Kind → Entity → Option (List ℕ)
message_by kind.Message e = Some (text e.octets)
message_by _ e = None

abbrev pub message_of : Entity → Option (List ℕ)
message_of e = message_by (kind_at e) e

-- the message that the part of these numbers is
abbrev pub message_at : (numbers message : List ℕ) → Option (List ℕ)
message_at numbers message = option_and_then message_of (entity_at numbers message)
