-- What a client reads in a structure, and what parts are.
use Rattle.std.specs.Prelude.{◌≡◌, ℕ, Bool, List, ◌∷◌, ◌++◌, flat_map, Some}
use Rattle.imap_lex.specs.Framing.{crlf}
use Rattle.imap_print.specs.Lines.{after_line, text}
use Rattle.imap_structure.specs.declared.media.Kind.TheVariants as kind
use Rattle.imap_structure.specs.Numbered.{Entity, kind_at, media_at, message_at, nth, numbered, part_at}
use Rattle.imap_structure.specs.Numbered.{parts_in}
use Rattle.imap_structure.specs.Structure.{multipart_end, structure_of, structure_text}

-- A client reads a structure as text of one line, whatever the message holds.
abbrev pub EachIsOneLine : Type 0
EachIsOneLine =
    (extended : Bool) (message rest : List ℕ)
    → after_line text ((structure_of extended message ++ crlf) ++ rest) ≡ Some rest

-- ---- parts

abbrev pub entity_structure : (extended : Bool) → Entity → List ℕ
entity_structure extended e = structure_text extended e.depth e.in_digest e.octets

-- The structure of a multipart tells its parts in the order of their numbers.
pub record TellsParts (extended : Bool) (e : Entity) (parts : List Entity) : Type 0 where
  pub told :
      entity_structure extended e
      ≡ 40 ∷ flat_map (entity_structure extended) parts ++ multipart_end extended (media_at e) e.octets
  pub counted : (number : ℕ) → numbered e number ≡ nth parts number

abbrev pub StructuresTellParts : Type 0
StructuresTellParts =
    (extended : Bool) (e : Entity)
    → kind_at e ≡ kind.Multipart → TellsParts extended e (parts_in (media_at e) e)

-- The octets stand one after another in the whole.
pub record IsPiece (piece whole : List ℕ) : Type 0 where
  pub before : List ℕ
  pub after : List ℕ
  pub stands : whole ≡ before ++ (piece ++ after)

-- A part is a piece of its message, and so is a message in it.
abbrev pub PartsArePieces : Type 0
PartsArePieces =
    (numbers message piece : List ℕ) → part_at numbers message ≡ Some piece → IsPiece piece message

abbrev pub MessagesArePieces : Type 0
MessagesArePieces =
    (numbers message piece : List ℕ) → message_at numbers message ≡ Some piece → IsPiece piece message
