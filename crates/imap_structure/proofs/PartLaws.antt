-- Parts are pieces of their message, and told in the order of their numbers.
use Rattle.std.proofs.Common.{◌≡◌, ◌∙◌, ap, sym, refl, subst, ℕ, zero, suc, ◌-◌, ◌<◌, Bool, true, false, cond, List, [], ◌∷◌, ◌++◌, append_assoc, append-nil, length, take, drop, map, flat_map, arith, Option, Some, None}
use Rattle.std.specs.Prelude.{eqb, ◌==◌, option_map, codes}
use Rattle.std.specs.List.{AllByRecursion, concat, ends_with}
use Rattle.std.specs.Option.{option_and_then}
use Rattle.std.proofs.lemmas.Bool.Decides.{nat_tests}
use Rattle.std.proofs.lemmas.Option.{same_Some}
use Rattle.std.proofs.lemmas.List.{take-append-drop}
use Rattle.imap_lex.specs.Chars.{crlf}
use Rattle.imap_text.specs.Lines.{lines}
use Rattle.imap_text.specs.Sections.{header, text}
use Rattle.imap_text.proofs.Cuts.{header-text}
use Rattle.imap_text.proofs.LinesFound.{concat-lines}
use Rattle.imap_structure.specs.declared.delimiter.Delimiter.{Delimiter}
use Rattle.imap_structure.specs.declared.delimiter.Delimiter.TheVariants as delimiter
use Rattle.imap_structure.specs.declared.media.Kind.{Kind}
use Rattle.imap_structure.specs.declared.media.Kind.TheVariants as kind
use Rattle.imap_structure.specs.declared.media.MediaType.{MediaType}
use Rattle.imap_structure.specs.Laws.{entity_structure, StructuresTellParts, IsPiece, PartsArePieces, MessagesArePieces}
use Rattle.imap_structure.specs.Media.{boundary_of, is_digest, media_of, plain_type}
use Rattle.imap_structure.specs.Numbered.{Entity, media_at, kind_at, part_in, parts_in, nth, numbered_by, numbered, entered_by, entered, further, further_at, whole, entity_at, message_by, message_of}
use Rattle.imap_structure.specs.Parts.{without_end, delimiter_of, parts_by, parts_within, first_by, parts_before, found_parts, or_empty, parts_of}
use Rattle.imap_structure.specs.Structure.{entity_by, entity_text, multipart_end, structure_text}
use Rattle.imap_structure.proofs.Depth.{structure_below}

-- ---- pieces

piece_itself : (octets : List ℕ) → IsPiece octets octets
piece_itself octets = record { before = []; after = []; stands = sym (append-nil octets) }

piece_empty : (octets : List ℕ) → IsPiece [] octets
piece_empty octets = record { before = []; after = octets; stands = refl }

-- what stands in a piece
piece_in : (a b c : List ℕ) → IsPiece a b → IsPiece b c → IsPiece a c
piece_in a b c h k = record {
  before = k.before ++ h.before;
  after = h.after ++ k.after;
  stands =
      k.stands
      ∙ ap (λ (l : List ℕ). k.before ++ (l ++ k.after)) h.stands
      ∙ ap (λ (l : List ℕ). k.before ++ l) (append_assoc h.before (a ++ h.after) k.after ∙ ap (λ (l : List ℕ). h.before ++ l) (append_assoc a h.after k.after))
      ∙ sym (append_assoc k.before h.before (a ++ (h.after ++ k.after)));
}

piece_front : (a b : List ℕ) → IsPiece a (a ++ b)
piece_front a b = record { before = []; after = b; stands = refl }

piece_back : (a b : List ℕ) → IsPiece b (a ++ b)
piece_back a b = record { before = a; after = []; stands = ap (λ (l : List ℕ). a ++ l) (sym (append-nil b)) }

piece_of_same : (a b c : List ℕ) → b ≡ c → IsPiece a b → IsPiece a c
piece_of_same a b c e h = subst (λ (l : List ℕ). IsPiece a l) e h

text_piece : (octets : List ℕ) → IsPiece (text octets) octets
text_piece octets = piece_of_same (text octets) (header octets ++ text octets) octets (header-text octets) (piece_back (header octets) (text octets))

take_piece : (n : ℕ) (octets : List ℕ) → IsPiece (take n octets) octets
take_piece n octets = record { before = []; after = drop n octets; stands = sym (take-append-drop n octets) }

cut_piece : (b : Bool) (n : ℕ) (octets : List ℕ) → IsPiece (cond b (take n octets) octets) octets
cut_piece true n octets = take_piece n octets
cut_piece false n octets = piece_itself octets

end_piece : (octets : List ℕ) → IsPiece (without_end octets) octets
end_piece octets = cut_piece (ends_with eqb octets crlf) (length octets - 2) octets

-- ---- the parts of a multipart

abbrev ArePieces : (parts : List (List ℕ)) → (octets : List ℕ) → Type 0
ArePieces parts octets = AllByRecursion (λ part. IsPiece part octets) parts

pieces_in : (parts : List (List ℕ)) (a b : List ℕ) → ArePieces parts a → IsPiece a b → ArePieces parts b
pieces_in [] a b h k = tt
pieces_in (part ∷ parts) a b h k = (piece_in part a b h.0 k, pieces_in parts a b h.1 k)

within_by : (d : Delimiter) (part line later : List ℕ) (more : List ℕ → List (List ℕ)) → ((front : List ℕ) → ArePieces (more front) (front ++ later)) → ArePieces (parts_by d part line more) (part ++ (line ++ later))
within_by delimiter.None part line later more h = subst (ArePieces (more (part ++ line))) (append_assoc part line later) (h (part ++ line))
within_by delimiter.Part part line later more h = (
  piece_in (without_end part) part (part ++ (line ++ later)) (end_piece part) (piece_front part (line ++ later)),
  pieces_in (more []) later (part ++ (line ++ later)) (h []) (piece_in later (line ++ later) (part ++ (line ++ later)) (piece_back line later) (piece_back part (line ++ later))),
)
within_by delimiter.End part line later more h =
    (piece_in (without_end part) part (part ++ (line ++ later)) (end_piece part) (piece_front part (line ++ later)), tt)

within_pieces : (boundary : List ℕ) (all : List (List ℕ)) (part : List ℕ) → ArePieces (parts_within boundary all part) (part ++ concat all)
within_pieces boundary [] part = (piece_front part [], tt)
within_pieces boundary (line ∷ later) part = within_by (delimiter_of boundary line) part line (concat later) (parts_within boundary later) (within_pieces boundary later)

before_by : (d : Delimiter) (within before : List (List ℕ)) (octets : List ℕ) → ArePieces within octets → ArePieces before octets → ArePieces (first_by d within before) octets
before_by delimiter.None within before octets h k = k
before_by delimiter.Part within before octets h k = h
before_by delimiter.End within before octets h k = tt

before_pieces : (boundary : List ℕ) (all : List (List ℕ)) → ArePieces (parts_before boundary all) (concat all)
before_pieces boundary [] = tt
before_pieces boundary (line ∷ later) =
    before_by (delimiter_of boundary line) (parts_within boundary later []) (parts_before boundary later) (line ++ concat later)
    (pieces_in (parts_within boundary later []) (concat later) (line ++ concat later) (within_pieces boundary later []) (piece_back line (concat later)))
    (pieces_in (parts_before boundary later) (concat later) (line ++ concat later) (before_pieces boundary later) (piece_back line (concat later)))

found_by : (b : Bool) (parts : List (List ℕ)) (octets : List ℕ) → ArePieces parts octets → ArePieces (cond b [] parts) octets
found_by true parts octets h = tt
found_by false parts octets h = h

or_empty_pieces : (parts : List (List ℕ)) (octets : List ℕ) → ArePieces parts octets → ArePieces (or_empty parts) octets
or_empty_pieces [] octets h = (piece_empty octets, tt)
or_empty_pieces (part ∷ parts) octets h = h

parts_pieces : (boundary body : List ℕ) → ArePieces (parts_of boundary body) body
parts_pieces boundary body =
    or_empty_pieces (found_parts boundary body) body
    (found_by (length boundary == 0) (parts_before boundary (lines body)) body
    (subst (ArePieces (parts_before boundary (lines body))) (concat-lines body) (before_pieces boundary (lines body))))

-- ---- one number

-- a part is a piece of these octets, if it is there
abbrev IsPieceIfThere : Option Entity → (octets : List ℕ) → Type 0
IsPieceIfThere None octets = Unit {0}
IsPieceIfThere (Some e) octets = IsPiece e.octets octets

there_by : (b : Bool) (e : Entity) (other : Option Entity) (octets : List ℕ) → IsPiece e.octets octets → IsPieceIfThere other octets → IsPieceIfThere (cond b (Some e) other) octets
there_by true e other octets h k = h
there_by false e other octets h k = k

nth_piece : (m : MediaType) (e : Entity) (parts : List (List ℕ)) (octets : List ℕ) (number : ℕ) → ArePieces parts octets → IsPieceIfThere (nth (map (part_in m e) parts) number) octets
nth_piece m e [] octets number h = tt
nth_piece m e (part ∷ parts) octets number h = there_by (number == 1) (part_in m e part) (nth (map (part_in m e) parts) (number - 1)) octets h.0 (nth_piece m e parts octets (number - 1) h.1)

numbered_piece_by : (k : Kind) (e : Entity) (number : ℕ) → IsPieceIfThere (numbered_by k e number) e.octets
numbered_piece_by kind.Multipart e number =
    nth_piece (media_at e) e (parts_of (boundary_of (media_at e).params) (text e.octets)) e.octets number
    (pieces_in (parts_of (boundary_of (media_at e).params) (text e.octets)) (text e.octets) e.octets (parts_pieces (boundary_of (media_at e).params) (text e.octets)) (text_piece e.octets))
numbered_piece_by kind.Message e number = there_by (number == 1) e None e.octets (piece_itself e.octets) tt
numbered_piece_by kind.Text e number = there_by (number == 1) e None e.octets (piece_itself e.octets) tt
numbered_piece_by kind.Other e number = there_by (number == 1) e None e.octets (piece_itself e.octets) tt

numbered_piece : (e : Entity) (number : ℕ) → IsPieceIfThere (numbered e number) e.octets
numbered_piece e number = numbered_piece_by (kind_at e) e number

-- ---- further numbers

entered_piece_by : (k : Kind) (e : Entity) → IsPieceIfThere (entered_by k e) e.octets
entered_piece_by kind.Multipart e = piece_itself e.octets
entered_piece_by kind.Message e = text_piece e.octets
entered_piece_by kind.Text e = tt
entered_piece_by kind.Other e = tt

-- what is there in a piece
there_in : (found : Option Entity) (a b : List ℕ) → IsPieceIfThere found a → IsPiece a b → IsPieceIfThere found b
there_in None a b h k = tt
there_in (Some e) a b h k = piece_in e.octets a b h k

then_piece : (next : Entity → Option Entity) (found : Option Entity) (octets : List ℕ) → ((e : Entity) → IsPieceIfThere (next e) e.octets) → IsPieceIfThere found octets → IsPieceIfThere (option_and_then next found) octets
then_piece next None octets each h = tt
then_piece next (Some e) octets each h = there_in (next e) e.octets octets (each e) h

further_piece : (e : Entity) (number : ℕ) → IsPieceIfThere (further e number) e.octets
further_piece e number = then_piece (λ f. numbered f number) (entered e) e.octets (λ f. numbered_piece f number) (entered_piece_by (kind_at e) e)

further_at_piece : (numbers : List ℕ) (e : Entity) → IsPieceIfThere (further_at e numbers) e.octets
further_at_piece [] e = piece_itself e.octets
further_at_piece (number ∷ numbers) e = then_piece (λ f. further_at f numbers) (further e number) e.octets (further_at_piece numbers) (further_piece e number)

entity_piece : (numbers message : List ℕ) → IsPieceIfThere (entity_at numbers message) message
entity_piece [] message = tt
entity_piece (number ∷ numbers) message = then_piece (λ e. further_at e numbers) (numbered (whole message) number) message (further_at_piece numbers) (numbered_piece (whole message) number)

-- ---- laws

part_there : (found : Option Entity) (message piece : List ℕ) → IsPieceIfThere found message → option_map (λ e. e.octets) found ≡ Some piece → IsPiece piece message
part_there None message piece h e = absurd cc
part_there (Some f) message piece h e = subst (λ (l : List ℕ). IsPiece l message) (same_Some _ _ e) h

pub parts_are_pieces : PartsArePieces
parts_are_pieces numbers message piece e = part_there (entity_at numbers message) message piece (entity_piece numbers message) e

message_there_by : (k : Kind) (f : Entity) (message piece : List ℕ) → IsPiece f.octets message → message_by k f ≡ Some piece → IsPiece piece message
message_there_by kind.Multipart f message piece h e = absurd cc
message_there_by kind.Message f message piece h e = subst (λ (l : List ℕ). IsPiece l message) (same_Some _ _ e) (piece_in (text f.octets) f.octets message (text_piece f.octets) h)
message_there_by kind.Text f message piece h e = absurd cc
message_there_by kind.Other f message piece h e = absurd cc

message_there : (found : Option Entity) (message piece : List ℕ) → IsPieceIfThere found message → option_and_then message_of found ≡ Some piece → IsPiece piece message
message_there None message piece h e = absurd cc
message_there (Some f) message piece h e = message_there_by (kind_at f) f message piece h e

pub messages_are_pieces : MessagesArePieces
messages_are_pieces numbers message piece e = message_there (entity_at numbers message) message piece (entity_piece numbers message) e

-- ---- structures

-- what stands too deep is no multipart
not_deep : (depth : ℕ) (in_digest : Bool) (octets : List ℕ) → kind_at (record { octets = octets; in_digest = in_digest; depth = depth }) ≡ kind.Multipart → 0 < depth
not_deep zero in_digest octets e = absurd cc
not_deep (suc depth) in_digest octets e = omega arith

media_below : (e : Entity) → 0 < e.depth → media_at e ≡ media_of e.in_digest e.octets
media_below e some =
    let deep : (e.depth == 0) ≡ false = grind (arith, nat_tests) in
    ap (λ b. cond b (plain_type (codes "application") (codes "octet-stream")) (media_of e.in_digest e.octets)) deep

each_structure : (extended : Bool) (m : MediaType) (e : Entity) (parts : List (List ℕ)) → flat_map (structure_text extended (e.depth - 1) (is_digest m)) parts ≡ flat_map (entity_structure extended) (map (part_in m e) parts)
each_structure extended m e [] = refl
each_structure extended m e (part ∷ parts) = ap (λ (l : List ℕ). structure_text extended (e.depth - 1) (is_digest m) part ++ l) (each_structure extended m e parts)

told_by : (k : Kind) (extended : Bool) (m : MediaType) (e : Entity) → k ≡ kind.Multipart
    → entity_by k extended (structure_text extended (e.depth - 1)) m e.octets ≡ 40 ∷ flat_map (entity_structure extended) (parts_in m e) ++ multipart_end extended m e.octets
told_by kind.Multipart extended m e is =
    ap (λ (l : List ℕ). 40 ∷ l ++ multipart_end extended m e.octets) (each_structure extended m e (parts_of (boundary_of m.params) (text e.octets)))
told_by kind.Message extended m e is = absurd cc
told_by kind.Text extended m e is = absurd cc
told_by kind.Other extended m e is = absurd cc

counted_by : (k : Kind) (e : Entity) (number : ℕ) → k ≡ kind.Multipart → numbered_by k e number ≡ nth (parts_in (media_at e) e) number
counted_by kind.Multipart e number is = refl
counted_by kind.Message e number is = absurd cc
counted_by kind.Text e number is = absurd cc
counted_by kind.Other e number is = absurd cc

pub structures_tell_parts : StructuresTellParts
structures_tell_parts extended e is = record {
  told =
      let some = not_deep e.depth e.in_digest e.octets is in
      structure_below extended e.in_digest e.octets e.depth some
      ∙ ap (λ (m : MediaType). entity_text extended (structure_text extended (e.depth - 1)) m e.octets) (sym (media_below e some))
      ∙ told_by (kind_at e) extended (media_at e) e is;
  counted = λ number. counted_by (kind_at e) e number is;
}
