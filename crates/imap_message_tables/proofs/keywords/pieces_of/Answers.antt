use Rattle.std.proofs.Common.{IsUtf8, map, string_bytes, subst, sym}
use Rattle.std.specs.List.{AllByRecursion}
use Rattle.imap_message_tables.specs.Split.{IsSpaceless}
use Rattle.imap_message_tables.proofs.Pieces.{piece_more, spaceless_more, utf8_after}
use Rattle.imap_message_tables.proofs.keywords.pieces_of.Goals as goal

pub loop-piece-preserved : goal.loop-piece-preserved
loop-piece-preserved c = record {
  joined = piece_more (map string_bytes c.loop-piece.pieces.items) (map string_bytes c.push.new.texts.items) c.loop-piece.rest.now c.in-Some.piece.now c.in-Some.more.now c.args.text.now
      c.in_ok-push.ensures c.in-Some.ensures.cut c.loop-piece.invariant.joined;
  spaceless = subst (AllByRecursion IsSpaceless) (sym c.in_ok-push.ensures)
      (spaceless_more (map string_bytes c.loop-piece.pieces.items) c.in-Some.piece.now c.loop-piece.invariant.spaceless c.in-Some.ensures.first);
  utf8 = utf8_after c.in-Some.piece.now c.in-Some.more.now (subst IsUtf8 c.in-Some.ensures.cut c.loop-piece.invariant.utf8);
}
