use Rattle.std.proofs.Common.{◌≡◌, map, take}
use Rattle.imap_listing.specs.Lines.{line_by}
use Rattle.imap_listing.proofs.marks.Marks.lines.Given as goal

abbrev pub invariant-loop-name : goal.invariant-loop-name
invariant-loop-name l =
    l.lines.items ≡ map (line_by l.self.there l.self.above l.self.subscribed) (take l.name-index l.names)
