use Rattle.imap_name_map.proofs.Kept.{maps_same, maps_differ}
use Rattle.imap_name_map.proofs.Maps.{sorted_entries}
use Rattle.imap_name_map.proofs.name_map.NameMap.is_same.Goals as goal

pub are_within-requires-clause-sorted : goal.are_within-requires-clause-sorted
are_within-requires-clause-sorted g c = sorted_entries c.args.self.now.map c.entries-entries.result.now c.entries-entries.ensures

pub are_within-requires-clause-others : goal.are_within-requires-clause-others
are_within-requires-clause-others g c = sorted_entries c.args.other.now.map c.entries-others.result.now c.entries-others.ensures

pub are_within-requires-then-are_within-clause-sorted : goal.are_within-requires-then-are_within-clause-sorted
are_within-requires-then-are_within-clause-sorted g c = sorted_entries c.args.other.now.map c.entries-others.result.now c.entries-others.ensures

pub are_within-requires-then-are_within-clause-others : goal.are_within-requires-then-are_within-clause-others
are_within-requires-then-are_within-clause-others g c = sorted_entries c.args.self.now.map c.entries-entries.result.now c.entries-entries.ensures

pub returns-then-are_within : goal.returns-then-are_within
returns-then-are_within g c =
    maps_same g.V.Part.kept c.args.self.now.map c.args.other.now.map c.entries-entries.result.now c.entries-others.result.now c.entries-entries.ensures c.entries-others.ensures
    c.are_within-then-are_within.result (c.are_within.ensures.0 c.if-are_within.true) c.are_within-then-are_within.ensures

pub returns-else-are_within : goal.returns-else-are_within
returns-else-are_within g c =
    maps_differ g.V.Part.kept c.args.self.now.map c.args.other.now.map c.entries-entries.result.now c.entries-others.result.now c.entries-entries.ensures c.entries-others.ensures
    c.are_within.result c.if-are_within.false c.are_within.ensures.1
