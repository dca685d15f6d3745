use Rattle.std.proofs.Common.{◌∙◌, arith}
use Rattle.imap_name_map.proofs.Turns.{popped}
use Rattle.imap_name_map.proofs.moves.put_names.Goals as goal

pub loop-name-preserved : goal.loop-name-preserved
loop-name-preserved g c =
    let facts = popped c.loop-name.entries c.loop-name.names.items c.pop.new.self.items c.in-Some.name c.index-entries-len.result c.len.result c.in-Some.ensures.items c.loop-name.invariant.fit (let e = c.pop.new.self.ok.0 in omega (arith, e, c.len.ensures)) in
    record {
      made = facts.made ∙ c.loop-name.invariant.made;
      fit = facts.fit;
      same = facts.same ∙ c.loop-name.invariant.same;
    }
