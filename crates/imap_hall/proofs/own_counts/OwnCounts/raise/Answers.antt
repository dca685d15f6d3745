use Rattle.std.proofs.Common.{rules, ◌≡◌, ◌∙◌, Some, sym, ap}
use Rattle.std.specs.List.{position}
use Rattle.imap_hall.specs.Counts.{OwnCounts}
use Rattle.imap_hall.proofs.Counting.{bound_at, has_number, nowhere, raised_at}
use Rattle.imap_hall.proofs.own_counts.OwnCounts.raise.Goals as goal

pub raise_at-requires-clause-bound : goal.raise_at-requires-clause-bound
raise_at-requires-clause-bound c =
    let items : OwnCounts = c.self.inside.entries.items in
    let is : Some c.in-Some.index ≡ position (has_number c.args.number) items = sym c.in-Some.is ∙ (c.index_of.ensures ∙ ap (position (has_number c.args.number)) c.as_slice.ensures.value) in
    bound_at c.args.number c.args.self.now items c.in-Some.index is (search rules) c.requires.bound

pub returns-in-Some : goal.returns-in-Some
returns-in-Some c =
    let items : OwnCounts = c.self.inside.entries.items in
    let is : Some c.in-Some.index ≡ position (has_number c.args.number) items = sym c.in-Some.is ∙ (c.index_of.ensures ∙ ap (position (has_number c.args.number)) c.as_slice.ensures.value) in
    raised_at c.args.number c.args.self.now items c.in-Some.index is (search rules) c.raise_at.new.entries.items c.raise_at.ensures

pub returns-in-None : goal.returns-in-None
returns-in-None c =
    let items : OwnCounts = c.self.inside.entries.items in
    absurd (nowhere c.index_of.result (position (has_number c.args.number) c.args.self.now) c.in-None.is (c.index_of.ensures ∙ ap (position (has_number c.args.number)) (search rules)) c.requires.there)
