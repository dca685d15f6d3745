use Rattle.std.proofs.Common.{◌≡◌, ◌++◌, drop, map}
use Rattle.imap_messages.specs.BodySections.{fetched_section}
use Rattle.imap_messages.proofs.body_sections.fetched_sections.Given as goal

abbrev pub invariant-loop-body : goal.invariant-loop-body
invariant-loop-body l =
    (l.message ≡ l.lookup)
    × (l.fetched.items ++ map (fetched_section l.message) (drop l.body-index l.sections) ≡ map (fetched_section l.message) l.sections)
