use Rattle.imap_messages.proofs.SameSections.{sections_compared}
use Rattle.imap_messages.proofs.body_sections.is_same_section.Goals as goal

pub returns : goal.returns
returns c = sections_compared c.args.section.now c.args.other.now c.is_same.result c.is_same.ensures
