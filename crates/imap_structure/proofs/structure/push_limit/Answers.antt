use Rattle.std.proofs.Common.{◌∙◌, ap, ◌++◌}
use Rattle.imap_structure.specs.declared.media.MediaType.{MediaType}
use Rattle.imap_structure.specs.Structure.{other_text}
use Rattle.imap_structure.proofs.structure.push_limit.Goals as goal

pub returns : goal.returns
returns c = c.in_ok-push_other.ensures ∙ ap (λ (m : MediaType). c.args.out.now.items ++ other_text c.args.extended m c.args.octets.now) c.in_ok-media.ensures
