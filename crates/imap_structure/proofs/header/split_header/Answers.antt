use Rattle.std.proofs.Common.{ap, ◌∙◌, take, drop, ℕ}
use Rattle.imap_text.proofs.Cuts.{header-take, header-drop}
use Rattle.imap_structure.proofs.header.split_header.Goals as goal

pub returns-clause-header : goal.returns-clause-header
returns-clause-header c =
    c.split_at.ensures.front ∙ ap (λ (n : ℕ). take n c.args.octets.now) c.header_length.ensures.length ∙ header-take c.args.octets.now

pub returns-clause-text : goal.returns-clause-text
returns-clause-text c =
    c.split_at.ensures.back ∙ ap (λ (n : ℕ). drop n c.args.octets.now) c.header_length.ensures.length ∙ header-drop c.args.octets.now
