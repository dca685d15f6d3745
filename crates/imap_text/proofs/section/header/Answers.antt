use Rattle.std.proofs.Common.{List, ℕ, length, ap, ◌∙◌}
use Rattle.std.proofs.lemmas.Result.{IfOk-weaker}
use Rattle.imap_text.specs.Sections.{header}
use Rattle.imap_text.proofs.Cuts.{header-range}
use Rattle.imap_text.proofs.section.header.Goals as goal

pub returns : goal.returns
returns c = IfOk-weaker c.slice.result _ _ (λ part e. e ∙ header-range c.args.message.now c.header_length.result (c.header_length.ensures.length ∙ ap (λ (m : List ℕ). length (header m)) c.as_slice.ensures)) c.slice.ensures
