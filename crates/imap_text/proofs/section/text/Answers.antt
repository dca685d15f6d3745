use Rattle.std.proofs.Common.{List, ℕ, length, ap, ◌∙◌}
use Rattle.std.proofs.lemmas.Result.{IfOk-weaker}
use Rattle.imap_text.specs.Sections.{header}
use Rattle.imap_text.proofs.Cuts.{text-range}
use Rattle.imap_text.proofs.section.text.Goals as goal

pub returns : goal.returns
returns c = IfOk-weaker c.slice.result _ _ (λ part e. e ∙ text-range c.args.message.now c.header_length.result _ (c.header_length.ensures.length ∙ ap (λ (m : List ℕ). length (header m)) c.as_slice-octets.ensures) (ap length c.as_slice-octets.ensures)) c.slice.ensures
