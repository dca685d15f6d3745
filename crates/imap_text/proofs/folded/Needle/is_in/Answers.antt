use Rattle.std.proofs.Common.{◌∙◌, List, ℕ, sym, subst}
use Rattle.bstr.specs.Find.{FindsNeedle}
use Rattle.imap_text.proofs.Within.{found_within}
use Rattle.imap_text.proofs.folded.Needle.is_in.Goals as goal

pub returns : goal.returns
returns c =
    let whole = c.as_slice.ensures.value ∙ c.text.view_is in
    let found = subst (λ (p : List ℕ). FindsNeedle c.args.text.now p 0 c.find.result) c.self.view_is (subst (λ (t : List ℕ). FindsNeedle t c.self.inside.0 0 c.find.result) whole c.find.ensures) in
    let both = found_within c.args.text.now c.args.self.now c.find.result found in
    (λ e. both.0 (sym c.is_some.ensures ∙ e), λ is. c.is_some.ensures ∙ both.1 is)
