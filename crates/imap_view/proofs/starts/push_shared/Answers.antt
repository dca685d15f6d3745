use Rattle.std.proofs.Common.{◌≡◌, true, false, sym, ◌∙◌}
use Rattle.std.specs.Prelude.{bytes_eq}
use Rattle.imap_view.proofs.Starting.{fewer, nothing_added, on_ok}
use Rattle.imap_view.proofs.starts.push_shared.Goals as goal

pub returns-then-eq : goal.returns-then-eq
returns-then-eq c = λ lists index. on_ok c.push_found.result (c.push_found.ensures lists index) (λ added. fewer lists _ _ _ _ (λ text is. is.0) added)

pub returns-else-eq : goal.returns-else-eq
returns-else-eq c = λ lists index.
    nothing_added lists _ _ (λ text is.
    let asked : bytes_eq c.as_str.result.now c.as_str-2.result.now ≡ false = sym c.eq.ensures ∙ c.if-eq.false in
    absurd (cc (sym is.1 ∙ (λ i. bytes_eq (sym c.as_str.ensures.text i) (sym c.as_str-2.ensures.text i)) ∙ asked)))
