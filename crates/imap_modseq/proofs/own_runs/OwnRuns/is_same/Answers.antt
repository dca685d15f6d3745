use Rattle.std.proofs.Common.{◌≡◌, ◌↔◌, IsTrue, ap, sym, subst, ◌∙◌}
use Rattle.imap_modseq.specs.Runs.{Owned, befores_in}
use Rattle.imap_modseq.proofs.Runs.{same_changes}
use Rattle.imap_modseq.proofs.own_runs.OwnRuns.is_same.Goals as goal

pub returns : goal.returns
returns c =
    let mine = ap (λ (o : Owned). o.befores) c.self.view_is in
    let theirs = ap (λ (o : Owned). o.befores) c.other.view_is in
    let both = same_changes c.self.inside.runs.items c.other.inside.runs.items c.are_same.result c.self.invariant c.other.invariant
    (subst (λ l. IsTrue c.are_same.result ↔ (l ≡ c.other.inside.runs.items)) c.deref.ensures.value
    (subst (λ l. IsTrue c.are_same.result ↔ (c.deref.result.now ≡ l)) c.deref-2.ensures.value c.are_same.ensures)) in
    subst (λ l. IsTrue c.are_same.result ↔ (l ≡ c.args.other.now.befores)) mine
    (subst (λ l. IsTrue c.are_same.result ↔ (befores_in 0 c.self.inside.runs.items ≡ l)) theirs both)
