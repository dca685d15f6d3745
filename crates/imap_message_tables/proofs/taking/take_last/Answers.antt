use Rattle.std.proofs.Common.{◌≡◌, ◌+◌, MatchOption, vec_len, sym, subst, ◌∙◌}
use Rattle.imap_message_tables.proofs.taking.take_last.Goals.{then-len-eq0, else-len-eq0}
use Rattle.imap_message_tables.proofs.taking.take_last.Goals as goal

pub returns-clause-items : goal.returns-clause-items
returns-clause-items g c =
    let same : c.if-len-eq0.rows.items ≡ c.args.rows.now.items = elim c.if-len-eq0.branch [
      | then-len-eq0 w ↦ (λ i. (w.rows-is i).items) ∙ w.shrink_to_fit.ensures.items
      | else-len-eq0 w ↦ λ i. (w.rows-is i).items
    ] in
    sym same ∙ c.pop.ensures.items

pub returns-clause-cases : goal.returns-clause-cases
returns-clause-cases g c =
    let same : vec_len c.if-len-eq0.rows ≡ vec_len c.args.rows.now = elim c.if-len-eq0.branch [
      | then-len-eq0 w ↦ (λ i. vec_len (w.rows-is i)) ∙ w.shrink_to_fit.ensures.len
      | else-len-eq0 w ↦ λ i. vec_len (w.rows-is i)
    ] in
    let left = vec_len c.pop.new.self in
    subst (λ n. MatchOption c.pop.result ((n ≡ 0) × (left ≡ 0)) (λ _. left + 1 ≡ n)) same c.pop.ensures.cases
