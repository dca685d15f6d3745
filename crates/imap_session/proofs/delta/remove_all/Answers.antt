use Rattle.std.proofs.Common.{◌≡◌, ℕ, not, List, [], ◌∷◌, length, rules, refl, sym, ap, ◌∙◌, arith}
use Rattle.std.proofs.lemmas.Bool.{eqb-true}
use Rattle.std.proofs.lemmas.Fn.{filter_same}
use Rattle.imap_mailbox.specs.Rows.{is_among}
use Rattle.imap_session.specs.Delta.{without_uids}
use Rattle.imap_session.proofs.Applying.{without_none}
use Rattle.imap_session.proofs.delta.remove_all.Goals as goal

nil_of : (us : List ℕ) → length us ≡ 0 → us ≡ []
nil_of [] e = refl
nil_of (u ∷ us) e = absurd (omega arith)

pub returns-then-is_empty-clause-list : goal.returns-then-is_empty-clause-list
returns-then-is_empty-clause-list c =
    let none : length c.args.gone.now ≡ 0 = eqb-true (length c.args.gone.now) 0 (sym c.is_empty.ensures ∙ c.if-is_empty.true) in
    sym (without_none c.args.uids.now.items) ∙ ap (λ gone. without_uids gone c.args.uids.now.items) (sym (nil_of c.args.gone.now none))

pub returns-clause-list : goal.returns-clause-list
returns-clause-list c = filter_same _ (λ (u : ℕ). not (is_among u c.args.gone.now)) _ (λ x b f' h. search rules) _ _ c.retain.ensures.filtered
