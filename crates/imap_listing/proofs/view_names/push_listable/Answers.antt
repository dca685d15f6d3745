use Rattle.std.proofs.Common.{◌++◌, ◌∷◌, [], append-nil, cond, Some, None, sym, ap, ◌∙◌}
use Rattle.std.specs.List.{cons_option}
use Rattle.imap_names.specs.Showing.{shown}
use Rattle.imap_listing.proofs.view_names.push_listable.Goals as goal

pub returns-then-not-is_listable : goal.returns-then-not-is_listable
returns-then-not-is_listable c =
    sym (ap (λ o. c.args.listed.now.items ++ cons_option o []) (c.is_listable.ensures ∙ ap (λ b. cond b (Some (shown c.args.view.now.user c.args.name.now)) None) c.if-not-is_listable.true)
    ∙ append-nil c.args.listed.now.items)

pub returns : goal.returns
returns c =
    c.in_ok-push.ensures.items ∙ ap (λ text. c.args.listed.now.items ++ text ∷ []) c.in_ok-of.ensures
    ∙ sym (ap (λ o. c.args.listed.now.items ++ cons_option o []) (c.is_listable.ensures ∙ ap (λ b. cond b (Some (shown c.args.view.now.user c.args.name.now)) None) c.if-not-is_listable.false))
