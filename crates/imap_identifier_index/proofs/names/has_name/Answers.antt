use Rattle.std.proofs.Common.{◌≡◌, Some, None, sym, ap, ◌∙◌}
use Rattle.std.specs.Option.{option_copied}
use Rattle.std.proofs.lemmas.Option.{none-some, same_Some}
use Rattle.imap_identifier_index.specs.Names.{name_at}
use Rattle.imap_identifier_index.proofs.names.has_name.Goals as goal

pub returns-in-Some : goal.returns-in-Some
returns-in-Some c =
    let there : name_at c.args.names.now c.args.number ≡ Some c.in-Some.found.now = sym c.name_of.ensures ∙ ap option_copied c.in-Some.is in (
      λ t. there ∙ ap Some (sym c.as_ref.ensures.name ∙ c.is_same.ensures.0 t),
      λ e. c.is_same.ensures.1 (c.as_ref.ensures.name ∙ same_Some _ _ (sym there ∙ e)),
    )

pub returns-in-None : goal.returns-in-None
returns-in-None c =
    let none : name_at c.args.names.now c.args.number ≡ None = sym c.name_of.ensures ∙ ap option_copied c.in-None.is in (
      λ t. absurd (cc t),
      λ e. absurd (none-some _ (sym none ∙ e)),
    )
