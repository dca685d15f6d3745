use Rattle.std.proofs.Common.{◌≡◌, Bool, true, false, sym, subst, refl, ◌∙◌}
use Rattle.std.specs.Prelude.{◌↔◌, bytes_eq}
use Rattle.imap_names.proofs.ViewLaws.{same_texts}
use Rattle.imap_names.proofs.name_ref.NameRef.is_same.Goals as goal

pub returns-then-eq : goal.returns-then-eq
returns-then-eq c =
    same_texts c.self.inside.root.now c.self.inside.path.now c.args.self.now c.self.view_is c.other.inside.root.now c.other.inside.path.now c.args.other.now c.other.view_is
    true (sym c.if-eq.true ∙ c.eq.ensures) c.eq-then-eq.result c.eq-then-eq.ensures

pub returns-else-eq : goal.returns-else-eq
returns-else-eq c =
    subst (λ (b : Bool). (b ≡ true) ↔ (c.args.self.now ≡ c.args.other.now)) (sym c.if-eq.false)
    (same_texts c.self.inside.root.now c.self.inside.path.now c.args.self.now c.self.view_is c.other.inside.root.now c.other.inside.path.now c.args.other.now c.other.view_is
    false (sym c.if-eq.false ∙ c.eq.ensures) (bytes_eq c.self.inside.path.now c.other.inside.path.now) refl)
