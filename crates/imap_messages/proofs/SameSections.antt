-- Sections that are the same.
use Rattle.std.proofs.Common.{◌≡◌, Bool, true, false, refl, sym, ap}
use Rattle.std.specs.Prelude.{Decides, ◌↔◌}
use Rattle.std.specs.Cmp.Lexicographic.{pointwise_decides}
use Rattle.std.proofs.lemmas.Slice.Eq.{bytes_eq-Decides}
use Rattle.imap_query.specs.declared.fetch.Section.{Section}
use Rattle.imap_query.specs.declared.fetch.Section.TheVariants as section
use Rattle.imap_messages.specs.BodySections.{is_same_section}

decides : (a b : Section) → Decides (is_same_section a b) (a ≡ b)
decides section.Whole section.Whole = ((λ e. refl), (λ e. refl))
decides section.Whole section.Header = ((λ e. absurd (cc e)), (λ e. absurd (cc e)))
decides section.Whole section.Text = ((λ e. absurd (cc e)), (λ e. absurd (cc e)))
decides section.Whole (section.Fields others) = ((λ e. absurd (cc e)), (λ e. absurd (cc e)))
decides section.Whole (section.FieldsNot others) = ((λ e. absurd (cc e)), (λ e. absurd (cc e)))
decides section.Header section.Whole = ((λ e. absurd (cc e)), (λ e. absurd (cc e)))
decides section.Header section.Header = ((λ e. refl), (λ e. refl))
decides section.Header section.Text = ((λ e. absurd (cc e)), (λ e. absurd (cc e)))
decides section.Header (section.Fields others) = ((λ e. absurd (cc e)), (λ e. absurd (cc e)))
decides section.Header (section.FieldsNot others) = ((λ e. absurd (cc e)), (λ e. absurd (cc e)))
decides section.Text section.Whole = ((λ e. absurd (cc e)), (λ e. absurd (cc e)))
decides section.Text section.Header = ((λ e. absurd (cc e)), (λ e. absurd (cc e)))
decides section.Text section.Text = ((λ e. refl), (λ e. refl))
decides section.Text (section.Fields others) = ((λ e. absurd (cc e)), (λ e. absurd (cc e)))
decides section.Text (section.FieldsNot others) = ((λ e. absurd (cc e)), (λ e. absurd (cc e)))
decides (section.Fields names) section.Whole = ((λ e. absurd (cc e)), (λ e. absurd (cc e)))
decides (section.Fields names) section.Header = ((λ e. absurd (cc e)), (λ e. absurd (cc e)))
decides (section.Fields names) section.Text = ((λ e. absurd (cc e)), (λ e. absurd (cc e)))
decides (section.Fields names) (section.Fields others) =
    let same = pointwise_decides bytes_eq-Decides names others in ((λ e. ap section.Fields (same.0 e)), (λ e. same.1 (cc e)))
decides (section.Fields names) (section.FieldsNot others) = ((λ e. absurd (cc e)), (λ e. absurd (cc e)))
decides (section.FieldsNot names) section.Whole = ((λ e. absurd (cc e)), (λ e. absurd (cc e)))
decides (section.FieldsNot names) section.Header = ((λ e. absurd (cc e)), (λ e. absurd (cc e)))
decides (section.FieldsNot names) section.Text = ((λ e. absurd (cc e)), (λ e. absurd (cc e)))
decides (section.FieldsNot names) (section.Fields others) = ((λ e. absurd (cc e)), (λ e. absurd (cc e)))
decides (section.FieldsNot names) (section.FieldsNot others) =
    let same = pointwise_decides bytes_eq-Decides names others in ((λ e. ap section.FieldsNot (same.0 e)), (λ e. same.1 (cc e)))

-- two tests of one statement
by_both : (P : Type 0) (r b : Bool) → (r ≡ true) ↔ P → Decides b P → r ≡ b
by_both P true true h d = refl
by_both P true false h d = sym (d.1 (h.0 refl))
by_both P false true h d = h.1 (d.0 refl)
by_both P false false h d = refl

pub sections_compared : (a b : Section) (r : Bool) → (r ≡ true) ↔ (a ≡ b) → r ≡ is_same_section a b
sections_compared a b r h = by_both (a ≡ b) r (is_same_section a b) h (decides a b)
