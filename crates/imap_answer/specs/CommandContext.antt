-- A command that is to be answered.
use Rattle.std.specs.Prelude.{ℕ, List, refl}
use Rattle.std.specs.Coded.{Coded, code_by, coded×, coded_list, coded_ℕ}
use Rattle.imap_syntax.specs.contracts.date.DateTime as date_time
use Rattle.imap_syntax.specs.Moments.{Moment}
use Rattle.imap_view.specs.View.{View, view_code}

-- what its user may see, its tag, and when it is given
pub record CommandContext : Type 0 where
  pub view : View
  pub tag : List ℕ
  pub at : Moment

abbrev pub context_code : Coded CommandContext
context_code =
    code_by (View × (List ℕ × Moment))
    (coded× view_code (coded× (coded_list coded_ℕ) date_time.the_row.coded))
    (λ context. (context.view, (context.tag, context.at)))
    (λ p. record { view = p.0; tag = p.1.0; at = p.1.1 }) (λ _. refl)
