use Rattle.std.proofs.Common.{◌≡◌, pos, to_z, w8, w16, sym, ap, ◌∙◌, arith, inl, inr}
use Rattle.std.proofs.lemmas.Int.{to_z_pos}
use Rattle.imap_syntax.specs.Calendar.{month_number}
use Rattle.imap_syntax.proofs.Calendar.{no_day, no_year, agrees_as, month_fits}
use Rattle.imap_syntax.proofs.date.day_exists.Goals as goal

pub returns-then-year-ge10000-clause-exists : goal.returns-then-year-ge10000-clause-exists
returns-then-year-ge10000-clause-exists c =
    elim c.then-year-ge10000.either [ inl year ↦ no_year c.args.year c.args.month c.args.day year | inr day ↦ no_day c.args.year c.args.month c.args.day day.1 ]

pub returns-clause-exists : goal.returns-clause-exists
returns-clause-exists c =
    let month : to_z w8 c.number.result ≡ pos (month_number c.args.month) = ap (to_z w8) c.number.ensures ∙ to_z_pos w8 (month_number c.args.month) (month_fits c.args.month) in
    agrees_as c.args.year c.args.month c.args.day c.is_ok.result _ _ _ (omega (arith, c.if-year-ge10000.false)) (to_z_pos w16 c.args.year (omega (arith, c.if-year-ge10000.false))) month (to_z_pos w8 c.args.day (omega (arith, c.if-day-ge32.false))) (λ h. c.new.ensures.succeeds.0 (sym c.is_ok.ensures.value ∙ h)) (λ h. c.is_ok.ensures.value ∙ c.new.ensures.succeeds.1 h)
