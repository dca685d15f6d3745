use Rattle.std.proofs.Common.{◌∙◌, ap, unsigned_abs, w64, arith}
use Rattle.std.proofs.lemmas.Int.{to_z_pos}
use Rattle.imap_syntax.proofs.DayNumbers.{day_made, number_given, year_kept}
use Rattle.imap_syntax.proofs.date.Date.of_day_number.Goals as goal

pub returns : goal.returns
returns c =
    let number = to_z_pos w64 c.args.number (omega (arith, c.if-number-gt-MAX_DAY.false)) in
    let given = number_given c.from_unix_epoch_day.result c.in_ok-day.day _ c.in_ok-day.ensures.value c.from_unix_epoch_day.ensures.value ∙ number in
    let year = c.unsigned_abs.ensures.value ∙ ap unsigned_abs (year_kept c.in_ok-day.day) in
    day_made c.in_ok-day.day c.in_ok-of_number.field-0 c.args.number _ c.new.result given c.in_ok-of_number.ensures year c.new.ensures
