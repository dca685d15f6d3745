use Rattle.std.proofs.Common.{◌∙◌, ap}
use Rattle.jiff_core.specs.Date.{epoch_day}
use Rattle.imap_syntax.specs.DayNumbers.{day_number}
use Rattle.imap_syntax.proofs.DayNumbers.{year_fits, day_fits, date_asked, number_asked, number_kept}
use Rattle.imap_syntax.proofs.date.Date.day_number.Goals as goal

pub overflow_cast-self-inside : goal.overflow_cast-self-inside
overflow_cast-self-inside c = year_fits c.self.inside.year c.self.inside.month c.self.inside.day c.self.invariant

pub overflow_cast-self-inside-2 : goal.overflow_cast-self-inside-2
overflow_cast-self-inside-2 c = day_fits c.self.inside.year c.self.inside.month c.self.inside.day c.self.invariant

pub date-day-requires : goal.date-day-requires
date-day-requires c = date_asked c.self.inside.year c.self.inside.month c.self.inside.day c.number.result c.self.invariant c.number.ensures

pub returns : goal.returns
returns c =
    let d = c.self.inside in
    number_kept c.to_unix_epoch_day.result c.from.result c.to_unix_epoch_day.ensures.bound c.from.ensures
    ∙ (c.to_unix_epoch_day.ensures.value ∙ ap epoch_day c.to_plain.ensures)
    ∙ number_asked c.date-day.result d.year d.month d.day c.number.result c.self.invariant c.number.ensures c.date-day.ensures
    ∙ ap day_number c.self.view_is
