use Rattle.std.proofs.Common.{◌∙◌, sym}
use Rattle.imap_syntax.proofs.ReadBack.{moment_read}
use Rattle.imap_text.proofs.laws.dates_are_read_back.Goals as goal

pub returns : goal.returns
returns c = moment_read c.args.date.now (sym c.date_time_fits.ensures.fits ∙ c.date_time_fits.ensures.always)
