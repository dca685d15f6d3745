use Rattle.std.proofs.Common.{ap, ◌∙◌}
use Rattle.imap_query.specs.Keys.{key_of}
use Rattle.imap_query.proofs.WrittenKeys.{key_of-Group}
use Rattle.imap_query.proofs.write_search.+fits.Goals as goal

pub fits_over-returns-in-Group : goal.fits_over-returns-in-Group
fits_over-returns-in-Group t c =
    let same = ap key_of c.in-Group.is ∙ key_of-Group c.in-Group.keys in
    rw (same) (rw (← c.deref-in-Group.ensures.value) c.keys_fit.ensures)
