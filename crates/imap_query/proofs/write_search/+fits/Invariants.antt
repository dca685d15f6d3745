use Rattle.std.proofs.Common.{◌≡◌, ◌+◌, ◌*◌, map, drop}
use Rattle.imap_query.specs.Keys.{key_of, keys_of}
use Rattle.imap_query.specs.WrittenSearch.{key_fits, row_fits}
use Rattle.imap_query.proofs.write_search.+fits.Given as goal

abbrev pub decreases-key_fits : goal.decreases-key_fits
decreases-key_fits l = 4 * l.levels

abbrev pub decreases-fits_over : goal.decreases-fits_over
decreases-fits_over l = 4 * l.inner + 3

abbrev pub decreases-keys_fit : goal.decreases-keys_fit
decreases-keys_fit l = 4 * l.levels + 2

abbrev pub decreases-each_fits : goal.decreases-each_fits
decreases-each_fits l = 4 * l.levels + 1

abbrev pub invariant-each_fits-loop-key : goal.invariant-each_fits-loop-key
invariant-each_fits-loop-key l = row_fits (key_fits l.levels) (keys_of (map key_of (drop l.key-index l.keys))) ≡ row_fits (key_fits l.levels) (keys_of (map key_of l.initial.keys))
