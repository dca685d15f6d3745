-- Why a hall isn't opened.
use Rattle.imap_keeper.specs.declared.error.KeepError.{KeepError}
use Rattle.imap_keeper.specs.declared.error.KeepError.TheVariants as keep
use Rattle.imap_hall.specs.declared.error.OpenError.{OpenError}
use Rattle.imap_hall.specs.declared.error.OpenError.TheVariants as error

abbrev pub open_error : KeepError → OpenError
open_error keep.Refused = error.Store
open_error keep.Memory = error.Memory
open_error keep.Damaged = error.Damaged
