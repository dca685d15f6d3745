-- The name that a mailbox is to have (RFC 9051, sections 6.3.4 and 6.3.6).
use Rattle.std.specs.Prelude.{ℕ, List, Result, Ok, Err}
use Rattle.imap_names.specs.Name.{Name}
use Rattle.imap_names.specs.Reading.{name_read}
use Rattle.imap_names.specs.declared.error.NameError.{NameError}
use Rattle.imap_names.specs.declared.error.NameError.TheVariants.{TooLong, TooDeep}
use Rattle.imap_print.specs.declared.response.Refusal.{Refusal}
use Rattle.imap_print.specs.declared.response.Refusal.TheVariants.{Cannot, Limit}

-- why there can be no mailbox of the name
abbrev pub name_refusal : NameError → Refusal
name_refusal TooLong = Limit
name_refusal TooDeep = Limit
name_refusal _ = Cannot

abbrev pub or_refusal : Result Name NameError → Result Name Refusal
or_refusal (Ok name) = Ok name
or_refusal (Err error) = Err (name_refusal error)

-- the name that a text means to the user, or why no mailbox can have it
abbrev pub new_name_read : (user text : List ℕ) → Result Name Refusal
new_name_read user text = or_refusal (name_read user text)
