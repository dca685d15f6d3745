-- The words of STATUS, in capitals (RFC 9051, section 9; RFC 7162, section 7).
use Rattle.std.specs.Prelude.{ℕ, List, codes}
use Rattle.imap_query.specs.declared.status.StatusItem.{StatusItem}
use Rattle.imap_query.specs.declared.status.StatusItem.TheVariants as status

abbrev pub status_name : StatusItem → List ℕ
status_name status.Messages = codes "MESSAGES"
status_name status.UidNext = codes "UIDNEXT"
status_name status.UidValidity = codes "UIDVALIDITY"
status_name status.Unseen = codes "UNSEEN"
status_name status.Deleted = codes "DELETED"
status_name status.Size = codes "SIZE"
status_name status.HighestModSeq = codes "HIGHESTMODSEQ"
