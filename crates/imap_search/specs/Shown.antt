-- A message that is tested, by its values.
use Rattle.imap_mailbox.specs.Lent.{row_shown}
use Rattle.imap_search.specs.declared.key.Candidate.{Candidate as Lent}
use Rattle.imap_search.specs.Finds.{Candidate}

abbrev pub candidate_shown : Lent → Candidate
candidate_shown c = record {
  row = row_shown c.row.now;
  number = c.number;
  last = c.last;
  last_uid = c.last_uid;
}
