use Rattle.imap_records.proofs.batch.rows_of_batch.Goals as goal

pub returns-clause-valid : goal.returns-clause-valid
returns-clause-valid c = record {
  user = c.in_ok-push_own.ensures.valid;
  added = c.in_ok-events.ensures.valid.0;
  marks = c.in_ok-events.ensures.valid.1;
}
