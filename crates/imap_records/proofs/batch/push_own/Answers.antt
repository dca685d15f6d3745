use Rattle.std.proofs.Common.{◌∙◌}
use Rattle.imap_records.proofs.Bounded.{own_low}
use Rattle.imap_records.proofs.Texts.{user_utf8}
use Rattle.imap_records.proofs.batch.push_own.Goals as goal

pub push_marks-requires : goal.push_marks-requires
push_marks-requires c = own_low c.args.write.now c.as_slice-own.result.now c.requires (c.as_slice-own.ensures.value ∙ c.in_ok-own.ensures)

pub returns-clause-valid : goal.returns-clause-valid
returns-clause-valid c = user_utf8 c.args.write.now.batch.user c.as_str-user.ensures.valid
