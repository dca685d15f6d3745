use Rattle.imap_text.proofs.FoldedRuns.{ascii_front}
use Rattle.imap_text.proofs.runs.ascii_length.Goals as goal

pub returns-clause-ascii : goal.returns-clause-ascii
returns-clause-ascii c =
    ascii_front c.args.octets.now c.after_blocks-rest.result.now c.short_ascii_length.result c.after_blocks-rest.ensures c.short_ascii_length.ensures.ascii
