use Rattle.imap_rev1.proofs.OneFrame.{is_read_as_one}
use Rattle.imap_rev1.proofs.Rev1Rules.{hands_others_on, keeps_tags, stays_command}
use Rattle.imap_rev1.proofs.laws.keeps_frames.Goals as goal

pub returns : goal.returns
returns c = record { others = hands_others_on; tags = keeps_tags; command = stays_command; one = is_read_as_one }
