use Rattle.imap_rev1.proofs.NamedReplies.{plain_replies_stay, prints_conditions, prints_others}
use Rattle.imap_rev1.proofs.name_laws.prints_others.Goals as goal

pub returns : goal.returns
returns c = record { others = prints_others; conditions = prints_conditions; plain = plain_replies_stay }
