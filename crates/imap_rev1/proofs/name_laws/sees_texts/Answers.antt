use Rattle.imap_rev1.proofs.Renamed.{names_stay, sees_texts, stays_one}
use Rattle.imap_rev1.proofs.name_laws.sees_texts.Goals as goal

pub returns : goal.returns
returns c = record { stay = names_stay; texts = sees_texts; one = stays_one }
