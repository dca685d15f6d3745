use Rattle.imap_lex.proofs.Only.{has_one_reading}
use Rattle.imap_lex.proofs.Readings.{each_has_reading}
use Rattle.imap_lex.proofs.FramesRead.{frames_as_read}
use Rattle.imap_lex.proofs.laws.one_reading.Goals as goal

pub returns : goal.returns
returns c = record { each = each_has_reading; once = has_one_reading; frames = frames_as_read }
