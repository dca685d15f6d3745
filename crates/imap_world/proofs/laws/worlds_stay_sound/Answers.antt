use Rattle.imap_world.proofs.Histories.{steps_stay_sound}
use Rattle.imap_world.proofs.laws.worlds_stay_sound.Goals as goal

pub returns : goal.returns
returns c = steps_stay_sound
