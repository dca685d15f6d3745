use Rattle.std.proofs.Common.{◌+◌, ◌*◌}
use Rattle.imap_hall.proofs.memory.keys.+octets.Given as goal

abbrev pub decreases-each_octets : goal.decreases-each_octets
decreases-each_octets l = 3 * l.levels + 1

abbrev pub decreases-key_octets : goal.decreases-key_octets
decreases-key_octets l = 3 * l.levels

abbrev pub decreases-inner_octets : goal.decreases-inner_octets
decreases-inner_octets l = 3 * l.levels + 2
