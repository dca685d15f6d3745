use Rattle.std.proofs.Common.{◌≡◌, suc, ◌+◌, ◌*◌, map}
use Rattle.imap_syntax.specs.Rule.{with_front, separated_read, items_read}
use Rattle.imap_query.specs.Keys.{key_of}
use Rattle.imap_query.specs.Searching.{key}
use Rattle.imap_query.proofs.search_keys.+keys.Given as goal

abbrev pub decreases-read_key : goal.decreases-read_key
decreases-read_key l = 4 * l.levels

abbrev pub decreases-read_keys : goal.decreases-read_keys
decreases-read_keys l = 4 * l.levels + 1

abbrev pub decreases-read_group_key : goal.decreases-read_group_key
decreases-read_group_key l = 4 * l.inner + 2

abbrev pub decreases-read_word_key : goal.decreases-read_word_key
decreases-read_word_key l = 4 * l.inner + 2

abbrev pub invariant-read_keys-loop-keys : goal.invariant-read_keys-loop-keys
invariant-read_keys-loop-keys l = with_front (map key_of l.keys.items) (separated_read 32 (key l.levels).read (suc l.left) l.cursor) ≡ items_read 32 (key l.levels).read l.fn.cursor

abbrev pub decreases-read_keys-loop-keys : goal.decreases-read_keys-loop-keys
decreases-read_keys-loop-keys l = l.left
