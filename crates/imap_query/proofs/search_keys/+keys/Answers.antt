use Rattle.std.proofs.Common.{◌≡◌, ◌++◌, ◌∷◌, [], ◌-◌, suc, map, true, Some, arith}
use Rattle.std.proofs.lemmas.List.{map_push}
use Rattle.imap_syntax.specs.Rule.{flag_read}
use Rattle.imap_query.specs.Keys.{key_of}
use Rattle.imap_query.specs.Searching.{key}
use Rattle.imap_syntax.proofs.Loop.{begins, goes_further}
use Rattle.imap_query.proofs.search_keys.+keys.Goals as goal

pub read_keys-loop-keys-init : goal.read_keys-loop-keys-init
read_keys-loop-keys-init t c = rw (c.rest-left.ensures, c.new-keys.ensures.items) (begins 32 (key c.args.levels).read c.args.cursor.now)

pub read_keys-loop-keys-preserved : goal.read_keys-loop-keys-preserved
read_keys-loop-keys-preserved t c =
    let more : flag_read 32 c.read_key.new.cursor ≡ Some (true, c.has.new.self) = grind (arith, c.has.ensures) in
    let left : c.loop-keys.left ≡ suc (c.loop-keys.left - 1) = omega arith in
    let pushed : map key_of c.push.new.self.items ≡ map key_of c.loop-keys.keys.items ++ key_of c.in_ok-key.key ∷ [] = rw c.in_ok-push.ensures.items (map_push key_of c.loop-keys.keys.items c.in_ok-key.key) in
    rw pushed (goes_further 32 (key c.args.levels).read c.loop-keys.left (c.loop-keys.left - 1) (map key_of c.loop-keys.keys.items) c.loop-keys.cursor c.read_key.new.cursor c.has.new.self (key_of c.in_ok-key.key) _ left c.in_ok-key.ensures more c.loop-keys.invariant)
