use Rattle.std.proofs.Common.{◌≡◌, map, rules}
use Rattle.imap_query.specs.Keys.{all_tokens, key_of}
use Rattle.imap_search.proofs.Readied.{command_ready}
use Rattle.imap_search.proofs.search.find.Goals as goal

pub look_at-requires-clause-ready : goal.look_at-requires-clause-ready
look_at-requires-clause-ready c =
    let keys = c.as_slice.result.now in
    let are : all_tokens (map key_of keys) ≡ c.args.arguments.now.keys = search rules in
    command_ready c.known_count-last.result c.last_of-last_uid.result c.in_ok-keys.keys.items (map key_of keys) _ are c.in_ok-keys.ensures
