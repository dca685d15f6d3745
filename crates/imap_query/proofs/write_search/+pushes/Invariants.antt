use Rattle.std.proofs.Common.{◌≡◌, ◌++◌, map, drop}
use Rattle.imap_query.specs.Keys.{key_of}
use Rattle.imap_syntax.specs.Writing.{further}
use Rattle.imap_query.specs.WrittenSearch.{key_text}
use Rattle.imap_query.proofs.write_search.+pushes.Given as goal

abbrev pub invariant-push_keys-loop-key : goal.invariant-push_keys-loop-key
invariant-push_keys-loop-key l = l.out.items ++ further 32 key_text (map key_of (drop l.key-index l.others)) ≡ l.initial.out.items ++ further 32 key_text (map key_of l.initial.others)
