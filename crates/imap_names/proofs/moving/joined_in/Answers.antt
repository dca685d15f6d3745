use Rattle.std.proofs.Common.{◌≡◌, ◌+◌, ◌++◌, length, take, rules, sym, subst}
use Rattle.std.specs.Prelude.{IsUtf8}
use Rattle.std.proofs.lemmas.Str.{IsUtf8-append}
use Rattle.imap_names.proofs.moving.joined_in.Goals as goal

pub unreachable-requires : goal.unreachable-requires
unreachable-requires c =
    let front = c.args.front.now in
    let rest = c.args.rest.now in
    let joined : take (length front + length rest) c.write_joined.new.room ≡ front ++ rest = search rules in
    c.in-Err.ensures.cases.0 (subst IsUtf8 (sym joined) (IsUtf8-append front rest c.utf8.front c.utf8.rest))
