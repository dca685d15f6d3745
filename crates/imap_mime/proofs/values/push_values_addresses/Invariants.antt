use Rattle.std.proofs.Common.{◌≡◌, ◌++◌, drop, map}
use Rattle.imap_mime.specs.Values.{values_addresses}
use Rattle.imap_mime.proofs.values.push_values_addresses.Given as goal

abbrev pub invariant-loop-text : goal.invariant-loop-text
invariant-loop-text l =
    l.addresses.items ++ values_addresses (map (λ text. text.now) (drop l.text-index l.texts)) ≡ l.initial.addresses.items ++ values_addresses (map (λ text. text.now) l.texts)
