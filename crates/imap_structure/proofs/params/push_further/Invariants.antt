use Rattle.std.proofs.Common.{◌≡◌, ◌++◌, drop, map}
use Rattle.imap_print.specs.Words.{before_each}
use Rattle.imap_structure.specs.Single.{param_text}
use Rattle.imap_structure.proofs.params.push_further.Given as goal

abbrev pub invariant-loop-param : goal.invariant-loop-param
invariant-loop-param l =
    l.out.items ++ before_each 32 (map param_text (drop l.param-index l.params)) ≡ l.initial.out.items ++ before_each 32 (map param_text l.params)
