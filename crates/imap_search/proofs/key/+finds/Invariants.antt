use Rattle.std.proofs.Common.{◌≡◌, drop}
use Rattle.std.specs.List.{list_all}
use Rattle.imap_search.specs.Ready.{finds_ready}
use Rattle.imap_search.specs.Shown.{candidate_shown}
use Rattle.imap_search.proofs.key.+finds.Given as goal

abbrev pub invariant-finds_each-loop-key : goal.invariant-finds_each-loop-key
invariant-finds_each-loop-key l =
    (list_all (finds_ready (candidate_shown l.candidate)) (drop l.key-index l.keys) ≡ list_all (finds_ready (candidate_shown l.initial.candidate)) l.initial.keys)
    × (l.texts ≡ l.initial.texts)
