use Rattle.std.proofs.Common.{◌≡◌, ◌+◌, ◌++◌, take, vec_len}
use Rattle.std.specs.Vec.{vec_capacity}
use Rattle.imap_session.proofs.delta.push_all.Given as goal

abbrev pub invariant-loop-uid : goal.invariant-loop-uid
invariant-loop-uid l =
    record {
      list : l.uids.items ≡ l.fn.uids.items ++ take l.uid-index l.added;
      len : vec_len l.uids ≡ vec_len l.fn.uids + l.uid-index;
      capacity : vec_capacity l.uids ≡ vec_capacity l.fn.uids;
    }
