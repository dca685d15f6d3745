use Rattle.std.proofs.Common.{map}
use Rattle.imap_query.specs.Keys.{key_of}
use Rattle.imap_search.proofs.Spanned.{narrowed, whole}
use Rattle.imap_search.proofs.span.span_of_all.Goals as goal

pub loop-key-init : goal.loop-key-init
loop-key-init c = whole (map key_of c.args.keys.now) c.args.last c.args.last_uid c.args.known.now.list c.len-end.result c.len-end.ensures.count

pub loop-key-preserved : goal.loop-key-preserved
loop-key-preserved c =
    narrowed c.args.keys.now c.loop-key.key-index c.key-item.result c.args.last c.args.last_uid c.args.known.now.list c.loop-key.start c.loop-key.end
    c.span_of_key-first.result.0 c.span_of_key-first.result.1 c.max.result c.min-start.result c.min-end.result _ c.max.ensures c.min-end.ensures c.min-start.ensures
    c.loop-key-test.true c.key-item.is c.span_of_key-first.ensures c.loop-key.invariant
