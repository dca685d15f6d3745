use Rattle.std.proofs.Common.{◌∙◌, ap, sym, map}
use Rattle.imap_query.specs.Keys.{group, key_of, keys_of}
use Rattle.imap_query.proofs.WrittenKeys.{key_of-Group}
use Rattle.imap_search.proofs.Readied.{group_ready}
use Rattle.imap_search.proofs.ready_key.+ready.Goals as goal

pub ready_key-returns-in_ok-ready_keys-in-Group : goal.ready_key-returns-in_ok-ready_keys-in-Group
ready_key-returns-in_ok-ready_keys-in-Group t c =
    let same = ap key_of c.in-Group.is ∙ key_of-Group c.in-Group.keys in
    let keys = ap (λ ks. group (keys_of (map key_of ks))) (sym c.deref-in-Group.ensures.value) in
    group_ready c.args.last c.args.last_uid c.in_ok-ready_keys-in-Group.field-0 (map key_of c.deref-in-Group.result.now) (key_of c.args.key.now) (same ∙ keys) c.in_ok-ready_keys-in-Group.ensures
