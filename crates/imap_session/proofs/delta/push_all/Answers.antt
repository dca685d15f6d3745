use Rattle.std.proofs.Common.{[], ◌∷◌, ◌++◌, get_or, take, refl, sym, ap, ◌∙◌, arith}
use Rattle.std.proofs.lemmas.List.{append-nil, append_assoc, take_more}
use Rattle.imap_session.proofs.delta.push_all.Goals as goal

pub loop-uid-init : goal.loop-uid-init
loop-uid-init c = record { list = sym (append-nil c.args.uids.now.items); len = omega arith; capacity = refl }

pub push_reserved-requires : goal.push_reserved-requires
push_reserved-requires c = let at = c.loop-uid.invariant in omega (arith, at.len, at.capacity, c.requires, c.loop-uid-test.true)

pub loop-uid-preserved : goal.loop-uid-preserved
loop-uid-preserved c =
    let at = c.loop-uid in
    let added = c.args.added.now in
    let i = at.uid-index in
    let old = c.args.uids.now.items in
    record {
      list = c.push_reserved.ensures.items ∙ ap (λ l. l ++ get_or added i 0 ∷ []) at.invariant.list ∙ append_assoc old (take i added) (get_or added i 0 ∷ [])
          ∙ ap (λ l. old ++ l) (sym (take_more added i 0 c.loop-uid-test.true));
      len = omega (arith, c.push_reserved.ensures.len, at.invariant.len);
      capacity = c.push_reserved.ensures.capacity ∙ at.invariant.capacity;
    }
