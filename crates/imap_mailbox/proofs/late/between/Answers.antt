use Rattle.std.proofs.Common.{◌≡◌, ⊎_elim, ℕ, eqb, true, take, get_or, sym, subst}
use Rattle.std.proofs.lemmas.Bool.{eqb-true}
use Rattle.std.proofs.lemmas.List.{take_more}
use Rattle.imap_mailbox.specs.Late.{may_have}
use Rattle.imap_mailbox.specs.Rows.{is_among}
use Rattle.imap_mailbox.proofs.FirstOf.{among_more}
use Rattle.imap_mailbox.proofs.late.between.Goals as goal

pub loop-uid-preserved : goal.loop-uid-preserved
loop-uid-preserved c = λ uid among.
    let i = c.loop-uid.uid-index in
    let uids = c.args.uids.now in
    let new : ℕ = get_or uids i 0 in
    ⊎_elim
    (λ (old : is_among uid (take i uids) ≡ true). c.with_uid-late.ensures.more uid (c.loop-uid.invariant uid old))
    (λ (same : eqb uid new ≡ true). subst (λ u. may_have c.with_uid-late.result u ≡ true) (sym (eqb-true uid new same)) c.with_uid-late.ensures.uid)
    (among_more uid new (take i uids) (subst (λ l. is_among uid l ≡ true) (take_more uids i 0 c.loop-uid-test.true) among))
