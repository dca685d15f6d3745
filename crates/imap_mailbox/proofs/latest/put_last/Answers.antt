use Rattle.std.proofs.Common.{◌≡◌, ◌∙◌, Bool, true, cond, List, ap, subst}
use Rattle.std.specs.Prelude.{insert}
use Rattle.imap_mailbox.specs.declared.kept_change.KeptChange.{KeptChange}
use Rattle.imap_mailbox.specs.Latest.{IsPlace, IsGap}
use Rattle.imap_mailbox.proofs.TableOfLast.{set_is, insert_is}
use Rattle.imap_mailbox.proofs.latest.put_last.Goals as goal

pub returns-in-Ok-clause-items : goal.returns-in-Ok-clause-items
returns-in-Ok-clause-items c = set_is c.args.last c.args.table.now.items c.in-Ok.place (subst (λ t. IsPlace c.args.last.uid t c.in-Ok.place) c.as_slice.ensures.value c.in-Ok.ensures)

after_insert : (table made new : List KeptChange) (ok : Bool) → new ≡ cond ok made table → ok ≡ true → new ≡ made
after_insert table made new ok is fine = is ∙ ap (λ b. cond b made table) fine

pub returns-in-Err-clause-items : goal.returns-in-Err-clause-items
returns-in-Err-clause-items c =
    after_insert c.args.table.now.items (insert c.args.table.now.items c.in-Err.place c.args.last) _ _ c.insert.ensures.items (c.insert.ensures.succeeds c.requires.room)
    ∙ insert_is c.args.last c.args.table.now.items c.in-Err.place (subst (λ t. IsGap c.args.last.uid t c.in-Err.place) c.as_slice.ensures.value c.in-Err.ensures)
