use Rattle.std.proofs.Common.{rules, ◌∙◌, ap, sym, subst, [], ◌∷◌, ◌++◌}
use Rattle.imap_serve.specs.Made.{Made}
use Rattle.imap_serve.specs.Receipts.{IsSameReceipt}
use Rattle.imap_receipts.specs.Keeping.{from_base}
use Rattle.imap_host.proofs.host.Host.call.Goals as goal

pub returns-clause-kept : goal.returns-clause-kept
returns-clause-kept g c =
    let made : Made = c.in_ok-pair.pair.made in
    record {
      kept = made;
      is = record {
        step = c.in_ok-pair.ensures.step ∙ c.in_ok-copy.ensures;
        receipt = subst (λ r. IsSameReceipt r made.receipt) (sym c.keep.ensures.receipt) c.in_ok-pair.ensures.same;
      };
      receipts = c.keep.ensures.kept ∙ ap (λ ks. from_base c.in_ok-pair.pair.base ks ++ made ∷ []) c.in_ok-reserve.ensures.items;
    }
