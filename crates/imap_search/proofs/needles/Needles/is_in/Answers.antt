use Rattle.std.proofs.Common.{◌∙◌, ap, sym}
use Rattle.std.specs.Option.{option_copied}
use Rattle.imap_search.specs.Within.{is_within}
use Rattle.imap_search.proofs.KeptFolds.{kept_fold}
use Rattle.imap_search.proofs.needles.Needles.is_in.Goals as goal

pub returns-in-Some : goal.returns-in-Some
returns-in-Some c =
    let found = sym c.get.ensures.value ∙ ap option_copied c.in-Some.is in
    c.is_part.ensures ∙ ap (λ part. is_within part c.args.text.now) (kept_fold c.args.wanted.now _ c.in-Some.needle.now c.self.invariant found)
