use Rattle.std.proofs.Common.{List, ℕ, sym, subst}
use Rattle.imap_answer.proofs.Printable.{shown_plain}
use Rattle.imap_answer.specs.Lines.{IsPlain}
use Rattle.imap_listing.proofs.shown_name.ShownName.of.Goals as goal

pub invariant_of-result : goal.invariant_of-result
invariant_of-result c =
    let user : List ℕ = c.user.result.now in
    subst IsPlain (sym c.in_ok-show_name.ensures.text) (shown_plain user c.args.name.now c.in_ok-show_name.ensures.valid)
