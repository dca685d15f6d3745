use Rattle.std.proofs.Common.{◌≡◌, rules, is_lt}
use Rattle.std.proofs.lemmas.Fn.{always_returns_same}
use Rattle.imap_listing.specs.Texts.{text_cmp}
use Rattle.imap_listing.proofs.Order.{rising_tested}
use Rattle.imap_listing.proofs.ordered.are_rising.Goals as goal

pub returns : goal.returns
returns c =
    rising_tested c.args.names.now c.is_sorted_by.result
    (c.is_sorted_by.ensures.cases (λ x y. is_lt (text_cmp x y)) (always_returns_same _ (λ a r. r ≡ is_lt (text_cmp a.0.now a.1.0.now)) _ (λ a r q k. search rules)))
