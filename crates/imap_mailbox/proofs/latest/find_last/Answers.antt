use Rattle.std.proofs.Common.{◌≡◌, true, false, sym, ◌∙◌}
use Rattle.imap_mailbox.proofs.latest.find_last.Goals as goal

pub returns-then-is_at : goal.returns-then-is_at
returns-then-is_at c = (c.place_of-place.ensures.place, c.is_at.ensures.0 c.if-is_at.true)

pub returns-else-is_at : goal.returns-else-is_at
returns-else-is_at c = (
  c.place_of-place.ensures.place,
  c.place_of-place.ensures.within,
  λ there. let z : true ≡ false = sym (c.is_at.ensures.1 there) ∙ c.if-is_at.false in cc z,
)
