use Rattle.std.proofs.Common.{◌≡◌, ◌∙◌, ap, rules}
use Rattle.imap_lex.specs.Framing.{awaiting}
use Rattle.imap_lex.specs.Places.{begun}
use Rattle.imap_lex.specs.Found.{last_octets}
use Rattle.imap_lex.proofs.Feeds.{next-unended}
use Rattle.imap_lex.proofs.framer.Framer.feed.Goals as goal

pub returns-in_ok-hold-in-Unended-clause-next : goal.returns-in_ok-hold-in-Unended-clause-next
returns-in_ok-hold-in-Unended-clause-next c =
    let f = c.self.inside in
    let held = f.held.items in
    let is : c.args.self.now ≡ awaiting f.max_octets (begun held (last_octets f.line held) f.place) = search rules in
    let outcome = rw c.in-Unended.is at (c.in_ok-place.ensures.outcome f.max_octets held) in
    let stands = rw c.in-Unended.is at c.in_ok-place.ensures.stands in
    let items = c.in_ok-hold-in-Unended.ensures.ok in
    rw (c.if-self.false, items) (next-unended f.max_octets f.line c.in-Unended.line held c.last_octets-line.result.now c.args.piece.now c.args.self.now f.place c.in-Unended.place _ _ (c.last_octets-line.ensures ∙ ap (last_octets f.line) c.deref.ensures.value) is stands.1 outcome)
