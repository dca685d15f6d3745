use Rattle.std.proofs.Common.{◌∙◌, arith, ap, subst, sym, length, ◌<◌}
use Rattle.imap_names.specs.Condensed.{literals_of}
use Rattle.imap_names.specs.Letters.{letters_of}
use Rattle.imap_names.specs.MatchTest.{letters_match, is_match}
use Rattle.imap_names.proofs.CondensedLaws.{too_short}
use Rattle.imap_names.proofs.pattern.Pattern.matches.Goals as goal

pub returns-then-text-self : goal.returns-then-text-self
returns-then-text-self c =
    too_short c.self.inside.tokens.items c.args.text.now (omega (arith, c.self.invariant.1, c.if-text-self.true))
    ∙ ap (λ p. is_match p c.args.text.now) c.self.view_is

pub returns : goal.returns
returns c =
    c.match_tokens.ensures ∙ (λ i. letters_match (c.as_slice.ensures.value i) (c.of.ensures i))
    ∙ (λ i. c.self.invariant.0 i (letters_of c.args.text.now))
    ∙ ap (λ p. is_match p c.args.text.now) c.self.view_is
