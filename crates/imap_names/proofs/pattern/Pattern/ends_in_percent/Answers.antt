use Rattle.std.proofs.Common.{ap, ◌∙◌}
use Rattle.imap_names.specs.MatchTest.{ends_in_percent}
use Rattle.imap_names.proofs.PatternLaws.{ends_by, ends_by_last}
use Rattle.imap_names.proofs.pattern.Pattern.ends_in_percent.Goals as goal

pub returns-in-Some : goal.returns-in-Some
returns-in-Some c =
    c.is_percent.ensures ∙ ap ends_by c.in-Some.ensures.value ∙ ends_by_last c.as_slice.result.now
    ∙ ap ends_in_percent (c.as_slice.ensures.value ∙ c.self.view_is)
