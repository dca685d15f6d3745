use Rattle.std.proofs.Common.{◌≡◌, true, false}
use Rattle.imap_names.proofs.MatchLaws.{is_tested}
use Rattle.imap_names.proofs.pattern.match_tokens.Goals as goal

pub returns-in-Differs : goal.returns-in-Differs
returns-in-Differs c = is_tested c.args.pattern.now c.args.text.now false (λ t. let no_way : false ≡ true = t in cc, λ m. absurd (c.in-Differs.ensures m))

pub returns : goal.returns
returns c = is_tested c.args.pattern.now c.args.text.now c.match_letters.result c.match_letters.ensures
