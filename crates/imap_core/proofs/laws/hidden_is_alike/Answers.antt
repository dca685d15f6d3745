use Rattle.std.proofs.Common.{ap, ◌∙◌}
use Rattle.imap_world.specs.declared.site.Site.{Site}
use Rattle.imap_view.specs.View.{view_of}
use Rattle.imap_view.proofs.Afters.{hidden_absent}
use Rattle.imap_sessions.proofs.Alike.{equal_alike}
use Rattle.imap_core.specs.Machine.{own_in}
use Rattle.imap_core.proofs.laws.hidden_is_alike.Goals as goal

pub returns : goal.returns
returns c = λ user s t sites sessions kept kept_other differ. record {
  views = hidden_absent s.site user s.world t.world differ ∙ ap (λ (site : Site). view_of site user t.world) sites;
  sessions = equal_alike s.world user (own_in s user) (own_in t user) sessions;
  kept = kept;
  kept_other = kept_other;
}
