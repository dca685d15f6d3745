use Rattle.std.proofs.Common.{ap}
use Rattle.std.specs.Cmp.Lexicographic.{nat_list_cmp_total}
use Rattle.std.specs.FinMap.{slice_cmp-IsAntisymmetric, nat_cmp-IsAntisymmetric}
use Rattle.imap_user_map.proofs.Within.{same_if_back, same_if_not}
use Rattle.imap_user_map.proofs.user_map.UserMap.is_same.Goals as goal

pub returns-then-is_within : goal.returns-then-is_within
returns-then-is_within g c =
    same_if_back nat_list_cmp_total (slice_cmp-IsAntisymmetric nat_cmp-IsAntisymmetric) g.V.Part.kept c.args.self.now.map c.args.other.now.map _ _ c.is_within-then-is_within.result
    (ap (λ r. r.map) c.self.view_is) (ap (λ r. r.map) c.other.view_is) (c.is_within.ensures.0 c.if-is_within.true) c.is_within-then-is_within.ensures

pub returns-else-is_within : goal.returns-else-is_within
returns-else-is_within g c =
    same_if_not nat_list_cmp_total (slice_cmp-IsAntisymmetric nat_cmp-IsAntisymmetric) g.V.Part.kept c.args.self.now.map c.args.other.now.map _ c.is_within.result
    (ap (λ r. r.map) c.self.view_is) c.if-is_within.false c.is_within.ensures.1
