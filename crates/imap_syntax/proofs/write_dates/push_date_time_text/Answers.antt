use Rattle.std.proofs.Common.{ℕ, List, [], ◌∷◌, ◌++◌, ap}
use Rattle.imap_syntax.specs.Moments.{Moment}
use Rattle.imap_syntax.specs.WrittenDates.{fixed_date_text, clock_text, zone_text}
use Rattle.imap_syntax.proofs.Pushes.{and_then}
use Rattle.imap_syntax.proofs.write_dates.push_date_time_text.Goals as goal

pub returns : goal.returns
returns c =
    let t = c.args.moment.now in
    let day : List ℕ = fixed_date_text t.date in
    let clock : List ℕ = clock_text t in
    let zone : List ℕ = zone_text t.zone in
    let space : List ℕ = 32 ∷ [] in
    let date_pushed = rw (ap (λ (m : Moment). m.date) c.moment.view_is) at c.in_ok-push_fixed_date.ensures in
    let zone_pushed = rw (ap (λ (m : Moment). m.zone) c.moment.view_is) at c.in_ok-push_zone.ensures in
    and_then _ _ _ day (32 ∷ (clock ++ (32 ∷ zone))) date_pushed
    (and_then _ _ _ space (clock ++ (32 ∷ zone)) c.in_ok-push.ensures.items
    (and_then _ _ _ clock (32 ∷ zone) c.in_ok-push_clock.ensures
    (and_then _ _ _ space zone c.in_ok-push-2.ensures.items zone_pushed)))
