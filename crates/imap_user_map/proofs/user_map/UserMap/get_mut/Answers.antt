use Rattle.std.proofs.Common.{◌≡◌, ap, sym, ◌∙◌, refl, subst}
use Rattle.std.specs.Option.{OnSome}
use Rattle.std.specs.FinMap as map
use Rattle.imap_user_map.specs.Rows.{rows_of, with_value}
use Rattle.imap_user_map.proofs.Entries.{written, get-by_octets}
use Rattle.imap_user_map.proofs.user_map.UserMap.get_mut.Goals as goal

pub returns : goal.returns
returns g c =
    let old = c.self.inside.entries in (
      (
        refl,
        (λ w. subst (λ s. OnSome c.get_mut.result (rows_of (c.get_mut.follows.lender w) ≡ with_value s c.args.user.now w)) c.self.view_is (written old (c.get_mut.follows.lender w) c.args.user.now w c.get_mut.result c.get_mut.ensures.value (c.get_mut.follows.holds w))),
        ap rows_of c.get_mut.follows.holds-at-none ∙ c.self.view_is,
      ),
      c.get_mut.ensures.value ∙ sym (get-by_octets _ _) ∙ ap (λ r. map.get r.map c.args.user.now) c.self.view_is,
    )
