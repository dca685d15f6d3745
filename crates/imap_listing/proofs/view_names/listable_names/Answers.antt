use Rattle.std.proofs.Common.{◌≡◌, IfSome, List, map, filter_map, sym, ap, subst, ◌∙◌}
use Rattle.std.proofs.lemmas.Result.{IfOk-weaker}
use Rattle.imap_answer.specs.Starts.{HaveAllSeen}
use Rattle.imap_listing.specs.Texts.{Text}
use Rattle.imap_listing.specs.ViewNames.{HaveSame, listable_at, listable_names}
use Rattle.imap_listing.proofs.Started.{same_itself, started}
use Rattle.imap_listing.proofs.view_names.listable_names.Goals as goal

pub returns-in-Some : goal.returns-in-Some
returns-in-Some c =
    let view = c.args.view.now in
    let all : HaveAllSeen view (map (λ name. name.now) c.in-Some.names.items) = subst (λ o. IfSome o (λ names. HaveAllSeen view (map (λ name. name.now) names.items))) c.in-Some.is c.in_ok-names.ensures in
    IfOk-weaker c.listable_among.result (λ listed. listed.items ≡ filter_map (listable_at view) (map (λ name. name.now) c.as_slice.result.now)) (λ listed. HaveSame listed.items (listable_names view))
    (λ listed e. subst (λ (l : List Text). HaveSame l (listable_names view))
    (sym (e ∙ ap (λ l. filter_map (listable_at view) (map (λ name. name.now) l)) c.as_slice.ensures.value)) (started view (map (λ name. name.now) c.in-Some.names.items) all))
    c.listable_among.ensures

pub returns-in-None : goal.returns-in-None
returns-in-None c =
    let view = c.args.view.now in
    IfOk-weaker c.all_listable.result (λ listed. listed.items ≡ listable_names view) (λ listed. HaveSame listed.items (listable_names view))
    (λ listed e. same_itself listed.items (listable_names view) e) c.all_listable.ensures
