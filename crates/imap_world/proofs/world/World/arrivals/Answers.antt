use Rattle.std.proofs.Common.{◌≡◌, ℕ, cond, List, [], ◌∷◌, ◌++◌, map as map_list, Ok, Err, sym, ap, subst, ◌∙◌}
use Rattle.std.specs.List.{list_all}
use Rattle.imap_name_map.specs.Renaming.{moved_names}
use Rattle.imap_name_map.specs.Rows.{run_of}
use Rattle.imap_names.specs.Name.{Name}
use Rattle.imap_names.specs.Order.{moved}
use Rattle.imap_world.specs.Changing.{AnswersOrMemory}
use Rattle.imap_world.specs.declared.error.WorldError.TheVariants.{Limit}
use Rattle.imap_world.specs.Moving.{arrivals_at, can_arrive}
use Rattle.imap_world.specs.Stored.{world_of}
use Rattle.imap_world.proofs.Coming.{all_came, one_came, one_refused, within_run}
use Rattle.imap_world.proofs.Contents.{moved_names_plain}
use Rattle.imap_world.proofs.world.World.arrivals.Goals as goal

pub arrival-requires : goal.arrival-requires
arrival-requires c =
    within_run c.args.old.now c.mailboxes.result.now.map c.run_entries-run.result.now c.loop-entry.entry-index c.entry-item.result
    (c.run_entries-run.ensures ∙ ap (λ q. run_of q c.mailboxes.result.now.map) c.as_ref.ensures.name)
    c.loop-entry-test.true c.entry-item.is

pub returns-in-Err : goal.returns-in-Err
returns-in-Err c =
    let epochs = c.args.self.now.epochs.map in
    let f : Name → Name = moved c.args.old.now c.args.new.now in
    let run : map_list (λ e. f e.0) c.run_entries-run.result.now ≡ moved_names c.args.old.now c.args.new.now (world_of c.args.self.now).mailboxes =
    ap (map_list (λ e. f e.0)) (c.run_entries-run.ensures ∙ ap (λ q. run_of q c.mailboxes.result.now.map) c.as_ref.ensures.name)
    ∙ sym (moved_names_plain c.args.old.now c.args.new.now c.mailboxes.result.now.map)
    ∙ ap (moved_names c.args.old.now c.args.new.now) c.mailboxes.ensures in
    subst (λ names. AnswersOrMemory {A = List (Name × ℕ)} (Err c.in-Err.error) (cond (list_all (can_arrive epochs) names) (Ok (arrivals_at epochs names)) (Err Limit))) run
    (one_refused epochs f c.run_entries-run.result.now c.loop-entry.entry-index c.entry-item.result c.in-Err.error c.loop-entry-test.true c.entry-item.is c.in-Err.ensures)

pub returns : goal.returns
returns c =
    let epochs = c.args.self.now.epochs.map in
    let f : Name → Name = moved c.args.old.now c.args.new.now in
    let run : map_list (λ e. f e.0) c.run_entries-run.result.now ≡ moved_names c.args.old.now c.args.new.now (world_of c.args.self.now).mailboxes =
    ap (map_list (λ e. f e.0)) (c.run_entries-run.ensures ∙ ap (λ q. run_of q c.mailboxes.result.now.map) c.as_ref.ensures.name)
    ∙ sym (moved_names_plain c.args.old.now c.args.new.now c.mailboxes.result.now.map)
    ∙ ap (moved_names c.args.old.now c.args.new.now) c.mailboxes.ensures in
    subst (λ names. AnswersOrMemory (Ok c.loop-entry.arrivals) (cond (list_all (can_arrive epochs) names) (Ok (arrivals_at epochs names)) (Err Limit))) run
    (all_came epochs f c.run_entries-run.result.now c.loop-entry.entry-index c.loop-entry.arrivals c.loop-entry-test.false c.loop-entry.invariant.made c.loop-entry.invariant.can)

pub loop-entry-preserved : goal.loop-entry-preserved
loop-entry-preserved c =
    let epochs = c.args.self.now.epochs.map in
    let f : Name → Name = moved c.args.old.now c.args.new.now in
    let came : Name × ℕ = (c.in-Ok.name, c.in-Ok.validity) in
    let more = one_came epochs f c.run_entries-run.result.now c.loop-entry.entry-index c.entry-item.result came c.loop-entry-test.true c.entry-item.is c.in-Ok.ensures in
    record {
      made = c.in_ok-push-in-Ok.ensures ∙ ap (λ (l : List (Name × ℕ)). l ++ came ∷ []) c.loop-entry.invariant.made ∙ more.0;
      can = more.1 c.loop-entry.invariant.can;
    }
