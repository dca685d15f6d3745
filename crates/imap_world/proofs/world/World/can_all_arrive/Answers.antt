use Rattle.std.proofs.Common.{◌≡◌, true, false, map as map_list, sym, ap, subst, ◌∙◌}
use Rattle.std.specs.List.{list_all}
use Rattle.imap_name_map.specs.Renaming.{moved_names}
use Rattle.imap_name_map.specs.Rows.{run_of}
use Rattle.imap_names.specs.Name.{Name}
use Rattle.imap_names.specs.Order.{moved}
use Rattle.imap_world.specs.Moving.{can_arrive}
use Rattle.imap_world.specs.Stored.{world_of}
use Rattle.imap_world.proofs.Coming.{can_all, can_more, can_not, within_run}
use Rattle.imap_world.proofs.Contents.{moved_names_plain}
use Rattle.imap_world.proofs.world.World.can_all_arrive.Goals as goal

pub can_arrive-requires : goal.can_arrive-requires
can_arrive-requires c =
    within_run c.args.old.now c.mailboxes.result.now.map c.run_entries-run.result.now c.loop-entry.entry-index c.entry-item.result
    (c.run_entries-run.ensures ∙ ap (λ q. run_of q c.mailboxes.result.now.map) c.as_ref.ensures.name)
    c.loop-entry-test.true c.entry-item.is

pub returns-then-not-can_arrive : goal.returns-then-not-can_arrive
returns-then-not-can_arrive c =
    let epochs = c.args.self.now.epochs.map in
    let f : Name → Name = moved c.args.old.now c.args.new.now in
    let run : map_list (λ e. f e.0) c.run_entries-run.result.now ≡ moved_names c.args.old.now c.args.new.now (world_of c.args.self.now).mailboxes =
    ap (map_list (λ e. f e.0)) (c.run_entries-run.ensures ∙ ap (λ q. run_of q c.mailboxes.result.now.map) c.as_ref.ensures.name)
    ∙ sym (moved_names_plain c.args.old.now c.args.new.now c.mailboxes.result.now.map)
    ∙ ap (moved_names c.args.old.now c.args.new.now) c.mailboxes.ensures in
    subst (λ names. false ≡ list_all (can_arrive epochs) names) run
    (can_not epochs f c.run_entries-run.result.now c.loop-entry.entry-index c.entry-item.result c.loop-entry-test.true c.entry-item.is (sym c.can_arrive.ensures ∙ c.if-not-can_arrive.true))

pub returns : goal.returns
returns c =
    let epochs = c.args.self.now.epochs.map in
    let f : Name → Name = moved c.args.old.now c.args.new.now in
    let run : map_list (λ e. f e.0) c.run_entries-run.result.now ≡ moved_names c.args.old.now c.args.new.now (world_of c.args.self.now).mailboxes =
    ap (map_list (λ e. f e.0)) (c.run_entries-run.ensures ∙ ap (λ q. run_of q c.mailboxes.result.now.map) c.as_ref.ensures.name)
    ∙ sym (moved_names_plain c.args.old.now c.args.new.now c.mailboxes.result.now.map)
    ∙ ap (moved_names c.args.old.now c.args.new.now) c.mailboxes.ensures in
    subst (λ names. true ≡ list_all (can_arrive epochs) names) run
    (can_all epochs f c.run_entries-run.result.now c.loop-entry.entry-index c.loop-entry-test.false c.loop-entry.invariant)

pub loop-entry-preserved : goal.loop-entry-preserved
loop-entry-preserved c =
    can_more c.args.self.now.epochs.map (moved c.args.old.now c.args.new.now) c.run_entries-run.result.now c.loop-entry.entry-index c.entry-item.result
    c.loop-entry-test.true c.entry-item.is (sym c.can_arrive.ensures ∙ c.if-not-can_arrive.false) c.loop-entry.invariant
