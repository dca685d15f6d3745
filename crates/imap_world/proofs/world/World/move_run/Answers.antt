use Rattle.std.proofs.Common.{◌≡◌, ℕ, List, map as map_list, sym, ap, subst, ◌∙◌}
use Rattle.std.specs.List.{list_all}
use Rattle.imap_name_map.specs.Renaming.{moved_names, renamed}
use Rattle.imap_name_map.specs.Rows.{inserted_all, run_of}
use Rattle.imap_name_map.proofs.WithinLaws.{run_is_empty}
use Rattle.imap_names.specs.Name.{Name}
use Rattle.imap_names.specs.Order.{Names, is_within, moved}
use Rattle.imap_world.specs.Mailbox.{Mailbox, plain_all}
use Rattle.imap_world.specs.Indexed.{IsIndexIn}
use Rattle.imap_world.specs.Kept.{AreKept, IsSound}
use Rattle.imap_world.specs.declared.mailbox_entry.MailboxEntry.{MailboxEntry}
use Rattle.imap_world.specs.Moving.{with_moved, with_validities}
use Rattle.imap_world.specs.Ready.{MayMove}
use Rattle.imap_world.specs.Stored.{Stored, world_of}
use Rattle.imap_world.proofs.Contents.{moved_names_plain, renamed_plain, within_plain}
use Rattle.imap_world.proofs.IndexMoved.{index_moved}
use Rattle.imap_world.proofs.KeptMessages.{kept_renamed, kept_with_validities}
use Rattle.imap_world.proofs.Moves.{arrivals_within, moved_is_sound, names_of_arrivals}
use Rattle.imap_world.proofs.world.World.move_run.Goals as goal

pub rename-requires-clause-names : goal.rename-requires-clause-names
rename-requires-clause-names c =
    let now = c.args.self.now in
    c.into_parts-names.ensures.names
    ∙ ap (λ (l : List (Name × ℕ)). map_list (λ (a : Name × ℕ). a.0) l) c.requires.may.next
    ∙ names_of_arrivals now.epochs.map (moved_names c.args.old.now c.args.new.now (plain_all now.mailboxes.map))
    ∙ moved_names_plain c.args.old.now c.args.new.now now.mailboxes.map
    ∙ ap (λ (s : Stored). moved_names c.args.old.now c.args.new.now s.mailboxes.map) (sym c.self.view_is)

pub rename-requires-clause-free : goal.rename-requires-clause-free
rename-requires-clause-free c =
    ap (λ (s : Stored). run_of c.args.new.now s.mailboxes.map) c.self.view_is
    ∙ run_is_empty c.args.new.now c.args.self.now.mailboxes.map (sym (within_plain c.args.new.now c.args.self.now.mailboxes.map) ∙ c.requires.may.free)

pub rename_run-requires : goal.rename_run-requires
rename_run-requires c =
    let now = c.args.self.now in
    ap (map_list (λ (a : Name × ℕ). a.0)) (c.as_slice.ensures.value ∙ c.into_parts-names.ensures.validities ∙ c.requires.may.next)
    ∙ names_of_arrivals now.epochs.map (moved_names c.args.old.now c.args.new.now (plain_all now.mailboxes.map))
    ∙ moved_names_plain c.args.old.now c.args.new.now now.mailboxes.map
    ∙ ap (λ (s : Stored). moved_names c.args.old.now c.args.new.now s.mailboxes.map) (sym c.self.view_is)
    ∙ ap (map_list (λ (e : Name × MailboxEntry). moved c.args.old.now c.args.new.now e.0)) (sym c.run_entries-run.ensures)

pub insert_run-requires-clause-within : goal.insert_run-requires-clause-within
insert_run-requires-clause-within c =
    let now = c.args.self.now in
    ap (λ (l : List (Name × ℕ)). list_all (λ (a : Name × ℕ). is_within c.args.new.now a.0) l) (c.into_parts-names.ensures.validities ∙ c.requires.may.next)
    ∙ arrivals_within now.epochs.map c.args.old.now c.args.new.now (plain_all now.mailboxes.map)

pub invariant_of-self : goal.invariant_of-self
invariant_of-self c =
    let old : Stored = record { mailboxes = c.self.inside.mailboxes; epochs = c.self.inside.epochs; subscriptions = c.self.inside.subscriptions } in
    let new : Stored = record { mailboxes = c.set_validities.new.mailboxes; epochs = c.insert_run.new.self; subscriptions = c.self.inside.subscriptions } in
    let came = c.args.arrivals in
    let mailboxes : plain_all new.mailboxes.map ≡ with_validities (renamed c.args.old.now c.args.new.now (plain_all old.mailboxes.map)) came =
    c.set_validities.ensures.mailboxes
    ∙ ap (λ (m : Names Mailbox). with_validities m c.deref.result.now) (ap plain_all c.rename.ensures.map ∙ renamed_plain c.args.old.now c.args.new.now old.mailboxes.map)
    ∙ ap (with_validities (renamed c.args.old.now c.args.new.now (plain_all old.mailboxes.map))) (c.deref.ensures.value ∙ c.into_parts-names.ensures.validities) in
    let epochs : new.epochs.map ≡ inserted_all old.epochs.map came =
    c.insert_run.ensures.map ∙ ap (inserted_all old.epochs.map) c.into_parts-names.ensures.validities in
    let is : world_of new ≡ with_moved (world_of old) c.args.old.now c.args.new.now came =
    λ i. record { mailboxes = mailboxes i; epochs = epochs i; subscriptions = (world_of old).subscriptions } in
    let may : MayMove c.args.old.now c.args.new.now came (world_of old) =
    subst (λ s. MayMove c.args.old.now c.args.new.now came (world_of s)) (sym c.self.view_is) c.requires.may in (
      subst IsSound (sym is) (moved_is_sound (world_of old) c.args.old.now c.args.new.now came may c.self.invariant.0),
      subst AreKept (sym mailboxes) (kept_with_validities came (renamed c.args.old.now c.args.new.now (plain_all old.mailboxes.map))
          (kept_renamed (plain_all old.mailboxes.map) c.self.invariant.1 c.args.old.now c.args.new.now (run_is_empty c.args.new.now (plain_all old.mailboxes.map) may.free))),
      subst (IsIndexIn c.rename_run.new.self) (sym mailboxes)
          (index_moved c.self.inside.index c.rename_run.new.self old.mailboxes.map c.args.old.now c.args.new.now came c.run_entries-run.result.now c.run_entries-run.ensures may.allowed may.free
          c.self.invariant.2 c.rename_run.ensures),
    )

pub returns-clause-world : goal.returns-clause-world
returns-clause-world c =
    let old : Stored = record { mailboxes = c.self.inside.mailboxes; epochs = c.self.inside.epochs; subscriptions = c.self.inside.subscriptions } in
    let new : Stored = record { mailboxes = c.set_validities.new.mailboxes; epochs = c.insert_run.new.self; subscriptions = c.self.inside.subscriptions } in
    let came = c.args.arrivals in
    let mailboxes : plain_all new.mailboxes.map ≡ with_validities (renamed c.args.old.now c.args.new.now (plain_all old.mailboxes.map)) came =
    c.set_validities.ensures.mailboxes
    ∙ ap (λ (m : Names Mailbox). with_validities m c.deref.result.now) (ap plain_all c.rename.ensures.map ∙ renamed_plain c.args.old.now c.args.new.now old.mailboxes.map)
    ∙ ap (with_validities (renamed c.args.old.now c.args.new.now (plain_all old.mailboxes.map))) (c.deref.ensures.value ∙ c.into_parts-names.ensures.validities) in
    let epochs : new.epochs.map ≡ inserted_all old.epochs.map came =
    c.insert_run.ensures.map ∙ ap (inserted_all old.epochs.map) c.into_parts-names.ensures.validities in
    let is : world_of new ≡ with_moved (world_of old) c.args.old.now c.args.new.now came =
    λ i. record { mailboxes = mailboxes i; epochs = epochs i; subscriptions = (world_of old).subscriptions } in
    is ∙ ap (λ (s : Stored). with_moved (world_of s) c.args.old.now c.args.new.now came) c.self.view_is
