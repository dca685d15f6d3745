use Rattle.std.proofs.Common.{ℕ, List, Some, None, refl}
use Rattle.imap_answer.specs.Alike.{AnswersAlike}
use Rattle.imap_answer.specs.Answer.{refusal}
use Rattle.imap_commands.specs.declared.command.Command.{Command}
use Rattle.imap_commands.specs.declared.command.Command.TheVariants as command
use Rattle.imap_changes.specs.declared.transfer_kind.TransferKind.TheVariants as kind
use Rattle.imap_list.specs.ListCommand.{namespace_answer}
use Rattle.imap_print.specs.declared.response.Refusal.TheVariants.{Cannot}
use Rattle.imap_session.specs.State.{SessionState, selected_name}
use Rattle.imap_syntax.specs.Moments.{Moment}
use Rattle.imap_core.specs.Answers.{command_answer}
use Rattle.imap_core.specs.Commands.Session.{authenticate_answer, capability_answer, enable_answer, noop_answer}
use Rattle.imap_core.proofs.StepsAlike.{alike_on, alone}
use Rattle.imap_core.proofs.laws.steps_are_alike.Goals as goal

-- by the laws of the crates of commands, in the order of their calls: imap_changes, imap_list, imap_messages, SELECT,
-- imap_search and imap_tree
pub returns : goal.returns
returns c = alike_on commands c.commands_are_alike-4.ensures c.commands_are_alike.ensures.close
  where
    commands : (own : SessionState) (tag : List ℕ) (at : Moment) (what : Command) → AnswersAlike (λ view. command_answer view own tag at what)
    commands own tag at command.Expunge = c.commands_are_alike.ensures.expunge own tag None
    commands own tag at (command.UidExpunge named) = c.commands_are_alike.ensures.expunge own tag (Some named)
    commands own tag at (command.Store numbering named spec) = c.commands_are_alike.ensures.store own tag (record { numbering = numbering; messages = named; spec = spec })
    commands own tag at (command.Copy numbering named mailbox) =
        c.commands_are_alike.ensures.transfer own tag (record { kind = kind.Copy; numbering = numbering; messages = named; mailbox = mailbox })
    commands own tag at (command.Move numbering named mailbox) =
        c.commands_are_alike.ensures.transfer own tag (record { kind = kind.Move; numbering = numbering; messages = named; mailbox = mailbox })
    commands own tag at (command.List selection reference patterns returns) =
        c.commands_are_alike-2.ensures.list tag (record { selection = selection; reference = reference; patterns = patterns; returns = returns })
    commands own tag at (command.Status mailbox items) = c.commands_are_alike-2.ensures.status tag mailbox items
    commands own tag at (command.Subscribe mailbox) = c.commands_are_alike-2.ensures.subscribe tag mailbox
    commands own tag at (command.Unsubscribe mailbox) = c.commands_are_alike-2.ensures.unsubscribe tag mailbox
    commands own tag at (command.Append mailbox flags date message) =
        c.commands_are_alike-3.ensures.append tag at (record { mailbox = mailbox; flags = flags; date = date; message = message })
    commands own tag at (command.Fetch numbering named items since vanished) =
        c.commands_are_alike-3.ensures.fetch own tag (record { numbering = numbering; messages = named; items = items; changed_since = since; vanished = vanished })
    commands own tag at (command.Search numbering returns charset keys) =
        c.commands_are_alike-5.ensures own tag (record { numbering = numbering; returns = returns; charset = charset; keys = keys })
    commands own tag at (command.Create mailbox) = c.commands_are_alike-6.ensures.create tag mailbox
    commands own tag at (command.Delete mailbox) = c.commands_are_alike-6.ensures.delete (selected_name own) tag mailbox
    commands own tag at (command.Rename from to) = c.commands_are_alike-6.ensures.rename (selected_name own) tag from to
    commands own tag at (command.SetAcl mailbox identifier rights) = c.commands_are_alike-6.ensures.set_acl tag mailbox identifier rights
    commands own tag at (command.DeleteAcl mailbox identifier) = c.commands_are_alike-6.ensures.delete_acl tag mailbox identifier
    commands own tag at (command.GetAcl mailbox) = c.commands_are_alike-6.ensures.get_acl tag mailbox
    commands own tag at (command.ListRights mailbox identifier) = c.commands_are_alike-6.ensures.list_rights tag mailbox identifier
    commands own tag at (command.MyRights mailbox) = c.commands_are_alike-6.ensures.my_rights tag mailbox
    commands own tag at command.Capability = alone (capability_answer tag) refl
    commands own tag at command.Noop = alone (noop_answer tag) refl
    commands own tag at command.Namespace = alone (namespace_answer tag) refl
    commands own tag at command.Authenticate = alone (authenticate_answer tag) refl
    commands own tag at (command.Enable words) = alone (enable_answer own.enabled tag words) refl
    commands own tag at _ = alone (refusal tag Cannot) refl
