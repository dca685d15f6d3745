-- What each command is answered, by what the user sees and the session.
use Rattle.std.specs.Prelude.{ℕ, List, Some, None}
use Rattle.imap_answer.specs.Answer.{Answer, refusal}
use Rattle.imap_commands.specs.declared.command.Command.{Command}
use Rattle.imap_commands.specs.declared.command.Command.TheVariants as command
use Rattle.imap_list.specs.ListCommand.{list_answer, namespace_answer}
use Rattle.imap_list.specs.Status.{status_answer}
use Rattle.imap_list.specs.Subscriptions.{subscribe_answer, unsubscribe_answer}
use Rattle.imap_syntax.specs.declared.set.MessageSet.{MessageSet}
use Rattle.imap_syntax.specs.declared.set.Numbering.{Numbering}
use Rattle.imap_syntax.specs.Moments.{Moment}
use Rattle.imap_changes.specs.Expunge.{expunge_answer}
use Rattle.imap_changes.specs.Store.{store_answer}
use Rattle.imap_changes.specs.declared.transfer_kind.TransferKind.{TransferKind}
use Rattle.imap_changes.specs.declared.transfer_kind.TransferKind.TheVariants as kind
use Rattle.imap_changes.specs.Transfer.{transfer_answer}
use Rattle.imap_messages.specs.Append.{append_answer}
use Rattle.imap_messages.specs.Fetch.{fetch_answer}
use Rattle.imap_print.specs.declared.response.Refusal.TheVariants.{Cannot}
use Rattle.imap_search.specs.Search.{search_answer}
use Rattle.imap_session.specs.State.{SessionState, selected_name}
use Rattle.imap_tree.specs.Create.{create_answer}
use Rattle.imap_tree.specs.Delete.{delete_answer}
use Rattle.imap_tree.specs.GetAcl.{get_acl_answer}
use Rattle.imap_tree.specs.ListRights.{list_rights_answer}
use Rattle.imap_tree.specs.MyRights.{my_rights_answer}
use Rattle.imap_tree.specs.Rename.{rename_answer}
use Rattle.imap_tree.specs.SetAcl.{delete_acl_answer, set_acl_answer}
use Rattle.imap_view.specs.View.{View}
use Rattle.imap_core.specs.Commands.Session.{capability_answer, noop_answer}
use Rattle.imap_core.specs.Commands.Session.{authenticate_answer, enable_answer}

-- COPY or MOVE
abbrev pub transfer : View → SessionState → (tag : List ℕ) → TransferKind → Numbering → MessageSet →
    (mailbox : List ℕ) → Answer
transfer view own tag kind numbering messages mailbox = transfer_answer view own tag (record {
  kind = kind;
  numbering = numbering;
  messages = messages;
  mailbox = mailbox;
})

-- COPY and MOVE. The others are answered below, or have an outcome of their own (`command_outcome`). Each is
-- named, so that a new one can't be forgotten
abbrev pub transfer_command : View → SessionState → (tag : List ℕ) → Command → Answer
transfer_command view own tag (command.Copy numbering messages mailbox) =
    transfer view own tag kind.Copy numbering messages mailbox
transfer_command view own tag (command.Move numbering messages mailbox) =
    transfer view own tag kind.Move numbering messages mailbox
transfer_command view own tag command.Capability = refusal tag Cannot
transfer_command view own tag command.Noop = refusal tag Cannot
transfer_command view own tag command.Logout = refusal tag Cannot
transfer_command view own tag command.Namespace = refusal tag Cannot
transfer_command view own tag command.Idle = refusal tag Cannot
transfer_command view own tag command.Close = refusal tag Cannot
transfer_command view own tag command.Unselect = refusal tag Cannot
transfer_command view own tag command.Authenticate = refusal tag Cannot
transfer_command view own tag command.Expunge = refusal tag Cannot
transfer_command view own tag (command.Enable words) = refusal tag Cannot
transfer_command view own tag (command.Select mailbox parameters) = refusal tag Cannot
transfer_command view own tag (command.Examine mailbox parameters) = refusal tag Cannot
transfer_command view own tag (command.Create mailbox) = refusal tag Cannot
transfer_command view own tag (command.Delete mailbox) = refusal tag Cannot
transfer_command view own tag (command.Rename from to) = refusal tag Cannot
transfer_command view own tag (command.Subscribe mailbox) = refusal tag Cannot
transfer_command view own tag (command.Unsubscribe mailbox) = refusal tag Cannot
transfer_command view own tag (command.List selection reference patterns returns) = refusal tag Cannot
transfer_command view own tag (command.Status mailbox items) = refusal tag Cannot
transfer_command view own tag (command.Append mailbox flags date message) = refusal tag Cannot
transfer_command view own tag (command.SetAcl mailbox identifier rights) = refusal tag Cannot
transfer_command view own tag (command.DeleteAcl mailbox identifier) = refusal tag Cannot
transfer_command view own tag (command.GetAcl mailbox) = refusal tag Cannot
transfer_command view own tag (command.ListRights mailbox identifier) = refusal tag Cannot
transfer_command view own tag (command.MyRights mailbox) = refusal tag Cannot
transfer_command view own tag (command.UidExpunge messages) = refusal tag Cannot
transfer_command view own tag (command.Search numbering returns charset keys) = refusal tag Cannot
transfer_command view own tag (command.Fetch numbering messages items since vanished) = refusal tag Cannot
transfer_command view own tag (command.Store numbering messages store) = refusal tag Cannot

-- EXPUNGE and STORE. The others are COPY and MOVE
abbrev pub change_answer : View → SessionState → (tag : List ℕ) → Command → Answer
change_answer view own tag command.Expunge = expunge_answer view own tag None
change_answer view own tag (command.UidExpunge messages) = expunge_answer view own tag (Some messages)
change_answer view own tag (command.Store numbering messages store) =
    store_answer view own tag (record { numbering = numbering; messages = messages; spec = store })
change_answer view own tag other = transfer_command view own tag other

-- APPEND, FETCH and SEARCH. The others are those that change messages
abbrev pub message_answer : View → SessionState → (tag : List ℕ) → (at : Moment) → Command → Answer
message_answer view own tag at (command.Append mailbox flags date message) =
    append_answer view tag at (record {
      mailbox = mailbox;
      flags = flags;
      date = date;
      message = message;
    })
message_answer view own tag at (command.Fetch numbering messages items since vanished) =
    fetch_answer view own tag (record {
      numbering = numbering;
      messages = messages;
      items = items;
      changed_since = since;
      vanished = vanished;
    })
message_answer view own tag at (command.Search numbering returns charset keys) =
    search_answer view own tag (record {
      numbering = numbering;
      returns = returns;
      charset = charset;
      keys = keys;
    })
message_answer view own tag at other = change_answer view own tag other

-- the commands on access control lists (RFC 4314). The others are those on messages
abbrev pub acl_answer : View → SessionState → (tag : List ℕ) → (at : Moment) → Command → Answer
acl_answer view own tag at (command.SetAcl mailbox identifier rights) =
    set_acl_answer view tag mailbox identifier rights
acl_answer view own tag at (command.DeleteAcl mailbox identifier) =
    delete_acl_answer view tag mailbox identifier
acl_answer view own tag at (command.GetAcl mailbox) = get_acl_answer view tag mailbox
acl_answer view own tag at (command.ListRights mailbox identifier) =
    list_rights_answer view tag mailbox identifier
acl_answer view own tag at (command.MyRights mailbox) = my_rights_answer view tag mailbox
acl_answer view own tag at other = message_answer view own tag at other

abbrev pub command_answer : View → SessionState → (tag : List ℕ) → (at : Moment) → Command → Answer
command_answer view own tag at command.Capability = capability_answer tag
command_answer view own tag at command.Noop = noop_answer tag
command_answer view own tag at command.Authenticate = authenticate_answer tag
command_answer view own tag at command.Namespace = namespace_answer tag
command_answer view own tag at (command.List selection reference patterns returns) =
    list_answer view tag (record {
      selection = selection;
      reference = reference;
      patterns = patterns;
      returns = returns;
    })
command_answer view own tag at (command.Subscribe mailbox) = subscribe_answer view tag mailbox
command_answer view own tag at (command.Unsubscribe mailbox) = unsubscribe_answer view tag mailbox
command_answer view own tag at (command.Create mailbox) = create_answer view tag mailbox
command_answer view own tag at (command.Delete mailbox) =
    delete_answer view (selected_name own) tag mailbox
command_answer view own tag at (command.Rename from to) =
    rename_answer view (selected_name own) tag from to
command_answer view own tag at (command.Enable words) = enable_answer own.enabled tag words
command_answer view own tag at (command.Status mailbox items) = status_answer view tag mailbox items
command_answer view own tag at other = acl_answer view own tag at other
