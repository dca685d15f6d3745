-- What a session is answered by the messages that it knows, and not by the mod-sequence up to which it was told all.
use Rattle.std.proofs.Common.{◌≡◌, ℕ, nat_lt, Bool, true, false, cond, not, ◌&&◌, List, [], ◌∷◌, ◌++◌, length, Option, Some, None, refl, sym, ap}
use Rattle.std.specs.Prelude.{option_map}
use Rattle.std.specs.FinMap as map
use Rattle.imap_answer.specs.Answer.{Answer, carried_out, refusal}
use Rattle.imap_answer.specs.Name.{if_named, name_of_text}
use Rattle.imap_changes.specs.declared.transfer_kind.TransferKind.{TransferKind}
use Rattle.imap_changes.specs.declared.transfer_kind.TransferKind.TheVariants as kind
use Rattle.imap_changes.specs.Copies.{rows_named}
use Rattle.imap_changes.specs.Expunge as expunge
use Rattle.imap_changes.specs.Store as store
use Rattle.imap_changes.specs.Transfer as transfer
use Rattle.imap_commands.specs.declared.command.Command.{Command}
use Rattle.imap_commands.specs.declared.command.Command.TheVariants as command
use Rattle.imap_commands.specs.declared.commands.select.SelectParameters.{SelectParameters}
use Rattle.imap_commands.specs.declared.commands.store.StoreSpec.{StoreSpec}
use Rattle.imap_mailbox.specs.Rows.{Row, is_among}
use Rattle.imap_messages.specs.Fetch as fetch
use Rattle.imap_messages.specs.Select.{lines_if_asked, select_with_parameters, with_lines}
use Rattle.imap_names.specs.Name.{Name}
use Rattle.imap_print.specs.declared.enabled.EnabledCapabilities.{EnabledCapabilities}
use Rattle.imap_print.specs.declared.response.Refusal.TheVariants.{BadCharset, Cannot, ExpungeIssued, Malformed, NoPerm}
use Rattle.imap_rights.specs.Rights.{has_any, insert}
use Rattle.imap_search.specs.Search as search
use Rattle.imap_session.specs.Compared.{is_known}
use Rattle.imap_session.specs.declared.options.NoticeOptions.{NoticeOptions}
use Rattle.imap_session.specs.Lost.{is_lost_selection}
use Rattle.imap_session.specs.Select.{select_if_named, select_if_readable}
use Rattle.imap_session.specs.State.{Selection, SessionState}
use Rattle.imap_session.specs.Telling.{if_any}
use Rattle.imap_sessions.proofs.Alike.{AreKnownAlike}
use Rattle.imap_sessions.proofs.SameKnown.{same_difference, same_notices}
use Rattle.imap_sessions.specs.Alike.{with_up_to}
use Rattle.imap_sessions.specs.Notices.{mailbox_left, notice_lines, notice_telling, selected_mailbox}
use Rattle.imap_syntax.specs.declared.set.MessageSet.{MessageSet}
use Rattle.imap_syntax.specs.Moments.{Moment}
use Rattle.imap_targets.specs.declared.message_numbers.Numbered.{Numbered}
use Rattle.imap_targets.specs.MessageNumbers.{has_known_numbers, is_by_uid, is_refused, is_saved}
use Rattle.imap_targets.specs.NewFlags.{storing_rights}
use Rattle.imap_targets.specs.Target.{target_refusal}
use Rattle.imap_targets.specs.UnchangedSince.{skipped_numbers, unskipped}
use Rattle.imap_tree.specs.Delete.{delete_answer}
use Rattle.imap_tree.specs.Rename.{rename_answer}
use Rattle.imap_view.specs.declared.readable.Readable.{Readable}
use Rattle.imap_view.specs.Readable.{readable_in}
use Rattle.imap_view.specs.Seen.{Seen}
use Rattle.imap_view.specs.View.{View}
use Rattle.imap_world.specs.declared.effect.Effect.{Effect}
use Rattle.imap_core.specs.Answers.{command_answer}

-- as if the session had been told all up to another mod-sequence
abbrev pub told_up_to : ℕ → SessionState → SessionState
told_up_to up_to own = record { selected = option_map (with_up_to up_to) own.selected; enabled = own.enabled; idle = own.idle }

-- it knows the same of the messages of the mailbox
abbrev pub KnowsAlike : (up_to : ℕ) → Option Selection → Option Readable → Type 0
KnowsAlike up_to selected mailbox = (s : Selection) (r : Readable) → selected ≡ Some s → mailbox ≡ Some r → AreKnownAlike s.up_to up_to r.rows

same_test : (a b : Bool) → not a ≡ not b → a ≡ b
same_test true true e = refl
same_test false false e = refl
same_test true false e = absurd (cc e)
same_test false true e = absurd (cc e)

module _ (view : View) (up_to : ℕ) where
  abbrev retold : Option Selection → Option Selection
  retold selected = option_map (with_up_to up_to) selected

  same_name : (selected : Option Selection) → option_map (λ (s : Selection). s.name) (retold selected) ≡ option_map (λ (s : Selection). s.name) selected
  same_name None = refl
  same_name (Some s) = refl

  pub same_mailbox : (selected : Option Selection) → selected_mailbox view (retold selected) ≡ selected_mailbox view selected
  same_mailbox None = refl
  same_mailbox (Some s) = refl

  pub same_lost : (selected : Option Selection) → is_lost_selection view (retold selected) ≡ is_lost_selection view selected
  same_lost None = refl
  same_lost (Some s) = refl

  pub same_left : (own : SessionState) → mailbox_left view (told_up_to up_to own) ≡ mailbox_left view own
  same_left own = λ i. cond (same_lost own.selected i) None (same_mailbox own.selected i)

  -- ---- EXPUNGE and CLOSE

  same_expunge : (qresync : Bool) (tag : List ℕ) (set : Option MessageSet) (selected : Option Selection)
      → expunge.expunge_if_selected view qresync tag set (retold selected) ≡ expunge.expunge_if_selected view qresync tag set selected
  same_expunge qresync tag set None = refl
  same_expunge qresync tag set (Some s) =
      ap (λ (answer : Answer). cond (expunge.is_saved_set set) (refusal tag Cannot) (cond (not (expunge.may_expunge view s)) (refusal tag NoPerm) answer)) (by (readable_in view s.name))
    where
      by : (found : Option Readable) → expunge.expunge_if_readable view qresync tag set (with_up_to up_to s) found ≡ expunge.expunge_if_readable view qresync tag set s found
      by None = refl
      by (Some mailbox) = refl

  pub same_close : (tag : List ℕ) (selected : Option Selection) → expunge.close_if_selected view tag (retold selected) ≡ expunge.close_if_selected view tag selected
  same_close tag None = refl
  same_close tag (Some s) = ap (λ (effect : Option Effect). carried_out [] tag None effect) (by (readable_in view s.name))
    where
      by : (found : Option Readable) → expunge.close_effect view (with_up_to up_to s) found ≡ expunge.close_effect view s found
      by None = refl
      by (Some mailbox) = refl

  -- ---- FETCH and SEARCH

  same_fetch : (enabled : EnabledCapabilities) (tag : List ℕ) (arguments : fetch.FetchArguments) (selected : Option Selection)
      → fetch.fetch_if_selected view enabled tag arguments (retold selected) ≡ fetch.fetch_if_selected view enabled tag arguments selected
  same_fetch enabled tag arguments None = refl
  same_fetch enabled tag arguments (Some s) =
      ap (λ (answer : Answer). cond (fetch.is_malformed enabled (length s.known) arguments) (refusal tag Malformed) (cond (fetch.is_impossible arguments) (refusal tag Cannot) answer)) (by (readable_in view s.name))
    where
      by : (found : Option Readable) → fetch.fetch_if_readable view enabled tag arguments (with_up_to up_to s) found ≡ fetch.fetch_if_readable view enabled tag arguments s found
      by None = refl
      by (Some mailbox) = refl

  same_search : (tag : List ℕ) (arguments : search.SearchArguments) (selected : Option Selection)
      → search.search_if_selected view tag arguments (retold selected) ≡ search.search_if_selected view tag arguments selected
  same_search tag arguments None = refl
  same_search tag arguments (Some s) =
      ap (λ (answer : Answer). cond (search.is_malformed (length s.known) arguments.keys) (refusal tag Malformed)
      (cond (not (search.is_known_charset arguments.charset)) (refusal tag BadCharset) (cond (search.is_impossible arguments) (refusal tag Cannot) answer)))
      (by (readable_in view s.name))
    where
      by : (found : Option Readable) → search.search_if_readable tag arguments (with_up_to up_to s) found ≡ search.search_if_readable tag arguments s found
      by None = refl
      by (Some mailbox) = refl

  -- ---- COPY and MOVE

  may_take : (what : TransferKind) (s : Selection) → transfer.may_take what view (with_up_to up_to s) ≡ transfer.may_take what view s
  may_take kind.Copy s = refl
  may_take kind.Move s = refl

  same_rows : (what : TransferKind) (tag : List ℕ) (s : Selection) (mailbox : Readable) (target : Name) (seen : Seen) (rows : List Row)
      → transfer.transfer_rows what view tag (with_up_to up_to s) mailbox target seen rows ≡ transfer.transfer_rows what view tag s mailbox target seen rows
  same_rows kind.Copy tag s mailbox target seen rows = refl
  same_rows kind.Move tag s mailbox target seen rows = refl

  module _ (tag : List ℕ) (arguments : transfer.TransferArguments) (s : Selection) where
    to_seen : (mailbox : Readable) (target : Name) (found : Option Seen)
        → transfer.transfer_to_seen view tag arguments (with_up_to up_to s) mailbox target found ≡ transfer.transfer_to_seen view tag arguments s mailbox target found
    to_seen mailbox target None = refl
    to_seen mailbox target (Some seen) =
        let messages = transfer.messages_of arguments mailbox.next_uid s.known in
        ap (λ (answer : Answer). cond (not (has_any seen.rights insert)) (refusal tag (target_refusal view target))
        (cond (is_refused (is_by_uid arguments.numbering) mailbox.rows messages) (refusal tag ExpungeIssued) answer))
        (same_rows arguments.kind tag s mailbox target seen (rows_named messages mailbox.rows))

    if_readable : (found : Option Readable) → transfer.transfer_if_readable view tag arguments (with_up_to up_to s) found ≡ transfer.transfer_if_readable view tag arguments s found
    if_readable None = refl
    if_readable (Some mailbox) = λ i. if_named view tag arguments.mailbox (λ target. to_seen mailbox target (map.get view.seen target) i)

  same_transfer : (tag : List ℕ) (arguments : transfer.TransferArguments) (selected : Option Selection)
      → transfer.transfer_if_selected view tag arguments (retold selected) ≡ transfer.transfer_if_selected view tag arguments selected
  same_transfer tag arguments None = refl
  same_transfer tag arguments (Some s) =
      λ i. cond (not (has_known_numbers arguments.numbering (length s.known) arguments.messages)) (refusal tag Malformed)
      (cond (is_saved arguments.messages) (refusal tag Cannot)
      (cond (not (may_take arguments.kind s i)) (refusal tag NoPerm) (if_readable tag arguments s (readable_in view s.name) i)))

  -- ---- STORE, which tells of a message in each case if it isn't known as it is

  module _ (rights : ℕ) (spec : StoreSpec) (s : Selection) where
    stored_one : (number : Option ℕ) (row : Row) → is_known s.up_to row ≡ is_known up_to row
        → store.stored_if_named rights spec (with_up_to up_to s) number row ≡ store.stored_if_named rights spec s number row
    stored_one None row e = refl
    stored_one (Some number) row e =
        ap (λ (above : Bool). store.stored_as number (is_among row.uid s.known && above) row (store.flags_changed rights spec.change spec.flags row.flags)
        (store.seen_if_permitted rights spec.change spec.flags row.seen) ∷ [])
        (same_test (nat_lt up_to row.number) (nat_lt s.up_to row.number) (sym e))

    stored_all : (messages : List Numbered) (rows : List Row) → AreKnownAlike s.up_to up_to rows → store.stored_all rights spec (with_up_to up_to s) messages rows ≡ store.stored_all rights spec s messages rows
    stored_all messages [] h = refl
    stored_all messages (row ∷ rows) h = λ i. stored_one (store.number_with row.uid messages) row h.0 i ++ stored_all messages rows h.1 i

  same_store : (enabled : EnabledCapabilities) (tag : List ℕ) (arguments : store.StoreArguments) (selected : Option Selection) → KnowsAlike up_to selected (selected_mailbox view selected)
      → store.store_if_selected view enabled tag arguments (retold selected) ≡ store.store_if_selected view enabled tag arguments selected
  same_store enabled tag arguments None h = refl
  same_store enabled tag arguments (Some s) h =
      ap (λ (answer : Answer). cond (not (has_known_numbers arguments.numbering (length s.known) arguments.messages)) (refusal tag Malformed)
      (cond (is_saved arguments.messages) (refusal tag Cannot) (cond (store.lacks_right (storing_rights view s) arguments.spec.flags) (refusal tag NoPerm) answer)))
      (by (readable_in view s.name) (λ r is. h s r refl is))
    where
      by : (found : Option Readable) → ((r : Readable) → found ≡ Some r → AreKnownAlike s.up_to up_to r.rows)
          → store.store_if_readable view enabled tag arguments (storing_rights view s) (with_up_to up_to s) found
          ≡ store.store_if_readable view enabled tag arguments (storing_rights view s) s found
      by None h = refl
      by (Some mailbox) h =
          let since = arguments.spec.unchanged_since in
          let messages = store.messages_of arguments mailbox.next_uid s.known in
          let skipped = skipped_numbers arguments.numbering since mailbox.rows messages in
          ap (λ stored. cond (is_refused (is_by_uid arguments.numbering) mailbox.rows messages) (refusal tag ExpungeIssued)
          (store.store_messages view enabled tag arguments s mailbox skipped stored))
          (stored_all (storing_rights view s) arguments.spec s (unskipped since mailbox.rows messages) mailbox.rows (h mailbox refl))

  -- ---- SELECT

  module _ (enabled : EnabledCapabilities) (idle : Option (List ℕ)) (tag : List ℕ) (read_only : Bool) where
    abbrev with_selected : Option Selection → SessionState
    with_selected selected = record { selected = selected; enabled = enabled; idle = idle }

    selected_at : (selected : Option Selection) (name : Name) (found : Option Readable)
        → select_if_readable view (with_selected (retold selected)) tag read_only name found ≡ select_if_readable view (with_selected selected) tag read_only name found
    selected_at None name None = refl
    selected_at None name (Some mailbox) = refl
    selected_at (Some s) name None = refl
    selected_at (Some s) name (Some mailbox) = refl

    selected_by : (selected : Option Selection) (name : Option Name) → select_if_named view (with_selected (retold selected)) tag read_only name ≡ select_if_named view (with_selected selected) tag read_only name
    selected_by None None = refl
    selected_by (Some s) None = refl
    selected_by selected (Some name) = selected_at selected name (readable_in view name)

  pub same_select : (own : SessionState) (tag : List ℕ) (read_only : Bool) (mailbox : List ℕ) (parameters : SelectParameters)
      → select_with_parameters view (told_up_to up_to own) tag read_only mailbox parameters ≡ select_with_parameters view own tag read_only mailbox parameters
  same_select own tag read_only mailbox parameters =
      ap (with_lines parameters (lines_if_asked view mailbox parameters.qresync)) (selected_by own.enabled own.idle tag read_only own.selected (name_of_text view mailbox))

  -- ---- each command

  pub same_answer : (own : SessionState) → KnowsAlike up_to own.selected (selected_mailbox view own.selected) → (tag : List ℕ) (at : Moment) (what : Command)
      → command_answer view (told_up_to up_to own) tag at what ≡ command_answer view own tag at what
  same_answer own h tag at command.Expunge = same_expunge own.enabled.qresync tag None own.selected
  same_answer own h tag at (command.UidExpunge messages) = same_expunge own.enabled.qresync tag (Some messages) own.selected
  same_answer own h tag at (command.Store numbering messages spec) = same_store own.enabled tag (record { numbering = numbering; messages = messages; spec = spec }) own.selected h
  same_answer own h tag at (command.Copy numbering messages mailbox) =
      same_transfer tag (record { kind = kind.Copy; numbering = numbering; messages = messages; mailbox = mailbox }) own.selected
  same_answer own h tag at (command.Move numbering messages mailbox) =
      same_transfer tag (record { kind = kind.Move; numbering = numbering; messages = messages; mailbox = mailbox }) own.selected
  same_answer own h tag at (command.Fetch numbering messages items since vanished) =
      same_fetch own.enabled tag (record { numbering = numbering; messages = messages; items = items; changed_since = since; vanished = vanished }) own.selected
  same_answer own h tag at (command.Search numbering returns charset keys) =
      same_search tag (record { numbering = numbering; returns = returns; charset = charset; keys = keys }) own.selected
  same_answer own h tag at (command.Delete mailbox) = ap (λ name. delete_answer view name tag mailbox) (same_name own.selected)
  same_answer own h tag at (command.Rename from to) = ap (λ name. rename_answer view name tag from to) (same_name own.selected)
  same_answer own h tag at _ = refl

-- ---- notices

module _ (o : NoticeOptions) (up_to : ℕ) where
  pub same_lines : (told : List ℕ) (selected : Option Selection) (mailbox : Option Readable) → KnowsAlike up_to selected mailbox
      → notice_lines o told (option_map (with_up_to up_to) selected) mailbox ≡ notice_lines o told selected mailbox
  same_lines told selected None h = refl
  same_lines told None (Some r) h = refl
  same_lines told (Some s) (Some r) h = sym (same_notices o s.up_to up_to s.known r.rows (h s r refl refl) told)

  pub same_telling : (selected : Option Selection) (mailbox : Option Readable) → KnowsAlike up_to selected mailbox
      → notice_telling o (option_map (with_up_to up_to) selected) mailbox ≡ notice_telling o selected mailbox
  same_telling selected None h = refl
  same_telling None (Some r) h = refl
  same_telling (Some s) (Some r) h = ap if_any (sym (same_difference o s.up_to up_to s.known r.rows (h s r refl refl) r.highest))
