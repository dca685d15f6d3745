-- Which values may go to another thread.
use denote.RattleType.{RattleType}
use mathlib.Core.List.{List, [], ◌∷◌}
use Prim.Native.Nat.{ℕ}
use denote.Builtin as builtin
use denote.Ref.{NamedLft}
use denote.Struct.Field.{mut_ref_field, shr_ref_field, u64-field}
use denote.Struct.Tuple.{TupleAt}
use denote.Enum.Enum.{Enum}
use denote.Enum.Declared as E
use denote.Param.Send.{IsSend, IsSync, enum_send, recorded_send, sendable, view_send}
use denote.Param.SendFields.{as_row_send, declared_send}
use denote.Hole.FixLaws.{layer_row}
use denote.Hole.FixSend.{Sends, fix_send}
use Rattle.std.proofs.sync.ledger.Book.TheSendSync.{the_send as book_send}
use Rattle.std.proofs.sync.ledger.Share.TheSendSync.{the_send as share_send}
use Rattle.std.proofs.Crossing.{crosses, Deque-send}
use Rattle.imap_lex.proofs.octets.Octets.TheSendSync.{the_send as octets_send}
use Rattle.imap_syntax.proofs.date.Date.TheSendSync.{the_send as date_send}
use Rattle.imap_syntax.proofs.field_name.FieldName.TheSendSync.{the_send as field_name_send}
use Rattle.imap_syntax.proofs.flag.Flag.TheSendSync.{the_send as flag_send}
use Rattle.imap_syntax.proofs.set.MessageSet.TheSendSync.{the_send as set_send}
use Rattle.imap_query.proofs.search.SearchDate.TheSendSync.{the_send as search_date_send}
use Rattle.imap_query.proofs.search.SearchIn.TheSendSync.{the_send as search_in_send}
use Rattle.imap_query.specs.declared.search.SearchKey.TheBlock.{the_members, member-SearchKey}
use Rattle.imap_query.specs.contracts.search.SearchKey.{the_row as search_row, the_ring, the_layer, the_hole, the_type}
use Rattle.imap_query.specs.contracts.search.SearchKeys.{the_row as search_keys_row}
use Rattle.imap_lex.proofs.tag.Tag.TheSendSync.{the_send as tag_send}
use Rattle.imap_syntax.proofs.atom.Atom.TheSendSync.{the_send as atom_send}
use Rattle.imap_syntax.proofs.date.DateTime.TheSendSync.{the_send as date_time_send}
use Rattle.imap_syntax.proofs.items.Items.TheSendSync.{the_send as items_send}
use Rattle.imap_syntax.proofs.one_or_more.OneOrMore.TheSendSync.{the_send as one_or_more_send}
use Rattle.imap_syntax.proofs.set.Numbering.TheSendSync.{the_send as numbering_send}
use Rattle.imap_query.proofs.fetch.FetchItem.TheSendSync.{the_send as fetch_item_send}
use Rattle.imap_query.proofs.search.SearchReturn.TheSendSync.{the_send as search_return_send}
use Rattle.imap_query.proofs.status.StatusItem.TheSendSync.{the_send as status_item_send}
use Rattle.imap_commands.proofs.commands.list.ListReturn.TheSendSync.{the_send as list_return_send}
use Rattle.imap_commands.proofs.commands.list.Patterns.TheSendSync.{the_send as patterns_send}
use Rattle.imap_commands.proofs.commands.list.Selection.TheSendSync.{the_send as selection_send}
use Rattle.imap_commands.proofs.commands.select.SelectParameters.TheSendSync.{the_send as select_parameters_send}
use Rattle.imap_commands.proofs.commands.store.StoreSpec.TheSendSync.{the_send as store_spec_send}
use Rattle.imap_commands.specs.contracts.command.Command.{the_type as command_type, the_field as command_field}
use Rattle.imap_commands.specs.contracts.request.Request.{the_field as request_field, the_type as request_type}
use Rattle.imap_answer.proofs.moment.Moment.TheSendSync.{the_send as moment_send}
use Rattle.imap_serve.proofs.CoreSend.{the_send as core_send}
use Rattle.imap_serve.proofs.SessionIdSend.{the_send as session_send}
use Rattle.imap_serve.specs.ActType.{the_row as act_row, the_type as act_type}
use Rattle.imap_serve.specs.StepType.{the_row as step_row, the_type as step_type}
use Rattle.imap_serve.proofs.OwnCountsSend.{the_send as own_counts_send}
use Rattle.imap_keeper.specs.declared.keeper.Keeper as keeper
use Rattle.imap_serve.specs.HallType.{the_row as hall_row}
use Rattle.imap_serve.specs.EntryType.{the_row as entry_row, the_type as entry_type}
use Rattle.imap_serve.proofs.ReceiptSend.{the_send as receipt_send}
use Rattle.imap_serve.proofs.SharedRepliesSend.{the_send as shared_replies_send}
use Rattle.imap_host.specs.contracts.host_state.HostState.{the_row as host_state_row, the_type as host_state_type}
use Rattle.imap_host.specs.contracts.host.Host.{the_row as host_row}
use Rattle.imap_serve.specs.MadeStepInside.{the_row as inside_row, the_type as inside_type}
use Rattle.imap_serve.specs.MadeStepType.{the_row as made_row}
use Rattle.imap_host.specs.contracts.seat.Seat.{the_row as seat_row, the_type as seat_type}
use Rattle.std.specs.contracts.alloc.Global.{the_row as global_row}
use Rattle.std.specs.declared.sync.ledger.Ledger as ledger
use Rattle.imap_user_map.proofs.user_map.UserMap.TheSendSync.{the_send as user_map_send, the_sync as user_map_sync}

pub ruleset parts_cross = (sendable, crosses, as_row_send, octets_send, date_send, field_name_send, flag_send, set_send, search_date_send, search_in_send)

layer_sends : (h : the_members → RattleType) → ((j : the_members) → IsSend (h j)) → IsSend (layer_row the_ring member-SearchKey h)
layer_sends h all = let T = the_layer h in recorded_send (Enum (E.shape T)) T.D T.to T.to_one (enum_send (E.shape T) (search parts_cross depth 60))

step : (i : the_members) → Sends the_ring i
step member-SearchKey = record { send = layer_sends }

hole_send : IsSend the_hole
hole_send = fix_send the_ring step member-SearchKey

pub search_send : IsSend search_row
search_send = recorded_send (Enum (E.shape the_type)) the_type.D the_type.to the_type.to_one (enum_send (E.shape the_type) (search (parts_cross, hole_send) depth 60 fits 20000))

pub search_keys_send : IsSend search_keys_row
search_keys_send = search (sendable, crosses, search_send) depth 60 fits 20000

pub ruleset command_parts = (sendable, crosses, as_row_send, tag_send, atom_send, date_time_send, items_send, one_or_more_send, numbering_send, fetch_item_send, search_return_send, status_item_send, list_return_send, patterns_send, selection_send, select_parameters_send, store_spec_send, search_keys_send, octets_send, flag_send, set_send)

pub command_field_send : IsSend command_field.row
command_field_send = enum_send (E.shape command_type) (search command_parts depth 60, (search command_parts depth 60, (search command_parts depth 60, (search command_parts depth 60, (search command_parts depth 60, (search command_parts depth 60, (search command_parts depth 60, (search command_parts depth 60, (search command_parts depth 60, (search command_parts depth 60, (search command_parts depth 60, (search command_parts depth 60, (search command_parts depth 60, (search command_parts depth 60, (search command_parts depth 60, (search command_parts depth 60, (search command_parts depth 60, (search command_parts depth 60, (search command_parts depth 60, (search command_parts depth 60, (search command_parts depth 60, (search command_parts depth 60, (search command_parts depth 60, (search command_parts depth 60, (search command_parts depth 60, (search command_parts depth 60, (search command_parts depth 60, (search command_parts depth 60, (search command_parts depth 60, (search command_parts depth 60, (search command_parts depth 60, tt)))))))))))))))))))))))))))))))

pub request_field_send : IsSend request_field.row
request_field_send = enum_send (E.shape request_type)
    ((tag_send, (command_field_send, tt)), (search (sendable, crosses, tag_send) depth 60, (search (sendable, crosses, tag_send) depth 60, tt)))

pub act_send : IsSend act_row
act_send = recorded_send (Enum (E.shape act_type)) act_type.D act_type.to act_type.to_one (enum_send (E.shape act_type)
    (tt, ((request_field_send, tt), (tt, (tt, (tt, tt))))))

pub step_send : IsSend step_row
step_send = declared_send step_type (session_send, (moment_send, (act_send, tt)))

pub entry_send : IsSend entry_row
entry_send = declared_send entry_type (step_send, (search (sendable, as_row_send) depth 60, (search (sendable, as_row_send, shared_replies_send) depth 60, tt)))

pub hall_send : (K : RattleType) (g : keeper.Ghosts K.Denot) → IsSend K → IsSend (hall_row K g)
hall_send K g send = search (sendable, crosses, core_send, user_map_send, own_counts_send, entry_send) depth 60 fits 20000

inside_send : IsSend inside_row
inside_send = declared_send inside_type (step_send, (receipt_send, tt))

pub made_send : IsSend made_row
made_send = search (view_send, inside_send) depth 10

pub seat_send : (L : RattleType) (g : ledger.Ghosts L.Denot) → IsSend L → IsSend (seat_row L g)
seat_send L g send = declared_send (seat_type L g) (session_send, (search sendable, (search sendable, (Deque-send made_row made_send, (share_send L g, (search sendable, tt))))))

pub host_state_send : (K L : RattleType) (g : keeper.Ghosts K.Denot) (h : ledger.Ghosts L.Denot) → IsSend K → IsSend L → IsSend (host_state_row K L g h)
host_state_send K L g h k l = declared_send (host_state_type K L g h) (hall_send K g k, (search sendable, (book_send L h, (share_send L h, tt))))

pub host_sync : (K L : RattleType) (g : keeper.Ghosts K.Denot) (h : ledger.Ghosts L.Denot) → IsSend K → IsSend L → IsSync (host_row K L g h)
host_sync K L g h k l = search (sendable, crosses, host_state_send, user_map_sync) depth 60 fits 20000

pub pair_send : (A B : RattleType) → IsSend A → IsSend B → IsSend (TupleAt (40 ∷ 44 ∷ 41 ∷ []) (A ∷ B ∷ []))
pair_send A B a b = search sendable depth 60

-- what the closure of a worker captures
module _ (name : List ℕ) (R H P C G T : RattleType) (l m n o p s : NamedLft) (r : builtin.One R.mir) (h : builtin.One H.mir) (q : builtin.One P.mir) (c : builtin.One C.mir) (g : builtin.One G.mir) (t : builtin.One T.mir) where
  abbrev pub captured : RattleType
  captured = TupleAt name (
      (shr_ref_field l R r).row ∷ global_row ∷ (shr_ref_field m H h).row ∷ (mut_ref_field n P q).row
      ∷ (shr_ref_field o C c).row ∷ (shr_ref_field p G g).row ∷ (shr_ref_field s T t).row ∷ u64-field.row ∷ u64-field.row ∷ [])

  pub captured_send : IsSync R → IsSync H → IsSend P → IsSync C → IsSync G → IsSync T → IsSend captured
  captured_send rs hs ps cs gs ts = search (sendable, crosses) depth 60 fits 20000
