-- What COPY and MOVE ask for may be asked for by their user.
use Rattle.std.proofs.Common.{◌≡◌, ℕ, suc, ◌+◌, ◌≤◌, Bool, true, false, cond, not, List, [], ◌∷◌, filter, length, Option, Some, None, refl, sym, ap, subst, ◌∙◌, arith}
use Rattle.std.specs.Prelude.{option_and_then}
use Rattle.std.specs.List.{list_all}
use Rattle.std.specs.FinMap as map
use Rattle.std.proofs.lemmas.Bool.{ltb-false}
use Rattle.std.proofs.lemmas.List.{length-map}
use Rattle.imap_answer.specs.Fit.{IsViewed, MayBeAsked}
use Rattle.imap_batch.specs.declared.batch.Batch.{Batch}
use Rattle.imap_batch.specs.declared.batch.NewMessage.{NewMessage}
use Rattle.imap_batch.specs.Batch.{are_known}
use Rattle.imap_batch.specs.Seen.{IsPossible}
use Rattle.imap_mailbox.specs.Flags.{has_too_many}
use Rattle.imap_mailbox.specs.Lent.{row_uids}
use Rattle.imap_mailbox.specs.Rows.{Row, first_uid}
use Rattle.imap_mailbox.specs.Shown.{content_of}
use Rattle.imap_names.specs.Name.{Name}
use Rattle.imap_names.proofs.NameLaws.{equal_names}
use Rattle.imap_targets.specs.State.{Selection}
use Rattle.imap_targets.specs.Left.{events_left}
use Rattle.imap_targets.proofs.Possible.{chosen_known, may_change}
use Rattle.imap_view.specs.declared.readable.Readable.{Readable}
use Rattle.imap_view.specs.MessagesAfter.{IsPossibleAt, MayAskOf}
use Rattle.imap_view.specs.Readable.{readable_in, readable_of}
use Rattle.imap_view.specs.Seen.{Seen, seen_by_rights}
use Rattle.imap_view.specs.View.{View}
use Rattle.imap_world.specs.Mailbox.{Mailbox}
use Rattle.imap_world.specs.Messages.{is_same_name}
use Rattle.imap_changes.specs.Copies.{copies_of, copy_of}
use Rattle.imap_batch.specs.Batch.{adding, expunging}
use Rattle.imap_changes.specs.Transfer.{copy_effect, lacks_move_events, lacks_room, move_between, move_effect, move_within}
use Rattle.imap_changes.proofs.Possible.{IsReadOf, IsShown, few_chosen, few_copies, may_add, may_move, read_by_rights, shown_is}

-- the events of a batch that only expunges
few_events : (n left : ℕ) → n ≤ left → 0 + (0 + n) ≤ left
few_events n left le = omega (arith, le)

module _ (view : View) (target : Name) (seen : Seen) (is : map.get view.seen target ≡ Some seen) where
  -- a batch that is possible for what is shown
  asked_of : (viewed : IsViewed view) (shows : IsShown view viewed target seen) → (copies : List NewMessage)
      → IsPossible (adding view.user copies) (seen_by_rights view.site view.user shows.rights shows.mailbox).messages → MayAskOf view (record { name = target; batch = adding view.user copies })
  asked_of viewed shows copies possible = record {
    own = refl;
    possible = subst (IsPossibleAt (adding view.user copies)) (sym is) (subst (λ (k : Seen). IsPossible (adding view.user copies) k.messages) shows.same possible);
  }

  -- some copies may be added, if there is room for them
  adds : (viewed : IsViewed view) (copies : List NewMessage) (count : ℕ) → length copies ≡ suc count → list_all (λ (m : NewMessage). not (has_too_many m.flags)) copies ≡ true
      → lacks_room seen (suc count) ≡ false → MayAskOf view (record { name = target; batch = adding view.user copies })
  adds viewed copies count long few room =
      let shows = shown_is view viewed target seen is in
      asked_of viewed shows copies
      (may_add view shows.mailbox shows.kept shows.rights copies count long few (ap (λ (k : Seen). lacks_room k (suc count)) shows.same ∙ room))

  -- ---- messages of a mailbox that is read

  module _ (s : Selection) (mailbox : Readable) (reads : readable_in view s.name ≡ Some mailbox) (chosen : Row → Bool) where
    read_by : (viewed : IsViewed view) (o : Option Seen) → map.get view.seen s.name ≡ o → option_and_then readable_of o ≡ Some mailbox → (m : Mailbox) × (rights : ℕ) × IsReadOf mailbox (content_of view.user m.messages) m.messages
    read_by viewed None there e = absurd (cc e)
    read_by viewed (Some source) there e =
        let shows = shown_is view viewed s.name source there in
        (shows.mailbox, shows.rights, read_by_rights view shows.mailbox shows.kept shows.rights mailbox (ap readable_of shows.same ∙ e))

    read : (viewed : IsViewed view) → (m : Mailbox) × (rights : ℕ) × IsReadOf mailbox (content_of view.user m.messages) m.messages
    read viewed = read_by viewed (map.get view.seen s.name) refl reads

    abbrev rows : List Row
    rows = filter chosen mailbox.rows

    all_few : IsViewed view → list_all (λ (m : NewMessage). not (has_too_many m.flags)) (copies_of seen.rights rows) ≡ true
    all_few viewed = few_copies seen.rights rows (few_chosen chosen mailbox.rows (read viewed).2.keywords)

    all_known : IsViewed view → are_known 0 (row_uids rows) (row_uids mailbox.rows) ≡ true
    all_known viewed = chosen_known chosen 0 first_uid mailbox.next_uid mailbox.rows (omega arith) (read viewed).2.rise

    -- ---- COPY

    copies_by : (copied : List Row) → (IsViewed view → list_all (λ (m : NewMessage). not (has_too_many m.flags)) (copies_of seen.rights copied) ≡ true) → lacks_room seen (length (row_uids copied)) ≡ false
        → IsViewed view → MayBeAsked view (copy_effect view.user target (copies_of seen.rights copied))
    copies_by [] few room viewed = tt
    copies_by (r ∷ copied) few room viewed =
        let long : length (copies_of seen.rights (r ∷ copied)) ≡ length (row_uids (r ∷ copied)) = length-map (r ∷ copied) (copy_of seen.rights) ∙ sym (length-map (r ∷ copied) (λ (x : Row). x.uid)) in
        (adds viewed (copies_of seen.rights (r ∷ copied)) (length (row_uids copied)) long (few viewed) room, tt)

    pub may_copy : lacks_room seen (length (row_uids rows)) ≡ false → IsViewed view → MayBeAsked view (copy_effect view.user target (copies_of seen.rights rows))
    may_copy = copies_by rows all_few

    -- ---- MOVE

    within : s.name ≡ target → (copies : List NewMessage) (uids : List ℕ) (count : ℕ) → length copies ≡ suc count → length uids ≡ suc count → lacks_room seen (suc count) ≡ false → lacks_move_events mailbox true (suc count) ≡ false
        → (viewed : IsViewed view) → list_all (λ (m : NewMessage). not (has_too_many m.flags)) copies ≡ true → are_known 0 uids (row_uids mailbox.rows) ≡ true
        → MayAskOf view (record { name = target; batch = record { user = view.user; added = copies; marks = []; expunged = uids } })
    within same copies uids count long also room events viewed few known =
        let batch : Batch = record { user = view.user; added = copies; marks = []; expunged = uids } in
        let shows = shown_is view viewed target seen is in
        let readable : readable_of seen ≡ Some mailbox = ap (option_and_then readable_of) (sym is ∙ ap (map.get view.seen) (sym same)) ∙ reads in
        record {
          own = refl;
          possible = subst (IsPossibleAt batch) (sym is) (subst (λ (k : Seen). IsPossible batch k.messages) shows.same
              (may_move view shows.mailbox shows.kept shows.rights mailbox (ap readable_of shows.same ∙ readable) copies uids count long also few
              (ap (λ (k : Seen). lacks_room k (suc count)) shows.same ∙ room) events known));
        }

    takes : (viewed : IsViewed view) (uids : List ℕ) → lacks_move_events mailbox false (length uids) ≡ false → are_known 0 uids (row_uids mailbox.rows) ≡ true → MayAskOf view (record { name = s.name; batch = expunging view.user uids })
    takes viewed uids events known =
        let le = ltb-false (events_left mailbox) (length uids) events in
        may_change view viewed s.name mailbox (expunging view.user uids)
        (record { none = refl; keywords = refl; events = few_events (length uids) (events_left mailbox) le; marked = refl; expunged = known }) reads refl

    moves_by : (copied : List Row) → (IsViewed view → list_all (λ (m : NewMessage). not (has_too_many m.flags)) (copies_of seen.rights copied) ≡ true) → (IsViewed view → are_known 0 (row_uids copied) (row_uids mailbox.rows) ≡ true)
        → lacks_room seen (length (row_uids copied)) ≡ false → (same : Bool) → is_same_name s.name target ≡ same → lacks_move_events mailbox same (length (row_uids copied)) ≡ false
        → IsViewed view → MayBeAsked view (move_effect view.user target s.name (copies_of seen.rights copied) (row_uids copied))
    moves_by [] few known room same test events viewed = tt
    moves_by (r ∷ copied) few known room same test events viewed =
        subst (λ b. MayBeAsked view (cond b (Some (move_within view.user target copies uids)) (Some (move_between view.user target s.name copies uids)))) (sym test) (either same test events)
      where
        copies : List NewMessage
        copies = copies_of seen.rights (r ∷ copied)

        uids : List ℕ
        uids = row_uids (r ∷ copied)

        long : length copies ≡ length uids
        long = length-map (r ∷ copied) (copy_of seen.rights) ∙ sym (length-map (r ∷ copied) (λ (x : Row). x.uid))

        either : (b : Bool) → is_same_name s.name target ≡ b → lacks_move_events mailbox b (length uids) ≡ false
            → MayBeAsked view (cond b (Some (move_within view.user target copies uids)) (Some (move_between view.user target s.name copies uids)))
        either true e enough = (within (equal_names s.name target e) copies uids (length (row_uids copied)) long refl room enough viewed (few viewed) (known viewed), tt)
        either false e enough = (adds viewed copies (length (row_uids copied)) long (few viewed) room, (e, takes viewed uids enough (known viewed)))

    pub may_transfer : lacks_room seen (length (row_uids rows)) ≡ false → lacks_move_events mailbox (is_same_name s.name target) (length (row_uids rows)) ≡ false
        → IsViewed view → MayBeAsked view (move_effect view.user target s.name (copies_of seen.rights rows) (row_uids rows))
    may_transfer room events = moves_by rows all_few all_known room (is_same_name s.name target) refl events
