-- Copies stand after the messages that were there, and MOVE adds before it expunges.
use Rattle.std.proofs.Common.{◌≡◌, ℕ, ◌+◌, Bool, true, false, cond, List, [], ◌∷◌, ◌++◌, append_assoc, length, map, eqb, Some, refl, sym, ap, ◌∙◌}
use Rattle.std.specs.Prelude.{nat_lt}
use Rattle.std.specs.List.{range_with_len}
use Rattle.std.proofs.lemmas.List.{append-nil}
use Rattle.imap_batch.specs.declared.batch.NewMessage.{NewMessage}
use Rattle.imap_batch.specs.Seen.{added_seen, message_seen, new_seen, own_seen}
use Rattle.imap_mailbox.specs.Lent.{row_uids}
use Rattle.imap_mailbox.specs.Calls.{arrival}
use Rattle.imap_mailbox.specs.Rows.{Row, at_uid, is_among, row_of}
use Rattle.imap_mailbox.specs.Shown.{Content, content_with_seen, if_shown, next_number}
use Rattle.imap_modseq.specs.Numbers.{max_events}
use Rattle.imap_world.specs.Messages.{is_same_name}
use Rattle.imap_changes.specs.Copies.{copies_of, copy_of}
use Rattle.imap_changes.specs.CopyLaws.{CopiesAreAppended, IsMove, MovesAddFirst, text_of, texts_of}
use Rattle.imap_changes.specs.Transfer.{move_between, move_within}

-- ---- what a change of \Seen leaves

-- of rows, a function that no flag and no number changes
module _ {X : Type 0} (f : Row → X) (stays : (r : Row) (seen : Bool) (number : ℕ) → f (record { uid = r.uid; date = r.date; octets = r.octets; flags = r.flags; seen = seen; number = number }) ≡ f r) where
  marked : (n uid : ℕ) (seen : Bool) (rows : List Row) → map f (map (at_uid n uid (λ r. record r { seen = seen })) rows) ≡ map f rows
  marked n uid seen [] = refl
  marked n uid seen (r ∷ rows) = λ j. one (eqb r.uid uid) j ∷ marked n uid seen rows j
    where
      one : (b : Bool) → f (cond b (record { uid = r.uid; date = r.date; octets = r.octets; flags = r.flags; seen = seen; number = n }) r) ≡ f r
      one true = stays r seen n
      one false = refl

  shown_if : (uid : ℕ) (seen : Bool) (c : Content) (b : Bool) → map f (cond b (content_with_seen uid seen c) c).rows ≡ map f c.rows
  shown_if uid seen c true = marked (next_number c) uid seen c.rows
  shown_if uid seen c false = refl

  own_stays : (uid : ℕ) (seen : Bool) (c : Content) → map f (own_seen uid seen c).rows ≡ map f c.rows
  own_stays uid seen c = by (nat_lt c.own max_events)
    where
      by : (b : Bool) → map f (cond b (if_shown uid (content_with_seen uid seen c) c) c).rows ≡ map f c.rows
      by true = shown_if uid seen c (is_among uid (row_uids c.rows))
      by false = refl

-- and UIDNEXT stays
next_stays : (uid : ℕ) (seen : Bool) (c : Content) → (own_seen uid seen c).next ≡ c.next
next_stays uid seen c = by (nat_lt c.own max_events) (is_among uid (row_uids c.rows))
  where
    by : (a b : Bool) → (cond a (cond b (content_with_seen uid seen c) c) c).next ≡ c.next
    by true true = refl
    by true false = refl
    by false b = refl

-- ---- one copy

map_append : {X Y : Type 0} (f : X → Y) (xs ys : List X) → map f (xs ++ ys) ≡ map f xs ++ map f ys
map_append f [] ys = refl
map_append f (x ∷ xs) ys = ap (λ zs. f x ∷ zs) (map_append f xs ys)

module _ (m : NewMessage) (c : Content) where
  abbrev new : Row
  new = row_of (next_number c) (arrival c.next m.date m.octets m.flags)

  text_added : texts_of (new_seen m c).rows ≡ texts_of c.rows ++ (m.date, m.octets) ∷ []
  text_added = by m.seen
    where
      plain : texts_of (message_seen m c).rows ≡ texts_of c.rows ++ (m.date, m.octets) ∷ []
      plain = map_append text_of c.rows (new ∷ [])

      by : (b : Bool) → texts_of (cond b (own_seen c.next true (message_seen m c)) (message_seen m c)).rows ≡ texts_of c.rows ++ (m.date, m.octets) ∷ []
      by true = own_stays text_of (λ r seen n. refl) c.next true (message_seen m c) ∙ plain
      by false = plain

  uid_added : row_uids (new_seen m c).rows ≡ row_uids c.rows ++ c.next ∷ []
  uid_added = by m.seen
    where
      plain : row_uids (message_seen m c).rows ≡ row_uids c.rows ++ c.next ∷ []
      plain = map_append (λ (r : Row). r.uid) c.rows (new ∷ [])

      by : (b : Bool) → row_uids (cond b (own_seen c.next true (message_seen m c)) (message_seen m c)).rows ≡ row_uids c.rows ++ c.next ∷ []
      by true = own_stays (λ (r : Row). r.uid) (λ r seen n. refl) c.next true (message_seen m c) ∙ plain
      by false = plain

  next_after : (new_seen m c).next ≡ c.next + 1
  next_after = by m.seen
    where
      by : (b : Bool) → (cond b (own_seen c.next true (message_seen m c)) (message_seen m c)).next ≡ c.next + 1
      by true = next_stays c.next true (message_seen m c)
      by false = refl

-- ---- all copies

module _ (rights : ℕ) where
  texts_appended : (rows : List Row) (c : Content) → texts_of (added_seen (copies_of rights rows) c).rows ≡ texts_of c.rows ++ texts_of rows
  texts_appended [] c = sym (append-nil (texts_of c.rows))
  texts_appended (r ∷ rows) c =
      texts_appended rows (new_seen (copy_of rights r) c)
      ∙ ap (λ ts. ts ++ texts_of rows) (text_added (copy_of rights r) c)
      ∙ append_assoc (texts_of c.rows) ((r.date, r.octets) ∷ []) (texts_of rows)

  uids_appended : (rows : List Row) (c : Content) → row_uids (added_seen (copies_of rights rows) c).rows ≡ row_uids c.rows ++ range_with_len c.next (length rows)
  uids_appended [] c = sym (append-nil (row_uids c.rows))
  uids_appended (r ∷ rows) c =
      uids_appended rows (new_seen (copy_of rights r) c)
      ∙ (λ j. uid_added (copy_of rights r) c j ++ range_with_len (next_after (copy_of rights r) c j) (length rows))
      ∙ append_assoc (row_uids c.rows) (c.next ∷ []) (range_with_len (c.next + 1) (length rows))

pub copies_appended : CopiesAreAppended
copies_appended user rights rows target = (texts_appended rights rows target, uids_appended rights rows target)

-- ---- MOVE

pub moves_first : MovesAddFirst
moves_first user target source copies [] = refl
moves_first user target source copies (uid ∷ uids) = by (is_same_name source target) refl
  where
    by : (b : Bool) → is_same_name source target ≡ b
        → IsMove user target source copies (uid ∷ uids) (cond b (Some (move_within user target copies (uid ∷ uids))) (Some (move_between user target source copies (uid ∷ uids))))
    by true e = (e, refl, λ s. refl)
    by false e = (e, refl, (λ s. refl), refl, λ s. refl)
