-- What the calls that write messages do.
use Rattle.std.proofs.Common.{IfOk, OnOk, ℕ, ℤ, List, Ok, Err, Result, string_bytes}
use Rattle.sqlite.specs.State.{State, IsUnchanged}
use Rattle.sqlite.specs.Tree.{Trees}
use Rattle.sqlite_rules.specs.Lists.{Has}
use Rattle.imap_message_tables.specs.Joining.{AreWordsOf}
use Rattle.imap_message_tables.specs.Writing.{AddsHead, AddsMessage, AreWordsIn, IsThere, WritesBelow}
use Rattle.imap_message_tables.proofs.Calling.{turns_so}
use Rattle.imap_message_tables.proofs.Indexed.{added_is_fresh, indexes_key, three_in_order}
use Rattle.imap_message_tables.proofs.Ordered.{has_permuted}
use Rattle.std.proofs.lemmas.List.Sorted.{IsPermutation-sym}
use Rattle.imap_tables.specs.Edits.{AddsApart, AreKeywordsOf, HasHead}
use Rattle.imap_tables.specs.Rows.{IsOrderly, message2_row}
use Rattle.imap_tables.specs.Steps.{HasOrder, IsCall, Turns}
use Rattle.imap_tables.specs.declared.changes.ChangeBelow.TheVariants as below
use Rattle.imap_tables.specs.declared.changes.MessageRow.{MessageRow}

-- a row of `message2` that was added had a free UID
heads_free : (old new : Trees) (mailbox : ℤ) (m : MessageRow) → IsOrderly new → AddsApart old new 16 (message2_row mailbox m.uid (string_bytes m.date) m.flags m.place) → AddsHead mailbox m old new
heads_free old new mailbox m order it = record { free = free; adds = it.adds }
  where
    free : HasHead old mailbox m.uid → ⊥
    free (row, there, at) = added_is_fresh old new mailbox m.uid (string_bytes m.date) m.flags m.place it.adds (indexes_key new it.unique (three_in_order new order)) row there at

pub head_so : (old new : State) (mailbox : ℤ) (m : MessageRow) {X E : Type 0} (r : Result X E)
    → IsCall old new (OnOk r (Turns (λ db after. AddsApart db after 16 (message2_row mailbox m.uid (string_bytes m.date) m.flags m.place)) old new)) → IsCall old new (OnOk r (Turns (AddsHead mailbox m) old new))
head_so old new mailbox m r call =
    turns_so old new (λ db after. AddsApart db after 16 (message2_row mailbox m.uid (string_bytes m.date) m.flags m.place)) (AddsHead mailbox m) r
    (λ order it. heads_free old.now.trees new.now.trees mailbox m order it) call

pub add_so : (old new : State) (mailbox : ℤ) (m : MessageRow) (words : List (List ℕ)) {X E : Type 0} (r : Result X E) → AreWordsIn (string_bytes m.keywords) words
    → IsCall old new (OnOk r (Turns (AddsMessage mailbox m words) old new)) → IsCall old new (OnOk r (Turns (WritesBelow mailbox (below.AddMessage m)) old new))
add_so old new mailbox m words r are call = turns_so old new (AddsMessage mailbox m words) (WritesBelow mailbox (below.AddMessage m)) r (λ order it. (words, are, it)) call

-- the same words in another order
same_keywords : (db : Trees) (mailbox : ℤ) (uid : ℕ) (found words : List (List ℕ)) → AreKeywordsOf db mailbox uid found → AreWordsOf found words → AreKeywordsOf db mailbox uid words
same_keywords db mailbox uid found words known moved = record {
  sound = λ word h. known.sound word (has_permuted found words word moved.same h);
  complete = λ row h at. by (known.complete row h at);
}
  where
    by : {P : List ℕ → Type 0} → (word : List ℕ) × Has found word × P word → (word : List ℕ) × Has words word × P word
    by (word, h, is) = (word, has_permuted words found word (IsPermutation-sym found words moved.same) h, is)

-- the keywords that were found, in order
pub ordered_so : (old new : State) (mailbox : ℤ) (uid : ℕ) (found : List (List ℕ)) {X E : Type 0} (items : X → List (List ℕ)) (r : Result X E) → IfOk r (λ x. AreWordsOf found (items x))
    → IsCall old new ((HasOrder old → HasHead old.now.trees mailbox uid × AreKeywordsOf old.now.trees mailbox uid found) × IsUnchanged old new)
    → IsCall old new (IfOk r (λ x. (HasOrder old → IsThere old.now.trees mailbox uid (items x)) × IsUnchanged old new))
ordered_so old new mailbox uid found {X} {E} items r are call = record { made = λ clean inside. by r are (call.made clean inside); kept = call.kept; survives = call.survives }
  where
    by : (s : Result X E) → IfOk s (λ x. AreWordsOf found (items x)) → (HasOrder old → HasHead old.now.trees mailbox uid × AreKeywordsOf old.now.trees mailbox uid found) × IsUnchanged old new
        → IfOk s (λ x. (HasOrder old → IsThere old.now.trees mailbox uid (items x)) × IsUnchanged old new)
    by (Err e) h it = tt
    by (Ok x) h it = (
      λ order. let known = it.0 order in record { head = known.0; keywords = same_keywords old.now.trees mailbox uid found (items x) known.1 h; are = h.are },
      it.1,
    )
