-- A session that was told of a mailbox up to a mod-sequence, by UIDs.
use Rattle.std.proofs.Common.{◌≡◌, ℕ, ◌<◌, ◌≤◌, eqb, Bool, true, false, MatchBool, List, [], ◌∷◌, map, refl, subst, ap}
use Rattle.imap_mailbox.specs.declared.known.KnownMessage.{KnownMessage}
use Rattle.imap_mailbox.specs.Rows.{Row, first_uid}
use Rattle.imap_mailbox.specs.Summary.{Rises}
use Rattle.imap_mailbox.specs.Lent.{row_uids}
use Rattle.imap_mailbox.specs.Shown.{Content}
use Rattle.imap_mailbox.specs.Brought.{told_of, known_uids, highest_in, Agree, IsOrdered}
use Rattle.imap_mailbox.proofs.BroughtUp.{all_told_is_brought}
use Rattle.imap_session.specs.ByUid.{AgreeByUid, IsBroughtByUid, LaterByUid}

pub told_uids : (rows : List Row) → known_uids (map told_of rows) ≡ row_uids rows
told_uids [] = refl
told_uids (r ∷ rows) = ap (λ (uids : List ℕ). r.uid ∷ uids) (told_uids rows)

agree_uids : (n : ℕ) (known : List KnownMessage) (rows : List Row) → Agree n known rows → AgreeByUid n (known_uids known) rows
agree_uids n [] rows h = h
agree_uids n (k ∷ known) [] h = agree_uids n known [] h
agree_uids n (k ∷ known) (r ∷ rows) h = by (eqb k.uid r.uid) (agree_uids n known rows) (agree_uids n known (r ∷ rows)) h
  where
    by : (b : Bool) → (Agree n known rows → AgreeByUid n (known_uids known) rows) → (Agree n known (r ∷ rows) → AgreeByUid n (known_uids known) (r ∷ rows))
        → MatchBool b ((r.number ≤ n → told_of r ≡ k) × Agree n known rows) ((k.uid < r.uid) × Agree n known (r ∷ rows))
        → MatchBool b (AgreeByUid n (known_uids known) rows) ((k.uid < r.uid) × AgreeByUid n (known_uids known) (r ∷ rows))
    by true there gone h = there h.1
    by false there gone h = (h.0, gone h.1)

pub uids_of : (up_to : ℕ) (uids : List ℕ) (c : Content) → IsBroughtByUid up_to uids c → Rises first_uid c.next uids
uids_of up_to uids c h = subst (Rises first_uid c.next) h.known h.brought.uids

pub agree_of : (up_to : ℕ) (uids : List ℕ) (c : Content) → IsBroughtByUid up_to uids c → AgreeByUid up_to uids c.rows
agree_of up_to uids c h = subst (λ us. AgreeByUid up_to us c.rows) h.known (agree_uids up_to h.messages c.rows h.brought.agree)

pub later_by_uid : LaterByUid
later_by_uid c d up_to uids later h = record { messages = h.messages; known = h.known; brought = later up_to h.messages h.brought }

pub all_told_by_uid : (c : Content) → IsOrdered c → IsBroughtByUid (highest_in c) (row_uids c.rows) c
all_told_by_uid c ordered = record { messages = map told_of c.rows; known = told_uids c.rows; brought = all_told_is_brought c ordered }
