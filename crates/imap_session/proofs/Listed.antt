-- Notices by the list of messages as the session was told of them.
use Rattle.std.proofs.Common.{◌≡◌, ℕ, ◌+◌, ◌<◌, ◌≤◌, eqb, Bool, true, false, cond, not, ◌||◌, MatchBool, List, [], ◌∷◌, ◌++◌, length, map, Some, refl, sym, ap, ◌∙◌, true≢false, arith}
use Rattle.std.specs.Prelude.{nat_lt}
use Rattle.std.proofs.lemmas.Bool.{eqb-true, le-ltb, ltb-false}
use Rattle.std.proofs.lemmas.List.{length-map}
use Rattle.imap_mailbox.specs.declared.known.KnownMessage.{KnownMessage}
use Rattle.imap_mailbox.specs.Brought.{Agree, AreToldBy, IsBrought, highest_in, known_uids, told_of}
use Rattle.imap_mailbox.specs.Rows.{Row, is_among}
use Rattle.imap_session.specs.declared.options.NoticeOptions.{NoticeOptions}
use Rattle.imap_session.specs.Compared.{Expunged, Present, comparisons, is_known, known_after, new_rows}
use Rattle.imap_session.specs.Following.{HoldsWhatIsTold}
use Rattle.imap_session.specs.Listed.{ClientFollowsList, NoticesAreByList, NoticesLeaveList, TestsMessages, client_known, listed_after, listed_lines}
use Rattle.imap_session.specs.Notices.{exists_line, expunge_notices, fetch_line, fetch_lines, flag_set}
use Rattle.imap_session.proofs.Following.{client_follows}
use Rattle.imap_session.proofs.Kept.{kept_brought, kept_uids, told_is_there}
use Rattle.imap_session.proofs.ByUid.{told_uids}
use Rattle.imap_mailbox.proofs.BroughtUp.{all_told_is_brought}

-- ---- a message that is there is known as it is, if it is as the list has it

not_true : (b : Bool) → not b ≡ true → b ≡ false
not_true true e = absurd (cc e)
not_true false e = refl

known_of : (up_to : ℕ) (r : Row) → r.number ≤ up_to → is_known up_to r ≡ true
known_of up_to r le = ap not (le-ltb up_to r.number le)

number_of : (up_to : ℕ) (r : Row) → is_known up_to r ≡ true → r.number ≤ up_to
number_of up_to r is = ltb-false up_to r.number (not_true (nat_lt up_to r.number) is)

module _ (same : KnownMessage → KnownMessage → Bool) (tests : TestsMessages same) (up_to : ℕ) where
  known_is_same : (r : Row) (k : KnownMessage) → (r.number ≤ up_to → told_of r ≡ k) → k.number ≤ up_to → is_known up_to r ≡ same (told_of r) k
  known_is_same r k agree told = by (is_known up_to r) refl (same (told_of r) k) refl
    where
      by : (b : Bool) → is_known up_to r ≡ b → (c : Bool) → same (told_of r) k ≡ c → b ≡ c
      by true is true e = refl
      by false is false e = refl
      by true is false e =
          let passes : same (told_of r) k ≡ true = (tests (told_of r) k).1 (agree (number_of up_to r is)) in
          absurd (true≢false (sym passes ∙ e))
      by false is true e =
          let one : told_of r ≡ k = (tests (told_of r) k).0 e in
          let number : r.number ≡ k.number = ap (λ (m : KnownMessage). m.number) one in
          absurd (true≢false (sym (known_of up_to r (omega (arith, number, told))) ∙ is))

  -- the lines of messages that are there
  lines_by_list : (o : NoticeOptions) (told : List ℕ) (n : ℕ) (known : List KnownMessage) (rows : List Row) → AreToldBy up_to known → Agree up_to known rows
      → fetch_lines o up_to told n (comparisons (known_uids known) rows) ≡ listed_lines same o told n known rows
  lines_by_list o told n [] rows t h = refl
  lines_by_list o told n (k ∷ known) [] t h = by o.expunges (lines_by_list o told n known [] t.1 h) (lines_by_list o told (n + 1) known [] t.1 h)
    where
      by : (e : Bool) → fetch_lines o up_to told n (comparisons (known_uids known) []) ≡ listed_lines same o told n known []
          → fetch_lines o up_to told (n + 1) (comparisons (known_uids known) []) ≡ listed_lines same o told (n + 1) known []
          → cond e (fetch_lines o up_to told n (comparisons (known_uids known) [])) (fetch_lines o up_to told (n + 1) (comparisons (known_uids known) []))
          ≡ cond e (listed_lines same o told n known []) (listed_lines same o told (n + 1) known [])
      by true gone stays = gone
      by false gone stays = stays
  lines_by_list o told n (k ∷ known) (r ∷ rows) t h =
      by (eqb k.uid r.uid) refl h (λ m agree. lines_by_list o told m known rows t.1 agree) (λ m agree. lines_by_list o told m known (r ∷ rows) t.1 agree)
    where
      -- a message that is still there
      there : (r.number ≤ up_to → told_of r ≡ k) → fetch_lines o up_to told (n + 1) (comparisons (known_uids known) rows) ≡ listed_lines same o told (n + 1) known rows
          → fetch_lines o up_to told n (Present r ∷ comparisons (known_uids known) rows)
          ≡ cond (is_among r.uid told || same (told_of r) k) (listed_lines same o told (n + 1) known rows) (fetch_line o n (told_of r) ∷ listed_lines same o told (n + 1) known rows)
      there agree rest =
          (λ i. cond (is_among r.uid told || known_is_same r k agree t.0 i) (rest i) (fetch_line o n (told_of r) ∷ rest i))

      gone : (e : Bool) → ((m : ℕ) → fetch_lines o up_to told m (comparisons (known_uids known) (r ∷ rows)) ≡ listed_lines same o told m known (r ∷ rows))
          → cond e (fetch_lines o up_to told n (comparisons (known_uids known) (r ∷ rows))) (fetch_lines o up_to told (n + 1) (comparisons (known_uids known) (r ∷ rows)))
          ≡ cond e (listed_lines same o told n known (r ∷ rows)) (listed_lines same o told (n + 1) known (r ∷ rows))
      gone true rest = rest n
      gone false rest = rest (n + 1)

      by : (b : Bool) → eqb k.uid r.uid ≡ b
          → MatchBool b ((r.number ≤ up_to → told_of r ≡ k) × Agree up_to known rows) ((k.uid < r.uid) × Agree up_to known (r ∷ rows))
          → ((m : ℕ) → Agree up_to known rows → fetch_lines o up_to told m (comparisons (known_uids known) rows) ≡ listed_lines same o told m known rows)
          → ((m : ℕ) → Agree up_to known (r ∷ rows) → fetch_lines o up_to told m (comparisons (known_uids known) (r ∷ rows)) ≡ listed_lines same o told m known (r ∷ rows))
          → fetch_lines o up_to told n (cond b (Present r ∷ comparisons (known_uids known) rows) (Expunged k.uid ∷ comparisons (known_uids known) (r ∷ rows)))
          ≡ cond b (cond (is_among r.uid told || same (told_of r) k) (listed_lines same o told (n + 1) known rows) (fetch_line o n (told_of r) ∷ listed_lines same o told (n + 1) known rows))
          (cond o.expunges (listed_lines same o told n known (r ∷ rows)) (listed_lines same o told (n + 1) known (r ∷ rows)))
      by true is h here others = there h.0 (here (n + 1) h.1)
      by false is h here others = gone o.expunges (λ m. others m h.1)

-- ---- the list afterwards

after_uids : (expunges : Bool) (known : List KnownMessage) (rows : List Row) → known_uids (listed_after expunges known rows) ≡ known_after expunges (known_uids known) rows
after_uids true known rows = told_uids rows ∙ sym (told_is_there (known_uids known) rows)
after_uids false known rows = kept_uids known rows

after_count : (expunges : Bool) (known : List KnownMessage) (rows : List Row) → length (known_after expunges (known_uids known) rows) ≡ length (listed_after expunges known rows)
after_count expunges known rows = ap length (sym (after_uids expunges known rows)) ∙ length-map (listed_after expunges known rows) (λ (k : KnownMessage). k.uid)

pub notices_by_list : NoticesAreByList
notices_by_list same o up_to told known rows tests numbers agree =
    λ i. expunge_notices o (comparisons (known_uids known) rows)
    ++ (exists_line (after_count o.expunges known rows i) (new_rows (known_uids known) rows)
    ++ lines_by_list same tests up_to o told 1 known rows numbers agree i)

pub notices_leave_list : NoticesLeaveList
notices_leave_list expunges up_to known c ordered h = record { uids = after_uids expunges known c.rows; brought = by expunges }
  where
    by : (b : Bool) → IsBrought (highest_in c) (listed_after b known c.rows) c
    by true = all_told_is_brought c ordered
    by false = kept_brought c up_to known ordered h

-- ---- a client that holds the list

holds_list : (up_to : ℕ) (known : List KnownMessage) (rows : List Row) → Agree up_to known rows → HoldsWhatIsTold up_to [] (map client_known known) (comparisons (known_uids known) rows)
holds_list up_to [] rows h = tt
holds_list up_to (k ∷ known) [] h = (refl, holds_list up_to known [] h)
holds_list up_to (k ∷ known) (r ∷ rows) h = by (eqb k.uid r.uid) refl h (holds_list up_to known rows) (holds_list up_to known (r ∷ rows))
  where
    by : (b : Bool) → eqb k.uid r.uid ≡ b
        → MatchBool b ((r.number ≤ up_to → told_of r ≡ k) × Agree up_to known rows) ((k.uid < r.uid) × Agree up_to known (r ∷ rows))
        → (Agree up_to known rows → HoldsWhatIsTold up_to [] (map client_known known) (comparisons (known_uids known) rows))
        → (Agree up_to known (r ∷ rows) → HoldsWhatIsTold up_to [] (map client_known known) (comparisons (known_uids known) (r ∷ rows)))
        → HoldsWhatIsTold up_to [] (client_known k ∷ map client_known known) (cond b (Present r ∷ comparisons (known_uids known) rows) (Expunged k.uid ∷ comparisons (known_uids known) (r ∷ rows)))
    by true is h here others = (
      ap (λ u. Some u) (eqb-true k.uid r.uid is),
      (
        (λ known. ap (λ (m : KnownMessage). Some (flag_set m.flags m.seen)) (sym (h.0 (number_of up_to r known)))),
        here h.1,
      ),
    )
    by false is h here others = (refl, others h.1)

pub client_follows_list : ClientFollowsList
client_follows_list o up_to known rows rising agree = client_follows o up_to [] (known_uids known) rows (map client_known known) rising (holds_list up_to known rows agree)
