-- What a walk along known UIDs and rows has found, and what is left to be found.
use Rattle.std.specs.Prelude.{◌≡◌, ℕ, ◌+◌, ◌<◌, ◌≤◌, Bool, true, not, ◌&&◌, ◌||◌, List, [], ◌∷◌, ◌++◌}
use Rattle.std.specs.Prelude.{length, drop, if◌then◌else◌}
use Rattle.imap_print.specs.declared.response.Response.{Response}
use Rattle.imap_print.specs.declared.response.Response.TheVariants as response
use Rattle.imap_mailbox.specs.Rows.{Row, is_among}
use Rattle.imap_mailbox.specs.Brought.{told_of}
use Rattle.imap_session.specs.ByUid.{AgreeByUid}
use Rattle.imap_session.specs.declared.options.NoticeOptions.{NoticeOptions}
use Rattle.imap_session.specs.declared.walk.Walk.{Walk}
use Rattle.imap_session.specs.Compared.{Comparison, comparisons, new_rows, any_changed, uids_after}
use Rattle.imap_session.specs.Notices.{expunge_lines, expunged_uids, fetch_line, fetch_lines}

pub record Findings : Type 0 where
  pub gone : List ℕ
  pub expunges : List Response
  pub vanished : List ℕ
  pub changed : Bool
  pub fetches : List Response
  pub new : List Row
  pub number : ℕ

abbrev pub collected : {X : Type 0} → Bool → List X → List X
collected wanted xs = if wanted then xs else []

abbrev pub by_number : NoticeOptions → Bool
by_number o = o.expunges && not o.qresync

abbrev pub by_uid : NoticeOptions → Bool
by_uid o = o.expunges && o.qresync

-- the first comparison is of the message with the number n
abbrev pub findings_from : (told : List ℕ) → NoticeOptions → (up_to n : ℕ) → List Comparison → List Row →
    Findings
findings_from told o up_to n cs new = record {
  gone = collected o.expunges (expunged_uids cs);
  expunges = collected (by_number o) (expunge_lines n cs);
  vanished = collected (by_uid o) (expunged_uids cs);
  changed = any_changed up_to cs;
  fetches = fetch_lines o up_to told n cs;
  new = new;
  number = n + length (uids_after o.expunges cs);
}

abbrev pub findings : (told : List ℕ) → NoticeOptions → (up_to : ℕ) → (uids : List ℕ) → List Row → Findings
findings told o up_to uids rows = findings_from told o up_to 1 (comparisons uids rows) (new_rows uids rows)

-- what a walk finds in the end
abbrev pub finished : (told : List ℕ) → NoticeOptions → (up_to : ℕ) → Walk → (uids : List ℕ) → List Row →
    Findings
finished told o up_to w uids rows =
    let rest = findings_from told o up_to w.number (comparisons uids rows) (new_rows uids rows) in
    record {
      gone = w.gone.items ++ rest.gone;
      expunges = w.expunges.items ++ rest.expunges;
      vanished = w.vanished.items ++ rest.vanished;
      changed = w.changed || rest.changed;
      fetches = w.fetches ++ rest.fetches;
      new = rest.new;
      number = rest.number;
    }

abbrev pub found : Walk → List Row → Findings
found w new = record {
  gone = w.gone.items;
  expunges = w.expunges.items;
  vanished = w.vanished.items;
  changed = w.changed;
  fetches = w.fetches;
  new = new;
  number = w.number;
}

-- ---- the walk passes one known UID

pub record PassesExpunged (o : NoticeOptions) (uid : ℕ) (old new : Walk) : Type 0 where
  pub gone : new.gone.items ≡ old.gone.items ++ collected o.expunges (uid ∷ [])
  pub expunges : new.expunges.items
      ≡ old.expunges.items ++ collected (by_number o) (response.Expunge old.number ∷ [])
  pub vanished : new.vanished.items ≡ old.vanished.items ++ collected (by_uid o) (uid ∷ [])
  pub changed : new.changed ≡ old.changed
  pub fetches : new.fetches ≡ old.fetches
  pub number : new.number ≡ (if o.expunges then old.number else old.number + 1)

pub record PassesChanged (told : List ℕ) (o : NoticeOptions) (r : Row) (old new : Walk) : Type 0 where
  pub gone : new.gone.items ≡ old.gone.items
  pub expunges : new.expunges.items ≡ old.expunges.items
  pub vanished : new.vanished.items ≡ old.vanished.items
  pub changed : new.changed ≡ true
  pub fetches : new.fetches
      ≡ old.fetches ++ collected (not (is_among r.uid told)) (fetch_line o old.number (told_of r) ∷ [])
  pub number : new.number ≡ old.number + 1

-- so does a walk from `rows` to `left`
pub record Passes (told : List ℕ) (o : NoticeOptions) (up_to uid : ℕ) (rows left : List Row) (old new : Walk)
    : Type 0 where
  pub finds : (uids : List ℕ)
      → finished told o up_to new uids left ≡ finished told o up_to old (uid ∷ uids) rows
  pub agree : (uids : List ℕ) → AgreeByUid up_to (uid ∷ uids) rows → AgreeByUid up_to uids left
  pub number : new.number ≤ old.number + 1

-- so does one that passes the known UIDs at the places from p to q - 1
pub record PassesTo (told : List ℕ) (o : NoticeOptions) (up_to p q : ℕ) (uids : List ℕ) (rows left : List Row)
    (old new : Walk) : Type 0 where
  pub more : p < q
  pub within : q ≤ length uids
  pub finds : finished told o up_to new (drop q uids) left ≡ finished told o up_to old (drop p uids) rows
  pub agree : AgreeByUid up_to (drop q uids) left
  pub number : new.number ≤ q + 1
