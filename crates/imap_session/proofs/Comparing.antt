-- Known UIDs compared with rows, one after another.
use Rattle.std.proofs.Common.{◌≡◌, ℕ, ◌+◌, ◌<◌, ◌≤◌, not, Bool, true, false, cond, List, [], ◌∷◌, ◌++◌, length, drop, get_or, refl, sym, ap, subst, ◌∙◌, arith}
use Rattle.std.proofs.lemmas.Bool.{lt-ltb}
use Rattle.std.proofs.lemmas.Grind.{get_or_default_zero}
use Rattle.std.proofs.lemmas.List.{append_assoc}
use Rattle.imap_print.specs.declared.response.Response.{Response}
use Rattle.imap_print.specs.Sets.{rise_above}
use Rattle.imap_mailbox.specs.declared.known.KnownMessage.{KnownMessage}
use Rattle.imap_mailbox.specs.Rows.{Row, first_uid}
use Rattle.imap_mailbox.specs.Summary.{Rises}
use Rattle.imap_mailbox.specs.Brought.{told_of}
use Rattle.imap_session.specs.declared.options.NoticeOptions.{NoticeOptions}
use Rattle.imap_session.specs.Compared.{Comparison, Expunged, Present, comparisons, new_rows, uids_after, is_known}
use Rattle.imap_session.specs.Notices.{expunged_uids, fetch_line, fetch_lines}
use Rattle.imap_session.specs.Cursors.{is_next}
use Rattle.imap_session.specs.Held.{UidsRise, uid_limit}
use Rattle.imap_session.specs.Walked.{collected}
use Rattle.imap_session.proofs.Matching.{known_is}
use Rattle.imap_session.proofs.Running.{known_from}
use Rattle.imap_session.proofs.Telling.{rises_gone}
use Rattle.imap_session.proofs.Walking.{gone_here, choose_step, longer}

-- the known UID k is that of the first row
record IsThere (k : ℕ) (rows : List Row) : Type 0 where
  row : Row
  is : rows ≡ row ∷ drop 1 rows
  fate : (known : List ℕ) → comparisons (k ∷ known) rows ≡ Present row ∷ comparisons known (drop 1 rows)
  new : (known : List ℕ) → new_rows (k ∷ known) rows ≡ new_rows known (drop 1 rows)

there_here : (k : ℕ) (rows : List Row) → is_next k rows ≡ true → IsThere k rows
there_here k [] is = absurd (cc is)
there_here k (r ∷ rows) is = record {
  row = r;
  is = refl;
  fate = λ known. ap (λ b. cond b (Present r ∷ comparisons known rows) (Expunged k ∷ comparisons known (r ∷ rows))) is;
  new = λ known. ap (λ b. cond b (new_rows known rows) (new_rows known (r ∷ rows))) is;
}

-- ---- the UID u at the place p, as a loop reads it

pub record IsGoneAt (us : List ℕ) (p u : ℕ) (rows : List Row) : Type 0 where
  pub fate : comparisons (drop p us) rows ≡ Expunged u ∷ comparisons (drop (p + 1) us) rows
  pub new : new_rows (drop p us) rows ≡ new_rows (drop (p + 1) us) rows

pub gone_at : (us : List ℕ) (p u : ℕ) (rows : List Row) → p < length us → u ≡ get_or us p 0 → is_next u rows ≡ false → IsGoneAt us p u rows
gone_at us p u rows lt at is =
    let next = known_from us p u lt (at ∙ sym (get_or_default_zero us p u lt)) in
    let gone = gone_here u rows is in
    record {
      fate = ap (λ known. comparisons known rows) next ∙ gone.fate (drop (p + 1) us);
      new = ap (λ known. new_rows known rows) next ∙ gone.new (drop (p + 1) us);
    }

pub record IsThereAt (us : List ℕ) (p : ℕ) (rows left : List Row) : Type 0 where
  pub row : Row
  pub is : rows ≡ row ∷ left
  pub fate : comparisons (drop p us) rows ≡ Present row ∷ comparisons (drop (p + 1) us) left
  pub new : new_rows (drop p us) rows ≡ new_rows (drop (p + 1) us) left

pub there_at : (us : List ℕ) (p u : ℕ) (rows left : List Row) → p < length us → u ≡ get_or us p 0 → is_next u rows ≡ true → left ≡ drop 1 rows → IsThereAt us p rows left
there_at us p u rows left lt at is is_left =
    let next = known_from us p u lt (at ∙ sym (get_or_default_zero us p u lt)) in
    let there = there_here u rows is in
    let later : List ℕ = drop (p + 1) us in
    record {
      row = there.row;
      is = there.is ∙ ap (λ l. there.row ∷ l) (sym is_left);
      fate = ap (λ known. comparisons known rows) next ∙ there.fate later ∙ ap (λ l. Present there.row ∷ comparisons later l) (sym is_left);
      new = ap (λ known. new_rows known rows) next ∙ there.new later ∙ ap (λ l. new_rows later l) (sym is_left);
    }

-- ---- what is found

-- one more is found
pub one_more : {X : Type 0} (old : List X) (x : X) (rest : List X) {new : List X} → new ≡ old ++ x ∷ [] → new ++ rest ≡ old ++ x ∷ rest
one_more old x rest is = ap (λ l. l ++ rest) is ∙ append_assoc old (x ∷ []) rest

-- none is found
pub same_front : {X : Type 0} (old : List X) {rest whole : List X} → rest ≡ whole → old ++ rest ≡ old ++ whole
same_front old is = ap (λ l. old ++ l) is

pub gone_rises : (known : List ℕ) (rows : List Row) → UidsRise known → rise_above 0 (expunged_uids (comparisons known rows)) ≡ true
gone_rises known rows h =
    rises_gone 0 first_uid uid_limit (comparisons known rows) (omega arith) (subst (Rises first_uid uid_limit) (sym (known_is known rows)) h)

-- ---- FETCH lines

pub gone_fetches : (o : NoticeOptions) (up_to n m u : ℕ) (cs : List Comparison) → m ≡ cond o.expunges n (n + 1) → fetch_lines o up_to [] m cs ≡ fetch_lines o up_to [] n (Expunged u ∷ cs)
gone_fetches o up_to n m u cs is = ap (λ x. fetch_lines o up_to [] x cs) is ∙ by o.expunges
  where
    by : (b : Bool) → fetch_lines o up_to [] (cond b n (n + 1)) cs ≡ cond b (fetch_lines o up_to [] n cs) (fetch_lines o up_to [] (n + 1) cs)
    by true = refl
    by false = refl

-- the number after the last known message
pub gone_number : (b : Bool) (n m : ℕ) (k : ℕ) (cs : List Comparison) {all : List Comparison} → m ≡ cond b n (n + 1) → Expunged k ∷ cs ≡ all
    → m + length (uids_after b cs) ≡ n + length (uids_after b all)
gone_number b n m k cs is all_is = ap (λ x. x + length (uids_after b cs)) is ∙ by b ∙ ap (λ l. n + length (uids_after b l)) all_is
  where
    by : (t : Bool) → cond t n (n + 1) + length (uids_after t cs) ≡ n + length (uids_after t (Expunged k ∷ cs))
    by true = refl
    by false = omega arith

pub there_number : (b : Bool) (n : ℕ) (r : Row) (cs : List Comparison) {all : List Comparison} → Present r ∷ cs ≡ all
    → (n + 1) + length (uids_after b cs) ≡ n + length (uids_after b all)
there_number b n r cs all_is = longer n (length (uids_after b cs)) ∙ ap (λ l. n + length (uids_after b l)) all_is

pub number_bound : (b : Bool) (n m : ℕ) → m ≡ cond b n (n + 1) → m ≤ n + 1
number_bound true n m is = omega (arith, is)
number_bound false n m is = omega (arith, is)

pub there_fetches : (o : NoticeOptions) (up_to n : ℕ) (r : Row) (cs : List Comparison) (old : List Response) {new : List Response}
    → new ≡ old ++ collected (not (is_known up_to r)) (fetch_line o n (told_of r) ∷ []) → new ++ fetch_lines o up_to [] (n + 1) cs ≡ old ++ fetch_lines o up_to [] n (Present r ∷ cs)
there_fetches o up_to n r cs old is =
    ap (λ l. l ++ fetch_lines o up_to [] (n + 1) cs) is ∙ choose_step (is_known up_to r) old (fetch_line o n (told_of r)) (fetch_lines o up_to [] (n + 1) cs)

-- the line of a message that is not known as it is
pub changed_line : (o : NoticeOptions) (up_to n : ℕ) (r : Row) (k : KnownMessage) (old : List Response) → k ≡ told_of r → up_to < k.number
    → old ++ (fetch_line o n k ∷ []) ≡ old ++ collected (not (is_known up_to r)) (fetch_line o n (told_of r) ∷ [])
changed_line o up_to n r k old is above =
    let number = ap (λ (m : KnownMessage). m.number) is in
    let later : up_to < r.number = omega (arith, above, number) in
    (λ i. old ++ (fetch_line o n (is i) ∷ []))
    ∙ ap (λ b. old ++ collected (not (not b)) (fetch_line o n (told_of r) ∷ [])) (sym (lt-ltb up_to r.number later))
