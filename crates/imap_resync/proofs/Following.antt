-- A client that follows the lines of SELECT.
use Rattle.std.proofs.Common.{◌≡◌, ℕ, ◌+◌, ◌-◌, ◌≤◌, Bool, true, false, cond, not, eqb, ◌&&◌, ◌||◌, List, [], ◌∷◌, ◌++◌, filter, map, take, inl, inr, refl, sym, ap, subst, ◌∙◌, arith}
use Rattle.std.specs.Prelude.{nat_lt, Option, Some, None, option_and_then}
use Rattle.std.specs.FinMap as fin
use Rattle.std.proofs.lemmas.Bool.{eq-eqb, eqb-true}
use Rattle.imap_answer.specs.Answer.{Answer, enabling}
use Rattle.imap_answer.specs.Fit.{is_refusal}
use Rattle.imap_commands.specs.declared.commands.select.QresyncArg.{QresyncArg}
use Rattle.imap_commands.specs.declared.commands.select.SelectParameters.{SelectParameters}
use Rattle.imap_mailbox.specs.declared.message.GoneMessage.{GoneMessage}
use Rattle.imap_mailbox.specs.Brought.{highest_in}
use Rattle.imap_mailbox.specs.Client.{Known, changed_since, fetch, fetch_all, known_of, vanish, vanish_all, vanished_since}
use Rattle.imap_mailbox.specs.History.{History, IsLawful, events_of}
use Rattle.imap_mailbox.specs.Own.{Own, own_at}
use Rattle.imap_mailbox.specs.Order.{uids_gone}
use Rattle.imap_mailbox.specs.Rows.{Row, is_among, rows_after}
use Rattle.imap_mailbox.specs.Shown.{Content, content_of}
use Rattle.imap_mailbox.specs.Summary.{Summary, count_of, given_once, gone_in, gone_of, gone_uids, rows_of, summary_of}
use Rattle.imap_mailbox.proofs.Admitted.{summaries_are_admitted}
use Rattle.imap_mailbox.proofs.Client as mailbox
use Rattle.imap_mailbox.proofs.Reordered.{Has}
use Rattle.imap_names.specs.Name.{Name}
use Rattle.imap_print.specs.declared.response.Response.{Response}
use Rattle.imap_targets.specs.Select.{closed_line, mailbox_lines, rights_to_change, select_answer, select_if_named, select_if_readable}
use Rattle.imap_targets.specs.State.{Selection, SessionState}
use Rattle.imap_view.specs.declared.readable.Readable.{Readable}
use Rattle.imap_view.specs.Readable.{readable_by, readable_of}
use Rattle.imap_view.specs.Seen.{Seen}
use Rattle.imap_view.specs.View.{View, rights_in}
use Rattle.imap_resync.specs.Client.{ClientIsBroughtUp, IsResynced, SelectResyncs, after_line, after_lines}
use Rattle.imap_resync.specs.Select.{changed_line, changed_lines, enabled_by, lines_if_asked, lines_if_named, lines_if_readable, lines_if_seen, resync_lines, select_with_parameters}
use Rattle.imap_resync.specs.UidSet.{known_set}
use Rattle.imap_resync.specs.Vanished.{earlier_line, vanished}
use Rattle.imap_resync.proofs.Vanishing.{late_vanished, vanished_late}

-- ---- two tests that follow from each other

same_tests : (a b : Bool) → (a ≡ true → b ≡ true) → (b ≡ true → a ≡ true) → a ≡ b
same_tests true b h k = sym (h refl)
same_tests false true h k = k refl
same_tests false false h k = refl

or_true : (b : Bool) → (b || true) ≡ true
or_true true = refl
or_true false = refl

has_among : (uid : ℕ) (us : List ℕ) → Has us uid → is_among uid us ≡ true
has_among uid [] h = absurd h
has_among uid (u ∷ us) (inl is) = ap (λ b. b || is_among uid us) (eq-eqb u uid is)
has_among uid (u ∷ us) (inr has) = ap (λ b. eqb u uid || b) (has_among uid us has) ∙ or_true (eqb u uid)

among_has : (uid : ℕ) (us : List ℕ) → is_among uid us ≡ true → Has us uid
among_has uid [] e = absurd (cc e)
among_has uid (u ∷ us) e = by (eqb u uid) refl (among_has uid us) e
  where
    by : (b : Bool) → eqb u uid ≡ b → (is_among uid us ≡ true → Has us uid) → (b || is_among uid us) ≡ true → Has (u ∷ us) uid
    by true is later f = inl (eqb-true u uid is)
    by false is later f = inr (later f)

-- ---- what vanishes, whatever the order of UIDs

filter_all : {X : Type 0} (xs : List X) → filter (λ x. true) xs ≡ xs
filter_all [] = refl
filter_all (x ∷ xs) = ap (λ l. x ∷ l) (filter_all xs)

filter_twice : {X : Type 0} (p q : X → Bool) (xs : List X) → filter q (filter p xs) ≡ filter (λ x. p x && q x) xs
filter_twice p q [] = refl
filter_twice p q (x ∷ xs) = by (p x) (filter_twice p q xs)
  where
    by : (b : Bool) → filter q (filter p xs) ≡ filter (λ y. p y && q y) xs
        → filter q (cond b (x ∷ filter p xs) (filter p xs)) ≡ cond (b && q x) (x ∷ filter (λ y. p y && q y) xs) (filter (λ y. p y && q y) xs)
    by true later = ap (λ l. cond (q x) (x ∷ l) l) later
    by false later = later

filter_alike : {X : Type 0} (p q : X → Bool) → ((x : X) → p x ≡ q x) → (xs : List X) → filter p xs ≡ filter q xs
filter_alike p q h [] = refl
filter_alike p q h (x ∷ xs) =
    ap (λ b. cond b (x ∷ filter p xs) (filter p xs)) (h x) ∙ ap (λ l. cond (q x) (x ∷ l) l) (filter_alike p q h xs)

abbrev stays : List ℕ → Known → Bool
stays us k = not (is_among k.uid us)

eqb_turned : (a b : ℕ) → eqb a b ≡ eqb b a
eqb_turned a b = same_tests (eqb a b) (eqb b a) (λ e. eq-eqb b a (sym (eqb-true a b e))) (λ e. eq-eqb a b (sym (eqb-true b a e)))

not_or : (a b : Bool) → (not a && not b) ≡ not (a || b)
not_or true b = refl
not_or false b = refl

vanish_filter : (us : List ℕ) (client : List Known) → vanish_all us client ≡ filter (stays us) client
vanish_filter [] client = sym (filter_all client)
vanish_filter (u ∷ us) client =
    vanish_filter us (vanish u client)
    ∙ filter_twice (λ (k : Known). not (eqb k.uid u)) (stays us) client
    ∙ filter_alike (λ (k : Known). not (eqb k.uid u) && stays us k) (stays (u ∷ us))
    (λ (k : Known). ap (λ b. not b && stays us k) (eqb_turned k.uid u) ∙ not_or (eqb u k.uid) (is_among k.uid us)) client

same_vanish : (us vs : List ℕ) → ((uid : ℕ) → is_among uid us ≡ is_among uid vs) → (client : List Known) → vanish_all us client ≡ vanish_all vs client
same_vanish us vs h client =
    vanish_filter us client
    ∙ filter_alike (stays us) (stays vs) (λ (k : Known). ap not (h k.uid)) client
    ∙ sym (vanish_filter vs client)

-- ---- the lines of QRESYNC

uids_shown : (own : Own) (gone : List GoneMessage) → uids_gone (map (gone_in own) gone) ≡ gone_uids gone
uids_shown own [] = refl
uids_shown own (g ∷ gone) = ap (λ us. g.uid ∷ us) (uids_shown own gone)

gone_given : (s : Summary) (user : List ℕ) (history : History) → summary_of history ≡ s → ((other : List ℕ) → IsLawful history other)
    → (uid : ℕ) → count_of uid (uids_gone (gone_of s user)) ≤ given_once s.next uid
gone_given s user history is lawful uid =
    subst (λ (k : Summary). count_of uid (uids_gone (gone_of k user)) ≤ given_once k.next uid) is
    (let k = summary_of history in
    let once = (summaries_are_admitted history lawful).once uid in
    let same = ap (count_of uid) (uids_shown (own_at k.own user) k.gone) in
    omega (arith, once, same))

vanish_same : (next since : ℕ) (gone : List (ℕ × ℕ)) → ((uid : ℕ) → count_of uid (uids_gone gone) ≤ given_once next uid) → (client : List Known)
    → vanish_all (vanished next since None gone) client ≡ vanish_all (vanished_since since gone) client
vanish_same next since gone given client =
    same_vanish (vanished next since None gone) (vanished_since since gone)
    (λ uid. same_tests (is_among uid (vanished next since None gone)) (is_among uid (vanished_since since gone))
    (λ e. has_among uid (vanished_since since gone) (vanished_late next since None gone given uid (among_has uid (vanished next since None gone) e)).0)
    (λ e. has_among uid (vanished next since None gone) (late_vanished next since None gone given uid (among_has uid (vanished_since since gone) e) refl)))
    client

after_append : (front back : List Response) (client : List Known) → after_lines (front ++ back) client ≡ after_lines back (after_lines front client)
after_append [] back client = refl
after_append (line ∷ front) back client = after_append front back (after_line line client)

after_earlier : (us : List ℕ) (client : List Known) → after_lines (earlier_line us) client ≡ vanish_all us client
after_earlier [] client = refl
after_earlier (u ∷ us) client = refl

after_changed : (since n : ℕ) (rows : List Row) (client : List Known) → after_lines (changed_lines since None n rows) client ≡ fetch_all (changed_since since rows) client
after_changed since n [] client = refl
after_changed since n (r ∷ rows) client = by (nat_lt since r.number) (after_changed since (n + 1) rows)
  where
    by : (b : Bool) → ((held : List Known) → after_lines (changed_lines since None (n + 1) rows) held ≡ fetch_all (changed_since since rows) held)
        → after_lines (cond (b && true) (changed_line n r ∷ []) [] ++ changed_lines since None (n + 1) rows) client
        ≡ fetch_all (map known_of (cond b (r ∷ filter (λ q. nat_lt since q.number) rows) (filter (λ q. nat_lt since q.number) rows))) client
    by true later = later (fetch (known_of r) client)
    by false later = later client

lines_bring_up : (s : Summary) (history : History) (user : List ℕ) (known : QresyncArg) → known.known_uids ≡ None → summary_of history ≡ s → ((other : List ℕ) → IsLawful history other)
    → after_lines (resync_lines known (content_of user s)) (map known_of (rows_after (take (known.mod_seq - 1) (events_of history user)))) ≡ map known_of (rows_of s user)
lines_bring_up s history user known all is lawful =
    let n = known.mod_seq in
    let held = map known_of (rows_after (take (n - 1) (events_of history user))) in
    let gone = gone_of s user in
    let rows = rows_of s user in
    ap (λ us. after_lines (earlier_line (vanished s.next n (known_set us) gone) ++ changed_lines n (known_set us) 1 rows) held) all
    ∙ after_append (earlier_line (vanished s.next n None gone)) (changed_lines n None 1 rows) held
    ∙ ap (after_lines (changed_lines n None 1 rows)) (after_earlier (vanished s.next n None gone) held ∙ vanish_same s.next n gone (gone_given s user history is lawful) held)
    ∙ after_changed n 1 rows (vanish_all (vanished_since n gone) held)
    ∙ mailbox.client_is_brought_up s history user n is (lawful user)

-- ---- the lines of SELECT

module _ (view : View) (own : SessionState) (tag : List ℕ) (read_only : Bool) (mailbox : List ℕ) (parameters : SelectParameters) (known : QresyncArg) (content : Content)
    (asked : parameters.qresync ≡ Some known) (h : IsResynced view mailbox known content) where
  abbrev there : Readable
  there = record {
    validity = known.validity;
    next_uid = content.next;
    highest = highest_in content;
    own = content.own;
    rows = content.rows;
  }

  readable_is : readable_of h.seen ≡ Some there
  readable_is = ap (λ b. cond b (readable_by h.seen.validity h.seen.messages.content) None) h.held ∙ λ i. readable_by (h.same i) (h.shown i)

  lines_are : lines_if_asked view mailbox parameters.qresync ≡ resync_lines known content
  lines_are =
      ap (lines_if_asked view mailbox) asked
      ∙ ap (lines_if_named view known) h.named
      ∙ ap (lines_if_seen known) h.found
      ∙ (λ i. lines_if_readable known (readable_is i) (h.shown i))
      ∙ ap (λ b. cond b (resync_lines known content) []) (eq-eqb known.validity known.validity refl)

  untagged_is : (answer : Answer) (b : Bool) → (cond b answer (enabling (enabled_by parameters) answer)).untagged ≡ answer.untagged
  untagged_is answer true = refl
  untagged_is answer false = refl

  pub resyncs : (select_with_parameters view own tag read_only mailbox parameters).answer.untagged ≡ (select_answer view own tag read_only mailbox).answer.untagged ++ resync_lines known content
  resyncs =
      untagged_is _ (is_refusal (select_answer view own tag read_only mailbox).answer.last)
      ∙ ap (λ ls. (select_answer view own tag read_only mailbox).answer.untagged ++ ls) lines_are

  -- the lines without parameters tell of no message
  quiet_lines : (name : Name) (rights : ℕ) (old : Option Selection) (client : List Known) → after_lines (closed_line old ++ mailbox_lines view name rights there) client ≡ client
  quiet_lines name rights None client = refl
  quiet_lines name rights (Some s) client = refl

  pub quiet : (client : List Known) → after_lines (select_answer view own tag read_only mailbox).answer.untagged client ≡ client
  quiet client =
      ap (λ (o : Option Name). after_lines (select_if_named view own tag read_only o).answer.untagged client) h.named
      ∙ ap (λ (o : Option Readable). after_lines (select_if_readable view own tag read_only h.name o).answer.untagged client) (found_readable (fin.get view.seen h.name) h.found)
      ∙ quiet_lines h.name (rights_to_change read_only (rights_in view h.name)) own.selected client
    where
      found_readable : (o : Option Seen) → o ≡ Some h.seen → option_and_then readable_of o ≡ Some there
      found_readable o is = ap (λ (p : Option Seen). option_and_then readable_of p) is ∙ readable_is

pub select_resyncs : SelectResyncs
select_resyncs view own tag read_only mailbox parameters known content asked h = resyncs view own tag read_only mailbox parameters known content asked h

pub client_is_brought_up : ClientIsBroughtUp
client_is_brought_up view own tag read_only mailbox parameters known s history user asked all h is lawful =
    let content = content_of user s in
    let held = map known_of (rows_after (take (known.mod_seq - 1) (events_of history user))) in
    let front = (select_answer view own tag read_only mailbox).answer.untagged in
    ap (λ ls. after_lines ls held) (resyncs view own tag read_only mailbox parameters known content asked h)
    ∙ after_append front (resync_lines known content) held
    ∙ ap (after_lines (resync_lines known content)) (quiet view own tag read_only mailbox parameters known content asked h held)
    ∙ lines_bring_up s history user known all is lawful
