-- How many messages a user has seen, after each change.
use Rattle.std.proofs.Common.{◌≡◌, ℕ, ◌+◌, ◌-◌, ◌≤◌, eqb, not, ◌&&◌, Bool, true, false, cond, List, [], ◌∷◌, ◌++◌, length, map, drop, Option, Some, None, refl, sym, ap, subst, ◌∙◌, arith}
use Rattle.std.specs.Prelude.{count_by}
use Rattle.std.specs.FinMap.{get-empty}
use Rattle.std.specs.Option.{option_map}
use Rattle.std.specs.Ordering.{nat_cmp}
use Rattle.std.proofs.Math.Seq.{drop-append_seam}
use Rattle.std.proofs.lemmas.List.{map-append, drop_all}
use Rattle.imap_modseq.specs.Numbers.{own_number}
use Rattle.imap_mailbox.specs.declared.kept_change.KeptChange.{KeptChange}
use Rattle.imap_mailbox.specs.declared.message.GoneMessage.{GoneMessage}
use Rattle.imap_mailbox.specs.declared.message.Message.{Message}
use Rattle.imap_mailbox.specs.declared.own.SeenChange.{SeenChange}
use Rattle.imap_mailbox.specs.Counted.{seen_among, seen_after}
use Rattle.imap_mailbox.specs.Expunging.{without_all, uids_there, gone_at}
use Rattle.imap_mailbox.specs.Latest.{last_uids, last_in, is_set, own_in}
use Rattle.imap_mailbox.specs.Own.{Own, no_own, with_change}
use Rattle.imap_mailbox.specs.Rows.{Row, is_among}
use Rattle.imap_mailbox.specs.Status.{unseen_in}
use Rattle.imap_mailbox.specs.Summary.{Rises, shown, latest, latest_seen, row_in, uids_in, gone_uids, without, AreOfGiven}
use Rattle.imap_mailbox.proofs.Passing.{one_of, answered, counted_there, counted_without, counted_push, counted_map, counts, counted_alike}
use Rattle.imap_mailbox.proofs.ExpungedAll.{filter_twice, all_stay, absent_stay, there_without, there_more, there_absent}
use Rattle.imap_mailbox.proofs.Fitting.{without_uid}
use Rattle.imap_mailbox.proofs.Joined.{latest-after, latest-none}
use Rattle.imap_mailbox.proofs.Rising.{rises_without}
use Rattle.imap_mailbox.proofs.TableOfLast.{none_above, get_latest}

abbrev has_seen : Own → ℕ → Bool
has_seen own uid = latest_seen (latest uid own)

-- ---- one user

-- \Seen of a message that is there
pub seen_pushed : (own : Own) (s : SeenChange) (low high : ℕ) (us : List ℕ) → Rises low high us → is_among s.uid us ≡ true
    → seen_among (with_change s own) us ≡ seen_after (latest_seen (latest s.uid own)) s.seen (seen_among own us)
seen_pushed own s low high us h there =
    let alike = counted_alike (has_seen (with_change s own)) (λ u. cond (eqb u s.uid) s.seen (has_seen own u)) us (λ u. ap latest_seen (latest-after u own s) ∙ moved u (eqb u s.uid)) in
    let one = answered (has_seen own) s.uid s.seen low high us h in
    let left : one_of (is_among s.uid us && has_seen own s.uid) ≡ one_of (has_seen own s.uid) = ap (λ b. one_of (b && has_seen own s.uid)) there in
    let right : one_of (is_among s.uid us && s.seen) ≡ one_of s.seen = ap (λ b. one_of (b && s.seen)) there in
    let some = counted_there (has_seen own) s.uid us there in
    omega (arith, alike, one, left, right, some)
  where
    moved : (u : ℕ) (b : Bool) → latest_seen (cond b (Some (own_number s.before (length own.befores), s.seen)) (latest u own)) ≡ cond b s.seen (has_seen own u)
    moved u true = refl
    moved u false = refl

-- without changes
pub none_seen : (us : List ℕ) → seen_among no_own us ≡ 0
none_seen [] = refl
none_seen (u ∷ us) =
    let rest = none_seen us in
    let none : one_of (has_seen no_own u) ≡ 0 = ap (λ o. one_of (latest_seen (option_map shown o))) (get-empty nat_cmp u) in
    omega (arith, rest, counts (has_seen no_own) u us, none)

-- by the table of last changes
pub seen_by_table : (last low high : ℕ) (entries : List KeptChange) (us : List ℕ) (first : ℕ) → Rises first last (last_uids entries) → Rises low high us
    → count_by (λ (l : KeptChange). l.seen && is_among l.uid us) entries ≡ count_by (λ u. is_set (last_in u entries)) us
seen_by_table last low high [] us first rises h = sym (counted_none us)
  where
    counted_none : (us : List ℕ) → count_by (λ u. is_set (last_in u [])) us ≡ 0
    counted_none [] = refl
    counted_none (u ∷ us) = omega (arith, counted_none us, counts (λ u. is_set (last_in u [])) u us)
seen_by_table last low high (l ∷ entries) us first rises h =
    let alike = counted_alike (λ u. is_set (last_in u (l ∷ entries))) (λ u. cond (eqb u l.uid) l.seen (seen_in u)) us (λ u. moved u (eqb u l.uid)) in
    let one = answered seen_in l.uid l.seen low high us h in
    let none : one_of (is_among l.uid us && seen_in l.uid) ≡ 0 = ap (λ o. one_of (is_among l.uid us && is_set o)) (none_above l.uid (l.uid + 1) last entries (omega arith) rises.1) ∙ nothing (is_among l.uid us) in
    let first : one_of (l.seen && is_among l.uid us) ≡ one_of (is_among l.uid us && l.seen) = turn l.seen (is_among l.uid us) in
    let rest = seen_by_table last low high entries us (l.uid + 1) rises.1 h in
    omega (arith, counts (λ (l : KeptChange). l.seen && is_among l.uid us) l entries, alike, one, none, first, rest)
  where
    seen_in : ℕ → Bool
    seen_in u = is_set (last_in u entries)

    moved : (u : ℕ) (b : Bool) → is_set (cond b (Some l) (last_in u entries)) ≡ cond b l.seen (seen_in u)
    moved u true = refl
    moved u false = refl

    nothing : (b : Bool) → one_of (b && false) ≡ 0
    nothing true = refl
    nothing false = refl

    turn : (a b : Bool) → one_of (a && b) ≡ one_of (b && a)
    turn true true = refl
    turn true false = refl
    turn false true = refl
    turn false false = refl

-- the table is read as the map
pub seen_by_map : (bs : List ℕ) (read table : List KeptChange) (us : List ℕ) → read ≡ table → count_by (λ u. is_set (last_in u read)) us ≡ seen_among (own_in bs table) us
seen_by_map bs read table us is =
    ap (λ t. count_by (λ u. is_set (last_in u t)) us) is
    ∙ counted_alike (λ u. is_set (last_in u table)) (has_seen (own_in bs table)) us (λ u. set (last_in u table) ∙ ap (λ o. latest_seen (option_map shown o)) (sym (get_latest table u)))
  where
    set : (o : Option KeptChange) → is_set o ≡ latest_seen (option_map shown o)
    set None = refl
    set (Some k) = refl

-- messages that are expunged
pub seen_left : (own : Own) (low high : ℕ) (uids : List ℕ) (first last : ℕ) (messages : List Message) → Rises low high uids → Rises first last (uids_in messages)
    → seen_among own (uids_in (without_all uids messages)) + seen_among own (uids_there uids messages) ≡ seen_among own (uids_in messages)
seen_left own low high [] first last messages h rises = let same = ap (λ ms. seen_among own (uids_in ms)) (all_stay messages) in omega (arith, same)
seen_left own low high (uid ∷ uids) first last messages h rises = by (is_among uid (uids_in messages)) refl (λ left rises. seen_left own (uid + 1) high uids first last left h.1 rises)
  where
    by : (b : Bool) → is_among uid (uids_in messages) ≡ b
        → ((left : List Message) → Rises first last (uids_in left) → seen_among own (uids_in (without_all uids left)) + seen_among own (uids_there uids left) ≡ seen_among own (uids_in left))
        → seen_among own (uids_in (without_all (uid ∷ uids) messages)) + seen_among own (uids_there (uid ∷ uids) messages) ≡ seen_among own (uids_in messages)
    by true t later =
        let fewer : Rises first last (uids_in (without uid messages)) = subst (Rises first last) (sym (without_uid uid messages)) (rises_without first last uid (uids_in messages) rises) in
        let rest = later (without uid messages) fewer in
        let twice = ap (λ ms. seen_among own (uids_in ms)) (filter_twice uid uids messages) in
        let same = ap (seen_among own) (there_without uid (uid + 1) high uids messages (omega arith) h.1) in
        let more = ap (seen_among own) (there_more uid uids messages t) in
        let cons = counts (has_seen own) uid (uids_there uids messages) in
        let one = counted_without (has_seen own) uid first last (uids_in messages) rises in
        let is : one_of (is_among uid (uids_in messages) && has_seen own uid) ≡ one_of (has_seen own uid) = ap (λ b. one_of (b && has_seen own uid)) t in
        let filtered = ap (seen_among own) (without_uid uid messages) in
        omega (arith, rest, twice, same, more, cons, one, is, filtered)
    by false f later =
        let rest = later messages rises in
        let stay = ap (λ ms. seen_among own (uids_in ms)) (absent_stay uid uids messages f) in
        let absent = ap (seen_among own) (there_absent uid uids messages f) in
        omega (arith, rest, stay, absent)

pub gone_again : (place : ℕ) (uids : List ℕ) → gone_uids (gone_at place uids) ≡ uids
gone_again place [] = refl
gone_again place (uid ∷ uids) = ap (λ us. uid ∷ us) (gone_again (place + 1) uids)

-- as the code makes it: `went` are the messages that were appended to those gone before, `read` those looked through
pub seen_fewer : (own : Own) (low high : ℕ) (uids : List ℕ) (first last place : ℕ) (messages read left : List Message) (before gone went : List GoneMessage)
    → Rises low high uids → Rises first last (uids_in messages) → read ≡ messages → left ≡ without_all uids messages
    → gone ≡ before ++ gone_at place (uids_there uids read) → went ≡ drop (length before) gone
    → seen_among own (uids_in left) ≡ seen_among own (uids_in messages) - seen_among own (gone_uids went)
seen_fewer own low high uids first last place messages read left before gone went h rises is stay pushed cut =
    let all = seen_left own low high uids first last messages h rises in
    let stays = ap (λ ms. seen_among own (uids_in ms)) stay in
    let goes : gone_uids went ≡ uids_there uids messages =
    ap gone_uids (cut ∙ ap (drop (length before)) pushed ∙ drop-append_seam before (gone_at place (uids_there uids read)))
    ∙ gone_again place (uids_there uids read) ∙ ap (uids_there uids) is in
    let seen = ap (seen_among own) goes in
    omega (arith, all, stays, seen)

pub seen_without : (own : Own) (uid first last : ℕ) (messages : List Message) → Rises first last (uids_in messages) → is_among uid (uids_in messages) ≡ true
    → seen_among own (uids_in (without uid messages)) ≡ seen_among own (uids_in messages) - seen_among own (uid ∷ [])
seen_without own uid first last messages rises t =
    let one = counted_without (has_seen own) uid first last (uids_in messages) rises in
    let is : one_of (is_among uid (uids_in messages) && has_seen own uid) ≡ one_of (has_seen own uid) = ap (λ b. one_of (b && has_seen own uid)) t in
    let filtered = ap (seen_among own) (without_uid uid messages) in
    omega (arith, one, is, filtered, counts (has_seen own) uid [])

-- a walk along those that went
pub gone_walked : (own : Own) (gone : List GoneMessage) (i count : ℕ) → length gone ≤ i
    → count + count_by (λ (g : GoneMessage). latest_seen (latest g.uid own)) (drop i gone) ≡ count_by (λ (g : GoneMessage). latest_seen (latest g.uid own)) gone
    → count ≡ seen_among own (gone_uids gone)
gone_walked own gone i count le all =
    let none = ap (count_by (λ (g : GoneMessage). latest_seen (latest g.uid own))) (drop_all i gone le) in
    omega (arith, all, none, counted_map (has_seen own) (λ (g : GoneMessage). g.uid) gone)

-- a message that is new
pub seen_new : (own : Own) (next : ℕ) (messages : List Message) (m : Message) → AreOfGiven next own → next ≤ m.uid
    → seen_among own (uids_in (messages ++ m ∷ [])) ≡ seen_among own (uids_in messages)
seen_new own next messages m given le =
    let pushed = ap (seen_among own) (map-append (λ (m : Message). m.uid) messages (m ∷ [])) in
    let one = counted_push (has_seen own) m.uid (uids_in messages) in
    let none : one_of (has_seen own m.uid) ≡ 0 = ap (λ o. one_of (latest_seen o)) (latest-none m.uid next own given le) in
    omega (arith, pushed, one, none)

-- those that are not seen
pub all_but_seen : (own : Own) (messages : List Message) → unseen_in (map (row_in own) messages) + seen_among own (uids_in messages) ≡ length messages
all_but_seen own [] = refl
all_but_seen own (m ∷ messages) =
    let rest = all_but_seen own messages in
    let rows = counts (λ (r : Row). not r.seen) (row_in own m) (map (row_in own) messages) in
    let seen = counts (has_seen own) m.uid (uids_in messages) in
    omega (arith, rest, rows, seen, one (has_seen own m.uid))
  where
    one : (b : Bool) → one_of (not b) + one_of b ≡ 1
    one true = refl
    one false = refl
