-- What STATUS counts, by a walk.
use Rattle.std.proofs.Common.{◌≡◌, ℕ, ◌+◌, ◌-◌, ◌^◌, ◌<◌, ◌≤◌, cond, not, List, [], ◌∷◌, length, map, drop, get_or, refl, sym, ap, ◌∙◌, arith}
use Rattle.std.specs.Prelude.{min, count_by}
use Rattle.std.specs.List.{sum_by}
use Rattle.std.proofs.lemmas.List.{drop_all}
use Rattle.std.proofs.lemmas.List.Sums.{sum_by-cons, sum_by-drop_more}
use Rattle.imap_mailbox.specs.declared.message.Message.{Message}
use Rattle.imap_mailbox.specs.Own.{no_own}
use Rattle.imap_mailbox.specs.Summary.{latest_seen, row_in}
use Rattle.imap_mailbox.specs.Status.{unseen_in, max_size}
use Rattle.imap_mailbox.proofs.Joined.{none_latest}

pub added : (messages : List Message) (i : ℕ) (m : Message) (size len next whole : ℕ) → i < length messages → m ≡ get_or messages i m → len ≡ length m.octets → next ≡ min (min (size + len) (2 ^ 64 - 1)) max_size
    → min max_size (size + sum_by (λ (m : Message). length m.octets) (drop i messages)) ≡ whole → min max_size (next + sum_by (λ (m : Message). length m.octets) (drop (i + 1) messages)) ≡ whole
added messages i m size len next whole lt is count made before =
    let more = sum_by-drop_more (λ (m : Message). length m.octets) messages i m lt in
    let same = ap (λ (m : Message). length m.octets) is in
    omega (arith, more, same, count, made, before)

pub all_added : (messages : List Message) (size : ℕ) → size ≤ max_size → min max_size (size + sum_by (λ (m : Message). length m.octets) (drop (length messages) messages)) ≡ min max_size (sum_by (λ (m : Message). length m.octets) messages)
    → size ≡ min max_size (sum_by (λ (m : Message). length m.octets) messages)
all_added messages size le h =
    let none = ap (sum_by (λ (m : Message). length m.octets)) (drop_all (length messages) messages (omega arith)) in
    omega (arith, le, none, h)

pub one_more : (messages : List Message) (i : ℕ) (m : Message) (count whole : ℕ) → i < length messages → m ≡ get_or messages i m
    → count + count_by (λ (m : Message). m.flags.deleted) (drop i messages) ≡ whole → count + cond m.flags.deleted 1 0 + count_by (λ (m : Message). m.flags.deleted) (drop (i + 1) messages) ≡ whole
one_more messages i m count whole lt is before =
    let more = sum_by-drop_more (λ (m : Message). cond m.flags.deleted 1 0) messages i m lt in
    let same = ap {B = ℕ} (λ (m : Message). cond m.flags.deleted 1 0) is in
    omega (arith, more, same, before)

-- without own changes all are unseen
pub all_unseen : (messages : List Message) → length messages ≡ unseen_in (map (row_in no_own) messages)
all_unseen [] = refl
all_unseen (m ∷ messages) =
    let rest = all_unseen messages in
    (let z : length (m ∷ messages) ≡ 1 + unseen_in (map (row_in no_own) messages) = omega (arith, rest) in z)
    ∙ ap (λ o. cond (not (latest_seen o)) 1 0 + unseen_in (map (row_in no_own) messages)) (sym (none_latest m.uid))
    ∙ sym (sum_by-cons _ (row_in no_own m) (map (row_in no_own) messages))
