-- The known messages of a set, one after another.
use Rattle.std.proofs.Common.{◌≡◌, ℕ, ◌+◌, ◌<◌, ◌≤◌, Bool, true, false, cond, List, [], ◌∷◌, ◌++◌, append_assoc, add-one, drop, drop-cons, get_or, length, sym, ap, subst, ◌∙◌, arith}
use Rattle.std.proofs.lemmas.List.{append-nil}
use Rattle.imap_mailbox.specs.Rows.{first_uid}
use Rattle.imap_mailbox.specs.Summary.{AreRising, Rises}
use Rattle.imap_mailbox.proofs.Rising.{rises_lower}
use Rattle.imap_session.specs.Held.{UidsRise, uid_limit}
use Rattle.imap_syntax.specs.declared.set.Numbering.{Numbering}
use Rattle.imap_syntax.specs.declared.set.SeqRange.{SeqRange}
use Rattle.imap_targets.specs.declared.message_numbers.MessageNumbers.{MessageNumbers}
use Rattle.imap_targets.specs.declared.message_numbers.Numbered.{Numbered}
use Rattle.imap_targets.specs.MessageNumbers.{in_set, messages_from, number_by, uids_of}
use Rattle.imap_targets.specs.Spans.{named_in}

-- ---- the messages of a set rise, as those that are known do

pub named_rise : (by : Numbering) (last : ℕ) (ranges : List SeqRange) (low high n : ℕ) (known : List ℕ) → Rises low high known → Rises low high (uids_of (messages_from by last ranges n known))
named_rise by last ranges low high n [] h = h
named_rise by last ranges low high n (k ∷ known) h =
    either (in_set last ranges (number_by by (record { number = n; uid = k }))) (named_rise by last ranges (k + 1) high (n + 1) known h.1)
  where
    either : (b : Bool) → Rises (k + 1) high (uids_of (messages_from by last ranges (n + 1) known))
        → Rises low high (uids_of (cond b (record { number = n; uid = k } ∷ messages_from by last ranges (n + 1) known) (messages_from by last ranges (n + 1) known)))
    either true rest = (h.0, rest)
    either false rest = let at : low ≤ k = h.0 in rises_lower (k + 1) low high (uids_of (messages_from by last ranges (n + 1) known)) (omega arith) rest

module _ (m : MessageNumbers) (known : List ℕ) where
  abbrev later : ℕ → List Numbered
  later index = messages_from m.numbering m.last m.ranges.now (index + 1) (drop index known)

  -- those before the place
  pub record IsListed (index : ℕ) (named : List Numbered) : Type 0 where
    pub rest : named ++ later index ≡ named_in m known

  pub at_first : (start : ℕ) (named : List Numbered) → later start ≡ named_in m known → named ≡ [] → IsListed start named
  at_first start named all none = record { rest = λ j. none j ++ all j }

  pub at_last : (end : ℕ) (named : List Numbered) → later end ≡ [] → IsListed end named → named ≡ named_in m known
  at_last end named none before = sym (append-nil named) ∙ ap (λ ms. named ++ ms) (sym none) ∙ before.rest

  pub all_rise : (end index : ℕ) (named : List Numbered) → UidsRise known → later end ≡ [] → index ≡ end → IsListed index named → AreRising (uids_of named)
  all_rise end index named rise none same before = (
    first_uid,
    uid_limit,
    subst (λ (ms : List Numbered). Rises first_uid uid_limit (uids_of ms)) (sym (at_last index named (ap later same ∙ none) before))
        (named_rise m.numbering m.last m.ranges.now first_uid uid_limit 1 known rise),
  )

  module _ (index : ℕ) (one : Numbered) (within : index < length known) (number : one.number ≡ index + 1) (is : one.uid ≡ get_or known index one.uid) where
    abbrev front : ℕ → ℕ → List ℕ → List Numbered
    front n uid rest = let x : Numbered = record { number = n; uid = uid } in
        cond (in_set m.last m.ranges.now (number_by m.numbering x)) (x ∷ messages_from m.numbering m.last m.ranges.now (index + 1 + 1) rest) (messages_from m.numbering m.last m.ranges.now (index + 1 + 1) rest)

    ahead : later index ≡ front one.number one.uid (drop (index + 1) known)
    ahead = ap (messages_from m.numbering m.last m.ranges.now (index + 1)) (drop-cons known index one.uid within) ∙ λ j. front (sym number j) (sym is j) (drop (sym (add-one index) j) known)

    pub skipped : (named : List Numbered) → in_set m.last m.ranges.now (number_by m.numbering one) ≡ false → IsListed index named → IsListed (index + 1) named
    skipped named unnamed before = record {
      rest = ap (λ ms. named ++ ms) (sym (ahead ∙ ap (λ b. cond b (one ∷ later (index + 1)) (later (index + 1))) unnamed)) ∙ before.rest;
    }

    pub pushed : (named new : List Numbered) → new ≡ named ++ one ∷ [] → in_set m.last m.ranges.now (number_by m.numbering one) ≡ true → IsListed index named → IsListed (index + 1) new
    pushed named new made is_named before = record {
      rest =
          ap (λ ms. ms ++ later (index + 1)) made
          ∙ append_assoc named (one ∷ []) (later (index + 1))
          ∙ ap (λ ms. named ++ ms) (sym (ahead ∙ ap (λ b. cond b (one ∷ later (index + 1)) (later (index + 1))) is_named))
          ∙ before.rest;
    }
