-- The lines of messages, one after another.
use Rattle.std.proofs.Common.{◌≡◌, ℕ, ◌+◌, ◌<◌, ◌≤◌, Bool, true, false, List, [], ◌∷◌, ◌++◌, append_assoc, add-one, drop, drop-cons, get_or, length, refl, sym, ap, subst, ◌∙◌, arith}
use Rattle.std.specs.Prelude.{nat_lt, ◌^◌, ◌||◌}
use Rattle.std.specs.List.{AllByRecursion}
use Rattle.std.proofs.lemmas.Bool.{ltb-false}
use Rattle.std.proofs.lemmas.List.{append-nil}
use Rattle.imap_batch.specs.Batch.{one_if}
use Rattle.imap_modseq.specs.Numbers.{max_events, max_number}
use Rattle.imap_view.specs.declared.readable.Readable.{Readable}
use Rattle.imap_targets.specs.Left.{events_left}
use Rattle.imap_print.specs.declared.response.Response.{Response}
use Rattle.imap_print.specs.Lines.{IsPrintable}
use Rattle.imap_changes.specs.declared.store_outcome.StoreOutcome.{StoreOutcome}
use Rattle.imap_changes.specs.Store.{changes_by, event_count, flag_changes, lacks_changes, line_of, lines_from, seen_changes}
use Rattle.imap_changes.specs.Storing.{events_in}

-- ---- how many events there are

both_false : (a b : Bool) → (a || b) ≡ false → (a ≡ false) × (b ≡ false)
both_false true b e = absurd (cc e)
both_false false b e = (refl, e)

counted : (messages : List StoreOutcome) → events_in messages ≡ flag_changes messages + seen_changes messages
counted [] = refl
counted (m ∷ messages) = by (one_if m.flags_change) (one_if m.seen_changes) (counted messages)
  where
    by : (f s : ℕ) → events_in messages ≡ flag_changes messages + seen_changes messages → (f + s) + events_in messages ≡ (f + flag_changes messages) + (s + seen_changes messages)
    by f s e = omega (arith, e)

-- no mod-sequence is too large
pub numbers_fit : (mailbox : Readable) (messages : List StoreOutcome) → mailbox.highest ≤ max_number → lacks_changes mailbox messages ≡ false → mailbox.highest + events_in messages < 2 ^ 64
numbers_fit mailbox messages bounded suffice =
    let parts = both_false (nat_lt (events_left mailbox) (flag_changes messages)) (nat_lt max_events (mailbox.own + seen_changes messages)) suffice in
    let shared = ltb-false (events_left mailbox) (flag_changes messages) parts.0 in
    let own = ltb-false max_events (mailbox.own + seen_changes messages) parts.1 in
    omega (arith, bounded, shared, own, counted messages)

module _ (test : StoreOutcome → Bool) (messages : List StoreOutcome) where
  -- of those before the place i
  pub record AreCounted (i count : ℕ) : Type 0 where
    pub rest : count + changes_by test (drop i messages) ≡ changes_by test messages
    pub few : count ≤ i

  pub one_more : (i : ℕ) (m : StoreOutcome) (count : ℕ) → i < length messages → m ≡ get_or messages i m → AreCounted i count → AreCounted (i + 1) (count + one_if (test m))
  one_more i m count within is before =
      let next : drop i messages ≡ m ∷ drop (i + 1) messages = drop-cons messages i m within ∙ λ j. sym is j ∷ drop (sym (add-one i) j) messages in
      let all : count + (one_if (test m) + changes_by test (drop (i + 1) messages)) ≡ changes_by test messages = ap (λ ms. count + changes_by test ms) (sym next) ∙ before.rest in
      record { rest = omega (arith, all); few = at_most (test m) before.few }
    where
      at_most : (b : Bool) → count ≤ i → count + one_if b ≤ i + 1
      at_most true le = omega (arith, le)
      at_most false le = omega (arith, le)

-- ---- lines

module _ (silent condstore : Bool) (highest : ℕ) (messages : List StoreOutcome) where
  -- of those before the place i. `before` is HIGHESTMODSEQ after their events
  pub record AreLinesTo (i before : ℕ) (lines : List Response) : Type 0 where
    pub rest : lines ++ lines_from silent condstore before (drop i messages) ≡ lines_from silent condstore highest messages
    pub number : before + events_in (drop i messages) ≡ highest + events_in messages
    pub printable : AllByRecursion IsPrintable lines

  pub at_first : (before : ℕ) (lines : List Response) → before ≡ highest → lines ≡ [] → AreLinesTo 0 before lines
  at_first before lines same none = record {
    rest = λ j. none j ++ lines_from silent condstore (same j) messages;
    number = ap (λ n. n + events_in messages) same;
    printable = subst (AllByRecursion IsPrintable) (sym none) tt;
  }

  pub at_last : (i before : ℕ) (lines : List Response) → drop i messages ≡ [] → AreLinesTo i before lines → lines ≡ lines_from silent condstore highest messages
  at_last i before lines none so_far = sym (append-nil lines) ∙ ap (λ ms. lines ++ lines_from silent condstore before ms) (sym none) ∙ so_far.rest

  module _ (i : ℕ) (m : StoreOutcome) (within : i < length messages) (is : m ≡ get_or messages i m) where
    next : drop i messages ≡ m ∷ drop (i + 1) messages
    next = drop-cons messages i m within ∙ λ j. sym is j ∷ drop (sym (add-one i) j) messages

    -- no number is too large
    pub number_fits : (before most : ℕ) (lines : List Response) → highest + events_in messages < most → AreLinesTo i before lines → before + event_count m < most
    number_fits before most lines small so_far =
        let all : before + (event_count m + events_in (drop (i + 1) messages)) ≡ highest + events_in messages = ap (λ ms. before + events_in ms) (sym next) ∙ so_far.number in
        omega (arith, all, small)

    pub pushed : (before after : ℕ) (lines new : List Response) → after ≡ before + event_count m → new ≡ lines ++ line_of silent condstore after m
        → (AllByRecursion IsPrintable lines → AllByRecursion IsPrintable new) → AreLinesTo i before lines → AreLinesTo (i + 1) after new
    pushed before after lines new later made printable so_far = record {
      rest =
          ap (λ ls. ls ++ lines_from silent condstore after (drop (i + 1) messages)) made
          ∙ append_assoc lines (line_of silent condstore after m) (lines_from silent condstore after (drop (i + 1) messages))
          ∙ (λ j. lines ++ (line_of silent condstore (later j) m ++ lines_from silent condstore (later j) (drop (i + 1) messages)))
          ∙ ap (λ ms. lines ++ lines_from silent condstore before ms) (sym next)
          ∙ so_far.rest;
      number =
          let all : before + (event_count m + events_in (drop (i + 1) messages)) ≡ highest + events_in messages = ap (λ ms. before + events_in ms) (sym next) ∙ so_far.number in
          omega (arith, all, later);
      printable = printable so_far.printable;
    }
