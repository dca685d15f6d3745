-- A walk to the first row above a mod-sequence.
use Rattle.std.proofs.Common.{◌≡◌, ◌⊎◌, inl, inr, ℕ, ◌+◌, ◌<◌, ◌≤◌, max, ltb, Bool, true, false, List, length, map, get_or, sym, subst, ap, ◌∙◌, arith}
use Rattle.std.proofs.lemmas.Bool.{cases_lt, le-ltb}
use Rattle.std.proofs.lemmas.List.{get_or-map}
use Rattle.imap_modseq.proofs.Order.{before_most}
use Rattle.imap_mailbox.specs.declared.message.Message.{Message}
use Rattle.imap_mailbox.specs.Own.{Own}
use Rattle.imap_mailbox.specs.Rows.{Row}
use Rattle.imap_mailbox.specs.Summary.{latest, latest_number, row_in, number_at}
use Rattle.imap_mailbox.specs.Above.{AreAtMostFrom}

-- what isn't among the late ones isn't above the number
pub early : (n last : ℕ) (late : Bool) → late ≡ false → (n < last → late ≡ true) → last ≤ n
early n last late not_late above = by (cases_lt n last)
  where
    by : (n < last) ⊎ (last ≤ n) → last ≤ n
    by (inl lt) = let e : true ≡ false = sym (above lt) ∙ not_late in absurd (cc e)
    by (inr le) = le

-- a message with a last shared event and a last own change that aren't above the number
pub quiet_row : (n : ℕ) (own : Own) (m : Message) → latest_number (latest m.uid own) ≤ n → 2 + (m.place + length own.befores) ≤ n → ltb n (row_in own m).number ≡ false
quiet_row n own m late fits =
    let before = before_most own.befores m.place in
    le-ltb n (max (number_at own m.place) (latest_number (latest m.uid own))) (omega (arith, late, before))

-- the row of the message at a place
row_at : (own : Own) (ms : List Message) (i : ℕ) (m : Message) (r : Row) → i < length ms → m ≡ get_or ms i m → r ≡ get_or (map (row_in own) ms) i r → r ≡ row_in own m
row_at own ms i m r lt is shown = shown ∙ get_or-map (row_in own) ms i m r lt ∙ ap (row_in own) (sym is)

-- one more row is passed
pub passed_more : (n start place : ℕ) (own : Own) (ms : List Message) (m : Message) → AreAtMostFrom n start place (map (row_in own) ms) → place < length ms → m ≡ get_or ms place m
    → (row_in own m).number ≤ n → AreAtMostFrom n start (place + 1) (map (row_in own) ms)
passed_more n start place own ms m low lt is quiet i r from to shown = by (cases_lt i place)
  where
    by : (i < place) ⊎ (place ≤ i) → r.number ≤ n
    by (inl below) = low i r from below shown
    by (inr at) =
        let here : i ≡ place = omega (arith, to, at) in
        subst (λ (x : Row). x.number ≤ n) (sym (row_at own ms place m r lt is (shown ∙ ap (λ j. get_or (map (row_in own) ms) j r) here))) quiet
