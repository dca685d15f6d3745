-- Messages that are named, in the order of UIDs.
use Rattle.std.proofs.Common.{◌≡◌, ℕ, ◌+◌, ◌<◌, ◌≤◌, Bool, true, false, cond, not, filter, List, [], ◌∷◌, ◌++◌, map, eqb, Option, Some, None, refl, sym, ap, subst, ◌∙◌, arith}
use Rattle.std.specs.Prelude.{Vec}
use Rattle.std.specs.declared.alloc.Global.{Global}
use Rattle.std.proofs.lemmas.Bool.{ne_eqb, eqb-true}
use Rattle.imap_commands.specs.declared.commands.store.StoreSpec.{StoreSpec}
use Rattle.imap_mailbox.specs.Lent.{row_uids}
use Rattle.imap_mailbox.specs.Rows.{Row}
use Rattle.imap_mailbox.specs.Summary.{AreRising, Rises}
use Rattle.imap_mailbox.proofs.Rising.{rises_lower}
use Rattle.imap_targets.specs.declared.message_numbers.Numbered.{Numbered}
use Rattle.imap_targets.specs.MessageNumbers.{row_with, uids_of}
use Rattle.imap_targets.proofs.Named.{row_below}
use Rattle.imap_targets.specs.State.{Selection}
use Rattle.imap_changes.specs.declared.store_outcome.StoreOutcome.{StoreOutcome}
use Rattle.imap_changes.specs.Store.{number_with, stored_all, stored_if_named, stored_of}
use Rattle.imap_changes.specs.Storing.{Stores, stored_if_there, stored_named}
use Rattle.imap_targets.specs.UnchangedSince.{is_skipped, unskipped}

-- ---- numbers of messages whose UIDs rise

above : (uid low high n : ℕ) (messages : List Numbered) → Rises low high (uids_of messages) → number_with uid messages ≡ Some n → low ≤ uid
above uid low high n [] h e = absurd (cc e)
above uid low high n (m ∷ messages) h e = by (eqb uid m.uid) refl e (above uid (m.uid + 1) high n messages h.1)
  where
    by : (x : Bool) → eqb uid m.uid ≡ x → cond x (Some m.number) (number_with uid messages) ≡ Some n → (number_with uid messages ≡ Some n → m.uid + 1 ≤ uid) → low ≤ uid
    by true is e later = let at : low ≤ m.uid = h.0 in let same = eqb-true uid m.uid is in omega (arith, at, same)
    by false is e later = let at : low ≤ m.uid = h.0 in let rest = later e in omega (arith, at, rest)

unnamed : (uid low high : ℕ) (messages : List Numbered) → uid < low → Rises low high (uids_of messages) → number_with uid messages ≡ None
unnamed uid low high [] lt h = refl
unnamed uid low high (m ∷ messages) lt h =
    let at : low ≤ m.uid = h.0 in
    ap (λ b. cond b (Some m.number) (number_with uid messages)) (ne_eqb uid m.uid (λ e. omega (arith, e, at, lt)))
    ∙ unnamed uid (m.uid + 1) high messages (omega (arith, at, lt)) h.1

-- some of them rise, too
chosen_rise : (test : Numbered → Bool) (low high : ℕ) (messages : List Numbered) → Rises low high (uids_of messages) → Rises low high (uids_of (filter test messages))
chosen_rise test low high [] h = h
chosen_rise test low high (m ∷ messages) h = by (test m) (chosen_rise test (m.uid + 1) high messages h.1)
  where
    by : (b : Bool) → Rises (m.uid + 1) high (uids_of (filter test messages)) → Rises low high (uids_of (cond b (m ∷ filter test messages) (filter test messages)))
    by true rest = (h.0, rest)
    by false rest = let at : low ≤ m.uid = h.0 in rises_lower (m.uid + 1) low high (uids_of (filter test messages)) (omega (arith, at)) rest

pub unskipped_rise : (since : Option ℕ) (rows : List Row) (messages : List Numbered) → AreRising (uids_of messages) → AreRising (uids_of (unskipped since rows messages))
unskipped_rise since rows messages rise = (rise.0, rise.1, chosen_rise (λ m. not (is_skipped since rows m)) rise.0 rise.1 messages rise.2)

module _ (rights : ℕ) (spec : StoreSpec) (selection : Selection) where
  -- rows of greater UIDs
  others : (m : Numbered) (messages : List Numbered) (low high : ℕ) (rows : List Row) → m.uid < low → Rises low high (row_uids rows)
      → stored_all rights spec selection (m ∷ messages) rows ≡ stored_all rights spec selection messages rows
  others m messages low high [] lt h = refl
  others m messages low high (r ∷ rows) lt h =
      let at : low ≤ r.uid = h.0 in
      let rest = others m messages (r.uid + 1) high rows (omega (arith, at, lt)) h.1 in
      let same : number_with r.uid (m ∷ messages) ≡ number_with r.uid messages =
      ap (λ b. cond b (Some m.number) (number_with r.uid messages)) (ne_eqb r.uid m.uid (λ e. omega (arith, e, at, lt))) in
      λ j. stored_if_named rights spec selection (same j) r ++ rest j

  -- one message that is named before others, whose UIDs are greater
  module _ (m : Numbered) (messages : List Numbered) (top : ℕ) (up : Rises (m.uid + 1) top (uids_of messages)) where
    abbrev first : Option Row → List StoreOutcome
    first row = stored_if_there rights spec selection m.number row

    one_first : (low high : ℕ) (rows : List Row) → Rises low high (row_uids rows)
        → stored_all rights spec selection (m ∷ messages) rows ≡ first (row_with m.uid rows) ++ stored_all rights spec selection messages rows
    one_first low high [] h = refl
    one_first low high (r ∷ rows) h = by_row (eqb r.uid m.uid) refl (one_first (r.uid + 1) high rows h.1)
      where
        all : List StoreOutcome
        all = stored_all rights spec selection messages rows

        named : Option ℕ → List StoreOutcome
        named number = stored_if_named rights spec selection number r

        between : (o : Option ℕ) → number_with r.uid messages ≡ o → stored_all rights spec selection (m ∷ messages) rows ≡ first (row_with m.uid rows) ++ all
            → named o ++ stored_all rights spec selection (m ∷ messages) rows ≡ first (row_with m.uid rows) ++ (named o ++ all)
        between None e later = later
        between (Some n) e later =
            let le = above r.uid (m.uid + 1) top n messages up e in
            let none : row_with m.uid rows ≡ None = row_below m.uid (r.uid + 1) high rows (omega (arith, le)) h.1 in
            let gone : first (row_with m.uid rows) ≡ [] = ap first none in
            ap (λ x. stored_of rights spec selection n r ∷ x) (later ∙ ap (λ x. x ++ all) gone)
            ∙ ap (λ x. x ++ (stored_of rights spec selection n r ∷ all)) (sym gone)

        by_row : (b : Bool) → eqb r.uid m.uid ≡ b → stored_all rights spec selection (m ∷ messages) rows ≡ first (row_with m.uid rows) ++ all
            → named (cond b (Some m.number) (number_with r.uid messages)) ++ stored_all rights spec selection (m ∷ messages) rows
            ≡ first (cond b (Some r) (row_with m.uid rows)) ++ (named (number_with r.uid messages) ++ all)
        by_row true e later =
            let same : r.uid ≡ m.uid = eqb-true r.uid m.uid e in
            let rest = others m messages (r.uid + 1) high rows (omega (arith, same)) h.1 in
            let none : number_with r.uid messages ≡ None = unnamed r.uid (m.uid + 1) top messages (omega (arith, same)) up in
            λ j. stored_of rights spec selection m.number r ∷ (named (sym none j) ++ rest j)
        by_row false e later = between (number_with r.uid messages) refl later

  none_stored : (rows : List Row) → stored_all rights spec selection [] rows ≡ []
  none_stored [] = refl
  none_stored (r ∷ rows) = none_stored rows

  pub merged : (top low high less : ℕ) (messages : List Numbered) (rows : List Row) → Rises less top (uids_of messages) → Rises low high (row_uids rows)
      → stored_named rights spec selection rows messages ≡ stored_all rights spec selection messages rows
  merged top low high less [] rows up h = sym (none_stored rows)
  merged top low high less (m ∷ messages) rows up h =
      ap (λ x. stored_if_there rights spec selection m.number (row_with m.uid rows) ++ x) (merged top low high (m.uid + 1) messages rows up.1 h)
      ∙ sym (one_first m messages top up.1 low high rows h)

  -- their UIDs rise, as those of the rows do
  pub stored_rise : (messages : List Numbered) (low high : ℕ) (rows : List Row) → Rises low high (row_uids rows)
      → Rises low high (map (λ (m : StoreOutcome). m.uid) (stored_all rights spec selection messages rows))
  stored_rise messages low high [] h = h
  stored_rise messages low high (r ∷ rows) h = by (number_with r.uid messages) (stored_rise messages (r.uid + 1) high rows h.1)
    where
      at : low ≤ r.uid
      at = h.0

      by : (o : Option ℕ) → Rises (r.uid + 1) high (map (λ (m : StoreOutcome). m.uid) (stored_all rights spec selection messages rows))
          → Rises low high (map (λ (m : StoreOutcome). m.uid) (stored_if_named rights spec selection o r ++ stored_all rights spec selection messages rows))
      by None rest = rises_lower (r.uid + 1) low high (map (λ (m : StoreOutcome). m.uid) (stored_all rights spec selection messages rows)) (omega (arith, at)) rest
      by (Some n) rest = (at, rest)

  pub found_rise : (messages : List Numbered) (low high : ℕ) (rows : List Row) (found : Option (Vec StoreOutcome Global)) (stored : Vec StoreOutcome Global) (given : List StoreOutcome) → Rises low high (row_uids rows)
      → Stores (stored_all rights spec selection messages rows) found → found ≡ Some stored → given ≡ stored.items → AreRising (map (λ (m : StoreOutcome). m.uid) given)
  found_rise messages low high rows found stored given h stores is same =
      let made : Stores (stored_all rights spec selection messages rows) (Some stored) = subst (Stores (stored_all rights spec selection messages rows)) is stores in (
        low,
        high,
        subst (λ (ms : List StoreOutcome). Rises low high (map (λ (m : StoreOutcome). m.uid) ms)) (sym (same ∙ made.0)) (stored_rise messages low high rows h),
      )
