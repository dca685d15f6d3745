-- A client that follows notices.
use Rattle.std.proofs.Common.{◌≡◌, ℕ, zero, suc, ◌+◌, ◌-◌, ◌<◌, ◌≤◌, eqb, not, ◌||◌, Bool, true, false, cond, List, [], ◌∷◌, ◌++◌, length, map, Option, Some, None, refl, sym, ap, subst, ◌∙◌, arith}
use Rattle.std.proofs.lemmas.Bool.{ne_eqb, eq-eqb}
use Rattle.std.proofs.lemmas.List.{append_assoc, append-nil, length_push, length-append, length-map}
use Rattle.imap_print.specs.declared.response.Response.{Response}
use Rattle.imap_print.specs.declared.response.Response.TheVariants as response
use Rattle.imap_mailbox.specs.Rows.{Row, is_among}
use Rattle.imap_mailbox.specs.Summary.{Rises}
use Rattle.imap_mailbox.specs.Brought.{told_of}
use Rattle.imap_session.specs.declared.options.NoticeOptions.{NoticeOptions}
use Rattle.imap_session.specs.Compared.{Comparison, Expunged, Present, comparisons, new_rows, uids_after, known_after, is_told}
use Rattle.imap_session.specs.Notices.{flag_set, notice_items, expunge_lines, expunged_uids, vanished_line, exists_line, fetch_lines, expunge_notices}
use Rattle.imap_session.specs.Following.{ClientMessage, after_expunge, after_vanished, unknown_messages, after_fetch, after_lines, after_line, client_message, has_uid, HoldsWhatIsTold, held_after, ClientFollows, ClientHoldsMailbox}
use Rattle.imap_session.proofs.Matching.{known_is, not_below}

-- of what was held, what is left
abbrev left : Bool → List ClientMessage → List Comparison → List ClientMessage
left may [] cs = []
left may (m ∷ held) [] = []
left may (m ∷ held) (Expunged u ∷ cs) = cond may (left may held cs) (m ∷ left may held cs)
left may (m ∷ held) (Present r ∷ cs) = m ∷ left may held cs

follow_more : (a b : List Response) (held : List ClientMessage) → after_lines (a ++ b) held ≡ after_lines b (after_lines a held)
follow_more [] b held = refl
follow_more (x ∷ a) b held = follow_more a b (after_line x held)

-- ---- places in what is held

expunge_at : (n : ℕ) (front : List ClientMessage) (h : ClientMessage) (back : List ClientMessage) → length front ≡ n → after_expunge (suc n) (front ++ h ∷ back) ≡ front ++ back
expunge_at n [] h back e = ap (λ b. cond b back (h ∷ after_expunge n back)) (eq-eqb n 0 (sym e))
expunge_at zero (y ∷ front) h back e = absurd (omega arith)
expunge_at (suc m) (y ∷ front) h back e = ap (λ b. cond b (front ++ h ∷ back) (y ∷ after_expunge (suc m) (front ++ h ∷ back))) (ne_eqb (suc m) 0 (λ z. omega arith)) ∙ ap (λ l. y ∷ l) (expunge_at m front h back (omega arith))

put_at : (n : ℕ) (c : Bool) (r : Row) (front : List ClientMessage) (h : ClientMessage) (back : List ClientMessage) → length front ≡ n → after_fetch (suc n) (notice_items c (told_of r)) (front ++ h ∷ back) ≡ front ++ client_message r ∷ back
put_at n c r [] h back e = ap (λ b. cond b (client_message r ∷ back) (h ∷ after_fetch n (notice_items c (told_of r)) back)) (eq-eqb n 0 (sym e))
put_at zero c r (y ∷ front) h back e = absurd (omega arith)
put_at (suc m) c r (y ∷ front) h back e =
    ap (λ b. cond b (record { uid = Some r.uid; flags = Some (flag_set r.flags r.seen) } ∷ front ++ h ∷ back) (y ∷ after_fetch (suc m) (notice_items c (told_of r)) (front ++ h ∷ back))) (ne_eqb (suc m) 0 (λ z. omega arith))
    ∙ ap (λ l. y ∷ l) (put_at m c r front h back (omega arith))

shifted : {A : Type 0} (front : List A) (k : A) (rest : List A) → front ++ k ∷ rest ≡ (front ++ k ∷ []) ++ rest
shifted front k rest = sym (append_assoc front (k ∷ []) rest)

-- ---- UIDs of what is held

has_here : (uid : ℕ) (uids : List ℕ) (o : Option ℕ) → o ≡ Some uid → has_uid (uid ∷ uids) o ≡ true
has_here uid uids o e = ap (has_uid (uid ∷ uids)) e ∙ ap (λ b. b || is_among uid uids) (eq-eqb uid uid refl)

has_none : (uid : ℕ) (uids : List ℕ) (o : Option ℕ) → o ≡ Some uid → is_among uid uids ≡ false → has_uid uids o ≡ false
has_none uid uids o e none = ap (has_uid uids) e ∙ none

has_other : (uid other : ℕ) (uids : List ℕ) (o : Option ℕ) → o ≡ Some other → uid < other → has_uid (uid ∷ uids) o ≡ has_uid uids o
has_other uid other uids o e lt =
    ap (has_uid (uid ∷ uids)) e ∙ ap (λ b. b || is_among other uids) (ne_eqb uid other (λ same. omega (arith, same, lt))) ∙ sym (ap (has_uid uids) e)

vanish_none : (held : List ClientMessage) → after_vanished [] held ≡ held
vanish_none [] = refl
vanish_none (h ∷ held) = by h.uid refl ∙ ap (λ l. h ∷ l) (vanish_none held)
  where
    by : (o : Option ℕ) → h.uid ≡ o → cond (not (has_uid [] h.uid)) (h ∷ after_vanished [] held) (after_vanished [] held) ≡ h ∷ after_vanished [] held
    by None e = λ i. cond (not (has_uid [] (e i))) (h ∷ after_vanished [] held) (after_vanished [] held)
    by (Some uid) e = λ i. cond (not (has_uid [] (e i))) (h ∷ after_vanished [] held) (after_vanished [] held)

vanished_is : (us : List ℕ) (held : List ClientMessage) → after_lines (vanished_line us) held ≡ after_vanished us held
vanished_is [] held = sym (vanish_none held)
vanished_is (u ∷ us) held = refl

-- ---- a client that holds what it was told

module _ (up_to : ℕ) (told : List ℕ) where
  abbrev Holds : List ClientMessage → List Comparison → Type 0
  Holds held cs = HoldsWhatIsTold up_to told held cs

  expunged : (i : ℕ) (front held : List ClientMessage) (cs : List Comparison) → Holds held cs → length front ≡ i → after_lines (expunge_lines (suc i) cs) (front ++ held) ≡ front ++ left true held cs
  expunged i front [] [] h e = refl
  expunged i front [] (c ∷ cs) h e = absurd h
  expunged i front (m ∷ held) [] h e = absurd h
  expunged i front (m ∷ held) (Expunged u ∷ cs) h e = ap (after_lines (expunge_lines (suc i) cs)) (expunge_at i front m held e) ∙ expunged i front held cs h.1 e
  expunged i front (m ∷ held) (Present r ∷ cs) h e =
      (λ j. after_lines (expunge_lines (one j) cs) (shifted front m held j))
      ∙ expunged (i + 1) (front ++ m ∷ []) held cs h.1.1 (length_push front m ∙ ap (λ n. n + 1) e)
      ∙ sym (shifted front m (left true held cs))
    where
      one : suc i + 1 ≡ suc (i + 1)
      one = omega arith

  -- a UID before all others is of none of them
  vanish_first : (low high uid : ℕ) (uids : List ℕ) (held : List ClientMessage) (cs : List Comparison) → Holds held cs → Rises low high (uids_after false cs) → uid < low
      → after_vanished (uid ∷ uids) held ≡ after_vanished uids held
  vanish_first low high uid uids [] cs h rises lt = refl
  vanish_first low high uid uids (m ∷ held) [] h rises lt = absurd h
  vanish_first low high uid uids (m ∷ held) (Expunged u ∷ cs) h rises lt =
      let first : low ≤ u = rises.0 in
      (λ i. cond (not (has_other uid u uids m.uid h.0 (omega arith) i)) (m ∷ after_vanished (uid ∷ uids) held) (after_vanished (uid ∷ uids) held))
      ∙ (λ i. cond (not (has_uid uids m.uid)) (m ∷ vanish_first (u + 1) high uid uids held cs h.1 rises.1 (omega arith) i) (vanish_first (u + 1) high uid uids held cs h.1 rises.1 (omega arith) i))
  vanish_first low high uid uids (m ∷ held) (Present r ∷ cs) h rises lt =
      let first : low ≤ r.uid = rises.0 in
      (λ i. cond (not (has_other uid r.uid uids m.uid h.0 (omega arith) i)) (m ∷ after_vanished (uid ∷ uids) held) (after_vanished (uid ∷ uids) held))
      ∙ (λ i. cond (not (has_uid uids m.uid)) (m ∷ vanish_first (r.uid + 1) high uid uids held cs h.1.1 rises.1 (omega arith) i) (vanish_first (r.uid + 1) high uid uids held cs h.1.1 rises.1 (omega arith) i))

  vanishes : (low high : ℕ) (held : List ClientMessage) (cs : List Comparison) → Holds held cs → Rises low high (uids_after false cs) → after_vanished (expunged_uids cs) held ≡ left true held cs
  vanishes low high [] [] h rises = refl
  vanishes low high [] (c ∷ cs) h rises = absurd h
  vanishes low high (m ∷ held) [] h rises = absurd h
  vanishes low high (m ∷ held) (Expunged u ∷ cs) h rises =
      (λ i. cond (not (has_here u (expunged_uids cs) m.uid h.0 i)) (m ∷ after_vanished (u ∷ expunged_uids cs) held) (after_vanished (u ∷ expunged_uids cs) held))
      ∙ vanish_first (u + 1) high u (expunged_uids cs) held cs h.1 rises.1 (omega arith)
      ∙ vanishes (u + 1) high held cs h.1 rises.1
  vanishes low high (m ∷ held) (Present r ∷ cs) h rises =
      (λ i. cond (not (has_none r.uid (expunged_uids cs) m.uid h.0 (not_below (r.uid + 1) high r.uid cs rises.1 (omega arith)) i)) (m ∷ after_vanished (expunged_uids cs) held) (after_vanished (expunged_uids cs) held))
      ∙ ap (λ l. m ∷ l) (vanishes (r.uid + 1) high held cs h.1.1 rises.1)

  all_left : (held : List ClientMessage) (cs : List Comparison) → Holds held cs → held ≡ left false held cs
  all_left [] cs h = refl
  all_left (m ∷ held) [] h = absurd h
  all_left (m ∷ held) (Expunged u ∷ cs) h = ap (λ l. m ∷ l) (all_left held cs h.1)
  all_left (m ∷ held) (Present r ∷ cs) h = ap (λ l. m ∷ l) (all_left held cs h.1.1)

  gone_told : (may qresync : Bool) (low high : ℕ) (held : List ClientMessage) (cs : List Comparison) → Holds held cs → Rises low high (uids_after false cs)
      → after_lines (cond may (cond qresync (vanished_line (expunged_uids cs)) (expunge_lines 1 cs)) []) held ≡ left may held cs
  gone_told true true low high held cs h rises = vanished_is (expunged_uids cs) held ∙ vanishes low high held cs h rises
  gone_told true false low high held cs h rises = expunged 0 [] held cs h refl
  gone_told false qresync low high held cs h rises = all_left held cs h

  left_length : (may : Bool) (held : List ClientMessage) (cs : List Comparison) → Holds held cs → length (left may held cs) ≡ length (uids_after may cs)
  left_length may [] [] h = refl
  left_length may [] (c ∷ cs) h = absurd h
  left_length may (m ∷ held) [] h = absurd h
  left_length may (m ∷ held) (Expunged u ∷ cs) h = by may (left_length may held cs h.1)
    where
      by : (b : Bool) → length (left may held cs) ≡ length (uids_after may cs) → length (cond b (left may held cs) (m ∷ left may held cs)) ≡ length (cond b (uids_after may cs) (u ∷ uids_after may cs))
      by true rest = rest
      by false rest = ap suc rest
  left_length may (m ∷ held) (Present r ∷ cs) h = ap suc (left_length may held cs h.1.1)

  -- ---- FETCH

  abbrev IsFetched : NoticeOptions → ℕ → List ClientMessage → List ClientMessage → List ClientMessage → List Comparison → Type 0
  IsFetched o n front pads held cs =
      after_lines (fetch_lines o up_to told n cs) (front ++ (left o.expunges held cs ++ pads)) ≡ front ++ (held_after o.expunges held cs ++ pads)

  -- past one message
  passed : (o : NoticeOptions) (i : ℕ) (front pads : List ClientMessage) (m : ClientMessage) (held : List ClientMessage) (cs : List Comparison) → IsFetched o (suc (i + 1)) (front ++ m ∷ []) pads held cs
      → after_lines (fetch_lines o up_to told (suc i + 1) cs) (front ++ (m ∷ left o.expunges held cs ++ pads)) ≡ front ++ (m ∷ held_after o.expunges held cs ++ pads)
  passed o i front pads m held cs rest =
      (λ j. after_lines (fetch_lines o up_to told (one j) cs) (shifted front m (left o.expunges held cs ++ pads) j)) ∙ rest ∙ sym (shifted front m (held_after o.expunges held cs ++ pads))
    where
      one : suc i + 1 ≡ suc (i + 1)
      one = omega arith

  fetched : (o : NoticeOptions) (i : ℕ) (front pads held : List ClientMessage) (cs : List Comparison) → Holds held cs → length front ≡ i → IsFetched o (suc i) front pads held cs
  fetched o i front pads [] [] h e = refl
  fetched o i front pads [] (c ∷ cs) h e = absurd h
  fetched o i front pads (m ∷ held) [] h e = absurd h
  fetched o i front pads (m ∷ held) (Expunged u ∷ cs) h e =
      by o.expunges (fetched o i front pads held cs h.1 e) (fetched o (i + 1) (front ++ m ∷ []) pads held cs h.1 (length_push front m ∙ ap (λ n. n + 1) e))
    where
      by : (b : Bool) → IsFetched o (suc i) front pads held cs → IsFetched o (suc (i + 1)) (front ++ m ∷ []) pads held cs
          → after_lines (cond b (fetch_lines o up_to told (suc i) cs) (fetch_lines o up_to told (suc i + 1) cs)) (front ++ (cond b (left o.expunges held cs) (m ∷ left o.expunges held cs) ++ pads))
          ≡ front ++ (cond b (held_after o.expunges held cs) (m ∷ held_after o.expunges held cs) ++ pads)
      by true here later = here
      by false here later = passed o i front pads m held cs later
  fetched o i front pads (m ∷ held) (Present r ∷ cs) h e =
      by (is_told up_to told r) refl (fetched o (i + 1) (front ++ client_message r ∷ []) pads held cs h.1.1 (length_push front (client_message r) ∙ ap (λ n. n + 1) e))
    where
      all : is_told up_to told r ≡ true → m ≡ client_message r
      all is = λ j. record { uid = h.0 j; flags = h.1.0 is j }

      by : (b : Bool) → is_told up_to told r ≡ b → IsFetched o (suc (i + 1)) (front ++ client_message r ∷ []) pads held cs
          → after_lines (cond b (fetch_lines o up_to told (suc i + 1) cs) (response.Fetch (suc i) (notice_items o.condstore (told_of r)) ∷ fetch_lines o up_to told (suc i + 1) cs)) (front ++ (m ∷ left o.expunges held cs ++ pads))
          ≡ front ++ (client_message r ∷ held_after o.expunges held cs ++ pads)
      by true is later =
          ap (λ (x : ClientMessage). after_lines (fetch_lines o up_to told (suc i + 1) cs) (front ++ (x ∷ left o.expunges held cs ++ pads))) (all is)
          ∙ passed o i front pads (client_message r) held cs later
      by false is later =
          ap (after_lines (fetch_lines o up_to told (suc i + 1) cs)) (put_at i o.condstore r front m (left o.expunges held cs ++ pads) e)
          ∙ passed o i front pads (client_message r) held cs later

-- ---- EXISTS

grown : (held : List ClientMessage) (new : List Row) (n : ℕ) → n ≡ length held + length new → after_lines (exists_line n new) held ≡ held ++ unknown_messages (length new)
grown held [] n e = sym (append-nil held)
grown held (r ∷ new) n e = let rest : n - length held ≡ length (r ∷ new) = omega (arith, e) in ap (λ m. held ++ unknown_messages m) rest

-- ---- all of it

pub client_follows : ClientFollows
client_follows o up_to told uids rows held rising holds =
    follow_more (expunge_notices o (comparisons uids rows)) (exists_line (length (known_after o.expunges uids rows)) (new_rows uids rows) ++ fetch_lines o up_to told 1 (comparisons uids rows)) held
    ∙ ap (λ held. after_lines (exists_line (length (known_after o.expunges uids rows)) (new_rows uids rows) ++ fetch_lines o up_to told 1 (comparisons uids rows)) held) after_gone
    ∙ follow_more (exists_line (length (known_after o.expunges uids rows)) (new_rows uids rows)) (fetch_lines o up_to told 1 (comparisons uids rows)) (left o.expunges held (comparisons uids rows))
    ∙ ap (after_lines (fetch_lines o up_to told 1 (comparisons uids rows))) (grown (left o.expunges held (comparisons uids rows)) (new_rows uids rows) (length (known_after o.expunges uids rows)) count)
    ∙ fetched up_to told o 0 [] (unknown_messages (length (new_rows uids rows))) held (comparisons uids rows) holds refl
  where
    after_gone : after_lines (expunge_notices o (comparisons uids rows)) held ≡ left o.expunges held (comparisons uids rows)
    after_gone =
        gone_told up_to told o.expunges o.qresync rising.0 rising.1 held (comparisons uids rows) holds (subst (Rises rising.0 rising.1) (sym (known_is uids rows)) rising.2)

    count : length (known_after o.expunges uids rows) ≡ length (left o.expunges held (comparisons uids rows)) + length (new_rows uids rows)
    count =
        let sum = length-append (uids_after o.expunges (comparisons uids rows)) (map (λ (r : Row). r.uid) (new_rows uids rows)) in
        let new = length-map (new_rows uids rows) (λ (r : Row). r.uid) in
        let same = left_length up_to told o.expunges held (comparisons uids rows) holds in
        omega (arith, sum, new, same)

-- the rows of known messages, and those that are new
abbrev present_rows : List Comparison → List Row
present_rows [] = []
present_rows (Expunged u ∷ cs) = present_rows cs
present_rows (Present r ∷ cs) = r ∷ present_rows cs

rows_are : (uids : List ℕ) (rows : List Row) → present_rows (comparisons uids rows) ++ new_rows uids rows ≡ rows
rows_are [] rows = refl
rows_are (u ∷ uids) [] = rows_are uids []
rows_are (u ∷ uids) (r ∷ rows) = by (eqb u r.uid) (rows_are uids rows) (rows_are uids (r ∷ rows))
  where
    by : (b : Bool) → present_rows (comparisons uids rows) ++ new_rows uids rows ≡ rows → present_rows (comparisons uids (r ∷ rows)) ++ new_rows uids (r ∷ rows) ≡ r ∷ rows
        → present_rows (cond b (Present r ∷ comparisons uids rows) (Expunged u ∷ comparisons uids (r ∷ rows))) ++ cond b (new_rows uids rows) (new_rows uids (r ∷ rows)) ≡ r ∷ rows
    by true there gone = ap (λ l. r ∷ l) there
    by false there gone = gone

after_rows : (up_to : ℕ) (told : List ℕ) (held : List ClientMessage) (cs : List Comparison) → HoldsWhatIsTold up_to told held cs → held_after true held cs ≡ map client_message (present_rows cs)
after_rows up_to told [] [] h = refl
after_rows up_to told [] (c ∷ cs) h = absurd h
after_rows up_to told (m ∷ held) [] h = absurd h
after_rows up_to told (m ∷ held) (Expunged u ∷ cs) h = after_rows up_to told held cs h.1
after_rows up_to told (m ∷ held) (Present r ∷ cs) h = ap (λ l. client_message r ∷ l) (after_rows up_to told held cs h.1.1)

pub client_holds_mailbox : ClientHoldsMailbox
client_holds_mailbox o up_to told uids rows held may rising holds = (
  present_rows (comparisons uids rows),
  (
    rows_are uids rows,
    client_follows o up_to told uids rows held rising holds
        ∙ ap (λ l. l ++ unknown_messages (length (new_rows uids rows)))
        (ap (λ b. held_after b held (comparisons uids rows)) may ∙ after_rows up_to told held (comparisons uids rows) holds),
  ),
)
