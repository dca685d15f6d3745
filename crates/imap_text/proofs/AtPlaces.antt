-- What stands at places, and what between them.
use Rattle.std.proofs.Common.{◌≡◌, ◌∙◌, ap, sym, refl, subst, ℕ, ◌+◌, ◌-◌, ◌<◌, ◌≤◌, List, [], ◌∷◌, ◌++◌, length, append_assoc, append-nil, drop, get_or, arith}
use Rattle.std.specs.Prelude.{slice_range}
use Rattle.std.specs.List.{concat, after_first}
use Rattle.std.proofs.lemmas.List.{drop_more}
use Rattle.imap_text.specs.Fields.{is_colon}
use Rattle.imap_text.specs.Places.{bound_at, octets_at, all_at, texts_at, others_from, AreInOrder}
use Rattle.imap_text.proofs.Chosen.{slice_range-more}

pub slice_join : (message : List ℕ) (start mid end : ℕ) → start ≤ mid → mid ≤ end → slice_range message start end ≡ slice_range message start mid ++ slice_range message mid end
slice_join message start mid end a b =
    let whole : mid + (end - mid) ≡ end = omega (arith, b) in
    ap (slice_range message start) (sym whole) ∙ slice_range-more message (drop mid message) start mid (end - mid) refl a

pub slice_empty : (message : List ℕ) (at : ℕ) → slice_range message at at ≡ []
slice_empty message at = let none : at - at ≡ 0 = omega arith in rw none refl

-- where the places end
abbrev pub end_of : List ℕ → ℕ
end_of bounds = bound_at bounds (length bounds - 1)

pub record EndsWithin (message bounds : List ℕ) (start : ℕ) : Type 0 where
  pub some : 0 < length bounds
  pub after : start ≤ end_of bounds
  pub within : end_of bounds ≤ length message

pub ends_within : (message bounds : List ℕ) (start : ℕ) (places : List ℕ) → AreInOrder message bounds start places → EndsWithin message bounds start
ends_within message bounds start [] o = record { some = o.0; after = o.1; within = o.2 }
ends_within message bounds start (place ∷ later) o =
    let rest = ends_within message bounds (bound_at bounds (place + 1)) later o.3 in
    record { some = rest.some; after = omega (arith, o.0, o.1, rest.after); within = rest.within }

-- what is known of the next place
pub record IsNextPlace (message bounds : List ℕ) (start place : ℕ) (later : List ℕ) : Type 0 where
  pub order : start ≤ bound_at bounds place
  pub rises : bound_at bounds place ≤ bound_at bounds (place + 1)
  pub there : place + 1 < length bounds
  pub within : bound_at bounds (place + 1) ≤ length message
  pub rest : AreInOrder message bounds (bound_at bounds (place + 1)) later

pub next_place : (message bounds : List ℕ) (start place : ℕ) (left later : List ℕ) → left ≡ place ∷ later → AreInOrder message bounds start left → IsNextPlace message bounds start place later
next_place message bounds start place left later is o =
    let all : AreInOrder message bounds start (place ∷ later) = subst (AreInOrder message bounds start) is o in
    let ends = ends_within message bounds (bound_at bounds (place + 1)) later all.3 in
    record { order = all.0; rises = all.1; there = all.2; within = omega (arith, ends.after, ends.within); rest = all.3 }

pub next_at : (message bounds : List ℕ) (start i : ℕ) (places : List ℕ) → i < length places → AreInOrder message bounds start (drop i places) → IsNextPlace message bounds start (get_or places i 0) (drop (i + 1) places)
next_at message bounds start i places h o = next_place message bounds start (get_or places i 0) (drop i places) (drop (i + 1) places) (drop_more places i 0 h) o

-- the end of the last bound that was passed is within the message
pub end_within : (message bounds : List ℕ) (end i : ℕ) (places : List ℕ) → i < length places → AreInOrder message bounds end (drop i places) → end ≤ length message
end_within message bounds end i places h o = let next = next_at message bounds end i places h o in omega (arith, next.order, next.rises, next.within)

pub bound_within : (message bounds : List ℕ) (start i : ℕ) (places : List ℕ) → i < length places → AreInOrder message bounds start (drop i places) → bound_at bounds (get_or places i 0) ≤ length message
bound_within message bounds start i places h o = let next = next_at message bounds start i places h o in omega (arith, next.rises, next.within)

-- ---- what stands at the places

-- What stands at the places before those that are left is in the parts, but for what stands from `start` up to `end`.
pub record IsJoined (message bounds : List ℕ) (parts : List (List ℕ)) (start end : ℕ) (left all : List ℕ) : Type 0 where
  pub order : start ≤ end
  pub later : AreInOrder message bounds end left
  pub whole : concat parts ++ (slice_range message start end ++ all_at message bounds left) ≡ all_at message bounds all

pub IsJoined-none : (message bounds places : List ℕ) → AreInOrder message bounds 0 places → IsJoined message bounds [] 0 0 places places
IsJoined-none message bounds places o = record { order = omega arith; later = o; whole = refl }

pub IsJoined-next : (message bounds : List ℕ) (parts : List (List ℕ)) (start end place : ℕ) (left later all : List ℕ) → left ≡ place ∷ later → bound_at bounds place ≡ end → IsJoined message bounds parts start end left all → IsJoined message bounds parts start (bound_at bounds (place + 1)) later all
IsJoined-next message bounds parts start end place left later all is adjoins so_far =
    let next = next_place message bounds end place left later is so_far.later in
    let stop = bound_at bounds (place + 1) in
    let here : octets_at message bounds place ≡ slice_range message end stop = ap (λ (n : ℕ). slice_range message n stop) adjoins in
    let rises : end ≤ stop = omega (arith, next.order, next.rises) in
    let longer : slice_range message start stop ≡ slice_range message start end ++ octets_at message bounds place =
    slice_join message start end stop so_far.order rises ∙ ap (λ (l : List ℕ). slice_range message start end ++ l) (sym here) in
    record {
      order = omega (arith, so_far.order, rises);
      later = next.rest;
      whole = ap (λ (l : List ℕ). concat parts ++ (l ++ all_at message bounds later)) longer
          ∙ ap (λ (l : List ℕ). concat parts ++ l) (append_assoc (slice_range message start end) (octets_at message bounds place) (all_at message bounds later))
          ∙ ap (λ (l : List ℕ). concat parts ++ (slice_range message start end ++ all_at message bounds l)) (sym is)
          ∙ so_far.whole;
    }

pub IsJoined-apart : (message bounds : List ℕ) (parts more : List (List ℕ)) (start end place : ℕ) (left later all : List ℕ) → left ≡ place ∷ later → concat more ≡ concat parts ++ slice_range message start end → IsJoined message bounds parts start end left all → IsJoined message bounds more (bound_at bounds place) (bound_at bounds (place + 1)) later all
IsJoined-apart message bounds parts more start end place left later all is pushed so_far =
    let next = next_place message bounds end place left later is so_far.later in
    record {
      order = next.rises;
      later = next.rest;
      whole = ap (λ (l : List ℕ). l ++ (octets_at message bounds place ++ all_at message bounds later)) pushed
          ∙ append_assoc (concat parts) (slice_range message start end) (octets_at message bounds place ++ all_at message bounds later)
          ∙ ap (λ (l : List ℕ). concat parts ++ (slice_range message start end ++ all_at message bounds l)) (sym is)
          ∙ so_far.whole;
    }

pub IsJoined-end : (message bounds : List ℕ) (parts more : List (List ℕ)) (start end : ℕ) (left all : List ℕ) → left ≡ [] → concat more ≡ concat parts ++ slice_range message start end → IsJoined message bounds parts start end left all → concat more ≡ all_at message bounds all
IsJoined-end message bounds parts more start end left all is pushed so_far =
    pushed
    ∙ ap (λ (l : List ℕ). concat parts ++ l) (sym (append-nil (slice_range message start end)))
    ∙ ap (λ (l : List ℕ). concat parts ++ (slice_range message start end ++ all_at message bounds l)) (sym is)
    ∙ so_far.whole

-- ---- what stands between them

-- What stands before `start`, and at none of the places, is in the parts.
pub record IsPassedOver (message bounds : List ℕ) (parts : List (List ℕ)) (start : ℕ) (left all : List ℕ) : Type 0 where
  pub later : AreInOrder message bounds start left
  pub whole : concat parts ++ others_from message bounds start left ≡ others_from message bounds 0 all

pub IsPassedOver-none : (message bounds places : List ℕ) → AreInOrder message bounds 0 places → IsPassedOver message bounds [] 0 places places
IsPassedOver-none message bounds places o = record { later = o; whole = refl }

pub IsPassedOver-next : (message bounds : List ℕ) (parts more : List (List ℕ)) (start place : ℕ) (left later all : List ℕ) → left ≡ place ∷ later → concat more ≡ concat parts ++ slice_range message start (bound_at bounds place) → IsPassedOver message bounds parts start left all → IsPassedOver message bounds more (bound_at bounds (place + 1)) later all
IsPassedOver-next message bounds parts more start place left later all is pushed so_far =
    let next = next_place message bounds start place left later is so_far.later in
    let stop = bound_at bounds (place + 1) in
    record {
      later = next.rest;
      whole = ap (λ (l : List ℕ). l ++ others_from message bounds stop later) pushed
          ∙ append_assoc (concat parts) (slice_range message start (bound_at bounds place)) (others_from message bounds stop later)
          ∙ ap (λ (l : List ℕ). concat parts ++ others_from message bounds start l) (sym is)
          ∙ so_far.whole;
    }

pub IsPassedOver-end : (message bounds : List ℕ) (parts more : List (List ℕ)) (start : ℕ) (left all : List ℕ) → left ≡ [] → concat more ≡ concat parts ++ slice_range message start (end_of bounds) → IsPassedOver message bounds parts start left all → concat more ≡ others_from message bounds 0 all
IsPassedOver-end message bounds parts more start left all is pushed so_far =
    pushed ∙ ap (λ (l : List ℕ). concat parts ++ others_from message bounds start l) (sym is) ∙ so_far.whole

-- ---- texts

pub record AreRead (message bounds : List ℕ) (texts : List (List ℕ)) (left all : List ℕ) : Type 0 where
  pub start : ℕ
  pub later : AreInOrder message bounds start left
  pub whole : texts ++ texts_at message bounds left ≡ texts_at message bounds all

pub AreRead-none : (message bounds places : List ℕ) → AreInOrder message bounds 0 places → AreRead message bounds [] places places
AreRead-none message bounds places o = record { start = 0; later = o; whole = refl }

pub AreRead-next : (message bounds : List ℕ) (texts : List (List ℕ)) (text : List ℕ) (place : ℕ) (left later all : List ℕ) → left ≡ place ∷ later → text ≡ after_first is_colon (octets_at message bounds place) → AreRead message bounds texts left all → AreRead message bounds (texts ++ text ∷ []) later all
AreRead-next message bounds texts text place left later all is read so_far =
    let next = next_place message bounds so_far.start place left later is so_far.later in
    record {
      start = bound_at bounds (place + 1);
      later = next.rest;
      whole = append_assoc texts (text ∷ []) (texts_at message bounds later)
          ∙ ap (λ (t : List ℕ). texts ++ t ∷ texts_at message bounds later) read
          ∙ ap (λ (l : List ℕ). texts ++ texts_at message bounds l) (sym is)
          ∙ so_far.whole;
    }

pub AreRead-end : (message bounds : List ℕ) (texts : List (List ℕ)) (left all : List ℕ) → left ≡ [] → AreRead message bounds texts left all → texts ≡ texts_at message bounds all
AreRead-end message bounds texts left all is so_far =
    sym (append-nil texts) ∙ ap (λ (l : List ℕ). texts ++ texts_at message bounds l) (sym is) ∙ so_far.whole
