-- The bounds of the fields of a header, and what stands between them.
use Rattle.std.proofs.Common.{◌≡◌, ◌∙◌, ap, sym, refl, subst, ℕ, suc, ◌+◌, ◌-◌, ◌<◌, ◌≤◌, List, [], ◌∷◌, ◌++◌, length, length-append, append_assoc, append-nil, take, drop, map, arith, Bool, true, false, not, cond}
use Rattle.std.specs.Prelude.{slice_range, filter}
use Rattle.std.specs.List.{concat, flat_map, after_first, position_or_len}
use Rattle.std.proofs.Math.Seq.{take-append_seam}
use Rattle.std.proofs.lemmas.List.{get_or_at, drop-append-le}
use Rattle.std.proofs.lemmas.List.Prefix.{front_rest}
use Rattle.std.proofs.lemmas.List.Folds.{concat-append}
use Rattle.imap_text.specs.Sections.{sections, header, text}
use Rattle.imap_text.specs.Fields.{HeaderField, header_fields, field_lines, is_colon, is_named, is_chosen, fields, field_text, field_texts}
use Rattle.imap_text.specs.Places.{places_from, field_octets, bounds_from, bounds_of, bound_at, octets_at, all_at, texts_at, others_from, AreInOrder, places_named}
use Rattle.imap_text.proofs.Cuts.{header-text}
use Rattle.imap_text.proofs.Chosen.{lines-fields, named_has_colon}
use Rattle.imap_text.proofs.AtPlaces.{slice_join, slice_empty}

abbrev all_octets : List HeaderField → List ℕ
all_octets fs = concat (map field_octets fs)

-- Each field stands between its bound and the next, from the place k on; and what follows them between the last two
-- bounds.
abbrev pub AreCut : (message bounds : List ℕ) → ℕ → List HeaderField → (last : List ℕ) → Type 0
AreCut message bounds k [] last =
    (octets_at message bounds k ≡ last) × (bound_at bounds k ≤ bound_at bounds (k + 1)) × (length bounds ≡ k + 2)
    × (bound_at bounds (k + 1) ≤ length message)
AreCut message bounds k (f ∷ fs) last =
    (octets_at message bounds k ≡ field_octets f) × (bound_at bounds k ≤ bound_at bounds (k + 1)) × (k + 1 < length bounds)
    × AreCut message bounds (k + 1) fs last

slice_mid : (front mid rest : List ℕ) → slice_range (front ++ (mid ++ rest)) (length front) (length front + length mid) ≡ mid
slice_mid front mid rest =
    let count : length front + length mid - length front ≡ length mid = omega arith in
    ap (λ (n : ℕ). take n (drop (length front) (front ++ (mid ++ rest)))) count
    ∙ ap (take (length mid)) (front_rest (front ++ (mid ++ rest)) front (mid ++ rest) refl)
    ∙ take-append_seam mid rest

first_bound : (before : List ℕ) (start : ℕ) (fs : List HeaderField) (last : List ℕ) → bound_at (before ++ bounds_from start fs last) (length before) ≡ start
first_bound before start [] last = get_or_at before start ((start + length last) ∷ []) 0 (length before) refl
first_bound before start (f ∷ fs) last = get_or_at before start (bounds_from (start + length (field_octets f)) fs last) 0 (length before) refl

length-bounds_from : (start : ℕ) (fs : List HeaderField) (last : List ℕ) → length (bounds_from start fs last) ≡ length fs + 2
length-bounds_from start [] last = refl
length-bounds_from start (f ∷ fs) last = omega (arith, length-bounds_from (start + length (field_octets f)) fs last)

cut_so : (message bounds front before rest : List ℕ) (fs : List HeaderField) (last : List ℕ) → message ≡ front ++ (all_octets fs ++ (last ++ rest)) → bounds ≡ before ++ bounds_from (length front) fs last → AreCut message bounds (length before) fs last
cut_so message bounds front before rest [] last whole is =
    let low : bound_at bounds (length before) ≡ length front = ap (λ (l : List ℕ). bound_at l (length before)) is ∙ first_bound before (length front) [] last in
    let one : length (before ++ length front ∷ []) ≡ length before + 1 = length-append before (length front ∷ []) in
    let again : before ++ bounds_from (length front) [] last ≡ (before ++ length front ∷ []) ++ (length front + length last) ∷ [] = sym (append_assoc before (length front ∷ []) ((length front + length last) ∷ [])) in
    let high : bound_at bounds (length before + 1) ≡ length front + length last =
    ap (λ (l : List ℕ). bound_at l (length before + 1)) (is ∙ again) ∙ get_or_at (before ++ length front ∷ []) (length front + length last) [] 0 (length before + 1) one in
    let here : octets_at message bounds (length before) ≡ last =
    ap (λ (n : ℕ). slice_range message n (bound_at bounds (length before + 1))) low ∙ ap (slice_range message (length front)) high
    ∙ ap (λ (l : List ℕ). slice_range l (length front) (length front + length last)) whole ∙ slice_mid front last rest in (
      here,
      omega (arith, low, high),
      omega (arith, ap length is, length-append before (bounds_from (length front) [] last)),
      omega (arith, high, ap length whole, length-append front (last ++ rest), length-append last rest),
    )
cut_so message bounds front before rest (f ∷ fs) last whole is =
    let o = field_octets f in
    let low : bound_at bounds (length before) ≡ length front = ap (λ (l : List ℕ). bound_at l (length before)) is ∙ first_bound before (length front) (f ∷ fs) last in
    let one : length (before ++ length front ∷ []) ≡ length before + 1 = length-append before (length front ∷ []) in
    let again : bounds ≡ (before ++ length front ∷ []) ++ bounds_from (length (front ++ o)) fs last =
    is ∙ sym (append_assoc before (length front ∷ []) (bounds_from (length front + length o) fs last))
    ∙ ap (λ (n : ℕ). (before ++ length front ∷ []) ++ bounds_from n fs last) (sym (length-append front o)) in
    let whole_again : message ≡ (front ++ o) ++ (all_octets fs ++ (last ++ rest)) =
    whole ∙ ap (λ (l : List ℕ). front ++ l) (append_assoc o (all_octets fs) (last ++ rest)) ∙ sym (append_assoc front o (all_octets fs ++ (last ++ rest))) in
    let high : bound_at bounds (length before + 1) ≡ length front + length o =
    ap (bound_at bounds) (sym one) ∙ ap (λ (l : List ℕ). bound_at l (length (before ++ length front ∷ []))) again
    ∙ first_bound (before ++ length front ∷ []) (length (front ++ o)) fs last ∙ length-append front o in
    let here : octets_at message bounds (length before) ≡ o =
    ap (λ (n : ℕ). slice_range message n (bound_at bounds (length before + 1))) low ∙ ap (slice_range message (length front)) high
    ∙ ap (λ (l : List ℕ). slice_range l (length front) (length front + length o)) (whole ∙ ap (λ (l : List ℕ). front ++ l) (append_assoc o (all_octets fs) (last ++ rest)))
    ∙ slice_mid front o (all_octets fs ++ (last ++ rest)) in (
      here,
      omega (arith, low, high),
      omega (arith, ap length is, length-append before (bounds_from (length front) (f ∷ fs) last), length-bounds_from (length front) (f ∷ fs) last),
      subst (λ (k : ℕ). AreCut message bounds k fs last) one (cut_so message bounds (front ++ o) (before ++ length front ∷ []) rest fs last whole_again again),
    )

-- ---- a whole header

lines-octets : (fs : List HeaderField) → concat (flat_map field_lines fs) ≡ all_octets fs
lines-octets [] = refl
lines-octets (f ∷ fs) = concat-append (field_lines f) (flat_map field_lines fs) ∙ ap (λ (l : List ℕ). field_octets f ++ l) (lines-octets fs)

header-octets : (message : List ℕ) → header message ≡ all_octets (header_fields message) ++ concat (sections message).end
header-octets message =
    concat-append (sections message).field_lines (sections message).end
    ∙ ap (λ (l : List ℕ). l ++ concat (sections message).end)
    (ap concat (sym (lines-fields (sections message).field_lines)) ∙ lines-octets (header_fields message))

pub message_cut : (message bounds : List ℕ) → bounds ≡ bounds_of message → AreCut message bounds 0 (header_fields message) (concat (sections message).end)
message_cut message bounds is =
    let end = concat (sections message).end in
    cut_so message bounds [] [] (text message) (header_fields message) end
    (sym (header-text message) ∙ ap (λ (l : List ℕ). l ++ text message) (header-octets message) ∙ append_assoc (all_octets (header_fields message)) end (text message)) is

-- ---- places in order

in_order : (test : HeaderField → Bool) (message bounds : List ℕ) (k start : ℕ) (fs : List HeaderField) (last : List ℕ) → AreCut message bounds k fs last → start ≤ bound_at bounds k → AreInOrder message bounds start (places_from test k fs)
in_order test message bounds k start [] last cut h =
    let at_end : length bounds - 1 ≡ k + 1 = omega (arith, cut.2) in (
      omega (arith, cut.2),
      subst (λ (n : ℕ). start ≤ bound_at bounds n) (sym at_end) (omega (arith, h, cut.1)),
      subst (λ (n : ℕ). bound_at bounds n ≤ length message) (sym at_end) cut.3,
    )
in_order test message bounds k start (f ∷ fs) last cut h =
    by (test f)
    (in_order test message bounds (k + 1) (bound_at bounds (k + 1)) fs last cut.3 (omega arith))
    (in_order test message bounds (k + 1) start fs last cut.3 (omega (arith, h, cut.1)))
  where
    by : (is : Bool) → AreInOrder message bounds (bound_at bounds (k + 1)) (places_from test (k + 1) fs) → AreInOrder message bounds start (places_from test (k + 1) fs)
        → AreInOrder message bounds start (cond is (k ∷ places_from test (k + 1) fs) (places_from test (k + 1) fs))
    by true a b = (h, cut.1, cut.2, a)
    by false a b = b

in_order_last : (test : HeaderField → Bool) (message bounds : List ℕ) (k start : ℕ) (fs : List HeaderField) (last : List ℕ) → AreCut message bounds k fs last → start ≤ bound_at bounds k → AreInOrder message bounds start (places_from test k fs ++ (length bounds - 2) ∷ [])
in_order_last test message bounds k start [] last cut h =
    let at_last : length bounds - 2 ≡ k = omega (arith, cut.2) in
    let at_end : length bounds - 1 ≡ k + 1 = omega (arith, cut.2) in
    subst (λ (n : ℕ). AreInOrder message bounds start (n ∷ [])) (sym at_last) (
      h,
      cut.1,
      omega (arith, cut.2),
      (
        omega (arith, cut.2),
        subst (λ (n : ℕ). bound_at bounds (k + 1) ≤ bound_at bounds n) (sym at_end) (omega arith),
        subst (λ (n : ℕ). bound_at bounds n ≤ length message) (sym at_end) cut.3,
      ),
    )
in_order_last test message bounds k start (f ∷ fs) last cut h =
    by (test f)
    (in_order_last test message bounds (k + 1) (bound_at bounds (k + 1)) fs last cut.3 (omega arith))
    (in_order_last test message bounds (k + 1) start fs last cut.3 (omega (arith, h, cut.1)))
  where
    later : List ℕ
    later = (length bounds - 2) ∷ []

    by : (is : Bool) → AreInOrder message bounds (bound_at bounds (k + 1)) (places_from test (k + 1) fs ++ later) → AreInOrder message bounds start (places_from test (k + 1) fs ++ later)
        → AreInOrder message bounds start (cond is (k ∷ places_from test (k + 1) fs) (places_from test (k + 1) fs) ++ later)
    by true a b = (h, cut.1, cut.2, a)
    by false a b = b

-- ---- what stands there

placed : (test : HeaderField → Bool) (message bounds : List ℕ) (k : ℕ) (fs : List HeaderField) (last : List ℕ) → AreCut message bounds k fs last → all_at message bounds (places_from test k fs ++ (length bounds - 2) ∷ []) ≡ all_octets (filter test fs) ++ last
placed test message bounds k [] last cut =
    let at_last : length bounds - 2 ≡ k = omega (arith, cut.2) in
    append-nil (octets_at message bounds (length bounds - 2)) ∙ ap (octets_at message bounds) at_last ∙ cut.0
placed test message bounds k (f ∷ fs) last cut = by (test f) (placed test message bounds (k + 1) fs last cut.3)
  where
    later : List ℕ
    later = (length bounds - 2) ∷ []

    by : (is : Bool) → all_at message bounds (places_from test (k + 1) fs ++ later) ≡ all_octets (filter test fs) ++ last
        → all_at message bounds (cond is (k ∷ places_from test (k + 1) fs) (places_from test (k + 1) fs) ++ later) ≡ all_octets (cond is (f ∷ filter test fs) (filter test fs)) ++ last
    by true ih =
        ap (λ (l : List ℕ). l ++ all_at message bounds (places_from test (k + 1) fs ++ later)) cut.0
        ∙ ap (λ (l : List ℕ). field_octets f ++ l) ih ∙ sym (append_assoc (field_octets f) (all_octets (filter test fs)) last)
    by false ih = ih

unplaced : (test other : HeaderField → Bool) → ((f : HeaderField) → other f ≡ not (test f)) → (message bounds : List ℕ) (k start : ℕ) (fs : List HeaderField) (last : List ℕ) → AreCut message bounds k fs last → start ≤ bound_at bounds k
    → others_from message bounds start (places_from test k fs) ≡ slice_range message start (bound_at bounds k) ++ (all_octets (filter other fs) ++ last)
unplaced test other opposite message bounds k start [] last cut h =
    let at_end : length bounds - 1 ≡ k + 1 = omega (arith, cut.2) in
    ap (λ (n : ℕ). slice_range message start (bound_at bounds n)) at_end
    ∙ slice_join message start (bound_at bounds k) (bound_at bounds (k + 1)) h cut.1
    ∙ ap (λ (l : List ℕ). slice_range message start (bound_at bounds k) ++ l) cut.0
unplaced test other opposite message bounds k start (f ∷ fs) last cut h =
    by (test f) (opposite f)
    (unplaced test other opposite message bounds (k + 1) (bound_at bounds (k + 1)) fs last cut.3 (omega arith))
    (unplaced test other opposite message bounds (k + 1) start fs last cut.3 (omega (arith, h, cut.1)))
  where
    stop : ℕ
    stop = bound_at bounds (k + 1)

    more : List ℕ
    more = all_octets (filter other fs) ++ last

    by : (is : Bool) → other f ≡ not is
        → others_from message bounds stop (places_from test (k + 1) fs) ≡ slice_range message stop stop ++ more
        → others_from message bounds start (places_from test (k + 1) fs) ≡ slice_range message start stop ++ more
        → others_from message bounds start (cond is (k ∷ places_from test (k + 1) fs) (places_from test (k + 1) fs))
        ≡ slice_range message start (bound_at bounds k) ++ (all_octets (cond (other f) (f ∷ filter other fs) (filter other fs)) ++ last)
    by true tells a b =
        rw tells (ap (λ (l : List ℕ). slice_range message start (bound_at bounds k) ++ l) (a ∙ ap (λ (l : List ℕ). l ++ more) (slice_empty message stop)))
    by false tells a b =
        rw tells (b ∙ ap (λ (l : List ℕ). l ++ more) (slice_join message start (bound_at bounds k) stop h cut.1)
        ∙ append_assoc (slice_range message start (bound_at bounds k)) (octets_at message bounds k) more
        ∙ ap (λ (l : List ℕ). slice_range message start (bound_at bounds k) ++ (l ++ more)) cut.0
        ∙ ap (λ (l : List ℕ). slice_range message start (bound_at bounds k) ++ l) (sym (append_assoc (field_octets f) (all_octets (filter other fs)) last)))

-- ---- texts

colon_in_first : (first more : List ℕ) → position_or_len is_colon first + 1 ≤ length first → position_or_len is_colon (first ++ more) ≡ position_or_len is_colon first
colon_in_first [] more h = absurd (omega (arith, h))
colon_in_first (b ∷ bs) more h = by (is_colon b) h (colon_in_first bs more)
  where
    by : (is : Bool) → cond (not is) (1 + position_or_len is_colon bs) 0 + 1 ≤ suc (length bs) → (position_or_len is_colon bs + 1 ≤ length bs → position_or_len is_colon (bs ++ more) ≡ position_or_len is_colon bs)
        → cond (not is) (1 + position_or_len is_colon (bs ++ more)) 0 ≡ cond (not is) (1 + position_or_len is_colon bs) 0
    by true l ih = refl
    by false l ih = ap (λ (n : ℕ). 1 + n) (ih (omega (arith, l)))

text_so : (names : List (List ℕ)) (f : HeaderField) → is_named names f.first ≡ true → after_first is_colon (field_octets f) ≡ field_text f
text_so names f e =
    let within = named_has_colon names f.first e in
    ap (λ (n : ℕ). drop (n + 1) (field_octets f)) (colon_in_first f.first (concat f.continuations) within)
    ∙ drop-append-le (position_or_len is_colon f.first + 1) f.first (concat f.continuations) within

texts : (name message bounds : List ℕ) (k : ℕ) (fs : List HeaderField) (last : List ℕ) → AreCut message bounds k fs last → texts_at message bounds (places_from (is_chosen (name ∷ []) false) k fs) ≡ map field_text (filter (is_chosen (name ∷ []) false) fs)
texts name message bounds k [] last cut = refl
texts name message bounds k (f ∷ fs) last cut = by (is_named (name ∷ []) f.first) refl (texts name message bounds (k + 1) fs last cut.3)
  where
    test : HeaderField → Bool
    test = is_chosen (name ∷ []) false

    by : (is : Bool) → is_named (name ∷ []) f.first ≡ is → texts_at message bounds (places_from (is_chosen (name ∷ []) false) (k + 1) fs) ≡ map field_text (filter (is_chosen (name ∷ []) false) fs)
        → texts_at message bounds (cond is (k ∷ places_from (is_chosen (name ∷ []) false) (k + 1) fs) (places_from (is_chosen (name ∷ []) false) (k + 1) fs))
        ≡ map field_text (cond is (f ∷ filter (is_chosen (name ∷ []) false) fs) (filter (is_chosen (name ∷ []) false) fs))
    by true e ih =
        let here : after_first is_colon (octets_at message bounds k) ≡ field_text f = ap (after_first is_colon) cut.0 ∙ text_so (name ∷ []) f e in
        ap (λ (t : List ℕ). t ∷ texts_at message bounds (places_from (is_chosen (name ∷ []) false) (k + 1) fs)) here ∙ ap (λ (l : List (List ℕ)). field_text f ∷ l) ih
    by false e ih = ih

-- ---- what is asked for

fields-octets : (names : List (List ℕ)) (others : Bool) (message : List ℕ) → fields names others message ≡ all_octets (filter (is_chosen names others) (header_fields message)) ++ concat (sections message).end
fields-octets names others message =
    concat-append (flat_map field_lines (filter (is_chosen names others) (header_fields message))) (sections message).end
    ∙ ap (λ (l : List ℕ). l ++ concat (sections message).end) (lines-octets (filter (is_chosen names others) (header_fields message)))

first_at_start : (message bounds : List ℕ) → bounds ≡ bounds_of message → bound_at bounds 0 ≡ 0
first_at_start message bounds is = ap (λ (l : List ℕ). bound_at l 0) is ∙ first_bound [] 0 (header_fields message) (concat (sections message).end)

pub two_bounds : (message bounds : List ℕ) → bounds ≡ bounds_of message → 2 ≤ length bounds
two_bounds message bounds is = omega (arith, ap length is, length-bounds_from 0 (header_fields message) (concat (sections message).end))

pub named_in_order : (names : List (List ℕ)) (message bounds : List ℕ) → bounds ≡ bounds_of message → AreInOrder message bounds 0 (places_named names message)
named_in_order names message bounds is =
    in_order (is_chosen names false) message bounds 0 0 (header_fields message) (concat (sections message).end) (message_cut message bounds is) (omega arith)

pub named_in_order_last : (names : List (List ℕ)) (message bounds : List ℕ) → bounds ≡ bounds_of message → AreInOrder message bounds 0 (places_named names message ++ (length bounds - 2) ∷ [])
named_in_order_last names message bounds is =
    in_order_last (is_chosen names false) message bounds 0 0 (header_fields message) (concat (sections message).end) (message_cut message bounds is) (omega arith)

pub named_fields : (names : List (List ℕ)) (message bounds : List ℕ) → bounds ≡ bounds_of message → all_at message bounds (places_named names message ++ (length bounds - 2) ∷ []) ≡ fields names false message
named_fields names message bounds is =
    placed (is_chosen names false) message bounds 0 (header_fields message) (concat (sections message).end) (message_cut message bounds is) ∙ sym (fields-octets names false message)

pub other_fields : (names : List (List ℕ)) (message bounds : List ℕ) → bounds ≡ bounds_of message → others_from message bounds 0 (places_named names message) ≡ fields names true message
other_fields names message bounds is =
    unplaced (is_chosen names false) (is_chosen names true) (λ f. refl) message bounds 0 0 (header_fields message) (concat (sections message).end) (message_cut message bounds is) (omega arith)
    ∙ ap (λ (n : ℕ). slice_range message 0 n ++ (all_octets (filter (is_chosen names true) (header_fields message)) ++ concat (sections message).end)) (first_at_start message bounds is)
    ∙ sym (fields-octets names true message)

pub named_texts : (name message bounds : List ℕ) → bounds ≡ bounds_of message → texts_at message bounds (places_named (name ∷ []) message) ≡ field_texts name message
named_texts name message bounds is = texts name message bounds 0 (header_fields message) (concat (sections message).end) (message_cut message bounds is)

-- ---- by what is lent of an index

pub others_ready : (names : List (List ℕ)) (message octets bounds places : List ℕ) → message ≡ octets → bounds ≡ bounds_of octets → places ≡ places_named names octets → AreInOrder message bounds 0 places
others_ready names message octets bounds places m b p =
    subst (λ (l : List ℕ). AreInOrder l bounds 0 places) (sym m) (subst (AreInOrder octets bounds 0) (sym p) (named_in_order names octets bounds b))

pub others_found : (names : List (List ℕ)) (message octets bounds places : List ℕ) → message ≡ octets → bounds ≡ bounds_of octets → places ≡ places_named names octets → others_from message bounds 0 places ≡ fields names true octets
others_found names message octets bounds places m b p =
    ap (λ (l : List ℕ). others_from l bounds 0 places) m ∙ ap (others_from octets bounds 0) p ∙ other_fields names octets bounds b

pub named_ready : (names : List (List ℕ)) (message octets bounds places more : List ℕ) → message ≡ octets → bounds ≡ bounds_of octets → places ≡ places_named names octets → more ≡ places ++ (length bounds - 2) ∷ [] → AreInOrder message bounds 0 more
named_ready names message octets bounds places more m b p pushed =
    subst (λ (l : List ℕ). AreInOrder l bounds 0 more) (sym m)
    (subst (AreInOrder octets bounds 0) (sym (pushed ∙ ap (λ (l : List ℕ). l ++ (length bounds - 2) ∷ []) p)) (named_in_order_last names octets bounds b))

pub named_found : (names : List (List ℕ)) (message octets bounds places more : List ℕ) → message ≡ octets → bounds ≡ bounds_of octets → places ≡ places_named names octets → more ≡ places ++ (length bounds - 2) ∷ [] → all_at message bounds more ≡ fields names false octets
named_found names message octets bounds places more m b p pushed =
    ap (λ (l : List ℕ). all_at l bounds more) m
    ∙ ap (all_at octets bounds) (pushed ∙ ap (λ (l : List ℕ). l ++ (length bounds - 2) ∷ []) p)
    ∙ named_fields names octets bounds b
