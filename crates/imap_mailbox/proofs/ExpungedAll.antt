-- Several messages that are expunged, by lists.
use Rattle.std.proofs.Common.{◌≡◌, ◌≢◌, ⊎_elim, ℕ, zero, suc, ◌+◌, ◌-◌, ◌<◌, ◌≤◌, eqb, Bool, true, false, cond, not, ◌||◌, List, [], ◌∷◌, ◌++◌, filter, append_assoc, append-nil, length, get_or, Result, Ok, Err, refl, sym, ap, ◌∙◌, arith}
use Rattle.std.proofs.lemmas.Bool.{cases_lt, eqb-true, ne_eqb, eq-eqb}
use Rattle.std.proofs.lemmas.List.Sorted.{searched}
use Rattle.std.specs.List.{items_where_true}
use Rattle.std.specs.List.Retain.{IsFiltered, ReturnsInTurn}
use Rattle.std.specs.Result.{is_ok}
use Rattle.std.specs.Ordering.{nat_cmp}
use Rattle.std.specs.List.Sorted.{IsBinarySearchResult}
use Rattle.imap_modseq.specs.Numbers.{max_events}
use Rattle.imap_mailbox.specs.declared.message.Message.{Message}
use Rattle.imap_mailbox.specs.declared.message.GoneMessage.{GoneMessage}
use Rattle.imap_user_map.specs.Rows.{Users}
use Rattle.imap_mailbox.specs.Own.{Own}
use Rattle.imap_mailbox.specs.Rows.{Expunged, is_among}
use Rattle.imap_mailbox.specs.Summary.{Summary, Rises, AreRising, uids_in, with_expunge, without, is_there}
use Rattle.imap_mailbox.specs.Held.{IsKept}
use Rattle.imap_mailbox.specs.Expunging.{with_expunges, without_all, uids_there, gone_at}
use Rattle.imap_mailbox.proofs.Accounts.{turned}
use Rattle.imap_mailbox.proofs.Finding.{up}
use Rattle.imap_mailbox.proofs.Keeping.{kept_step}

-- ---- messages

-- one filter after another
pub filter_twice : (uid : ℕ) (uids : List ℕ) (messages : List Message) → without_all uids (without uid messages) ≡ without_all (uid ∷ uids) messages
filter_twice uid uids [] = refl
filter_twice uid uids (m ∷ messages) =
    by (eqb m.uid uid) (filter_twice uid uids messages)
    ∙ ap (λ b. cond (not (b || is_among m.uid uids)) (m ∷ without_all (uid ∷ uids) messages) (without_all (uid ∷ uids) messages)) (turned m.uid uid)
  where
    by : (b : Bool) → without_all uids (without uid messages) ≡ without_all (uid ∷ uids) messages
        → without_all uids (cond (not b) (m ∷ without uid messages) (without uid messages))
        ≡ cond (not (b || is_among m.uid uids)) (m ∷ without_all (uid ∷ uids) messages) (without_all (uid ∷ uids) messages)
    by true rest = rest
    by false rest = λ i. cond (not (is_among m.uid uids)) (m ∷ rest i) (rest i)

pub all_stay : (messages : List Message) → without_all [] messages ≡ messages
all_stay [] = refl
all_stay (m ∷ messages) = ap (λ ms. m ∷ ms) (all_stay messages)

or_false : (a b : Bool) → a || b ≡ false → (a ≡ false) × (b ≡ false)
or_false true b e = absurd (cc e)
or_false false b e = (refl, e)

-- a UID that no message has removes none
pub absent_stay : (uid : ℕ) (uids : List ℕ) (messages : List Message) → is_among uid (uids_in messages) ≡ false → without_all (uid ∷ uids) messages ≡ without_all uids messages
absent_stay uid uids [] e = refl
absent_stay uid uids (m ∷ messages) e =
    let parts = or_false (eqb m.uid uid) (is_among uid (uids_in messages)) e in
    ap (λ b. cond (not (b || is_among m.uid uids)) (m ∷ without_all (uid ∷ uids) messages) (without_all (uid ∷ uids) messages)) (turned uid m.uid ∙ parts.0)
    ∙ ap (λ ms. cond (not (is_among m.uid uids)) (m ∷ ms) ms) (absent_stay uid uids messages parts.1)

-- ---- UIDs

among_without : (uid q : ℕ) (messages : List Message) → uid < q → is_among q (uids_in (without uid messages)) ≡ is_among q (uids_in messages)
among_without uid q [] lt = refl
among_without uid q (m ∷ messages) lt = by (eqb m.uid uid) refl (among_without uid q messages lt)
  where
    by : (b : Bool) → eqb m.uid uid ≡ b → is_among q (uids_in (without uid messages)) ≡ is_among q (uids_in messages)
        → is_among q (uids_in (cond (not b) (m ∷ without uid messages) (without uid messages))) ≡ eqb m.uid q || is_among q (uids_in messages)
    by true t rest = rest ∙ sym (ap (λ b. b || is_among q (uids_in messages)) (ne_eqb m.uid q (λ e. let is = eqb-true m.uid uid t in omega (arith, is, e))))
    by false t rest = ap (λ b. eqb m.uid q || b) rest

pub there_without : (uid low high : ℕ) (uids : List ℕ) (messages : List Message) → uid < low → Rises low high uids → uids_there uids (without uid messages) ≡ uids_there uids messages
there_without uid low high [] messages lt h = refl
there_without uid low high (u ∷ uids) messages lt h =
    let at : low ≤ u = h.0 in
    let above : uid < u = omega (arith, at) in
    ap (λ b. cond b (u ∷ uids_there uids (without uid messages)) (uids_there uids (without uid messages))) (among_without uid u messages above)
    ∙ ap (λ us. cond (is_among u (uids_in messages)) (u ∷ us) us) (there_without uid (u + 1) high uids messages (omega (arith, at)) h.1)

pub there_more : (uid : ℕ) (uids : List ℕ) (messages : List Message) → is_among uid (uids_in messages) ≡ true → uids_there (uid ∷ uids) messages ≡ uid ∷ uids_there uids messages
there_more uid uids messages t = ap (λ b. cond b (uid ∷ uids_there uids messages) (uids_there uids messages)) t

pub there_absent : (uid : ℕ) (uids : List ℕ) (messages : List Message) → is_among uid (uids_in messages) ≡ false → uids_there (uid ∷ uids) messages ≡ uids_there uids messages
there_absent uid uids messages f = ap (λ b. cond b (uid ∷ uids_there uids messages) (uids_there uids messages)) f

pub there_pushed : (uid place : ℕ) (uids : List ℕ) (messages : List Message) (gone new : List GoneMessage) → is_among uid (uids_in messages) ≡ true → new ≡ gone ++ record { uid = uid; place = place } ∷ []
    → new ++ gone_at (place + 1) (uids_there uids messages) ≡ gone ++ gone_at place (uids_there (uid ∷ uids) messages)
there_pushed uid place uids messages gone new t made =
    ap (λ g. g ++ gone_at (place + 1) (uids_there uids messages)) made
    ∙ append_assoc gone (record { uid = uid; place = place } ∷ []) (gone_at (place + 1) (uids_there uids messages))
    ∙ ap (λ us. gone ++ gone_at place us) (sym (there_more uid uids messages t))

-- ---- a search

pub among_at : (x : ℕ) (xs : List ℕ) (i : ℕ) → i < length xs → get_or xs i 0 ≡ x → is_among x xs ≡ true
among_at x [] i lt e = absurd (omega arith)
among_at x (y ∷ xs) zero lt e = ap (λ b. b || is_among x xs) (eq-eqb y x e)
among_at x (y ∷ xs) (suc i) lt e = ap (λ b. eqb y x || b) (among_at x xs i (omega arith) e) ∙ or_true (eqb y x)
  where
    or_true : (b : Bool) → b || true ≡ true
    or_true true = refl
    or_true false = refl

among_none : (x : ℕ) (xs : List ℕ) → ((k : ℕ) → k < length xs → get_or xs k 0 ≢ x) → is_among x xs ≡ false
among_none x [] h = refl
among_none x (y ∷ xs) h = ap (λ b. b || is_among x xs) (ne_eqb y x (h 0 (omega arith))) ∙ among_none x xs (λ k lt. h (suc k) (omega arith))

pub among_between : (x : ℕ) (xs : List ℕ) (i : ℕ) → ((k : ℕ) → k < i → get_or xs k 0 < x) → ((k : ℕ) → i ≤ k → k < length xs → x < get_or xs k 0) → is_among x xs ≡ false
among_between x xs i low high = among_none x xs (λ k lt same. ⊎_elim
    (λ below. let less = low k below in omega (arith, less, same))
    (λ above. let more = high k above lt in omega (arith, more, same))
    (cases_lt k i))

pub low_before : (x : ℕ) (xs : List ℕ) (i : ℕ) → AreRising xs → i ≤ length xs → get_or xs (i - 1) 0 < x → (k : ℕ) → k < i → get_or xs k 0 < x
low_before x xs i h le less k lt = let most = up h.0 h.1 xs k (i - 1) 0 h.2 (omega arith) (omega arith) in omega (arith, most, less)

pub high_from : (x : ℕ) (xs : List ℕ) (i : ℕ) → AreRising xs → x < get_or xs i 0 → (k : ℕ) → i ≤ k → k < length xs → x < get_or xs k 0
high_from x xs i h more k le lt = let least = up h.0 h.1 xs i k 0 h.2 le lt in omega (arith, least, more)

pub search_tells : (xs : List ℕ) (x : ℕ) (r : Result ℕ ℕ) (b : Bool) → AreRising xs → b ≡ is_ok r → IsBinarySearchResult (λ y. nat_cmp y x) xs r → b ≡ is_among x xs
search_tells xs x (Ok i) b h e found =
    let is = searched xs x (Ok i) found (λ i j le lt. up h.0 h.1 xs i j 0 h.2 le lt) in
    e ∙ sym (among_at x xs i is.0 is.1)
search_tells xs x (Err i) b h e found =
    let is = searched xs x (Err i) found (λ i j le lt. up h.0 h.1 xs i j 0 h.2 le lt) in
    e ∙ sym (among_between x xs i is.1 is.2)

-- ---- a test that changes and answers alike

picked : {X : Type 0} (b : Bool) (bs : List Bool) (x : X) (xs : List X) → items_where_true (b ∷ bs) (x ∷ xs) ≡ cond b (x ∷ items_where_true bs xs) (items_where_true bs xs)
picked true bs x xs = refl
picked false bs x xs = refl

module _ {X P : Type 0} (R : P → X → Bool → P → Type 0) (I : P → Type 0) (test : X → Bool) (says : (p : P) (x : X) (b : Bool) (q : P) → I p → R p x b q → (b ≡ test x) × I q) where
  in_turn : (p : P) (bs : List Bool) (xs : List X) (q : P) → I p → length bs ≡ length xs → ReturnsInTurn R p bs xs q → items_where_true bs xs ≡ filter test xs
  in_turn p [] [] q i len turns = refl
  in_turn p [] (x ∷ xs) q i len turns = absurd (omega (arith, len))
  in_turn p (b ∷ bs) [] q i len turns = absurd (omega (arith, len))
  in_turn p (b ∷ bs) (x ∷ xs) q i len turns =
      let one = says p x b turns.0 i turns.1 in
      let rest = in_turn turns.0 bs xs q one.1 (omega (arith, len)) turns.2 in
      picked b bs x xs ∙ ap (λ ys. cond b (x ∷ ys) ys) rest ∙ ap (λ b. cond b (x ∷ filter test xs) (filter test xs)) one.0

  pub filter_kept : (p : P) (xs ys : List X) → I p → IsFiltered R p xs ys → ys ≡ filter test xs
  filter_kept p xs ys i f = f.4 ∙ in_turn p f.0 xs f.1 i f.2 f.3

-- ---- all

abbrev pub by_lists_of : List ℕ → Summary → Summary
by_lists_of uids s = record {
  messages = without_all uids s.messages;
  gone = s.gone ++ gone_at s.shared (uids_there uids s.messages);
  next = s.next;
  shared = s.shared + length (uids_there uids s.messages);
  own = s.own;
}

none_gone : (s : Summary) → s ≡ by_lists_of [] s
none_gone s = λ i. record {
  messages = sym (all_stay s.messages) i;
  gone = sym (append-nil s.gone) i;
  next = s.next;
  shared = (let z : s.shared ≡ s.shared + 0 = omega arith in z) i;
  own = s.own;
}

one_gone : (uid high : ℕ) (uids : List ℕ) (s : Summary) → Rises (uid + 1) high uids → is_there uid s ≡ true → by_lists_of uids (with_expunge uid s) ≡ by_lists_of (uid ∷ uids) s
one_gone uid high uids s h t =
    (λ i. record {
      messages = filter_twice uid uids s.messages i;
      gone = (ap (λ us. (s.gone ++ record { uid = uid; place = s.shared } ∷ []) ++ gone_at (s.shared + 1) us) same ∙ append_assoc s.gone (record { uid = uid; place = s.shared } ∷ []) (gone_at (s.shared + 1) there)) i;
      next = s.next;
      shared = (ap (λ us. s.shared + 1 + length us) same ∙ (let z : s.shared + 1 + length there ≡ s.shared + length (uid ∷ there) = omega arith in z)) i;
      own = s.own;
    })
    ∙ ap (λ b. record {
      messages = without_all (uid ∷ uids) s.messages;
      gone = s.gone ++ gone_at s.shared (cond b (uid ∷ there) there);
      next = s.next;
      shared = s.shared + length (cond b (uid ∷ there) there);
      own = s.own;
    }) (sym t)
  where
    there : List ℕ
    there = uids_there uids s.messages

    same : uids_there uids (without uid s.messages) ≡ there
    same = there_without uid (uid + 1) high uids s.messages (omega arith) h

absent_gone : (uid : ℕ) (uids : List ℕ) (s : Summary) → is_there uid s ≡ false → by_lists_of uids s ≡ by_lists_of (uid ∷ uids) s
absent_gone uid uids s f =
    (λ i. record {
      messages = sym (absent_stay uid uids s.messages f) i;
      gone = s.gone ++ gone_at s.shared there;
      next = s.next;
      shared = s.shared + length there;
      own = s.own;
    })
    ∙ ap (λ b. record {
      messages = without_all (uid ∷ uids) s.messages;
      gone = s.gone ++ gone_at s.shared (cond b (uid ∷ there) there);
      next = s.next;
      shared = s.shared + length (cond b (uid ∷ there) there);
      own = s.own;
    }) (sym f)
  where
    there : List ℕ
    there = uids_there uids s.messages

pub by_lists : (low high : ℕ) (uids : List ℕ) (s : Summary) → Rises low high uids → with_expunges uids s ≡ by_lists_of uids s
by_lists low high [] s h = none_gone s
by_lists low high (uid ∷ uids) s h = by (is_there uid s) refl (λ s. by_lists (uid + 1) high uids s h.1)
  where
    by : (b : Bool) → is_there uid s ≡ b → ((s : Summary) → with_expunges uids s ≡ by_lists_of uids s) → with_expunges uids (cond b (with_expunge uid s) s) ≡ by_lists_of (uid ∷ uids) s
    by true t rest = rest (with_expunge uid s) ∙ one_gone uid high uids s h.1 t
    by false f rest = rest s ∙ absent_gone uid uids s f

-- as the code makes it: `read` are the messages that it looked through
pub made_by : (low high : ℕ) (uids : List ℕ) (s : Summary) (read messages : List Message) (gone : List GoneMessage) (next : ℕ) (own : Users Own) → Rises low high uids → read ≡ s.messages
    → messages ≡ without_all uids s.messages → gone ≡ s.gone ++ gone_at s.shared (uids_there uids read) → next ≡ s.shared + length (uids_there uids read) → own ≡ s.own
    → with_expunges uids s ≡ record { messages = messages; gone = gone; next = s.next; shared = next; own = own }
made_by low high uids s read messages gone next own h is left went count same = by_lists low high uids s h ∙ λ i. record {
  messages = sym left i;
  gone = sym (went ∙ ap (λ ms. s.gone ++ gone_at s.shared (uids_there uids ms)) is) i;
  next = s.next;
  shared = sym (count ∙ ap (λ ms. s.shared + length (uids_there uids ms)) is) i;
  own = sym same i;
}

pub kept_expunges : (uids : List ℕ) (s : Summary) → s.shared + length uids ≤ max_events → IsKept s → IsKept (with_expunges uids s)
kept_expunges [] s few kept = kept
kept_expunges (uid ∷ uids) s few kept = by (is_there uid s) refl (λ s. kept_expunges uids s)
  where
    by : (b : Bool) → is_there uid s ≡ b → ((s : Summary) → s.shared + length uids ≤ max_events → IsKept s → IsKept (with_expunges uids s)) → IsKept (with_expunges uids (cond b (with_expunge uid s) s))
    by true t rest = rest (with_expunge uid s) (omega (arith, few)) (kept_step (Expunged uid) s tt t tt (omega (arith, few)) kept)
    by false f rest = rest s (omega (arith, few)) kept
