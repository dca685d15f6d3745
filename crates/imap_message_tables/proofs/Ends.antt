-- Rows that are taken from the end.
use Rattle.std.proofs.Common.{◌≡◌, ◌≢◌, inl, inr, ℕ, true, false, cond, List, [], ◌∷◌, ◌++◌, append_assoc, append-nil, reverse, refl, sym, ap, subst, ◌∙◌, true≢false, string_bytes}
use Rattle.std.proofs.Common.{length, ◌<◌, ◌≤◌, arith}
use Rattle.std.proofs.lemmas.List.{reverse-append, reverse-reverse}
use Rattle.std.proofs.Common.{Equal, is_eq, is_lt}
use Rattle.sqlite_rules.specs.Lists.{Has}
use Rattle.imap_message_tables.specs.Joining.{AreWordsOf, Fit, key_cmp, Key, body_key, head_key, is_at, texts, word_key}
use Rattle.imap_message_tables.specs.Taking.{FitsNowhere, IsTaken, Zips, is_first, is_first_head}
use Rattle.imap_message_tables.specs.Up.{AreUp, IsLow, own_of, rest_of}
use Rattle.imap_tables.specs.declared.message_rows.StoredBody.{StoredBody}
use Rattle.imap_tables.specs.declared.message_rows.StoredHead.{StoredHead}
use Rattle.imap_message_tables.specs.declared.joined.JoinedMessage.{JoinedMessage}
use Rattle.imap_tables.specs.declared.message_rows.StoredKeyword.{StoredKeyword}
use Rattle.imap_message_tables.proofs.Zips.{fits_less, front_body, front_words, rest_up, both_low, key_itself, key_same}
use Rattle.imap_message_tables.proofs.Ordered.{equal_of}

-- the last is the first of the list turned round
pub turned : {X : Type 0} (old new : List X) (x : X) → old ≡ new ++ x ∷ [] → reverse old ≡ x ∷ reverse new
turned old new x e = ap reverse e ∙ reverse-append new (x ∷ [])

first_step : (k : Key) (w : StoredKeyword) (ws : List StoredKeyword) → is_at k w ≡ true → (own_of k (w ∷ ws) ≡ w ∷ own_of k ws) × (rest_of k (w ∷ ws) ≡ rest_of k ws)
first_step k w ws e = (ap (λ b. cond b (w ∷ own_of k ws) []) e, ap (λ b. cond b (rest_of k ws) (w ∷ ws)) e)

pub own_next : (k : Key) (old new : List StoredKeyword) (w : StoredKeyword) (done next all : List (List ℕ)) → old ≡ new ++ w ∷ [] → is_first k (reverse old) ≡ true → next ≡ done ++ string_bytes w.word ∷ []
    → done ++ texts (own_of k (reverse old)) ≡ all → next ++ texts (own_of k (reverse new)) ≡ all
own_next k old new w done next all e is put so_far =
    let at : is_at k w ≡ true = subst (λ l. is_first k l ≡ true) (turned old new w e) is in
    ap (λ l. l ++ texts (own_of k (reverse new))) put ∙ append_assoc done (string_bytes w.word ∷ []) (texts (own_of k (reverse new)))
    ∙ ap (λ l. done ++ texts l) (sym (ap (own_of k) (turned old new w e) ∙ (first_step k w (reverse new) at).0)) ∙ so_far

pub rest_next : (k : Key) (old new : List StoredKeyword) (w : StoredKeyword) (all : List StoredKeyword) → old ≡ new ++ w ∷ [] → is_first k (reverse old) ≡ true → rest_of k (reverse old) ≡ all → rest_of k (reverse new) ≡ all
rest_next k old new w all e is so_far =
    let at : is_at k w ≡ true = subst (λ l. is_first k l ≡ true) (turned old new w e) is in
    sym (ap (rest_of k) (turned old new w e) ∙ (first_step k w (reverse new) at).1) ∙ so_far

pub own_end : (k : Key) (ws : List StoredKeyword) → is_first k ws ≡ false → own_of k ws ≡ []
own_end k [] e = refl
own_end k (w ∷ ws) e = ap (λ b. cond b (w ∷ own_of k ws) []) e

pub rest_end : (k : Key) (ws : List StoredKeyword) → is_first k ws ≡ false → rest_of k ws ≡ ws
rest_end k [] e = refl
rest_end k (w ∷ ws) e = ap (λ b. cond b (rest_of k ws) (w ∷ ws)) e

-- ---- a message

pub wrong_body : (h : StoredHead) (hs : List StoredHead) (b : StoredBody) (old new : List StoredBody) (ws : List StoredKeyword) → old ≡ new ++ b ∷ [] → is_eq (key_cmp (body_key b) (head_key h)) ≡ false
    → AreUp head_key (h ∷ hs) → AreUp body_key (reverse old) → FitsNowhere h hs (reverse old) ws
wrong_body h hs b old new ws e off heads_up bodies_up fit =
    let same : body_key b ≡ head_key h = front_body h hs b (reverse new) ws (subst (λ l. Fit (h ∷ hs) l ws) (turned old new b e) fit) heads_up (subst (AreUp body_key) (turned old new b e) bodies_up) in
    true≢false (sym (ap is_eq (subst (λ k. key_cmp (body_key b) k ≡ Equal) same (key_itself (body_key b)))) ∙ off)

pub wrong_words : (h : StoredHead) (hs : List StoredHead) (bs : List StoredBody) (ws : List StoredKeyword) (own : List (List ℕ)) → own ≡ texts (own_of (head_key h) ws) → ((ts : List (List ℕ)) → AreWordsOf own ts → ⊥)
    → AreUp head_key (h ∷ hs) → AreUp body_key bs → AreUp word_key ws → FitsNowhere h hs bs ws
wrong_words h hs bs ws own is off heads_up bodies_up words_up fit =
    let f = front_words h hs bs ws fit heads_up bodies_up words_up in
    off f.0 (subst (λ l. AreWordsOf l f.0) (sym is) f.1)

pub same_key : (b : StoredBody) (h : StoredHead) → is_eq (key_cmp (body_key b) (head_key h)) ≡ true → body_key b ≡ head_key h
same_key b h e = key_same (body_key b) (head_key h) (equal_of (key_cmp (body_key b) (head_key h)) e)

-- ---- one after the other

pub heads_apart : (h : StoredHead) (hs : List StoredHead) → AreUp head_key (h ∷ hs) → is_first_head (head_key h) hs ≡ false → (g : StoredHead) → Has hs g → head_key g ≢ head_key h
heads_apart h [] up off g there same = there
heads_apart h (f ∷ hs) up off g there same =
    let low : IsLow (head_key f) (head_key g) = below there in
    let first : head_key f ≡ head_key h = both_low (head_key f) (head_key h) (subst (IsLow (head_key f)) same low) (up.0 f (inl refl)) in
    true≢false (sym (ap is_eq (subst (λ k. key_cmp (head_key f) k ≡ Equal) first (key_itself (head_key f)))) ∙ off)
  where
    below : Has (f ∷ hs) g → IsLow (head_key f) (head_key g)
    below (inl e) = subst (λ x. IsLow (head_key f) (head_key x)) (sym e) (ap is_lt (key_itself (head_key f)))
    below (inr k) = up.1.0 g k

pub doubled : (h : StoredHead) (hs : List StoredHead) (bs : List StoredBody) (ws : List StoredKeyword) → is_first_head (head_key h) hs ≡ true → FitsNowhere h hs bs ws
doubled h [] bs ws e fit = true≢false (sym e)
doubled h (g ∷ hs) bs ws e fit = fit.heads_apart.0 g (inl refl) (key_same (head_key g) (head_key h) (equal_of (key_cmp (head_key g) (head_key h)) e))

pub zips_next : (h : StoredHead) (hs : List StoredHead) (bs bodies : List StoredBody) (ws words : List StoredKeyword) (m : JoinedMessage) (done next : List JoinedMessage) (Z : List JoinedMessage → Type 0) → ((g : StoredHead) → Has hs g → head_key g ≢ head_key h)
    → IsTaken h bs bodies ws words m → next ≡ done ++ m ∷ [] → ((ms : List JoinedMessage) → Zips (h ∷ hs) bs ws ms → Z (done ++ ms)) → (ms : List JoinedMessage) → Zips hs bodies words ms → Z (next ++ ms)
zips_next h hs bs bodies ws words m done next Z apart taken put so_far ms more =
    subst Z (sym (ap (λ l. l ++ ms) put ∙ append_assoc done (m ∷ []) ms))
    (so_far (m ∷ ms) (record {
      apart = apart;
      body = taken.body;
      bodies = bodies;
      bodies_are = taken.bodies_are;
      message = m;
      messages = ms;
      messages_are = refl;
      made = taken.made;
      more = subst (λ l. Zips hs bodies l ms) taken.words_are more;
    }))

pub fits_next : (h : StoredHead) (hs : List StoredHead) (bs bodies : List StoredBody) (ws words : List StoredKeyword) (m : JoinedMessage) → IsTaken h bs bodies ws words m → AreUp head_key (h ∷ hs) → AreUp body_key bs → AreUp word_key ws
    → Fit (h ∷ hs) bs ws → Fit hs bodies words
fits_next h hs bs bodies ws words m taken heads_up bodies_up words_up fit =
    subst (λ l. Fit hs bodies l) (sym taken.words_are)
    (fits_less h hs taken.body bodies ws (subst (λ l. Fit (h ∷ hs) l ws) taken.bodies_are fit) heads_up (subst (AreUp body_key) taken.bodies_are bodies_up) words_up)

pub up_next : (h : StoredHead) (bs bodies : List StoredBody) (ws words : List StoredKeyword) (m : JoinedMessage) → IsTaken h bs bodies ws words m → AreUp body_key bs → AreUp word_key ws → AreUp body_key bodies × AreUp word_key words
up_next h bs bodies ws words m taken bodies_up words_up =
    ((subst (AreUp body_key) taken.bodies_are bodies_up).1, subst (AreUp word_key) (sym taken.words_are) (rest_up (head_key h) ws words_up))

-- rows that are left over
pub left_body : (bs : List StoredBody) (ws : List StoredKeyword) → (bs ≡ [] → ⊥) → Fit [] bs ws → ⊥
left_body [] ws off fit = off refl
left_body (b ∷ bs) ws off fit = (fit.has_head b (inl refl)).1

pub left_word : (bs : List StoredBody) (ws : List StoredKeyword) → (ws ≡ [] → ⊥) → Fit [] bs ws → ⊥
left_word bs [] off fit = off refl
left_word bs (w ∷ ws) off fit = (fit.has_owner w (inl refl)).1

pub none_left : {X : Type 0} (xs : List X) → length xs ≤ 0 → reverse xs ≡ []
none_left [] low = refl
none_left (x ∷ xs) low = absurd (omega (arith, low))

pub some_left : {X : Type 0} (xs : List X) → 0 < length xs → reverse xs ≡ [] → ⊥
some_left xs low e = omega (arith, low, ap length (sym (reverse-reverse xs) ∙ ap reverse e))

pub zips_end : (hs : List StoredHead) (bs : List StoredBody) (ws : List StoredKeyword) (done : List JoinedMessage) (Z : List JoinedMessage → Type 0) → hs ≡ [] → bs ≡ [] → ws ≡ [] → ((ms : List JoinedMessage) → Zips hs bs ws ms → Z (done ++ ms)) → Z done
zips_end hs bs ws done Z eh eb ew so_far = subst Z (append-nil done) (so_far [] (subst (λ l. Zips l bs ws []) (sym eh) (eb, ew, refl)))
