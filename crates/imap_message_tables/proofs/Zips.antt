-- Rows in the order of their keys, gone through side by side.
use Rattle.std.proofs.Common.{◌≡◌, ◌≢◌, ◌⊎◌, inl, inr, ℕ, Bool, true, false, cond, List, [], ◌∷◌, filter, map, Ordering, Less, Equal, Greater, is_lt, is_eq, nat_lt, ◌==◌, string_bytes, refl, sym, ap, subst, ◌∙◌, true≢false}
use Rattle.std.specs.List.{AllZip}
use Rattle.std.specs.Cmp.{IsTotalOrder}
use Rattle.std.specs.Ordering.{int_cmp, nat_cmp, ordering_reverse, ordering_then}
use Rattle.std.proofs.lemmas.Bool.{cases_Bool}
use Rattle.std.proofs.lemmas.Bool.Decides.{Decides-eqb, Decides-int_eq}
use Rattle.std.proofs.lemmas.Cmp.{int_cmp_total, nat_cmp_total, on_total, then_total, tied_itself}
use Rattle.sqlite_rules.specs.Lists.{Has}
use Rattle.imap_message_tables.specs.Joining.{AreWordsOf, Fit, IsMessageOf, Key, body_key, head_key, is_at, key_cmp, texts, word_key}
use Rattle.imap_message_tables.specs.Taking.{IsMade, Zips}
use Rattle.imap_message_tables.specs.Up.{AreUp, IsLow, own_of, rest_of}
use Rattle.imap_tables.specs.declared.message_rows.StoredBody.{StoredBody}
use Rattle.imap_tables.specs.declared.message_rows.StoredHead.{StoredHead}
use Rattle.imap_message_tables.specs.declared.joined.JoinedMessage.{JoinedMessage}
use Rattle.imap_tables.specs.declared.message_rows.StoredKeyword.{StoredKeyword}

-- ---- keys

pub key_total : IsTotalOrder key_cmp
key_total = then_total (on_total (λ (k : Key). k.0) int_cmp_total) (on_total (λ (k : Key). k.1) nat_cmp_total)

equal_test : (o : Ordering) → o ≡ Equal → is_eq o ≡ true
equal_test o e = ap is_eq e

test_equal : (o : Ordering) → is_eq o ≡ true → o ≡ Equal
test_equal Less h = absurd (cc)
test_equal Equal h = refl
test_equal Greater h = absurd (cc)

both_equal : (r s : Ordering) → ordering_then r s ≡ Equal → (r ≡ Equal) × (s ≡ Equal)
both_equal Less s h = absurd (cc h)
both_equal Equal s h = (refl, h)
both_equal Greater s h = absurd (cc h)

nat_same : (a b : ℕ) → nat_cmp a b ≡ Equal → a ≡ b
nat_same a b h = by (nat_lt a b) (a == b) refl h
  where
    by : (l t : Bool) → (a == b) ≡ t → cond l Less (cond t Equal Greater) ≡ Equal → a ≡ b
    by true t e h = absurd (cc h)
    by false true e h = (Decides-eqb a b).0 e
    by false false e h = absurd (cc h)

pub key_same : (a b : Key) → key_cmp a b ≡ Equal → a ≡ b
key_same a b h =
    let p = both_equal (int_cmp a.0 b.0) (nat_cmp a.1 b.1) h in
    λ i. ((Decides-int_eq a.0 b.0).0 (ap is_eq p.0) i, nat_same a.1 b.1 p.1 i)

pub key_itself : (k : Key) → key_cmp k k ≡ Equal
key_itself k = tied_itself key_total k

pub both_low : (a b : Key) → IsLow a b → IsLow b a → a ≡ b
both_low a b h k = by (key_cmp a b) refl
  where
    by : (o : Ordering) → key_cmp a b ≡ o → a ≡ b
    by Less e = absurd (true≢false (sym (ap is_lt e) ∙ k))
    by Equal e = key_same a b e
    by Greater e = absurd (true≢false (sym (ap is_lt (key_total.antisymm b a ∙ ap ordering_reverse e)) ∙ h))

low_itself : (k : Key) → IsLow k k
low_itself k = ap is_lt (key_itself k)

low_at : (a b : Key) → a ≡ b → IsLow a b
low_at a b e = subst (IsLow a) e (low_itself a)

pub at_same : (k : Key) (w : StoredKeyword) → is_at k w ≡ true → word_key w ≡ k
at_same k w h = key_same (word_key w) k (test_equal (key_cmp (word_key w) k) h)

pub same_at : (k : Key) (w : StoredKeyword) → word_key w ≡ k → is_at k w ≡ true
same_at k w e = equal_test (key_cmp (word_key w) k) (subst (λ x. key_cmp (word_key w) x ≡ Equal) e (key_itself (word_key w)))

pub not_at : (k : Key) (w : StoredKeyword) → (word_key w ≢ k) → is_at k w ≡ false
not_at k w off = by (cases_Bool (is_at k w))
  where
    by : (is_at k w ≡ true) ⊎ (is_at k w ≡ false) → is_at k w ≡ false
    by (inl e) = absurd (off (at_same k w e))
    by (inr e) = e

-- ---- words of a key at the front, and those behind

pub rest_has : (k : Key) (ws : List StoredKeyword) (w : StoredKeyword) → Has (rest_of k ws) w → Has ws w
rest_has k [] w h = h
rest_has k (v ∷ ws) w h = by (is_at k v) (rest_has k ws w) h
  where
    by : (b : Bool) → (Has (rest_of k ws) w → Has ws w) → Has (cond b (rest_of k ws) (v ∷ ws)) w → Has (v ∷ ws) w
    by true more h = inr (more h)
    by false more h = h

pub rest_up : (k : Key) (ws : List StoredKeyword) → AreUp word_key ws → AreUp word_key (rest_of k ws)
rest_up k [] up = up
rest_up k (v ∷ ws) up = by (is_at k v) (rest_up k ws up.1)
  where
    by : (b : Bool) → AreUp word_key (rest_of k ws) → AreUp word_key (cond b (rest_of k ws) (v ∷ ws))
    by true more = more
    by false more = up

pub own_or_rest : (k : Key) (ws : List StoredKeyword) (w : StoredKeyword) → Has ws w → (word_key w ≡ k) ⊎ Has (rest_of k ws) w
own_or_rest k [] w h = absurd h
own_or_rest k (v ∷ ws) w h = by (is_at k v) refl h (own_or_rest k ws w)
  where
    by : (b : Bool) → is_at k v ≡ b → Has (v ∷ ws) w → (Has ws w → (word_key w ≡ k) ⊎ Has (rest_of k ws) w) → (word_key w ≡ k) ⊎ Has (cond b (rest_of k ws) (v ∷ ws)) w
    by true e (inl same) more = inl (ap word_key same ∙ at_same k v e)
    by true e (inr h) more = more h
    by false e h more = inr h

-- another key has its words behind
pub filter_rest : (k j : Key) → j ≢ k → (ws : List StoredKeyword) → filter (is_at j) (rest_of k ws) ≡ filter (is_at j) ws
filter_rest k j off [] = refl
filter_rest k j off (v ∷ ws) = by (is_at k v) refl (filter_rest k j off ws)
  where
    by : (b : Bool) → is_at k v ≡ b → filter (is_at j) (rest_of k ws) ≡ filter (is_at j) ws → filter (is_at j) (cond b (rest_of k ws) (v ∷ ws)) ≡ filter (is_at j) (v ∷ ws)
    by true e more = more ∙ sym (ap (λ b. cond b (v ∷ filter (is_at j) ws) (filter (is_at j) ws)) (not_at j v (λ same. off (sym same ∙ at_same k v e))))
    by false e more = refl

none_at : (k : Key) (ws : List StoredKeyword) → ((w : StoredKeyword) → Has ws w → word_key w ≢ k) → filter (is_at k) ws ≡ []
none_at k [] h = refl
none_at k (v ∷ ws) h = ap (λ b. cond b (v ∷ filter (is_at k) ws) (filter (is_at k) ws)) (not_at k v (h v (inl refl))) ∙ none_at k ws (λ w there. h w (inr there))

-- where none is behind, those of the key are at the front
pub own_all : (k : Key) (ws : List StoredKeyword) → ((w : StoredKeyword) → Has (rest_of k ws) w → word_key w ≢ k) → own_of k ws ≡ filter (is_at k) ws
own_all k [] h = refl
own_all k (v ∷ ws) h = by (is_at k v) h (own_all k ws)
  where
    by : (b : Bool) → ((w : StoredKeyword) → Has (cond b (rest_of k ws) (v ∷ ws)) w → word_key w ≢ k) → (((w : StoredKeyword) → Has (rest_of k ws) w → word_key w ≢ k) → own_of k ws ≡ filter (is_at k) ws)
        → cond b (v ∷ own_of k ws) [] ≡ cond b (v ∷ filter (is_at k) ws) (filter (is_at k) ws)
    by true h more = ap (λ l. v ∷ l) (more h)
    by false h more = sym (none_at k ws (λ w there. h w (inr there)))

-- so it is if they rise, and none is lower
pub rest_off : (k : Key) (ws : List StoredKeyword) → AreUp word_key ws → ((w : StoredKeyword) → Has ws w → IsLow k (word_key w)) → (w : StoredKeyword) → Has (rest_of k ws) w → word_key w ≢ k
rest_off k [] up low w h same = h
rest_off k (v ∷ ws) up low w h same = by (is_at k v) refl h (rest_off k ws up.1 (λ x there. low x (inr there)) w)
  where
    by : (b : Bool) → is_at k v ≡ b → Has (cond b (rest_of k ws) (v ∷ ws)) w → (Has (rest_of k ws) w → word_key w ≢ k) → ⊥
    by true e h more = more h same
    by false e (inl is) more = true≢false (sym (same_at k v (ap word_key (sym is) ∙ same)) ∙ e)
    by false e (inr there) more =
        true≢false (sym (same_at k v (both_low (word_key v) k (subst (IsLow (word_key v)) same (up.0 w there)) (low v (inl refl)))) ∙ e)

-- ---- side by side

-- ---- what was gone through fits

zip_weaker : {X Y : Type 0} (P Q : X → Y → Type 0) (xs : List X) (ys : List Y) → ((x : X) → Has xs x → (y : Y) → P x y → Q x y) → AllZip P xs ys → AllZip Q xs ys
zip_weaker P Q [] [] h all = all
zip_weaker P Q [] (y ∷ ys) h all = all
zip_weaker P Q (x ∷ xs) [] h all = all
zip_weaker P Q (x ∷ xs) (y ∷ ys) h all = (h x (inl refl) y all.0, zip_weaker P Q xs ys (λ z there. h z (inr there)) all.1)

module _ (h : StoredHead) (hs : List StoredHead) (b : StoredBody) (bs : List StoredBody) (ws : List StoredKeyword) (apart : (g : StoredHead) → Has hs g → head_key g ≢ head_key h) (at : body_key b ≡ head_key h)
    (own : (ts : List (List ℕ)) × AreWordsOf (texts (own_of (head_key h) ws)) ts) (fit : Fit hs bs (rest_of (head_key h) ws)) where
  abbrev k : Key
  k = head_key h

  behind : (w : StoredKeyword) → Has (rest_of (head_key h) ws) w → word_key w ≢ head_key h
  behind w there same = let (g, has, e) = fit.has_owner w there in apart g has (e ∙ same)

  pub own_are : own_of (head_key h) ws ≡ filter (is_at (head_key h)) ws
  own_are = own_all (head_key h) ws behind

  pub fits_more : Fit (h ∷ hs) (b ∷ bs) ws
  fits_more = record {
    heads_apart = (apart, fit.heads_apart);
    bodies_apart = (λ c there same. let (g, has, e) = fit.has_head c there in apart g has (e ∙ same ∙ at), fit.bodies_apart);
    has_body = has_body;
    has_head = has_head;
    has_owner = λ w there. has_owner w (own_or_rest (head_key h) ws w there);
    has_words = has_words;
  }
    where
      has_body : (g : StoredHead) → Has (h ∷ hs) g → (c : StoredBody) × Has (b ∷ bs) c × (body_key c ≡ head_key g)
      has_body g (inl e) = (b, inl refl, at ∙ ap head_key (sym e))
      has_body g (inr there) = let (c, has, e) = fit.has_body g there in (c, inr has, e)

      has_head : (c : StoredBody) → Has (b ∷ bs) c → (g : StoredHead) × Has (h ∷ hs) g × (head_key g ≡ body_key c)
      has_head c (inl e) = (h, inl refl, sym at ∙ ap body_key (sym e))
      has_head c (inr there) = let (g, has, e) = fit.has_head c there in (g, inr has, e)

      has_owner : (w : StoredKeyword) → (word_key w ≡ head_key h) ⊎ Has (rest_of (head_key h) ws) w → (g : StoredHead) × Has (h ∷ hs) g × (head_key g ≡ word_key w)
      has_owner w (inl e) = (h, inl refl, sym e)
      has_owner w (inr there) = let (g, has, e) = fit.has_owner w there in (g, inr has, e)

      has_words : (g : StoredHead) → Has (h ∷ hs) g → (ts : List (List ℕ)) × AreWordsOf (texts (filter (is_at (head_key g)) ws)) ts
      has_words g (inl e) = (own.0, subst (λ l. AreWordsOf (texts l) own.0) (own_are ∙ ap (λ x. filter (is_at (head_key x)) ws) (sym e)) own.1)
      has_words g (inr there) =
          let (ts, are) = fit.has_words g there in
          (ts, subst (λ l. AreWordsOf (texts l) ts) (filter_rest (head_key h) (head_key g) (apart g there) ws) are)

  pub message_more : (g : StoredHead) → Has hs g → (m : JoinedMessage) → IsMessageOf hs bs (rest_of (head_key h) ws) g m → IsMessageOf (h ∷ hs) (b ∷ bs) ws g m
  message_more g there m is = record {
    head = is.head;
    body = is.body;
    there = inr is.there;
    at = is.at;
    octets = is.octets;
    own = subst (λ l. AreWordsOf (texts l) (map string_bytes m.words.items)) (filter_rest (head_key h) (head_key g) (apart g there) ws) is.own;
  }

  pub message_made : (m : JoinedMessage) → IsMade h b (own_of (head_key h) ws) m → IsMessageOf (h ∷ hs) (b ∷ bs) ws h m
  message_made m made = record {
    head = made.head;
    body = b;
    there = inl refl;
    at = at;
    octets = made.octets;
    own = subst (λ l. AreWordsOf (texts l) (map string_bytes m.words.items)) own_are made.words;
  }

pub fits_from : (hs : List StoredHead) (bs : List StoredBody) (ws : List StoredKeyword) (ms : List JoinedMessage) → Zips hs bs ws ms → Fit hs bs ws × AllZip (IsMessageOf hs bs ws) hs ms
fits_from [] bs ws ms (nb, nw, nm) =
    subst (λ l. Fit [] l ws × AllZip (IsMessageOf [] l ws) [] ms) (sym nb)
    (subst (λ l. Fit [] [] l × AllZip (IsMessageOf [] [] l) [] ms) (sym nw)
    (subst (λ l. Fit [] [] [] × AllZip (IsMessageOf [] [] []) [] l) (sym nm) (
      record {
        heads_apart = tt;
        bodies_apart = tt;
        has_body = λ h none. absurd none;
        has_head = λ b none. absurd none;
        has_owner = λ w none. absurd none;
        has_words = λ h none. absurd none;
      },
      tt,
    )))
fits_from (h ∷ hs) bs ws ms n =
    let (fit, each) = fits_from hs n.bodies (rest_of (head_key h) ws) n.messages n.more in
    let own : (ts : List (List ℕ)) × AreWordsOf (texts (own_of (head_key h) ws)) ts = (map string_bytes n.message.words.items, n.made.words) in
    subst (λ l. Fit (h ∷ hs) l ws × AllZip (IsMessageOf (h ∷ hs) l ws) (h ∷ hs) ms) (sym n.bodies_are)
    (subst (λ l. Fit (h ∷ hs) (n.body ∷ n.bodies) ws × AllZip (IsMessageOf (h ∷ hs) (n.body ∷ n.bodies) ws) (h ∷ hs) l) (sym n.messages_are) (
      fits_more h hs n.body n.bodies ws n.apart n.made.at own fit,
      (
        message_made h hs n.body n.bodies ws n.apart n.made.at own fit n.message n.made,
        zip_weaker (IsMessageOf hs n.bodies (rest_of (head_key h) ws)) (IsMessageOf (h ∷ hs) (n.body ∷ n.bodies) ws) hs n.messages (message_more h hs n.body n.bodies ws n.apart n.made.at own fit) each,
      ),
    ))

-- ---- what fits is gone through

module _ (h : StoredHead) (hs : List StoredHead) (bs : List StoredBody) (ws : List StoredKeyword) (fit : Fit (h ∷ hs) bs ws) (heads_up : AreUp head_key (h ∷ hs)) (bodies_up : AreUp body_key bs) (words_up : AreUp word_key ws) where
  -- the lowest head is not above any
  low_head : (g : StoredHead) → Has (h ∷ hs) g → IsLow (head_key h) (head_key g)
  low_head g (inl e) = low_at (head_key h) (head_key g) (ap head_key (sym e))
  low_head g (inr there) = heads_up.0 g there

  low_word : (w : StoredKeyword) → Has ws w → IsLow (head_key h) (word_key w)
  low_word w there = let (g, has, e) = fit.has_owner w there in subst (IsLow (head_key h)) e (low_head g has)

  pub behind_off : (w : StoredKeyword) → Has (rest_of (head_key h) ws) w → word_key w ≢ head_key h
  behind_off = rest_off (head_key h) ws words_up low_word

  -- its words are at the front
  pub front_words : (ts : List (List ℕ)) × AreWordsOf (texts (own_of (head_key h) ws)) ts
  front_words =
      let (ts, are) = fit.has_words h (inl refl) in
      (ts, subst (λ l. AreWordsOf (texts l) ts) (sym (own_all (head_key h) ws behind_off)) are)

  pub no_bodies : bs ≡ [] → ⊥
  no_bodies e = let (b, has, same) = fit.has_body h (inl refl) in subst (λ l. Has l b) e has

pub front_body : (h : StoredHead) (hs : List StoredHead) (b : StoredBody) (bs : List StoredBody) (ws : List StoredKeyword) → Fit (h ∷ hs) (b ∷ bs) ws → AreUp head_key (h ∷ hs) → AreUp body_key (b ∷ bs) → body_key b ≡ head_key h
front_body h hs b bs ws fit heads_up bodies_up =
    let (c, there, e) = fit.has_body h (inl refl) in
    let (g, has, f) = fit.has_head b (inl refl) in
    by c there e g has f
  where
    by : (c : StoredBody) → Has (b ∷ bs) c → body_key c ≡ head_key h → (g : StoredHead) → Has (h ∷ hs) g → head_key g ≡ body_key b → body_key b ≡ head_key h
    by c (inl same) e g has f = ap body_key (sym same) ∙ e
    by c (inr there) e g (inl same) f = sym f ∙ ap head_key same
    by c (inr there) e g (inr has) f =
        both_low (body_key b) (head_key h) (subst (IsLow (body_key b)) e (bodies_up.0 c there)) (subst (IsLow (head_key h)) f (heads_up.0 g has))

pub fits_less : (h : StoredHead) (hs : List StoredHead) (b : StoredBody) (bs : List StoredBody) (ws : List StoredKeyword) → Fit (h ∷ hs) (b ∷ bs) ws → AreUp head_key (h ∷ hs) → AreUp body_key (b ∷ bs) → AreUp word_key ws
    → Fit hs bs (rest_of (head_key h) ws)
fits_less h hs b bs ws fit heads_up bodies_up words_up = record {
  heads_apart = fit.heads_apart.1;
  bodies_apart = fit.bodies_apart.1;
  has_body = λ g there. has_body g there (fit.has_body g (inr there));
  has_head = λ c there. has_head c there (fit.has_head c (inr there));
  has_owner = λ w there. has_owner w there (fit.has_owner w (rest_has (head_key h) ws w there));
  has_words = λ g there.
      let (ts, are) = fit.has_words g (inr there) in
      (ts, subst (λ l. AreWordsOf (texts l) ts) (sym (filter_rest (head_key h) (head_key g) (fit.heads_apart.0 g there) ws)) are);
}
  where
    at : body_key b ≡ head_key h
    at = front_body h hs b bs ws fit heads_up bodies_up

    has_body : (g : StoredHead) → Has hs g → ((c : StoredBody) × Has (b ∷ bs) c × (body_key c ≡ head_key g)) → (c : StoredBody) × Has bs c × (body_key c ≡ head_key g)
    has_body g there (c, inl same, e) = absurd (fit.heads_apart.0 g there (sym e ∙ ap body_key same ∙ at))
    has_body g there (c, inr has, e) = (c, has, e)

    has_head : (c : StoredBody) → Has bs c → ((g : StoredHead) × Has (h ∷ hs) g × (head_key g ≡ body_key c)) → (g : StoredHead) × Has hs g × (head_key g ≡ body_key c)
    has_head c there (g, inl same, e) = absurd (fit.bodies_apart.0 c there (sym e ∙ ap head_key same ∙ sym at))
    has_head c there (g, inr has, e) = (g, has, e)

    has_owner : (w : StoredKeyword) → Has (rest_of (head_key h) ws) w → ((g : StoredHead) × Has (h ∷ hs) g × (head_key g ≡ word_key w)) → (g : StoredHead) × Has hs g × (head_key g ≡ word_key w)
    has_owner w there (g, inl same, e) = absurd (behind_off h hs (b ∷ bs) ws fit heads_up bodies_up words_up w there (sym e ∙ ap head_key same))
    has_owner w there (g, inr has, e) = (g, has, e)
