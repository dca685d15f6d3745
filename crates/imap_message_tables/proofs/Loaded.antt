-- Rows that are read fit where the tables do.
use Rattle.std.proofs.Common.{◌≡◌, inl, inr, ℕ, ℤ, pos, Bool, true, false, cond, List, [], ◌∷◌, filter, string_bytes, refl, sym, ap, subst, ◌∙◌}
use Rattle.sqlite.specs.declared.types.Value.TheVariants.{Int, Text as Words}
use Rattle.sqlite.specs.Order.{Row, column}
use Rattle.sqlite.specs.Tree.{Trees}
use Rattle.sqlite_rules.specs.Lists.{Has}
use Rattle.sqlite_rules.proofs.ListLemmas.{has_filtered, has_kept}
use Rattle.imap_message_tables.specs.Joining.{AreApart, AreWordsOf, Fit, Key, body_key, head_key, is_at, texts, word_key}
use Rattle.imap_message_tables.specs.Loading.{AreRead, AreRowsApart, FittingIsRead, row_of_body, row_of_head, row_of_word}
use Rattle.imap_message_tables.specs.Split.{AreOfOne, AreRising, IsHead, IsSplit, Stands, Whole, body_of, head_of, word_of}
use Rattle.imap_tables.specs.declared.message_rows.StoredBody.{StoredBody}
use Rattle.imap_tables.specs.declared.message_rows.StoredHead.{StoredHead}
use Rattle.imap_tables.specs.declared.message_rows.StoredKeyword.{StoredKeyword}
use Rattle.imap_message_tables.proofs.Keys.{same_id, same_number, same_text}
use Rattle.imap_message_tables.proofs.Shuffled.{AreOnce, shuffled}
use Rattle.imap_message_tables.proofs.Words.{not_behind}
use Rattle.imap_message_tables.proofs.Zips.{at_same, same_at}

pub key_of : (a b : ℤ) (u v : ℕ) → Int a ≡ Int b → Int (pos u) ≡ Int (pos v) → ◌≡◌ {A = Key} (a, u) (b, v)
key_of a b u v e f = λ j. (same_id a b e j, same_number u v f j)

once_words : (ws : List (List ℕ)) → AreRising ws → AreOnce ws
once_words [] h = tt
once_words (w ∷ ws) h = (λ there. not_behind w ws h.0 there, once_words ws h.1)

pub text_has : (ws : List StoredKeyword) (t : List ℕ) → Has (texts ws) t → (w : StoredKeyword) × Has ws w × (t ≡ string_bytes w.word)
text_has [] t h = absurd h
text_has (w ∷ ws) t (inl e) = (w, inl refl, e)
text_has (w ∷ ws) t (inr h) = let (v, there, e) = text_has ws t h in (v, inr there, e)

pub has_text : (ws : List StoredKeyword) (w : StoredKeyword) → Has ws w → Has (texts ws) (string_bytes w.word)
has_text [] w h = absurd h
has_text (v ∷ ws) w (inl e) = inl (ap (λ (x : StoredKeyword). string_bytes x.word) e)
has_text (v ∷ ws) w (inr h) = inr (has_text ws w h)

module _ (db one : Trees) (heads : List StoredHead) (bodies : List StoredBody) (words : List StoredKeyword) (read : AreRead db heads bodies words) (split : IsSplit db one) where
  -- ---- keys

  of_one : (a b : Row) (x y : Key) → column a 1 ≡ Int x.0 → column a 2 ≡ Int (pos x.1) → column b 1 ≡ Int y.0 → column b 2 ≡ Int (pos y.1) → x ≡ y → AreOfOne a b
  of_one a b x y ea fa eb fb same = (ea ∙ ap (λ (k : Key). Int k.0) same ∙ sym eb, fa ∙ ap (λ (k : Key). Int (pos k.1)) same ∙ sym fb)

  heads_apart : (hs : List StoredHead) → ((h : StoredHead) → Has hs h → Has heads h) → AreRowsApart row_of_head hs → AreApart head_key hs
  heads_apart [] all apart = tt
  heads_apart (h ∷ hs) all apart = (
    λ g there same. apart.0 g there (split.keyed.heads (row_of_head g) (row_of_head h) (read.heads.complete g (all g (inr there))) (read.heads.complete h (all h (inl refl)))
        (of_one (row_of_head g) (row_of_head h) (head_key g) (head_key h) refl refl refl refl same)),
    heads_apart hs (λ g there. all g (inr there)) apart.1,
  )

  bodies_apart : (bs : List StoredBody) → ((b : StoredBody) → Has bs b → Has bodies b) → AreRowsApart row_of_body bs → AreApart body_key bs
  bodies_apart [] all apart = tt
  bodies_apart (b ∷ bs) all apart = (
    λ g there same. apart.0 g there (split.keyed.bodies (row_of_body g) (row_of_body b) (read.bodies.complete g (all g (inr there))) (read.bodies.complete b (all b (inl refl)))
        (of_one (row_of_body g) (row_of_body b) (body_key g) (body_key b) refl refl refl refl same)),
    bodies_apart bs (λ g there. all g (inr there)) apart.1,
  )

  -- ---- rows

  whole_head : (h : StoredHead) (m : Whole) → row_of_head h ≡ head_of m → ◌≡◌ {A = Key} (h.mailbox, h.uid) (m.mailbox, m.uid)
  whole_head h m e = key_of h.mailbox m.mailbox h.uid m.uid (ap (λ (r : Row). column r 1) e) (ap (λ (r : Row). column r 2) e)

  head_for : (m : Whole) → Stands db m → (h : StoredHead) × Has heads h × (head_key h ≡ (m.mailbox, m.uid))
  head_for m s = let (h, there, e) = read.heads.sound (head_of m) s.head in (h, there, whole_head h m (sym e))

  has_body : (h : StoredHead) → Has heads h → (b : StoredBody) × Has bodies b × (body_key b ≡ head_key h)
  has_body h there =
      let o = split.heads (row_of_head h) (read.heads.complete h there) in
      let (b, has, e) = read.bodies.sound (body_of o.whole o.stands.body.0) o.stands.body.1 in
      (b, has, key_of b.mailbox o.whole.mailbox b.uid o.whole.uid (sym (ap (λ (r : Row). column r 1) e)) (sym (ap (λ (r : Row). column r 2) e)) ∙ sym (whole_head h o.whole o.shown))

  has_head : (b : StoredBody) → Has bodies b → (h : StoredHead) × Has heads h × (head_key h ≡ body_key b)
  has_head b there =
      let o = split.bodies (row_of_body b) (read.bodies.complete b there) in
      let (h, has, e) = head_for o.whole o.stands in
      (h, has, e ∙ key_of o.whole.mailbox b.mailbox o.whole.uid b.uid (sym (ap (λ (r : Row). column r 1) o.shown)) (sym (ap (λ (r : Row). column r 2) o.shown)))

  has_owner : (w : StoredKeyword) → Has words w → (h : StoredHead) × Has heads h × (head_key h ≡ word_key w)
  has_owner w there =
      let o = split.words (row_of_word w) (read.words.complete w there) in
      let (h, has, e) = head_for o.whole o.stands in
      (h, has, e ∙ key_of o.whole.mailbox w.mailbox o.whole.uid w.uid (sym (ap (λ (r : Row). column r 1) o.shown)) (sym (ap (λ (r : Row). column r 2) o.shown)))

  -- ---- words

  once_texts : (k : Key) (ws : List StoredKeyword) → ((w : StoredKeyword) → Has ws w → Has words w) → AreRowsApart row_of_word ws → AreOnce (texts (filter (is_at k) ws))
  once_texts k [] all apart = tt
  once_texts k (w ∷ ws) all apart = by (is_at k w) refl (once_texts k ws (λ v there. all v (inr there)) apart.1)
    where
      twice : is_at k w ≡ true → Has (texts (filter (is_at k) ws)) (string_bytes w.word) → ⊥
      twice at h =
          let (v, has, e) = text_has (filter (is_at k) ws) (string_bytes w.word) h in
          let f = has_filtered (is_at k) ws v has in
          apart.0 v f.0 (split.keyed.words (row_of_word v) (row_of_word w) (read.words.complete v (all v (inr f.0))) (read.words.complete w (all w (inl refl)))
          (of_one (row_of_word v) (row_of_word w) (word_key v) (word_key w) refl refl refl refl (at_same k v f.1 ∙ sym (at_same k w at))) (ap (λ t. Words t) (sym e)))

      by : (b : Bool) → is_at k w ≡ b → AreOnce (texts (filter (is_at k) ws)) → AreOnce (texts (cond b (w ∷ filter (is_at k) ws) (filter (is_at k) ws)))
      by true at rest = (twice at, rest)
      by false at rest = rest

  head_words : (h : StoredHead) → (o : IsHead db (row_of_head h)) → AreWordsOf (texts (filter (is_at (head_key h)) words)) o.whole.words
  head_words h o = record {
    are = o.stands.are_words;
    same = shuffled (texts (filter (is_at (head_key h)) words)) o.whole.words (once_texts (head_key h) words (λ w k. k) read.words_apart) (once_words o.whole.words o.stands.are_words.rising) to from;
  }
    where
      at : head_key h ≡ (o.whole.mailbox, o.whole.uid)
      at = whole_head h o.whole o.shown

      to : (t : List ℕ) → Has (texts (filter (is_at (head_key h)) words)) t → Has o.whole.words t
      to t k =
          let (w, has, e) = text_has (filter (is_at (head_key h)) words) t k in
          let f = has_filtered (is_at (head_key h)) words w has in
          let key : ◌≡◌ {A = Key} (w.mailbox, w.uid) (o.whole.mailbox, o.whole.uid) = at_same (head_key h) w f.1 ∙ at in
          let row : row_of_word w ≡ word_of o.whole (string_bytes w.word) w.rowid = (λ j. Int w.rowid ∷ Int ((key j).0) ∷ Int (pos ((key j).1)) ∷ Words (string_bytes w.word) ∷ []) in
          subst (Has o.whole.words) (sym e) ((o.stands.words (string_bytes w.word)).1 (w.rowid, subst (Has (db 20)) row (read.words.complete w f.0)))

      from : (t : List ℕ) → Has o.whole.words t → Has (texts (filter (is_at (head_key h)) words)) t
      from t k =
          let (n, has) = (o.stands.words t).0 k in
          let (w, there, e) = read.words.sound (word_of o.whole t n) has in
          let key = key_of w.mailbox o.whole.mailbox w.uid o.whole.uid (sym (ap (λ (r : Row). column r 1) e)) (sym (ap (λ (r : Row). column r 2) e)) in
          subst (Has (texts (filter (is_at (head_key h)) words))) (sym (same_text t (string_bytes w.word) (ap (λ (r : Row). column r 3) e)))
          (has_text (filter (is_at (head_key h)) words) w (has_kept (is_at (head_key h)) words w there (same_at (head_key h) w (key ∙ sym at))))

  has_words : (h : StoredHead) → Has heads h → (ts : List (List ℕ)) × AreWordsOf (texts (filter (is_at (head_key h)) words)) ts
  has_words h there = let o = split.heads (row_of_head h) (read.heads.complete h there) in (o.whole.words, head_words h o)

  pub fits : Fit heads bodies words
  fits = record {
    heads_apart = heads_apart heads (λ h k. k) read.heads_apart;
    bodies_apart = bodies_apart bodies (λ b k. k) read.bodies_apart;
    has_body = has_body;
    has_head = has_head;
    has_owner = has_owner;
    has_words = has_words;
  }

pub fitting_is_read : FittingIsRead
fitting_is_read db one heads bodies words read split = fits db one heads bodies words read split
