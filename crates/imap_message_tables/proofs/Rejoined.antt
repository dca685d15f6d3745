-- Joined messages are the rows of a table that fits.
use Rattle.std.proofs.Common.{◌≡◌, inl, inr, ℕ, ℤ, pos, List, [], ◌∷◌, filter, map, string_bytes, refl, sym, ap, subst, ◌∙◌}
use Rattle.std.specs.List.{AllZip}
use Rattle.std.proofs.lemmas.List.Sorted.{IsPermutation-sym}
use Rattle.sqlite.specs.declared.types.Value.TheVariants.{Int, Text as Words}
use Rattle.sqlite.specs.Order.{Row, column}
use Rattle.sqlite.specs.Tree.{Trees}
use Rattle.sqlite_rules.specs.Lists.{Has}
use Rattle.sqlite_rules.proofs.ListLemmas.{has_filtered, has_kept}
use Rattle.sqlite_rules.proofs.ProbeLemmas.{has_mapped, mapped_has}
use Rattle.imap_message_tables.specs.Joining.{AreJoined, Fit, IsMessageOf, Key, head_key, is_at, texts}
use Rattle.imap_message_tables.specs.Loading.{AreRead, ReadFits, row_of_body, row_of_head, row_of_message, row_of_word}
use Rattle.imap_tables.specs.Rows.{body_row}
use Rattle.imap_message_tables.specs.Split.{AreKeyed, IsBody, IsHead, IsOne, IsOther, IsSplit, IsWord, Stands, Whole, body_of, head_of, word_of}
use Rattle.imap_tables.specs.declared.message_rows.StoredBody.{StoredBody}
use Rattle.imap_tables.specs.declared.message_rows.StoredHead.{StoredHead}
use Rattle.imap_message_tables.specs.declared.joined.JoinedMessage.{JoinedMessage}
use Rattle.imap_tables.specs.declared.message_rows.StoredKeyword.{StoredKeyword}
use Rattle.imap_message_tables.proofs.Changed.{here_words, same_one, with_others, with_rows}
use Rattle.imap_message_tables.proofs.Keys.{same_id, same_number, same_text}
use Rattle.imap_message_tables.proofs.Loaded.{has_text, key_of, text_has}
use Rattle.imap_message_tables.proofs.Ordered.{has_permuted}
use Rattle.imap_message_tables.proofs.Zips.{at_same, same_at}

abbrev whole_of : JoinedMessage → Whole
whole_of m = record {
  mailbox = m.head.mailbox;
  uid = m.head.uid;
  date = string_bytes m.head.date;
  octets = m.octets;
  flags = m.head.flags;
  words = map string_bytes m.words.items;
  place = m.head.place;
  rowid = m.head.rowid;
}

module _ {X Y : Type 0} (P : X → Y → Type 0) where
  pub zip_left : (xs : List X) (ys : List Y) → AllZip P xs ys → (x : X) → Has xs x → (y : Y) × Has ys y × P x y
  zip_left [] ys all x h = absurd h
  zip_left (x ∷ xs) [] all z h = absurd all
  zip_left (x ∷ xs) (y ∷ ys) all z (inl e) = (y, inl refl, subst (λ w. P w y) (sym e) all.0)
  zip_left (x ∷ xs) (y ∷ ys) all z (inr h) = let (w, there, p) = zip_left xs ys all.1 z h in (w, inr there, p)

  pub zip_right : (xs : List X) (ys : List Y) → AllZip P xs ys → (y : Y) → Has ys y → (x : X) × Has xs x × P x y
  zip_right [] [] all y h = absurd h
  zip_right [] (y ∷ ys) all z h = absurd all
  zip_right (x ∷ xs) [] all z h = absurd all
  zip_right (x ∷ xs) (y ∷ ys) all z (inl e) = (x, inl refl, subst (λ w. P x w) (sym e) all.0)
  zip_right (x ∷ xs) (y ∷ ys) all z (inr h) = let (w, there, p) = zip_right xs ys all.1 z h in (w, inr there, p)

module _ (db : Trees) (heads : List StoredHead) (bodies : List StoredBody) (words : List StoredKeyword) (messages : List JoinedMessage) (read : AreRead db heads bodies words)
    (empty : db 4 ≡ []) (keyed : AreKeyed db) (fit : Fit heads bodies words) (joined : AreJoined heads bodies words messages) where
  -- the message of a head, and the head of a message
  message_for : (h : StoredHead) → Has heads h → (m : JoinedMessage) × Has messages m × IsMessageOf heads bodies words h m
  message_for h there = zip_left (IsMessageOf heads bodies words) joined.order messages joined.each h (has_permuted joined.order heads h (IsPermutation-sym heads joined.order joined.same) there)

  head_for : (m : JoinedMessage) → Has messages m → (h : StoredHead) × Has heads h × IsMessageOf heads bodies words h m
  head_for m there =
      let (h, has, is) = zip_right (IsMessageOf heads bodies words) joined.order messages joined.each m there in
      (h, has_permuted heads joined.order h joined.same has, is)

  module _ (h : StoredHead) (m : JoinedMessage) (there : Has heads h) (is : IsMessageOf heads bodies words h m) where
    key : head_key m.head ≡ head_key h
    key = ap head_key is.head

    body_row_is : row_of_body is.body ≡ body_of (whole_of m) is.body.rowid
    body_row_is =
        let same : ◌≡◌ {A = Key} (is.body.mailbox, is.body.uid) (m.head.mailbox, m.head.uid) = is.at ∙ sym key in
        (λ j. body_row (same j).0 (same j).1 (sym is.octets j) is.body.rowid)

    stands : Stands db (whole_of m)
    stands = record {
      head = subst (λ x. Has (db 16) (row_of_head x)) (sym is.head) (read.heads.complete h there);
      body = (is.body.rowid, subst (Has (db 18)) body_row_is (read.bodies.complete is.body is.there));
      are_words = is.own.are;
      words = λ w. (to w, from w);
    }
      where
        to : (w : List ℕ) → Has (map string_bytes m.words.items) w → (n : ℤ) × Has (db 20) (word_of (whole_of m) w n)
        to w k =
            let (v, has, e) = text_has (filter (is_at (head_key h)) words) w (has_permuted (texts (filter (is_at (head_key h)) words)) (map string_bytes m.words.items) w is.own.same k) in
            let f = has_filtered (is_at (head_key h)) words v has in
            let same : ◌≡◌ {A = Key} (v.mailbox, v.uid) (m.head.mailbox, m.head.uid) = at_same (head_key h) v f.1 ∙ sym key in
            let row : row_of_word v ≡ word_of (whole_of m) w v.rowid = (λ j. Int v.rowid ∷ Int ((same j).0) ∷ Int (pos ((same j).1)) ∷ Words (sym e j) ∷ []) in
            (v.rowid, subst (Has (db 20)) row (read.words.complete v f.0))

        from : (w : List ℕ) → ((n : ℤ) × Has (db 20) (word_of (whole_of m) w n)) → Has (map string_bytes m.words.items) w
        from w (n, has) =
            let (v, k, e) = read.words.sound (word_of (whole_of m) w n) has in
            let same = key_of v.mailbox m.head.mailbox v.uid m.head.uid (sym (ap (λ (r : Row). column r 1) e)) (sym (ap (λ (r : Row). column r 2) e)) in
            has_permuted (map string_bytes m.words.items) (texts (filter (is_at (head_key h)) words)) w (IsPermutation-sym _ _ is.own.same)
            (subst (Has (texts (filter (is_at (head_key h)) words))) (sym (same_text w (string_bytes v.word) (ap (λ (r : Row). column r 3) e)))
            (has_text (filter (is_at (head_key h)) words) v (has_kept (is_at (head_key h)) words v k (same_at (head_key h) v (same ∙ key)))))

    head_row_is : row_of_head h ≡ head_of (whole_of m)
    head_row_is = ap row_of_head (sym is.head)

  -- ---- the one table

  abbrev one : Trees
  one = with_rows (with_rows (with_rows (with_rows db 16 []) 18 []) 20 []) 4 (map row_of_message messages)

  others_are : (t : ℕ) → IsOther t → one t ≡ db t
  others_are t o =
      with_others (with_rows (with_rows (with_rows db 16 []) 18 []) 20 []) 4 (map row_of_message messages) t o.0
      ∙ with_others (with_rows (with_rows db 16 []) 18 []) 20 [] t o.3
      ∙ with_others (with_rows db 16 []) 18 [] t o.2
      ∙ with_others db 16 [] t o.1

  one_to : (row : Row) → Has (map row_of_message messages) row → IsOne db row
  one_to row k =
      let (m, has, e) = has_mapped row_of_message messages row k in
      let (h, there, is) = head_for m has in
      record { whole = whole_of m; stands = stands h m there is; shown = e }

  one_from : (row : Row) → IsOne db row → Has (map row_of_message messages) row
  one_from row o =
      let (h, there, e) = read.heads.sound (head_of o.whole) o.stands.head in
      let (m, has, is) = message_for h there in
      let s = stands h m there is in
      let head : head_of o.whole ≡ head_of (whole_of m) = e ∙ head_row_is h m there is in
      let body = keyed.bodies (body_of o.whole o.stands.body.0) (body_of (whole_of m) s.body.0) o.stands.body.1 s.body.1 (ap (λ (r : Row). column r 1) head, ap (λ (r : Row). column r 2) head) in
      let same = same_one o.whole (whole_of m) o.stands.body.0 s.body.0 head body
      (here_words db o.whole (whole_of m) o.stands s (same_id o.whole.mailbox m.head.mailbox (ap (λ (r : Row). column r 1) head)) (same_number o.whole.uid m.head.uid (ap (λ (r : Row). column r 2) head))) in
      subst (Has (map row_of_message messages)) (sym (o.shown ∙ same)) (mapped_has row_of_message messages m has)

  is_head : (row : Row) → Has (db 16) row → IsHead db row
  is_head row k =
      let (h, there, e) = read.heads.sound row k in
      let (m, has, is) = message_for h there in
      record { whole = whole_of m; stands = stands h m there is; shown = e ∙ head_row_is h m there is }

  is_body : (row : Row) → Has (db 18) row → IsBody db row
  is_body row k =
      let (b, at, e) = read.bodies.sound row k in
      let (h, there, f) = fit.has_head b at in
      let (m, has, is) = message_for h there in
      let s = stands h m there is in
      let same : ◌≡◌ {A = Key} (b.mailbox, b.uid) (m.head.mailbox, m.head.uid) = sym f ∙ sym (key h m there is) in
      record {
        whole = whole_of m;
        stands = s;
        id = s.body.0;
        shown = keyed.bodies row (body_of (whole_of m) s.body.0) k s.body.1
            (ap (λ (r : Row). column r 1) e ∙ ap (λ (x : Key). Int x.0) same, ap (λ (r : Row). column r 2) e ∙ ap (λ (x : Key). Int (pos x.1)) same);
      }

  is_word : (row : Row) → Has (db 20) row → IsWord db row
  is_word row k =
      let (w, at, e) = read.words.sound row k in
      let (h, there, f) = fit.has_owner w at in
      let (m, has, is) = message_for h there in
      let same : ◌≡◌ {A = Key} (w.mailbox, w.uid) (m.head.mailbox, m.head.uid) = sym f ∙ sym (key h m there is) in
      let shown : row_of_word w ≡ word_of (whole_of m) (string_bytes w.word) w.rowid = (λ j. Int w.rowid ∷ Int ((same j).0) ∷ Int (pos ((same j).1)) ∷ Words (string_bytes w.word) ∷ []) in
      record { whole = whole_of m; stands = stands h m there is; word = string_bytes w.word; id = w.rowid; shown = e ∙ shown }

  pub fits : (end : Trees) × IsSplit db end × (end 4 ≡ map row_of_message messages)
  fits = (
    one,
    record {
      empty = empty;
      blank = (refl, refl, refl);
      others = λ table listed o. others_are table.tree o;
      keyed = keyed;
      rows = λ row. (one_to row, one_from row);
      heads = is_head;
      bodies = is_body;
      words = is_word;
    },
    refl,
  )

pub read_fits : ReadFits
read_fits db heads bodies words messages read empty keyed fit joined = fits db heads bodies words messages read empty keyed fit joined
