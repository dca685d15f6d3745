-- A message gets flags, and one goes.
use Rattle.std.proofs.Common.{◌≡◌, ◌⊎◌, inl, inr, ℕ, ℤ, pos, List, [], ◌∷◌, map, Some, None, refl, sym, ap, subst, ◌∙◌}
use Rattle.sqlite.specs.declared.types.Value.TheVariants.{Int, Text as Words}
use Rattle.sqlite.specs.Order.{Row, column}
use Rattle.sqlite.specs.Tree.{Trees}
use Rattle.sqlite_rules.specs.Lists.{Has}
use Rattle.sqlite_rules.proofs.ListLemmas.{has_either, has_left, has_right}
use Rattle.imap_tables.specs.Edits.{IsMessageOf, Removes, Replaces, flagged_row}
use Rattle.imap_message_tables.specs.Laws.{FlaggedFits, RemovedFits}
use Rattle.imap_message_tables.specs.Parts.{CutWord, FlagsOne, PutWord, RemovesOne, words_but}
use Rattle.imap_tables.specs.Edits.{flagged_head}
use Rattle.imap_message_tables.specs.Split.{AreWords, IsSplit, IsWord, Stands, Whole, body_of, head_of, one_of, word_of, words_text}
use Rattle.imap_message_tables.proofs.Changed.{IsAlike, IsHere, changed, here_words, is_kept, kept, kept_is, next, next_others, same_one}
use Rattle.imap_message_tables.proofs.Keys.{along, of_one, same_id, same_number, same_text}
use Rattle.imap_message_tables.proofs.Several.{AreNew, CutsAll, IsPut, PutsAll, cut_all, parts_split, put_all}
use Rattle.imap_message_tables.proofs.Stays.{bodies_stay, heads_stay, message_stays, words_stay}
use Rattle.imap_message_tables.proofs.Words.{among_or, but_has, has_but, rising_some}

module _ (db one : Trees) (split : IsSplit db one) (m : Whole) (s : Stands db m) where
  -- a keyword row at its key is one of its words
  pub word_at : (row : Row) → Has (db 20) row → IsMessageOf m.mailbox m.uid row → (w : List ℕ) × (n : ℤ) × Has m.words w × (row ≡ word_of m w n)
  word_at row h at =
      let o = split.words row h in
      let same : row ≡ word_of m o.word o.id = o.shown ∙ (λ j. Int o.id ∷ moved o j ∷ moved_uid o j ∷ Words o.word ∷ []) in
      (o.word, o.id, (s.words o.word).1 (o.id, subst (Has (db 20)) same h), same)
    where
      moved : (o : IsWord db row) → Int o.whole.mailbox ≡ Int m.mailbox
      moved o = sym (ap (λ (r : Row). column r 1) o.shown) ∙ at.0

      moved_uid : (o : IsWord db row) → Int (pos o.whole.uid) ≡ Int (pos m.uid)
      moved_uid o = sym (ap (λ (r : Row). column r 2) o.shown) ∙ at.1

  pub head_at : (row : Row) → Has (db 16) row → IsMessageOf m.mailbox m.uid row → row ≡ head_of m
  head_at row h at = split.keyed.heads row (head_of m) h s.head (of_one m.mailbox m.uid row (head_of m) at (refl, refl))

  pub body_at : (row : Row) → Has (db 18) row → IsMessageOf m.mailbox m.uid row → row ≡ body_of m s.body.0
  body_at row h at = split.keyed.bodies row (body_of m s.body.0) h s.body.1 (of_one m.mailbox m.uid row (body_of m s.body.0) at (refl, refl))

  pub one_at : (row : Row) → Has (one 4) row → IsMessageOf m.mailbox m.uid row → row ≡ one_of m
  one_at row h at =
      let o = (split.rows row).0 h in
      let there : IsMessageOf m.mailbox m.uid (head_of o.whole) = subst (IsMessageOf m.mailbox m.uid) o.shown at in
      o.shown ∙ same_one o.whole m o.stands.body.0 s.body.0 (head_at (head_of o.whole) o.stands.head there) (body_at (body_of o.whole o.stands.body.0) o.stands.body.1 there)
      (here_words db o.whole m o.stands s (same_id o.whole.mailbox m.mailbox there.0) (same_number o.whole.uid m.uid there.1))

module _ (old new one a b : Trees) (m : Whole) (flags : ℕ) (words : List (List ℕ)) (place : ℤ) (are : AreWords words) (s : Stands old m) (split : IsSplit old one)
    (flagged : Replaces old a 16 (IsMessageOf m.mailbox m.uid) (flagged_head flags place))
    (cuts : CutsAll m.mailbox m.uid (words_but m.words words) a b) (puts : PutsAll m.mailbox m.uid (words_but words m.words) b new) where
  abbrev whole : Whole
  whole = record m { flags = flags; words = words; place = place }

  heads_are : new 16 ≡ a 16
  heads_are = heads_stay b new 20 puts.others refl ∙ heads_stay a b 20 cuts.others refl

  bodies_are : new 18 ≡ old 18
  bodies_are = bodies_stay b new 20 puts.others refl ∙ bodies_stay a b 20 cuts.others refl ∙ bodies_stay old a 16 flagged.others refl

  words_were : a 20 ≡ old 20
  words_were = words_stay old a 16 flagged.others refl

  head_from : (row : Row) → Has (new 16) row → (Has (old 16) row × ¬ IsMessageOf m.mailbox m.uid row) ⊎ ((was : Row) × Has (old 16) was × IsMessageOf m.mailbox m.uid was × (row ≡ flagged_head flags place was))
  head_from row h = flagged.only row (along (new 16) (a 16) row heads_are h)

  -- a word row was there and stays, or is new
  word_from : (row : Row) → Has (new 20) row → (Has (old 20) row × ((w : List ℕ) → Has (words_but m.words words) w → (IsMessageOf m.mailbox m.uid row × (column row 3 ≡ Words w)) → ⊥)) ⊎ IsPut m.mailbox m.uid (words_but words m.words) row
  word_from row h = by (puts.only row h)
    where
      by : Has (b 20) row ⊎ IsPut m.mailbox m.uid (words_but words m.words) row
          → (Has (old 20) row × ((w : List ℕ) → Has (words_but m.words words) w → (IsMessageOf m.mailbox m.uid row × (column row 3 ≡ Words w)) → ⊥)) ⊎ IsPut m.mailbox m.uid (words_but words m.words) row
      by (inl k) = let c = (cuts.left row).0 k in inl (along (a 20) (old 20) row words_were c.0, c.1)
      by (inr p) = inr p

  word_stays : (row : Row) → Has (old 20) row → ((w : List ℕ) → Has (words_but m.words words) w → (IsMessageOf m.mailbox m.uid row × (column row 3 ≡ Words w)) → ⊥) → Has (new 20) row
  word_stays row h stays = puts.kept row ((cuts.left row).1 (along (old 20) (a 20) row (sym words_were) h, stays))

  alike : IsAlike m.mailbox m.uid old new
  alike = record {
    empty = message_stays b new 20 puts.others refl ∙ message_stays a b 20 cuts.others refl ∙ message_stays old a 16 flagged.others refl;
    others = λ table listed o. puts.others table listed o.3 ∙ cuts.others table listed o.3 ∙ flagged.others table listed o.1;
    heads = λ row off. (λ h. head_to row off (head_from row h), λ h. along (a 16) (new 16) row (sym heads_are) (flagged.kept row h off));
    bodies = λ row off. (λ h. along (new 18) (old 18) row bodies_are h, λ h. along (old 18) (new 18) row (sym bodies_are) h);
    words = λ row off. (λ h. word_to row off (word_from row h), λ h. word_stays row h (λ w k it. off it.0));
  }
    where
      head_to : (row : Row) → (IsMessageOf m.mailbox m.uid row → ⊥) → (Has (old 16) row × ¬ IsMessageOf m.mailbox m.uid row) ⊎ ((was : Row) × Has (old 16) was × IsMessageOf m.mailbox m.uid was × (row ≡ flagged_head flags place was)) → Has (old 16) row
      head_to row off (inl h) = h.0
      head_to row off (inr (was, h, at, e)) = absurd (off (subst (IsMessageOf m.mailbox m.uid) (sym e) at))

      word_to : (row : Row) → (IsMessageOf m.mailbox m.uid row → ⊥) → (Has (old 20) row × ((w : List ℕ) → Has (words_but m.words words) w → (IsMessageOf m.mailbox m.uid row × (column row 3 ≡ Words w)) → ⊥)) ⊎ IsPut m.mailbox m.uid (words_but words m.words) row → Has (old 20) row
      word_to row off (inl h) = h.0
      word_to row off (inr (w, n, h, e)) = absurd (off (subst (IsMessageOf m.mailbox m.uid) (sym e) (refl, refl)))

  here : IsHere new m.mailbox m.uid whole
  here = record {
    stands = record {
      head = along (a 16) (new 16) (head_of whole) (sym heads_are) (flagged.replaced (head_of m) s.head (refl, refl));
      body = (s.body.0, along (old 18) (new 18) (body_of m s.body.0) (sym bodies_are) s.body.1);
      are_words = are;
      words = λ w. (word_to w, λ h. word_back w h.0 (word_from (word_of whole w h.0) h.1));
    };
    mailbox = refl;
    uid = refl;
    heads = λ row at h. head_is row at (head_from row h);
    id = s.body.0;
    bodies = λ row at h. body_at old one split m s row (along (new 18) (old 18) row bodies_are h) at;
    words = λ row at h. word_is row at (word_from row h);
    apart = puts.apart;
  }
    where
      word_to : (w : List ℕ) → Has words w → (n : ℤ) × Has (new 20) (word_of whole w n)
      word_to w h = by (among_or m.words w)
        where
          by : Has m.words w ⊎ (Has m.words w → ⊥) → (n : ℤ) × Has (new 20) (word_of whole w n)
          by (inl was) =
              let (n, there) = (s.words w).0 was in
              (n, word_stays (word_of m w n) there (λ v cut it. (has_but m.words words v cut).1 (subst (Has words) (same_text w v it.1) h)))
          by (inr off) = puts.put w (but_has words m.words w h off)

      word_back : (w : List ℕ) (n : ℤ) → (Has (old 20) (word_of whole w n) × ((v : List ℕ) → Has (words_but m.words words) v → (IsMessageOf m.mailbox m.uid (word_of whole w n) × (column (word_of whole w n) 3 ≡ Words v)) → ⊥)) ⊎ IsPut m.mailbox m.uid (words_but words m.words) (word_of whole w n) → Has words w
      word_back w n (inr (v, k, h, e)) = subst (Has words) (sym (same_text w v (ap (λ (r : Row). column r 3) e))) (has_but words m.words v h).0
      word_back w n (inl (h, stays)) = by (among_or words w)
        where
          by : Has words w ⊎ (Has words w → ⊥) → Has words w
          by (inl there) = there
          by (inr off) = absurd (stays w (but_has m.words words w ((s.words w).1 (n, h)) off) ((refl, refl), refl))

      head_is : (row : Row) → IsMessageOf m.mailbox m.uid row → (Has (old 16) row × ¬ IsMessageOf m.mailbox m.uid row) ⊎ ((was : Row) × Has (old 16) was × IsMessageOf m.mailbox m.uid was × (row ≡ flagged_head flags place was)) → row ≡ head_of whole
      head_is row at (inl h) = absurd (h.1 at)
      head_is row at (inr (was, h, there, e)) = e ∙ ap (flagged_head flags place) (head_at old one split m s was h there)

      word_is : (row : Row) → IsMessageOf m.mailbox m.uid row → (Has (old 20) row × ((w : List ℕ) → Has (words_but m.words words) w → (IsMessageOf m.mailbox m.uid row × (column row 3 ≡ Words w)) → ⊥)) ⊎ IsPut m.mailbox m.uid (words_but words m.words) row → (w : List ℕ) × (n : ℤ) × (row ≡ word_of whole w n)
      word_is row at (inl h) = let (w, n, there, e) = word_at old one split m s row h.0 at in (w, n, e)
      word_is row at (inr (w, n, h, e)) = (w, n, e)

  abbrev stay : List Row
  stay = kept old new one m.mailbox m.uid split alike

  pub fits : (end : Trees) × IsSplit new end × FlagsOne m.mailbox m.uid flags words place one end
  fits = (
    next old new one m.mailbox m.uid split alike (Some whole) here,
    changed old new one m.mailbox m.uid split alike (Some whole) here,
    record {
      replaced = λ row h at. has_right stay (one_of whole ∷ []) (flagged_row flags (words_text words) place row) (inl (ap (flagged_row flags (words_text words) place) (one_at old one split m s row h at)));
      kept = λ row h off. has_left stay (one_of whole ∷ []) row (is_kept old new one m.mailbox m.uid split alike row h off);
      only = λ row h. only row (has_either stay (one_of whole ∷ []) row h);
      others = next_others old new one m.mailbox m.uid split alike (Some whole) here;
    },
  )
    where
      only : (row : Row) → Has stay row ⊎ Has (one_of whole ∷ []) row → (Has (one 4) row × ¬ IsMessageOf m.mailbox m.uid row) ⊎ ((was : Row) × Has (one 4) was × IsMessageOf m.mailbox m.uid was × (row ≡ flagged_row flags (words_text words) place was))
      only row (inl k) = inl (kept_is old new one m.mailbox m.uid split alike row k)
      only row (inr (inl e)) = inr (one_of m, (split.rows (one_of m)).1 (record { whole = m; stands = s; shown = refl }), (refl, refl), e)
      only row (inr (inr none)) = absurd none

pub flagged_fits : FlaggedFits
flagged_fits old new one m flags words place are s split (a, flagged, rest) =
    let (b, cut, put) = parts_split m.mailbox m.uid (map CutWord (words_but m.words words)) (map PutWord (words_but words m.words)) a new rest in
    let cuts = cut_all m.mailbox m.uid (words_but m.words words) a b cut in
    fits old new one a b m flags words place are s split flagged cuts
    (put_all m.mailbox m.uid (words_but words m.words) b new put (rising_some _ words are.rising) (fresh a b flagged cuts)
    (λ x y at bt h k e. split.keyed.words x y (was a b flagged cuts x h) (was a b flagged cuts y k) (of_one m.mailbox m.uid x y at bt) e))
  where
    was : (a b : Trees) → Replaces old a 16 (IsMessageOf m.mailbox m.uid) (flagged_head flags place) → CutsAll m.mailbox m.uid (words_but m.words words) a b → (row : Row) → Has (b 20) row → Has (old 20) row
    was a b flagged cuts row h = along (a 20) (old 20) row (words_stay old a 16 flagged.others refl) ((cuts.left row).0 h).0

    fresh : (a b : Trees) → Replaces old a 16 (IsMessageOf m.mailbox m.uid) (flagged_head flags place) → CutsAll m.mailbox m.uid (words_but m.words words) a b → AreNew m.mailbox m.uid (words_but words m.words) b
    fresh a b flagged cuts row w at h there is =
        let (v, n, known, e) = word_at old one split m s row (was a b flagged cuts row h) at in
        (has_but words m.words w there).1 (subst (Has m.words) (same_text v w (sym (ap (λ (r : Row). column r 3) e) ∙ is)) known)

-- ---- a message goes

module _ (old a b new one : Trees) (i : ℤ) (u : ℕ) (split : IsSplit old one)
    (head : Removes old a 16 (IsMessageOf i u)) (body : Removes a b 18 (IsMessageOf i u)) (words : Removes b new 20 (IsMessageOf i u)) where
  gone_heads : new 16 ≡ a 16
  gone_heads = heads_stay b new 20 words.others refl ∙ heads_stay a b 18 body.others refl

  gone_bodies : new 18 ≡ b 18
  gone_bodies = bodies_stay b new 20 words.others refl

  were_bodies : a 18 ≡ old 18
  were_bodies = bodies_stay old a 16 head.others refl

  were_words : b 20 ≡ old 20
  were_words = words_stay a b 18 body.others refl ∙ words_stay old a 16 head.others refl

  away : IsAlike i u old new
  away = record {
    empty = message_stays b new 20 words.others refl ∙ message_stays a b 18 body.others refl ∙ message_stays old a 16 head.others refl;
    others = λ table listed o. words.others table listed o.3 ∙ body.others table listed o.2 ∙ head.others table listed o.1;
    heads = λ row off. (λ h. ((head.left row).0 (along (new 16) (a 16) row gone_heads h)).0, λ h. along (a 16) (new 16) row (sym gone_heads) ((head.left row).1 (h, off)));
    bodies = λ row off. (
      λ h. along (a 18) (old 18) row were_bodies ((body.left row).0 (along (new 18) (b 18) row gone_bodies h)).0,
      λ h. along (b 18) (new 18) row (sym gone_bodies) ((body.left row).1 (along (old 18) (a 18) row (sym were_bodies) h, off)),
    );
    words = λ row off. (λ h. along (b 20) (old 20) row were_words ((words.left row).0 h).0, λ h. (words.left row).1 (along (old 20) (b 20) row (sym were_words) h, off));
  }

  nothing : (row : Row) → IsMessageOf i u row → (Has (new 16) row → ⊥) × (Has (new 18) row → ⊥) × (Has (new 20) row → ⊥)
  nothing row at = (
    λ h. ((head.left row).0 (along (new 16) (a 16) row gone_heads h)).1 at,
    λ h. ((body.left row).0 (along (new 18) (b 18) row gone_bodies h)).1 at,
    λ h. ((words.left row).0 h).1 at,
  )

  abbrev rest : List Row
  rest = kept old new one i u split away

  pub goes : (end : Trees) × IsSplit new end × RemovesOne i u one end
  goes = (
    next old new one i u split away None nothing,
    changed old new one i u split away None nothing,
    record {
      left = λ row. (λ h. to row (has_either rest [] row h), λ h. has_left rest [] row (is_kept old new one i u split away row h.0 h.1));
      others = next_others old new one i u split away None nothing;
    },
  )
    where
      to : (row : Row) → Has rest row ⊎ Has {X = Row} [] row → Has (one 4) row × ¬ IsMessageOf i u row
      to row (inl k) = kept_is old new one i u split away row k
      to row (inr none) = absurd none

pub removed_fits : RemovedFits
removed_fits old new one i u split (a, head, (b, body, (c, words, end))) = goes old a b new one i u split head body (subst (λ (d : Trees). Removes b d 20 (IsMessageOf i u)) (sym end) words)
