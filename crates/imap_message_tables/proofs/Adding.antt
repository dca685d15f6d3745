-- A message is added.
use Rattle.std.proofs.Common.{◌≡◌, ◌⊎◌, inl, inr, ℕ, ℤ, false, List, [], ◌∷◌, Some, refl, sym, ap, subst, ◌∙◌}
use Rattle.sqlite.specs.Order.{Row, column}
use Rattle.sqlite.specs.Tree.{Trees, has_rowid}
use Rattle.sqlite_rules.specs.Lists.{Has}
use Rattle.sqlite_rules.proofs.ListLemmas.{has_either, has_left, has_right}
use Rattle.imap_tables.specs.Edits.{Adds, IsMessageOf}
use Rattle.imap_message_tables.specs.Laws.{AddedFits}
use Rattle.imap_message_tables.specs.Parts.{AddsOne}
use Rattle.imap_tables.specs.Rows.{body_row, message2_row}
use Rattle.imap_message_tables.specs.Split.{AreWords, IsSplit, Whole, body_of, head_of, one_of, word_of}
use Rattle.imap_message_tables.proofs.Changed.{IsAlike, IsHere, changed, is_kept, kept, kept_is, next, next_others}
use Rattle.imap_message_tables.proofs.Keys.{along, same_text}
use Rattle.imap_message_tables.proofs.Several.{IsPut, PutsAll, put_all}
use Rattle.imap_message_tables.proofs.Stays.{bodies_stay, heads_stay, message_stays, words_stay}

module _ (old new one a b : Trees) (i : ℤ) (u : ℕ) (date octets : List ℕ) (flags : ℕ) (words : List (List ℕ)) (place : ℤ) (are : AreWords words)
    (fresh : (row : Row) → Has (old 16) row → IsMessageOf i u row → ⊥) (split : IsSplit old one)
    (head : Adds old a 16 (message2_row i u date flags place)) (body : Adds a b 18 (body_row i u octets)) (puts : PutsAll i u words b new) where
  abbrev whole : Whole
  whole = record { mailbox = i; uid = u; date = date; octets = octets; flags = flags; words = words; place = place; rowid = head.id }

  old_body : (row : Row) → Has (old 18) row → IsMessageOf i u row → ⊥
  old_body row h at = let o = split.bodies row h in fresh (head_of o.whole) o.stands.head (subst (IsMessageOf i u) o.shown at)

  old_word : (row : Row) → Has (old 20) row → IsMessageOf i u row → ⊥
  old_word row h at = let o = split.words row h in fresh (head_of o.whole) o.stands.head (subst (IsMessageOf i u) o.shown at)

  old_one : (row : Row) → Has (one 4) row → IsMessageOf i u row → ⊥
  old_one row h at = let o = (split.rows row).0 h in fresh (head_of o.whole) o.stands.head (subst (IsMessageOf i u) o.shown at)

  heads_are : new 16 ≡ a 16
  heads_are = heads_stay b new 20 puts.others refl ∙ heads_stay a b 18 body.others refl

  bodies_are : new 18 ≡ b 18
  bodies_are = bodies_stay b new 20 puts.others refl

  words_were : b 20 ≡ old 20
  words_were = words_stay a b 18 body.others refl ∙ words_stay old a 16 head.others refl

  bodies_were : a 18 ≡ old 18
  bodies_were = bodies_stay old a 16 head.others refl

  head_from : (row : Row) → Has (new 16) row → (row ≡ message2_row i u date flags place head.id) ⊎ Has (old 16) row
  head_from row h = head.only row (along (new 16) (a 16) row heads_are h)

  body_from : (row : Row) → Has (new 18) row → (row ≡ body_row i u octets body.id) ⊎ Has (old 18) row
  body_from row h = by (body.only row (along (new 18) (b 18) row bodies_are h))
    where
      by : (row ≡ body_row i u octets body.id) ⊎ Has (a 18) row → (row ≡ body_row i u octets body.id) ⊎ Has (old 18) row
      by (inl e) = inl e
      by (inr k) = inr (along (a 18) (old 18) row bodies_were k)

  word_from : (row : Row) → Has (new 20) row → IsPut i u words row ⊎ Has (old 20) row
  word_from row h = by (puts.only row h)
    where
      by : Has (b 20) row ⊎ IsPut i u words row → IsPut i u words row ⊎ Has (old 20) row
      by (inl k) = inr (along (b 20) (old 20) row words_were k)
      by (inr p) = inl p

  alike : IsAlike i u old new
  alike = record {
    empty = message_stays b new 20 puts.others refl ∙ message_stays a b 18 body.others refl ∙ message_stays old a 16 head.others refl;
    others = λ table listed o. puts.others table listed o.3 ∙ body.others table listed o.2 ∙ head.others table listed o.1;
    heads = λ row off. (λ h. head_to row off (head_from row h), λ h. along (a 16) (new 16) row (sym heads_are) (head.kept row h));
    bodies = λ row off. (λ h. body_to row off (body_from row h), λ h. along (b 18) (new 18) row (sym bodies_are) (body.kept row (along (old 18) (a 18) row (sym bodies_were) h)));
    words = λ row off. (λ h. word_to row off (word_from row h), λ h. puts.kept row (along (old 20) (b 20) row (sym words_were) h));
  }
    where
      head_to : (row : Row) → (IsMessageOf i u row → ⊥) → (row ≡ message2_row i u date flags place head.id) ⊎ Has (old 16) row → Has (old 16) row
      head_to row off (inl e) = absurd (off (subst (IsMessageOf i u) (sym e) (refl, refl)))
      head_to row off (inr h) = h

      body_to : (row : Row) → (IsMessageOf i u row → ⊥) → (row ≡ body_row i u octets body.id) ⊎ Has (old 18) row → Has (old 18) row
      body_to row off (inl e) = absurd (off (subst (IsMessageOf i u) (sym e) (refl, refl)))
      body_to row off (inr h) = h

      word_to : (row : Row) → (IsMessageOf i u row → ⊥) → IsPut i u words row ⊎ Has (old 20) row → Has (old 20) row
      word_to row off (inl (w, n, h, e)) = absurd (off (subst (IsMessageOf i u) (sym e) (refl, refl)))
      word_to row off (inr h) = h

  here : IsHere new i u whole
  here = record {
    stands = record {
      head = along (a 16) (new 16) (head_of whole) (sym heads_are) head.added;
      body = (body.id, along (b 18) (new 18) (body_of whole body.id) (sym bodies_are) body.added);
      are_words = are;
      words = λ w. (puts.put w, word_there w);
    };
    mailbox = refl;
    uid = refl;
    heads = λ row at h. head_is row at (head_from row h);
    id = body.id;
    bodies = λ row at h. body_is row at (body_from row h);
    words = λ row at h. word_is row at (word_from row h);
    apart = puts.apart;
  }
    where
      word_there : (w : List ℕ) → ((n : ℤ) × Has (new 20) (word_of whole w n)) → Has words w
      word_there w (n, h) = by (word_from (word_of whole w n) h)
        where
          by : IsPut i u words (word_of whole w n) ⊎ Has (old 20) (word_of whole w n) → Has words w
          by (inl (v, k, there, e)) = subst (Has words) (sym (same_text w v (ap (λ (r : Row). column r 3) e))) there
          by (inr was) = absurd (old_word (word_of whole w n) was (refl, refl))

      head_is : (row : Row) → IsMessageOf i u row → (row ≡ message2_row i u date flags place head.id) ⊎ Has (old 16) row → row ≡ head_of whole
      head_is row at (inl e) = e
      head_is row at (inr h) = absurd (fresh row h at)

      body_is : (row : Row) → IsMessageOf i u row → (row ≡ body_row i u octets body.id) ⊎ Has (old 18) row → row ≡ body_of whole body.id
      body_is row at (inl e) = e
      body_is row at (inr h) = absurd (old_body row h at)

      word_is : (row : Row) → IsMessageOf i u row → IsPut i u words row ⊎ Has (old 20) row → (w : List ℕ) × (n : ℤ) × (row ≡ word_of whole w n)
      word_is row at (inl (w, n, h, e)) = (w, n, e)
      word_is row at (inr h) = absurd (old_word row h at)

  abbrev after : Trees
  after = next old new one i u split alike (Some whole) here

  abbrev stay : List Row
  stay = kept old new one i u split alike

  pub fits : (end : Trees) × IsSplit new end × AddsOne i u date octets flags words place one end
  fits = (
    after,
    changed old new one i u split alike (Some whole) here,
    record {
      id = head.id;
      free = λ row h. let o = (split.rows row).0 h in subst (λ (r : Row). has_rowid head.id r ≡ false) (sym o.shown) (head.free (head_of o.whole) o.stands.head);
      added = has_right stay (one_of whole ∷ []) (one_of whole) (inl refl);
      kept = λ row h. has_left stay (one_of whole ∷ []) row (is_kept old new one i u split alike row h (old_one row h));
      only = λ row h. only row (has_either stay (one_of whole ∷ []) row h);
      others = next_others old new one i u split alike (Some whole) here;
    },
  )
    where
      only : (row : Row) → Has stay row ⊎ Has (one_of whole ∷ []) row → (row ≡ one_of whole) ⊎ Has (one 4) row
      only row (inl k) = inr (kept_is old new one i u split alike row k).0
      only row (inr (inl e)) = inl e
      only row (inr (inr none)) = absurd none

pub added_fits : AddedFits
added_fits old new one i u date octets flags words place are fresh split (a, head, (b, body, rest)) =
    fits old new one a b i u date octets flags words place are fresh split head body
    (put_all i u words b new rest are.rising (λ row w at h there is. none row h at) (λ x y at bt h k e. absurd (none x h at)))
  where
    none : (row : Row) → Has (b 20) row → IsMessageOf i u row → ⊥
    none row h at =
        let o = split.words row (along (b 20) (old 20) row (words_stay a b 18 body.others refl ∙ words_stay old a 16 head.others refl) h) in
        fresh (head_of o.whole) o.stands.head (subst (IsMessageOf i u) o.shown at)
