-- Rows of the three tables can be read.
use Rattle.std.proofs.Common.{◌≡◌, inl, inr, ℕ, List, [], ◌∷◌, refl, sym, ap, subst}
use Rattle.std.specs.Prelude.{IsUtf8}
use Rattle.sqlite.specs.Order.{Row, column}
use Rattle.sqlite.specs.Tree.{Trees}
use Rattle.sqlite_rules.specs.Lists.{Has}
use Rattle.imap_message_tables.specs.Laws.{SplitShows}
use Rattle.imap_message_tables.specs.Split.{IsSplit, Stands, Whole, one_of, words_text}
use Rattle.imap_message_tables.proofs.Keys.{same_number, same_text}
use Rattle.imap_message_tables.proofs.Pieces.{utf8_after, utf8_before}
use Rattle.imap_message_tables.proofs.Places.{ne}
use Rattle.imap_tables.specs.Contents.{AllAddedShow, AllShow}
use Rattle.imap_tables.specs.Reading.{shown_at}
use Rattle.imap_tables.specs.Stored.{IsShort, ShowsBody, ShowsEntry, ShowsEpoch, ShowsGone, ShowsHead, ShowsKeyword, ShowsMailbox, ShowsMark, ShowsMessage, ShowsMeta, ShowsSubscription}
use Rattle.imap_tables.specs.Tables.{acl_table, epoch_table, gone_table, mailbox_table, mark_table, meta_table, sub_table}

-- a word of a text that is UTF-8
word_utf8 : (ws : List (List ℕ)) (w : List ℕ) → IsUtf8 (words_text ws) → Has ws w → IsUtf8 w
word_utf8 [] w utf8 h = absurd h
word_utf8 (v ∷ []) w utf8 (inl e) = subst IsUtf8 (sym e) utf8
word_utf8 (v ∷ []) w utf8 (inr none) = absurd none
word_utf8 (v ∷ u ∷ ws) w utf8 (inl e) = subst IsUtf8 (sym e) (utf8_before v (words_text (u ∷ ws)) utf8)
word_utf8 (v ∷ u ∷ ws) w utf8 (inr h) = word_utf8 (u ∷ ws) w (utf8_after v (words_text (u ∷ ws)) utf8) h

module _ (db one : Trees) (split : IsSplit db one) (show : AllShow one) where
  -- what is said of a message whose row can be read
  record IsReadable (m : Whole) : Type 0 where
    date : IsUtf8 m.date
    words : IsUtf8 (words_text m.words)
    uid : IsShort m.uid
    flags : IsShort m.flags

  readable : (m : Whole) → Stands db m → IsReadable m
  readable m s =
      let row = one_of m in
      let r : ShowsMessage (shown_at 2 row) = show.messages row ((split.rows row).1 (record { whole = m; stands = s; shown = refl })) in
      record {
        date = subst IsUtf8 (sym (same_text m.date r.date (ap (λ (v : Row). column v 3) r.shown))) r.texts.0;
        words = subst IsUtf8 (sym (same_text (words_text m.words) r.keywords (ap (λ (v : Row). column v 6) r.shown))) r.texts.1;
        uid = subst IsShort (sym (same_number m.uid r.uid (ap (λ (v : Row). column v 2) r.shown))) r.short.0;
        flags = subst IsShort (sym (same_number m.flags r.flags (ap (λ (v : Row). column v 5) r.shown))) r.short.1;
      }

  head_shows : (row : Row) → Has (db 16) row → ShowsHead (shown_at 8 row)
  head_shows row h =
      let o = split.heads row h in
      let m = o.whole in
      let r = readable m o.stands in
      subst (λ (v : Row). ShowsHead (shown_at 8 v)) (sym o.shown)
      (record { rowid = m.rowid; mailbox = m.mailbox; uid = m.uid; date = m.date; flags = m.flags; place = m.place; texts = r.date; short = (r.uid, r.flags); shown = refl })

  body_shows : (row : Row) → Has (db 18) row → ShowsBody (shown_at 9 row)
  body_shows row h =
      let o = split.bodies row h in
      let m = o.whole in
      let r = readable m o.stands in
      subst (λ (v : Row). ShowsBody (shown_at 9 v)) (sym o.shown) (record { rowid = o.id; mailbox = m.mailbox; uid = m.uid; octets = m.octets; short = r.uid; shown = refl })

  word_shows : (row : Row) → Has (db 20) row → ShowsKeyword (shown_at 10 row)
  word_shows row h =
      let o = split.words row h in
      let m = o.whole in
      let r = readable m o.stands in
      let there : Has m.words o.word = (o.stands.words o.word).1 (o.id, subst (Has (db 20)) o.shown h) in
      subst (λ (v : Row). ShowsKeyword (shown_at 10 v)) (sym o.shown)
      (record { rowid = o.id; mailbox = m.mailbox; uid = m.uid; word = o.word; texts = word_utf8 m.words o.word r.words there; short = r.uid; shown = refl })

  as_before : (Shows : Row → Type 0) (at tree : ℕ) → one tree ≡ db tree → ((row : Row) → Has (one tree) row → Shows (shown_at at row)) → (row : Row) → Has (db tree) row → Shows (shown_at at row)
  as_before Shows at tree same all row h = all row (subst (λ (l : List Row). Has l row) (sym same) h)

  others_show : AllShow db
  others_show = record {
    mailboxes = as_before ShowsMailbox 0 0 (split.others mailbox_table (inl refl) (ne 0 4 refl, ne 0 16 refl, ne 0 18 refl, ne 0 20 refl)) show.mailboxes;
    entries = as_before ShowsEntry 1 2 (split.others acl_table (inr (inl refl)) (ne 2 4 refl, ne 2 16 refl, ne 2 18 refl, ne 2 20 refl)) show.entries;
    messages = λ row h. absurd (subst (λ (l : List Row). Has l row) split.empty h);
    gone = as_before ShowsGone 3 6 (split.others gone_table (inr (inr (inr (inl refl)))) (ne 6 4 refl, ne 6 16 refl, ne 6 18 refl, ne 6 20 refl)) show.gone;
    marks = as_before ShowsMark 4 8 (split.others mark_table (inr (inr (inr (inr (inl refl))))) (ne 8 4 refl, ne 8 16 refl, ne 8 18 refl, ne 8 20 refl)) show.marks;
    epochs = as_before ShowsEpoch 5 10 (split.others epoch_table (inr (inr (inr (inr (inr (inl refl)))))) (ne 10 4 refl, ne 10 16 refl, ne 10 18 refl, ne 10 20 refl)) show.epochs;
    subscriptions = as_before ShowsSubscription 6 12 (split.others sub_table (inr (inr (inr (inr (inr (inr (inl refl))))))) (ne 12 4 refl, ne 12 16 refl, ne 12 18 refl, ne 12 20 refl)) show.subscriptions;
    meta = as_before ShowsMeta 7 14 (split.others meta_table (inr (inr (inr (inr (inr (inr (inr (inl refl)))))))) (ne 14 4 refl, ne 14 16 refl, ne 14 18 refl, ne 14 20 refl)) show.meta;
  }

  pub shows : AllShow db × AllAddedShow db
  shows = (others_show, record { heads = head_shows; bodies = body_shows; keywords = word_shows })

pub split_shows : SplitShows
split_shows db one split show = shows db one split show
