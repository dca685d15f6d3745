-- After a change of rows each row of `meta` is still a text and a number.
use Rattle.std.proofs.Common.{◌≡◌, ◌≢◌, ◌⊎◌, inl, inr, ℕ, ℤ, pos, List, [], ◌∷◌, codes, refl, sym, ap, subst, ◌∙◌, arith}
use Rattle.sqlite.specs.declared.types.Value.TheVariants.{Int}
use Rattle.sqlite.specs.Order.{Row, column}
use Rattle.sqlite.specs.Tree.{Trees}
use Rattle.sqlite_rules.specs.Lists.{Has}
use Rattle.imap_tables.specs.Changes.{AllowsGaps, Makes, MakesAll, MakesAllBelow, MakesBelow}
use Rattle.imap_tables.specs.Edits.{IsMetaOf, KeepsOthers, valued_row}
use Rattle.imap_tables.specs.Reading.{shown_at}
use Rattle.imap_tables.specs.Steps.{gaps_version}
use Rattle.imap_tables.specs.Stored.{ShowsMeta}
use Rattle.imap_tables.specs.Tables.{meta_table}
use Rattle.imap_tables.specs.declared.changes.ChangeBelow.{ChangeBelow}
use Rattle.imap_tables.specs.declared.changes.ChangeBelow.TheVariants as below
use Rattle.imap_tables.specs.declared.changes.RowChange.{RowChange}
use Rattle.imap_tables.specs.declared.changes.RowChange.TheVariants as change
use Rattle.imap_restore.specs.Holding.{MetaShows}

stays : (old new : Trees) (tree : ℕ) → KeepsOthers old new tree → 14 ≢ tree → new 14 ≡ old 14
stays old new tree others apart = others meta_table (inr (inr (inr (inr (inr (inr (inr (inl refl)))))))) apart

below_stays : (mailbox : ℤ) (c : ChangeBelow) (old new : Trees) → MakesBelow mailbox c old new → new 14 ≡ old 14
below_stays mailbox below.RemoveAcl old new h = stays old new 2 h.others (λ e. omega (arith, e))
below_stays mailbox (below.AddEntry identifier rights) old new h = stays old new 2 h.others (λ e. omega (arith, e))
below_stays mailbox (below.AddMessage m) old new h = stays old new 4 h.others (λ e. omega (arith, e))
below_stays mailbox (below.FlagMessage m) old new h = stays old new 4 h.others (λ e. omega (arith, e))
below_stays mailbox (below.RemoveMessage uid) old new h = stays old new 4 h.others (λ e. omega (arith, e))
below_stays mailbox (below.AddGone uid place) old new h = stays old new 6 h.others (λ e. omega (arith, e))
below_stays mailbox (below.AddMark m) old new h = stays old new 8 h.others (λ e. omega (arith, e))
below_stays mailbox (below.RemoveMark user own) old new h = stays old new 8 h.others (λ e. omega (arith, e))
below_stays mailbox (below.Count uidnext shared) old new h = stays old new 0 h.others (λ e. omega (arith, e))

all_below_stay : (mailbox : ℤ) (cs : List ChangeBelow) (old new : Trees) → MakesAllBelow mailbox cs old new → new 14 ≡ old 14
all_below_stay mailbox [] old new h = λ i. h i 14
all_below_stay mailbox (c ∷ cs) old new h = all_below_stay mailbox cs h.0 new h.2 ∙ below_stays mailbox c old h.0 h.1

below_show : (mailbox : ℤ) (cs : List ChangeBelow) (old new : Trees) → MakesAllBelow mailbox cs old new → MetaShows old → MetaShows new
below_show mailbox cs old new h shows row there = shows row (subst (λ l. Has l row) (all_below_stay mailbox cs old new h) there)

-- the version is set
gaps_show : (old new : Trees) → AllowsGaps old new → MetaShows old → MetaShows new
gaps_show old new sets shows row there = by (sets.only row there)
  where
    by : (Has (old 14) row × ¬ IsMetaOf (codes "version") row) ⊎ ((was : Row) × Has (old 14) was × IsMetaOf (codes "version") was × (row ≡ valued_row gaps_version was)) → ShowsMeta (shown_at 7 row)
    by (inl (was, other)) = shows row was
    by (inr (was, had, version, e)) =
        let it = shows was had in
        subst (λ (r : Row). ShowsMeta (shown_at 7 r)) (sym e) (record {
          rowid = it.rowid;
          key = it.key;
          value = gaps_version;
          texts = it.texts;
          short = omega (arith);
          shown = ap (λ (r : Row). column r 0 ∷ column r 1 ∷ Int (pos gaps_version) ∷ []) it.shown;
        })

-- the table stays
same_show : (old new : Trees) → new 14 ≡ old 14 → MetaShows old → MetaShows new
same_show old new same shows row there = shows row (subst (λ l. Has l row) same there)

one_shows : (c : RowChange) (old new : Trees) → Makes c old new → MetaShows old → MetaShows new
one_shows (change.AddMailbox key validity) old new h = same_show old new (stays old new 0 h.others (λ e. omega (arith, e)))
one_shows (change.MoveMailbox key to validity) old new h = same_show old new (stays old new 0 h.others (λ e. omega (arith, e)))
one_shows (change.RemoveMailbox key) old new h = same_show old new h.meta
one_shows (change.PutEpoch key greatest) old new h = same_show old new (stays h.0 new 10 h.2.others (λ e. omega (arith, e)) ∙ stays old h.0 10 h.1.others (λ e. omega (arith, e)))
one_shows (change.PutSubscription user key) old new h = same_show old new (stays h.0 new 12 h.2.others (λ e. omega (arith, e)) ∙ stays old h.0 12 h.1.others (λ e. omega (arith, e)))
one_shows (change.RemoveSubscription user key) old new h = same_show old new (stays old new 12 h.others (λ e. omega (arith, e)))
one_shows (change.Below key changes) old new h = below_show h.0 changes.items old new h.2
one_shows change.AllowGaps old new h = gaps_show old new h

pub still_shows : (cs : List RowChange) (old new : Trees) → MakesAll cs old new → MetaShows old → MetaShows new
still_shows [] old new h shows = same_show old new (λ i. h i 14) shows
still_shows (c ∷ cs) old new h shows = still_shows cs h.0 new h.2 (one_shows c old h.0 h.1 shows)
