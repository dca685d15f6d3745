-- What is kept of one user's own changes, after one more.
use Rattle.std.proofs.Common.{◌≡◌, ⊎_elim, ℕ, ◌+◌, ◌-◌, ◌<◌, ◌≤◌, eqb, ltb, Bool, true, false, cond, List, [], ◌∷◌, ◌++◌, length, replicate, drop, get_or, Option, Some, None, IfSome, ◌↔◌, IsTrue, refl, sym, ap, subst, ◌∙◌, arith}
use Rattle.std.specs.Ordering.{nat_cmp}
use Rattle.std.specs.Prelude.{MatchOption}
use Rattle.std.specs.FinMap.{get, get-empty}
use Rattle.imap_modseq.specs.Merge.{AreInOrder}
use Rattle.imap_modseq.specs.Numbers.{max_events}
use Rattle.imap_modseq.proofs.Order.{order_at}
use Rattle.imap_mailbox.specs.declared.kept_change.KeptChange.{KeptChange}
use Rattle.imap_mailbox.specs.Latest.{IsOwnSeen, last_uids, latest_in, own_in, put_in}
use Rattle.imap_mailbox.specs.Own.{Own, no_own, with_kept}
use Rattle.imap_mailbox.specs.Recent.{Recent, IsNotedAt, end_of}
use Rattle.imap_mailbox.specs.Rows.{is_among}
use Rattle.imap_mailbox.specs.Summary.{AreRising, Rises}
use Rattle.imap_mailbox.proofs.Changes.{last_put, last_stays, len_put, order_put}
use Rattle.imap_mailbox.proofs.Recently.{event_since}
use Rattle.imap_mailbox.proofs.TableOfLast.{latest_put, rising_put, same_table}

-- ---- nothing yet

pub none_in : (bs : List ℕ) (table : List KeptChange) → bs ≡ [] → table ≡ [] → own_in bs table ≡ no_own
none_in bs table none empty_table = λ i. record { befores = none i; latest = latest_in (empty_table i) }

pub none_seen : (bs : List ℕ) (table : List KeptChange) (recent : Recent) → bs ≡ [] → table ≡ [] → recent ≡ record { first = 0; uids = [] } → IsOwnSeen (own_in bs table) table 0 recent
none_seen bs table recent none empty_table fresh = record {
  few = omega (arith, len);
  order = subst (AreInOrder 0 max_events) (sym none) tt;
  last = λ uid k e. absurd (nobody uid k e);
  rising = subst (λ t. (low high : ℕ) × Rises low high (last_uids t)) (sym empty_table) (0, 0, omega arith);
  short = omega (arith, ap length empty_table);
  counted = omega arith;
  noted = record { ends = omega (arith, len, ap (λ r. end_of r) fresh); noted = λ uid k e. absurd (nobody uid k e) };
}
  where
    len : length bs ≡ 0
    len = ap length none

    nobody : (uid : ℕ) (k : KeptChange) → get (latest_in table) uid ≡ Some k → ⊥
    nobody uid k e = let z : None ≡ Some k = sym (ap (λ t. get (latest_in t) uid) empty_table ∙ get-empty nat_cmp uid) ∙ e in cc z

-- ---- one more

length-put : (last : KeptChange) (table : List KeptChange) → length (put_in last table) ≤ length table + 1
length-put last [] = omega arith
length-put last (l ∷ table) = by (ltb l.uid last.uid) (eqb l.uid last.uid) (length-put last table)
  where
    by : (a b : Bool) → length (put_in last table) ≤ length table + 1
        → length (cond a (l ∷ put_in last table) (cond b (last ∷ table) (last ∷ l ∷ table))) ≤ length (l ∷ table) + 1
    by true b h = omega (arith, h)
    by false true h = omega arith
    by false false h = omega arith

pub own_made : (c : KeptChange) (bs new : List ℕ) (table made : List KeptChange) (n : ℕ) → n ≡ c.place + 1 - length bs → new ≡ bs ++ replicate n c.before → made ≡ put_in c table
    → own_in new made ≡ with_kept c (own_in bs table)
own_made c bs new table made n count is put = λ i. record {
  befores = (is ∙ ap (λ m. bs ++ replicate m c.before) count) i;
  latest = (ap latest_in put ∙ latest_put c table) i;
}

pub kept_seen : (c : KeptChange) (own new : Own) (table made : List KeptChange) (seen more : ℕ) (recent noted : Recent)
    → length own.befores ≤ c.place → c.place < max_events → c.before ≤ max_events → AreInOrder 0 c.before own.befores
    → new ≡ with_kept c own → made ≡ put_in c table → more ≤ seen + 1
    → end_of noted ≡ c.place + 1 → ((p u : ℕ) → IsNotedAt recent p u → IsNotedAt noted p u) → IsNotedAt noted c.place c.uid
    → IsOwnSeen own table seen recent → IsOwnSeen new made more noted
kept_seen c own new table made seen more recent noted place few small order is put count ends stay there h =
    subst (λ o. IsOwnSeen o made more noted) (sym is) (record {
      few = omega (arith, len, few);
      order = order_put c own max_events order small;
      last = last_stays c own place h.last;
      rising = subst (λ t. AreRising (last_uids t)) (sym put) (rising_put c table h.rising);
      short = let short = h.short in omega (arith, len, short, place, ap length put, length-put c table);
      counted = let counted = h.counted in omega (arith, len, counted, place, count);
      noted = record {
        ends = ends ∙ sym len;
        noted = λ uid k e. ⊎_elim
            (λ (at : (uid ≡ c.uid) × (c ≡ k)). subst (λ (x : KeptChange). IsNotedAt noted x.place uid) at.1 (subst (IsNotedAt noted c.place) (sym at.0) there))
            (λ (old : get own.latest uid ≡ Some k). stay k.place uid (h.noted.noted uid k old))
            (last_put c own uid k e);
      };
    })
  where
    len : length (with_kept c own).befores ≡ c.place + 1
    len = len_put c own place

-- ---- what is read

module _ (own : Own) (table : List KeptChange) (seen : ℕ) (recent : Recent) (h : IsOwnSeen own table seen recent) where
  pub before_small : (place : ℕ) → place < length own.befores → get_or own.befores place 0 ≤ max_events
  before_small place lt = let at = order_at 0 max_events own.befores place 0 h.order lt in omega (arith, at.1)

  pub last_small : (uid : ℕ) (k : KeptChange) → get own.latest uid ≡ Some k → (k.before ≤ max_events) × (k.place ≤ max_events) × (k.place < length own.befores)
  last_small uid k e =
      let last = h.last uid k e in
      let few = h.few in
      let place = last.place in
      let before = last.before in
      (omega (arith, before_small k.place place, before), omega (arith, place, few), place)

  -- the UIDs of the changes from a place on
  pub among_since : (uids : List ℕ) (place : ℕ) → recent.first ≤ place → uids ≡ drop (place - recent.first) recent.uids
      → (uid : ℕ) (k : KeptChange) → get own.latest uid ≡ Some k → place ≤ k.place → is_among uid uids ≡ true
  among_since uids place first is uid k e le =
      ap (is_among uid) is ∙ event_since recent k.place uid place (h.noted.noted uid k e) first le

-- ---- of two users

pub same_own : (bs cs : List ℕ) (xs ys : List KeptChange) (t : Bool) → AreRising (last_uids xs) → AreRising (last_uids ys) → bs ≡ cs → (IsTrue t ↔ (xs ≡ ys))
    → IsTrue t ↔ (own_in bs xs ≡ own_in cs ys)
same_own bs cs xs ys t rising other same tested = (
  λ is. let tables = tested.0 is in λ i. record { befores = same i; latest = latest_in (tables i) },
  λ e. tested.1 (same_table xs ys rising other (ap (λ (o : Own). o.latest) e)),
)

pub if_some : {X : Type 0} (o : Option X) (N : Type 0) (P Q : X → Type 0) → ((x : X) → P x → Q x) → MatchOption o N P → IfSome o Q
if_some None N P Q f h = tt
if_some (Some x) N P Q f h = f x h

-- who has no change has no last change
pub none_own : (own : Own) (table : List KeptChange) (seen : ℕ) (recent : Recent) → own ≡ own_in own.befores table → IsOwnSeen own table seen recent → length own.befores ≡ 0 → own ≡ no_own
none_own own table seen recent is h none = is ∙ none_in own.befores table (no_length own.befores none) (no_length table (let short = h.short in omega (arith, short, none)))
  where
    no_length : {X : Type 0} (xs : List X) → length xs ≡ 0 → xs ≡ []
    no_length [] e = refl
    no_length (x ∷ xs) e = absurd (omega (arith, e))
