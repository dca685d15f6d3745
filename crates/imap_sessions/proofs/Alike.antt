-- Sessions that are alike stay so, and know the same of what their user reads.
use Rattle.std.proofs.Common.{◌≡◌, ◌⊎◌, inl, inr, ℕ, suc, Bool, true, false, cond, List, [], ◌∷◌, length, Option, Some, None, refl, sym, ap, subst, ◌∙◌, arith}
use Rattle.std.specs.Prelude.{option_map, option_and_then}
use Rattle.std.specs.Cmp.{nat_cmp_total}
use Rattle.std.specs.FinMap as map
use Rattle.std.specs.FinMap.{entries, get-insert, get-remove, len-entries, nat_cmp-IsAntisymmetric, same_map}
use Rattle.std.specs.List.{AllByRecursion, filter_map}
use Rattle.std.specs.Ordering.{nat_cmp, eq_by_cmp}
use Rattle.std.proofs.lemmas.Bool.{eqb-true}
use Rattle.imap_mailbox.proofs.BroughtUp.{shown_is_ordered}
use Rattle.imap_mailbox.specs.Rows.{Row}
use Rattle.imap_mailbox.specs.Shown.{content_of}
use Rattle.imap_session.specs.Compared.{is_known}
use Rattle.imap_session.specs.State.{Selection, SessionState, both_enabled, new_session, with_telling}
use Rattle.imap_session.specs.Telling.{Telling}
use Rattle.imap_session.specs.Told.{session_after}
use Rattle.imap_upcoming.proofs.Reading.{read_of}
use Rattle.imap_user_map.proofs.KeptValues.{entries-keep, get-keep}
use Rattle.imap_user_map.specs.Finite.{keep, kept_entry}
use Rattle.imap_view.specs.declared.readable.Readable.{Readable}
use Rattle.imap_view.specs.Readable.{readable_in}
use Rattle.imap_view.specs.View.{view_of}
use Rattle.imap_world.specs.declared.site.Site.{Site}
use Rattle.imap_world.specs.Kept.{AreKept}
use Rattle.imap_world.specs.Laws.{IsGrownFromSome, IsGrownOrNew, MessagesGrown}
use Rattle.imap_world.specs.Mailbox.{Mailbox}
use Rattle.imap_world.specs.World.{World}
use Rattle.imap_sessions.specs.declared.sessions.SessionEffect.{SessionEffect}
use Rattle.imap_sessions.specs.declared.sessions.SessionEffect.TheVariants as session
use Rattle.imap_sessions.specs.Alike.{AreBoth, AreOwnAlike, AreSelectionsAlike, AreSessionsAlike, KnowTheSame, KnowsAsUpTo}
use Rattle.imap_sessions.specs.Sessions.{Own, edited, edited_if_open, own_with}
use Rattle.imap_sessions.proofs.Numbered.{at_number}
use Rattle.imap_sessions.proofs.SameKnown.{later_known}

-- ---- both or neither

pub both_by : {A : Type 0} (R S : A → A → Type 0) → ((x y : A) → R x y → S x y) → (a b : Option A) → AreBoth R a b → AreBoth S a b
both_by R S f None None h = tt
both_by R S f None (Some y) h = h
both_by R S f (Some x) None h = h
both_by R S f (Some x) (Some y) h = f x y h

pub both_itself : {A : Type 0} (R : A → A → Type 0) → ((x : A) → R x x) → (a : Option A) → AreBoth R a a
both_itself R f None = tt
both_itself R f (Some x) = f x

-- ---- what is equal is alike

module _ (world : World) (user : List ℕ) where
  pub selection_itself : (s : Selection) → AreSelectionsAlike world user s s
  selection_itself s = record { same = refl; known = inl refl }

  pub session_itself : (own : SessionState) → AreSessionsAlike world user own own
  session_itself own = record { selected = both_itself (AreSelectionsAlike world user) selection_itself own.selected; enabled = refl; idle = refl }

  own_itself : (own : Own) → AreOwnAlike world user own own
  own_itself own = record { at = λ number. both_itself (AreSessionsAlike world user) session_itself (map.get own number) }

  pub equal_alike : (own other : Option Own) → own ≡ other → AreBoth (AreOwnAlike world user) own other
  equal_alike own other same = subst (AreBoth (AreOwnAlike world user) own) same (both_itself (AreOwnAlike world user) own_itself own)

-- ---- while mailboxes change

module _ (old new : World) (kept : AreKept old.mailboxes) (grown : MessagesGrown old new) (user : List ℕ) where
  known_stays : (other : ℕ) (s : Selection) → KnowsAsUpTo old user other s → KnowsAsUpTo new user other s
  known_stays other s h = record {
    used = let more = grown.epochs s.name in omega (arith, h.used, more);
    known = λ m there same. by m same (grown.mailboxes s.name m there);
  }
    where
      of_old : (m : Mailbox) → m.validity ≡ s.validity → (before : Option Mailbox) → map.get old.mailboxes s.name ≡ before → IsGrownFromSome m before
          → KnowTheSame s.up_to other (content_of user m.messages)
      of_old m same None there g = absurd g
      of_old m same (Some before) there g =
          later_known s.up_to other (content_of user before.messages) (content_of user m.messages) (shown_is_ordered before.messages user (kept.at s.name before there)) (g.messages.later user)
          (h.known before there (g.validity ∙ same))

      by : (m : Mailbox) → m.validity ≡ s.validity → IsGrownOrNew old s.name m → KnowTheSame s.up_to other (content_of user m.messages)
      by m same (inl g) = of_old m same (map.get old.mailboxes s.name) refl g
      by m same (inr above) = absurd (omega (arith, h.used, above, same))

  pub may_stay : (other : ℕ) (s : Selection) → (s.up_to ≡ other) ⊎ KnowsAsUpTo old user other s → (s.up_to ≡ other) ⊎ KnowsAsUpTo new user other s
  may_stay other s (inl same) = inl same
  may_stay other s (inr h) = inr (known_stays other s h)

  selections_stay : (s t : Selection) → AreSelectionsAlike old user s t → AreSelectionsAlike new user s t
  selections_stay s t h = record { same = h.same; known = may_stay t.up_to s h.known }

  sessions_stay : (own other : SessionState) → AreSessionsAlike old user own other → AreSessionsAlike new user own other
  sessions_stay own other h = record {
    selected = both_by (AreSelectionsAlike old user) (AreSelectionsAlike new user) selections_stay own.selected other.selected h.selected;
    enabled = h.enabled;
    idle = h.idle;
  }

  own_stays : (own other : Own) → AreOwnAlike old user own other → AreOwnAlike new user own other
  own_stays own other h = record { at = λ number. both_by (AreSessionsAlike old user) (AreSessionsAlike new user) sessions_stay (map.get own number) (map.get other number) (h.at number) }

  pub alike_stay : (own other : Option Own) → AreBoth (AreOwnAlike old user) own other → AreBoth (AreOwnAlike new user) own other
  alike_stay own other h = both_by (AreOwnAlike old user) (AreOwnAlike new user) own_stays own other h

-- ---- what a step asks of one of them

module _ (world : World) (user : List ℕ) where
  abbrev Selected : Option Selection → Option Selection → Type 0
  Selected s t = AreBoth (AreSelectionsAlike world user) s t

  abbrev Sessions : SessionState → SessionState → Type 0
  Sessions own other = AreSessionsAlike world user own other

  both_told : (told : Telling) (s t : Option Selection) → Selected s t → Selected (option_map (with_telling told) s) (option_map (with_telling told) t)
  both_told told None None h = tt
  both_told told None (Some t) h = h
  both_told told (Some s) None h = h
  both_told told (Some s) (Some t) h = record { same = ap (with_telling told) h.same; known = inl refl }

  after_told : (told : Option Telling) (own other : SessionState) → Sessions own other → Sessions (session_after told own) (session_after told other)
  after_told None own other h = h
  after_told (Some told) own other h = record { selected = both_told told own.selected other.selected h.selected; enabled = h.enabled; idle = h.idle }

  both_edited : (change : SessionEffect) (own other : SessionState) → Sessions own other → Sessions (edited change own) (edited change other)
  both_edited (session.Note more told) own other h =
      let after = after_told told own other h in
      record { selected = after.selected; enabled = ap (both_enabled more) after.enabled; idle = after.idle }
  both_edited (session.Select more selection) own other h = record {
    selected = both_itself (AreSelectionsAlike world user) (selection_itself world user) selection;
    enabled = ap (both_enabled more) h.enabled;
    idle = h.idle;
  }
  both_edited (session.Idle tag told) own other h =
      let after = after_told told own other h in
      record { selected = after.selected; enabled = after.enabled; idle = refl }
  both_edited session.Keep own other h = h
  both_edited session.Open own other h = h
  both_edited session.End own other h = h

  module _ (own other : Own) (h : AreOwnAlike world user own other) (number : ℕ) where
    both_put : (x y : SessionState) → Sessions x y → AreOwnAlike world user (map.insert own number x) (map.insert other number y)
    both_put x y same = record {
      at = λ q. subst (λ (a : Option SessionState). AreBoth (AreSessionsAlike world user) a (map.get (map.insert other number y) q)) (sym (get-insert nat_cmp_total own number x q))
          (subst (λ (b : Option SessionState). AreBoth (AreSessionsAlike world user) (cond (eq_by_cmp nat_cmp q number) (Some x) (map.get own q)) b) (sym (get-insert nat_cmp_total other number y q))
          (by q (eq_by_cmp nat_cmp q number)));
    }
      where
        by : (q : ℕ) (b : Bool) → AreBoth (AreSessionsAlike world user) (cond b (Some x) (map.get own q)) (cond b (Some y) (map.get other q))
        by q true = same
        by q false = h.at q

    both_removed : AreOwnAlike world user (map.remove own number) (map.remove other number)
    both_removed = record {
      at = λ q. subst (λ (a : Option SessionState). AreBoth (AreSessionsAlike world user) a (map.get (map.remove other number) q)) (sym (get-remove nat_cmp_total own number q))
          (subst (λ (b : Option SessionState). AreBoth (AreSessionsAlike world user) (cond (eq_by_cmp nat_cmp q number) None (map.get own q)) b) (sym (get-remove nat_cmp_total other number q))
          (by q (eq_by_cmp nat_cmp q number)));
    }
      where
        by : (q : ℕ) (b : Bool) → AreBoth (AreSessionsAlike world user) (cond b None (map.get own q)) (cond b None (map.get other q))
        by q true = tt
        by q false = h.at q

    if_open : (change : SessionEffect) (a b : Option SessionState) → AreBoth (AreSessionsAlike world user) a b
        → AreOwnAlike world user (edited_if_open number change own a) (edited_if_open number change other b)
    if_open change None None same = h
    if_open change None (Some y) same = absurd same
    if_open change (Some x) None same = absurd same
    if_open change (Some x) (Some y) same = both_put (edited change x) (edited change y) (both_edited change x y same)

    pub both_with : (change : SessionEffect) → AreOwnAlike world user (own_with number change own) (own_with number change other)
    both_with session.Keep = h
    both_with session.Open = both_put new_session new_session (session_itself world user new_session)
    both_with (session.Note more told) = if_open (session.Note more told) (map.get own number) (map.get other number) (h.at number)
    both_with (session.Select more selection) = if_open (session.Select more selection) (map.get own number) (map.get other number) (h.at number)
    both_with (session.Idle tag told) = if_open (session.Idle tag told) (map.get own number) (map.get other number) (h.at number)
    both_with session.End = both_removed

  -- ---- as many are open

  abbrev mark : ℕ → SessionState → Option ℕ
  mark number state = Some 0

  all_marked : (es : List (ℕ × SessionState)) → length (filter_map (kept_entry mark) es) ≡ length es
  all_marked [] = refl
  all_marked (e ∷ es) = ap suc (all_marked es)

  marked : (own : Own) → map.len (keep mark own) ≡ map.len own
  marked own = len-entries (keep mark own) ∙ ap length (entries-keep nat_cmp mark own) ∙ all_marked (entries own) ∙ sym (len-entries own)

  one_mark : (a b : Option SessionState) → AreBoth (AreSessionsAlike world user) a b → (q : ℕ) → option_and_then (mark q) a ≡ option_and_then (mark q) b
  one_mark None None h q = refl
  one_mark None (Some y) h q = absurd h
  one_mark (Some x) None h q = absurd h
  one_mark (Some x) (Some y) h q = refl

  pub as_many : (own other : Own) → AreOwnAlike world user own other → map.len own ≡ map.len other
  as_many own other h = sym (marked own) ∙ ap map.len one ∙ marked other
    where
      one : keep mark own ≡ keep mark other
      one = same_map nat_cmp_total nat_cmp-IsAntisymmetric (keep mark own) (keep mark other)
          (λ q. get-keep nat_cmp mark nat_cmp-IsAntisymmetric own q ∙ one_mark (map.get own q) (map.get other q) (h.at q) q ∙ sym (get-keep nat_cmp mark nat_cmp-IsAntisymmetric other q))

-- ---- what the user reads is known alike

abbrev pub AreKnownAlike : (up_to other : ℕ) → List Row → Type 0
AreKnownAlike up_to other rows = AllByRecursion (λ r. is_known up_to r ≡ is_known other r) rows

one_number : (m n : ℕ) (rows : List Row) → m ≡ n → AreKnownAlike m n rows
one_number m n [] same = tt
one_number m n (r ∷ rows) same = (ap (λ n. is_known n r) same, one_number m n rows same)

pub read_alike : (site : Site) (user : List ℕ) (world : World) (other : ℕ) (s : Selection) → (s.up_to ≡ other) ⊎ KnowsAsUpTo world user other s
    → (r : Readable) → readable_in (view_of site user world) s.name ≡ Some r → r.validity ≡ s.validity → AreKnownAlike s.up_to other r.rows
read_alike site user world other s (inl e) r is same = one_number s.up_to other r.rows e
read_alike site user world other s (inr h) r is same =
    let read = read_of site user world s.name r is in
    let validity : r.validity ≡ read.mailbox.validity = ap (λ (r : Readable). r.validity) read.is in
    subst (λ (r : Readable). AreKnownAlike s.up_to other r.rows) (sym read.is) (h.known read.mailbox read.there (sym validity ∙ same)).rows

-- by the mailbox itself
pub read_alike_here : (world : World) (user : List ℕ) (other : ℕ) (s : Selection) → (s.up_to ≡ other) ⊎ KnowsAsUpTo world user other s
    → (m : Mailbox) → map.get world.mailboxes s.name ≡ Some m → m.validity ≡ s.validity → AreKnownAlike s.up_to other (content_of user m.messages).rows
read_alike_here world user other s (inl e) m there same = one_number s.up_to other (content_of user m.messages).rows e
read_alike_here world user other s (inr h) m there same = (h.known m there same).rows

-- ---- one session that is put

pub alike_put : (world : World) (user : List ℕ) (own : Own) (number : ℕ) (state fresh : SessionState) → map.get own number ≡ Some state → AreSessionsAlike world user state fresh → AreOwnAlike world user own (map.insert own number fresh)
alike_put world user own number state fresh there alike = record {
  at = λ q. subst (λ (b : Option SessionState). AreBoth (AreSessionsAlike world user) (map.get own q) b) (sym (get-insert nat_cmp_total own number fresh q)) (by q (eq_by_cmp nat_cmp q number) refl);
}
  where
    by : (q : ℕ) (b : Bool) → eq_by_cmp nat_cmp q number ≡ b → AreBoth (AreSessionsAlike world user) (map.get own q) (cond b (Some fresh) (map.get own q))
    by q true e =
        subst (λ (a : Option SessionState). AreBoth (AreSessionsAlike world user) a (Some fresh))
        (sym (ap (map.get own) (eqb-true q number (sym (at_number q number) ∙ e)) ∙ there)) alike
    by q false e = both_itself (AreSessionsAlike world user) (session_itself world user) (map.get own q)
