-- Views after a change.
use Rattle.std.proofs.Common.{◌≡◌, ◌≢◌, ◌⊎◌, inl, inr, ℕ, Bool, true, false, cond, List, Option, Some, None, refl, sym, ap, ◌∙◌, true≢false}
use Rattle.std.specs.Prelude.{is_some, option_and_then, option_map}
use Rattle.std.specs.FinMap as map
use Rattle.imap_names.specs.Name.{Name}
use Rattle.imap_names.specs.Order.{Names, name_cmp}
use Rattle.imap_names.proofs.NameLaws.{same_names}
use Rattle.imap_names.proofs.OrderLaws.{name_antisymmetric}
use Rattle.imap_world.specs.declared.site.Site.{Site}
use Rattle.imap_world.specs.Mailbox.{Mailbox}
use Rattle.imap_world.specs.Effects.{if_filled, with_subscribed}
use Rattle.imap_user_map.specs.Finite.{keep}
use Rattle.imap_world.specs.World.{World, NameSet, set_of, subscribed_by}
use Rattle.imap_user_map.proofs.KeptValues.{get-keep}
use Rattle.imap_world.proofs.Sets.{is_user, equal_users, user_itself, get_with_option, set_of-if_filled}
use Rattle.imap_view.specs.After.{DifferInHidden, HiddenIsAbsent, IsHidden, OthersSubscriptionsAreHidden}
use Rattle.imap_view.specs.Seen.{Seen, seen_at}
use Rattle.imap_view.specs.View.{view_of, view_by, seen_in, if_true, may_know_name}
use Rattle.imap_view.proofs.Views.{get_seen}

-- ---- subscriptions

subscribed_anew : (world : World) (user : List ℕ) (names : NameSet) → subscribed_by (with_subscribed world user names) user ≡ names
subscribed_anew world user names =
    ap set_of (get_with_option world.subscriptions user (if_filled names) user)
    ∙ ap (λ b. set_of (cond b (if_filled names) (map.get world.subscriptions user))) (user_itself user) ∙ set_of-if_filled names

apart : (q u : List ℕ) → u ≢ q → (b : Bool) → is_user q u ≡ b → b ≡ false
apart q u differ true e = absurd (differ (sym (equal_users q u e)))
apart q u differ false e = refl

subscribed_still : (world : World) (user other : List ℕ) (names : NameSet) → other ≢ user → subscribed_by (with_subscribed world other names) user ≡ subscribed_by world user
subscribed_still world user other names differ =
    ap set_of (get_with_option world.subscriptions other (if_filled names) user)
    ∙ ap (λ b. set_of (cond b (if_filled names) (map.get world.subscriptions user))) (apart user other differ (is_user user other) refl)

-- but for the subscriptions the view stays
view_with : (site : Site) (user : List ℕ) (world : World) (other : List ℕ) (names : NameSet)
    → view_of site user (with_subscribed world other names) ≡ record (view_of site user world) { subscribed = subscribed_by (with_subscribed world other names) user }
unfolding view_of
view_with site user world other names = refl

same_subscribed : (site : Site) (user : List ℕ) (world : World) → record (view_of site user world) { subscribed = subscribed_by world user } ≡ view_of site user world
unfolding view_of
same_subscribed site user world = refl

user_is : (site : Site) (user : List ℕ) (world : World) → (view_of site user world).user ≡ user
unfolding view_of
user_is site user world = refl

subscribed_is : (site : Site) (user : List ℕ) (world : World) → (view_of site user world).subscribed ≡ subscribed_by world user
unfolding view_of
subscribed_is site user world = refl

module _ (site : Site) (user : List ℕ) (world : World) (f : NameSet → NameSet) where
  pub changed : (asker : List ℕ) → asker ≡ (view_of site user world).user
      → view_of site user (with_subscribed world asker (f (subscribed_by world asker))) ≡ record (view_of site user world) { subscribed = f (view_of site user world).subscribed }
  changed asker is =
      ap (λ u. view_of site user (with_subscribed world u (f (subscribed_by world u)))) (is ∙ user_is site user world)
      ∙ view_with site user world user (f (subscribed_by world user))
      ∙ ap (λ names. record (view_of site user world) { subscribed = names }) (subscribed_anew world user (f (subscribed_by world user)) ∙ ap f (sym (subscribed_is site user world)))

  unchanged : (other : List ℕ) → other ≢ user → view_of site user (with_subscribed world other (f (subscribed_by world other))) ≡ view_of site user world
  unchanged other differ =
      view_with site user world other (f (subscribed_by world other))
      ∙ ap (λ names. record (view_of site user world) { subscribed = names }) (subscribed_still world user other (f (subscribed_by world other)) differ)
      ∙ same_subscribed site user world

pub others_subscriptions : OthersSubscriptionsAreHidden
others_subscriptions site user other world name differ =
    (unchanged site user world (λ names. map.insert names name tt) other differ, unchanged site user world (λ names. map.remove names name) other differ)

-- ---- hidden mailboxes

-- what is kept of nothing that may be known
nothing : {X Y : Type 0} (b : Bool) (f : X → Y) (o : Option X) → b ≡ false → option_and_then (λ x. if_true b (f x)) o ≡ None
nothing true f o e = absurd (true≢false e)
nothing false f None e = refl
nothing false f (Some x) e = refl

-- the value is taken first, or where it is kept
taken_first : {X Y : Type 0} (b : Bool) (f : X → Y) (o : Option X) → option_and_then (λ x. if_true b (f x)) o ≡ option_and_then (if_true b) (option_map f o)
taken_first b f None = refl
taken_first b f (Some x) = refl

-- both are there or neither is, and what is taken tells no more
in_both : {X : Type 0} (f : X → Unit {0}) (o p : Option X) → is_some o ≡ is_some p → option_map f o ≡ option_map f p
in_both f None None e = refl
in_both f None (Some y) e = absurd (true≢false (sym e))
in_both f (Some x) None e = absurd (true≢false e)
in_both f (Some x) (Some y) e = refl

module _ (site : Site) (user : List ℕ) (one other : World) (differ : DifferInHidden site user one other) where
  abbrev seen : Names Seen
  seen = seen_in site user one

  -- what is seen at each name
  seen_at_each : (q : Name) → map.get (view_of site user one).seen q ≡ map.get (view_of site user other).seen q
  seen_at_each q = by (differ.mailboxes q)
    where
      by : (map.get one.mailboxes q ≡ map.get other.mailboxes q) ⊎ IsHidden site user one other q
          → map.get (view_of site user one).seen q ≡ map.get (view_of site user other).seen q
      by (inl same) = get_seen site user one q ∙ ap (option_and_then (seen_at site user q)) same ∙ sym (get_seen site user other q)
      by (inr hidden) = hidden.unseen ∙ sym hidden.unseen_other

  seen_same : seen ≡ seen_in site user other
  unfolding view_of
  seen_same = same_names seen (seen_in site user other) seen_at_each

  -- what is kept of maps that differ, once it is taken of each value, at names alone of which the user may not know
  kept_known : {X Y : Type 0} (f : X → Y) (m n : Names X) → ((q : Name) → (option_map f (map.get m q) ≡ option_map f (map.get n q)) ⊎ (may_know_name site user seen q ≡ false))
      → keep (λ name x. if_true (may_know_name site user seen name) (f x)) m ≡ keep (λ name x. if_true (may_know_name site user seen name) (f x)) n
  kept_known {X} {Y} f m n each =
      same_names _ _ (λ q. get-keep name_cmp kept name_antisymmetric m q ∙ by q (each q) ∙ sym (get-keep name_cmp kept name_antisymmetric n q))
    where
      kept : Name → X → Option Y
      kept name x = if_true (may_know_name site user seen name) (f x)

      by : (q : Name) → (option_map f (map.get m q) ≡ option_map f (map.get n q)) ⊎ (may_know_name site user seen q ≡ false) → option_and_then (kept q) (map.get m q) ≡ option_and_then (kept q) (map.get n q)
      by q (inl same) =
          taken_first (may_know_name site user seen q) f (map.get m q) ∙ ap (option_and_then (if_true (may_know_name site user seen q))) same
          ∙ sym (taken_first (may_know_name site user seen q) f (map.get n q))
      by q (inr unknown) = nothing (may_know_name site user seen q) f (map.get m q) unknown ∙ sym (nothing (may_know_name site user seen q) f (map.get n q) unknown)

  used : Mailbox → Unit {0}
  used mailbox = tt

  known_mailboxes : (q : Name) → (option_map used (map.get one.mailboxes q) ≡ option_map used (map.get other.mailboxes q)) ⊎ (may_know_name site user seen q ≡ false)
  unfolding view_of
  known_mailboxes q = by (differ.mailboxes q)
    where
      by : (map.get one.mailboxes q ≡ map.get other.mailboxes q) ⊎ IsHidden site user one other q
          → (option_map used (map.get one.mailboxes q) ≡ option_map used (map.get other.mailboxes q)) ⊎ (may_know_name site user seen q ≡ false)
      by (inl same) = inl (ap (option_map used) same)
      by (inr hidden) = by_use hidden.use_hidden
        where
          by_use : (may_know_name site user seen q ≡ false) ⊎ (map.contains_key one.mailboxes q ≡ map.contains_key other.mailboxes q)
              → (option_map used (map.get one.mailboxes q) ≡ option_map used (map.get other.mailboxes q)) ⊎ (may_know_name site user seen q ≡ false)
          by_use (inl unknown) = inr unknown
          by_use (inr both) = inl (in_both used (map.get one.mailboxes q) (map.get other.mailboxes q) both)

  taken_same : (view_by site user seen one).taken ≡ (view_by site user seen other).taken
  taken_same = kept_known used one.mailboxes other.mailboxes known_mailboxes

  known_epochs : (q : Name) → (map.get one.epochs q ≡ map.get other.epochs q) ⊎ (may_know_name site user seen q ≡ false)
      → (option_map (λ (n : ℕ). n) (map.get one.epochs q) ≡ option_map (λ (n : ℕ). n) (map.get other.epochs q)) ⊎ (may_know_name site user seen q ≡ false)
  known_epochs q (inl same) = inl (ap (option_map (λ (n : ℕ). n)) same)
  known_epochs q (inr unknown) = inr unknown

  epochs_same : (view_by site user seen one).epochs ≡ (view_by site user seen other).epochs
  unfolding view_of
  epochs_same = kept_known (λ (n : ℕ). n) one.epochs other.epochs (λ q. known_epochs q (differ.epochs q))

  view_same : view_by site user seen one ≡ view_by site user (seen_in site user other) other
  view_same =
      (λ i. record (view_by site user seen one) { taken = taken_same i; epochs = epochs_same i; subscribed = differ.subscribed i })
      ∙ ap (λ s. view_by site user s other) seen_same

pub hidden_absent : HiddenIsAbsent
unfolding view_of
hidden_absent site user one other differ = view_same site user one other differ
