-- Places before and after a change of one mailbox, and views that are narrowed to the places that are left.
use Rattle.std.proofs.Common.{◌≡◌, ◌⊎◌, inl, inr, ℕ, ◌<◌, ◌≤◌, Bool, true, false, cond, not, ◌||◌, List, [], ◌∷◌, length, Option, Some, None, refl, sym, ap, subst, ◌∙◌, true≢false, arith}
use Rattle.std.specs.Prelude.{◌==◌, option_map, option_and_then}
use Rattle.std.specs.Int.RustNames.{bit_and}
use Rattle.std.specs.Int.Bits.{and_zero_l}
use Rattle.std.specs.FinMap as map
use Rattle.std.proofs.lemmas.Bool.{or_cases, or_left, or_right, eqb-true, true_from_ne_false}
use Rattle.std.proofs.lemmas.Nat.{and_assoc, and_comm}
use Rattle.imap_names.specs.Name.{Name}
use Rattle.imap_names.specs.Order.{Names, name_cmp}
use Rattle.imap_names.proofs.NameLaws.{is_name_at, equal_names, same_names, get_put, get_without, get_where}
use Rattle.imap_names.proofs.OrderLaws.{name_antisymmetric}
use Rattle.imap_world.specs.Rights.{has_any, names_below_rights}
use Rattle.imap_world.specs.declared.site.Site.{Site}
use Rattle.imap_world.specs.Mailbox.{Mailbox}
use Rattle.imap_user_map.specs.Finite.{keep}
use Rattle.imap_world.specs.World.{World, NameSet, subscribed_by}
use Rattle.imap_user_map.proofs.KeptValues.{get-keep}
use Rattle.imap_view.specs.Seen.{Seen, seen_at}
use Rattle.imap_view.specs.TreeAfter.{put_option, narrowed}
use Rattle.imap_view.specs.View.{view_of, view_by, seen_in, if_true, shows_names_with, shows_names_below, may_know_name, rights_of}

-- ---- rights

none_of_none : (n some all : ℕ) → bit_and some all ≡ some → bit_and n all ≡ 0 → bit_and n some ≡ 0
none_of_none n some all part none =
    ap (bit_and n) (sym part ∙ and_comm some all) ∙ sym (and_assoc some n all) ∙ ap (λ m. bit_and m some) none ∙ and_zero_l some

tested : (n : ℕ) (b : Bool) → (n == 0) ≡ b → not b ≡ false → n ≡ 0
tested n true e h = eqb-true n 0 e
tested n false e h = absurd (true≢false h)

-- who has one of some rights has one of more rights
pub has_more : (n some all : ℕ) → bit_and some all ≡ some → has_any n some ≡ true → has_any n all ≡ true
has_more n some all part has =
    true_from_ne_false (has_any n all)
    (λ e. true≢false (sym has ∙ ap (λ m. not (m == 0)) (none_of_none n some all part (tested (bit_and n all) (bit_and n all == 0) refl e))))

-- a right that makes a place
pub shows_names : (o : Option Seen) (some : ℕ) → bit_and some names_below_rights ≡ some → has_any (rights_of o) some ≡ true → shows_names_with o ≡ true
shows_names None some part has = absurd (true≢false (sym has ∙ ap (λ m. not (m == 0)) (and_zero_l some)))
shows_names (Some seen) some part has = has_more seen.rights some names_below_rights part has

-- ---- maps of which one value is another, and some values are kept

pub get_option : {X : Type 0} (m : Names X) (k : Name) (o : Option X) (q : Name) → map.get (put_option m k o) q ≡ cond (is_name_at q k) o (map.get m q)
get_option m k None q = get_without m k q
get_option m k (Some x) q = get_put m k x q

pub get_kept : {X Y : Type 0} (p : Name → Bool) (f : X → Y) (m : Names X) (q : Name) → map.get (keep (λ name x. if_true (p name) (f x)) m) q ≡ cond (p q) (option_map f (map.get m q)) None
get_kept {X = X} {Y = Y} p f m q = get-keep name_cmp (λ name x. if_true (p name) (f x)) name_antisymmetric m q ∙ when (p q) (map.get m q)
  where
    when : (b : Bool) (o : Option X) → option_and_then (λ x. if_true b (f x)) o ≡ cond b (option_map f o) None
    when true None = refl
    when true (Some x) = refl
    when false None = refl
    when false (Some x) = refl

-- the name of a mailbox is in use
abbrev pub in_use : Option Mailbox → Option (Unit {0})
in_use mailbox = option_map (λ m. tt) mailbox

pub seen_is : (site : Site) (user : List ℕ) (world : World) → (view_of site user world).seen ≡ seen_in site user world
unfolding view_of
seen_is site user world = refl

-- ---- places

module _ (site : Site) (user : List ℕ) where
  module _ (seen : Names Seen) where
    pub place_below : (part : List ℕ) (above : Name) → shows_names_below site user seen above ≡ true → may_know_name site user seen (part ∷ above) ≡ true
    place_below part above e = or_left _ _ e

    pub deeper_below : (part : List ℕ) (above : Name) → may_know_name site user seen above ≡ true → may_know_name site user seen (part ∷ above) ≡ true
    deeper_below part above e = or_right _ _ e

    -- a name that is a place, or lies below one
    abbrev pub IsCovered : Name → Type 0
    IsCovered name = (shows_names_below site user seen name ≡ true) ⊎ (may_know_name site user seen name ≡ true)

    pub covered_below : (part : List ℕ) (above : Name) → IsCovered above → may_know_name site user seen (part ∷ above) ≡ true
    covered_below part above (inl e) = place_below part above e
    covered_below part above (inr e) = deeper_below part above e

  -- each place of `new` is one of `old`, or lies below one
  abbrev pub IsWithin : Names Seen → Names Seen → Type 0
  IsWithin new old = (name : Name) → shows_names_below site user new name ≡ true → IsCovered old name

  pub below_within : (new old : Names Seen) → IsWithin new old → (name : Name) → may_know_name site user new name ≡ true → may_know_name site user old name ≡ true
  below_within new old within [] e = e
  below_within new old within (part ∷ above) e =
      by (or_cases (shows_names_below site user new above) (may_know_name site user new above) e) (below_within new old within above)
    where
      by : IsCovered new above → (may_know_name site user new above ≡ true → may_know_name site user old above ≡ true) → may_know_name site user old (part ∷ above) ≡ true
      by (inl h) rest = covered_below old part above (within above h)
      by (inr h) rest = deeper_below old part above (rest h)

  -- ---- one mailbox is seen otherwise

  module _ (seen : Names Seen) (k : Name) (o : Option Seen) where
    place_elsewhere : (q : Name) → is_name_at q k ≡ false → shows_names_below site user (put_option seen k o) q ≡ shows_names_below site user seen q
    place_elsewhere [] apart = refl
    place_elsewhere (root ∷ []) apart = refl
    place_elsewhere (deepest ∷ above ∷ more) apart =
        ap shows_names_with (get_option seen k o (deepest ∷ above ∷ more) ∙ ap (λ b. cond b o (map.get seen (deepest ∷ above ∷ more))) apart)

    -- under a name that was a place, or below one, no place comes that wasn't one or below one
    pub put_within : IsCovered seen k → IsWithin (put_option seen k o) seen
    put_within covered q e = by (is_name_at q k) refl
      where
        by : (b : Bool) → is_name_at q k ≡ b → IsCovered seen q
        by true at = subst (IsCovered seen) (sym (equal_names q k at)) covered
        by false apart = inl (sym (place_elsewhere q apart) ∙ e)

    shorter_apart : (q : Name) → length q < length k → (b : Bool) → is_name_at q k ≡ b → b ≡ false
    shorter_apart q shorter true at = absurd (omega (arith, shorter, ap length (equal_names q k at)))
    shorter_apart q shorter false at = refl

    -- what lies above the name is as before
    below_above : (q : Name) → length q ≤ length k → may_know_name site user (put_option seen k o) q ≡ may_know_name site user seen q
    below_above [] short = refl
    below_above (part ∷ above) short =
        λ i. place_elsewhere above (shorter_apart above (omega (arith, short)) (is_name_at above k) refl) i || below_above above (omega (arith, short)) i

    at_itself : (n : ℕ) → n ≤ n
    at_itself n = omega arith

    pub below_itself : may_know_name site user (put_option seen k o) k ≡ may_know_name site user seen k
    below_itself = below_above k (at_itself (length k))

    kept_within : may_know_name site user seen k ≡ true → IsWithin seen (put_option seen k o)
    kept_within below q e = by (is_name_at q k) refl
      where
        by : (b : Bool) → is_name_at q k ≡ b → IsCovered (put_option seen k o) q
        by true at = inr (ap (may_know_name site user (put_option seen k o)) (equal_names q k at) ∙ below_itself ∙ below)
        by false apart = inl (place_elsewhere q apart ∙ e)

    -- Below a place a mailbox can be seen otherwise, and the same names lie below places.
    pub below_same : may_know_name site user seen k ≡ true → (q : Name) → may_know_name site user (put_option seen k o) q ≡ may_know_name site user seen q
    below_same below q =
        alike _ _ (below_within (put_option seen k o) seen (put_within (inr below)) q) (below_within seen (put_option seen k o) (kept_within below) q)
      where
        alike : (a b : Bool) → (a ≡ true → b ≡ true) → (b ≡ true → a ≡ true) → a ≡ b
        alike true b f g = sym (f refl)
        alike false true f g = g refl
        alike false false f g = refl

  -- ---- the view of a world, by look-ups

  same_value : {X : Type 0} (o : Option X) → option_map (λ x. x) o ≡ o
  same_value None = refl
  same_value (Some x) = refl

  pub get_taken : (seen : Names Seen) (world : World) (q : Name) → map.get (view_by site user seen world).taken q ≡ cond (may_know_name site user seen q) (in_use (map.get world.mailboxes q)) None
  get_taken seen world q = get_kept (may_know_name site user seen) (λ (m : Mailbox). tt) world.mailboxes q

  pub get_epochs : (seen : Names Seen) (world : World) (q : Name) → map.get (view_by site user seen world).epochs q ≡ cond (may_know_name site user seen q) (map.get world.epochs q) None
  get_epochs seen world q = get_kept (may_know_name site user seen) (λ n. n) world.epochs q ∙ ap (λ o. cond (may_know_name site user seen q) o None) (same_value (map.get world.epochs q))

  only : {X : Type 0} (b : Bool) (x y : Option X) → (b ≡ true → x ≡ y) → cond b x None ≡ cond b y None
  only true x y h = h refl
  only false x y h = refl

  -- The view of a world is that with these mailboxes, names and validities, if they are right below places.
  pub view_is_narrowed : (world : World) (seen : Names Seen) (taken : NameSet) (epochs : Names ℕ) → seen_in site user world ≡ seen
      → ((q : Name) → may_know_name site user seen q ≡ true → in_use (map.get world.mailboxes q) ≡ map.get taken q)
      → ((q : Name) → may_know_name site user seen q ≡ true → map.get world.epochs q ≡ map.get epochs q)
      → view_of site user world ≡ narrowed (record { site = site; user = user; seen = seen; taken = taken; epochs = epochs; subscribed = subscribed_by world user })
  unfolding view_of
  view_is_narrowed world seen taken epochs is t e =
      ap (λ s. view_by site user s world) is
      ∙ λ i. record { site = site; user = user; seen = seen; taken = takens i; epochs = all_epochs i; subscribed = subscribed_by world user }
    where
      takens : (view_by site user seen world).taken ≡ map.retain_keys taken (may_know_name site user seen)
      takens = same_names _ _ (λ q. get_taken seen world q ∙ only _ _ _ (t q) ∙ sym (get_where taken (may_know_name site user seen) q))

      all_epochs : (view_by site user seen world).epochs ≡ map.retain_keys epochs (may_know_name site user seen)
      all_epochs = same_names _ _ (λ q. get_epochs seen world q ∙ only _ _ _ (e q) ∙ sym (get_where epochs (may_know_name site user seen) q))

  -- ---- what is seen of a world in which one mailbox is another, or gone

  pub seen_changed : (world new : World) (k : Name) (o : Option Mailbox)
      → ((q : Name) → map.get new.mailboxes q ≡ cond (is_name_at q k) o (map.get world.mailboxes q))
      → seen_in site user new ≡ put_option (seen_in site user world) k (option_and_then (seen_at site user k) o)
  seen_changed world new k o is =
      same_names _ _ (λ q. get_at new q ∙ ap (option_and_then (seen_at site user q)) (is q) ∙ by q (is_name_at q k) refl
      ∙ sym (get_option (seen_in site user world) k (option_and_then (seen_at site user k) o) q
      ∙ ap (cond (is_name_at q k) (option_and_then (seen_at site user k) o)) (get_at world q)))
    where
      get_at : (w : World) (q : Name) → map.get (seen_in site user w) q ≡ option_and_then (seen_at site user q) (map.get w.mailboxes q)
      get_at w q = get-keep name_cmp (seen_at site user) name_antisymmetric w.mailboxes q

      by : (q : Name) (b : Bool) → is_name_at q k ≡ b
          → option_and_then (seen_at site user q) (cond b o (map.get world.mailboxes q)) ≡ cond b (option_and_then (seen_at site user k) o) (option_and_then (seen_at site user q) (map.get world.mailboxes q))
      by q true at = ap (λ n. option_and_then (seen_at site user n) o) (equal_names q k at)
      by q false apart = refl
