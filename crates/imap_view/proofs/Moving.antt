-- The view after a mailbox and all below it moved.
use Rattle.std.proofs.Common.{◌≡◌, inl, inr, ℕ, ◌<◌, Bool, true, false, cond, List, [], ◌∷◌, ◌++◌, length, Option, Some, None, refl, sym, ap, ◌∙◌, true≢false, arith}
use Rattle.std.specs.Prelude.{◌||◌, option_and_then, option_map, is_some}
use Rattle.std.specs.FinMap as map
use Rattle.std.specs.FinMap.Entries.{find}
use Rattle.imap_world.specs.Renaming.{renamed}
use Rattle.imap_world.specs.NameMapRows.{run_of, inserted_all}
use Rattle.imap_world.proofs.LookUp.{get_renamed}
use Rattle.imap_world.proofs.Runs.{get_in_run}
use Rattle.imap_names.specs.Name.{Name, root_of}
use Rattle.imap_names.specs.Order.{Names, name_cmp, is_within, moved}
use Rattle.imap_names.proofs.MovedLaws.{within_itself, within_no_shorter, root_of-within, moved_within}
use Rattle.imap_names.proofs.NameLaws.{is_name_at, is_name_at-same, equal_names, same_names, get_put, get_without}
use Rattle.imap_names.proofs.OrderLaws.{name_antisymmetric, below_from_within}
use Rattle.imap_world.specs.Effective.{effective}
use Rattle.imap_world.specs.Rights.{delete_mailbox, has_any, visible_rights}
use Rattle.imap_world.specs.declared.site.Site.{Site}
use Rattle.imap_world.specs.Mailbox.{Mailbox}
use Rattle.imap_world.specs.Moving.{with_moved, with_validities, with_validity}
use Rattle.imap_world.specs.World.{World, NameSet}
use Rattle.imap_user_map.proofs.KeptValues.{get-keep}
use Rattle.imap_view.specs.RenameAfter.{seen_with_validity, validities_shown, validity_shown, view_with_moved}
use Rattle.imap_view.specs.Seen.{is_root, owner_by_root, seen_at, seen_by_rights, seen_with, shows_messages, Seen}
use Rattle.imap_view.specs.TreeAfter.{put_option}
use Rattle.imap_view.specs.View.{view_of, seen_in, shows_names_below, shows_names_with, may_know_name, may_know_name_in, rights_in}
use Rattle.imap_view.proofs.Arriving.{all_arrived, inserted_alike}
use Rattle.imap_view.proofs.Deleting.{held_is_there, place_seen, below_between}
use Rattle.imap_view.proofs.Narrowing.{in_use, seen_changed, seen_is, shows_names, deeper_below, IsWithin, IsCovered, below_within, get_taken, get_epochs, view_is_narrowed}

-- The user holds x on the mailbox, and the new name lies in its tree, below a place, and no mailbox is there or below.
pub record IsMove (site : Site) (user : List ℕ) (world : World) (old new : Name) : Type 0 where
  pub deletable : has_any (rights_in (view_of site user world) old) delete_mailbox ≡ true
  pub known : may_know_name_in (view_of site user world) new ≡ true
  -- neither is the root of the tree
  pub old_named : 1 < length old
  pub new_named : 1 < length new
  pub one_tree : root_of new ≡ root_of old
  pub free : run_of new world.mailboxes ≡ []

-- ---- runs, by look-up

module _ {X : Type 0} where
  nil_of_find : (es : List (Name × X)) → ((q : Name) → find name_cmp q es ≡ None) → es ≡ []
  nil_of_find [] none = refl
  nil_of_find (e ∷ es) none =
      absurd (cc (sym (none e.0) ∙ ap (λ b. cond b (Some e.1) (find name_cmp e.0 es)) (is_name_at-same e.0)))

  -- in an empty run nothing is found
  pub none_found : (top : Name) (m : Names X) (q : Name) → run_of top m ≡ [] → is_within top q ≡ true → map.get m q ≡ None
  none_found top m q free e = ap (λ b. cond b (map.get m q) None) (sym e) ∙ sym (get_in_run top m q) ∙ ap (find name_cmp q) free

  -- and a run in which nothing is found is empty
  pub no_run : (top : Name) (m : Names X) → ((q : Name) → is_within top q ≡ true → map.get m q ≡ None) → run_of top m ≡ []
  no_run top m none = nil_of_find (run_of top m) (λ q. get_in_run top m q ∙ by q (is_within top q) refl)
    where
      by : (q : Name) (b : Bool) → is_within top q ≡ b → cond b (map.get m q) None ≡ None
      by q true e = none q e
      by q false e = refl

-- ---- names that are no root

long_is_named : (q : Name) → 1 < length q → is_root q ≡ false
long_is_named [] long = absurd (omega (arith, long))
long_is_named (root ∷ []) long = absurd (omega (arith, long))
long_is_named (deepest ∷ above ∷ more) long = refl

within_is_named : (top q : Name) → 1 < length top → is_within top q ≡ true → is_root q ≡ false
within_is_named top q long e = long_is_named q (omega (arith, long, within_no_shorter top q e))

within_one_root : (top q : Name) → 1 < length top → is_within top q ≡ true → root_of q ≡ root_of top
within_one_root top q long e = root_of-within top q (omega (arith, long)) e

-- what is seen of a mailbox is the same under any name of the tree
seen_alike : (site : Site) (user : List ℕ) (q p : Name) → is_root q ≡ false → is_root p ≡ false → root_of q ≡ root_of p → (o : Option Mailbox) → option_and_then (seen_at site user q) o ≡ option_and_then (seen_at site user p) o
seen_alike site user q p a b e None = refl
seen_alike site user q p a b e (Some m) =
    (λ i. cond (a i) None (seen_with site user (effective user (owner_by_root site (e i)) site.groups m.acl) m))
    ∙ ap (λ b. cond b None (seen_with site user (effective user (owner_by_root site (root_of p)) site.groups m.acl) m)) (sym b)

-- ---- the view, by look-ups

module _ (site : Site) (user : List ℕ) (world : World) where
  pub taken_at : (q : Name) → map.get (view_of site user world).taken q ≡ cond (may_know_name site user (seen_in site user world) q) (in_use (map.get world.mailboxes q)) None
  unfolding view_of
  taken_at q = get_taken site user (seen_in site user world) world q

  pub taken_there : (q : Name) → may_know_name site user (seen_in site user world) q ≡ true → in_use (map.get world.mailboxes q) ≡ map.get (view_of site user world).taken q
  taken_there q h = sym (taken_at q ∙ ap (λ b. cond b (in_use (map.get world.mailboxes q)) None) h)

  pub epochs_there : (q : Name) → may_know_name site user (seen_in site user world) q ≡ true → map.get world.epochs q ≡ map.get (view_of site user world).epochs q
  unfolding view_of
  epochs_there q h = sym (get_epochs site user (seen_in site user world) world q ∙ ap (λ b. cond b (map.get world.epochs q) None) h)

  get_seen_in : (q : Name) → map.get (seen_in site user world) q ≡ option_and_then (seen_at site user q) (map.get world.mailboxes q)
  get_seen_in q = get-keep name_cmp (seen_at site user) name_antisymmetric world.mailboxes q

  -- all names at or below one that is known are known
  pub known_within : (top : Name) → may_know_name site user (seen_in site user world) top ≡ true → (q : Name) → is_within top q ≡ true → may_know_name site user (seen_in site user world) q ≡ true
  known_within top known q e = let (x, is) = below_from_within top q e in ap (may_know_name site user (seen_in site user world)) is ∙ by x
    where
      by : (x : Name) → may_know_name site user (seen_in site user world) (x ++ top) ≡ true
      by [] = known
      by (part ∷ x) = deeper_below site user (seen_in site user world) part (x ++ top) (by x)

-- ---- the validities that are shown

module _ (site : Site) (user : List ℕ) where
  -- of one mailbox
  validity_seen : (k : Name) (validity : ℕ) (m : Mailbox) → seen_at site user k (record m { validity = validity }) ≡ option_map (seen_with_validity validity) (seen_at site user k m)
  validity_seen k validity m = by (is_root k) (has_any rights visible_rights) (shows_messages rights)
    where
      rights : ℕ
      rights = effective user (owner_by_root site (root_of k)) site.groups m.acl

      seen_so : Option ℕ → Seen
      seen_so shown = record (seen_by_rights site user rights m) { validity = shown }

      by : (root visible shows : Bool) → cond root None (cond visible (Some (seen_so (cond shows (Some validity) None))) None)
          ≡ option_map (seen_with_validity validity) (cond root None (cond visible (Some (seen_so (cond shows (Some m.validity) None))) None))
      by true visible shows = refl
      by false false shows = refl
      by false true true = refl
      by false true false = refl

  nothing_removed : (s : Names Seen) (k : Name) → map.get s k ≡ None → map.remove s k ≡ s
  nothing_removed s k absent = same_names _ _ (λ q. get_without s k q ∙ by q (is_name_at q k) refl)
    where
      by : (q : Name) (b : Bool) → is_name_at q k ≡ b → cond b None (map.get s q) ≡ map.get s q
      by q true at = sym (ap (map.get s) (equal_names q k at) ∙ absent)
      by q false at = refl

  put_shown : (s : Names Seen) (k : Name) (validity : ℕ) (o : Option Seen) → map.get s k ≡ o → put_option s k (option_map (seen_with_validity validity) o) ≡ validity_shown s k validity o
  put_shown s k validity None is = nothing_removed s k is
  put_shown s k validity (Some seen) is = refl

  one_validity : (world : World) (k : Name) (validity : ℕ)
      → seen_in site user (record world { mailboxes = with_validity world.mailboxes k validity (map.get world.mailboxes k) })
      ≡ validity_shown (seen_in site user world) k validity (map.get (seen_in site user world) k)
  one_validity world k validity = by (map.get world.mailboxes k) refl
    where
      by : (o : Option Mailbox) → map.get world.mailboxes k ≡ o
          → seen_in site user (record world { mailboxes = with_validity world.mailboxes k validity o }) ≡ validity_shown (seen_in site user world) k validity (map.get (seen_in site user world) k)
      by None is =
          ap (validity_shown (seen_in site user world) k validity) (sym (get_seen_in site user world k ∙ ap (option_and_then (seen_at site user k)) is))
      by (Some m) is =
          let at : map.get (seen_in site user world) k ≡ seen_at site user k m = get_seen_in site user world k ∙ ap (option_and_then (seen_at site user k)) is in
          seen_changed site user world (record world { mailboxes = map.insert world.mailboxes k (record m { validity = validity }) }) k (Some (record m { validity = validity }))
          (get_put world.mailboxes k (record m { validity = validity }))
          ∙ ap (put_option (seen_in site user world) k) (validity_seen k validity m)
          ∙ put_shown (seen_in site user world) k validity (seen_at site user k m) at
          ∙ ap (validity_shown (seen_in site user world) k validity) (sym at)

  all_validities : (arrivals : List (Name × ℕ)) (world : World)
      → seen_in site user (record world { mailboxes = with_validities world.mailboxes arrivals }) ≡ validities_shown (seen_in site user world) arrivals
  all_validities [] world = refl
  all_validities (a ∷ arrivals) world =
      all_validities arrivals (record world { mailboxes = with_validity world.mailboxes a.0 a.1 (map.get world.mailboxes a.0) })
      ∙ ap (λ s. validities_shown s arrivals) (one_validity world a.0 a.1)

  -- they change no right
  one_shows : (s : Names Seen) (k : Name) (validity : ℕ) (q : Name) → shows_names_with (map.get (validity_shown s k validity (map.get s k)) q) ≡ shows_names_with (map.get s q)
  one_shows s k validity q = by (map.get s k) refl
    where
      at : (x : Seen) → map.get s k ≡ Some x → (b : Bool) → is_name_at q k ≡ b → shows_names_with (cond b (Some (seen_with_validity validity x)) (map.get s q)) ≡ shows_names_with (map.get s q)
      at x is true e = sym (ap shows_names_with (ap (map.get s) (equal_names q k e) ∙ is))
      at x is false e = refl

      by : (o : Option Seen) → map.get s k ≡ o → shows_names_with (map.get (validity_shown s k validity o) q) ≡ shows_names_with (map.get s q)
      by None is = refl
      by (Some x) is = ap shows_names_with (get_put s k (seen_with_validity validity x) q) ∙ at x is (is_name_at q k) refl

  all_show : (arrivals : List (Name × ℕ)) (s : Names Seen) (q : Name) → shows_names_with (map.get (validities_shown s arrivals) q) ≡ shows_names_with (map.get s q)
  all_show [] s q = refl
  all_show (a ∷ arrivals) s q = all_show arrivals (validity_shown s a.0 a.1 (map.get s a.0)) q ∙ one_shows s a.0 a.1 q

  show_below : (arrivals : List (Name × ℕ)) (s : Names Seen) (q : Name) → shows_names_below site user (validities_shown s arrivals) q ≡ shows_names_below site user s q
  show_below arrivals s [] = refl
  show_below arrivals s (root ∷ []) = refl
  show_below arrivals s (deepest ∷ above ∷ more) = all_show arrivals s (deepest ∷ above ∷ more)

  known_with : (arrivals : List (Name × ℕ)) (s : Names Seen) (q : Name) → may_know_name site user (validities_shown s arrivals) q ≡ may_know_name site user s q
  known_with arrivals s [] = refl
  known_with arrivals s (part ∷ above) = λ i. show_below arrivals s above i || known_with arrivals s above i

-- ---- the whole

module _ (site : Site) (user : List ℕ) (world : World) (old new : Name) (move : IsMove site user world old new) where
  abbrev seen : Names Seen
  seen = seen_in site user world

  abbrev seen_after : Names Seen
  seen_after = renamed old new seen

  abbrev taken : NameSet
  taken = map.insert (view_of site user world).taken old tt

  pub there : map.contains_key world.mailboxes old ≡ true
  there = held_is_there site user world old delete_mailbox move.deletable

  pub place : shows_names_below site user seen old ≡ true
  place =
      ap (λ s. shows_names_below site user s old) (sym (seen_is site user world))
      ∙ place_seen site user world old (shows_names (map.get (view_of site user world).seen old) delete_mailbox refl move.deletable)

  pub known : may_know_name site user seen new ≡ true
  unfolding view_of
  known = move.known

  -- all names at or below the new one are known
  known_below : (q : Name) → is_within new q ≡ true → may_know_name site user seen q ≡ true
  known_below q e = known_within site user world new known q e

  -- ---- nothing is at or below the new name

  free_seen : run_of new seen ≡ []
  free_seen = no_run new seen (λ q e. get_seen_in site user world q ∙ ap (option_and_then (seen_at site user q)) (none_found new world.mailboxes q move.free e))

  old_apart : (q : Name) → is_within new q ≡ true → is_name_at q old ≡ true → ⊥
  old_apart q e at =
      true≢false (sym there ∙ ap is_some (ap (map.get world.mailboxes) (sym (equal_names q old at)) ∙ none_found new world.mailboxes q move.free e))

  free_taken : run_of new taken ≡ []
  free_taken = no_run new taken (λ q e. get_put (view_of site user world).taken old tt q ∙ by q e (is_name_at q old) refl)
    where
      none : (b : Bool) → cond b (in_use None) None ≡ None
      none true = refl
      none false = refl

      by : (q : Name) → is_within new q ≡ true → (b : Bool) → is_name_at q old ≡ b → cond b (Some tt) (map.get (view_of site user world).taken q) ≡ None
      by q e true at = absurd (old_apart q e at)
      by q e false at =
          taken_at site user world q
          ∙ ap (λ o. cond (may_know_name site user seen q) (in_use o) None) (none_found new world.mailboxes q move.free e)
          ∙ none (may_know_name site user seen q)

  -- ---- what is seen

  seen_case : (q : Name) (b : Bool) → is_within new q ≡ b → (d : Bool)
      → option_and_then (seen_at site user q) (cond b (map.get world.mailboxes (moved new old q)) (cond d None (map.get world.mailboxes q)))
      ≡ cond b (map.get seen (moved new old q)) (cond d None (map.get seen q))
  seen_case q true e d =
      let from : Name = moved new old q in
      let inside : is_within old from ≡ true = moved_within new old q e in
      seen_alike site user q from (within_is_named new q move.new_named e) (within_is_named old from move.old_named inside)
      (within_one_root new q move.new_named e ∙ move.one_tree ∙ sym (within_one_root old from move.old_named inside))
      (map.get world.mailboxes from)
      ∙ sym (get_seen_in site user world from)
  seen_case q false e true = refl
  seen_case q false e false = sym (get_seen_in site user world q)

  moved_seen : seen_in site user (record world { mailboxes = renamed old new world.mailboxes }) ≡ seen_after
  moved_seen =
      same_names _ _ (λ q. get_seen_in site user (record world { mailboxes = renamed old new world.mailboxes }) q
      ∙ ap (option_and_then (seen_at site user q)) (get_renamed old new world.mailboxes q move.free)
      ∙ seen_case q (is_within new q) refl (is_within old q)
      ∙ sym (get_renamed old new seen q free_seen))

  place_case : (q : Name) (b : Bool) → is_within new q ≡ b → (d : Bool) → shows_names_with (cond b (map.get seen (moved new old q)) (cond d None (map.get seen q))) ≡ true
      → (shows_names_with (map.get seen q) ≡ true → IsCovered site user seen q) → IsCovered site user seen q
  place_case q true is d e stays = inr (known_below q is)
  place_case q false is true e stays = absurd (true≢false (sym e))
  place_case q false is false e stays = stays e

  -- no place comes that wasn't one or below one
  within : IsWithin site user seen_after seen
  within [] e = inl e
  within (root ∷ []) e = inl e
  within (deepest ∷ above ∷ more) e =
      place_case (deepest ∷ above ∷ more) (is_within new (deepest ∷ above ∷ more)) refl (is_within old (deepest ∷ above ∷ more))
      (ap shows_names_with (sym (get_renamed old new seen (deepest ∷ above ∷ more) free_seen)) ∙ e) (λ h. inl h)

  known_before : (q : Name) → may_know_name site user seen_after q ≡ true → may_know_name site user seen q ≡ true
  known_before q h = below_within site user seen_after seen within q h

  -- ---- the names in use

  -- the user knows of `old` by the right x, and of all below it since it is a place
  taken_within : (p : Name) → is_within old p ≡ true → in_use (map.get world.mailboxes p) ≡ map.get taken p
  taken_within p e =
      let (x, is) = below_from_within old p e in
      by x is (is_name_at p old) refl ∙ sym (get_put (view_of site user world).taken old tt p)
    where
      used : (o : Option Mailbox) → is_some o ≡ true → in_use o ≡ Some tt
      used None h = absurd (true≢false (sym h))
      used (Some m) h = refl

      by : (x : Name) → p ≡ x ++ old → (b : Bool) → is_name_at p old ≡ b → in_use (map.get world.mailboxes p) ≡ cond b (Some tt) (map.get (view_of site user world).taken p)
      by x is true at = ap (λ n. in_use (map.get world.mailboxes n)) (equal_names p old at) ∙ used (map.get world.mailboxes old) there
      by [] is false at = absurd (true≢false (sym (is_name_at-same p) ∙ ap (is_name_at p) is ∙ at))
      by (part ∷ x) is false at = taken_there site user world p (ap (may_know_name site user seen) is ∙ below_between site user world old place part x)

  taken_apart : (q : Name) → is_within old q ≡ false → may_know_name site user seen q ≡ true → in_use (map.get world.mailboxes q) ≡ map.get taken q
  taken_apart q out h = by (is_name_at q old) refl ∙ sym (get_put (view_of site user world).taken old tt q)
    where
      by : (b : Bool) → is_name_at q old ≡ b → in_use (map.get world.mailboxes q) ≡ cond b (Some tt) (map.get (view_of site user world).taken q)
      by true at = absurd (true≢false (sym (within_itself old) ∙ ap (is_within old) (sym (equal_names q old at)) ∙ out))
      by false at = taken_there site user world q h

  taken_case : (q : Name) → may_know_name site user seen q ≡ true → (b : Bool) → is_within new q ≡ b → (d : Bool) → is_within old q ≡ d
      → in_use (cond b (map.get world.mailboxes (moved new old q)) (cond d None (map.get world.mailboxes q))) ≡ cond b (map.get taken (moved new old q)) (cond d None (map.get taken q))
  taken_case q h true e d out = taken_within (moved new old q) (moved_within new old q e)
  taken_case q h false e true out = refl
  taken_case q h false e false out = taken_apart q out h

  -- ---- the view

  module _ (arrivals : List (Name × ℕ)) where
    abbrev after : World
    after = with_moved world old new arrivals

    abbrev seen_there : Names Seen
    seen_there = validities_shown seen_after arrivals

    all_seen : seen_in site user after ≡ seen_there
    all_seen =
        all_validities site user arrivals (record world { mailboxes = renamed old new world.mailboxes })
        ∙ ap (λ s. validities_shown s arrivals) moved_seen

    known_there : (q : Name) → may_know_name site user seen_there q ≡ true → may_know_name site user seen q ≡ true
    known_there q h = known_before q (sym (known_with site user arrivals seen_after q) ∙ h)

    all_taken : (q : Name) → may_know_name site user seen_there q ≡ true → in_use (map.get after.mailboxes q) ≡ map.get (renamed old new taken) q
    all_taken q h =
        all_arrived in_use (λ m validity. refl) (renamed old new world.mailboxes) arrivals q
        ∙ ap in_use (get_renamed old new world.mailboxes q move.free)
        ∙ taken_case q (known_there q h) (is_within new q) refl (is_within old q) refl
        ∙ sym (get_renamed old new taken q free_taken)

    all_epochs : (q : Name) → may_know_name site user seen_there q ≡ true → map.get after.epochs q ≡ map.get (inserted_all (view_of site user world).epochs arrivals) q
    all_epochs q h =
        inserted_alike world.epochs (view_of site user world).epochs arrivals q (epochs_there site user world q (known_there q h))

    -- whatever validities the mailboxes get
    pub moved_is_seen : view_of site user (with_moved world old new arrivals) ≡ view_with_moved (view_of site user world) old new arrivals
    unfolding view_of
    moved_is_seen =
        view_is_narrowed site user after seen_there (renamed old new taken) (inserted_all (view_of site user world).epochs arrivals)
        all_seen all_taken all_epochs
