-- Starts from worlds of which a user sees the same.
use Rattle.std.proofs.Common.{◌≡◌, ℕ, ◌+◌, ◌<◌, Bool, true, false, true≢false, cond, not, ◌&&◌, ◌||◌, eqb, nat_lt, List, [], ◌∷◌, length, Some, None, Result, Ok, Err, is_some, refl, sym, ap, subst, ◌∙◌, arith}
use Rattle.std.specs.Str.{bytes_eq}
use Rattle.std.specs.List.{AllByRecursion, IsDistinct, list_all}
use Rattle.std.specs.Prelude.{unwrap_or}
use Rattle.std.proofs.lemmas.Bool.{false_from_ne_true, not-true}
use Rattle.std.proofs.lemmas.Map.Keys.{IsDistinct-head, IsDistinct-tail}
use Rattle.std.proofs.lemmas.Slice.Eq.{bytes_eq-Decides}
use Rattle.std.specs.FinMap as map
use Rattle.imap_names.proofs.NameLaws.{equal_names, get_put, is_name_at}
use Rattle.imap_names.proofs.UserLaws.{user_name_facts}
use Rattle.imap_names.specs.Order.{Names}
use Rattle.imap_names.specs.UserName.{is_user_name}
use Rattle.imap_rights.specs.Acl.{owner_acl}
use Rattle.imap_view.proofs.Creating.{creatable_there, known_is_there}
use Rattle.imap_view.proofs.Narrowing.{get_epochs}
use Rattle.imap_view.proofs.Views.{contains_taken, site_of, user_of}
use Rattle.imap_view.specs.After.{HiddenIsAbsent, OthersInboxesAreHidden}
use Rattle.imap_view.specs.Seen.{owner_by_root, owner_of}
use Rattle.imap_view.specs.TreeAfter.{CreatingIsSeen, IsCreation, is_known, may_make, missing_in, validities_left, view_with}
use Rattle.imap_view.specs.View.{View, may_create, may_know_name, seen_in, view_of}
use Rattle.imap_world.proofs.Histories.{all_stay_kept}
use Rattle.imap_world.specs.declared.effect.Effect.TheVariants as effect
use Rattle.imap_world.specs.declared.error.WorldError.{WorldError}
use Rattle.imap_world.specs.declared.error.WorldError.TheVariants.{Limit, Taken}
use Rattle.imap_world.specs.declared.site.Site.{Site}
use Rattle.imap_world.specs.Effects.{after_all, after_result, after_writes, new_row, put_of, with_row, writes_then}
use Rattle.imap_world.specs.Kept.{AreKept}
use Rattle.imap_world.specs.NewMailbox.{NewMailbox}
use Rattle.imap_world.specs.Tree.{created_rows, with_last, with_rows}
use Rattle.imap_world.specs.World.{World, epoch, inbox, max_validity}
use Rattle.imap_sessions.proofs.Alike.{equal_alike}
use Rattle.imap_sessions.specs.Accounts.{Accounts}
use Rattle.imap_core.specs.Opening.{Admission, admission, needs_inbox, nobody, with_user, with_users}
use Rattle.imap_core.specs.Starting.{StartsAreAlike, gets_inbox, is_one_of}
use Rattle.imap_core.proofs.Starting.{admission_apart, asked_users, both, equal_users, fair, grown, inbox_row, inboxes, one_owner, or_true, room_left, written}

-- ---- the accounts

put_users : (world : World) (user : List ℕ) (so_far : Admission) → (with_user world user so_far).accounts ≡ cond (map.contains_key so_far.accounts user) so_far.accounts (map.insert so_far.accounts user map.empty)
put_users world user so_far = by (map.contains_key so_far.accounts user)
  where
    by : (b : Bool) → (cond b so_far (grown world so_far user)).accounts ≡ cond b so_far.accounts (map.insert so_far.accounts user map.empty)
    by true = refl
    by false = refl

-- they depend on no world
same_users : (one other : World) (users : List (List ℕ)) (here there : Admission) → here.accounts ≡ there.accounts → (with_users one users here).accounts ≡ (with_users other users there).accounts
same_users one other [] here there same = same
same_users one other (user ∷ users) here there same =
    same_users one other users (with_user one user here) (with_user other user there)
    (put_users one user here ∙ (λ i. cond (map.contains_key (same i) user) (same i) (map.insert (same i) user map.empty)) ∙ sym (put_users other user there))

-- ---- owners that are left

head_apart : (owner : List ℕ) (owners : List (List ℕ)) → AllByRecursion (λ other. bytes_eq owner other ≡ false) owners → is_one_of owners owner ≡ false
head_apart owner [] apart = refl
head_apart owner (other ∷ owners) apart = ap (λ b. b || is_one_of owners owner) apart.0 ∙ head_apart owner owners apart.1

all_valid : (users : List (List ℕ)) → list_all is_user_name users ≡ true → (user : List ℕ) → is_one_of users user ≡ true → is_user_name user ≡ true
all_valid [] valid user h = absurd (cc h)
all_valid (other ∷ users) valid user h = by (bytes_eq user other) refl h (all_valid users (both _ _ valid).1 user)
  where
    by : (b : Bool) → bytes_eq user other ≡ b → (b || is_one_of users user) ≡ true → (is_one_of users user ≡ true → is_user_name user ≡ true) → is_user_name user ≡ true
    by true e h rest = ap is_user_name (equal_users user other e) ∙ (both _ _ valid).0
    by false e h rest = rest h

-- for whom an INBOX is still to be made: nothing is under its name, and what was used there is as at the start
record AreLeft (base : World) (owners : List (List ℕ)) (world : World) : Type 0 where
  absent : (owner : List ℕ) → is_one_of owners owner ≡ true → map.contains_key world.mailboxes (inbox owner) ≡ false
  used : (owner : List ℕ) → is_one_of owners owner ≡ true → epoch world.epochs (inbox owner) ≡ epoch base.epochs (inbox owner)
  room : (owner : List ℕ) → is_one_of owners owner ≡ true → nat_lt (epoch base.epochs (inbox owner)) max_validity ≡ true
  valid : (owner : List ℕ) → is_one_of owners owner ≡ true → is_user_name owner ≡ true
  distinct : IsDistinct bytes_eq owners

-- what is found under the name of another INBOX, once one is put
put_apart : {X : Type 0} (m : Names X) (x : X) (owner other : List ℕ) → bytes_eq owner other ≡ false → map.get (map.insert m (inbox owner) x) (inbox other) ≡ map.get m (inbox other)
put_apart m x owner other apart = get_put m (inbox owner) x (inbox other) ∙ by (is_name_at (inbox other) (inbox owner)) refl
  where
    by : (b : Bool) → is_name_at (inbox other) (inbox owner) ≡ b → cond b (Some x) (map.get m (inbox other)) ≡ map.get m (inbox other)
    by true e = absurd (true≢false (sym ((bytes_eq-Decides owner other).1 (sym (one_owner other owner (equal_names (inbox other) (inbox owner) e)))) ∙ apart))
    by false e = refl

left_after : (base : World) (owner : List ℕ) (owners : List (List ℕ)) (world : World) → AreLeft base (owner ∷ owners) world → AreLeft base owners (with_row world (inbox_row base owner))
left_after base owner owners world left = record {
  absent = λ other is. ap is_some (put_apart world.mailboxes _ owner other (differs other is)) ∙ left.absent other (still other is);
  used = λ other is. ap (λ o. unwrap_or o 0) (put_apart world.epochs _ owner other (differs other is)) ∙ left.used other (still other is);
  room = λ other is. left.room other (still other is);
  valid = λ other is. left.valid other (still other is);
  distinct = IsDistinct-tail bytes_eq owner owners left.distinct;
}
  where
    still : (other : List ℕ) → is_one_of owners other ≡ true → is_one_of (owner ∷ owners) other ≡ true
    still other is = ap (λ b. bytes_eq other owner || b) is ∙ or_true (bytes_eq other owner)

    differs : (other : List ℕ) → is_one_of owners other ≡ true → bytes_eq owner other ≡ false
    differs other is = by (bytes_eq owner other) refl
      where
        by : (b : Bool) → bytes_eq owner other ≡ b → b ≡ false
        by true e = absurd (true≢false (sym (ap (is_one_of owners) (equal_users owner other e) ∙ is) ∙ head_apart owner owners (IsDistinct-head bytes_eq owner owners left.distinct)))
        by false e = refl

own_root : (site : Site) (user : List ℕ) → 0 < length user → owner_by_root site user ≡ user
own_root site [] some = absurd (omega (arith, some))
own_root site (octet ∷ octets) some = refl

one_result : (made : Result (List NewMailbox) WorldError) (rows others : List NewMailbox) → made ≡ Ok rows → made ≡ Ok others → rows ≡ others
one_result made rows others is also = cc (sym is ∙ also)

-- ---- what a user sees of it

module _ (site : Site) (user : List ℕ) where
  abbrev V : World → View
  V world = view_of site user world

  module _ (valid : is_user_name user ≡ true) (world : World) where
    own_tree : may_create (V world) (inbox user) ≡ true
    own_tree = (λ i. bytes_eq (owner_by_root (site_of site user world i) user) (user_of site user world i))
        ∙ ap (λ owner. bytes_eq owner user) (own_root site user (user_name_facts user valid).some) ∙ (bytes_eq-Decides user user).1 refl

    knows : may_know_name site user (seen_in site user world) (inbox user) ≡ true
    knows = creatable_there site user world (inbox user) own_tree

    with_known : (a b : Bool) → b ≡ true → (a && b) ≡ a
    with_known true b e = e
    with_known false b e = refl

    taken_own : map.contains_key (V world).taken (inbox user) ≡ map.contains_key world.mailboxes (inbox user)
    taken_own = contains_taken site user world (inbox user) ∙ with_known (map.contains_key world.mailboxes (inbox user)) _ knows

    used_own : epoch (V world).epochs (inbox user) ≡ epoch world.epochs (inbox user)
    unfolding view_of
    used_own = ap (λ o. unwrap_or o 0) (get_epochs site user (seen_in site user world) world (inbox user) ∙ ap (λ b. cond b (map.get world.epochs (inbox user)) None) knows)

  -- whether an INBOX is needed is in the view
  abbrev needs_in : View → Bool
  needs_in view = not (map.contains_key view.taken (inbox user)) && nat_lt (epoch view.epochs (inbox user)) max_validity

  needs_seen : is_user_name user ≡ true → (world : World) → needs_inbox world user ≡ needs_in (V world)
  needs_seen valid world = λ i. not (sym (taken_own valid world) i) && nat_lt (sym (used_own valid world) i) max_validity

  module _ (of_others : OthersInboxesAreHidden) (of_creations : CreatingIsSeen) (base : World) where
    one_made : (owner : List ℕ) (owners : List (List ℕ)) (world : World) → AreLeft base (owner ∷ owners) world → after_all (effect.CreateInbox owner ∷ []) world ≡ with_row world (inbox_row base owner)
    one_made owner owners world left =
        ap (λ b. after_result (writes_then (cond b (Err Taken) (put_of (new_row world.epochs (inbox owner) (owner_acl owner)))) (Ok [])) world) (left.absent owner here)
        ∙ ap (λ b. after_result (writes_then (put_of (cond b (Err Limit) (Ok (record { name = inbox owner; validity = epoch world.epochs (inbox owner) + 1; acl = owner_acl owner })))) (Ok [])) world) full
        ∙ ap (λ n. with_row world (record { name = inbox owner; validity = n + 1; acl = owner_acl owner })) (left.used owner here)
      where
        here : is_one_of (owner ∷ owners) owner ≡ true
        here = ap (λ b. b || is_one_of owners owner) ((bytes_eq-Decides owner owner).1 refl)

        full : eqb (epoch world.epochs (inbox owner)) max_validity ≡ false
        full = room_left (epoch world.epochs (inbox owner)) (ap (λ n. nat_lt n max_validity) (left.used owner here) ∙ left.room owner here)

    -- another's isn't seen
    other_put : (owner : List ℕ) (owners : List (List ℕ)) (world : World) → AreLeft base (owner ∷ owners) world → bytes_eq user owner ≡ false → V (with_row world (inbox_row base owner)) ≡ V world
    other_put owner owners world left apart =
        ap V (sym (one_made owner owners world left))
        ∙ of_others site user owner world (left.valid owner (ap (λ b. b || is_one_of owners owner) ((bytes_eq-Decides owner owner).1 refl)))
        (λ same. absurd (true≢false (sym ((bytes_eq-Decides user owner).1 (sym same)) ∙ apart)))

    -- the own one is seen as one that is created
    own_put : (owners : List (List ℕ)) (world : World) → AreLeft base (user ∷ owners) world → V (with_row world (inbox_row base user)) ≡ view_with (V world) (inbox user)
    own_put owners world left =
        ap V (ap (λ n. with_row world (record { name = inbox user; validity = n + 1; acl = owner_acl user })) (sym (left.used user here)))
        ∙ ap (λ rows. V (with_rows world rows)) rows_are ∙ creation.seen
      where
        here : is_one_of (user ∷ owners) user ≡ true
        here = ap (λ b. b || is_one_of owners user) ((bytes_eq-Decides user user).1 refl)

        valid : is_user_name user ≡ true
        valid = left.valid user here

        absent : map.contains_key world.mailboxes (inbox user) ≡ false
        absent = left.absent user here

        left_over : nat_lt (epoch world.epochs (inbox user)) max_validity ≡ true
        left_over = ap (λ n. nat_lt n max_validity) (left.used user here) ∙ left.room user here

        unknown : is_known (V world) (inbox user) ≡ false
        unknown = false_from_ne_true _ (λ e. true≢false (sym (known_is_there site user world (inbox user) e) ∙ absent))

        may : may_make (V world) (inbox user) ≡ true
        may =
            ap (λ b. b && (not (map.contains_key (V world).taken (inbox user)) && validities_left (V world) (missing_in (V world) (inbox user)))) (own_tree valid world)
            ∙ ap (λ b. not b && validities_left (V world) (missing_in (V world) (inbox user))) (taken_own valid world ∙ absent)
            ∙ ap (λ b. validities_left (V world) (cond b [] (inbox user ∷ []))) unknown
            ∙ ap (λ n. nat_lt n max_validity && true) (used_own valid world)
            ∙ ap (λ b. b && true) left_over

        creation : IsCreation site user world (inbox user)
        creation = of_creations site user world (inbox user) may

        one_row : NewMailbox
        one_row = record { name = inbox user; validity = epoch world.epochs (inbox user) + 1; acl = owner_acl user }

        rows_are : one_row ∷ [] ≡ creation.rows
        rows_are = one_result (created_rows world (owner_of site (inbox user)) (inbox user)) (one_row ∷ []) creation.rows
            (ap (λ b. cond b (Ok []) (with_last (Ok []) (new_row world.epochs (inbox user) (owner_acl (owner_by_root site user))))) absent
            ∙ ap (λ owner. with_last (Ok []) (new_row world.epochs (inbox user) (owner_acl owner))) (own_root site user (user_name_facts user valid).some)
            ∙ ap (λ b. with_last (Ok []) (cond b (Err Limit) (Ok one_row))) (room_left (epoch world.epochs (inbox user)) left_over))
            creation.made

    seen_after : (owners : List (List ℕ)) (world : World) → AreLeft base owners world → V (after_writes (inboxes base owners) world) ≡ cond (is_one_of owners user) (view_with (V world) (inbox user)) (V world)
    seen_after [] world left = refl
    seen_after (owner ∷ owners) world left =
        seen_after owners (with_row world (inbox_row base owner)) (left_after base owner owners world left) ∙ by (bytes_eq user owner) refl
      where
        Now : View
        Now = V (with_row world (inbox_row base owner))

        by : (b : Bool) → bytes_eq user owner ≡ b → cond (is_one_of owners user) (view_with Now (inbox user)) Now ≡ cond (b || is_one_of owners user) (view_with (V world) (inbox user)) (V world)
        by true e =
            ap (λ b. cond b (view_with Now (inbox user)) Now) (ap (is_one_of owners) (equal_users user owner e) ∙ head_apart owner owners (IsDistinct-head bytes_eq owner owners left.distinct))
            ∙ subst (λ u. V (with_row world (inbox_row base u)) ≡ view_with (V world) (inbox user)) (equal_users user owner e)
            (own_put owners world (subst (λ u. AreLeft base (u ∷ owners) world) (sym (equal_users user owner e)) left))
        by false e = let same = other_put owner owners world left e in λ i. cond (is_one_of owners user) (view_with (same i) (inbox user)) (same i)

-- ---- the start

module _ (of_others : OthersInboxesAreHidden) (of_creations : CreatingIsSeen) (administrator : List ℕ) (users : List (List ℕ)) (site : Site) (user : List ℕ) (valid : list_all is_user_name (administrator ∷ users) ≡ true) where
  abbrev all : List (List ℕ)
  all = administrator ∷ users

  all_left : (world : World) → AreLeft world (fair world administrator users).owners world
  all_left world = record {
    absent = λ owner is. not-true (map.contains_key world.mailboxes (inbox owner)) (both _ _ (needs owner is).1).0;
    used = λ owner is. refl;
    room = λ owner is. (both _ _ (needs owner is).1).1;
    valid = λ owner is. all_valid all valid owner (needs owner is).0;
    distinct = (fair world administrator users).distinct;
  }
    where
      needs : (owner : List ℕ) → is_one_of (fair world administrator users).owners owner ≡ true → (is_one_of all owner ≡ true) × (needs_inbox world owner ≡ true)
      needs owner is = both (is_one_of all owner) (needs_inbox world owner) (sym (asked_users world administrator users owner) ∙ is)

  start_seen : (world : World) → view_of site user (after_all (admission world administrator users).effects world) ≡ cond (gets_inbox world all user) (view_with (view_of site user world) (inbox user)) (view_of site user world)
  start_seen world =
      ap (view_of site user) (written world administrator users)
      ∙ seen_after site user of_others of_creations world (fair world administrator users).owners world (all_left world)
      ∙ ap (λ b. cond b (view_with (view_of site user world) (inbox user)) (view_of site user world)) (asked_users world administrator users user)

  gets_alike : (one other : World) → view_of site user one ≡ view_of site user other → gets_inbox one all user ≡ gets_inbox other all user
  gets_alike one other same = by (is_one_of all user) refl
    where
      by : (b : Bool) → is_one_of all user ≡ b → (b && needs_inbox one user) ≡ (b && needs_inbox other user)
      by false e = refl
      by true e = let own = all_valid all valid user e in needs_seen site user own one ∙ ap (needs_in site user) same ∙ sym (needs_seen site user own other)

  starts_seen : (one other : World) → view_of site user one ≡ view_of site user other
      → view_of site user (after_all (admission one administrator users).effects one) ≡ view_of site user (after_all (admission other administrator users).effects other)
  starts_seen one other same =
      start_seen one
      ∙ (λ i. cond (gets_alike one other same i) (view_with (same i) (inbox user)) (same i))
      ∙ sym (start_seen other)

kept_start : (administrator : List ℕ) (users : List (List ℕ)) (world : World) → AreKept world.mailboxes → AreKept (after_all (admission world administrator users).effects world).mailboxes
kept_start administrator users world kept = all_stay_kept world ((admission world administrator users).effects ∷ []) (admission_apart world administrator users, tt) kept

pub starts_alike : OthersInboxesAreHidden → CreatingIsSeen → HiddenIsAbsent → StartsAreAlike
starts_alike of_others of_creations of_hidden administrator users groups limits user one other valid kept kept_other differ =
    let site : Site = record { administrator = administrator; limits = limits; groups = groups } in
    record {
      views = starts_seen of_others of_creations administrator users site user valid one other (of_hidden site user one other differ);
      sessions = equal_alike (after_all (admission one administrator users).effects one) user _ _
          (ap (λ (accounts : Accounts). map.get accounts user) (same_users one other (administrator ∷ users) nobody nobody refl));
      kept = kept_start administrator users one kept;
      kept_other = kept_start administrator users other kept_other;
    }
