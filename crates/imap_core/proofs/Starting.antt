-- What a host starts with.
use Rattle.std.proofs.Common.{◌≡◌, ◌≢◌, inr, ℕ, ◌+◌, Bool, true, false, true≢false, cond, not, ◌&&◌, ◌||◌, eqb, nat_lt, List, [], ◌∷◌, ◌++◌, append-nil, map as map_list, Some, None, Ok, Err, is_some, refl, sym, ap, subst, ◌∙◌, arith}
use Rattle.std.specs.Str.{bytes_eq}
use Rattle.std.specs.Cmp.{IsEquivalence}
use Rattle.std.specs.List.{IsDistinct, filter_map, list_all}
use Rattle.std.proofs.lemmas.Bool.{not-true}
use Rattle.std.proofs.lemmas.Bool.Decides.{nat_tests}
use Rattle.std.proofs.lemmas.Map.Keys.{IsDistinct-push}
use Rattle.std.proofs.lemmas.List.{map-append}
use Rattle.std.proofs.lemmas.List.Folds.{list_all-append, list_any-append}
use Rattle.std.proofs.lemmas.Slice.Eq.{bytes_eq-Decides}
use Rattle.std.specs.FinMap as map
use Rattle.std.specs.FinMap.{get-empty, get-insert}
use Rattle.std.specs.Cmp.Lexicographic.{nat_list_cmp_total, slice_cmp}
use Rattle.std.proofs.lemmas.Map.Text.{is_eq-slice_cmp}
use Rattle.std.specs.Ordering.{nat_cmp}
use Rattle.std.specs.Prelude.{codes, unwrap_or}
use Rattle.imap_names.specs.Name.{Name}
use Rattle.imap_names.specs.Order.{Names}
use Rattle.imap_names.proofs.NameLaws.{equal_names, get_put, is_name_at, is_name_at-same, name_of-same}
use Rattle.imap_world.specs.declared.change.Write.{Write}
use Rattle.imap_world.specs.declared.change.Write.TheVariants as write
use Rattle.imap_world.specs.declared.effect.Effect.{Effect}
use Rattle.imap_world.specs.declared.effect.Effect.TheVariants as effect
use Rattle.imap_world.specs.declared.error.WorldError.TheVariants.{Limit, Taken}
use Rattle.imap_rights.specs.Acl.{owner_acl}
use Rattle.imap_world.specs.Tree.{new_row}
use Rattle.imap_world.specs.Effects.{after_all, after_result, after_writes, put_of, puts, with_row, writes_of, writes_then}
use Rattle.imap_world.specs.Ready.{AreApart, inbox_owner, is_plain}
use Rattle.imap_world.specs.NewMailbox.{NewMailbox}
use Rattle.imap_world.specs.World.{World, epoch, inbox, max_validity}
use Rattle.imap_sessions.specs.Accounts.{Accounts}
use Rattle.imap_core.specs.Opening.{Admission, admission, inbox_for, needs_inbox, nobody, with_user, with_users}
use Rattle.imap_sessions.specs.Sessions.{Own}
use Rattle.imap_core.specs.Starting.{StartsWithInboxes, gets_inbox, is_one_of, new_inbox}

pub equal_users : (user other : List ℕ) → bytes_eq user other ≡ true → user ≡ other
equal_users user other e = (bytes_eq-Decides user other).0 e

pub both : (a b : Bool) → (a && b) ≡ true → (a ≡ true) × (b ≡ true)
both true b h = (refl, h)
both false b h = absurd (cc h)

pub or_false : (b : Bool) → (b || false) ≡ b
or_false true = refl
or_false false = refl

pub or_true : (b : Bool) → (b || true) ≡ true
or_true true = refl
or_true false = refl

or_three : (a b c : Bool) → ((a || b) || c) ≡ (a || (b || c))
or_three true b c = refl
or_three false b c = refl

same_bytes : IsEquivalence bytes_eq
same_bytes = record {
  refl = λ x. (bytes_eq-Decides x x).1 refl;
  symm = λ x y. by x y (bytes_eq x y) refl (bytes_eq y x) refl;
  congr = λ x y z e. ap (λ u. bytes_eq u z) (equal_users x y e);
}
  where
    by : (x y : List ℕ) (a : Bool) → bytes_eq x y ≡ a → (b : Bool) → bytes_eq y x ≡ b → bytes_eq x y ≡ bytes_eq y x
    by x y true e true f = e ∙ sym f
    by x y false e false f = e ∙ sym f
    by x y true e false f = absurd (true≢false (sym ((bytes_eq-Decides y x).1 (sym (equal_users x y e))) ∙ f))
    by x y false e true f = absurd (true≢false (sym ((bytes_eq-Decides x y).1 (sym (equal_users y x f))) ∙ e))

-- ---- the users

-- an account, after one was put without sessions
account_put : (accounts : Accounts) (user other : List ℕ) → map.get (map.insert accounts user map.empty) other ≡ cond (bytes_eq other user) (Some map.empty) (map.get accounts other)
account_put accounts user other = get-insert nat_list_cmp_total accounts user map.empty other ∙ ap (λ b. cond b (Some map.empty) (map.get accounts other)) (is_eq-slice_cmp other user)

-- one more user is known
known_with : (accounts : Accounts) (user other : List ℕ) → map.contains_key (map.insert accounts user map.empty) other ≡ (map.contains_key accounts other || bytes_eq other user)
known_with accounts user other = ap is_some (account_put accounts user other) ∙ by (bytes_eq other user)
  where
    by : (b : Bool) → is_some (cond b (Some (map.empty {X = _} {R = nat_cmp})) (map.get accounts other)) ≡ (map.contains_key accounts other || b)
    by true = sym (or_true (map.contains_key accounts other))
    by false = sym (or_false (map.contains_key accounts other))

-- who is known already is so anyway
known_anyway : (accounts : Accounts) (user other : List ℕ) → map.contains_key accounts user ≡ true → map.contains_key accounts other ≡ (map.contains_key accounts other || bytes_eq other user)
known_anyway accounts user other known = by (bytes_eq other user) refl
  where
    by : (b : Bool) → bytes_eq other user ≡ b → map.contains_key accounts other ≡ (map.contains_key accounts other || b)
    by true e = ap (map.contains_key accounts) (equal_users other user e) ∙ known ∙ sym (or_true (map.contains_key accounts other))
    by false e = sym (or_false (map.contains_key accounts other))

-- with a user who wasn't known
abbrev pub grown : World → Admission → List ℕ → Admission
grown world so_far user = record { accounts = map.insert so_far.accounts user map.empty; effects = so_far.effects ++ inbox_for world user }

known_next : (world : World) (user : List ℕ) (so_far : Admission) (other : List ℕ) → map.contains_key (with_user world user so_far).accounts other ≡ (map.contains_key so_far.accounts other || bytes_eq other user)
known_next world user so_far other = by (map.contains_key so_far.accounts user) refl
  where
    by : (b : Bool) → map.contains_key so_far.accounts user ≡ b → map.contains_key (cond b so_far (grown world so_far user)).accounts other ≡ (map.contains_key so_far.accounts other || bytes_eq other user)
    by true known = known_anyway so_far.accounts user other known
    by false unknown = known_with so_far.accounts user other

known_all : (world : World) (users : List (List ℕ)) (so_far : Admission) (other : List ℕ) → map.contains_key (with_users world users so_far).accounts other ≡ (map.contains_key so_far.accounts other || is_one_of users other)
known_all world [] so_far other = sym (or_false (map.contains_key so_far.accounts other))
known_all world (user ∷ users) so_far other =
    known_all world users (with_user world user so_far) other
    ∙ ap (λ b. b || is_one_of users other) (known_next world user so_far other)
    ∙ or_three (map.contains_key so_far.accounts other) (bytes_eq other user) (is_one_of users other)

-- ---- what is asked for them

abbrev pub creations : List (List ℕ) → List Effect
creations users = map_list (λ user. effect.CreateInbox user) users

-- the user alone, if an INBOX is needed
abbrev owner_for : World → List ℕ → List (List ℕ)
owner_for world user = cond (needs_inbox world user) (user ∷ []) []

-- an INBOX is asked for exactly those who are known and need one; nothing else is asked, and no session is open
pub record IsFair (world : World) (so_far : Admission) : Type 0 where
  pub owners : List (List ℕ)
  pub effects : so_far.effects ≡ creations owners
  pub asked : (user : List ℕ) → is_one_of owners user ≡ (map.contains_key so_far.accounts user && needs_inbox world user)
  pub needed : list_all (needs_inbox world) owners ≡ true
  pub distinct : IsDistinct bytes_eq owners
  pub closed : (user : List ℕ) (own : Own) → map.get so_far.accounts user ≡ Some own → own ≡ map.empty

one_creation : (user : List ℕ) (needs : Bool) → cond needs (effect.CreateInbox user ∷ []) [] ≡ creations (cond needs (user ∷ []) [])
one_creation user true = refl
one_creation user false = refl

one_owner_asked : (user other : List ℕ) (needs : Bool) → is_one_of (cond needs (user ∷ []) []) other ≡ (bytes_eq other user && needs)
one_owner_asked user other needs = by (bytes_eq other user) needs refl
  where
    by : (same needs : Bool) → bytes_eq other user ≡ same → is_one_of (cond needs (user ∷ []) []) other ≡ (same && needs)
    by true true e = ap (λ b. b || false) e
    by false true e = ap (λ b. b || false) e
    by true false e = refl
    by false false e = refl

one_owner_needed : (world : World) (user : List ℕ) (needs : Bool) → needs_inbox world user ≡ needs → list_all (needs_inbox world) (cond needs (user ∷ []) []) ≡ true
one_owner_needed world user true e = ap (λ b. b && true) e
one_owner_needed world user false e = refl

module _ (world : World) (so_far : Admission) (fair : IsFair world so_far) (user : List ℕ) where
  effects_grown : (grown world so_far user).effects ≡ creations (fair.owners ++ owner_for world user)
  effects_grown =
      ap (λ effects. effects ++ inbox_for world user) fair.effects
      ∙ ap (λ effects. creations fair.owners ++ effects) (one_creation user (needs_inbox world user))
      ∙ sym (map-append (λ user. effect.CreateInbox user) fair.owners (owner_for world user))

  asked_grown : map.contains_key so_far.accounts user ≡ false → (other : List ℕ) → is_one_of (fair.owners ++ owner_for world user) other ≡ (map.contains_key (grown world so_far user).accounts other && needs_inbox world other)
  asked_grown unknown other =
      list_any-append (bytes_eq other) fair.owners (owner_for world user)
      ∙ ap (λ b. b || is_one_of (owner_for world user) other) (fair.asked other)
      ∙ ap (λ b. (map.contains_key so_far.accounts other && needs_inbox world other) || b) (one_owner_asked user other (needs_inbox world user))
      ∙ by (bytes_eq other user) refl
      ∙ ap (λ b. b && needs_inbox world other) (sym (known_with so_far.accounts user other))
    where
      by : (b : Bool) → bytes_eq other user ≡ b
          → ((map.contains_key so_far.accounts other && needs_inbox world other) || (b && needs_inbox world user)) ≡ ((map.contains_key so_far.accounts other || b) && needs_inbox world other)
      by true e = subst (λ u. ((map.contains_key so_far.accounts u && needs_inbox world u) || needs_inbox world user) ≡ ((map.contains_key so_far.accounts u || true) && needs_inbox world u)) (sym (equal_users other user e))
          (ap (λ b. (b && needs_inbox world user) || needs_inbox world user) unknown ∙ sym (ap (λ b. (b || true) && needs_inbox world user) unknown))
      by false e = or_false (map.contains_key so_far.accounts other && needs_inbox world other)
          ∙ sym (ap (λ b. b && needs_inbox world other) (or_false (map.contains_key so_far.accounts other)))

  needed_grown : list_all (needs_inbox world) (fair.owners ++ owner_for world user) ≡ true
  needed_grown =
      list_all-append (needs_inbox world) fair.owners (owner_for world user)
      ∙ ap (λ b. b && list_all (needs_inbox world) (owner_for world user)) fair.needed
      ∙ one_owner_needed world user (needs_inbox world user) refl

  distinct_by : (needs : Bool) → is_one_of fair.owners user ≡ false → IsDistinct bytes_eq (fair.owners ++ cond needs (user ∷ []) [])
  distinct_by true absent = IsDistinct-push same_bytes fair.owners user fair.distinct absent
  distinct_by false absent = subst (IsDistinct bytes_eq) (sym (append-nil fair.owners)) fair.distinct

  distinct_grown : map.contains_key so_far.accounts user ≡ false → IsDistinct bytes_eq (fair.owners ++ owner_for world user)
  distinct_grown unknown = distinct_by (needs_inbox world user) (fair.asked user ∙ ap (λ b. b && needs_inbox world user) unknown)

  closed_grown : (other : List ℕ) (own : Own) → map.get (grown world so_far user).accounts other ≡ Some own → own ≡ map.empty
  closed_grown other own is = by (bytes_eq other user) (sym (account_put so_far.accounts user other) ∙ is)
    where
      by : (b : Bool) → cond b (Some map.empty) (map.get so_far.accounts other) ≡ Some own → own ≡ map.empty
      by true e = cc e
      by false e = fair.closed other own e

  fair_next : IsFair world (with_user world user so_far)
  fair_next = by (map.contains_key so_far.accounts user) refl
    where
      by : (b : Bool) → map.contains_key so_far.accounts user ≡ b → IsFair world (cond b so_far (grown world so_far user))
      by true known = fair
      by false unknown = record {
        owners = fair.owners ++ owner_for world user;
        effects = effects_grown;
        asked = asked_grown unknown;
        needed = needed_grown;
        distinct = distinct_grown unknown;
        closed = closed_grown;
      }

fair_all : (world : World) (users : List (List ℕ)) (so_far : Admission) → IsFair world so_far → IsFair world (with_users world users so_far)
fair_all world [] so_far fair = fair
fair_all world (user ∷ users) so_far fair = fair_all world users (with_user world user so_far) (fair_next world so_far fair user)

no_account : (user : List ℕ) → map.get nobody.accounts user ≡ None
no_account user = get-empty (slice_cmp nat_cmp) user

nobody_is_fair : (world : World) → IsFair world nobody
unfolding IsDistinct
nobody_is_fair world = record {
  owners = [];
  effects = refl;
  asked = λ user. ap (λ o. is_some o && needs_inbox world user) (sym (no_account user));
  needed = refl;
  distinct = tt;
  closed = λ user own is. absurd (cc (sym (no_account user) ∙ is));
}

all_plain : (users : List (List ℕ)) → list_all is_plain (creations users) ≡ true
all_plain [] = refl
all_plain (user ∷ users) = all_plain users

owners_of : (users : List (List ℕ)) → filter_map inbox_owner (creations users) ≡ users
owners_of [] = refl
owners_of (user ∷ users) = ap (λ others. user ∷ others) (owners_of users)

-- ---- what is written

abbrev pub inbox_row : World → List ℕ → NewMailbox
inbox_row base user = record { name = inbox user; validity = epoch base.epochs (inbox user) + 1; acl = owner_acl user }

abbrev pub inboxes : World → List (List ℕ) → List Write
inboxes base users = puts (map_list (inbox_row base) users)

pub room_left : (used : ℕ) → nat_lt used max_validity ≡ true → eqb used max_validity ≡ false
room_left used h = grind (arith, nat_tests)

all_written : (base : World) (users : List (List ℕ)) → list_all (needs_inbox base) users ≡ true → writes_of (creations users) base ≡ Ok (inboxes base users)
all_written base [] h = refl
all_written base (user ∷ users) h =
    let parts = both (needs_inbox base user) (list_all (needs_inbox base) users) h in
    let room = both (not (map.contains_key base.mailboxes (inbox user))) (nat_lt (epoch base.epochs (inbox user)) max_validity) parts.0 in
    let absent : map.contains_key base.mailboxes (inbox user) ≡ false = not-true (map.contains_key base.mailboxes (inbox user)) room.0 in
    ap (λ b. writes_then (cond b (Err Taken) (put_of (new_row base.epochs (inbox user) (owner_acl user)))) (writes_of (creations users) base)) absent
    ∙ ap (λ b. writes_then (put_of (cond b (Err Limit) (Ok (inbox_row base user)))) (writes_of (creations users) base)) (room_left (epoch base.epochs (inbox user)) room.1)
    ∙ ap (writes_then (Ok (write.Put (inbox_row base user) ∷ []))) (all_written base users parts.1)

same_subscriptions : (base : World) (users : List (List ℕ)) (world : World) → (after_writes (inboxes base users) world).subscriptions ≡ world.subscriptions
same_subscriptions base [] world = refl
same_subscriptions base (user ∷ users) world = same_subscriptions base users (with_row world (inbox_row base user))

pub one_owner : (user owner : List ℕ) → inbox user ≡ inbox owner → user ≡ owner
one_owner user owner e = (name_of-same user owner (codes "INBOX" ∷ []) (codes "INBOX" ∷ []) e).0

-- what is put under the name of each INBOX
abbrev put_each : {X : Type 0} → (List ℕ → X) → List (List ℕ) → Names X → Names X
put_each value [] m = m
put_each value (owner ∷ owners) m = put_each value owners (map.insert m (inbox owner) (value owner))

mailboxes_are : (base : World) (owners : List (List ℕ)) (world : World) → (after_writes (inboxes base owners) world).mailboxes ≡ put_each (new_inbox base) owners world.mailboxes
mailboxes_are base [] world = refl
mailboxes_are base (owner ∷ owners) world = mailboxes_are base owners (with_row world (inbox_row base owner))

abbrev next_epoch : World → List ℕ → ℕ
next_epoch base user = epoch base.epochs (inbox user) + 1

epochs_are : (base : World) (owners : List (List ℕ)) (world : World) → (after_writes (inboxes base owners) world).epochs ≡ put_each (next_epoch base) owners world.epochs
epochs_are base [] world = refl
epochs_are base (owner ∷ owners) world = epochs_are base owners (with_row world (inbox_row base owner))

module _ {X : Type 0} (value : List ℕ → X) where
  -- what was put for one user stays when others are put
  put_stays : (user : List ℕ) (owners : List (List ℕ)) (m : Names X) → map.get m (inbox user) ≡ Some (value user) → map.get (put_each value owners m) (inbox user) ≡ Some (value user)
  put_stays user [] m is = is
  put_stays user (owner ∷ owners) m is =
      put_stays user owners (map.insert m (inbox owner) (value owner))
      (get_put m (inbox owner) (value owner) (inbox user) ∙ by (is_name_at (inbox user) (inbox owner)) refl)
    where
      by : (b : Bool) → is_name_at (inbox user) (inbox owner) ≡ b → cond b (Some (value owner)) (map.get m (inbox user)) ≡ Some (value user)
      by true e = ap (λ u. Some (value u)) (sym (one_owner user owner (equal_names (inbox user) (inbox owner) e)))
      by false e = is

  put_made : (user : List ℕ) (owners : List (List ℕ)) (m : Names X) → is_one_of owners user ≡ true → map.get (put_each value owners m) (inbox user) ≡ Some (value user)
  put_made user [] m h = absurd (cc h)
  put_made user (owner ∷ owners) m h = by (bytes_eq user owner) refl (put_made user owners (map.insert m (inbox owner) (value owner)))
    where
      here : user ≡ owner → map.get (map.insert m (inbox owner) (value owner)) (inbox user) ≡ Some (value user)
      here same = subst (λ o. map.get (map.insert m (inbox o) (value o)) (inbox user) ≡ Some (value user)) same
          (get_put m (inbox user) (value user) (inbox user)
          ∙ ap (λ b. cond b (Some (value user)) (map.get m (inbox user))) (is_name_at-same (inbox user)))

      Made : Type 0
      Made = map.get (put_each value owners (map.insert m (inbox owner) (value owner))) (inbox user) ≡ Some (value user)

      by : (b : Bool) → bytes_eq user owner ≡ b → (is_one_of owners user ≡ true → Made) → Made
      by true e later = put_stays user owners (map.insert m (inbox owner) (value owner)) (here (equal_users user owner e))
      by false e later = later (sym (ap (λ b. b || is_one_of owners user) e) ∙ h)

  other_kept : (name : Name) (owners : List (List ℕ)) (m : Names X) → ((user : List ℕ) → is_one_of owners user ≡ true → name ≢ inbox user)
      → map.get (put_each value owners m) name ≡ map.get m name
  other_kept name [] m apart = refl
  other_kept name (owner ∷ owners) m apart =
      other_kept name owners (map.insert m (inbox owner) (value owner))
      (λ user asked. apart user (ap (λ b. bytes_eq user owner || b) asked ∙ or_true (bytes_eq user owner)))
      ∙ get_put m (inbox owner) (value owner) name
      ∙ by (is_name_at name (inbox owner)) refl
    where
      by : (b : Bool) → is_name_at name (inbox owner) ≡ b → cond b (Some (value owner)) (map.get m name) ≡ map.get m name
      by true e = absurd (apart owner (ap (λ b. b || is_one_of owners owner) ((bytes_eq-Decides owner owner).1 refl)) (equal_names name (inbox owner) e))
      by false e = refl

-- ---- the start

module _ (world : World) (administrator : List ℕ) (users : List (List ℕ)) where
  abbrev all : List (List ℕ)
  all = administrator ∷ users

  abbrev admitted : Admission
  admitted = admission world administrator users

  pub fair : IsFair world admitted
  fair = fair_all world all nobody (nobody_is_fair world)

  pub admission_apart : AreApart admitted.effects
  admission_apart = inr (record {
    plain = ap (list_all is_plain) fair.effects ∙ all_plain fair.owners;
    owners = subst (IsDistinct bytes_eq) (sym (ap (filter_map inbox_owner) fair.effects ∙ owners_of fair.owners)) fair.distinct;
  })

  pub written : after_all admitted.effects world ≡ after_writes (inboxes world fair.owners) world
  written = ap (λ r. after_result r world) (ap (λ effects. writes_of effects world) fair.effects ∙ all_written world fair.owners fair.needed)

  pub known_users : (user : List ℕ) → map.contains_key admitted.accounts user ≡ is_one_of all user
  known_users user = known_all world all nobody user ∙ ap (λ o. is_some o || is_one_of all user) (no_account user)

  pub asked_users : (user : List ℕ) → is_one_of fair.owners user ≡ gets_inbox world all user
  asked_users user = fair.asked user ∙ ap (λ b. b && needs_inbox world user) (known_users user)

pub starts_so : StartsWithInboxes
starts_so world administrator users groups limits =
    let owners = (fair world administrator users).owners in
    let made = written world administrator users in
    let mailboxes : (after_all (admission world administrator users).effects world).mailboxes ≡ put_each (new_inbox world) owners world.mailboxes =
    ap (λ w. w.mailboxes) made ∙ mailboxes_are world owners world in
    let epochs : (after_all (admission world administrator users).effects world).epochs ≡ put_each (next_epoch world) owners world.epochs =
    ap (λ w. w.epochs) made ∙ epochs_are world owners world in
    record {
      same_site = refl;
      new_inboxes = λ user gets. ap (λ m. map.get m (inbox user)) mailboxes
          ∙ put_made (new_inbox world) user owners world.mailboxes (asked_users world administrator users user ∙ gets);
      other_mailboxes = λ name apart. ap (λ m. map.get m name) mailboxes
          ∙ other_kept (new_inbox world) name owners world.mailboxes (λ user asked. apart user (sym (asked_users world administrator users user) ∙ asked));
      new_validities = λ user gets. ap (λ m. epoch m (inbox user)) epochs
          ∙ ap (λ o. unwrap_or o 0) (put_made (next_epoch world) user owners world.epochs (asked_users world administrator users user ∙ gets));
      other_validities = λ name apart. ap (λ m. epoch m name) epochs
          ∙ ap (λ o. unwrap_or o 0) (other_kept (next_epoch world) name owners world.epochs (λ user asked. apart user (sym (asked_users world administrator users user) ∙ asked)));
      subscriptions = ap (λ w. w.subscriptions) made ∙ same_subscriptions world owners world;
      accounts = known_users world administrator users;
      sessions = (fair world administrator users).closed;
    }
