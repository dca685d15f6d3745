-- Sessions and accounts, with the room of their known lists and without.
use Rattle.std.proofs.Common.{◌≡◌, ℕ, ◌≤◌, Bool, true, false, cond, List, [], ◌∷◌, Option, Some, None, refl, sym, ap, subst, ◌∙◌, arith}
use Rattle.std.specs.Prelude.{option_and_then, option_map}
use Rattle.std.proofs.lemmas.Bool.{eqb-true}
use Rattle.std.specs.Ordering.{nat_cmp, eq_by_cmp}
use Rattle.std.specs.Cmp.{nat_cmp_total}
use Rattle.std.specs.Cmp.Lexicographic.{slice_cmp, nat_list_cmp_total}
use Rattle.std.specs.FinMap as map
use Rattle.std.specs.FinMap.{find, get-empty, get-from_entries, get-insert, same_map, nat_cmp-IsAntisymmetric, slice_cmp-IsAntisymmetric}
use Rattle.std.proofs.lemmas.Map.Text.{is_eq-slice_cmp}
use Rattle.std.proofs.lemmas.Slice.Eq.{bytes_eq-Decides}
use Rattle.imap_user_map.proofs.KeptValues.{get-keep}
use Rattle.imap_session.specs.State.{HasRoomFor, Selection}
use Rattle.imap_sessions.specs.Accounts.{Accounts, HeldAccounts, accounts_of, own_at}
use Rattle.imap_sessions.specs.Held.{HeldSession, room_in}
use Rattle.imap_sessions.specs.Sessions.{HeldOwn, Own, own_of, state_at, states_of}
use Rattle.imap_sessions.proofs.Numbered.{at_number}

-- ---- room for messages of a selected mailbox

pub fewer_fit : (less more room : ℕ) (selected : Option Selection) → less ≤ more → HasRoomFor more room selected → HasRoomFor less room selected
fewer_fit less more room None le fits = tt
fewer_fit less more room (Some s) le fits = omega (arith, le, fits)

pub more_fits : (more room greater : ℕ) (selected : Option Selection) → room ≤ greater → HasRoomFor more room selected → HasRoomFor more greater selected
more_fits more room greater None le fits = tt
more_fits more room greater (Some s) le fits = omega (arith, le, fits)

pub none_fit : (room : ℕ) (selected : Option Selection) → HasRoomFor 0 room selected
none_fit room None = tt
none_fit room (Some s) = omega arith

-- ---- the sessions of a user

get_own : (own : HeldOwn) (q : ℕ) → map.get (own_of own) q ≡ option_and_then (state_at q) (map.get own q)
get_own own q = get-keep nat_cmp state_at nat_cmp-IsAntisymmetric own q

find_states : (q : ℕ) (es : List (ℕ × HeldSession)) → option_and_then (state_at q) (find nat_cmp q es) ≡ find nat_cmp q (states_of es)
find_states q [] = refl
find_states q (e ∷ es) = by (eq_by_cmp nat_cmp q e.0) (find_states q es)
  where
    by : (b : Bool) → option_and_then (state_at q) (find nat_cmp q es) ≡ find nat_cmp q (states_of es)
        → option_and_then (state_at q) (cond b (Some e.1) (find nat_cmp q es)) ≡ cond b (Some e.1.state) (find nat_cmp q (states_of es))
    by true rest = refl
    by false rest = rest

abbrev pub held : List (ℕ × HeldSession) → HeldOwn
held es = map.from_entries es

abbrev pub stated : List (ℕ × HeldSession) → Own
stated es = map.from_entries (states_of es)

-- room may be dropped before entries are seen as a map, or after
pub own_entries : (es : List (ℕ × HeldSession)) → own_of (held es) ≡ stated es
own_entries es = same_map nat_cmp_total nat_cmp-IsAntisymmetric (own_of (held es)) (stated es)
    (λ q. get_own (held es) q ∙ ap (option_and_then (state_at q)) (get-from_entries nat_cmp_total es q) ∙ find_states q es
    ∙ sym (get-from_entries nat_cmp_total (states_of es) q))

pub view_own : (es : List (ℕ × HeldSession)) (own : HeldOwn) → held es ≡ own → stated es ≡ own_of own
view_own es own is = sym (own_entries es) ∙ ap own_of is

-- entries with the same states
pub own_same : (fs es : List (ℕ × HeldSession)) (own : HeldOwn) → states_of fs ≡ states_of es → held es ≡ own → own_of (held fs) ≡ own_of own
own_same fs es own same is = own_entries fs ∙ ap map.from_entries same ∙ view_own es own is

pub own_empty : own_of map.empty ≡ map.empty
own_empty = same_map nat_cmp_total nat_cmp-IsAntisymmetric (own_of map.empty) map.empty
    (λ q. get_own map.empty q ∙ ap (option_and_then (state_at q)) (get-empty nat_cmp q) ∙ sym (get-empty nat_cmp q))

-- a session that gets room leaves that of the others
pub room_put : (own new : HeldOwn) (k : ℕ) (before after : HeldSession) → map.get own k ≡ Some before → before.room ≤ after.room
    → new ≡ map.insert own k after → (other : ℕ) → room_in (map.get own other) ≤ room_in (map.get new other)
room_put own new k before after there more is other =
    subst (λ (o : Option HeldSession). room_in (map.get own other) ≤ room_in o)
    (sym (ap (λ (own : HeldOwn). map.get own other) is ∙ get-insert nat_cmp_total own k after other)) (by (eq_by_cmp nat_cmp other k) refl)
  where
    by : (b : Bool) → eq_by_cmp nat_cmp other k ≡ b → room_in (map.get own other) ≤ room_in (cond b (Some after) (map.get own other))
    by true e = subst (λ (o : Option HeldSession). room_in o ≤ after.room) (sym (ap (map.get own) (eqb-true other k (sym (at_number other k) ∙ e)) ∙ there)) more
    by false e = omega arith

-- ---- the accounts

pub get_accounts : (accounts : HeldAccounts) (user : List ℕ) → map.get (accounts_of accounts) user ≡ option_map own_of (map.get accounts user)
get_accounts accounts user = get-keep (slice_cmp nat_cmp) own_at (slice_cmp-IsAntisymmetric nat_cmp-IsAntisymmetric) accounts user ∙ by (map.get accounts user)
  where
    by : (own : Option HeldOwn) → option_and_then (own_at user) own ≡ option_map own_of own
    by None = refl
    by (Some own) = refl

pub put_accounts : (accounts : HeldAccounts) (user : List ℕ) (own : HeldOwn) → accounts_of (map.insert accounts user own) ≡ map.insert (accounts_of accounts) user (own_of own)
put_accounts accounts user own =
    same_map nat_list_cmp_total (slice_cmp-IsAntisymmetric nat_cmp-IsAntisymmetric) (accounts_of (map.insert accounts user own)) (map.insert (accounts_of accounts) user (own_of own))
    (λ q. get_accounts (map.insert accounts user own) q ∙ ap (option_map own_of) (get-insert nat_list_cmp_total accounts user own q) ∙ by q (eq_by_cmp (slice_cmp nat_cmp) q user)
    ∙ sym (get-insert nat_list_cmp_total (accounts_of accounts) user (own_of own) q))
  where
    by : (q : List ℕ) (b : Bool) → option_map own_of (cond b (Some own) (map.get accounts q)) ≡ cond b (Some (own_of own)) (map.get (accounts_of accounts) q)
    by q true = refl
    by q false = sym (get_accounts accounts q)

pub accounts_empty : accounts_of map.empty ≡ map.empty
accounts_empty = same_map nat_list_cmp_total (slice_cmp-IsAntisymmetric nat_cmp-IsAntisymmetric) (accounts_of map.empty) map.empty
    (λ q. get_accounts map.empty q ∙ ap (option_map own_of) (get-empty (slice_cmp nat_cmp) q) ∙ sym (get-empty (slice_cmp nat_cmp) q))

pub user_added : (accounts : HeldAccounts) (user : List ℕ) → accounts_of (map.insert accounts user map.empty) ≡ map.insert (accounts_of accounts) user map.empty
user_added accounts user = put_accounts accounts user map.empty ∙ ap (map.insert (accounts_of accounts) user) own_empty

itself : (user : List ℕ) → eq_by_cmp (slice_cmp nat_cmp) user user ≡ true
itself user = is_eq-slice_cmp user user ∙ (bytes_eq-Decides user user).1 refl

one_user : (q user : List ℕ) → eq_by_cmp (slice_cmp nat_cmp) q user ≡ true → q ≡ user
one_user q user e = (bytes_eq-Decides q user).0 (sym (is_eq-slice_cmp q user) ∙ e)

pub put_there : (accounts : HeldAccounts) (user : List ℕ) (own : HeldOwn) → map.get (map.insert accounts user own) user ≡ Some own
put_there accounts user own = get-insert nat_list_cmp_total accounts user own user ∙ ap (λ b. cond b (Some own) (map.get accounts user)) (itself user)

-- what is there may be put
pub put_again : (accounts : Accounts) (user : List ℕ) (own : Own) → map.get accounts user ≡ Some own → map.insert accounts user own ≡ accounts
put_again accounts user own there =
    same_map nat_list_cmp_total (slice_cmp-IsAntisymmetric nat_cmp-IsAntisymmetric) (map.insert accounts user own) accounts
    (λ q. get-insert nat_list_cmp_total accounts user own q ∙ by q (eq_by_cmp (slice_cmp nat_cmp) q user) refl)
  where
    by : (q : List ℕ) (b : Bool) → eq_by_cmp (slice_cmp nat_cmp) q user ≡ b → cond b (Some own) (map.get accounts q) ≡ map.get accounts q
    by q true e = sym (ap (map.get accounts) (one_user q user e) ∙ there)
    by q false e = refl
