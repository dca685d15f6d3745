use Rattle.std.proofs.Common.{◌≡◌, ℕ, List, Option, Some, None, sym, ap, subst, ◌∙◌}
use Rattle.std.specs.Prelude.{option_and_then}
use Rattle.std.specs.Option.{option_copied_mut}
use Rattle.std.specs.Borrow.{MutBor}
use Rattle.std.specs.FinMap as map
use Rattle.imap_user_map.specs.Rows.{Rows}
use Rattle.imap_sessions.specs.Accounts.{accounts_of}
use Rattle.imap_sessions.specs.Accounts.{with_own}
use Rattle.imap_sessions.specs.Held.{HasKnownRoom}
use Rattle.imap_sessions.specs.Planned.{MayOpen, MayTell, room_needed}
use Rattle.imap_sessions.specs.Sessions.{HeldOwn, Own, own_of, own_with}
use Rattle.imap_sessions.proofs.Lent.{own_there, states_nowhere, states_there, with_own-lent}
use Rattle.imap_sessions.proofs.accounts.change_own.Goals as goal

-- the sessions that are lent are those of the user
there : (old : Rows HeldOwn) (lent user : List ℕ) (found : MutBor HeldOwn) (r : Option (MutBor HeldOwn)) → lent ≡ user → r ≡ Some found → option_copied_mut r ≡ map.get old.map lent → map.get old.map user ≡ Some found.now
there old lent user found r same is value = ap (map.get old.map) (sym same) ∙ sym (own_there found r (map.get old.map lent) is value)

stated_there : (old : Rows HeldOwn) (lent user : List ℕ) (found : MutBor HeldOwn) (r : Option (MutBor HeldOwn)) → lent ≡ user → r ≡ Some found → option_copied_mut r ≡ map.get old.map lent
    → map.get (accounts_of old.map) user ≡ Some (own_of found.now)
stated_there old lent user found r same is value = subst (λ (user : List ℕ). map.get (accounts_of old.map) user ≡ Some (own_of found.now)) same (states_there old lent found r is value)

pub change-requires-clause-open : goal.change-requires-clause-open
change-requires-clause-open c =
    subst (λ o. MayOpen o c.args.who.now.number c.args.effect)
    (stated_there c.args.accounts.now c.as_str.result.now c.args.who.now.user c.in-Some.own c.get_mut.result c.as_str.ensures.text c.in-Some.is c.get_mut.ensures.value)
    c.requires.open

pub change-requires-clause-told : goal.change-requires-clause-told
change-requires-clause-told c =
    subst (λ (o : Option Own). MayTell (option_and_then (λ own. map.get own c.args.who.now.number) o) c.args.effect)
    (stated_there c.args.accounts.now c.as_str.result.now c.args.who.now.user c.in-Some.own c.get_mut.result c.as_str.ensures.text c.in-Some.is c.get_mut.ensures.value)
    c.requires.told

pub change-requires-clause-room : goal.change-requires-clause-room
change-requires-clause-room c =
    subst (λ (o : Option HeldOwn). HasKnownRoom (room_needed c.args.effect) (option_and_then (λ own. map.get own c.args.who.now.number) o))
    (there c.args.accounts.now c.as_str.result.now c.args.who.now.user c.in-Some.own c.get_mut.result c.as_str.ensures.text c.in-Some.is c.get_mut.ensures.value)
    c.requires.room

pub returns-in-Some : goal.returns-in-Some
returns-in-Some c =
    let old : Rows HeldOwn = c.args.accounts.now in
    let new : Rows HeldOwn = c.get_mut.follows.lender c.change.new.self in
    let user : List ℕ = c.as_str.result.now in
    let changed = own_with c.args.who.now.number c.args.effect in
    subst (λ (user : List ℕ). accounts_of new.map ≡ with_own (accounts_of old.map) user changed (map.get (accounts_of old.map) user)) c.as_str.ensures.text
    (with_own-lent old user new c.in-Some.own c.change.new.self c.get_mut.result c.in-Some.is c.get_mut.ensures.value (c.get_mut.follows.holds c.change.new.self) changed c.change.ensures)

pub returns-in-None : goal.returns-in-None
returns-in-None c =
    let old : Rows HeldOwn = c.args.accounts.now in
    let changed = own_with c.args.who.now.number c.args.effect in
    let nowhere : map.get (accounts_of old.map) c.args.who.now.user ≡ None =
    subst (λ (user : List ℕ). map.get (accounts_of old.map) user ≡ None) c.as_str.ensures.text
    (states_nowhere old c.as_str.result.now c.get_mut.result c.in-None.is c.get_mut.ensures.value) in
    ap (λ (rows : Rows HeldOwn). accounts_of rows.map) c.get_mut.follows.holds-at-none
    ∙ ap (with_own (accounts_of old.map) c.args.who.now.user changed) (sym nowhere)
