-- Accounts in which the sessions of one user were changed in their place.
use Rattle.std.proofs.Common.{◌≡◌, ℕ, List, Option, Some, None, sym, ap, subst, ◌∙◌}
use Rattle.std.specs.Prelude.{option_map}
use Rattle.std.specs.Option.{option_copied_mut, OnSome}
use Rattle.std.specs.Borrow.{MutBor}
use Rattle.std.specs.FinMap as map
use Rattle.imap_user_map.specs.Rows.{Rows, with_value}
use Rattle.imap_sessions.specs.Accounts.{accounts_of}
use Rattle.imap_sessions.specs.Accounts.{with_own}
use Rattle.imap_sessions.specs.Sessions.{HeldOwn, Own, own_of}
use Rattle.imap_sessions.proofs.Roomless.{get_accounts, put_accounts, put_again, put_there}

-- what is lent is what is there
pub own_there : (found : MutBor HeldOwn) (r : Option (MutBor HeldOwn)) (there : Option HeldOwn) → r ≡ Some found → option_copied_mut r ≡ there → Some found.now ≡ there
own_there found r there is value = sym (ap option_copied_mut is) ∙ value

module _ (old : Rows HeldOwn) (user : List ℕ) where
  pub states_there : (found : MutBor HeldOwn) (r : Option (MutBor HeldOwn)) → r ≡ Some found → option_copied_mut r ≡ map.get old.map user → map.get (accounts_of old.map) user ≡ Some (own_of found.now)
  states_there found r is value = get_accounts old.map user ∙ ap (option_map own_of) (sym (own_there found r (map.get old.map user) is value))

  pub states_nowhere : (r : Option (MutBor HeldOwn)) → r ≡ None → option_copied_mut r ≡ map.get old.map user → map.get (accounts_of old.map) user ≡ None
  states_nowhere r is value = get_accounts old.map user ∙ ap (option_map own_of) (sym value ∙ ap option_copied_mut is)

  module _ (new : Rows HeldOwn) (found : MutBor HeldOwn) (own : HeldOwn) (r : Option (MutBor HeldOwn)) (is : r ≡ Some found) (value : option_copied_mut r ≡ map.get old.map user) (lends : OnSome r (new ≡ with_value old user own)) where
    map_put : new.map ≡ map.insert old.map user own
    map_put = ap (λ (rows : Rows HeldOwn). rows.map) (subst (λ o. OnSome o (new ≡ with_value old user own)) is lends)

    pub with_own-lent : (f : Own → Own) → own_of own ≡ f (own_of found.now) → accounts_of new.map ≡ with_own (accounts_of old.map) user f (map.get (accounts_of old.map) user)
    with_own-lent f changed =
        ap accounts_of map_put ∙ put_accounts old.map user own ∙ ap (map.insert (accounts_of old.map) user) changed
        ∙ ap (with_own (accounts_of old.map) user f) (sym (states_there found r is value))

    -- the states stay as they are
    pub states_same : own_of own ≡ own_of found.now → accounts_of new.map ≡ accounts_of old.map
    states_same same =
        ap accounts_of map_put ∙ put_accounts old.map user own
        ∙ put_again (accounts_of old.map) user (own_of own) (states_there found r is value ∙ ap Some (sym same))

    pub own_put : map.get new.map user ≡ Some own
    own_put = ap (λ accounts. map.get accounts user) map_put ∙ put_there old.map user own
