-- A name that a user subscribed to.
use Rattle.std.specs.Prelude.{ℕ, List, refl}
use Rattle.std.specs.Coded.{Coded, code_by, coded×, coded_ℕ, coded_list}
use Rattle.imap_names.specs.Name.{Name}
use Rattle.imap_world.specs.World.{name_code}

pub record Subscription : Type 0 where
  pub user : List ℕ
  pub name : Name

abbrev pub subscription_code : Coded Subscription
subscription_code =
    code_by (List ℕ × Name) (coded× (coded_list coded_ℕ) name_code)
    (λ s. (s.user, s.name)) (λ t. record { user = t.0; name = t.1 }) (λ _. refl)
