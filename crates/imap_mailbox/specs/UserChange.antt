-- An own change of \Seen, with its user and its place among those of that user.
use Rattle.std.specs.Prelude.{ℕ, bytes_eq, List, filter, map, refl}
use Rattle.std.specs.Coded.{Coded, code_by, coded×, coded_ℕ, coded_list}
use Rattle.imap_mailbox.specs.contracts.own.SeenChange as change
use Rattle.imap_mailbox.specs.declared.kept_change.KeptChange.{KeptChange}
use Rattle.imap_mailbox.specs.declared.own.SeenChange.{SeenChange}

-- places are counted from 0
pub record UserChange : Type 0 where
  pub user : List ℕ
  pub place : ℕ
  pub change : SeenChange

abbrev pub user_change_code : Coded UserChange
user_change_code =
    code_by (List ℕ × (ℕ × SeenChange))
    (coded× (coded_list coded_ℕ) (coded× coded_ℕ change.the_row.coded))
    (λ c. (c.user, (c.place, c.change)))
    (λ t. record { user = t.0; place = t.1.0; change = t.1.1 }) (λ _. refl)

-- of the changes of all users those of one
abbrev pub of_user : List ℕ → List UserChange → List UserChange
of_user user changes = filter (λ c. bytes_eq c.user user) changes

abbrev pub row_of : UserChange → KeptChange
row_of c = record { place = c.place; before = c.change.before; uid = c.change.uid; seen = c.change.seen }

-- the changes of a user that are kept
abbrev pub rows_of_user : List ℕ → List UserChange → List KeptChange
rows_of_user user changes = map row_of (of_user user changes)
