-- What is asked of a user's own changes of \Seen, and how it is found of the changes that are kept.
use Rattle.std.specs.Prelude.{ℕ, ◌+◌, ◌-◌, List, [], ◌∷◌, ◌++◌, length, replicate, unwrap_or, refl}
use Rattle.std.specs.Ordering.{nat_cmp}
use Rattle.std.specs.FinMap as fin
use Rattle.std.specs.Coded.{Coded, code_by, coded×, coded_ℕ, coded_list}
use Rattle.imap_user_map.specs.Rows.{Users}
use Rattle.imap_mailbox.specs.contracts.kept_change.KeptChange as kept_change
use Rattle.imap_mailbox.specs.declared.kept_change.KeptChange.{KeptChange}
use Rattle.imap_mailbox.specs.declared.own.SeenChange.{SeenChange}

-- the last change of each message, by its UID
abbrev pub Latest : Type 0
Latest = fin.FinMap nat_cmp KeptChange

-- for each change the number of shared events before it, and of each message its last change
pub record Own : Type 0 where
  pub befores : List ℕ
  pub latest : Latest

abbrev pub own_code : Coded Own
own_code =
    code_by (List ℕ × Latest) (coded× (coded_list coded_ℕ) (fin.code coded_ℕ kept_change.the_row.coded))
    (λ o. (o.befores, o.latest)) (λ t. record { befores = t.0; latest = t.1 }) (λ _. refl)

abbrev pub no_own : Own
no_own = record { befores = []; latest = fin.empty }

-- the own changes of a user, who may have none
abbrev pub own_at : Users Own → List ℕ → Own
own_at own user = unwrap_or (fin.get own user) no_own

-- ---- what is found of kept changes, in the order of their places

-- for each change, kept or not, the number of shared events before it, after the first `done`. One that isn't
-- kept has the number of the next that is
abbrev pub filled : (done : ℕ) → List KeptChange → List ℕ
filled done [] = []
filled done (k ∷ kept) = replicate (k.place + 1 - done) k.before ++ filled (k.place + 1) kept

-- the last changes, after some
abbrev pub latest_after : Latest → List KeptChange → Latest
latest_after latest [] = latest
latest_after latest (k ∷ kept) = latest_after (fin.insert latest k.uid k) kept

abbrev pub found_in : List KeptChange → Own
found_in kept = record { befores = filled 0 kept; latest = latest_after fin.empty kept }

-- all changes, of which the first has the place
abbrev pub numbered : (place : ℕ) → List SeenChange → List KeptChange
numbered place [] = []
numbered place (s ∷ own) =
    record { place = place; before = s.before; uid = s.uid; seen = s.seen } ∷ numbered (place + 1) own

-- ---- one change more

-- with a change at the place of the next change, or at a greater one. The changes between aren't kept
abbrev pub with_kept : KeptChange → Own → Own
with_kept c own = record {
  befores = own.befores ++ replicate (c.place + 1 - length own.befores) c.before;
  latest = fin.insert own.latest c.uid c;
}

-- several, one after another
abbrev pub with_all : List KeptChange → Own → Own
with_all [] own = own
with_all (c ∷ changes) own = with_all changes (with_kept c own)

-- the change at the next place
abbrev pub next_change : SeenChange → Own → KeptChange
next_change s own = record { place = length own.befores; before = s.before; uid = s.uid; seen = s.seen }

abbrev pub with_change : SeenChange → Own → Own
with_change s own = record {
  befores = own.befores ++ s.before ∷ [];
  latest = fin.insert own.latest s.uid (next_change s own);
}

abbrev pub with_changes : List SeenChange → Own → Own
with_changes [] own = own
with_changes (s ∷ changes) own = with_changes changes (with_change s own)
