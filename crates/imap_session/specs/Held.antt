-- A known list with its room.
use Rattle.std.specs.Prelude.{ℕ, ◌^◌, List, refl}
use Rattle.std.specs.Coded.{Coded, code_by, coded×, coded_ℕ, coded_list}
use Rattle.imap_mailbox.specs.Rows.{first_uid}
use Rattle.imap_mailbox.specs.Summary.{Rises}

-- The UIDs of the messages. What may be done without memory: nothing in no room. One is for a change of the
-- list, and one for each message that may be added
pub record HeldList : Type 0 where
  pub list : List ℕ
  pub room : ℕ

abbrev pub held_code : Coded HeldList
held_code =
    code_by (List ℕ × ℕ) (coded× (coded_list coded_ℕ) coded_ℕ)
    (λ h. (h.list, h.room)) (λ t. record { list = t.0; room = t.1 }) (λ _. refl)

-- a UID has 32 bits
abbrev pub uid_limit : ℕ
uid_limit = 2 ^ 32

abbrev pub UidsRise : List ℕ → Type 0
UidsRise uids = Rises first_uid uid_limit uids
