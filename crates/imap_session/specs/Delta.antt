-- A change of a known list.
use Rattle.std.specs.Prelude.{◌≡◌, ℕ, not, List, [], ◌++◌, filter, if◌then◌else◌}
use Rattle.imap_mailbox.specs.Rows.{Row, is_among}
use Rattle.imap_mailbox.specs.Lent.{row_uids}
use Rattle.imap_mailbox.specs.Summary.{AreRising}
use Rattle.imap_session.specs.declared.delta.Delta.{Delta}
use Rattle.imap_session.specs.declared.options.NoticeOptions.{NoticeOptions}
use Rattle.imap_session.specs.Compared.{comparisons, new_rows, any_changed, known_after}
use Rattle.imap_session.specs.Notices.{expunged_uids}
use Rattle.imap_session.specs.Held.{UidsRise}

abbrev pub without_uids : (gone uids : List ℕ) → List ℕ
without_uids gone uids = filter (λ uid. not (is_among uid gone)) uids

abbrev pub applied : (gone added uids : List ℕ) → List ℕ
applied gone added uids = without_uids gone uids ++ added

abbrev pub list_after : Delta → (uids : List ℕ) → List ℕ
list_after d uids = applied d.gone.items d.added.items uids

-- the UIDs of messages that leave rise, and so do all afterwards
pub record IsChange (uids gone added : List ℕ) : Type 0 where
  pub leavers : AreRising gone
  pub rising : UidsRise (applied gone added uids)

abbrev pub IsChangeOf : (uids : List ℕ) → Delta → Type 0
IsChangeOf uids d = IsChange uids d.gone.items d.added.items

-- ---- the change that notices make

pub record IsDeltaOf (o : NoticeOptions) (up_to : ℕ) (uids : List ℕ) (rows : List Row) (d : Delta)
    : Type 0 where
  pub changed : d.changed ≡ any_changed up_to (comparisons uids rows)
  pub gone : d.gone.items ≡ (if o.expunges then expunged_uids (comparisons uids rows) else [])
  pub added : d.added.items ≡ row_uids (new_rows uids rows)

-- it makes of the known list what notices make of it
pub record Brings (o : NoticeOptions) (uids : List ℕ) (rows : List Row) (d : Delta) : Type 0 where
  pub change : IsChangeOf uids d
  pub list : list_after d uids ≡ known_after o.expunges uids rows
