-- Where a listing starts: the mailboxes whose lists have an entry that counts for the user, and those of the
-- user's own trees.
use Rattle.std.specs.Prelude.{◌≡◌, ◌⊎◌, ℕ, true, List, [], bytes_eq}
use Rattle.std.specs.FinMap as map
use Rattle.std.specs.List.{Contains}
use Rattle.imap_world.specs.Index.{Lists, finds_at}
use Rattle.imap_names.specs.Name.{Name}
use Rattle.imap_world.specs.Groups.{groups_of, stands_for}
use Rattle.imap_view.specs.View.{View}
use Rattle.imap_world.specs.declared.site.Site.{Site}

-- each mailbox that the user sees is among the names
abbrev pub HaveAllSeen : View → List Name → Type 0
HaveAllSeen view names = (name : Name) → map.contains_key view.seen name ≡ true → Contains names name

-- each mailbox that the text finds is among the names
abbrev pub HaveFound : Lists → (text : List ℕ) → List Name → Type 0
HaveFound lists text names = (name : Name) → finds_at text name (lists name) ≡ true → Contains names name

-- the text finds more of them, and none is lost
pub record AddsFound (lists : Lists) (Texts : List ℕ → Type 0) (old new : List Name) : Type 0 where
  pub added : (text : List ℕ) → Texts text → HaveFound lists text new
  pub kept : (text : List ℕ) → HaveFound lists text old → HaveFound lists text new

-- an identifier that stands for the user, or the root of a tree that is the user's
abbrev pub IsStart : Site → (user text : List ℕ) → Type 0
IsStart site user text =
    (stands_for (groups_of site.groups user) user text ≡ true)
    ⊎ ((text ≡ []) × (bytes_eq site.administrator user ≡ true))
