-- A hidden mailbox that is taken away with all below it.
use Rattle.std.proofs.Common.{◌≡◌, ◌⊎◌, inl, inr, ℕ, Bool, true, false, cond, not, List, Option, Some, None, refl, sym, ap, ◌∙◌}
use Rattle.std.specs.Prelude.{is_some, option_and_then}
use Rattle.std.specs.FinMap as map
use Rattle.std.specs.FinMap.{get-retain_keys}
use Rattle.imap_names.proofs.OrderLaws.{name_antisymmetric}
use Rattle.imap_names.specs.Name.{Name}
use Rattle.imap_names.specs.Order.{is_within}
use Rattle.imap_world.specs.declared.site.Site.{Site}
use Rattle.imap_world.specs.World.{World}
use Rattle.imap_view.specs.After.{DifferInHidden, HiddenIsAbsent, HiddenSubtreesAreAbsent, IsHidden, IsHiddenTree, without_tree}
use Rattle.imap_view.specs.Seen.{seen_at}
use Rattle.imap_view.proofs.Views.{get_seen}

none_of : {X : Type 0} (o : Option X) → is_some o ≡ false → o ≡ None
none_of None e = refl
none_of (Some x) e = absurd (cc e)

pub get_left : (world : World) (top name : Name) → map.get (without_tree world top).mailboxes name ≡ cond (not (is_within top name)) (map.get world.mailboxes name) None
get_left world top name = get-retain_keys world.mailboxes (λ name. not (is_within top name)) name
    (λ other same. ap (λ name. not (is_within top name)) (sym (name_antisymmetric name other same)))

module _ (site : Site) (user : List ℕ) (world : World) (top : Name) where
  abbrev left : World
  left = without_tree world top

  pub differs : IsHiddenTree site user world top → DifferInHidden site user world left
  differs hidden = record {
    mailboxes = λ name. by name (is_within top name) refl (map.contains_key world.mailboxes name) refl;
    epochs = λ name. inl refl;
    subscribed = refl;
  }
    where
      gone : (name : Name) → is_within top name ≡ true → map.get left.mailboxes name ≡ None
      gone name within = get_left world top name ∙ ap (λ b. cond (not b) (map.get world.mailboxes name) None) within

      by : (name : Name) (within : Bool) → is_within top name ≡ within → (there : Bool) → map.contains_key world.mailboxes name ≡ there
          → (map.get world.mailboxes name ≡ map.get left.mailboxes name) ⊎ IsHidden site user world left name
      by name false is there found = inl (sym (get_left world top name ∙ ap (λ b. cond (not b) (map.get world.mailboxes name) None) is))
      by name true is false found = inl (none_of (map.get world.mailboxes name) found ∙ sym (gone name is))
      by name true is true found = inr (record {
        unseen = (hidden name is found).0;
        unseen_other = get_seen site user left name ∙ ap (option_and_then (seen_at site user name)) (gone name is);
        use_hidden = inl (hidden name is found).1;
      })

pub trees_absent : HiddenIsAbsent → HiddenSubtreesAreAbsent
trees_absent of_hidden site user world top hidden =
    of_hidden site user world (without_tree world top) (differs site user world top hidden)
