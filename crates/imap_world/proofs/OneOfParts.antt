-- Parts stand for one world at most.
use Rattle.std.proofs.Common.{◌≡◌, ℕ, Bool, true, false, cond, List, Option, Some, None, is_some, refl, sym, ap, ◌∙◌, arith}
use Rattle.std.specs.Prelude.{option_and_then}
use Rattle.std.specs.FinMap as map
use Rattle.std.proofs.lemmas.List.Sorted.{IsPermutation-sym, IsPermutation-trans}
use Rattle.imap_names.specs.Name.{Name}
use Rattle.imap_names.specs.Order.{name_cmp}
use Rattle.imap_names.proofs.NameLaws.{is_name_at-same, same_names}
use Rattle.imap_names.proofs.OrderLaws.{name_antisymmetric, name_total}
use Rattle.imap_name_map.specs.Rows as name
use Rattle.imap_user_map.proofs.Entries.{same_answers}
use Rattle.imap_world.specs.Effects.{if_filled}
use Rattle.imap_world.specs.Parts.{AreSubscriptions, StandForOne}
use Rattle.imap_world.specs.Stored.{Subscriptions, filled_sets, names_in, world_of}
use Rattle.imap_world.specs.Subscription.{Subscription}
use Rattle.imap_world.specs.World.{NameSet, World, set_of, subscribed_by}
use Rattle.imap_world.proofs.MovedEntries.{same_if_moved}
use Rattle.imap_world.proofs.Sets.{get_filled, if_filled-empty, names_in_filled}
use Rattle.imap_world.proofs.Standing.{same_mailboxes}

abbrev one : Bool → ℕ
one b = cond b 1 0

same_answer : (b c : Bool) → one b ≡ one c → b ≡ c
same_answer true true e = refl
same_answer false false e = refl
same_answer true false e = absurd (omega (arith, e))
same_answer false true e = absurd (omega (arith, e))

same_sets : (m n : NameSet) → ((q : Name) → map.contains_key m q ≡ map.contains_key n q) → m ≡ n
same_sets m n h = same_names m n (λ q. by (map.get m q) (map.get n q) (h q))
  where
    by : (o p : Option (Unit {0})) → is_some o ≡ is_some p → o ≡ p
    by None None e = refl
    by None (Some y) e = absurd (cc e)
    by (Some x) None e = absurd (cc e)
    by (Some x) (Some y) e = refl

-- what a user's set is, by what it holds
filled_again : (s : Subscriptions) (q : List ℕ) → map.get (filled_sets s) q ≡ if_filled (set_of (map.get (filled_sets s) q))
filled_again s q = get_filled s q ∙ by (map.get s.map q) ∙ ap if_filled (names_in_filled s q)
  where
    by : (o : Option (name.Rows (Unit {0}))) → option_and_then (λ (rows : name.Rows (Unit {0})). if_filled rows.map) o ≡ if_filled (names_in o)
    by None = sym if_filled-empty
    by (Some rows) = refl

same_filled : (rows : List Subscription) (world other : World) (s t : Subscriptions) → world.subscriptions ≡ filled_sets s → other.subscriptions ≡ filled_sets t
    → AreSubscriptions rows world → AreSubscriptions rows other → filled_sets s ≡ filled_sets t
same_filled rows world other s t is also are equal =
    same_answers _ _ (λ q.
    let sets : subscribed_by world q ≡ subscribed_by other q = same_sets _ _ (λ n. same_answer _ _ (sym (are q n) ∙ equal q n)) in
    filled_again s q
    ∙ ap if_filled (ap (λ m. set_of (map.get m q)) (sym is) ∙ sets ∙ ap (λ m. set_of (map.get m q)) also)
    ∙ sym (filled_again t q))

pub stand_for_one : StandForOne
stand_for_one parts s t kept also stands others =
    let mailboxes : (world_of s).mailboxes ≡ (world_of t).mailboxes = same_mailboxes parts.mailboxes.items (world_of s).mailboxes (world_of t).mailboxes kept also stands.mailboxes others.mailboxes in
    let epochs : s.epochs.map ≡ t.epochs.map = same_if_moved name_cmp name_total name_antisymmetric is_name_at-same s.epochs.map t.epochs.map (IsPermutation-trans _ _ _ (IsPermutation-sym _ _ stands.epochs) others.epochs) in
    let subscriptions : filled_sets s.subscriptions ≡ filled_sets t.subscriptions = same_filled parts.subscriptions.items (world_of s) (world_of t) s.subscriptions t.subscriptions refl refl stands.subscriptions others.subscriptions in
    λ i. record { mailboxes = mailboxes i; epochs = epochs i; subscriptions = subscriptions i }
