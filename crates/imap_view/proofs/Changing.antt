-- The view after messages change.
use Rattle.std.proofs.Common.{◌≡◌, ℕ, Bool, true, false, cond, ◌||◌, List, [], ◌∷◌, Option, Some, None, Ok, Err, refl, sym, ap, subst, ◌∙◌}
use Rattle.std.specs.Prelude.{option_map, option_and_then}
use Rattle.std.specs.FinMap as map
use Rattle.imap_world.proofs.BatchKept.{writes_may_be_made}
use Rattle.imap_world.proofs.BatchSights.{batch_is_seen, possible_is_made}
use Rattle.imap_world.specs.Batch.{write_for}
use Rattle.imap_world.specs.BatchSeen.{IsPossible}
use Rattle.imap_world.specs.BatchWritten.{with_batch}
use Rattle.imap_world.specs.BatchType.{Batch}
use Rattle.imap_world.specs.BatchWrite.{BatchWrite}
use Rattle.imap_world.specs.Held.{IsKept}
use Rattle.imap_names.specs.Name.{Name}
use Rattle.imap_names.specs.Order.{Names}
use Rattle.imap_names.proofs.NameLaws.{is_name_at, equal_names, same_names, get_put}
use Rattle.imap_world.specs.Effective.{effective}
use Rattle.imap_world.specs.Rights.{has_any, visible_rights}
use Rattle.imap_world.specs.declared.error.WorldError.TheVariants.{Cannot}
use Rattle.imap_world.specs.declared.named_batch.NamedBatch.{NamedBatch}
use Rattle.imap_world.specs.declared.named_batch.NamedWrite.{NamedWrite}
use Rattle.imap_world.specs.declared.site.Site.{Site}
use Rattle.imap_world.specs.Kept.{AreKept}
use Rattle.imap_world.specs.Mailbox.{Mailbox}
use Rattle.imap_world.specs.Messages.{messages_changed, one_part, part_at, part_in, part_of, two_parts, with_part}
use Rattle.imap_world.specs.World.{World}
use Rattle.imap_world.proofs.Parts.{kept_part, part_elsewhere, part_found}
use Rattle.imap_view.specs.MessagesAfter.{ChangingMessagesIsSeen, IsMessageChange, IsPossibleAt, MayAskOf, seen_batched, with_batch_seen}
use Rattle.imap_view.specs.Seen.{Seen, is_root, owner_of, rights_shown, seen_at, seen_by_rights}
use Rattle.imap_view.specs.TreeAfter.{put_option}
use Rattle.imap_view.specs.View.{View, view_of, view_by, seen_in, shows_names_with, shows_names_below, may_know_name}
use Rattle.imap_view.proofs.Narrowing.{get_option, get_taken, get_epochs, in_use, seen_changed, seen_is}
use Rattle.imap_view.proofs.Views.{get_seen, site_of, user_of}

-- ---- places stay, since rights do

module _ (site : Site) (user : List ℕ) (seen : Names Seen) (k : Name) (batch : Batch) where
  abbrev after_batch : Names Seen
  after_batch = put_option seen k (option_map (seen_batched site batch) (map.get seen k))

  same_place : (o : Option Seen) → shows_names_with (option_map (seen_batched site batch) o) ≡ shows_names_with o
  same_place None = refl
  same_place (Some s) = refl

  shows_at : (q : Name) → shows_names_with (map.get after_batch q) ≡ shows_names_with (map.get seen q)
  shows_at q = ap shows_names_with (get_option seen k (option_map (seen_batched site batch) (map.get seen k)) q) ∙ by (is_name_at q k) refl
    where
      by : (b : Bool) → is_name_at q k ≡ b → shows_names_with (cond b (option_map (seen_batched site batch) (map.get seen k)) (map.get seen q)) ≡ shows_names_with (map.get seen q)
      by true at = same_place (map.get seen k) ∙ ap (λ n. shows_names_with (map.get seen n)) (sym (equal_names q k at))
      by false at = refl

  shows_below : (q : Name) → shows_names_below site user after_batch q ≡ shows_names_below site user seen q
  shows_below [] = refl
  shows_below (root ∷ []) = refl
  shows_below (deepest ∷ above ∷ more) = shows_at (deepest ∷ above ∷ more)

  pub known_below : (q : Name) → may_know_name site user after_batch q ≡ may_know_name site user seen q
  known_below [] = refl
  known_below (part ∷ above) = λ i. shows_below above i || known_below above i

-- ---- one mailbox

record IsBatched (site : Site) (batch : Batch) (m : Mailbox) (before after : Option Seen) : Type 0 where
  write : BatchWrite
  found : write_for batch m.messages ≡ Ok write
  seen : after ≡ option_map (seen_batched site batch) before

abbrev pub batched : Batch → Mailbox → Mailbox
batched batch m = record m { messages = with_batch batch m.messages }

-- what is seen of it, by the tests that decide
abbrev sight : (site : Site) (user : List ℕ) (rights : ℕ) → (root visible : Bool) → Mailbox → Option Seen
sight site user rights root visible m = cond root None (cond visible (Some (seen_by_rights site user rights m)) None)

module _ (site : Site) (user : List ℕ) (m : Mailbox) (batch : Batch) (kept : IsKept m.messages) (own : batch.user ≡ user) where
  batched_with : (rights : ℕ) → IsPossible batch (seen_by_rights site user rights m).messages
      → IsBatched site batch m (Some (seen_by_rights site user rights m)) (Some (seen_by_rights site user rights (batched batch m)))
  batched_with rights possible =
      let made = possible_is_made site.limits.max_messages user (rights_shown rights) m.messages batch kept possible in
      record {
        write = made.write;
        found = made.found;
        seen = λ i. Some (record (seen_by_rights site user rights m) {
          messages = batch_is_seen site.limits.max_messages user (rights_shown rights) m.messages batch kept own possible i;
        });
      }

  sight_batched : (rights : ℕ) (root visible : Bool) → IsPossibleAt batch (sight site user rights root visible m)
      → IsBatched site batch m (sight site user rights root visible m) (sight site user rights root visible (batched batch m))
  sight_batched rights true visible possible = absurd possible
  sight_batched rights false false possible = absurd possible
  sight_batched rights false true possible = batched_with rights possible

  batched_at : (name : Name) → IsPossibleAt batch (seen_at site user name m) → IsBatched site batch m (seen_at site user name m) (seen_at site user name (batched batch m))
  batched_at name possible =
      let rights = effective user (owner_of site name) site.groups m.acl in
      sight_batched rights (is_root name) (has_any rights visible_rights) possible

-- ---- the view after a batch of one mailbox

module _ (site : Site) (user : List ℕ) (world : World) (part : NamedBatch) (m : Mailbox) (there : map.get world.mailboxes part.name ≡ Some m) where
  abbrev after : World
  after = record world { mailboxes = messages_changed part.batch world.mailboxes part.name (Some m) }

  pub at_each : (q : Name) → map.get after.mailboxes q ≡ cond (is_name_at q part.name) (Some (batched part.batch m)) (map.get world.mailboxes q)
  at_each q = get_put world.mailboxes part.name (batched part.batch m) q

  pub used_still : (q : Name) → in_use (map.get after.mailboxes q) ≡ in_use (map.get world.mailboxes q)
  used_still q = ap in_use (at_each q) ∙ by (is_name_at q part.name) refl
    where
      by : (b : Bool) → is_name_at q part.name ≡ b → in_use (cond b (Some (batched part.batch m)) (map.get world.mailboxes q)) ≡ in_use (map.get world.mailboxes q)
      by true at = sym (ap in_use (ap (map.get world.mailboxes) (equal_names q part.name at) ∙ there))
      by false at = refl

  module _ (seen_so : seen_at site user part.name (batched part.batch m) ≡ option_map (seen_batched site part.batch) (seen_at site user part.name m)) where
    old_seen : map.get (seen_in site user world) part.name ≡ seen_at site user part.name m
    old_seen = ap (λ s. map.get s part.name) (sym (seen_is site user world)) ∙ get_seen site user world part.name ∙ ap (option_and_then (seen_at site user part.name)) there

    seen_after : seen_in site user after ≡ with_batch_seen site part (seen_in site user world)
    seen_after =
        seen_changed site user world after part.name (Some (batched part.batch m)) at_each
        ∙ ap (put_option (seen_in site user world) part.name) (seen_so ∙ ap (option_map (seen_batched site part.batch)) (sym old_seen))

    known_still : (q : Name) → may_know_name site user (with_batch_seen site part (seen_in site user world)) q ≡ may_know_name site user (seen_in site user world) q
    known_still q = known_below site user (seen_in site user world) part.name part.batch q

    takens : (view_by site user (with_batch_seen site part (seen_in site user world)) after).taken ≡ (view_by site user (seen_in site user world) world).taken
    takens = same_names _ _ (λ q. get_taken site user (with_batch_seen site part (seen_in site user world)) after q
        ∙ (λ i. cond (known_still q i) (used_still q i) None)
        ∙ sym (get_taken site user (seen_in site user world) world q))

    all_epochs : (view_by site user (with_batch_seen site part (seen_in site user world)) after).epochs ≡ (view_by site user (seen_in site user world) world).epochs
    all_epochs = same_names _ _ (λ q. get_epochs site user (with_batch_seen site part (seen_in site user world)) after q
        ∙ (λ i. cond (known_still q i) (map.get world.epochs q) None)
        ∙ sym (get_epochs site user (seen_in site user world) world q))

    pub view_is_batched : view_of site user after ≡ record (view_of site user world) { seen = with_batch_seen site part (view_of site user world).seen }
    unfolding view_of
    view_is_batched =
        ap (λ s. view_by site user s after) seen_after
        ∙ λ i. record (view_by site user (with_batch_seen site part (seen_in site user world)) after) { taken = takens i; epochs = all_epochs i }

-- ---- one part, found and written

record IsPartChange (site : Site) (user : List ℕ) (world : World) (part : NamedBatch) : Type 0 where
  write : NamedWrite
  found : part_in world.mailboxes part ≡ Ok write
  seen : view_of site user (record world { mailboxes = with_part world.mailboxes write })
      ≡ record (view_of site user world) { seen = with_batch_seen site part (view_of site user world).seen }

module _ (site : Site) (user : List ℕ) (world : World) (part : NamedBatch) (kept : AreKept world.mailboxes) where
  written : (m : Mailbox) → map.get world.mailboxes part.name ≡ Some m → part.batch.user ≡ user → IsPossibleAt part.batch (seen_at site user part.name m) → IsPartChange site user world part
  written m there own possible =
      let one = batched_at site user m part.batch (kept.at part.name m there) own part.name possible in
      let same : one.write.batch ≡ part.batch = (writes_may_be_made part.batch m.messages one.write one.found).0 in
      record {
        write = record { name = part.name; write = one.write };
        found = ap (part_at part) there ∙ ap (part_of part.name) one.found;
        seen = (λ i. view_of site user (record world { mailboxes = messages_changed (same i) world.mailboxes part.name (there i) }))
            ∙ view_is_batched site user world part m there one.seen;
      }

  possible_there : part.batch.user ≡ user → (o : Option Mailbox) → map.get world.mailboxes part.name ≡ o → IsPossibleAt part.batch (option_and_then (seen_at site user part.name) o) → IsPartChange site user world part
  possible_there own None there possible = absurd possible
  possible_there own (Some m) there possible = written m there own possible

  part_changes : MayAskOf (view_of site user world) part → IsPartChange site user world part
  part_changes may =
      possible_there (may.own ∙ user_of site user world) (map.get world.mailboxes part.name) refl
      (subst (IsPossibleAt part.batch) (get_seen site user world part.name) may.possible)

module _ (site : Site) (user : List ℕ) (world : World) (part : NamedBatch) (kept : AreKept world.mailboxes) (may : MayAskOf (view_of site user world) part) where
  one_changes : IsMessageChange site user world part None
  one_changes =
      let one = part_changes site user world part kept may in
      record {
        first = one.write;
        second = None;
        found = ap one_part one.found;
        seen = one.seen ∙ λ i. record (view_of site user world) { seen = with_batch_seen (sym (site_of site user world) i) part (view_of site user world).seen };
      }

  -- what is seen of the second mailbox stays while the first changes
  both_change : (other : NamedBatch) → is_name_at other.name part.name ≡ false → MayAskOf (view_of site user world) other → IsMessageChange site user world part (Some other)
  both_change other apart may_other =
      let one = part_changes site user world part kept may in
      let first = part_found world.mailboxes part one.write one.found in
      let mid : World = record world { mailboxes = with_part world.mailboxes one.write } in
      let elsewhere : map.get mid.mailboxes other.name ≡ map.get world.mailboxes other.name = part_elsewhere world.mailboxes one.write other.name (ap (is_name_at other.name) first.same ∙ apart) in
      let still : map.get (view_of site user mid).seen other.name ≡ map.get (view_of site user world).seen other.name =
      get_seen site user mid other.name ∙ ap (option_and_then (seen_at site user other.name)) elsewhere ∙ sym (get_seen site user world other.name) in
      let two = part_changes site user mid other (kept_part world.mailboxes kept one.write first.may) (record {
        own = may_other.own ∙ user_of site user world ∙ sym (user_of site user mid);
        possible = subst (IsPossibleAt other.batch) (sym still) may_other.possible;
      }) in
      let found : part_in world.mailboxes other ≡ Ok two.write = ap (part_at other) (sym elsewhere) ∙ two.found in
      record {
        first = one.write;
        second = Some two.write;
        found = ap (λ b. cond b (Err Cannot) (two_parts (part_in world.mailboxes part) (part_in world.mailboxes other))) apart ∙ λ i. two_parts (one.found i) (found i);
        seen = two.seen
            ∙ ap (λ (v : View). record v { seen = with_batch_seen site other v.seen }) one.seen
            ∙ λ i. record (view_of site user world) {
              seen = with_batch_seen (sym (site_of site user world) i) other (with_batch_seen (sym (site_of site user world) i) part (view_of site user world).seen);
            };
      }

pub changing_messages : ChangingMessagesIsSeen
changing_messages site user world part None kept may = one_changes site user world part kept may.0
changing_messages site user world part (Some other) kept may = both_change site user world part kept may.0 other may.1.0 may.1.1
