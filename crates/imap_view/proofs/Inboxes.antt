-- The view when a mailbox is made that the user may not know of.
use Rattle.std.proofs.Common.{◌≡◌, ◌≢◌, ℕ, ◌+◌, ◌<◌, Bool, true, false, cond, not, ◌||◌, List, [], ◌∷◌, length, Option, Some, None, Ok, Err, is_some, refl, sym, ap, ◌∙◌, arith}
use Rattle.std.specs.Prelude.{◌==◌, option_and_then, unwrap_or, bytes_eq}
use Rattle.std.specs.Int.RustNames.{bit_xor}
use Rattle.std.specs.Int.Bits.{and_zero_l, or_zero_r, xor_zero_r}
use Rattle.std.specs.Ordering.{nat_cmp}
use Rattle.std.specs.Cmp.Lexicographic.{slice_cmp, nat_list_cmp_total}
use Rattle.std.specs.FinMap as map
use Rattle.std.specs.FinMap.{get-insert, get-empty}
use Rattle.std.proofs.lemmas.Bool.{or_parts, false_from_ne_true}
use Rattle.std.proofs.lemmas.Slice.Eq.{bytes_eq-Decides}
use Rattle.imap_names.specs.Name.{Name}
use Rattle.imap_names.specs.Order.{Names, name_cmp}
use Rattle.imap_names.specs.UserName.{is_user_name}
use Rattle.imap_names.proofs.NameLaws.{is_name_at, equal_names, same_names, get_put}
use Rattle.imap_names.proofs.OrderLaws.{name_antisymmetric}
use Rattle.imap_names.proofs.UserLaws.{user_name_facts}
use Rattle.imap_world.specs.Acl.{owner_acl}
use Rattle.imap_world.proofs.AnothersList.{anothers}
use Rattle.imap_world.specs.Effective.{granted, effective, owner_rights}
use Rattle.imap_world.specs.Rights.{no_rights, all_rights, union, less, visible_rights}
use Rattle.imap_world.specs.declared.site.Site.{Site}
use Rattle.imap_world.specs.Mailbox.{Mailbox, new_mailbox}
use Rattle.imap_world.specs.declared.error.WorldError.TheVariants.{Limit, Taken}
use Rattle.imap_world.specs.Effects.{with_row, put_of, writes_then, after_result}
use Rattle.imap_user_map.specs.Finite.{keep}
use Rattle.imap_world.specs.NewMailbox.{NewMailbox, mailbox_in}
use Rattle.imap_world.specs.World.{World, epoch, inbox, max_validity}
use Rattle.imap_user_map.proofs.KeptValues.{get-keep}
use Rattle.imap_world.proofs.Sets.{is_user, equal_users}
use Rattle.imap_view.specs.After.{OthersInboxesAreHidden}
use Rattle.imap_view.specs.Seen.{seen_at, seen_by_rights, seen_with, owner_by_root}
use Rattle.imap_view.specs.View.{view_of, view_by, seen_in, if_true, may_know_name}

-- ---- a mailbox of which nothing is seen

-- an entry of which nothing is kept, in place of one of which nothing was kept
kept_same : {X Y : Type 0} (f : Name → X → Option Y) (m : Names X) (k : Name) (x : X) → f k x ≡ None → option_and_then (f k) (map.get m k) ≡ None → keep f (map.insert m k x) ≡ keep f m
kept_same f m k x new old = same_names _ _ (λ q. get-keep name_cmp f name_antisymmetric (map.insert m k x) q ∙ ap (option_and_then (f q)) (get_put m k x q)
    ∙ by q (is_name_at q k) refl ∙ sym (get-keep name_cmp f name_antisymmetric m q))
  where
    by : (q : Name) (b : Bool) → is_name_at q k ≡ b → option_and_then (f q) (cond b (Some x) (map.get m q)) ≡ option_and_then (f q) (map.get m q)
    by q true at = ap (λ n. f n x) (equal_names q k at) ∙ new ∙ sym (ap (λ n. option_and_then (f n) (map.get m n)) (equal_names q k at) ∙ old)
    by q false at = refl

module _ (site : Site) (user : List ℕ) (world : World) (row : NewMailbox) where
  module _ (absent : map.get world.mailboxes row.name ≡ None) (unseen : seen_at site user row.name (mailbox_in row) ≡ None) (unknown : may_know_name site user (seen_in site user world) row.name ≡ false) where
    seen_same : seen_in site user (with_row world row) ≡ seen_in site user world
    seen_same = kept_same (seen_at site user) world.mailboxes row.name (mailbox_in row) unseen (ap (option_and_then (seen_at site user row.name)) absent)

    abbrev if_known : {X Y : Type 0} → (X → Y) → Name → X → Option Y
    if_known f name x = if_true (may_know_name site user (seen_in site user world) name) (f x)

    nothing_known : {X Y : Type 0} (f : X → Y) (o : Option X) → option_and_then (if_known f row.name) o ≡ None
    nothing_known f None = refl
    nothing_known f (Some x) = ap (λ b. if_true b (f x)) unknown

    taken_same : keep (if_known {X = Mailbox} {Y = Unit {0}} (λ mailbox. tt)) (with_row world row).mailboxes ≡ keep (if_known {X = Mailbox} {Y = Unit {0}} (λ mailbox. tt)) world.mailboxes
    taken_same = kept_same (if_known (λ mailbox. tt)) world.mailboxes row.name (mailbox_in row) (ap (λ b. if_true b tt) unknown) (nothing_known (λ mailbox. tt) (map.get world.mailboxes row.name))

    epochs_same : keep (if_known {X = ℕ} {Y = ℕ} (λ validity. validity)) (with_row world row).epochs ≡ keep (if_known {X = ℕ} {Y = ℕ} (λ validity. validity)) world.epochs
    epochs_same = kept_same (if_known (λ validity. validity)) world.epochs row.name row.validity (ap (λ b. if_true b row.validity) unknown) (nothing_known (λ validity. validity) (map.get world.epochs row.name))

    -- the view stays
    pub put_is_hidden : view_of site user (with_row world row) ≡ view_of site user world
    unfolding view_of
    put_is_hidden =
        ap (λ seen. view_by site user seen (with_row world row)) seen_same
        ∙ (λ i. record (view_by site user (seen_in site user world) world) { taken = taken_same i; epochs = epochs_same i })

-- ---- the INBOX of another user

none_of : {X : Type 0} (o : Option X) → is_some o ≡ false → o ≡ None
none_of None e = refl
none_of (Some x) e = cc

not_bytes : (a b : List ℕ) → (a ≡ b → ⊥) → bytes_eq a b ≡ false
not_bytes a b differ = false_from_ne_true _ (λ e. differ ((bytes_eq-Decides a b).0 e))

own_root : (site : Site) (other : List ℕ) → 0 < length other → owner_by_root site other ≡ other
own_root site [] some = absurd (omega (arith, some))
own_root site (octet ∷ octets) some = refl

seen_without : (site : Site) (user : List ℕ) (m : Mailbox) → seen_with site user no_rights m ≡ None
seen_without site user m = ap (λ n. cond (not (n == 0)) (Some (seen_by_rights site user no_rights m)) None) (and_zero_l visible_rights)

module _ (other : List ℕ) where
  module _ (site : Site) (user : List ℕ) (valid : is_user_name other ≡ true) (differ : other ≢ user) where
    inbox_unseen : (validity : ℕ) → seen_at site user (inbox other) (new_mailbox validity (owner_acl other)) ≡ None
    inbox_unseen validity =
        let new = new_mailbox validity (owner_acl other) in
        let held = granted user site.groups (owner_acl other) in
        ap (λ o. seen_with site user (effective user o site.groups (owner_acl other)) new) (own_root site other (user_name_facts other valid).some)
        ∙ ap (λ b. seen_with site user (cond b (union held owner_rights) held) new) (not_bytes user other (λ e. differ (sym e)))
        ∙ ap (λ r. seen_with site user r new) (anothers site.groups user other valid (not_bytes other user differ)) ∙ seen_without site user new

    inbox_unknown : (world : World) → may_know_name site user (seen_in site user world) (inbox other) ≡ false
    inbox_unknown world =
        ap (λ o. bytes_eq o user || (false || false)) (own_root site other (user_name_facts other valid).some)
        ∙ ap (λ b. b || (false || false)) (not_bytes other user differ)

    inbox_hidden : (world : World) (there : Bool) → map.contains_key world.mailboxes (inbox other) ≡ there → (b : Bool)
        → view_of site user (after_result (writes_then (cond there (Err Taken) (put_of (cond b (Err Limit) (Ok (record { name = inbox other; validity = epoch world.epochs (inbox other) + 1; acl = owner_acl other }))))) (Ok [])) world) ≡ view_of site user world
    inbox_hidden world true is b = refl
    inbox_hidden world false is true = refl
    inbox_hidden world false is false =
        put_is_hidden site user world (record { name = inbox other; validity = epoch world.epochs (inbox other) + 1; acl = owner_acl other }) (none_of (map.get world.mailboxes (inbox other)) is) (inbox_unseen (epoch world.epochs (inbox other) + 1)) (inbox_unknown world)

pub others_inboxes : OthersInboxesAreHidden
others_inboxes site user other world valid differ =
    inbox_hidden other site user valid differ world (map.contains_key world.mailboxes (inbox other)) refl (epoch world.epochs (inbox other) == max_validity)
