-- What holds of every world goes on holding.
use Rattle.std.proofs.Common.{◌≡◌, ℕ, ◌<◌, ◌≤◌, Bool, true, false, cond, List, [], ◌∷◌, Option, Some, None, refl, sym, ap, subst, ◌∙◌, arith}
use Rattle.std.specs.Prelude.{◌||◌, is_some, unwrap_or}
use Rattle.std.specs.List.{list_any}
use Rattle.std.specs.FinMap as map
use Rattle.std.specs.FinMap.{entries, find, get-empty, get-entries}
use Rattle.imap_name_map.specs.Rows.{has_below}
use Rattle.imap_names.specs.Name.{Name, superior}
use Rattle.imap_names.specs.Order.{Names, name_cmp, is_below}
use Rattle.imap_names.proofs.NameLaws.{is_name_at, equal_names, get_put, get_without}
use Rattle.imap_names.proofs.OrderLaws.{below_from_IsAbove}
use Rattle.imap_rights.specs.Acl.{AclMap}
use Rattle.imap_world.specs.Mailbox.{Mailbox}
use Rattle.imap_world.specs.Kept.{IsSound, is_there, superior_is_there}
use Rattle.imap_world.specs.Tree.{mailboxes_with_list}
use Rattle.imap_world.specs.World.{World, epoch}
use Rattle.imap_world.proofs.Superiors.{superior_is_above}

pub empty_is_sound : (world : World) → world.mailboxes ≡ map.empty → world.epochs ≡ map.empty → IsSound world
empty_is_sound world none unused = record {
  closed = λ name there. absurd (cc (sym there ∙ ap is_some (absent name)));
  used = λ name mailbox there. absurd (cc (sym there ∙ absent name));
  positive = λ name mailbox there. absurd (cc (sym there ∙ absent name));
  counted = λ name validity there. absurd (cc (sym there ∙ ap (λ (m : Names ℕ). map.get m name) unused ∙ get-empty name_cmp name));
}
  where
    absent : (name : Name) → map.get world.mailboxes name ≡ None
    absent name = ap (λ (m : Names Mailbox). map.get m name) none ∙ get-empty name_cmp name

-- ---- one mailbox put

module _ (m : Names Mailbox) (k : Name) (mailbox : Mailbox) where
  put_contains : (q : Name) → map.contains_key m q ≡ true → map.contains_key (map.insert m k mailbox) q ≡ true
  put_contains q e = ap is_some (get_put m k mailbox q) ∙ by (is_name_at q k)
    where
      by : (b : Bool) → is_some (cond b (Some mailbox) (map.get m q)) ≡ true
      by true = refl
      by false = e

  put_is_there : (o : Option Name) → is_there m o ≡ true → is_there (map.insert m k mailbox) o ≡ true
  put_is_there None e = e
  put_is_there (Some above) e = put_contains above e

  pub put_superior : (q : Name) → superior_is_there m q ≡ true → superior_is_there (map.insert m k mailbox) q ≡ true
  put_superior q e = put_is_there (superior q) e

  closed_put : ((name : Name) → map.contains_key m name ≡ true → superior_is_there m name ≡ true) → superior_is_there m k ≡ true
      → (name : Name) → map.contains_key (map.insert m k mailbox) name ≡ true → superior_is_there (map.insert m k mailbox) name ≡ true
  closed_put closed here name e = put_superior name (by (is_name_at name k) refl)
    where
      by : (b : Bool) → is_name_at name k ≡ b → superior_is_there m name ≡ true
      by true at = subst (λ q. superior_is_there m q ≡ true) (sym (equal_names name k at)) here
      by false at = closed name (sym (ap is_some (get_put m k mailbox name ∙ ap (λ b. cond b (Some mailbox) (map.get m name)) at)) ∙ e)

-- a mailbox is made, and its validity counted
pub put_is_sound : (old new : World) (k : Name) (mailbox : Mailbox) → new.mailboxes ≡ map.insert old.mailboxes k mailbox → new.epochs ≡ map.insert old.epochs k mailbox.validity
    → superior_is_there old.mailboxes k ≡ true → 0 < mailbox.validity → IsSound old → IsSound new
put_is_sound old new k mailbox is counted here some sound = record {
  closed = λ name e. subst (λ (m : Names Mailbox). superior_is_there m name ≡ true) (sym is) (closed_put old.mailboxes k mailbox sound.closed here name (subst (λ (m : Names Mailbox). map.contains_key m name ≡ true) is e));
  used = λ name other e. by name other (is_name_at name k) refl (sym (ap (λ (m : Names Mailbox). map.get m name) is ∙ get_put old.mailboxes k mailbox name) ∙ e);
  positive = λ name other e. some_at name other (is_name_at name k) (sym (ap (λ (m : Names Mailbox). map.get m name) is ∙ get_put old.mailboxes k mailbox name) ∙ e);
  counted = λ name validity e. counted_at name validity (is_name_at name k) (sym (ap (λ (m : Names ℕ). map.get m name) counted ∙ get_put old.epochs k mailbox.validity name) ∙ e);
}
  where
    some_at : (name : Name) (other : Mailbox) (b : Bool) → cond b (Some mailbox) (map.get old.mailboxes name) ≡ Some other → 0 < other.validity
    some_at name other true e = omega (arith, some, ap (λ (o : Option Mailbox). (unwrap_or o mailbox).validity) e)
    some_at name other false e = sound.positive name other e

    counted_at : (name : Name) (validity : ℕ) (b : Bool) → cond b (Some mailbox.validity) (map.get old.epochs name) ≡ Some validity → 0 < validity
    counted_at name validity true e = omega (arith, some, ap (λ o. unwrap_or o 0) e)
    counted_at name validity false e = sound.counted name validity e

    epoch_is : (name : Name) → epoch new.epochs name ≡ unwrap_or (cond (is_name_at name k) (Some mailbox.validity) (map.get old.epochs name)) 0
    epoch_is name = ap (λ (m : Names ℕ). epoch m name) counted ∙ ap (λ o. unwrap_or o 0) (get_put old.epochs k mailbox.validity name)

    same : (other : Mailbox) → Some mailbox ≡ Some other → other.validity ≤ mailbox.validity
    same other e = omega (arith, ap (λ (o : Option Mailbox). (unwrap_or o mailbox).validity) e)

    by : (name : Name) (other : Mailbox) (b : Bool) → is_name_at name k ≡ b → cond (is_name_at name k) (Some mailbox) (map.get old.mailboxes name) ≡ Some other → other.validity ≤ epoch new.epochs name
    by name other true at e = subst (λ n. other.validity ≤ n) (sym (epoch_is name ∙ ap (λ b. unwrap_or (cond b (Some mailbox.validity) (map.get old.epochs name)) 0) at))
        (same other (sym (ap (λ b. cond b (Some mailbox) (map.get old.mailboxes name)) at) ∙ e))
    by name other false at e = subst (λ n. other.validity ≤ n) (sym (epoch_is name ∙ ap (λ b. unwrap_or (cond b (Some mailbox.validity) (map.get old.epochs name)) 0) at))
        (sound.used name other (sym (ap (λ b. cond b (Some mailbox) (map.get old.mailboxes name)) at) ∙ e))

-- a mailbox is changed, but for its validity
pub changed_is_sound : (old new : World) (k : Name) (before after : Mailbox) → new.mailboxes ≡ map.insert old.mailboxes k after → new.epochs ≡ old.epochs
    → map.get old.mailboxes k ≡ Some before → after.validity ≡ before.validity → IsSound old → IsSound new
changed_is_sound old new k before after is counted there same sound = record {
  closed = λ name e. subst (λ (m : Names Mailbox). superior_is_there m name ≡ true) (sym is)
      (closed_put old.mailboxes k after sound.closed (sound.closed k (ap is_some there)) name (subst (λ (m : Names Mailbox). map.contains_key m name ≡ true) is e));
  used = λ name other e. subst (λ (m : Names ℕ). other.validity ≤ epoch m name) (sym counted)
      (by name other (is_name_at name k) refl (sym (ap (λ (m : Names Mailbox). map.get m name) is ∙ get_put old.mailboxes k after name) ∙ e));
  positive = λ name other e. some_at name other (is_name_at name k) (sym (ap (λ (m : Names Mailbox). map.get m name) is ∙ get_put old.mailboxes k after name) ∙ e);
  counted = subst (λ (m : Names ℕ). (name : Name) (validity : ℕ) → map.get m name ≡ Some validity → 0 < validity) (sym counted) sound.counted;
}
  where
    some_at : (name : Name) (other : Mailbox) (b : Bool) → cond b (Some after) (map.get old.mailboxes name) ≡ Some other → 0 < other.validity
    some_at name other true e = omega (arith, sound.positive k before there, same, ap (λ (o : Option Mailbox). (unwrap_or o after).validity) e)
    some_at name other false e = sound.positive name other e

    by : (name : Name) (other : Mailbox) (b : Bool) → is_name_at name k ≡ b → cond (is_name_at name k) (Some after) (map.get old.mailboxes name) ≡ Some other → other.validity ≤ epoch old.epochs name
    by name other true at e =
        let used : before.validity ≤ epoch old.epochs k = sound.used k before there in
        let one : after ≡ other = ap (λ (o : Option Mailbox). unwrap_or o after) (sym (ap (λ b. cond b (Some after) (map.get old.mailboxes name)) at) ∙ e) in
        subst (λ q. other.validity ≤ epoch old.epochs q) (sym (equal_names name k at)) (omega (arith, used, same, ap (λ m. m.validity) one))
    by name other false at e = sound.used name other (sym (ap (λ b. cond b (Some after) (map.get old.mailboxes name)) at) ∙ e)

-- the mailboxes stay
pub same_is_sound : (old new : World) → new.mailboxes ≡ old.mailboxes → new.epochs ≡ old.epochs → IsSound old → IsSound new
same_is_sound old new is counted sound = record {
  closed = subst (λ (m : Names Mailbox). (name : Name) → map.contains_key m name ≡ true → superior_is_there m name ≡ true) (sym is) sound.closed;
  used = subst (λ (m : Names Mailbox). (name : Name) (mailbox : Mailbox) → map.get m name ≡ Some mailbox → mailbox.validity ≤ epoch new.epochs name) (sym is)
      (subst (λ (e : Names ℕ). (name : Name) (mailbox : Mailbox) → map.get old.mailboxes name ≡ Some mailbox → mailbox.validity ≤ epoch e name) (sym counted) sound.used);
  positive = subst (λ (m : Names Mailbox). (name : Name) (mailbox : Mailbox) → map.get m name ≡ Some mailbox → 0 < mailbox.validity) (sym is) sound.positive;
  counted = subst (λ (m : Names ℕ). (name : Name) (validity : ℕ) → map.get m name ≡ Some validity → 0 < validity) (sym counted) sound.counted;
}

-- another list is put on a mailbox, if it is there
pub list_is_sound : (old new : World) (k : Name) (acl : AclMap) → new.mailboxes ≡ mailboxes_with_list old.mailboxes k acl (map.get old.mailboxes k) → new.epochs ≡ old.epochs → IsSound old → IsSound new
list_is_sound old new k acl is counted sound = by (map.get old.mailboxes k) refl is
  where
    by : (o : Option Mailbox) → map.get old.mailboxes k ≡ o → new.mailboxes ≡ mailboxes_with_list old.mailboxes k acl o → IsSound new
    by None there is = same_is_sound old new is counted sound
    by (Some before) there is = changed_is_sound old new k before (record before { acl = acl }) is counted there refl sound

-- ---- one mailbox removed

pub or_first : (a b : Bool) → a ≡ true → (a || b) ≡ true
or_first true b e = refl
or_first false b e = absurd (cc e)

pub or_second : (a b : Bool) → b ≡ true → (a || b) ≡ true
or_second true b e = refl
or_second false b e = e

any_below : {X : Type 0} (top name : Name) (es : List (Name × X)) → is_below top name ≡ true → is_some (find name_cmp name es) ≡ true → list_any (λ e. is_below top e.0) es ≡ true
any_below top name [] below e = absurd (cc e)
any_below {X} top name (f ∷ es) below e = by (is_name_at name f.0) refl e (any_below top name es below)
  where
    by : (b : Bool) → is_name_at name f.0 ≡ b → is_some (cond b (Some f.1) (find name_cmp name es)) ≡ true → (is_some (find name_cmp name es) ≡ true → list_any (λ g. is_below top g.0) es ≡ true) → list_any (λ g. is_below top g.0) (f ∷ es) ≡ true
    by true at e deeper = or_first (is_below top f.0) _ (ap (is_below top) (sym (equal_names name f.0 at)) ∙ below)
    by false at e deeper = or_second (is_below top f.0) _ (deeper e)

-- a mailbox that is there and lies below the name
pub has_below-there : {X : Type 0} (m : Names X) (top name : Name) → is_below top name ≡ true → map.contains_key m name ≡ true → has_below top m ≡ true
has_below-there m top name below e = any_below top name (entries m) below (sym (ap is_some (get-entries m name)) ∙ e)

module _ (m : Names Mailbox) (k : Name) (free : has_below k m ≡ false) where
  still_there : (name above : Name) → map.contains_key m name ≡ true → superior name ≡ Some above → map.contains_key m above ≡ true → map.contains_key (map.remove m k) above ≡ true
  still_there name above e is there = ap is_some (get_without m k above) ∙ by (is_name_at above k) refl
    where
      by : (b : Bool) → is_name_at above k ≡ b → is_some (cond b None (map.get m above)) ≡ true
      by true at =
          let below : is_below k name ≡ true = below_from_IsAbove k name (superior_is_above name k (is ∙ ap Some (equal_names above k at))) in
          absurd (cc (sym (has_below-there m k name below e) ∙ free))
      by false at = there

  superior_stays : (name : Name) (o : Option Name) → map.contains_key m name ≡ true → superior name ≡ o → is_there m o ≡ true → is_there (map.remove m k) o ≡ true
  superior_stays name None e is there = refl
  superior_stays name (Some above) e is there = still_there name above e is there

  was_there : (name : Name) → map.contains_key (map.remove m k) name ≡ true → map.contains_key m name ≡ true
  was_there name e = by (is_name_at name k) (sym (ap is_some (get_without m k name)) ∙ e)
    where
      by : (b : Bool) → is_some (cond b None (map.get m name)) ≡ true → map.contains_key m name ≡ true
      by true e = absurd (cc e)
      by false e = e

  closed_without : ((name : Name) → map.contains_key m name ≡ true → superior_is_there m name ≡ true)
      → (name : Name) → map.contains_key (map.remove m k) name ≡ true → superior_is_there (map.remove m k) name ≡ true
  closed_without closed name e = superior_stays name (superior name) (was_there name e) refl (closed name (was_there name e))

-- what is found in the mailboxes without one was there
pub found_before : (m : Names Mailbox) (k name : Name) (mailbox : Mailbox) → map.get (map.remove m k) name ≡ Some mailbox → map.get m name ≡ Some mailbox
found_before m k name mailbox e = by (is_name_at name k) (sym (get_without m k name) ∙ e)
  where
    by : (b : Bool) → cond b None (map.get m name) ≡ Some mailbox → map.get m name ≡ Some mailbox
    by true e = absurd (cc e)
    by false e = e

-- a mailbox goes that has none below it
pub removed_is_sound : (old new : World) (k : Name) → new.mailboxes ≡ map.remove old.mailboxes k → new.epochs ≡ old.epochs → has_below k old.mailboxes ≡ false → IsSound old → IsSound new
removed_is_sound old new k is counted free sound = record {
  closed = λ name e. subst (λ (m : Names Mailbox). superior_is_there m name ≡ true) (sym is)
      (closed_without old.mailboxes k free sound.closed name (subst (λ (m : Names Mailbox). map.contains_key m name ≡ true) is e));
  used = λ name mailbox e. subst (λ (m : Names ℕ). mailbox.validity ≤ epoch m name) (sym counted)
      (sound.used name mailbox (found_before old.mailboxes k name mailbox (sym (ap (λ (m : Names Mailbox). map.get m name) is) ∙ e)));
  positive = λ name mailbox e. sound.positive name mailbox (found_before old.mailboxes k name mailbox (sym (ap (λ (m : Names Mailbox). map.get m name) is) ∙ e));
  counted = subst (λ (m : Names ℕ). (name : Name) (validity : ℕ) → map.get m name ≡ Some validity → 0 < validity) (sym counted) sound.counted;
}
