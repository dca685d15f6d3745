-- The index of mailboxes, once these changed.
use Rattle.std.proofs.Common.{◌≡◌, ℕ, ◌+◌, ◌<◌, ◌≤◌, suc, Bool, true, false, cond, T, ◌&&◌, List, [], ◌∷◌, length, drop, drop-cons, add-one, get_or, map as map_list, Option, Some, None, is_some, Ordering, Less, Equal, Greater, refl, sym, ap, subst, ◌∙◌}
use Rattle.std.specs.Prelude.{option_map}
use Rattle.std.specs.Cmp.{eq_by_cmp_equiv}
use Rattle.std.specs.Ordering.{eq_by_cmp, is_eq, is_lt}
use Rattle.std.specs.FinMap as map
use Rattle.std.specs.FinMap.{entries_sorted, get-entries, get-empty}
use Rattle.std.specs.FinMap.Entries.{below_all, find, is_some-find, is_sorted}
use Rattle.std.specs.List.{Contains, list_any}
use Rattle.std.proofs.Math.ListN.{drop_of_length-le}
use Rattle.std.proofs.lemmas.Map.Views.{list_any-from_Contains, Contains-from_any}
use Rattle.imap_identifier_index.specs.Index.{Index, IsIndexOf, IsRun, Lists, moved_lists, with_list}
use Rattle.imap_name_map.specs.Renaming.{value_after}
use Rattle.imap_name_map.specs.Rows.{run_of}
use Rattle.imap_name_map.proofs.Runs.{get_in_run}
use Rattle.imap_names.specs.Name.{Name, root_of}
use Rattle.imap_names.specs.Order.{Names, name_cmp, is_within, moved}
use Rattle.imap_names.proofs.NameLaws.{is_name_at, equal_names, is_name_at-same, get_put, get_without}
use Rattle.imap_names.proofs.OrderLaws.{name_total}
use Rattle.imap_rights.specs.Acl.{AclMap}
use Rattle.imap_world.specs.Indexed.{IsIndexIn, lists_of}
use Rattle.imap_batch.specs.Written.{with_batch}
use Rattle.imap_world.specs.Mailbox.{Mailbox}
use Rattle.imap_world.specs.Messages.{messages_changed, with_part, with_parts}
use Rattle.imap_world.specs.declared.named_batch.NamedWrite.{NamedWrite}
use Rattle.imap_world.specs.Moving.{with_validities, with_validity}

-- ---- lists that answer alike

pub alike : (index : Index) (lists others : Lists) → ((q : Name) → lists q ≡ others q) → IsIndexOf index lists → IsIndexOf index others
alike index lists others same is = subst (IsIndexOf index) (λ i q. same q i) is

abbrev pub acl_in : Option Mailbox → Option AclMap
acl_in o = option_map (λ mailbox. mailbox.acl) o

-- ---- one mailbox

-- a mailbox more
pub lists_put : (m : Names Mailbox) (k : Name) (x : Mailbox) (q : Name) → with_list (lists_of m) k (Some x.acl) q ≡ lists_of (map.insert m k x) q
lists_put m k x q = by (is_name_at q k) ∙ sym (ap acl_in (get_put m k x q))
  where
    by : (b : Bool) → cond b (Some x.acl) (lists_of m q) ≡ acl_in (cond b (Some x) (map.get m q))
    by true = refl
    by false = refl

-- one less
pub lists_without : (m : Names Mailbox) (k q : Name) → with_list (lists_of m) k None q ≡ lists_of (map.remove m k) q
lists_without m k q = by (is_name_at q k) ∙ sym (ap acl_in (get_without m k q))
  where
    by : (b : Bool) → cond b None (lists_of m q) ≡ acl_in (cond b None (map.get m q))
    by true = refl
    by false = refl

-- without one that isn't there
pub lists_absent : (m : Names Mailbox) (k : Name) → map.get m k ≡ None → (q : Name) → lists_of m q ≡ lists_of (map.remove m k) q
lists_absent m k absent q = by (is_name_at q k) refl ∙ sym (ap acl_in (get_without m k q))
  where
    by : (b : Bool) → is_name_at q k ≡ b → lists_of m q ≡ acl_in (cond b None (map.get m q))
    by true e = ap acl_in (ap (map.get m) (equal_names q k e) ∙ absent)
    by false e = refl

-- ---- mailboxes that move

pub lists_renamed : (m n : Names Mailbox) (old new : Name) → ((q : Name) → map.get n q ≡ value_after old new m q) → (q : Name) → moved_lists old new (lists_of m) q ≡ lists_of n q
lists_renamed m n old new are q = by (is_within new q) (is_within old q) ∙ sym (ap acl_in (are q))
  where
    by : (b c : Bool) → cond b (lists_of m (moved new old q)) (cond c None (lists_of m q)) ≡ acl_in (cond b (map.get m (moved new old q)) (cond c None (map.get m q)))
    by true c = refl
    by false true = refl
    by false false = refl

-- a UIDVALIDITY is no list
pub lists_validated : (arrivals : List (Name × ℕ)) (m : Names Mailbox) (q : Name) → lists_of m q ≡ lists_of (with_validities m arrivals) q
lists_validated [] m q = refl
lists_validated (a ∷ arrivals) m q = one (map.get m a.0) refl ∙ lists_validated arrivals (with_validity m a.0 a.1 (map.get m a.0)) q
  where
    one : (o : Option Mailbox) → map.get m a.0 ≡ o → lists_of m q ≡ lists_of (with_validity m a.0 a.1 o) q
    one None there = refl
    one (Some x) there = by (is_name_at q a.0) refl ∙ sym (ap acl_in (get_put m a.0 (record x { validity = a.1 }) q))
      where
        by : (b : Bool) → is_name_at q a.0 ≡ b → lists_of m q ≡ acl_in (cond b (Some (record x { validity = a.1 })) (map.get m q))
        by true e = ap acl_in (ap (map.get m) (equal_names q a.0 e) ∙ there)
        by false e = refl

-- messages are no list
lists_part : (m : Names Mailbox) (w : NamedWrite) (q : Name) → lists_of m q ≡ lists_of (with_part m w) q
lists_part m w q = one (map.get m w.name) refl
  where
    one : (o : Option Mailbox) → map.get m w.name ≡ o → lists_of m q ≡ lists_of (messages_changed w.write.batch m w.name o) q
    one None there = refl
    one (Some x) there = by (is_name_at q w.name) refl ∙ sym (ap acl_in (get_put m w.name (record x { messages = with_batch w.write.batch x.messages }) q))
      where
        by : (b : Bool) → is_name_at q w.name ≡ b → lists_of m q ≡ acl_in (cond b (Some (record x { messages = with_batch w.write.batch x.messages })) (map.get m q))
        by true e = ap acl_in (ap (map.get m) (equal_names q w.name e) ∙ there)
        by false e = refl

pub lists_parts : (m : Names Mailbox) (w : NamedWrite) (other : Option NamedWrite) (q : Name) → lists_of m q ≡ lists_of (with_parts m w other) q
lists_parts m w None q = lists_part m w q
lists_parts m w (Some other) q = lists_part m w q ∙ lists_part (with_part m w) other q

-- the names of a run
module _ (m : Names Mailbox) where
  run_has : (top q : Name) → list_any (is_name_at q) (map_list (λ e. e.0) (run_of top m)) ≡ is_some (cond (is_within top q) (map.get m q) None)
  run_has top q = sym (is_some-find name_cmp q (run_of top m)) ∙ ap is_some (get_in_run top m q)

  listed : (o : Option Mailbox) → is_some (acl_in o) ≡ is_some o
  listed None = refl
  listed (Some x) = refl

  -- those that move are a run
  pub run_is : (old new : Name) → run_of new m ≡ [] → root_of new ≡ root_of old → 0 < length old → 0 < length new
      → IsRun (lists_of m) old new (map_list (λ e. e.0) (run_of old m))
  run_is old new free tree some other = record {
    whole = λ q w some. Contains-from_any (λ x y e. equal_names x y e) q (map_list (λ e. e.0) (run_of old m))
        (run_has old q ∙ ap (λ b. is_some (cond b (map.get m q) None)) w ∙ sym (listed (map.get m q)) ∙ some);
    within = λ q c. inside q (is_within old q) refl (there q c);
    listed = λ q c. known q (is_within old q) (there q c);
    free = λ q w. ap acl_in (sym (ap (λ b. cond b (map.get m q) None) w) ∙ sym (get_in_run new m q) ∙ ap (find name_cmp q) free);
    tree = tree;
    rooted = (some, other);
  }
    where
      there : (q : Name) → Contains (map_list (λ e. e.0) (run_of old m)) q → is_some (cond (is_within old q) (map.get m q) None) ≡ true
      there q c = sym (run_has old q) ∙ list_any-from_Contains (eq_by_cmp_equiv name_total) q (map_list (λ e. e.0) (run_of old m)) c

      inside : (q : Name) (b : Bool) → is_within old q ≡ b → is_some (cond b (map.get m q) None) ≡ true → b ≡ true
      inside q true w e = refl
      inside q false w e = cc

      known : (q : Name) (b : Bool) → is_some (cond b (map.get m q) None) ≡ true → is_some (lists_of m q) ≡ true
      known q true e = listed (map.get m q) ∙ e
      known q false e = cc

-- ---- all mailboxes, one after another

-- the lists of all but those that are left
pub done_lists : List (Name × Mailbox) → Names Mailbox → Lists
done_lists left m q = cond (is_some (find name_cmp q left)) None (lists_of m q)

pub none_done : (m : Names Mailbox) (q : Name) → None ≡ done_lists (map.entries m) m q
unfolding done_lists
none_done m q = by (map.get m q) ∙ ap (λ o. cond (is_some o) None (lists_of m q)) (get-entries m q)
  where
    by : (o : Option Mailbox) → None ≡ cond (is_some o) None (acl_in o)
    by None = refl
    by (Some x) = refl

pub all_done : (m : Names Mailbox) (i : ℕ) (es : List (Name × Mailbox)) → length es ≤ i → (q : Name) → done_lists (drop i es) m q ≡ lists_of m q
unfolding done_lists
all_done m i es le q = ap (λ l. cond (is_some (find name_cmp q l)) None (lists_of m q)) (drop_of_length-le es le)

sure : (a b : Bool) → T (a && b) → T a × T b
sure true b h = (tt, h)
sure false b h = absurd h

not_tied : (o : Ordering) → T (is_lt o) → is_eq o ≡ false
not_tied Less h = refl
not_tied Equal h = absurd h
not_tied Greater h = absurd h

not_above : (x : Name) (es : List (Name × Mailbox)) → T (below_all name_cmp x es) → find name_cmp x es ≡ None
not_above x [] h = refl
not_above x (e ∷ es) h =
    let parts = sure (is_lt (name_cmp x e.0)) (below_all name_cmp x es) h in
    ap (λ b. cond b (Some e.1) (find name_cmp x es)) (not_tied (name_cmp x e.0) parts.0) ∙ not_above x es parts.1

module _ (m : Names Mailbox) (e : Name × Mailbox) (left : List (Name × Mailbox)) (sorted : T (is_sorted name_cmp (e ∷ left))) (there : map.get m e.0 ≡ Some e.1) where
  pub rest_sorted : T (is_sorted name_cmp left)
  rest_sorted = (sure (below_all name_cmp e.0 left) (is_sorted name_cmp left) sorted).1

  pub not_done : done_lists (e ∷ left) m e.0 ≡ None
  unfolding done_lists
  not_done = ap (λ b. cond (is_some (cond b (Some e.1) (find name_cmp e.0 left))) None (lists_of m e.0)) (is_name_at-same e.0)

  pub one_done : (q : Name) → with_list (done_lists (e ∷ left) m) e.0 (Some (e.1).acl) q ≡ done_lists left m q
  unfolding done_lists
  one_done q = by (is_name_at q e.0) refl
    where
      by : (b : Bool) → is_name_at q e.0 ≡ b → cond b (Some (e.1).acl) (cond (is_some (cond b (Some e.1) (find name_cmp q left))) None (lists_of m q)) ≡ done_lists left m q
      by true here =
          sym (ap (done_lists left m) (equal_names q e.0 here)
          ∙ ap (λ o. cond (is_some o) None (lists_of m e.0)) (not_above e.0 left (sure (below_all name_cmp e.0 left) (is_sorted name_cmp left) sorted).0) ∙ ap acl_in there)
      by false here = refl

pub left_cut : (es : List (Name × Mailbox)) (i : ℕ) (e : Name × Mailbox) → i < length es → e ≡ get_or es i e → drop i es ≡ e ∷ drop (i + 1) es
left_cut es i e lt is = rw add-one (drop-cons es i e lt ∙ ap (λ x. x ∷ drop (suc i) es) (sym is))

pub none_of : {X : Type 0} (o : Option X) → is_some o ≡ false → o ≡ None
none_of None e = refl
none_of (Some x) e = cc

pub no_list : (m : Names Mailbox) (k : Name) → map.contains_key m k ≡ false → lists_of m k ≡ None
no_list m k free = ap acl_in (none_of (map.get m k) free)

pub none_there : (q : Name) → None ≡ lists_of map.empty q
none_there q = sym (ap acl_in (get-empty name_cmp q))
