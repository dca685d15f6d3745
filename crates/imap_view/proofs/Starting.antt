-- A mailbox that a user sees is found where a listing starts.
use Rattle.std.proofs.Common.{◌≡◌, ℕ, ◌+◌, ◌<◌, Bool, true, false, cond, not, ◌&&◌, ◌||◌, ◌==◌, List, [], ◌∷◌, ◌++◌, length, get_or, take, map as map_list, string_bytes, ◌⊎◌, inl, inr, Option, Some, None, Result, Ok, Err, OnOk, IfOk, refl, sym, ap, subst, ◌∙◌, arith}
use Rattle.std.specs.Prelude.{bytes_eq, is_some, option_and_then, option_map}
use Rattle.std.specs.Int.Bits.{and_zero_l, bit_xor}
use Rattle.std.specs.FinMap as fin
use Rattle.std.specs.FinMap.{contains_key-keys}
use Rattle.std.specs.Ordering.{eq_by_cmp, nat_cmp}
use Rattle.std.specs.Cmp.Lexicographic.{slice_cmp}
use Rattle.std.specs.List.{Contains, list_any}
use Rattle.std.proofs.lemmas.List.{map_more}
use Rattle.std.proofs.lemmas.List.Elements.{Contains-append_left, Contains-append_right, Contains-push_cases}
use Rattle.std.proofs.lemmas.Map.Text.{is_eq-slice_cmp}
use Rattle.std.proofs.lemmas.Slice.Eq.{bytes_eq-Decides}
use Rattle.imap_world.specs.Index.{Lists, PushesNames, finds, finds_at}
use Rattle.imap_names.specs.Name.{Name, root_of}
use Rattle.imap_world.specs.Acl.{AclMap}
use Rattle.imap_world.specs.Effective.{effective, granted, owner_rights}
use Rattle.imap_world.specs.Groups.{AreIdentifiersOf, Members, anyone, groups_of, if_counts, is_group_in, stands_for, takes_from, union_where}
use Rattle.imap_world.specs.Rights.{has_any, less, no_rights, union, visible_rights}
use Rattle.imap_view.specs.Seen.{is_root, owner_by_root, owner_of, seen_at, seen_by_rights, seen_with}
use Rattle.imap_view.specs.Starts.{AddsFound, HaveAllSeen, HaveFound, IsStart}
use Rattle.imap_view.specs.View.{View, view_of}
use Rattle.imap_names.specs.Order.{name_cmp}
use Rattle.imap_names.proofs.OrderLaws.{name_antisymmetric}
use Rattle.imap_user_map.proofs.KeptValues.{get-keep}
use Rattle.imap_world.specs.declared.site.Site.{Site}
use Rattle.imap_world.specs.Indexed.{lists_of}
use Rattle.imap_world.specs.Mailbox.{Mailbox}
use Rattle.imap_world.specs.World.{World}

-- ---- who holds a right owns the tree, or an entry counts

not_any : has_any no_rights visible_rights ≡ false
not_any = ap (λ n. not (n == 0)) (and_zero_l visible_rights)

taken_from_none : (taken : ℕ) → less no_rights taken ≡ no_rights
taken_from_none taken = ap (bit_xor 0) (and_zero_l taken)

abbrev Counts : (List ℕ → Bool) → List (List ℕ × ℕ) → Type 0
Counts counts entries = (id : List ℕ) × (counts id ≡ true) × (list_any (eq_by_cmp (slice_cmp nat_cmp) id) (map_list (λ e. e.0) entries) ≡ true)

or_right : (a : Bool) → (a || true) ≡ true
or_right true = refl
or_right false = refl

itself : (id : List ℕ) → eq_by_cmp (slice_cmp nat_cmp) id id ≡ true
itself id = is_eq-slice_cmp id id ∙ (bytes_eq-Decides id id).1 refl

one_counts : (counts : List ℕ → Bool) (entries : List (List ℕ × ℕ)) → (union_where counts entries ≡ no_rights) ⊎ Counts counts entries
one_counts counts [] = inl refl
one_counts counts (e ∷ entries) = by (counts e.0) refl (one_counts counts entries)
  where
    by : (b : Bool) → counts e.0 ≡ b → (union_where counts entries ≡ no_rights) ⊎ Counts counts entries → (union (if_counts b e.1) (union_where counts entries) ≡ no_rights) ⊎ Counts counts (e ∷ entries)
    by true is rest = inr (e.0, is, ap (λ b. b || list_any (eq_by_cmp (slice_cmp nat_cmp) e.0) (map_list (λ e. e.0) entries)) (itself e.0))
    by false is (inl none) = inl (ap (union no_rights) none)
    by false is (inr (id, counts_id, there)) = inr (id, counts_id, ap (λ b. eq_by_cmp (slice_cmp nat_cmp) id e.0 || b) there ∙ or_right (eq_by_cmp (slice_cmp nat_cmp) id e.0))

none_granted : (user : List ℕ) (groups : Members) (acl : AclMap) → union_where (stands_for (groups_of groups user) user) (fin.entries acl) ≡ no_rights → granted user groups acl ≡ no_rights
none_granted user groups acl none =
    ap (λ n. less n (union_where (takes_from (groups_of groups user) user) (fin.entries acl))) none
    ∙ taken_from_none (union_where (takes_from (groups_of groups user) user) (fin.entries acl))

-- the user stands behind an entry
abbrev Stands : Site → List ℕ → AclMap → Type 0
Stands site user acl = (id : List ℕ) × (stands_for (groups_of site.groups user) user id ≡ true) × (fin.contains_key acl id ≡ true)

visible : (site : Site) (user : List ℕ) (owner : List ℕ) (acl : AclMap) → has_any (effective user owner site.groups acl) visible_rights ≡ true → (user ≡ owner) ⊎ Stands site user acl
visible site user owner acl some = by (bytes_eq user owner) refl (one_counts (stands_for (groups_of site.groups user) user) (fin.entries acl))
  where
    by : (b : Bool) → bytes_eq user owner ≡ b → (union_where (stands_for (groups_of site.groups user) user) (fin.entries acl) ≡ no_rights) ⊎ Counts (stands_for (groups_of site.groups user) user) (fin.entries acl)
        → (user ≡ owner) ⊎ Stands site user acl
    by true own rest = inl ((bytes_eq-Decides user owner).0 own)
    by false own (inr (id, stands, there)) = inr (id, stands, contains_key-keys acl id ∙ there)
    by false own (inl none) =
        let nothing : effective user owner site.groups acl ≡ no_rights =
        ap (λ b. cond b (union (granted user site.groups acl) owner_rights) (granted user site.groups acl)) own ∙ none_granted user site.groups acl none in
        absurd (cc (sym some ∙ ap (λ n. has_any n visible_rights) nothing ∙ not_any))

-- ---- so a start finds it

abbrev Found : Site → List ℕ → Name → Option AclMap → Type 0
Found site user name list = (text : List ℕ) × IsStart site user text × (finds_at text name list ≡ true)

stands_itself : (site : Site) (user : List ℕ) → stands_for (groups_of site.groups user) user user ≡ true
stands_itself site user =
    ap (λ b. b || bytes_eq user anyone || is_group_in (groups_of site.groups user) user) ((bytes_eq-Decides user user).1 refl)
    ∙ by (bytes_eq user anyone) (is_group_in (groups_of site.groups user) user)
  where
    by : (b c : Bool) → (true || b || c) ≡ true
    by true true = refl
    by true false = refl
    by false true = refl
    by false false = refl

in_tree : (acl : AclMap) (text : List ℕ) (name : Name) → text ≡ root_of name → finds text name acl ≡ true
in_tree acl text name same = ap (λ b. fin.contains_key acl text || b) ((bytes_eq-Decides text (root_of name)).1 same) ∙ or_right (fin.contains_key acl text)

owned : (site : Site) (user : List ℕ) (name : Name) (acl : AclMap) → user ≡ owner_of site name → Found site user name (Some acl)
owned site user name acl own = by (root_of name) refl own
  where
    by : (root : List ℕ) → root_of name ≡ root → user ≡ owner_by_root site root → Found site user name (Some acl)
    by [] is same = ([], inr (refl, (bytes_eq-Decides site.administrator user).1 (sym same)), in_tree acl [] name (sym is))
    by (octet ∷ octets) is same = (user, inl (stands_itself site user), in_tree acl user name (same ∙ sym is))

found_if_visible : (site : Site) (user : List ℕ) (name : Name) (mailbox : Mailbox) → is_some (seen_at site user name mailbox) ≡ true → Found site user name (Some mailbox.acl)
found_if_visible site user name mailbox seen = by (is_root name) seen
  where
    at : (user ≡ owner_of site name) ⊎ Stands site user mailbox.acl → Found site user name (Some mailbox.acl)
    at (inl own) = owned site user name mailbox.acl own
    at (inr (id, stands, there)) = (id, inl stands, ap (λ b. b || bytes_eq id (root_of name)) there)

    by : (b : Bool) → is_some (cond b None (seen_with site user (effective user (owner_of site name) site.groups mailbox.acl) mailbox)) ≡ true → Found site user name (Some mailbox.acl)
    by true e = cc
    by false e = at (visible site user (owner_of site name) mailbox.acl (has (seen_by_rights site user (effective user (owner_of site name) site.groups mailbox.acl) mailbox) (has_any (effective user (owner_of site name) site.groups mailbox.acl) visible_rights) e))
      where
        has : {X : Type 0} (x : X) (b : Bool) → is_some (cond b (Some x) None) ≡ true → b ≡ true
        has x true f = refl
        has x false f = cc

pub all_seen : (site : Site) (user : List ℕ) (world : World) (names : List Name) → ((text : List ℕ) → IsStart site user text → HaveFound (lists_of world.mailboxes) text names)
    → HaveAllSeen (view_of site user world) names
unfolding view_of
all_seen site user world names found name there =
    by (fin.get world.mailboxes name) refl (sym (ap is_some (get-keep name_cmp (seen_at site user) name_antisymmetric world.mailboxes name)) ∙ there)
  where
    by : (o : Option Mailbox) → fin.get world.mailboxes name ≡ o → is_some (option_and_then (seen_at site user name) o) ≡ true → Contains names name
    by None e h = cc
    by (Some mailbox) e h =
        let start = found_if_visible site user name mailbox h in
        found start.0 start.1 name (ap (λ o. finds_at start.0 name (option_map (λ (m : Mailbox). m.acl) o)) e ∙ start.2)

-- ---- names that are appended

module _ (lists : Lists) where
  pub appended : (text : List ℕ) (old new : List Name) → PushesNames lists text old new → AddsFound lists (λ other. other ≡ text) old new
  appended text old new pushed = record {
    added = λ other same name h. subst (λ (l : List Name). Contains l name) (sym pushed.appended)
        (Contains-append_right old pushed.more name ((pushed.names name).1 (ap (λ t. finds_at t name (lists name)) (sym same) ∙ h)));
    kept = λ other had name h. subst (λ (l : List Name). Contains l name) (sym pushed.appended) (Contains-append_left old pushed.more name (had name h));
  }

  pub nothing_added : (Texts : List ℕ → Type 0) (old : List Name) → ((text : List ℕ) → Texts text → ⊥) → AddsFound lists Texts old old
  nothing_added Texts old none = record { added = λ text is. absurd (none text is); kept = λ text had. had }

  pub added_then : (First Second Both : List ℕ → Type 0) (old between new : List Name) → ((text : List ℕ) → Both text → First text ⊎ Second text)
      → AddsFound lists First old between → AddsFound lists Second between new → AddsFound lists Both old new
  added_then First Second Both old between new parts first second = record {
    added = λ text is. by text (parts text is);
    kept = λ text had. second.kept text (first.kept text had);
  }
    where
      by : (text : List ℕ) → First text ⊎ Second text → HaveFound lists text new
      by text (inl is) = second.kept text (first.added text is)
      by text (inr is) = second.added text is

-- a start is the user's name, `anyone`, the root of the shared tree, or a group's identifier
pub starts_are : (site : Site) (user text : List ℕ) (identifiers : List (List ℕ)) → AreIdentifiersOf (groups_of site.groups user) identifiers → IsStart site user text
    → ((text ≡ user) ⊎ (text ≡ anyone)) ⊎ (((text ≡ []) × (bytes_eq site.administrator user ≡ true)) ⊎ Contains identifiers text)
starts_are site user text identifiers are (inr root) = inr (inl root)
starts_are site user text identifiers are (inl stands) = by (bytes_eq text user) refl (bytes_eq text anyone) refl stands
  where
    by : (a : Bool) → bytes_eq text user ≡ a → (b : Bool) → bytes_eq text anyone ≡ b → (a || b || is_group_in (groups_of site.groups user) text) ≡ true
        → ((text ≡ user) ⊎ (text ≡ anyone)) ⊎ (((text ≡ []) × (bytes_eq site.administrator user ≡ true)) ⊎ Contains identifiers text)
    by true e b f h = inl (inl ((bytes_eq-Decides text user).0 e))
    by false e true f h = inl (inr ((bytes_eq-Decides text anyone).0 f))
    by false e false f h = inr (inr ((are text).0 h))

pub on_ok : {T E P Q : Type 0} (r : Result T E) → OnOk r P → (P → Q) → OnOk r Q
on_ok (Ok x) p f = f p
on_ok (Err e) p f = tt

-- one more of the identifiers
pub one_more : {X : Type 0} (f : X → List ℕ) (xs : List X) (i : ℕ) (x : X) → i < length xs → x ≡ get_or xs i x → (text : List ℕ)
    → Contains (map_list f (take (i + 1) xs)) text → Contains (map_list f (take i xs)) text ⊎ (text ≡ f x)
one_more f xs i x lt is text c = by (Contains-push_cases (map_list f (take i xs)) (f x) text (subst (λ l. Contains l text) (map_more f xs i x lt ∙ ap (λ y. map_list f (take i xs) ++ f y ∷ []) (sym is)) c))
  where
    by : Contains (map_list f (take i xs)) text ⊎ (f x ≡ text) → Contains (map_list f (take i xs)) text ⊎ (text ≡ f x)
    by (inl d) = inl d
    by (inr e) = inr (sym e)

pub fewer : (lists : Lists) (Texts Fewer : List ℕ → Type 0) (old new : List Name) → ((text : List ℕ) → Fewer text → Texts text) → AddsFound lists Texts old new → AddsFound lists Fewer old new
fewer lists Texts Fewer old new are adds = record { added = λ text is. adds.added text (are text is); kept = adds.kept }

pub none_held : {X : Type 0} (x : X) → Contains [] x → ⊥
none_held x c = let l : c.0 < 0 = c.1 in absurd (omega (arith, l))

-- four steps find what any of them finds
pub found_by_steps : (lists : Lists) (First Second Third Fourth : List ℕ → Type 0) (a b c d e : List Name) → AddsFound lists First a b → AddsFound lists Second b c → AddsFound lists Third c d
    → AddsFound lists Fourth d e → (text : List ℕ) → (First text ⊎ Second text) ⊎ (Third text ⊎ Fourth text) → HaveFound lists text e
found_by_steps lists First Second Third Fourth a b c d e one two three four text (inl (inl is)) = four.kept text (three.kept text (two.kept text (one.added text is)))
found_by_steps lists First Second Third Fourth a b c d e one two three four text (inl (inr is)) = four.kept text (three.kept text (two.added text is))
found_by_steps lists First Second Third Fourth a b c d e one two three four text (inr (inl is)) = four.kept text (three.added text is)
found_by_steps lists First Second Third Fourth a b c d e one two three four text (inr (inr is)) = four.added text is
