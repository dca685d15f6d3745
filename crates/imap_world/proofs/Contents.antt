use Rattle.std.proofs.Common.{◌≡◌, Bool, true, false, cond, ◌||◌, List, [], ◌∷◌, length, map as map_list, Option, Some, None, is_some, refl, sym, ap, ◌∙◌}
use Rattle.std.specs.Prelude.{option_map, option_and_then, option_copied}
use Rattle.std.proofs.lemmas.List.{length-map}
use Rattle.std.specs.Borrow.{Bor}
use Rattle.std.specs.List.{filter_map, list_any}
use Rattle.std.specs.Ordering.{eq_by_cmp}
use Rattle.std.specs.FinMap as map
use Rattle.std.specs.FinMap.{find, get-empty, len-entries}
use Rattle.imap_name_map.proofs.NamesMoved.{moved_names_alike}
use Rattle.imap_name_map.specs.Renaming.{moved_entry, moved_names, renamed}
use Rattle.imap_name_map.specs.Rows.{has_below, has_within}
use Rattle.imap_names.specs.Name.{Name, superior}
use Rattle.imap_names.specs.Order.{Names, name_cmp, is_below, is_within, moved}
use Rattle.imap_names.proofs.NameLaws.{is_name_at, same_names, get_listed, get_put, get_without}
use Rattle.imap_names.proofs.OrderLaws.{name_antisymmetric}
use Rattle.imap_world.specs.declared.mailbox_entry.MailboxEntry.{MailboxEntry}
use Rattle.imap_user_map.specs.Finite.{kept_entry}
use Rattle.imap_world.specs.Kept.{is_there, superior_is_there}
use Rattle.imap_world.specs.Mailbox.{Mailbox, plain, plain_all, plain_at, plain_lent}
use Rattle.imap_user_map.proofs.KeptValues.{entries-keep, get-keep}

abbrev pub plain_entry : Name × MailboxEntry → Name × Mailbox
plain_entry e = (e.0, plain e.1)

pub get_plain : (m : Names MailboxEntry) (q : Name) → map.get (plain_all m) q ≡ option_map plain (map.get m q)
get_plain m q = get-keep name_cmp plain_at name_antisymmetric m q ∙ by (map.get m q)
  where
    by : (o : Option MailboxEntry) → option_and_then (plain_at q) o ≡ option_map plain o
    by None = refl
    by (Some x) = refl

some_plain : (o : Option MailboxEntry) → is_some (option_map plain o) ≡ is_some o
some_plain None = refl
some_plain (Some x) = refl

pub contains_plain : (m : Names MailboxEntry) (q : Name) → map.contains_key (plain_all m) q ≡ map.contains_key m q
contains_plain m q = ap is_some (get_plain m q) ∙ some_plain (map.get m q)

pub lent_plain : (m : Names MailboxEntry) (q : Name) (r : Option (Bor MailboxEntry)) → option_copied r ≡ map.get m q → plain_lent r ≡ map.get (plain_all m) q
lent_plain m q r is = by r ∙ ap (option_map plain) is ∙ sym (get_plain m q)
  where
    by : (r : Option (Bor MailboxEntry)) → plain_lent r ≡ option_map plain (option_copied r)
    by None = refl
    by (Some x) = refl

pub plain_put : (m : Names MailboxEntry) (k : Name) (x : MailboxEntry) → plain_all (map.insert m k x) ≡ map.insert (plain_all m) k (plain x)
plain_put m k x = same_names _ _ (λ q. get_plain (map.insert m k x) q ∙ ap (option_map plain) (get_put m k x q) ∙ by q (is_name_at q k)
    ∙ ap (cond (is_name_at q k) (Some (plain x))) (sym (get_plain m q)) ∙ sym (get_put (plain_all m) k (plain x) q))
  where
    by : (q : Name) (b : Bool) → option_map plain (cond b (Some x) (map.get m q)) ≡ cond b (Some (plain x)) (option_map plain (map.get m q))
    by q true = refl
    by q false = refl

pub plain_without : (m : Names MailboxEntry) (k : Name) → plain_all (map.remove m k) ≡ map.remove (plain_all m) k
plain_without m k = same_names _ _ (λ q. get_plain (map.remove m k) q ∙ ap (option_map plain) (get_without m k q) ∙ by q (is_name_at q k)
    ∙ ap (cond (is_name_at q k) None) (sym (get_plain m q)) ∙ sym (get_without (plain_all m) k q))
  where
    by : (q : Name) (b : Bool) → option_map plain (cond b None (map.get m q)) ≡ cond b None (option_map plain (map.get m q))
    by q true = refl
    by q false = refl

pub entries_plain : (m : Names MailboxEntry) → map.entries (plain_all m) ≡ map_list plain_entry (map.entries m)
entries_plain m = entries-keep name_cmp plain_at m ∙ all (map.entries m)
  where
    all : (es : List (Name × MailboxEntry)) → filter_map (kept_entry plain_at) es ≡ map_list plain_entry es
    all [] = refl
    all (e ∷ es) = ap (λ more. plain_entry e ∷ more) (all es)

pub plain_len : (m n : Names MailboxEntry) → plain_all m ≡ plain_all n → map.len m ≡ map.len n
plain_len m n same = one m ∙ ap map.len same ∙ sym (one n)
  where
    one : (k : Names MailboxEntry) → map.len k ≡ map.len (plain_all k)
    one k = len-entries k ∙ sym (length-map (map.entries k) plain_entry) ∙ ap length (sym (entries_plain k)) ∙ sym (len-entries (plain_all k))

pub below_plain : (top : Name) (m : Names MailboxEntry) → has_below top (plain_all m) ≡ has_below top m
below_plain top m = ap (list_any (λ e. is_below top e.0)) (entries_plain m) ∙ any (map.entries m)
  where
    any : (es : List (Name × MailboxEntry)) → list_any (λ e. is_below top e.0) (map_list plain_entry es) ≡ list_any (λ e. is_below top e.0) es
    any [] = refl
    any (e ∷ es) = ap (λ b. is_below top e.0 || b) (any es)

pub within_plain : (top : Name) (m : Names MailboxEntry) → has_within top (plain_all m) ≡ has_within top m
within_plain top m = λ i. contains_plain m top i || below_plain top m i

pub moved_names_plain : (old new : Name) (m : Names MailboxEntry) → moved_names old new (plain_all m) ≡ moved_names old new m
moved_names_plain old new m = moved_names_alike old new (plain_all m) m (λ q e. contains_plain m q)

find_plain : (q : Name) (es : List (Name × MailboxEntry)) → find name_cmp q (map_list plain_entry es) ≡ option_map plain (find name_cmp q es)
find_plain q [] = refl
find_plain q (e ∷ es) = by (eq_by_cmp name_cmp q e.0) (find_plain q es)
  where
    by : (b : Bool) → find name_cmp q (map_list plain_entry es) ≡ option_map plain (find name_cmp q es)
        → cond b (Some (plain e.1)) (find name_cmp q (map_list plain_entry es)) ≡ option_map plain (cond b (Some e.1) (find name_cmp q es))
    by true rest = refl
    by false rest = rest

pub renamed_plain : (old new : Name) (m : Names MailboxEntry) → plain_all (renamed old new m) ≡ renamed old new (plain_all m)
renamed_plain old new m = same_names _ _ (λ q. get_plain (renamed old new m) q ∙ ap (option_map plain) (get_listed (map_list (moved_entry old new) (map.entries m)) q)
    ∙ sym (find_plain q (map_list (moved_entry old new) (map.entries m))) ∙ ap (find name_cmp q) (all (map.entries m) ∙ ap (map_list (moved_entry old new)) (sym (entries_plain m)))
    ∙ sym (get_listed (map_list (moved_entry old new) (map.entries (plain_all m))) q))
  where
    one : (e : Name × MailboxEntry) (b : Bool) → plain_entry (cond b (moved old new e.0, e.1) e) ≡ cond b (moved old new e.0, plain e.1) (plain_entry e)
    one e true = refl
    one e false = refl

    all : (es : List (Name × MailboxEntry)) → map_list plain_entry (map_list (moved_entry old new) es) ≡ map_list (moved_entry old new) (map_list plain_entry es)
    all [] = refl
    all (e ∷ es) = λ i. one e (is_within old e.0) i ∷ all es i

pub plain_empty : plain_all map.empty ≡ map.empty
plain_empty = same_names _ _ (λ q. get_plain map.empty q ∙ ap (option_map plain) (get-empty name_cmp q) ∙ sym (get-empty name_cmp q))

pub superior_plain : (m : Names MailboxEntry) (q : Name) → superior_is_there (plain_all m) q ≡ superior_is_there m q
superior_plain m q = by (superior q)
  where
    by : (o : Option Name) → is_there (plain_all m) o ≡ is_there m o
    by None = refl
    by (Some above) = contains_plain m above
