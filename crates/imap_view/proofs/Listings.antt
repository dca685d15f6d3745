-- What a view has, one after another.
use Rattle.std.proofs.Common.{◌≡◌, ℕ, Bool, true, false, cond, ◌||◌, List, [], ◌∷◌, map, Option, Some, None, is_some, refl, sym, ap, subst, ◌∙◌}
use Rattle.std.specs.List.{filter_map, cons_option, list_any}
use Rattle.std.specs.Prelude.{option_map}
use Rattle.std.specs.Borrow.{Bor}
use Rattle.std.specs.Iterator.{YieldsFirstRef}
use Rattle.std.specs.FinMap as fin
use Rattle.imap_names.specs.Name.{Name}
use Rattle.imap_names.specs.Order.{Names, name_cmp, is_below}
use Rattle.imap_world.specs.NameMapRows.{entries_below, below_of, has_below}
use Rattle.imap_world.specs.declared.site.Site.{Site}
use Rattle.imap_world.specs.declared.mailbox_entry.MailboxEntry.{MailboxEntry}
use Rattle.imap_world.specs.Mailbox.{Mailbox, plain, plain_all}
use Rattle.imap_world.proofs.Contents.{entries_plain, plain_entry}
use Rattle.imap_user_map.specs.Finite.{kept_entry}
use Rattle.imap_world.specs.World.{World, NameSet}
use Rattle.imap_user_map.proofs.KeptValues.{entries-keep}
use Rattle.imap_view.specs.Listing.{names_below, known_among, seen_among}
use Rattle.imap_view.specs.Seen.{Seen, seen_at}
use Rattle.imap_view.specs.View.{View, view_of, may_know_name_in, if_true}

abbrev known_entry : View → Name → Mailbox → Option (Unit {0})
known_entry view name mailbox = if_true (may_know_name_in view name) tt

module _ (site : Site) (user : List ℕ) (world : World) where
  entries_taken : fin.entries (view_of site user world).taken ≡ filter_map (kept_entry (known_entry (view_of site user world))) (fin.entries world.mailboxes)
  unfolding view_of
  entries_taken = entries-keep name_cmp (known_entry (view_of site user world)) world.mailboxes

  entries_seen : filter_map (kept_entry (seen_at (view_of site user world).site (view_of site user world).user)) (fin.entries world.mailboxes) ≡ fin.entries (view_of site user world).seen
  unfolding view_of
  entries_seen = sym (entries-keep name_cmp (seen_at site user) world.mailboxes)

module _ (view : View) (top : Name) where
  known_below : (es : List (Name × Mailbox)) → known_among view (entries_below top es) ≡ map (λ e. e.0) (entries_below top (filter_map (kept_entry (known_entry view)) es))
  known_below [] = refl
  known_below (e ∷ es) =
      known_first (is_below top e.0)
      ∙ both (may_know_name_in view e.0) (is_below top e.0) (known_below es)
      ∙ sym (kept_first (may_know_name_in view e.0))
    where
      kept : List (Name × Unit {0})
      kept = filter_map (kept_entry (known_entry view)) es

      known_first : (below : Bool) → known_among view (cond below (e ∷ entries_below top es) (entries_below top es))
          ≡ cond below (cond (may_know_name_in view e.0) (e.0 ∷ known_among view (entries_below top es)) (known_among view (entries_below top es))) (known_among view (entries_below top es))
      known_first true = refl
      known_first false = refl

      kept_first : (known : Bool) → map (λ f. f.0) (entries_below top (cons_option (option_map (λ y. (e.0, y)) (if_true known tt)) kept))
          ≡ map (λ f. f.0) (cond known (cond (is_below top e.0) ((e.0, tt) ∷ entries_below top kept) (entries_below top kept)) (entries_below top kept))
      kept_first true = refl
      kept_first false = refl

      both : (known below : Bool) → known_among view (entries_below top es) ≡ map (λ f. f.0) (entries_below top kept)
          → cond below (cond known (e.0 ∷ known_among view (entries_below top es)) (known_among view (entries_below top es))) (known_among view (entries_below top es))
          ≡ map (λ f. f.0) (cond known (cond below ((e.0, tt) ∷ entries_below top kept) (entries_below top kept)) (entries_below top kept))
      both true true rest = ap (λ names. e.0 ∷ names) rest
      both true false rest = rest
      both false true rest = rest
      both false false rest = rest

-- what is seen of a run is the run of what is seen
seen_narrowed : (view : View) (top : Name) (es : List (Name × MailboxEntry)) → seen_among view (entries_below top es) ≡ entries_below top (seen_among view es)
seen_narrowed view top [] = refl
seen_narrowed view top (e ∷ es) = first (is_below top e.0) ∙ both (is_below top e.0) (seen_narrowed view top es) ∙ sym (kept (seen_at view.site view.user e.0 (plain e.1)))
  where
    entry : Option Seen → Option (Name × Seen)
    entry o = option_map (λ seen. (e.0, seen)) o

    seen : Option (Name × Seen)
    seen = entry (seen_at view.site view.user e.0 (plain e.1))

    later : List (Name × Seen)
    later = seen_among view (entries_below top es)

    narrowed : List (Name × Seen)
    narrowed = entries_below top (seen_among view es)

    first : (below : Bool) → seen_among view (cond below (e ∷ entries_below top es) (entries_below top es)) ≡ cond below (cons_option seen later) later
    first true = refl
    first false = refl

    both : (below : Bool) → later ≡ narrowed → cond below (cons_option seen later) later ≡ cond below (cons_option seen narrowed) narrowed
    both true rest = ap (cons_option seen) rest
    both false rest = rest

    alone : (below : Bool) → narrowed ≡ cond below narrowed narrowed
    alone true = refl
    alone false = refl

    kept : (o : Option Seen) → entries_below top (cons_option (entry o) (seen_among view es)) ≡ cond (is_below top e.0) (cons_option (entry o) narrowed) narrowed
    kept (Some s) = refl
    kept None = alone (is_below top e.0)

-- without their room
seen_plain : (view : View) (es : List (Name × MailboxEntry)) → seen_among view es ≡ filter_map (kept_entry (seen_at view.site view.user)) (map plain_entry es)
seen_plain view [] = refl
seen_plain view (e ∷ es) = ap (cons_option (option_map (λ y. (e.0, y)) (seen_at view.site view.user e.0 (plain e.1)))) (seen_plain view es)

known_plain : (view : View) (top : Name) (es : List (Name × MailboxEntry)) → known_among view (entries_below top es) ≡ known_among view (entries_below top (map plain_entry es))
known_plain view top [] = refl
known_plain view top (e ∷ es) = by (is_below top e.0) (known_plain view top es)
  where
    by : (b : Bool) → known_among view (entries_below top es) ≡ known_among view (entries_below top (map plain_entry es))
        → known_among view (cond b (e ∷ entries_below top es) (entries_below top es)) ≡ known_among view (cond b (plain_entry e ∷ entries_below top (map plain_entry es)) (entries_below top (map plain_entry es)))
    by true rest = ap (λ names. cond (may_know_name_in view e.0) (e.0 ∷ names) names) rest
    by false rest = rest

module _ (site : Site) (user : List ℕ) (world : World) (view : View) (is : view_of site user world ≡ view) where
  pub taken_names_are : (top : Name) → known_among view (below_of top world.mailboxes) ≡ names_below top view.taken
  taken_names_are top =
      known_below view top (fin.entries world.mailboxes)
      ∙ ap (λ es. map (λ e. e.0) (entries_below top es)) (sym (subst (λ v. fin.entries v.taken ≡ filter_map (kept_entry (known_entry v)) (fin.entries world.mailboxes)) is (entries_taken site user world)))

  pub names_taken : (top : Name) (m : Names MailboxEntry) → plain_all m ≡ world.mailboxes → known_among view (below_of top m) ≡ names_below top view.taken
  names_taken top m are =
      known_plain view top (fin.entries m) ∙ ap (λ es. known_among view (entries_below top es)) (sym (entries_plain m) ∙ ap fin.entries are)
      ∙ taken_names_are top

  pub names_seen : (m : Names MailboxEntry) → plain_all m ≡ world.mailboxes → seen_among view (fin.entries m) ≡ fin.entries view.seen
  names_seen m are =
      seen_plain view (fin.entries m) ∙ ap (filter_map (kept_entry (seen_at view.site view.user))) (sym (entries_plain m) ∙ ap fin.entries are)
      ∙ subst (λ v. filter_map (kept_entry (seen_at v.site v.user)) (fin.entries world.mailboxes) ≡ fin.entries v.seen) is (entries_seen site user world)

  pub names_seen_below : (top : Name) (m : Names MailboxEntry) → plain_all m ≡ world.mailboxes → seen_among view (below_of top m) ≡ below_of top view.seen
  names_seen_below top m are = seen_narrowed view top (fin.entries m) ∙ ap (entries_below top) (names_seen m are)

-- ---- whether there is one

abbrev is_filled : List Name → Bool
is_filled [] = false
is_filled (name ∷ names) = true

any_below : (top : Name) (es : List (Name × Unit {0})) → is_filled (map (λ e. e.0) (entries_below top es)) ≡ list_any (λ e. is_below top e.0) es
any_below top [] = refl
any_below top (e ∷ es) = by (is_below top e.0) (any_below top es)
  where
    by : (b : Bool) → is_filled (map (λ f. f.0) (entries_below top es)) ≡ list_any (λ f. is_below top f.0) es
        → is_filled (map (λ f. f.0) (cond b (e ∷ entries_below top es) (entries_below top es))) ≡ (b || list_any (λ f. is_below top f.0) es)
    by true rest = refl
    by false rest = rest

first_tells : (names later : List Name) (r : Option (Bor Name)) → YieldsFirstRef (λ left. left) names r later → is_some r ≡ is_filled names
first_tells names later None steps = ap is_filled (sym steps.0)
first_tells names later (Some name) steps = ap is_filled (sym steps)

pub first_taken : (top : Name) (taken : NameSet) (names later : List Name) (r : Option (Bor Name)) → names ≡ names_below top taken → YieldsFirstRef (λ left. left) names r later → is_some r ≡ has_below top taken
first_taken top taken names later r are steps = first_tells names later r steps ∙ ap is_filled are ∙ any_below top (fin.entries taken)
