-- A listing that starts from names among which are all that its user sees.
use Rattle.std.proofs.Common.{◌≡◌, cond, List, [], ◌∷◌, ◌++◌, map, filter, ◌⊎◌, inl, inr, Option, Some, None, is_some, refl, sym, ap, subst, ◌∙◌}
use Rattle.std.specs.Prelude.{◌↔◌}
use Rattle.std.specs.FinMap as fin
use Rattle.std.specs.List.{Contains, cons_option, filter_map}
use Rattle.std.proofs.lemmas.Option.{cond_some, none-some}
use Rattle.imap_names.specs.Name.{Name}
use Rattle.imap_names.specs.Showing.{shown}
use Rattle.imap_answer.specs.Seen.{Seen}
use Rattle.imap_answer.specs.Starts.{HaveAllSeen}
use Rattle.imap_answer.specs.View.{View}
use Rattle.imap_listing.specs.IsListing.{IsThere}
use Rattle.imap_listing.specs.declared.line.Line.{Line}
use Rattle.imap_listing.specs.Lines.{line_by, listed_names, lines_of, subscribed_listed_names, subscribed_lines_of}
use Rattle.imap_listing.specs.Matching.{Patterns, is_matched, is_matched_level}
use Rattle.imap_listing.specs.Texts.{Text, in_order, levels, levels_above}
use Rattle.imap_listing.specs.ViewNames.{HaveSame, is_listable, listable_at, listable_names, shown_if_listable}
use Rattle.imap_listing.proofs.Exact.{there_is}
use Rattle.imap_listing.proofs.Listed.{same_lines, same_listed}
use Rattle.imap_listing.proofs.Members.{flat_mapped}
use Rattle.imap_listing.proofs.Order.{first_or_later, holds_first, holds_later, none_held, same_in_order}

module _ {X Y : Type 0} (f : X → Option Y) where
  pub filter_mapped : (xs : List X) (n : Y) → Contains (filter_map f xs) n ↔ ((x : X) × Contains xs x × (f x ≡ Some n))
  filter_mapped [] n = (λ c. absurd (none_held n c), λ h. absurd (none_held h.0 h.1))
  filter_mapped (x ∷ xs) n = (λ c. forth (filter_mapped xs n).0 (f x) refl c, λ h. back (filter_mapped xs n).1 h.0 h.2 (first_or_later x xs h.0 h.1))
    where
      forth : (Contains (filter_map f xs) n → (y : X) × Contains xs y × (f y ≡ Some n)) → (o : Option Y) → f x ≡ o → Contains (cons_option o (filter_map f xs)) n → (y : X) × Contains (x ∷ xs) y × (f y ≡ Some n)
      forth later None e c = let h = later c in (h.0, holds_later x xs h.0 h.1, h.2)
      forth later (Some y) e c = at (first_or_later y (filter_map f xs) n c)
        where
          at : (y ≡ n) ⊎ Contains (filter_map f xs) n → (z : X) × Contains (x ∷ xs) z × (f z ≡ Some n)
          at (inl same) = (x, holds_first x xs, e ∙ ap Some same)
          at (inr d) = let h = later d in (h.0, holds_later x xs h.0 h.1, h.2)

      put_before : (o : Option Y) → Contains (filter_map f xs) n → Contains (cons_option o (filter_map f xs)) n
      put_before None c = c
      put_before (Some y) c = holds_later y (filter_map f xs) n c

      back : ((y : X) × Contains xs y × (f y ≡ Some n) → Contains (filter_map f xs) n) → (y : X) → f y ≡ Some n → (x ≡ y) ⊎ Contains xs y → Contains (cons_option (f x) (filter_map f xs)) n
      back later y e (inl q) = subst (λ (o : Option Y). Contains (cons_option o (filter_map f xs)) n) (sym (ap f q ∙ e)) (holds_first n (filter_map f xs))
      back later y e (inr d) = put_before (f x) (later (y, d, e))

-- ---- the names on whose mailboxes the user holds `l`

pub started : (view : View) (names : List Name) → HaveAllSeen view names → HaveSame (filter_map (listable_at view) names) (listable_names view)
started view names all text = (
  λ c. let h = (filter_mapped (listable_at view) names text).0 c in (there_is view text).1 (forth h.0 (fin.get view.seen h.0) refl h.2),
  λ c. let h = (there_is view text).0 c in back h,
)
  where
    forth : (name : Name) (o : Option Seen) → fin.get view.seen name ≡ o → shown_if_listable view name o ≡ Some text → IsThere view text
    forth name None e h = absurd (none-some text h)
    forth name (Some seen) e h =
        let parts = cond_some (is_listable seen) (shown view.user name) text h in
        (name, seen, e, parts.0, parts.1)

    back : IsThere view text → Contains (filter_map (listable_at view) names) text
    back (name, seen, there, listable, same) =
        (filter_mapped (listable_at view) names text).1
        (name, all name (ap is_some there), ap (shown_if_listable view name) there ∙ ap (λ b. cond b (Some (shown view.user name)) None) listable ∙ ap Some same)

-- ---- lines of the same names

-- the lines, by names and levels that are in order
abbrev ordered_lines : (subscribed : List Text) (patterns : Patterns) (there above : List Text) → List Line
ordered_lines subscribed patterns there above =
    map (line_by there above (in_order subscribed)) (in_order (filter (is_matched patterns) there ++ filter (is_matched_level patterns) above))

in_their_order : (there subscribed : List Text) (patterns : Patterns) → lines_of there subscribed patterns ≡ ordered_lines subscribed patterns (in_order there) (in_order (levels there))
in_their_order there subscribed patterns =
    sym (same_lines there subscribed (listed_names there patterns))
    ∙ ap (map (line_by (in_order there) (in_order (levels there)) (in_order subscribed))) (sym (same_listed there patterns))

module _ (names others : List Text) (same : HaveSame names others) where
  same_names : in_order names ≡ in_order others
  same_names = same_in_order names others same

  same_levels : in_order (levels names) ≡ in_order (levels others)
  same_levels = same_in_order (levels names) (levels others) (λ n. (
    λ c. let h = (flat_mapped levels_above names n).0 c in (flat_mapped levels_above others n).1 (h.0, (same h.0).0 h.1, h.2),
    λ c. let h = (flat_mapped levels_above others n).0 c in (flat_mapped levels_above names n).1 (h.0, (same h.0).1 h.1, h.2),
  ))

  pub alike_lines : (subscribed : List Text) (patterns : Patterns) → lines_of names subscribed patterns ≡ lines_of others subscribed patterns
  alike_lines subscribed patterns =
      in_their_order names subscribed patterns ∙ (λ i. ordered_lines subscribed patterns (same_names i) (same_levels i)) ∙ sym (in_their_order others subscribed patterns)

  pub alike_subscribed : (subscribed : List Text) (patterns : Patterns) → subscribed_lines_of names subscribed patterns ≡ subscribed_lines_of others subscribed patterns
  alike_subscribed subscribed patterns =
      let listed = subscribed_listed_names subscribed patterns in
      sym (same_lines names subscribed listed) ∙ (λ i. map (line_by (same_names i) (same_levels i) (in_order subscribed)) listed) ∙ same_lines others subscribed listed

pub same_itself : (names others : List Text) → names ≡ others → HaveSame names others
same_itself names others e text = (λ c. subst (λ (l : List Text). Contains l text) e c, λ c. subst (λ (l : List Text). Contains l text) (sym e) c)
