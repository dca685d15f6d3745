-- The names and validities that mailboxes get by RENAME are found from the view, though mailboxes that aren't seen move, too.
use Rattle.std.proofs.Common.{◌≡◌, ℕ, ◌+◌, Bool, true, false, cond, ◌&&◌, List, [], ◌∷◌, map as map_list, Result, Ok, Err, refl, sym, ap, ◌∙◌}
use Rattle.std.specs.Prelude.{nat_lt, unwrap_or}
use Rattle.std.specs.List.{list_all}
use Rattle.std.specs.FinMap as map
use Rattle.std.proofs.lemmas.Bool.{and_parts}
use Rattle.std.proofs.lemmas.Simd.{map-map}
use Rattle.imap_world.specs.Renaming.{moved_names}
use Rattle.imap_world.specs.NameMapRows.{entries_below, run_of}
use Rattle.imap_world.proofs.WithinLaws.{run_names, run_within}
use Rattle.imap_names.specs.Name.{Name}
use Rattle.imap_names.specs.Order.{Names, is_below, is_within, moved}
use Rattle.imap_names.specs.Valid.{fits}
use Rattle.imap_names.proofs.MovedLaws.{moved_within}
use Rattle.imap_world.specs.declared.site.Site.{Site}
use Rattle.imap_world.specs.declared.error.WorldError.{WorldError}
use Rattle.imap_world.specs.declared.error.WorldError.TheVariants.{Limit}
use Rattle.imap_world.specs.Mailbox.{Mailbox}
use Rattle.imap_world.specs.Moving.{arrivals, arrivals_at, can_arrive}
use Rattle.imap_world.specs.World.{World, epoch, max_validity}
use Rattle.imap_view.specs.Listing.{known_among}
use Rattle.imap_view.specs.RenameAfter.{names_after}
use Rattle.imap_view.specs.View.{View, view_of, may_know_name_in}
use Rattle.imap_view.proofs.Deleting.{known_below}
use Rattle.imap_view.proofs.Listings.{taken_names_are}
use Rattle.imap_view.proofs.Moving.{IsMove, place, there, known, known_within, epochs_there}

-- ---- the names

module _ (site : Site) (user : List ℕ) (world : World) (old new : Name) (move : IsMove site user world old new) where
  abbrev view : View
  view = view_of site user world

  all_known : (q : Name) → is_below old q ≡ true → may_know_name_in view q ≡ true
  unfolding view_of
  all_known q below = known_below site user world old (place site user world old new move) q below

  known_names : (es : List (Name × Mailbox)) → known_among view (entries_below old es) ≡ map_list (λ e. e.0) (entries_below old es)
  known_names [] = refl
  known_names (e ∷ es) = by (is_below old e.0) refl (known_names es)
    where
      by : (b : Bool) → is_below old e.0 ≡ b → known_among view (entries_below old es) ≡ map_list (λ f. f.0) (entries_below old es)
          → known_among view (cond b (e ∷ entries_below old es) (entries_below old es)) ≡ map_list (λ f. f.0) (cond b (e ∷ entries_below old es) (entries_below old es))
      by true below rest =
          ap (λ b. cond b (e.0 ∷ known_among view (entries_below old es)) (known_among view (entries_below old es))) (all_known e.0 below)
          ∙ ap (λ names. e.0 ∷ names) rest
      by false apart rest = rest

  -- the user knows of all names that move
  pub names_known : moved_names old new world.mailboxes ≡ names_after view old new
  names_known =
      sym (map-map (moved old new) (λ e. e.0) (run_of old world.mailboxes))
      ∙ ap (map_list (moved old new))
      (run_names old world.mailboxes (there site user world old new move)
      ∙ ap (λ names. old ∷ names) (sym (known_names (map.entries world.mailboxes)) ∙ taken_names_are site user world view refl old))

-- ---- their validities

abbrev arrivals_of : Names ℕ → List Name → Result (List (Name × ℕ)) WorldError
arrivals_of epochs names = cond (list_all (can_arrive epochs) names) (Ok (arrivals_at epochs names)) (Err Limit)

module _ {X : Type 0} (a b : Names ℕ) (old new : Name) (same : (q : Name) → is_within old q ≡ true → epoch a (moved old new q) ≡ epoch b (moved old new q)) where
  abbrev names : List (Name × X) → List Name
  names es = map_list (λ e. moved old new e.0) es

  arrive_alike : (es : List (Name × X)) → list_all (λ e. is_within old e.0) es ≡ true → list_all (can_arrive a) (names es) ≡ list_all (can_arrive b) (names es)
  arrive_alike [] within = refl
  arrive_alike (e ∷ es) within =
      let parts = and_parts _ _ within in
      let rest : list_all (can_arrive a) (names es) ≡ list_all (can_arrive b) (names es) = arrive_alike es parts.1 in
      λ i. (fits (moved old new e.0) && nat_lt (same e.0 parts.0 i) max_validity) && rest i

  arrivals_alike : (es : List (Name × X)) → list_all (λ e. is_within old e.0) es ≡ true → arrivals_at a (names es) ≡ arrivals_at b (names es)
  arrivals_alike [] within = refl
  arrivals_alike (e ∷ es) within =
      let parts = and_parts _ _ within in
      let rest : arrivals_at a (names es) ≡ arrivals_at b (names es) = arrivals_alike es parts.1 in
      λ i. (moved old new e.0, same e.0 parts.0 i + 1) ∷ rest i

module _ (site : Site) (user : List ℕ) (world : World) (old new : Name) (move : IsMove site user world old new) where
  counted : (q : Name) → is_within old q ≡ true → epoch world.epochs (moved old new q) ≡ epoch (view_of site user world).epochs (moved old new q)
  counted q e =
      ap (λ o. unwrap_or o 0)
      (epochs_there site user world (moved old new q)
      (known_within site user world new (known site user world old new move) (moved old new q) (moved_within old new q e)))

  -- and the validities that these get
  pub arrivals_known : list_all (can_arrive (view_of site user world).epochs) (names_after (view_of site user world) old new) ≡ true
      → arrivals world old new ≡ Ok (arrivals_at (view_of site user world).epochs (names_after (view_of site user world) old new))
  arrivals_known can =
      (λ i. cond (arrive_alike world.epochs (view_of site user world).epochs old new counted (run_of old world.mailboxes) (run_within old world.mailboxes) i)
      (Ok (arrivals_alike world.epochs (view_of site user world).epochs old new counted (run_of old world.mailboxes) (run_within old world.mailboxes) i)) (Err Limit))
      ∙ ap (arrivals_of (view_of site user world).epochs) (names_known site user world old new move)
      ∙ ap (λ b. cond b (Ok (arrivals_at (view_of site user world).epochs (names_after (view_of site user world) old new))) (Err Limit)) can
