-- New tables hold the world without mailboxes.
use Rattle.std.proofs.Common.{◌≡◌, inl, inr, IsTrue, ℕ, List, Some, None, is_some, refl, sym, ap, subst, ◌∙◌, true≢false, arith}
use Rattle.std.specs.Prelude.{codes}
use Rattle.std.specs.Cmp.Lexicographic.{slice_cmp}
use Rattle.std.specs.Ordering.{nat_cmp}
use Rattle.std.specs.FinMap as map
use Rattle.std.specs.FinMap.{get-empty}
use Rattle.std.proofs.lemmas.Str.{IsUtf8-from_ascii}
use Rattle.sqlite.specs.Effect.{Database}
use Rattle.sqlite.specs.Order.{Row}
use Rattle.sqlite.specs.State.{State, HasCleanDisk}
use Rattle.sqlite.specs.Tree.{Trees}
use Rattle.sqlite_schema.specs.declared.schema.Schema.{Schema}
use Rattle.imap_names.specs.Name.{Name}
use Rattle.imap_names.specs.Order.{Names, name_cmp}
use Rattle.imap_names.proofs.Composed.{ascii_by_test}
use Rattle.imap_records.proofs.NewStore.{new_stores_stand}
use Rattle.imap_records.specs.Values.{WorldHasValues}
use Rattle.imap_message_tables.proofs.Fitting.{empty_fits}
use Rattle.imap_restore.specs.Holding.{HoldSplit, MetaShows}
use Rattle.imap_sql_keeper.specs.Adopting.{FindsStore}
use Rattle.imap_sql_keeper.specs.Keeping.{IsAtRest, Keeps}
use Rattle.imap_tables.specs.Reading.{shown_at}
use Rattle.imap_tables.specs.Rows.{IsOrderly}
use Rattle.imap_tables.specs.Steps.{IsNewStore, store_version}
use Rattle.imap_tables.specs.Stored.{ShowsMeta}
use Rattle.imap_tables.specs.Tables.{no_schema, store_schema}
use Rattle.imap_tables.specs.Texts.{first_schema}
use Rattle.imap_world.specs.Effects.{if_filled}
use Rattle.imap_world.specs.Kept.{AreKept}
use Rattle.imap_world.specs.World.{World, set_of}
use Rattle.imap_world.proofs.KeptMessages.{kept_none}
use Rattle.imap_world.proofs.Sets.{if_filled-empty}
use Rattle.imap_world.proofs.Sound.{empty_is_sound}

none_there : {X : Type 0} (m : Names X) (q : Name) (x : X) → m ≡ map.empty → map.get m q ≡ Some x → ⊥
none_there m q x e is = cc (sym (get-empty name_cmp q) ∙ ap (λ n. map.get n q) (sym e) ∙ is)

meta_shows : (db : Trees) → IsNewStore db → MetaShows db
meta_shows db made row h =
    let it = made.only row h in
    subst (λ (r : Row). ShowsMeta (shown_at 7 r)) (sym it.1) (record {
      rowid = it.0;
      key = codes "version";
      value = store_version;
      texts = IsUtf8-from_ascii (codes "version") (ascii_by_test (codes "version") refl);
      short = omega (arith);
      shown = refl;
    })

no_store : store_schema ≡ no_schema → ⊥
no_store e = cc (ap (λ (s : Schema). s.tables) e)

no_first : first_schema ≡ no_schema → ⊥
no_first e = cc (ap (λ (s : Schema). s.tables) e)

module _ (world : World) (mailboxes : world.mailboxes ≡ map.empty) (epochs : world.epochs ≡ map.empty) (subscriptions : world.subscriptions ≡ map.empty) where
  set_none : (user : List ℕ) → map.get world.subscriptions user ≡ None
  set_none user = ap (λ s. map.get s user) subscriptions ∙ get-empty (slice_cmp nat_cmp) user

  empty_has : WorldHasValues world
  empty_has = record {
    mailboxes = λ q m is. absurd (none_there world.mailboxes q m mailboxes is);
    epochs = λ q n is. absurd (none_there world.epochs q n epochs is);
    users = λ user q is. absurd (true≢false (sym is ∙ ap (λ o. map.contains_key (set_of o) q) (set_none user) ∙ ap is_some (get-empty name_cmp q)));
    filled = λ user. set_none user ∙ sym if_filled-empty ∙ ap (λ o. if_filled (set_of o)) (sym (set_none user));
  }

  pub new_holds : (db : Trees) → IsNewStore db → IsOrderly db → HoldSplit db world
  new_holds db made orderly = (
    (
      db,
      empty_fits db made.empty.1.1.0 made.added.0 made.added.1.0 made.added.1.1.0,
      record {
        stands = new_stores_stand db world made mailboxes epochs subscriptions;
        values = empty_has;
        sound = empty_is_sound world mailboxes epochs;
        kept = subst AreKept (sym mailboxes) kept_none;
      },
    ),
    orderly,
    meta_shows db made,
  )

  pub new_keeps : (old new : State) → IsAtRest new → (HasCleanDisk new → IsTrue new.is_open → FindsStore old new) → old.now.schema ≡ no_schema → Keeps new world
  new_keeps old new rest finds blank clean live = by (finds clean live)
    where
      by : FindsStore old new → HoldSplit new.now.trees world
      by (inl it) = new_holds new.now.trees it.1 it.2
      by (inr (inl it)) = absurd (no_store (sym (rest.schema clean live) ∙ ap (λ (d : Database). d.schema) it.0 ∙ blank))
      by (inr (inr it)) = absurd (no_first (sym it.0 ∙ blank))
