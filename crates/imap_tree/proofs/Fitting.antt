-- Each answer is fit.
use Rattle.std.proofs.Common.{◌≡◌, ℕ, Bool, true, false, cond, List, [], ◌∷◌, Option, Some, None, Result, Ok, Err, refl, ap, ◌∙◌}
use Rattle.std.specs.Prelude.{not, ◌&&◌}
use Rattle.std.specs.FinMap as map
use Rattle.std.specs.List.{list_any}
use Rattle.imap_answer.specs.Answer.{done, done_with, refusal, refused_line}
use Rattle.imap_answer.specs.Fit.{IsFit, is_unavailable}
use Rattle.imap_answer.proofs.Fits.{fits_alone, fits_asking, fits_if_named, missing_right_fits}
use Rattle.imap_names.specs.Name.{Name, is_inbox}
use Rattle.imap_names.specs.Reading.{name_read}
use Rattle.imap_names.specs.declared.error.NameError.{NameError}
use Rattle.imap_names.specs.declared.error.NameError.TheVariants.{Control, EmptyComponent, Memory, Reserved, TooDeep, TooLong}
use Rattle.imap_name_map.specs.Rows.{has_below, has_within}
use Rattle.imap_print.specs.declared.response.Refusal.{Refusal}
use Rattle.imap_print.specs.declared.response.Refusal.TheVariants.{AlreadyExists, Cannot, HasChildren, InUse, Limit, NonExistent, NoPerm}
use Rattle.imap_rights.specs.declared.change.RightsChange.{RightsChange}
use Rattle.imap_rights.specs.Acl.{AclMap}
use Rattle.imap_rights.specs.Change.{replacing, rights_read}
use Rattle.imap_rights.specs.Identifier.{identifier_read}
use Rattle.imap_rights.specs.Rights.{administer, delete_mailbox, has_any, lookup, no_rights}
use Rattle.imap_view.specs.RenameAfter.{can_all_arrive}
use Rattle.imap_view.specs.Seen.{Seen, owner_of}
use Rattle.imap_view.specs.TreeAfter.{may_set_rights, missing_in, validities_left}
use Rattle.imap_view.specs.View.{View, acl_in, may_create, rights_in}
use Rattle.imap_world.specs.declared.effect.Effect.TheVariants.{Create, Delete, Rename, SetRights}
use Rattle.imap_world.specs.Moving.{can_move}
use Rattle.imap_answer.specs.Access.{missing_right_refusal}
use Rattle.imap_tree.specs.Create.{create_answer, create_of, without_delimiter}
use Rattle.imap_tree.specs.Delete.{delete_answer, delete_of_name}
use Rattle.imap_tree.specs.GetAcl.{get_acl_answer, get_acl_by, get_acl_of_name}
use Rattle.imap_tree.specs.ListRights.{list_rights_answer, list_rights_by, list_rights_of_name}
use Rattle.imap_tree.specs.MyRights.{my_rights_answer, my_rights_of_name, my_rights_of_seen}
use Rattle.imap_tree.specs.NewName.{new_name_read, or_refusal}
use Rattle.imap_tree.specs.Rename.{rename_answer, rename_of_name, rename_to}
use Rattle.imap_tree.specs.Selected.{is_selected}
use Rattle.imap_tree.specs.SetAcl.{delete_acl_answer, grantee_read, set_acl_answer, set_acl_by, set_rights_answer, set_rights_by, set_rights_of_name}

module _ (view : View) (tag : List ℕ) where
  -- ---- MYRIGHTS

  my_rights_seen : (name : Name) (seen : Option Seen) → IsFit view (my_rights_of_seen view.user tag name seen)
  my_rights_seen name None = fits_alone view _ _ refl
  my_rights_seen name (Some seen) = fits_alone view _ _ refl

  pub my_rights_fits : (mailbox : List ℕ) → IsFit view (my_rights_answer view tag mailbox)
  my_rights_fits mailbox =
      fits_if_named view tag mailbox (my_rights_of_name view tag) (λ name. my_rights_seen name (map.get view.seen name))

  -- ---- GETACL

  get_acl_listed : (name : Name) (acl : Option AclMap) → IsFit view (get_acl_by view tag name acl)
  get_acl_listed name None = missing_right_fits view tag (rights_in view name)
  get_acl_listed name (Some acl) = fits_alone view _ _ refl

  pub get_acl_fits : (mailbox : List ℕ) → IsFit view (get_acl_answer view tag mailbox)
  get_acl_fits mailbox =
      fits_if_named view tag mailbox (get_acl_of_name view tag) (λ name. get_acl_listed name (acl_in view name))

  -- ---- LISTRIGHTS

  list_rights_read : (name : Name) (identifier : Option (List ℕ)) → IsFit view (list_rights_by view tag name identifier)
  list_rights_read name None = fits_alone view _ _ refl
  list_rights_read name (Some identifier) = fits_alone view _ _ refl

  list_rights_held : (name : Name) (identifier : List ℕ) (held : Bool)
      → IsFit view (cond held (list_rights_by view tag name (identifier_read identifier)) (refusal tag (missing_right_refusal (rights_in view name))))
  list_rights_held name identifier true = list_rights_read name (identifier_read identifier)
  list_rights_held name identifier false = missing_right_fits view tag (rights_in view name)

  pub list_rights_fits : (mailbox identifier : List ℕ) → IsFit view (list_rights_answer view tag mailbox identifier)
  list_rights_fits mailbox identifier =
      fits_if_named view tag mailbox (list_rights_of_name view tag identifier)
      (λ name. list_rights_held name identifier (has_any (rights_in view name) administer))

  -- ---- SETACL and DELETEACL

  set_rights_may : (name : Name) (change : RightsChange) (identifier : List ℕ) (may : Bool) → may_set_rights view name identifier change ≡ may → (keeps : Bool)
      → IsFit view (cond (not may) (refusal tag Limit) (cond keeps (done tag) (done_with tag (SetRights name identifier change))))
  set_rights_may name change identifier true e true = fits_alone view _ _ refl
  set_rights_may name change identifier true e false = fits_asking view tag (SetRights name identifier change) e
  set_rights_may name change identifier false e keeps = fits_alone view _ _ refl

  set_rights_read : (name : Name) (change : RightsChange) (identifier : Option (List ℕ)) → IsFit view (set_rights_by view tag name change identifier)
  set_rights_read name change None = fits_alone view _ _ refl
  set_rights_read name change (Some identifier) = set_rights_may name change identifier _ refl _

  set_rights_held : (name : Name) (change : RightsChange) (identifier : Option (List ℕ)) (held : Bool)
      → IsFit view (cond held (set_rights_by view tag name change identifier) (refusal tag (missing_right_refusal (rights_in view name))))
  set_rights_held name change identifier true = set_rights_read name change identifier
  set_rights_held name change identifier false = missing_right_fits view tag (rights_in view name)

  set_rights_fits : (mailbox : List ℕ) (identifier : Option (List ℕ)) (change : RightsChange) → IsFit view (set_rights_answer view tag mailbox identifier change)
  set_rights_fits mailbox identifier change =
      fits_if_named view tag mailbox (set_rights_of_name view tag identifier change)
      (λ name. set_rights_held name change identifier (has_any (rights_in view name) administer))

  set_acl_change : (mailbox identifier : List ℕ) (change : Option RightsChange) → IsFit view (set_acl_by view tag mailbox identifier change)
  set_acl_change mailbox identifier None = fits_alone view _ _ refl
  set_acl_change mailbox identifier (Some change) = set_rights_fits mailbox (grantee_read identifier) change

  pub set_acl_fits : (mailbox identifier rights : List ℕ) → IsFit view (set_acl_answer view tag mailbox identifier rights)
  set_acl_fits mailbox identifier rights = set_acl_change mailbox identifier (rights_read rights)

  pub delete_acl_fits : (mailbox identifier : List ℕ) → IsFit view (delete_acl_answer view tag mailbox identifier)
  delete_acl_fits mailbox identifier = set_rights_fits mailbox (identifier_read identifier) (replacing no_rights)

  -- ---- DELETE

  delete_by : (name : Name) (held : Bool) → has_any (rights_in view name) delete_mailbox ≡ held → (inbox : Bool) → is_inbox name ≡ inbox → (selected below : Bool) → has_below name view.taken ≡ below
      → IsFit view (cond (not held) (refusal tag (missing_right_refusal (rights_in view name))) (cond inbox (refusal tag Cannot) (cond selected (refusal tag InUse)
      (cond below (refusal tag HasChildren) (done_with tag (Delete name))))))
  delete_by name false e inbox i selected below d = missing_right_fits view tag (rights_in view name)
  delete_by name true e true i selected below d = fits_alone view _ _ refl
  delete_by name true e false i true below d = fits_alone view _ _ refl
  delete_by name true e false i false true d = fits_alone view _ _ refl
  delete_by name true e false i false false d = fits_asking view tag (Delete name) (λ k. e k && (not (i k) && not (d k)))

  pub delete_fits : (selected : Option Name) (mailbox : List ℕ) → IsFit view (delete_answer view selected tag mailbox)
  delete_fits selected mailbox =
      fits_if_named view tag mailbox (delete_of_name view selected tag) (λ name. delete_by name _ refl _ refl (is_selected selected name) _ refl)

  -- ---- CREATE

  create_by : (name : Name) (may : Bool) → may_create view name ≡ may → (taken : Bool) → map.contains_key view.taken name ≡ taken
      → (left : Bool) → validities_left view (missing_in view name) ≡ left
      → IsFit view (cond (not may) (refusal tag NoPerm) (cond taken (refusal tag AlreadyExists) (cond left (done_with tag (Create (owner_of view.site name) name)) (refusal tag Limit))))
  create_by name false e taken d left f = fits_alone view _ _ refl
  create_by name true e true d left f = fits_alone view _ _ refl
  create_by name true e false d false f = fits_alone view _ _ refl
  create_by name true e false d true f =
      fits_asking view tag (Create (owner_of view.site name) name)
      (refl, ap (λ b. b && (not (map.contains_key view.taken name) && validities_left view (missing_in view name))) e ∙ ap (λ b. not b && validities_left view (missing_in view name)) d ∙ f)

  abbrev IsRefusalFit : Result Name Refusal → Type 0
  IsRefusalFit (Ok name) = Unit {0}
  IsRefusalFit (Err reason) = list_any is_unavailable (refused_line tag reason ∷ []) ≡ false

  name_fit : (read : Result Name NameError) → IsRefusalFit (or_refusal read)
  name_fit (Ok name) = tt
  name_fit (Err EmptyComponent) = refl
  name_fit (Err TooLong) = refl
  name_fit (Err TooDeep) = refl
  name_fit (Err Reserved) = refl
  name_fit (Err Control) = refl
  name_fit (Err Memory) = refl

  create_read : (name : Result Name Refusal) → IsRefusalFit name → IsFit view (create_of view tag name)
  create_read (Err reason) fit = fits_alone view _ _ fit
  create_read (Ok name) fit = create_by name _ refl _ refl _ refl

  pub create_fits : (mailbox : List ℕ) → IsFit view (create_answer view tag mailbox)
  create_fits mailbox = create_read (new_name_read view.user (without_delimiter mailbox)) (name_fit (name_read view.user (without_delimiter mailbox)))

  -- ---- RENAME

  rename_by : (old new : Name) (held : Bool) → has_any (rights_in view old) delete_mailbox ≡ held → (can : Bool) → can_move old new ≡ can → (selected may : Bool) → may_create view new ≡ may
      → (used : Bool) → has_within new view.taken ≡ used → (all : Bool) → can_all_arrive view old new ≡ all
      → IsFit view (cond (not held) (refusal tag (missing_right_refusal (rights_in view old))) (cond (not can) (refusal tag Cannot) (cond selected (refusal tag InUse) (cond (not may) (refusal tag NoPerm)
      (cond used (refusal tag AlreadyExists) (cond all (done_with tag (Rename (owner_of view.site new) old new)) (refusal tag Limit)))))))
  rename_by old new false h can c selected may m used u all a = missing_right_fits view tag (rights_in view old)
  rename_by old new true h false c selected may m used u all a = fits_alone view _ _ refl
  rename_by old new true h true c true may m used u all a = fits_alone view _ _ refl
  rename_by old new true h true c false false m used u all a = fits_alone view _ _ refl
  rename_by old new true h true c false true m true u all a = fits_alone view _ _ refl
  rename_by old new true h true c false true m false u false a = fits_alone view _ _ refl
  rename_by old new true h true c false true m false u true a =
      fits_asking view tag (Rename (owner_of view.site new) old new)
      (refl, λ k. h k && (c k && (m k && (not (u k) && a k))))

  rename_read : (selected : Option Name) (old : Name) (new : Result Name Refusal) → IsRefusalFit new → IsFit view (rename_to view selected tag old new)
  rename_read selected old (Err reason) fit = fits_alone view _ _ fit
  rename_read selected old (Ok new) fit = rename_by old new _ refl _ refl (is_selected selected old) _ refl _ refl _ refl

  pub rename_fits : (selected : Option Name) (old new : List ℕ) → IsFit view (rename_answer view selected tag old new)
  rename_fits selected old new =
      fits_if_named view tag old (rename_of_name view selected tag new)
      (λ old. rename_read selected old (new_name_read view.user new) (name_fit (name_read view.user new)))
