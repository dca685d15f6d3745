-- What a step that was performed is as an entry.
use Rattle.std.proofs.Common.{◌≡◌, ◌∙◌, ◌⊎◌, ◌↔◌, ◌+◌, inl, inr, refl, sym, ap, subst, ℕ, List, [], ◌∷◌, ◌++◌, Ok, Err, Result, IfErr, IfOk, IsErrOf, OnErr, OnOk, length, length-append, arith}
use Rattle.imap_saving.specs.Step.{Step}
use Rattle.imap_saving.specs.Machine.{State, next}
use Rattle.imap_saving.proofs.Starting.{admission_apart}
use Rattle.imap_saving.specs.Opening.{admission}
use Rattle.imap_world.specs.declared.change.Write.{Write}
use Rattle.imap_keeper.specs.Keeping.{LeavesOr}
use Rattle.imap_world.specs.Effects.{writes_of}
use Rattle.imap_world.specs.Ready.{IsCurrent}
use Rattle.imap_world.specs.World.{World}
use Rattle.imap_print.specs.declared.response.Response.{Response}
use Rattle.imap_hall.specs.declared.error.HallError.{HallError}
use Rattle.imap_hall.specs.declared.error.HallError.TheVariants.{Exhausted}
use Rattle.imap_hall.specs.declared.journal.Receipt.{Receipt}
use Rattle.imap_hall.specs.Counts.{Counts}
use Rattle.imap_hall.specs.Hall.{HallState, HasRefused, HasStepped, IsStepped, IsUntouched, entry_of}
use Rattle.imap_hall.specs.Journal.{JournalEntry, max_entries, point}
use Rattle.imap_hall.specs.Receipts.{IsNewest}
use Rattle.imap_hall.specs.Saving.{IsSaved}
use Rattle.imap_saving.specs.declared.replies.Replies.{Replies}
use Rattle.imap_saving.specs.Performing.{IsUnwritten, Performs}

module _ (old new : State) (before after : Counts) (failed fails : ℕ) (step : Step) (replies : Replies) (done : Performs old failed step replies new fails) where
  pub stepped : (r : Receipt) → r.replies ≡ replies.receipt → IsStepped (point old before) failed (entry_of step r) (point new after) fails
  stepped r is = by done
    where
      by : Performs old failed step replies new fails → IsStepped (point old before) failed (entry_of step r) (point new after) fails
      by (inl h) = inl (record { replies = is ∙ h.0.receipt; state = h.1 })
      by (inr h) = inr (record { replies = is ∙ h.0.receipt; state = h.1 }, h.2)

  pub entry_is : replies.entry ≡ replies.receipt
  entry_is = by done
    where
      by : Performs old failed step replies new fails → replies.entry ≡ replies.receipt
      by (inl h) = h.0.entry ∙ sym h.0.receipt
      by (inr h) = h.0.entry ∙ sym h.0.receipt

  pub second_is : replies.second ≡ replies.receipt
  second_is = by done
    where
      by : Performs old failed step replies new fails → replies.second ≡ replies.receipt
      by (inl h) = h.0.second ∙ sym h.0.receipt
      by (inr h) = h.0.second ∙ sym h.0.receipt

-- the newest entry has the step's copy, and the number and replies of the receipt
pub entry_added : {old mid new : List JournalEntry} {copy : Step} {own : ℕ} {replies : List Response} (step : Step) (r : Receipt) → new ≡ mid ++ record { step = copy; own = own; replies = replies } ∷ []
    → mid ≡ old → copy ≡ step → r.own ≡ own → replies ≡ r.replies → new ≡ old ++ entry_of step r ∷ []
entry_added step r is same copied own replies = is ∙ λ i. same i ++ record { step = copied i; own = sym own i; replies = replies i } ∷ []

pub on_err : {A E P : Type 0} (result : Result A E) → P → OnErr result P
on_err (Ok value) p = tt
on_err (Err error) p = p

module _ {K Image : Type 0} (Content : K → World → Type 0) (IsHonest : K → Type 0) (Leaves : K → Image → Type 0) (Stands : Image → World → Type 0) (old mid : State) (step : Step) (before : K) (same : mid ≡ old) where
  -- the keeper was not asked
  pub saved_unasked : Content before old.world → IsSaved Content IsHonest Leaves Stands old before step mid before
  saved_unasked stored = record {
    stored = subst (λ (s : State). Content before s.world) (sym same) stored;
    unwritten = λ _. refl;
    honest = λ honest. honest;
    crash = λ _ image left. inl left;
  }

  pub saved_by : (new : State) (after : K) (change : List Write) → Content after new.world → (IsUnwritten old step → change ≡ []) → (change ≡ [] → after ≡ before) → (IsHonest after → IsHonest before)
      → (IsHonest after → LeavesOr (Leaves before) (Leaves after) (λ image. Stands image (next mid step).world)) → IsSaved Content IsHonest Leaves Stands old before step new after
  saved_by new after change stored empty unwritten honest crash = record {
    stored = stored;
    unwritten = λ is. unwritten (empty is);
    honest = honest;
    crash = λ still image left. subst (λ (s : State). Leaves before image ⊎ Stands image (next s step).world) same (crash still image left);
  }

pub alone_as : {A B : Type 0} (rs ss ts : List Response) → rs ≡ ss → A ⊎ ((ss ≡ ts) × B) → A ⊎ ((rs ≡ ts) × B)
alone_as rs ss ts is (inl h) = inl h
alone_as rs ss ts is (inr h) = inr (is ∙ h.0, h.1)

pub started : (world : World) (administrator : List ℕ) (users : List (List ℕ)) (change : List Write) → writes_of (admission world administrator users).effects world ≡ Ok change → IsCurrent change world
started world administrator users change found = ((admission world administrator users).effects, admission_apart world administrator users, found)

pub newest : {K : Type 0} (failed : K → ℕ) (old : HallState K) (step : Step) (r : Receipt) (new : HallState K) → HasStepped failed old step r new → IsNewest step r new.entries
newest failed old step r new h = record { before = old.entries; parts = h.entries }

one_more : {K : Type 0} (failed : K → ℕ) (old : HallState K) (step : Step) (r : Receipt) (new : HallState K) → HasStepped failed old step r new
    → new.before + length new.entries ≡ old.before + length old.entries + 1
one_more failed old step r new h = let entries = ap length h.entries ∙ length-append old.entries (entry_of step r ∷ []) in let before = h.before in
    omega (arith, entries, before)

none_more : {K : Type 0} (failed : K → ℕ) (old new : HallState K) → IsUntouched failed old new
    → new.before + length new.entries ≡ old.before + length old.entries
none_more failed old new h = let entries = ap length h.entries in let before = h.before in omega (arith, entries, before)

pub counted : {K E : Type 0} (failed : K → ℕ) (old new : HallState K) (step : Step) (result : Result Receipt E) → IfOk result (λ r. HasStepped failed old step r new)
    → OnOk result (new.before + length new.entries ≡ old.before + length old.entries + 1)
counted failed old new step (Ok r) h = one_more failed old step r new h
counted failed old new step (Err error) h = tt

pub uncounted : {K A E : Type 0} (failed : K → ℕ) (old new : HallState K) (result : Result A E) → OnErr result (IsUntouched failed old new)
    → OnErr result (new.before + length new.entries ≡ old.before + length old.entries)
uncounted failed old new (Ok value) h = tt
uncounted failed old new (Err error) h = none_more failed old new h

pub refused : {K A : Type 0} (failed : K → ℕ) (old new : HallState K) (result : Result A HallError) → OnErr result (IsUntouched failed old new)
    → (IsErrOf result Exhausted ↔ (old.before + length old.entries ≡ max_entries)) → IfErr result (λ e. HasRefused failed old e new)
refused failed old new (Ok value) untouched ended = tt
refused failed old new (Err error) untouched ended = record { untouched = untouched; ended = λ is. ended.0 (ap (λ e. Err e) is) }
