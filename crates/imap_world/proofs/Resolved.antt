-- The values that are written for effects, one effect further.
use Rattle.std.proofs.Common.{◌≡◌, inl, inr, ℕ, ◌+◌, ◌<◌, Bool, true, false, cond, not, List, [], ◌∷◌, ◌++◌, append_assoc, append-nil, length, get_or, drop, drop-cons, add-one, suc, Result, Ok, Err, refl, sym, ap, subst, ◌∙◌}
use Rattle.std.specs.Result.{is_ok}
use Rattle.imap_world.specs.declared.change.Write.{Write}
use Rattle.imap_world.specs.declared.effect.Effect.{Effect}
use Rattle.imap_world.specs.declared.error.WorldError.{WorldError}
use Rattle.imap_world.specs.declared.error.WorldError.TheVariants.{Cannot, Limit, Memory, NoSuch, Taken}
use Rattle.imap_world.specs.Changing.{Answers, AnswersOrMemory}
use Rattle.imap_world.specs.Effects.{writes_for, writes_then, writes_of}
use Rattle.imap_world.specs.World.{World}

abbrev Writes : Type 0
Writes = Result (List Write) WorldError

pub writes_then-nothing : (r : Writes) → writes_then (Ok []) r ≡ r
writes_then-nothing (Err error) = refl
writes_then-nothing (Ok rest) = refl

one_further : (done ws : List Write) (r : Writes) → writes_then (Ok (done ++ ws)) r ≡ writes_then (Ok done) (writes_then (Ok ws) r)
one_further done ws (Err error) = refl
one_further done ws (Ok rest) = ap Ok (append_assoc done ws rest)

pub this_effect : (effects : List Effect) (i : ℕ) (e : Effect) → i < length effects → e ≡ get_or effects i e → drop i effects ≡ e ∷ drop (i + 1) effects
this_effect effects i e lt is = rw add-one (drop-cons effects i e lt ∙ ap (λ x. x ∷ drop (suc i) effects) (sym is))

pub found : {A : Type 0} (x : A) (r : Result A WorldError) → AnswersOrMemory (Ok x) r → r ≡ Ok x
found x (Ok wanted) h = ap Ok (sym h)
found x (Err refusal) h = absurd h

-- the same, of a result that is known to be this
pub found_at : {A : Type 0} {x : A} (y : A) (result meant : Result A WorldError) → AnswersOrMemory result meant → result ≡ Ok x → y ≡ x → meant ≡ Ok y
found_at {A} {x} y result meant h was is = found y meant (subst (λ r. AnswersOrMemory r meant) (was ∙ ap Ok (sym is)) h)

module _ (world : World) (effects : List Effect) (i : ℕ) (e : Effect) (cut : drop i effects ≡ e ∷ drop (i + 1) effects) (done : List Write) (so_far : writes_then (Ok done) (writes_of (drop i effects) world) ≡ writes_of effects world) where
  whole : writes_then (Ok done) (writes_then (writes_for e world) (writes_of (drop (i + 1) effects) world)) ≡ writes_of effects world
  whole = sym (ap (λ es. writes_then (Ok done) (writes_of es world)) cut) ∙ so_far

  -- the effect was resolved
  pub with_writes : (ws : List Write) → AnswersOrMemory (Ok ws) (writes_for e world) → writes_then (Ok (done ++ ws)) (writes_of (drop (i + 1) effects) world) ≡ writes_of effects world
  with_writes ws h =
      one_further done ws (writes_of (drop (i + 1) effects) world)
      ∙ ap (λ r. writes_then (Ok done) (writes_then r (writes_of (drop (i + 1) effects) world))) (sym (found ws (writes_for e world) h)) ∙ whole

  refused_by : (error : WorldError) (r rest : Writes) → AnswersOrMemory {A = List Write} (Err error) r → AnswersOrMemory {A = List Write} (Err error) (writes_then (Ok done) (writes_then r rest))
  refused_by error (Err refusal) rest h = h
  refused_by error (Ok ws) (Err refusal) h = inr h
  refused_by error (Ok ws) (Ok more) h = h

  -- or refused
  pub with_refusal : (error : WorldError) → AnswersOrMemory {A = List Write} (Err error) (writes_for e world) → AnswersOrMemory {A = List Write} (Err error) (writes_of effects world)
  with_refusal error h = subst (AnswersOrMemory {A = List Write} (Err error)) whole (refused_by error (writes_for e world) (writes_of (drop (i + 1) effects) world) h)

-- ---- one effect alone

-- it is resolved, and so is the list of it
pub alone_of : (effect : Effect) (result : Writes) (meant : Writes) → Answers result meant → AnswersOrMemory result (writes_then meant (Ok []))
alone_of effect (Ok ws) (Ok wanted) h = h ∙ sym (append-nil wanted)
alone_of effect (Ok ws) (Err refusal) h = absurd h
alone_of effect (Err error) (Ok wanted) h = h
alone_of effect (Err error) (Err refusal) h = inl h

-- memory ran out after that
pub memory_after : {A : Type 0} (x : A) (meant : Result A WorldError) → Answers (Ok x) meant → Answers {A = A} (Err Memory) meant
memory_after x (Ok wanted) h = refl
memory_after x (Err refusal) h = absurd h

-- ---- limits that are found first

-- what is refused by a limit alone
abbrev pub IsLimited : {A : Type 0} → Result A WorldError → Type 0
IsLimited meant = (error : WorldError) → meant ≡ Err error → error ≡ Limit

-- a limit is met
pub limit_found : {A : Type 0} (meant : Result A WorldError) → IsLimited meant → is_ok meant ≡ false → Answers {A = A} (Err Limit) meant
limit_found (Ok wanted) limited not_ok = absurd (cc not_ok)
limit_found (Err refusal) limited not_ok = sym (limited refusal refl)

-- none is, so that only memory can run out
pub no_limit : {A : Type 0} (result meant : Result A WorldError) → is_ok meant ≡ true → AnswersOrMemory result meant → Answers result meant
no_limit (Ok value) (Ok wanted) ok h = h
no_limit (Err error) (Ok wanted) ok h = h
no_limit result (Err refusal) ok h = absurd (cc ok)

pub out_of_memory : {A : Type 0} (meant : Result A WorldError) → AnswersOrMemory (Err Memory) meant
out_of_memory (Ok wanted) = refl
out_of_memory (Err refusal) = inr refl

-- a mailbox that is there may move to a free name
pub renaming_of : (result meant : Writes) {there can used : Bool} → there ≡ true → can ≡ true → used ≡ false
    → Answers result meant → Answers result (cond there (cond (not can) (Err Cannot) (cond used (Err Taken) meant)) (Err NoSuch))
renaming_of result meant {there} {can} {used} is may free h =
    subst (λ b. Answers result (cond b (cond (not can) (Err Cannot) (cond used (Err Taken) meant)) (Err NoSuch))) (sym is)
    (subst (λ b. Answers result (cond (not b) (Err Cannot) (cond used (Err Taken) meant))) (sym may)
    (subst (λ b. Answers result (cond b (Err Taken) meant)) (sym free) h))
