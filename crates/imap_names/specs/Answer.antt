-- The results of calls that may run out of memory.
use Rattle.std.specs.Prelude.{◌≡◌, ◌≢◌, Option, Some, None, Result, Ok, Err}
use Rattle.imap_names.specs.declared.error.NameError.{NameError}
use Rattle.imap_names.specs.declared.error.NameError.TheVariants.{Memory}

-- the result, seen by f, is what is meant; only want of memory may take its place
abbrev pub AnswersAsIfMemory : {A B : Type 0} → (A → B) → Result A NameError → Result B NameError → Type 0
AnswersAsIfMemory f (Ok x) meant = meant ≡ Ok (f x)
AnswersAsIfMemory f (Err error) meant = error ≢ Memory → meant ≡ Err error

abbrev pub AnswersIfMemory : {A : Type 0} → Result A NameError → Result A NameError → Type 0
AnswersIfMemory {A} result meant = AnswersAsIfMemory {A = A} (λ x. x) result meant

-- a fault is returned as it is, and no want of memory in its place
abbrev pub FailsBy : {A : Type 0} → Option NameError → Result A NameError → Type 0
FailsBy (Some fault) result = result ≡ Err fault
FailsBy None result = Unit {0}
