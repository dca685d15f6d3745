-- What a watched reader and writer do.
use Rattle.std.specs.Prelude.{◌+◌, ◌-◌, ◌^◌, ◌≡◌, ◌≢◌, ◌⊎◌, ◌<◌, ◌≤◌, ℕ, List, [], min, take, length}
use Rattle.std.specs.Prelude.{Option, Some, None, Result, Ok, Err}
use Rattle.std.specs.Io.KnownBytes.{Appends, Consumes, IsAtEnd, Keeps}
use Rattle.std.specs.IoError.{error_kind}
use Rattle.std.specs.declared.io.Error.{Error}
use Rattle.std.specs.declared.io.ErrorKind.{ErrorKind}
use Rattle.std.specs.declared.io.ErrorKind.TheVariants as kinds
use Rattle.imap_serve.specs.declared.watched.Answer.{Answer}
use Rattle.imap_serve.specs.declared.watched.Answer.TheVariants as answer
use Rattle.imap_serve.specs.declared.watched.Log.{Log}
use Rattle.imap_serve.specs.declared.watched.Taken.{Taken}
use Rattle.imap_serve.specs.declared.watched.Taken.TheVariants.{Octets, End, Occasion}

-- ---- what a reader or a writer answers

-- how often a read or a write is tried that is interrupted
abbrev pub max_tries : ℕ
max_tries = 1001

abbrev pub interruptions_after : Answer → ℕ → ℕ
interruptions_after (answer.Octets count) before = 0
interruptions_after answer.Nothing before = 0
interruptions_after answer.Interrupted before = min (before + 1) (2 ^ 64 - 1)
interruptions_after answer.Fault before = 0

-- the answer is noted as the last one
abbrev pub noted : Log → Answer → Log
noted log answered =
    record { last = Some answered; interruptions = interruptions_after answered log.interruptions }

-- nothing was answered yet
abbrev pub unasked : Log
unasked = record { last = None; interruptions = 0 }

-- what an error of this kind says
abbrev pub IsAnswerOf : ErrorKind → Answer → Type 0
IsAnswerOf kind (answer.Octets count) = ⊥
IsAnswerOf kind answer.Nothing = (kind ≡ kinds.WouldBlock) ⊎ (kind ≡ kinds.TimedOut)
IsAnswerOf kind answer.Interrupted = kind ≡ kinds.Interrupted
IsAnswerOf kind answer.Fault =
    (kind ≢ kinds.WouldBlock) × (kind ≢ kinds.TimedOut) × (kind ≢ kinds.Interrupted)

-- what the result of a read says
abbrev pub IsAnswer : Result ℕ Error → Answer → Type 0
IsAnswer (Ok count) answered = answered ≡ answer.Octets count
IsAnswer (Err e) answered = IsAnswerOf (error_kind e) answered

-- the octets at the front of the buffer were read, none only at the end; at an error none
abbrev pub Brings : Answer → Option (List ℕ) → Option (List ℕ) → List ℕ → Type 0
Brings (answer.Octets count) before after buf =
    Consumes before after (take count buf) × (count ≤ length buf) × (count ≡ 0 → IsAtEnd after)
Brings answer.Nothing before after buf = Keeps before after
Brings answer.Interrupted before after buf = Keeps before after
Brings answer.Fault before after buf = Keeps before after

-- ---- what a read brought

-- the octets at the front of the buffer were read; at the end and at an occasion none
abbrev pub Takes : Taken → Option (List ℕ) → Option (List ℕ) → List ℕ → Type 0
Takes (Octets count) before after buf =
    Consumes before after (take count buf) × (0 < count) × (count ≤ length buf)
Takes End before after buf = Consumes before after [] × IsAtEnd after
Takes Occasion before after buf = Consumes before after []

-- it is what the last read was answered
abbrev pub IsTaken : Taken → (last : Option Answer) → Type 0
IsTaken (Octets count) last = last ≡ Some (answer.Octets count)
IsTaken End last = last ≡ Some (answer.Octets 0)
IsTaken Occasion last = last ≡ Some answer.Nothing

-- the last answer was a fault, or as many as are tried were interrupted in a row
abbrev pub HasFailed : Log → Type 0
HasFailed log =
    (log.last ≡ Some answer.Fault)
    ⊎ ((log.last ≡ Some answer.Interrupted) × (max_tries ≤ log.interruptions))

-- ---- what a write brought

-- some octets at the front were written; at an error none
abbrev pub Accepts : Answer → Option (List ℕ) → Option (List ℕ) → List ℕ → Type 0
Accepts (answer.Octets count) before after bytes =
    Appends before after (take count bytes) × (count ≤ length bytes)
Accepts answer.Nothing before after bytes = Keeps before after
Accepts answer.Interrupted before after bytes = Keeps before after
Accepts answer.Fault before after bytes = Keeps before after

-- the writer failed as a reader does, or the last write took nothing
abbrev pub HasNotWritten : Log → Type 0
HasNotWritten log =
    HasFailed log ⊎ (log.last ≡ Some answer.Nothing) ⊎ (log.last ≡ Some (answer.Octets 0))

-- a beginning of the bytes was written
abbrev pub AppendsPart : Option (List ℕ) → Option (List ℕ) → List ℕ → Type 0
AppendsPart old new bytes = (n : ℕ) × Appends old new (take n bytes)

-- an occasion counts as one more in a row, as far as there are numbers
abbrev pub IsQuiet : Taken → ℕ → ℕ → Type 0
IsQuiet (Octets count) before after = after ≡ 0
IsQuiet End before after = after ≡ before
IsQuiet Occasion before after = after ≡ min (before + 1) (2 ^ 64 - 1)
