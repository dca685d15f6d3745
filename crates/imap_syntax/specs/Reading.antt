-- What reading code returns, beside what a rule reads.
use Rattle.std.specs.Prelude.{◌≡◌, ℕ, List, Option, Some, None, Result, Ok, Err}
use Rattle.imap_syntax.specs.declared.error.ReadError.{ReadError}
use Rattle.imap_syntax.specs.declared.error.ReadError.TheVariants.{Memory, Syntax}

-- Memory may have run out; a syntax error comes exactly if nothing was to be read.
abbrev pub Fails : {Y : Type 0} → ReadError → Option Y → Type 0
Fails Memory read = Unit {0}
Fails Syntax read = read ≡ None

-- The code returned a result and left the rest of its input. Unless memory ran out, this is what was to be
-- read. `view` gives the value that the code's value stands for.
abbrev pub ReadsIfMemory : {X Y : Type 0} → (X → Y) → Result X ReadError → List ℕ → Option (Y × List ℕ)
    → Type 0
ReadsIfMemory view (Ok x) rest read = read ≡ Some (view x, rest)
ReadsIfMemory view (Err error) rest read = Fails error read

-- The same of code that takes no memory.
abbrev pub Refuses : {Y : Type 0} → ReadError → Option Y → Type 0
Refuses Memory read = ⊥
Refuses Syntax read = read ≡ None

abbrev pub Reads : {X Y : Type 0} → (X → Y) → Result X ReadError → List ℕ → Option (Y × List ℕ) → Type 0
Reads view (Ok x) rest read = read ≡ Some (view x, rest)
Reads view (Err error) rest read = Refuses error read
