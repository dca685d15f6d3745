-- The next message that the session knows.
use Rattle.std.proofs.Common.{◌≡◌, ◌∙◌, ℕ, ◌+◌, ◌<◌, ◌≤◌, Bool, true, false, cond, List, [], ◌∷◌, ◌++◌, append_assoc, add-one, drop, drop-cons, get_or, length, length-append, Option, Some, None, sym, ap, ap₂, subst, arith}
use Rattle.imap_answer.proofs.Printable.{done_printable}
use Rattle.imap_lex.specs.CommandTag.{IsTag}
use Rattle.imap_print.specs.declared.response.Response.TheVariants as response
use Rattle.imap_print.specs.declared.search.SearchResults.{SearchResults}
use Rattle.imap_print.specs.Lines.{IsPrintable}
use Rattle.imap_mailbox.specs.Rows.{Row}
use Rattle.imap_targets.specs.MessageNumbers.{last_uid, row_with}
use Rattle.imap_search.specs.declared.results.FoundMessage.{FoundMessage}
use Rattle.imap_search.specs.Search.{SearchArguments, found_from, found_if_there, found_in, found_of, candidate_of}
use Rattle.imap_search.specs.Tokens.{finds_all}

pub looked : (arguments : SearchArguments) (last last_uid : ℕ) (rows : List Row) (known : List ℕ) (place : ℕ) (k : ℕ) (old new : List FoundMessage) (number : ℕ) (row : Option Row)
    → place < length known → k ≡ get_or known place k → number ≡ place + 1 → row ≡ row_with k rows → new ≡ old ++ found_if_there arguments last last_uid number row
    → new ++ found_from arguments last last_uid rows (place + 1 + 1) (drop (place + 1) known) ≡ old ++ found_from arguments last last_uid rows (place + 1) (drop place known)
looked arguments last last_uid rows known place k old new number row within at num there is =
    let here = found_if_there arguments last last_uid (place + 1) (row_with k rows) in
    let later = found_from arguments last last_uid rows (place + 1 + 1) (drop (place + 1) known) in
    let grown : new ≡ old ++ here =
    is ∙ ap (λ (n : ℕ). old ++ found_if_there arguments last last_uid n row) num
    ∙ ap (λ (r : Option Row). old ++ found_if_there arguments last last_uid (place + 1) r) there in
    let next : drop place known ≡ k ∷ drop (place + 1) known =
    drop-cons known place k within ∙ ap₂ ◌∷◌ (sym at) (ap (λ (i : ℕ). drop i known) (sym (add-one place))) in
    ap (λ (l : List FoundMessage). l ++ later) grown
    ∙ append_assoc old here later
    ∙ ap (λ (l : List ℕ). old ++ found_from arguments last last_uid rows (place + 1) l) (sym next)

-- no more are found than are known
few_if_there : (arguments : SearchArguments) (last last_uid n : ℕ) (row : Option Row) → length (found_if_there arguments last last_uid n row) ≤ 1
few_if_there arguments last last_uid n None = omega arith
few_if_there arguments last last_uid n (Some row) = by (finds_all (candidate_of last last_uid n row) arguments.keys)
  where
    by : (b : Bool) → length (cond b (found_of arguments.numbering n row ∷ []) []) ≤ 1
    by true = omega arith
    by false = omega arith

few_from : (arguments : SearchArguments) (last last_uid : ℕ) (rows : List Row) (n : ℕ) (known : List ℕ) → length (found_from arguments last last_uid rows n known) ≤ length known
few_from arguments last last_uid rows n [] = omega arith
few_from arguments last last_uid rows n (k ∷ known) =
    let one = few_if_there arguments last last_uid n (row_with k rows) in
    let rest = few_from arguments last last_uid rows (n + 1) known in
    let both = length-append (found_if_there arguments last last_uid n (row_with k rows)) (found_from arguments last last_uid rows (n + 1) known) in
    omega (arith, one, rest, both)

pub few_found : (arguments : SearchArguments) (next_uid : ℕ) (rows : List Row) (known : List ℕ) → length (found_in arguments next_uid rows known) ≤ length known
few_found arguments next_uid rows known = few_from arguments (length known) (last_uid next_uid known) rows 1 known

-- a tag has neither CR nor LF
pub search_printable : (here tag : List ℕ) (uid : Bool) (results : SearchResults) → here ≡ tag → IsTag here → IsPrintable (response.Search tag uid results)
search_printable here tag uid results same valid =
    let done = done_printable tag None (subst IsTag same valid) in
    record { plain = done.plain; held = done.held }
