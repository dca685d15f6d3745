use Rattle.std.proofs.Common.{ℕ, List, ◌≤◌, IsAscii, length, take, subst}
use Rattle.std.proofs.lemmas.Str.{IsCharBoundary-from_take, IsUtf8-from_ascii}
use Rattle.imap_text.proofs.runs.first_run.Goals as goal

pub split_at-requires : goal.split_at-requires
split_at-requires c =
    let n = c.ascii_length.result in
    let within = subst (λ (t : List ℕ). n ≤ length t) c.as_bytes.ensures.value c.ascii_length.ensures.within in
    let ascii = subst (λ (t : List ℕ). IsAscii (take n t)) c.as_bytes.ensures.value c.ascii_length.ensures.ascii in
    IsCharBoundary-from_take c.args.text.now n c.utf8.text within (IsUtf8-from_ascii (take n c.args.text.now) ascii)
