-- The parameters_writing of SELECT and EXAMINE are written as they are spelt.
use Rattle.std.proofs.Common.{◌≡◌, ℕ, Bool, true, false, not, ◌&&◌, List, [], ◌∷◌, ◌++◌, codes, Option, Some, None, refl, sym, arith}
use Rattle.std.specs.Fmt.{decimal as decimal_text}
use Rattle.std.specs.List.{list_any}
use Rattle.std.proofs.lemmas.List.{append-nil}
use Rattle.imap_syntax.specs.declared.set.SeqRange.{SeqRange}
use Rattle.imap_commands.specs.declared.commands.select.QresyncArg.{QresyncArg}
use Rattle.imap_commands.specs.declared.commands.select.SelectParameters.{SelectParameters}
use Rattle.imap_commands.specs.declared.commands.select.ParameterWord.{ParameterWord}
use Rattle.imap_commands.specs.declared.commands.select.ParameterWord.TheVariants as word
use Rattle.imap_commands.specs.declared.commands.select.Parameter.{Parameter}
use Rattle.imap_commands.specs.declared.commands.select.Parameter.TheVariants.{Condstore, Qresync}
use Rattle.imap_syntax.specs.Rule as rule
use Rattle.imap_syntax.specs.Rule.{give, ◌>>=◌}
use Rattle.imap_commands.specs.commands.Select as select_rules
use Rattle.imap_commands.specs.commands.Select.{has_last}
use Rattle.imap_syntax.specs.Writing.{number}
use Rattle.imap_syntax.specs.Written.{seq_set, mod_sequence}
use Rattle.imap_commands.specs.commands.Select.{known_fits, known_text, qresync_writing, qresync_fits, parameters_by, parameters_writing}
use Rattle.imap_syntax.proofs.Writing.{Writes, both_true, both}
use Rattle.imap_syntax.proofs.Written.{nz_number_writes, mod_sequence_writes, seq_set_writes}

-- ---- what the client knows

known_set_made : (uids : List SeqRange) → (seq_set.fits uids && not (list_any has_last uids)) ≡ true → select_rules.known_set.spells uids (seq_set.text uids)
known_set_made uids h =
    let q = both_true (seq_set.fits uids) (not (list_any has_last uids)) h in
    (uids, seq_set.text uids, [], seq_set_writes.made uids q.0, (q.1, refl, refl), sym (append-nil (seq_set.text uids)))

known_set_fits : (uids : List SeqRange) (text : List ℕ) → select_rules.known_set.spells uids text → (seq_set.fits uids && not (list_any has_last uids)) ≡ true
known_set_fits uids text h = rw (h.4.1) (both _ _ (seq_set_writes.fits h.0 h.1 h.3) h.4.0)

known_made : (known : Option (List SeqRange)) → known_fits known ≡ true → select_rules.known_uids.spells known (known_text known)
known_made None h = (false, [], [], refl, (refl, refl), refl)
known_made (Some uids) h =
    let text = seq_set.text uids in
    let alone : select_rules.match_data.spells tt [] = (false, [], [], refl, (refl, refl), refl) in
    let behind : (select_rules.known_or_match false).spells (Some uids) text = (uids, text, [], known_set_made uids h, (tt, [], [], alone, (refl, refl), refl), sym (append-nil text)) in
    (true, 32 ∷ [], text, refl, (false, [], text, refl, behind, refl), refl)

match_fits : (parenthesis : Bool) (known : Option (List SeqRange)) (text : List ℕ) → (select_rules.known_or_match parenthesis).spells known text → known_fits known ≡ true
match_fits true known text h = rw (h.4.0) refl
match_fits false known text h = rw (h.4.4.0) (known_set_fits h.0 h.1 h.3)

known_behind_fits : (more : Bool) (known : Option (List SeqRange)) (text : List ℕ) → (select_rules.known_after more).spells known text → known_fits known ≡ true
known_behind_fits false known text h = rw (h.0) refl
known_behind_fits true known text h = match_fits h.0 known h.2 h.4

-- in parentheses, behind a space
qresync_made : (q : QresyncArg) → qresync_writing.fits q ≡ true → select_rules.qresync.spells q (qresync_writing.text q)
qresync_made q h =
    let p = both_true ((number 1 4294967295).fits q.validity) (mod_sequence.fits q.mod_seq && known_fits q.known_uids) h in
    let r = both_true (mod_sequence.fits q.mod_seq) (known_fits q.known_uids) p.1 in
    let validity = decimal_text q.validity in
    let since = decimal_text q.mod_seq in
    let known = known_text q.known_uids in
    let close : (rule.octet 41 >>= λ u. give q).spells q (41 ∷ []) = (tt, 41 ∷ [], [], refl, (refl, refl), refl) in (
      tt,
      32 ∷ [],
      40 ∷ (validity ++ (32 ∷ (since ++ (known ++ 41 ∷ [])))),
      refl,
      (
        tt,
        40 ∷ [],
        validity ++ (32 ∷ (since ++ (known ++ 41 ∷ []))),
        refl,
        (
          q.validity,
          validity,
          32 ∷ (since ++ (known ++ 41 ∷ [])),
          (nz_number_writes 4294967295 (omega arith)).made q.validity p.0,
          (
            tt,
            32 ∷ [],
            since ++ (known ++ 41 ∷ []),
            refl,
            (q.mod_seq, since, known ++ 41 ∷ [], mod_sequence_writes.made q.mod_seq r.0, (q.known_uids, known, 41 ∷ [], known_made q.known_uids r.1, close, refl), refl),
            refl,
          ),
          refl,
        ),
        refl,
      ),
      refl,
    )

qresync_fits_all : (q : QresyncArg) (text : List ℕ) → select_rules.qresync.spells q text → qresync_writing.fits q ≡ true
qresync_fits_all q text h =
    let validity = h.4.4 in
    let since = validity.4.4 in
    let known = since.4 in
    rw (known.4.4.0) (both _ _ ((nz_number_writes 4294967295 (omega arith)).fits validity.0 validity.1 validity.3) (both _ _ (mod_sequence_writes.fits since.0 since.1 since.3) (known_behind_fits known.3.0 known.0 known.3.2 known.3.4)))

-- ---- parameters_writing

condstore_made : select_rules.parameter.spells Condstore (codes "CONDSTORE")
condstore_made = (word.Condstore, codes "CONDSTORE", [], refl, (refl, refl), refl)

known_state_made : (q : QresyncArg) → qresync_writing.fits q ≡ true → select_rules.parameter.spells (Qresync q) (codes "QRESYNC" ++ qresync_writing.text q)
known_state_made q h =
    let text = qresync_writing.text q in
    (word.Qresync, codes "QRESYNC", text, refl, (q, text, [], qresync_made q h, (refl, refl), sym (append-nil text)), refl)

alone_made : (p : Parameter) → (select_rules.another_parameter p).spells (select_rules.one_parameter p) []
alone_made p = (false, [], [], refl, (refl, refl), refl)

with_known : (q : QresyncArg) → qresync_writing.fits q ≡ true → (select_rules.another_parameter Condstore).spells (record { condstore = true; qresync = Some q }) (codes " QRESYNC" ++ qresync_writing.text q)
with_known q h =
    let text = codes "QRESYNC" ++ qresync_writing.text q in
    (true, 32 ∷ [], text, refl, (Qresync q, text, [], known_state_made q h, (refl, refl), sym (append-nil text)), refl)

-- in parentheses, behind a space
given_made : (first : Parameter) (given : SelectParameters) (text more : List ℕ) → select_rules.parameter.spells first text → (select_rules.another_parameter first).spells given more → select_rules.parameters.spells given (32 ∷ 40 ∷ (text ++ (more ++ 41 ∷ [])))
given_made first given text more h k =
    let close : (rule.octet 41 >>= λ u. give given).spells given (41 ∷ []) = (tt, 41 ∷ [], [], refl, (refl, refl), refl) in
    (true, 32 ∷ [], 40 ∷ (text ++ (more ++ 41 ∷ [])), refl, (tt, 40 ∷ [], text ++ (more ++ 41 ∷ []), refl, (first, text, more ++ 41 ∷ [], h, (given, more, 41 ∷ [], k, close, refl), refl), refl), refl)

by_parts : (condstore : Bool) (known : Option QresyncArg) → qresync_fits known ≡ true → select_rules.parameters.spells (record { condstore = condstore; qresync = known }) (parameters_by condstore known)
by_parts false None h = (false, [], [], refl, (refl, refl), refl)
by_parts true None h = given_made Condstore _ (codes "CONDSTORE") [] condstore_made (alone_made Condstore)
by_parts false (Some q) h = given_made (Qresync q) _ (codes "QRESYNC" ++ qresync_writing.text q) [] (known_state_made q h) (alone_made (Qresync q))
by_parts true (Some q) h = given_made Condstore _ (codes "CONDSTORE") (codes " QRESYNC" ++ qresync_writing.text q) condstore_made (with_known q h)

parameters_made : (given : SelectParameters) → parameters_writing.fits given ≡ true → select_rules.parameters.spells given (parameters_writing.text given)
parameters_made given h = by_parts given.condstore given.qresync h

abbrev IsWithin : Parameter → Type 0
IsWithin Condstore = Unit {0}
IsWithin (Qresync q) = qresync_writing.fits q ≡ true

word_within : (w : ParameterWord) (p : Parameter) (text : List ℕ) → (select_rules.parameter_after w).spells p text → IsWithin p
word_within word.Condstore p text h = rw (h.0) tt
word_within word.Qresync p text h = rw (h.4.0) (qresync_fits_all h.0 h.1 h.3)

is_within : (p : Parameter) (text : List ℕ) → select_rules.parameter.spells p text → IsWithin p
is_within p text h = word_within h.0 p h.2 h.4

one_within : (p : Parameter) → IsWithin p → parameters_writing.fits (select_rules.one_parameter p) ≡ true
one_within Condstore h = refl
one_within (Qresync q) h = h

both_within : (a b : Parameter) (given : SelectParameters) (text : List ℕ) → IsWithin a → IsWithin b → (rule.judged (select_rules.both_parameters a b)).spells given text → parameters_writing.fits given ≡ true
both_within Condstore Condstore given text h k s = absurd s
both_within Condstore (Qresync q) given text h k s = rw (s.0) k
both_within (Qresync q) Condstore given text h k s = rw (s.0) h
both_within (Qresync q) (Qresync r) given text h k s = absurd s

another_fits : (first : Parameter) (more : Bool) (given : SelectParameters) (text : List ℕ) → IsWithin first → (select_rules.another_after first more).spells given text → parameters_writing.fits given ≡ true
another_fits first false given text k h = rw (h.0) (one_within first k)
another_fits first true given text k h = both_within first h.0 given h.2 k (is_within h.0 h.1 h.3) h.4

behind_fits : (more : Bool) (given : SelectParameters) (text : List ℕ) → (select_rules.parameters_after more).spells given text → parameters_writing.fits given ≡ true
behind_fits false given text h = rw (h.0) refl
behind_fits true given text h =
    let first = h.4 in
    let read = first.4 in
    rw (read.4.4.0) (another_fits first.0 read.3.0 read.0 read.3.2 (is_within first.0 first.1 first.3) read.3.4)

pub parameters_writes : Writes select_rules.parameters parameters_writing
parameters_writes = record { made = parameters_made; fits = λ given text h. behind_fits h.0 given h.2 h.4 }
