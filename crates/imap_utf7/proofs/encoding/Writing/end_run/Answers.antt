use Rattle.std.proofs.Common.{◌≡◌, ◌∙◌, ap, sym, ◌++◌, [], append-nil, arith, length}
use Rattle.std.proofs.lemmas.Bool.{eqb-true, eqb-false, ne_eqb}
use Rattle.std.proofs.lemmas.List.{nil_from_length}
use Rattle.std.specs.Prelude.{string_bytes}
use Rattle.imap_utf7.specs.Shifts.{base64}
use Rattle.imap_utf7.specs.Spelling.{shifted}
use Rattle.imap_utf7.proofs.Pushes.{run_written}
use Rattle.imap_utf7.proofs.encoding.Writing.end_run.Goals as goal

empty : (c : goal.Then-is_empty) → c.args.self.now.run.items ≡ []
empty c =
    let none = eqb-true _ 0 (sym c.is_empty.ensures ∙ c.if-is_empty.true) in
    nil_from_length _ (omega (arith, none, c.args.self.now.run.ok.0))

pub returns-then-is_empty-clause-run : goal.returns-then-is_empty-clause-run
returns-then-is_empty-clause-run c = empty c

pub returns-then-is_empty-clause-out : goal.returns-then-is_empty-clause-out
returns-then-is_empty-clause-out c =
    let out = string_bytes c.args.self.now.out in
    sym (append-nil out) ∙ ap (λ l. out ++ shifted l) (sym (empty c))

pub returns-clause-out : goal.returns-clause-out
returns-clause-out c =
    let full = eqb-false _ 0 (sym c.is_empty.ensures ∙ c.if-is_empty.false) in
    let some = ne_eqb (length c.args.self.now.run.items) 0 (λ e. full (omega (arith, e, c.args.self.now.run.ok.0))) in
    run_written c.args.self.now.run.items (string_bytes c.args.self.now.out) _ _ _ some c.in_ok-push_str.ensures.bytes (c.in_ok-push_base64.ensures ∙ ap (λ l. string_bytes c.push_str.new.self ++ base64 l) c.as_slice.ensures.value) c.in_ok-push_str-2.ensures.bytes
