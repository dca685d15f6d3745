use Rattle.std.proofs.Common.{◌≡◌, ℕ, List, ◌++◌, append_assoc, codes, ap, ◌∙◌}
use Rattle.imap_print.specs.Printed.{capabilities}
use Rattle.imap_print.proofs.printing.codes.push_greeting.Goals as goal

three_appended : (out a b c x y z : List ℕ) → x ≡ out ++ a → y ≡ x ++ b → z ≡ y ++ c → z ≡ out ++ ((a ++ b) ++ c)
three_appended out a b c x y z e f g = g ∙ ap (λ l. l ++ c) (f ∙ ap (λ l. l ++ b) e ∙ append_assoc out a b) ∙ append_assoc out (a ++ b) c

pub returns : goal.returns
returns c =
    three_appended c.args.out.now.items (codes "* PREAUTH [CAPABILITY ") capabilities (codes "] shared mailbox profile ready") _ _ _
    c.in_ok-extend_from_slice.ensures.items (c.in_ok-extend_from_slice-2.ensures.items ∙ ap (λ l. c.extend_from_slice.new.self.items ++ l) c.as_bytes.ensures.value) c.in_ok-extend_from_slice-3.ensures.items
