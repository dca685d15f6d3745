-- What a reader of marks holds of a number: the number, or the greatest that it can hold.
use Rattle.std.specs.Prelude.{ℕ, ◌-◌, ◌^◌, min}
use Rattle.imap_lex.specs.declared.mark.LiteralMark.{LiteralMark}
use Rattle.imap_lex.specs.declared.mark.Tail.{Tail}
use Rattle.imap_lex.specs.declared.mark.Tail.TheVariants.{Text, Brace, Digits, Plus, Closed, Cr, Crlf}
use Rattle.imap_lex.specs.Mark.{Announced, LineTail, text, brace, digits, plus}
use Rattle.imap_lex.specs.Mark.{closed, behind_cr, behind_crlf}

abbrev pub held_size : ℕ → ℕ
held_size n = min n (2 ^ 128 - 1)

abbrev pub held_mark : Announced → LiteralMark
held_mark mark = record { size = held_size mark.size; waits = mark.waits }

abbrev pub held_tail : LineTail → Tail
held_tail text = Text
held_tail brace = Brace
held_tail (digits n) = Digits (held_size n)
held_tail (plus n) = Plus (held_size n)
held_tail (closed mark) = Closed (held_mark mark)
held_tail (behind_cr mark) = Cr (held_mark mark)
held_tail (behind_crlf mark) = Crlf (held_mark mark)
