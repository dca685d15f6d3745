use Rattle.std.proofs.Common.{◌∙◌, sym, ap, refl}
use Rattle.imap_lex.specs.Mark.{text}
use Rattle.imap_lex.proofs.Tails.{tail_mark, tail_mark-none, line_mark-held}
use Rattle.imap_lex.proofs.mark.line_mark.Goals as goal

pub returns-in-Crlf : goal.returns-in-Crlf
returns-in-Crlf c = ap tail_mark (sym c.in-Crlf.is) ∙ line_mark-held c.args.front.now c.args.back.now _ (c.with_octets-2.ensures _ (c.with_octets.ensures text refl))

pub returns-in_default : goal.returns-in_default
returns-in_default c = tail_mark-none _ c.in_default.not-Crlf ∙ line_mark-held c.args.front.now c.args.back.now _ (c.with_octets-2.ensures _ (c.with_octets.ensures text refl))
