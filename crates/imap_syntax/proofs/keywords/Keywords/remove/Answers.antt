use Rattle.std.proofs.Common.{◌≡◌, ◌∙◌, not, sym, subst}
use Rattle.std.specs.Str.{str_eq_ignore_ascii_case}
use Rattle.imap_syntax.specs.Keywords.{without_word, AreKeywords}
use Rattle.imap_syntax.proofs.KeywordOrder.{words_kept}
use Rattle.imap_syntax.proofs.keywords.Keywords.remove.Goals as goal

pub set-requires : goal.set-requires
set-requires c =
    let left : c.in_ok-words.words.items ≡ without_word c.args.word.now c.args.self.now = c.in_ok-words.ensures ∙ (λ i. without_word (c.as_slice-2.ensures.octets i) (c.as_slice.ensures.words i)) in
    subst AreKeywords (sym left) (words_kept (λ w. not (str_eq_ignore_ascii_case w c.args.word.now)) c.args.self.now c.as_slice.ensures.valid)
