use Rattle.std.proofs.Common.{◌∙◌, sym}
use Rattle.std.specs.Cmp.Lexicographic.{slice_cmp}
use Rattle.imap_names.specs.Order.{octet_cmp}
use Rattle.imap_names.proofs.PathOrder.{path_cmp-texts}
use Rattle.imap_names.proofs.name_ref.compare_paths.Goals as goal

pub returns : goal.returns
returns c =
    c.compare_texts.ensures ∙ (λ i. slice_cmp octet_cmp (c.as_bytes.ensures.value i) (c.as_bytes-2.ensures.value i))
    ∙ sym (path_cmp-texts c.args.a.now c.args.b.now)
