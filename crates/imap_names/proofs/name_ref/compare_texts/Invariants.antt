use Rattle.std.proofs.Common.{◌≡◌, drop}
use Rattle.std.specs.Cmp.Lexicographic.{slice_cmp}
use Rattle.imap_names.specs.Order.{octet_cmp}
use Rattle.imap_names.proofs.name_ref.compare_texts.Given as goal

abbrev pub invariant-loop-octet : goal.invariant-loop-octet
invariant-loop-octet l = slice_cmp octet_cmp (drop l.octet-index l.a) l.rest ≡ slice_cmp octet_cmp l.fn.a l.fn.b
