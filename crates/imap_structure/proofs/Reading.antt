-- Media types that are read octet by octet.
use Rattle.std.proofs.Common.{◌≡◌, ◌∙◌, ap, sym, ℕ, List, ◌∷◌, ◌++◌, append_assoc, length, drop, get_or, drop-cons, add-one, ◌+◌, ◌<◌}
use Rattle.imap_structure.specs.MediaReader.{after_octet, octet_params, params_from, reader_after}
use Rattle.imap_structure.specs.declared.media.Param.{Param}
use Rattle.imap_structure.specs.declared.media_reader.MediaReader.{MediaReader}

octet_at : (octets : List ℕ) (i : ℕ) → i < length octets → drop i octets ≡ get_or octets i 0 ∷ drop (i + 1) octets
octet_at octets i within = rw add-one (drop-cons octets i 0 within)

pub state_more : (octets : List ℕ) (i : ℕ) (old new whole : MediaReader) → i < length octets
    → reader_after old (drop i octets) ≡ whole
    → new ≡ after_octet (get_or octets i 0) old
    → reader_after new (drop (i + 1) octets) ≡ whole
state_more octets i old new whole within so_far state =
    rw state (ap (λ (l : List ℕ). reader_after old l) (sym (octet_at octets i within)) ∙ so_far)

pub params_more : (octets : List ℕ) (i : ℕ) (old new : MediaReader) (before after whole : List Param) → i < length octets
    → before ++ params_from old (drop i octets) ≡ whole
    → new ≡ after_octet (get_or octets i 0) old
    → after ≡ before ++ octet_params (get_or octets i 0) old
    → after ++ params_from new (drop (i + 1) octets) ≡ whole
params_more octets i old new before after whole within so_far state params =
    let b = get_or octets i 0 in
    rw (params, state) (append_assoc before (octet_params b old) (params_from (after_octet b old) (drop (i + 1) octets))
    ∙ ap (λ (l : List ℕ). before ++ params_from old l) (sym (octet_at octets i within)) ∙ so_far)
