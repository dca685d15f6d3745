-- Addresses that are read octet by octet.
use Rattle.std.proofs.Common.{◌≡◌, ◌∙◌, ap, sym, ℕ, List, ◌∷◌, ◌++◌, append_assoc, length, drop, get_or, drop-cons, add-one, ◌+◌, ◌<◌}
use Rattle.imap_mime.specs.Addresses.{addresses_from, after_octet, octet_addresses}
use Rattle.imap_mime.specs.declared.address.Address.{Address}
use Rattle.imap_mime.specs.declared.addresses.AddressReader.{AddressReader}

pub read_more : (octets : List ℕ) (i : ℕ) (old new : AddressReader) (before after whole : List Address) → i < length octets
    → before ++ addresses_from old (drop i octets) ≡ whole
    → new ≡ after_octet (get_or octets i 0) old
    → after ≡ before ++ octet_addresses (get_or octets i 0) old
    → after ++ addresses_from new (drop (i + 1) octets) ≡ whole
read_more octets i old new before after whole within so_far state done =
    let b = get_or octets i 0 in
    let is : drop i octets ≡ b ∷ drop (i + 1) octets = rw add-one (drop-cons octets i 0 within) in
    rw (done, state) (append_assoc before (octet_addresses b old) (addresses_from (after_octet b old) (drop (i + 1) octets))
    ∙ ap (λ (l : List ℕ). before ++ addresses_from old l) (sym is) ∙ so_far)
